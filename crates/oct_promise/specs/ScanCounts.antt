-- The voxels that a scan hits and frees, as lists.
use Rattle.std.specs.Prelude.{◌≢◌, ◌↔◌, List, AllPairs, Contains}
use Rattle.oct_key.specs.Boxes.{IsInWindow}
use Rattle.oct_key.specs.Voxel.{Voxel, IsInMap}
use Rattle.oct_scan.specs.Beam.{Sighting}
use Rattle.oct_scan.specs.Scanned.{IsHit, IsFreed}
use Rattle.oct_session.specs.History.{State}

-- these are the voxels of the map of which something holds, each once
pub record AreThose (Holds : Voxel → Type 0) (ks : List Voxel) : Type 0 where
  pub once : AllPairs (λ k l. k ≢ l) ks
  pub listed : (k : Voxel) → Contains ks k ↔ (IsInMap k × Holds k)

-- these are the voxels that a scan hits in a state, in the box where one stands
abbrev pub AreHit : State → Sighting → List Voxel → Type 0
AreHit s scan ks = AreThose (λ k. IsInWindow s.base.update_box k × IsHit s.base.res scan k) ks

-- and these are those that it frees
abbrev pub AreFreed : State → Sighting → List Voxel → Type 0
AreFreed s scan ks = AreThose (λ k. IsInWindow s.base.update_box k × IsFreed s.base.res scan k) ks
