-- The voxels that a segment meets, and their order on the way.
use Rattle.std.specs.Prelude.{◌≢◌, ℕ, ◌*◌, ◌<◌, ◌≤◌, List, ℤ, pos, ◌+ℤ◌, ◌-ℤ◌, ◌*ℤ◌, ◌≤ℤ◌, ◌<ℤ◌}
use Rattle.std.specs.Prelude.{All, AllPairs, Contains}
use Rattle.oct_key.specs.Voxel.{Voxel, lower_face}
use Rattle.oct_key.specs.declared.point.Point.{Point}

-- p/q of the way from o to e on an axis lies on the lower face of the voxels of a number or above
-- it, and below their upper face
pub record IsBetweenFaces (edge : ℕ) (o e : ℤ) (key p q : ℕ) : Type 0 where
  pub lower : (lower_face edge key *ℤ pos q) ≤ℤ ((o *ℤ pos q) +ℤ (pos p *ℤ (e -ℤ o)))
  pub upper : ((o *ℤ pos q) +ℤ (pos p *ℤ (e -ℤ o))) <ℤ ((lower_face edge key +ℤ pos edge) *ℤ pos q)

-- the point p/q of the way from o to e is one of their segment and lies in the voxel k
pub record IsPlaceOf (edge : ℕ) (o e : Point) (k : Voxel) (p q : ℕ) : Type 0 where
  pub positive : 0 < q
  pub within : p ≤ q
  pub x : IsBetweenFaces edge o.x e.x k.x p q
  pub y : IsBetweenFaces edge o.y e.y k.y p q
  pub z : IsBetweenFaces edge o.z e.z k.z p q

-- some place of the segment from o to e lies in the voxel k
pub record Meets (edge : ℕ) (o e : Point) (k : Voxel) : Type 0 where
  pub p : ℕ
  pub q : ℕ
  pub place : IsPlaceOf edge o e k p q

-- some place of the voxel k comes before some place of the voxel l, on the way from o to e
pub record Precedes (edge : ℕ) (o e : Point) (k l : Voxel) : Type 0 where
  pub p : ℕ
  pub q : ℕ
  pub p' : ℕ
  pub q' : ℕ
  pub place : IsPlaceOf edge o e k p q
  pub place' : IsPlaceOf edge o e l p' q'
  pub less : p * q' < p' * q

-- the voxels that the segment from o to e meets, all of them and no others, each once, each before
-- all later ones
pub record IsWalkAlong (edge : ℕ) (o e : Point) (ks : List Voxel) : Type 0 where
  pub met : All (Meets edge o e) ks
  pub listed : (k : Voxel) → Meets edge o e k → Contains ks k
  pub once : AllPairs (λ k l. k ≢ l) ks
  pub in_order : AllPairs (Precedes edge o e) ks
