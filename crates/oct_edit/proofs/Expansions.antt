-- Why a leaf is expanded: some voxel of it takes something from its event.
use Rattle.std.proofs.Common.{◌≡◌, ◌≤◌, Bool, true, false, sym, Some, None, refl}
use Rattle.std.specs.Bool.{OnFalse}
use Rattle.oct_key.specs.Voxel.{Voxel, IsInMap}
use Rattle.oct_key.specs.Block.{Cube, HoldsVoxel}
use Rattle.oct_odds.specs.Odds.{Odds}
use Rattle.oct_odds.specs.Update.{Value}
use Rattle.oct_tree.specs.declared.place.Place.{Place}
use Rattle.oct_arena.specs.Nodes.{link_of, value_of}
use Rattle.oct_tree.specs.Tree.{Tree, IsLinked, IsPlace, node_in, block_in, value_at}
use Rattle.oct_edit.specs.Listed.{ListedUpdate}
use Rattle.oct_edit.specs.Saturated.{TakesFrom}
use Rattle.oct_edit.specs.Scan.{events_of}
use Rattle.oct_edit.specs.Parts.{IsUpdateIn}
use Rattle.oct_edit.proofs.Joins.{TakesIn}
use Rattle.oct_edit.proofs.UpdateEnds.{covered}
use Rattle.oct_edit.proofs.Shares.{event_has}
use Rattle.oct_edit.proofs.Takes.{takes_alike, takes_event}

pub on_false : {X : Type 0} (test : Bool) → (test ≡ false → X) → OnFalse test X
on_false true h = tt
on_false false h = h refl

-- some voxel of the map takes something, where all have this value
abbrev pub TakesSome : Odds → ListedUpdate → Value → Type 0
TakesSome o u value = (k : Voxel) × IsInMap k × TakesFrom o (events_of u) (λ _. value) k

-- a place that links nothing has such a voxel in its block
pub taken_in : (t : Tree) (p : Place) (b : Cube) (u : ListedUpdate) → IsLinked t → IsPlace t p
    → block_in t p ≡ Some b → b.depth ≤ 16 → link_of (node_in t p) ≡ None → IsUpdateIn b u
    → TakesSome t.odds u (value_of (node_in t p)) → TakesIn t (events_of u) b
taken_in t p b u l ok e m plain inside (k, v, takes) =
    let some = takes_event t.odds (events_of u) (λ _. value_of (node_in t p)) k takes in
    let held : HoldsVoxel b k = event_has (λ q. IsInMap q → HoldsVoxel b q) u k inside.hits.held
    inside.frees.held some v in (
      k,
      held,
      takes_alike t.odds t.odds (events_of u) (events_of u) (λ _. value_of (node_in t p))
          (value_at t) k refl refl (sym (covered t p b l ok e m plain k v held)) takes,
    )
