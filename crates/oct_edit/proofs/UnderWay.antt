-- How far the update of a block has come: the working words of its rounds.
use Rattle.std.specs.Prelude.{◌≡◌, ℕ, ◌+◌, ◌<◌, ◌≤◌, Bool, true, IsSome, List, Some, None}
use Rattle.std.specs.List.{All}
use Rattle.oct_key.specs.Voxel.{Voxel, IsInMap}
use Rattle.oct_key.specs.Block.{Cube, HoldsVoxel, child_of, child_index_of, LiesIn}
use Rattle.oct_values.specs.Events.{Events, is_listed, after_event}
use Rattle.oct_arena.specs.Entries.{spare}
use Rattle.oct_tree.specs.declared.place.Place.{Place}
use Rattle.oct_arena.specs.Nodes.{value_of}
use Rattle.oct_tree.specs.Tree.{Tree, IsLinked, IsPlace, node_in, block_in, reach, value_at}
use Rattle.oct_edit.specs.Listed.{ListedUpdate}
use Rattle.oct_edit.specs.Saturated.{TakesFrom}
use Rattle.oct_edit.specs.Edits.{ExpandsTakers, BecomesLazily}
use Rattle.oct_edit.specs.Steps.{Reaches, IsSameApart, IsClosedAt}
use Rattle.oct_edit.specs.Scan.{events_of}
use Rattle.oct_edit.specs.Parts.{AreIn, need_in}
use Rattle.oct_values.proofs.Axes.{sum_below}

-- events are those that lie within one child of a block
pub record IsShare (b : Cube) (i : ℕ) (events share : Events) : Type 0 where
  pub same : (k : Voxel) → IsInMap k → HoldsVoxel (child_of b i) k → share k ≡ events k
  pub only : (k : Voxel) → IsInMap k → IsSome (share k) → HoldsVoxel (child_of b i) k

-- what is left of voxels of a block without those in the children below one
pub record AreLeft (b : Cube) (i : ℕ) (keys rest : List Voxel) : Type 0 where
  pub inside : AreIn b rest
  pub from : All (λ k. i ≤ child_index_of b.depth k) rest
  pub listed : (k : Voxel) → i ≤ child_index_of b.depth k → is_listed rest k ≡ is_listed keys k

-- of the block under a place, the events within the children below one were done
pub record IsTouchedBelow (s w : Tree) (p : Place) (b : Cube) (i : ℕ) (events : Events)
    (lazy : Bool) : Type 0 where
  pub linked : IsLinked w
  pub place : IsPlace w p
  pub block : block_in w p ≡ Some b
  pub node : node_in w p ≡ node_in s p
  pub inside : (k : Voxel) → IsInMap k → HoldsVoxel b k → child_index_of b.depth k < i
      → value_at w k ≡ after_event s.odds (events k) (value_at s k)
  pub paths : (k : Voxel) → IsInMap k → (HoldsVoxel b k × (child_index_of b.depth k < i) → ⊥)
      → (depth : ℕ) → depth ≤ 16 → reach w depth k ≡ reach s depth k
  pub apart : IsSameApart s w b events
  pub closed : (c : Cube) (j : ℕ) → j < i → c.depth ≤ 16 → LiesIn c (child_of b j)
      → Reaches events b c → IsClosedAt lazy w c
  pub expanded : ExpandsTakers s w events
  pub nodes : lazy ≡ true → BecomesLazily s w
  pub opened : lazy ≡ true → (depth : ℕ) (k : Voxel) → b.depth < depth → depth < 16 → IsInMap k
      → HoldsVoxel b k → child_index_of b.depth k < i → TakesFrom s.odds events (value_at s) k
      → value_of (reach w depth k) ≡ None

-- the update of a block is under way: it was done within the children below the next
-- one, and so much of it is left
pub record IsUnderWay (s w : Tree) (p : Place) (b : Cube) (update rest : ListedUpdate)
    (lazy : Bool) : Type 0 where
  pub next : ℕ
  pub few : next ≤ 8
  pub hits : AreLeft b next update.hits rest.hits
  pub frees : AreLeft b next update.frees rest.frees
  pub hit : rest.hit ≡ update.hit
  pub miss : rest.miss ≡ update.miss
  pub done : IsTouchedBelow s w p b next (events_of update) lazy
  pub room : spare s.groups
      ≤ spare w.groups + sum_below (λ i. need_in (events_of update) (child_of b i)) next
