-- Filling a block with values, child by child, in exactly this many groups.
use Rattle.std.proofs.Common.{◌≡◌, ℕ, ◌+◌, ◌<◌, ◌≤◌, Some, None, inl, inr, refl, sym, subst, ◌∙◌}
use Rattle.std.proofs.Common.{ap, arith}
use Rattle.std.specs.Prelude.{ℤ, Bool, true, false, IsTrue, ◌↔◌, is_some}
use Rattle.std.specs.Bool.{OnTrue, OnFalse}
use Rattle.std.proofs.lemmas.Bool.{false≢true}
use Rattle.oct_key.specs.Voxel.{Voxel, IsInMap}
use Rattle.oct_key.specs.Values.{Values, SameValues}
use Rattle.oct_key.specs.Block.{Cube, HoldsVoxel, child_of, child_index_of}
use Rattle.oct_key.proofs.Blocks.{child_index_below}
use Rattle.oct_key.proofs.Held.{held_by_child, held_in_map}
use Rattle.oct_odds.specs.Update.{Value}
use Rattle.oct_arena.specs.declared.node.GroupId.{GroupId}
use Rattle.oct_arena.specs.declared.node.Node.{Node}
use Rattle.oct_arena.specs.declared.node.Node.TheVariants.{Absent, Leaf}
use Rattle.oct_arena.specs.Entries.{spare}
use Rattle.oct_arena.specs.Nodes.{link_of, value_of}
use Rattle.oct_tree.specs.declared.place.Place.{Place}
use Rattle.oct_tree.specs.declared.place.Place.TheVariants.{Slot}
use Rattle.oct_tree.specs.Nodes.{IsAll, IsCollapsible}
use Rattle.oct_tree.specs.Tree.{Tree, IsLinked, IsPlace, node_in, block_in, value_at}
use Rattle.oct_tree.specs.Changes.{IsSplit, IsWritten, IsSameOutside, SetsBlock, CanCollapse}
use Rattle.oct_tree.specs.Changes.{IsCollapsed, IsRenewed}
use Rattle.oct_tree.proofs.Paths.{slot_block, slot_place, some_injective, linked_inner}
use Rattle.oct_tree.proofs.Links.{place_value, place_in_map}
use Rattle.oct_tree.proofs.Within.{place_by_block}
use Rattle.oct_tree.proofs.Fillings as fillings
use Rattle.oct_snap.specs.Texts.{common_value}
use Rattle.oct_snap.specs.Filled.{IsFilled, IsFilling}
use Rattle.oct_snap.proofs.Commons.{common_of_all}

-- the place's group has come to be
pub filling_first : (t u : Tree) (p : Place) (id : GroupId) (v : ℤ) (b : Cube) (values : Values)
    → IsLinked u
    → IsSplit t u p id v → node_in t p ≡ Absent → block_in t p ≡ Some b
    → IsFilling t u p id b 0 values 1
filling_first t u p id v b values m s none at = record {
  part = fillings.filling_first t u p id v b values m s none at;
  room = (let spare_is = s.spare in omega (arith, spare_is));
}

-- one child more is filled
pub filling_next : (t u w : Tree) (p : Place) (id : GroupId) (b : Cube) (n m more : ℕ)
    (values f : Values)
    → b.depth ≤ 15 → n < 8 → IsLinked t → IsFilling t u p id b n values m → IsLinked w
    → IsFilled u w (child_of b n) f more
    → ((k : Voxel) → IsInMap k → HoldsVoxel (child_of b n) k → f k ≡ values k)
    → IsFilling t w p id b (n + 1) values (m + more)
filling_next t u w p id b n m more values f low ln lt s lw d same = record {
  part = fillings.filling_next t u w p id b n values f low ln lt s.part lw d.whole same;
  room = (let before = s.room in let after = d.room in omega (arith, before, after));
}

-- eight nodes that are one give all voxels of the block one value
one_value : (u : Tree) (p : Place) (id : GroupId) (b : Cube) (n : Node) → b.depth ≤ 15 → IsLinked u
    → IsPlace u p
    → block_in u p ≡ Some b → link_of (node_in u p) ≡ Some id.number → link_of n ≡ None
    → IsAll u.groups id.number n
    → common_value (value_at u) b ≡ Some (value_of n)
one_value u p id b n low l place at link leaf all =
    let ok = place_in_map u l p b place at in
    common_of_all (value_at u) b (value_of n) ok (λ k held.
    (let j = child_index_of b.depth k in
    let lj = child_index_below b.depth k in
    let slot = slot_place u l p place id j link lj in
    place_value u (Slot id j) (child_of b j) l slot (slot_block u l p id j b link at)
    (ap link_of (all j lj) ∙ leaf) k
    (held_in_map b k ok held) (held_by_child b k (omega arith) held) ∙ ap value_of (all j lj)))

-- a block of several values isn't collapsed
not_one : (u : Tree) (p : Place) (id : GroupId) (b : Cube) → b.depth ≤ 15 → IsLinked u → IsPlace u p
    → block_in u p ≡ Some b → link_of (node_in u p) ≡ Some id.number
    → None ≡ common_value (value_at u) b
    → CanCollapse u p → ⊥
not_one u p id b low l place at link several (x, there, can) =
    by (subst (IsCollapsible u.groups) (some_injective (sym there ∙ link)) can)
  where
    by : IsCollapsible u.groups id.number → ⊥
    by (inl all) =
        false≢true (ap is_some (several ∙ one_value u p id b Absent low l place at link refl all))
    by (inr (v, all)) =
        false≢true (ap is_some (several ∙ one_value u p id b (Leaf v) low l place at link refl all))

-- all are, and the place is settled
pub filling_all : (t u w : Tree) (p : Place) (id : GroupId) (b : Cube) (m : ℕ) (values : Values)
    (done : Bool)
    → b.depth ≤ 15 → IsLinked t → IsPlace t p → IsFilling t u p id b 8 values m
    → None ≡ common_value (value_at u) b → IsLinked w
    → SameValues (value_at u) (value_at w)
    → ((c : Cube) → block_in u p ≡ Some c → IsSameOutside u w c)
    → (IsTrue done ↔ CanCollapse u p) → OnTrue done (IsCollapsed u w p)
    → OnFalse done (IsRenewed u w p)
    → IsFilled t w b values m
filling_all t u w p id b m values done low lt ok s several lw same outside when to_leaf to_inner =
    record {
      whole = (fillings.filling_all t u w p id b values done low lt ok s.part lw same outside when
          to_leaf to_inner).0;
      room = (let before = s.room in let after = kept done when to_inner in
          omega (arith, before, after));
    }
  where
    kept : (o : Bool) → (IsTrue o ↔ CanCollapse u p) → OnFalse o (IsRenewed u w p)
        → spare w.groups ≡ spare u.groups
    kept true can inner =
        absurd (not_one u p id b low s.part.linked (place_by_block t u p b ok s.part.block)
        s.part.block s.part.link
        several (can.0 refl))
    kept false can inner =
        (let (a, v, is, number) = linked_inner (node_in u p) id.number s.part.link in
        let (y, best, written) = inner a v is in written.spare)

-- a block that becomes a leaf
pub put_filled : (t u : Tree) (p : Place) (n : Node) (b : Cube) (v : Value) → IsLinked t
    → IsLinked u → IsPlace t p → block_in t p ≡ Some b
    → link_of n ≡ None → SetsBlock (value_at t) (value_at u) b v → IsSameOutside t u b
    → IsWritten t u p n
    → IsFilled t u b (λ k. v) 0
put_filled t u p n b v l lu ok at none sets outside written = record {
  whole = fillings.put_filled t u p n b v l lu ok at none sets outside written;
  room = (let same = written.spare in omega (arith, same));
}

pub left_absent : (t : Tree) (p : Place) (b : Cube) → IsLinked t → IsPlace t p
    → block_in t p ≡ Some b
    → node_in t p ≡ Absent → IsFilled t t b (λ k. None) 0
left_absent t p b l place at none = record {
  whole = fillings.left_absent t p b l place at none;
  room = omega arith;
}
