-- Filling a block child by child.
use Rattle.std.proofs.Common.{◌≡◌, ℕ, ◌+◌, ◌<◌, ◌≤◌, Some, None, inl, inr, sym, subst, ◌∙◌}
use Rattle.std.proofs.Common.{ap, arith}
use Rattle.std.specs.Prelude.{ℤ, Bool, IsTrue, ◌↔◌}
use Rattle.std.specs.Bool.{OnTrue, OnFalse}
use Rattle.std.proofs.lemmas.Bool.{cases_lt}
use Rattle.oct_key.specs.Voxel.{Voxel, IsInMap}
use Rattle.oct_key.specs.Values.{Values, SameValues}
use Rattle.oct_key.specs.Block.{Cube, HoldsVoxel, child_of, child_index_of}
use Rattle.oct_key.proofs.Blocks.{child_index_below, child_holds, depth_child_of}
use Rattle.oct_key.proofs.Held.{held_by_child}
use Rattle.oct_key.proofs.Nested.{lies_in_self, apart, parent_apart}
use Rattle.oct_odds.specs.Update.{Value}
use Rattle.oct_arena.specs.declared.node.GroupId.{GroupId}
use Rattle.oct_arena.specs.declared.node.Node.{Node}
use Rattle.oct_arena.specs.declared.node.Node.TheVariants.{Absent}
use Rattle.oct_arena.specs.Nodes.{link_of, value_of}
use Rattle.oct_tree.specs.declared.place.Place.{Place}
use Rattle.oct_tree.specs.declared.place.Place.TheVariants.{Slot}
use Rattle.oct_tree.specs.Tree.{Tree, IsLinked, IsPlace, node_in, block_in, value_at}
use Rattle.oct_tree.specs.Changes.{IsSplit, IsWritten, IsSameOutside, SetsBlock, CanCollapse}
use Rattle.oct_tree.specs.Changes.{IsCollapsed, IsRenewed}
use Rattle.oct_tree.specs.Passes.{AllWithin}
use Rattle.oct_tree.specs.Filled.{IsTidyAt, IsFilledWith, IsFillingWith}
use Rattle.oct_tree.proofs.Frames.{path_outside, same_outside_refl, block_outside}
use Rattle.oct_tree.proofs.Frames.{same_outside_parent, same_outside_trans, split_same_outside}
use Rattle.oct_tree.proofs.Paths.{slot_block, slot_place, some_injective}
use Rattle.oct_tree.proofs.Entries.{block_kept}
use Rattle.oct_tree.proofs.Links.{place_value}
use Rattle.oct_tree.proofs.Within.{done_kept, place_by_block}
use Rattle.oct_tree.proofs.Tidy.{IsSettled, tidy_local, tidy_leaf, settled}

-- a voxel outside the block keeps its value
pub value_outside : (t u : Tree) (b : Cube) → IsLinked t → IsSameOutside t u b → (k : Voxel)
    → IsInMap k
    → (HoldsVoxel b k → ⊥) → value_at u k ≡ value_at t k
unfolding value_at
value_outside t u b l s k ok out = ap value_of (path_outside t u b l s k ok out 16 (omega arith))

-- the place's group has come to be
pub filling_first : (t u : Tree) (p : Place) (id : GroupId) (v : ℤ) (b : Cube) (values : Values)
    → IsLinked u
    → IsSplit t u p id v → node_in t p ≡ Absent → block_in t p ≡ Some b
    → IsFillingWith t u p id b 0 values
filling_first t u p id v b values m s none at = record {
  linked = m;
  link = ap link_of s.link;
  block = sym (m.links p id.number (ap link_of s.link)) ∙ s.home ∙ at;
  done = λ j k less inmap held. absurd (omega arith);
  tidy = λ j less. absurd (omega arith);
  empty = λ j _ lj. s.copies j lj ∙ none;
  outside = split_same_outside t u p id v b s at;
}

-- one child more is filled
pub filling_next : (t u w : Tree) (p : Place) (id : GroupId) (b : Cube) (n : ℕ) (values f : Values)
    → b.depth ≤ 15 → n < 8 → IsLinked t → IsFillingWith t u p id b n values → IsLinked w
    → IsFilledWith u w (child_of b n) f
    → ((k : Voxel) → IsInMap k → HoldsVoxel (child_of b n) k → f k ≡ values k)
    → IsFillingWith t w p id b (n + 1) values
filling_next t u w p id b n values f low ln lt s lw d same = record {
  linked = lw;
  link = ap link_of (d.outside.nodes p b (parent_apart b n low ln) s.block) ∙ s.link;
  block = block_outside u w (child_of b n) s.linked d.outside p b (parent_apart b n low ln) s.block;
  done = λ j k less inmap held. elim (cases_lt j n) [
    | inl before ↦ value_outside u w (child_of b n) s.linked d.outside k inmap
        (λ there. apart_voxel j k before held there)
        ∙ s.done j k before inmap held
    | inr here ↦ (let e : j ≡ n = omega arith in
        let there : HoldsVoxel (child_of b n) k = subst (λ j. HoldsVoxel (child_of b j) k) e held in
        d.inside k inmap there ∙ same k inmap there)
  ];
  tidy = λ j less. elim (cases_lt j n) [
    | inl before ↦ done_kept IsTidyAt tidy_local u w b n j low ln (omega arith)
        (λ e. absurd (omega arith)) s.linked lw d.outside (s.tidy j before)
    | inr here ↦ (let e : n ≡ j = omega arith in
        subst (λ j. AllWithin IsTidyAt w (child_of b j)) e d.tidy)
  ];
  empty = λ j past lj. d.outside.nodes (Slot id j) (child_of b j)
      (apart b (child_of b j) j n low lj ln (λ e. absurd (omega arith))
      (lies_in_self (child_of b j)))
      (slot_block u s.linked p id j b s.link s.block) ∙ s.empty j (omega arith) lj;
  outside = same_outside_trans t u w b lt s.outside (same_outside_parent u w b n low d.outside);
}
  where
    apart_voxel : (j : ℕ) (k : Voxel) → j < n → HoldsVoxel (child_of b j) k
        → HoldsVoxel (child_of b n) k → ⊥
    apart_voxel j k before held there =
        (let x = ((child_holds b j k (omega arith) (omega arith)).0 held).1 in
        let y = ((child_holds b n k (omega arith) ln).0 there).1 in
        omega (arith, x, y, before))

-- all are, and the place is settled
pub filling_all : (t u w : Tree) (p : Place) (id : GroupId) (b : Cube) (values : Values)
    (done : Bool)
    → b.depth ≤ 15 → IsLinked t → IsPlace t p → IsFillingWith t u p id b 8 values → IsLinked w
    → SameValues (value_at u) (value_at w)
    → ((c : Cube) → block_in u p ≡ Some c → IsSameOutside u w c)
    → (IsTrue done ↔ CanCollapse u p) → OnTrue done (IsCollapsed u w p)
    → OnFalse done (IsRenewed u w p)
    → IsFilledWith t w b values × IsSettled u w p b
filling_all t u w p id b values done low lt ok s lw same outside when to_leaf to_inner = (
  record {
    inside = λ k inmap held. sym (same k inmap) ∙ s.done (child_index_of b.depth k) k
        (let below = child_index_below b.depth k in omega arith) inmap
        (held_by_child b k (omega arith) held);
    outside = same_outside_trans t u w b lt s.outside (outside b s.block);
    tidy = end_is.tidy;
  },
  end_is,
)
  where
    end_is : IsSettled u w p b
    end_is =
        settled u w p id.number b done s.linked lw (place_by_block t u p b ok s.block) s.block
        s.link (λ i li. s.tidy i (omega arith)) when to_leaf to_inner

-- a block that becomes a leaf
pub put_filled : (t u : Tree) (p : Place) (n : Node) (b : Cube) (v : Value) → IsLinked t
    → IsLinked u → IsPlace t p → block_in t p ≡ Some b
    → link_of n ≡ None → SetsBlock (value_at t) (value_at u) b v → IsSameOutside t u b
    → IsWritten t u p n
    → IsFilledWith t u b (λ k. v)
put_filled t u p n b v l lu ok at none sets outside written = record {
  inside = λ k inmap held. sets.inside k inmap held;
  outside = outside;
  tidy =
      tidy_leaf u p b lu (place_by_block t u p b ok block) block (ap link_of written.there ∙ none);
}
  where
    block : block_in u p ≡ Some b
    block = block_kept t u p written.homes ∙ at

pub left_absent : (t : Tree) (p : Place) (b : Cube) → IsLinked t → IsPlace t p
    → block_in t p ≡ Some b
    → node_in t p ≡ Absent → IsFilledWith t t b (λ k. None)
left_absent t p b l place at none = record {
  inside =
      λ k inmap held. place_value t p b l place at (ap link_of none) k inmap held
      ∙ ap value_of none;
  outside = same_outside_refl t b;
  tidy = tidy_leaf t p b l place at (ap link_of none);
}

-- what calls for a child are asked
pub record IsAsked (u : Tree) (id : GroupId) (b : Cube) (d i : ℕ) : Type 0 where
  pub place : IsPlace u (Slot id i)
  pub depth : (c : Cube) → block_in u (Slot id i) ≡ Some c → c.depth ≡ d + 1
  pub absent : node_in u (Slot id i) ≡ Absent
  pub block : block_in u (Slot id i) ≡ Some (child_of b i)

pub slot_asked : (t u : Tree) (p : Place) (id : GroupId) (b : Cube) (d i : ℕ) (values : Values)
    → b.depth ≡ d → i < 8 → IsPlace t p
    → IsFillingWith t u p id b i values → IsAsked u id b d i
slot_asked t u p id b d i values deep li place s = record {
  place = slot_place u s.linked p (place_by_block t u p b place s.block) id i s.link li;
  depth = λ c at. (let same : child_of b i ≡ c = some_injective (sym block ∙ at) in
      let down = depth_child_of b i in
      let depth = ap (λ (c : Cube). c.depth) same in
      omega (arith, down, depth, deep));
  absent = s.empty i (omega arith) li;
  block = block;
}
  where
    block : block_in u (Slot id i) ≡ Some (child_of b i)
    block = slot_block u s.linked p id i b s.link s.block
