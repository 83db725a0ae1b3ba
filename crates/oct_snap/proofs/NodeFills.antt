-- Filling a block from the bytes of its node.
use Rattle.std.proofs.Common.{◌≡◌, ℕ, suc, ◌+◌, ◌-◌, ◌<◌, ◌≤◌, Some, None, List, length, drop, refl}
use Rattle.std.proofs.Common.{sym, subst, ◌∙◌, ap, arith}
use Rattle.std.specs.Prelude.{ℤ, false, slice_index, Ok}
use Rattle.oct_key.specs.Voxel.{Voxel}
use Rattle.oct_key.specs.Block.{Cube, IsBlock, HoldsVoxel, child_of, child_index_of}
use Rattle.oct_key.proofs.Blocks.{child_holds}
use Rattle.oct_key.proofs.Held.{held_in_map, held_by_child}
use Rattle.oct_key.proofs.Blocks.{child_index_below}
use Rattle.oct_odds.specs.Odds.{Odds}
use Rattle.oct_arena.specs.declared.node.GroupId.{GroupId}
use Rattle.oct_arena.specs.declared.node.Node.TheVariants.{Absent}
use Rattle.oct_arena.specs.Entries.{spare}
use Rattle.oct_tree.specs.declared.place.Place.{Place}
use Rattle.oct_tree.specs.Tree.{Tree, IsLinked, node_in, block_in, value_at}
use Rattle.oct_tree.specs.Changes.{IsSplit}
use Rattle.oct_snap.specs.Nodes.{Nodes, End, Whole, Parted, joined, are_alike, AreNodes}
use Rattle.oct_snap.specs.Nodes.{group_total, value_in}
use Rattle.oct_snap.specs.Texts.{common_value}
use Rattle.oct_snap.specs.Reading.{Found, found, number_at, read_row, read_node}
use Rattle.oct_snap.specs.Filled.{IsFilled, IsFilling, IsNodeFilled}
use Rattle.oct_snap.proofs.Rows.{total_joined, joined_assoc}
use Rattle.oct_snap.proofs.FoundNodes.{row_joined, value_behind, value_first, row_split, row_whole}
use Rattle.oct_snap.proofs.FoundNodes.{row_behind, node_one}
use Rattle.oct_snap.proofs.Fillings.{filling_first, filling_next}
use Rattle.oct_snap.proofs.FirstBytes.{IsValueNode, IsPartedNode, node_inside, unknown_node}
use Rattle.oct_snap.proofs.Meanings.{node_is}

-- the first i children of the place's block are filled from the nodes of the eight that were read,
-- and the others are still to come
pub record IsUnderWay (t u : Tree) (p : Place) (id : GroupId) (b : Cube) (o : Odds) (d : ℕ)
    (bytes : List ℕ) (next i : ℕ)
    (g : Found) : Type 0 where
  pub row : Nodes
  pub are : AreNodes o (16 - (d + 1)) i row
  pub left : read_row (read_node o (16 - (d + 1))) (8 - i) (found row next (drop next bytes)) ≡ Ok g
  pub within : next ≤ length bytes
  pub filling : IsFilling t u p id b i (λ k. value_in (suc d) g.nodes (child_index_of d k) k)
      (1 + group_total row)

pub under_first : (t u : Tree) (p : Place) (id : GroupId) (v : ℤ) (b : Cube) (o : Odds) (d : ℕ)
    (bytes : List ℕ) (next : ℕ) (g : Found)
    → IsLinked u → IsSplit t u p id v → node_in t p ≡ Absent → block_in t p ≡ Some b
    → next ≤ length bytes
    → read_row (read_node o (16 - (d + 1))) 8 (found End next (drop next bytes)) ≡ Ok g
    → IsUnderWay t u p id b o d bytes next 0 g
unfolding group_total
under_first t u p id v b o d bytes next g m s none at within is = record {
  row = End;
  are = tt;
  left = is;
  within = within;
  filling = filling_first t u p id v b (λ k. value_in (suc d) g.nodes (child_index_of d k) k) m s
      none at;
}

-- the child that comes next
pub record IsAhead (u : Tree) (o : Odds) (d : ℕ) (bytes : List ℕ) (next i : ℕ) (row : Nodes)
    (g : Found) : Type 0 where
  pub one : Found
  pub first : read_node o (16 - (d + 1)) next (drop next bytes) ≡ Ok one
  pub later : read_row (read_node o (16 - (d + 1))) (8 - (i + 1))
      (found (joined row one.nodes) one.at one.rest) ≡ Ok g
  pub enough : group_total one.nodes ≤ spare u.groups

pub child_ahead : (t u : Tree) (p : Place) (id : GroupId) (b : Cube) (o : Odds) (d : ℕ)
    (bytes : List ℕ) (next i : ℕ) (g : Found)
    → 1 + group_total g.nodes ≤ spare t.groups → i < 8
    → (s : IsUnderWay t u p id b o d bytes next i g)
    → IsAhead u o d bytes next i s.row g
child_ahead t u p id b o d bytes next i g room li s =
    let reader = read_node o (16 - (d + 1)) in
    let more : 8 - i ≡ suc (8 - (i + 1)) = omega (arith, li) in
    let split = row_split reader (8 - (i + 1)) (found s.row next (drop next bytes)) g
    (ap (λ (n : ℕ). read_row reader n (found s.row next (drop next bytes))) (sym more) ∙ s.left) in
    let behind = row_behind o (16 - (d + 1)) reader (node_one o (16 - (d + 1))) (8 - (i + 1))
    (found (joined s.row split.one.nodes) split.one.at split.one.rest) g split.later in
    record {
      one = split.one;
      first = split.first;
      later = split.later;
      enough = (let all : group_total g.nodes
          ≡ group_total (joined (joined s.row split.one.nodes) behind.row) =
          ap group_total behind.all in
          let a = total_joined (joined s.row split.one.nodes) behind.row in
          let c = total_joined s.row split.one.nodes in
          let taken = s.filling.room in
          omega (arith, room, all, a, c, taken));
    }

-- the values of a child's voxels
child_values : (b : Cube) (o : Odds) (d i : ℕ) (row : Nodes) (one : Nodes) (later : Nodes)
    (all : Nodes) (k : Voxel)
    → b.depth ≡ d → d ≤ 15 → i < 8 → HoldsVoxel (child_of b i) k
    → AreNodes o (16 - (d + 1)) i row → AreNodes o (16 - (d + 1)) 1 one
    → all ≡ joined (joined row one) later
    → value_in (suc d) one 0 k ≡ value_in (suc d) all (child_index_of d k) k
child_values b o d i row one later all k deep low li held are is same =
    let index = ((child_holds b i k (omega (arith, deep, low)) li).0 held).1 in
    let at : child_index_of d k ≡ i + 0 =
    (let x : child_index_of d k ≡ i = subst (λ (d : ℕ). child_index_of d k ≡ i) deep index in
    omega (arith, x)) in
    sym (ap (value_in (suc d) all (child_index_of d k)) refl
    ∙ ap (λ (j : ℕ). value_in (suc d) all j k) at
    ∙ ap (λ (n : Nodes). value_in (suc d) n (i + 0) k) (same ∙ joined_assoc row one later)
    ∙ value_behind o (16 - (d + 1)) (suc d) i 0 (i + 0) row (joined one later) k refl are
    ∙ value_first o (16 - (d + 1)) (suc d) one later k is)

-- after a child
pub under_next : (t u w : Tree) (p : Place) (id : GroupId) (b : Cube) (o : Odds) (d : ℕ)
    (bytes : List ℕ) (next i after : ℕ) (g : Found)
    → b.depth ≡ d → d ≤ 15 → i < 8 → IsLinked t → IsLinked w
    → (s : IsUnderWay t u p id b o d bytes next i g)
    → (a : IsAhead u o d bytes next i s.row g) → IsNodeFilled u w (child_of b i)
    (d + 1) bytes a.one after
    → IsUnderWay t w p id b o d bytes after (i + 1) g
under_next t u w p id b o d bytes next i after g deep low li lt lw s a f =
    let h = 16 - (d + 1) in
    let one : AreNodes o h 1 a.one.nodes = node_one o h next (drop next bytes) a.one a.first in
    let behind = row_behind o h (read_node o h) (node_one o h) (8 - (i + 1))
    (found (joined s.row a.one.nodes) a.one.at a.one.rest) g a.later in
    let total = total_joined s.row a.one.nodes in
    let groups : 1 + group_total s.row + group_total a.one.nodes
    ≡ 1 + group_total (joined s.row a.one.nodes) = omega (arith, total) in
    let down : d + 1 ≡ suc d = omega arith in
    record {
      row = joined s.row a.one.nodes;
      are = row_joined o h i 1 (i + 1) s.row a.one.nodes refl s.are one;
      left = ap (λ (k : ℕ). read_row (read_node o h) (8 - (i + 1))
          (found (joined s.row a.one.nodes) k (drop after bytes))) (sym f.next)
          ∙ ap (λ (t : List ℕ). read_row (read_node o h) (8 - (i + 1))
          (found (joined s.row a.one.nodes) a.one.at t)) (sym f.rest) ∙ a.later;
      within = f.within;
      filling = subst (λ (n : ℕ). IsFilling t w p id b (i + 1)
          (λ k. value_in (suc d) g.nodes (child_index_of d k) k) n) groups
          (filling_next t u w p id b i (1 + group_total s.row) (group_total a.one.nodes)
          (λ k. value_in (suc d) g.nodes (child_index_of d k) k)
          (λ k. value_in (d + 1) a.one.nodes 0 k)
          (omega (arith, deep, low)) li lt s.filling lw f.filled
          (λ k inmap held. ap (λ (n : ℕ). value_in n a.one.nodes 0 k) down
          ∙ child_values b o d i s.row a.one.nodes behind.row g.nodes k deep low li held s.are one
          behind.all));
    }

-- after the last child
pub record IsWhole (t u : Tree) (p : Place) (id : GroupId) (b : Cube) (d : ℕ) (bytes : List ℕ)
    (after : ℕ) (g : Found) : Type 0 where
  pub filling : IsFilling t u p id b 8 (λ k. value_in (suc d) g.nodes (child_index_of d k) k)
      (1 + group_total g.nodes)
  pub next : g.at ≡ after
  pub rest : g.rest ≡ drop after bytes
  pub within : after ≤ length bytes

pub under_all : (t u : Tree) (p : Place) (id : GroupId) (b : Cube) (o : Odds) (d : ℕ)
    (bytes : List ℕ) (next i : ℕ) (g : Found)
    → i ≡ 8 → IsUnderWay t u p id b o d bytes next i g → IsWhole t u p id b d bytes next g
under_all t u p id b o d bytes next i g end s =
    let none : 0 ≡ 8 - i = omega (arith, end) in
    let same : found s.row next (drop next bytes) ≡ g = row_whole (read_node o (16 - (d + 1)))
    (found s.row next (drop next bytes)) g
    (ap (λ (n : ℕ). read_row (read_node o (16 - (d + 1))) n (found s.row next (drop next bytes)))
    none ∙ s.left) in
    record {
      filling = subst
          (λ (n : Nodes). IsFilling t u p id b 8
          (λ k. value_in (suc d) g.nodes (child_index_of d k) k) (1 + group_total n))
          (ap (λ (f : Found). f.nodes) same)
          (subst (λ (n : ℕ). IsFilling t u p id b n
          (λ k. value_in (suc d) g.nodes (child_index_of d k) k) (1 + group_total s.row)) end
          s.filling);
      next = ap (λ (f : Found). f.at) (sym same);
      rest = ap (λ (f : Found). f.rest) (sym same);
      within = s.within;
    }

-- the block has several values then
pub whole_several : (t u : Tree) (p : Place) (id : GroupId) (b : Cube) (o : Odds) (d : ℕ)
    (bytes : List ℕ) (next : ℕ) (g : Found)
    → b.depth ≡ d → d ≤ 15 → IsBlock b → AreNodes o (16 - (d + 1)) 8 g.nodes → are_alike g.nodes
    ≡ false
    → IsWhole t u p id b d bytes next g → None ≡ common_value (value_at u) b
unfolding value_in
whole_several t u p id b o d bytes next g deep low ok are varied s =
    (node_is o (value_at u) (suc (16 - (d + 1))) d b (Parted g.nodes End) deep (omega (arith, low))
    ok (are, varied, tt)
    (λ k held. sym (s.filling.part.done (child_index_of b.depth k) k (child_index_below b.depth k)
    (held_in_map b k ok held)
    (held_by_child b k (omega (arith, deep, low)) held)))).kind

-- ---- a node

-- a node without nodes of its own
pub unknown_filled : (t u : Tree) (b : Cube) (o : Odds) (d h : ℕ) (bytes : List ℕ) (at : ℕ)
    (f : Found) → slice_index bytes at ≡ 0
    → read_node o h at (drop at bytes) ≡ Ok f → IsFilled t u b (λ k. None) 0
    → IsNodeFilled t u b d bytes f (at + 1)
unfolding value_in group_total
unknown_filled t u b o d h bytes at f first is filled =
    subst (λ (f : Found). IsNodeFilled t u b d bytes f (at + 1))
    (unknown_node o h at bytes f first is) (record {
      filled = filled;
      next = refl;
      rest = refl;
      within = (let inside = node_inside o h at bytes f is in omega (arith, inside));
    })

pub value_filled : (t u : Tree) (b : Cube) (o : Odds) (d : ℕ) (bytes : List ℕ) (at : ℕ) (n : ℤ)
    (f : Found) → n ≡ number_at bytes (at + 1)
    → IsValueNode o bytes at f → IsFilled t u b (λ k. Some n) 0
    → IsNodeFilled t u b d bytes f (at + 5)
unfolding value_in group_total
value_filled t u b o d bytes at n f same v filled =
    subst (λ (f : Found). IsNodeFilled t u b d bytes f (at + 5))
    (ap (λ (m : ℤ). found (Whole (Some m) End) (at + 5) (drop (at + 5) bytes)) same ∙ v.is)
    (record {
      filled = filled;
      next = refl;
      rest = refl;
      within = v.inside;
    })

-- a node of eight others
pub parted_filled : (t u : Tree) (b : Cube) (o : Odds) (d : ℕ) (bytes : List ℕ) (at next : ℕ)
    (f : Found) → (p : IsPartedNode o d bytes at f)
    → p.eight.at ≡ next → p.eight.rest ≡ drop next bytes → next ≤ length bytes
    → IsFilled t u b (λ k. value_in (suc d) p.eight.nodes (child_index_of d k) k)
    (1 + group_total p.eight.nodes)
    → IsNodeFilled t u b d bytes f next
unfolding value_in group_total
parted_filled t u b o d bytes at next f p place rest within filled =
    subst (λ (f : Found). IsNodeFilled t u b d bytes f next) p.is (record {
      filled = (let more : 1 + group_total p.eight.nodes ≡ 1 + group_total p.eight.nodes + 0 =
          omega arith in
          subst (λ (n : ℕ). IsFilled t u b
          (λ k. value_in (suc d) p.eight.nodes (child_index_of d k) k) n) more filled);
      next = place;
      rest = rest;
      within = within;
    })

-- how many groups the eight have
pub eight_room : (o : Odds) (d : ℕ) (bytes : List ℕ) (at room : ℕ) (f : Found)
    → (p : IsPartedNode o d bytes at f) → group_total f.nodes ≤ room
    → 1 + group_total p.eight.nodes ≤ room
unfolding group_total
eight_room o d bytes at room f p enough =
    (let same : 1 + group_total p.eight.nodes + 0 ≡ group_total f.nodes =
    ap (λ (f : Found). group_total f.nodes) p.is in omega (arith, same, enough))
