-- The nodes that a block of the moved map comes from, from the whole map down.
use Rattle.std.proofs.Common.{◌≡◌, ℕ, ◌+◌, ◌-◌, ◌*◌, ◌/◌, ◌%◌, ◌^◌, ◌<◌, ◌≤◌, Some, None}
use Rattle.std.proofs.Common.{refl, sym, ◌∙◌, ap, subst, arith, inl, inr, Bool, true, false, cond}
use Rattle.std.specs.Prelude.{Option, ◌⊎◌, slice_index_or, length}
use Rattle.std.proofs.lemmas.Bool.{cases_eq, cases_lt}
use Rattle.std.proofs.lemmas.List.{get_or_read_under}
use Rattle.oct_key.specs.Voxel.{Voxel, IsInMap, key_from}
use Rattle.oct_key.specs.Block.{Cube, IsBlock, HoldsVoxel, child_of, child_index_of, root_block}
use Rattle.oct_key.specs.Block.{side}
use Rattle.oct_key.specs.Block.{lowest_voxel}
use Rattle.oct_key.proofs.Blocks.{child_holds, depth_child_of, depth_block_of, lowest_held}
use Rattle.oct_key.proofs.Blocks.{lowest_in_map}
use Rattle.oct_arena.specs.declared.node.Node.{Node}
use Rattle.oct_arena.specs.declared.node.Node.TheVariants.{Absent, Leaf, Inner}
use Rattle.oct_arena.specs.Entries.{IsLive}
use Rattle.oct_arena.specs.Nodes.{link_of, value_of}
use Rattle.oct_odds.specs.Update.{IsWithin}
use Rattle.oct_tree.specs.declared.place.Place.TheVariants.{Slot}
use Rattle.oct_tree.specs.Tree.{Tree, IsLinked, node_in, reach, step, value_at}
use Rattle.oct_tree.proofs.Paths.{reach_zero, reach_suc, reach_home, slot_place, value_at_last}
use Rattle.oct_tree.proofs.Paths.{linked_live}
use Rattle.oct_shift.specs.declared.offset.Offset.{Offset}
use Rattle.oct_shift.specs.declared.offset.AxisStep.{AxisStep}
use Rattle.oct_shift.specs.declared.offset.Step.{Step}
use Rattle.oct_shift.specs.declared.row.Row.{Row}
use Rattle.oct_shift.specs.Shifted.{value_from}
use Rattle.oct_shift.specs.Moving.{lifted, before, moved_values, carry, part_of, node_from}
use Rattle.oct_shift.specs.Moving.{IsNodeOf}
use Rattle.oct_shift.specs.Moving.{node_of_row, IsRow, IsAtRoot, IsRootNode, IsAxisStep, IsStep}
use Rattle.oct_shift.specs.Moving.{place_of, from_node, from_child}
use Rattle.oct_shift.proofs.Carries.{IsPlaced, placed, carry_is, carry_few, carry_whole, lifted_is}
use Rattle.oct_shift.proofs.Carries.{lifted_one, lifted_other, lifted_bit}

-- ---- the voxel that comes to a voxel

record IsFrom (o : Offset) (k j : Voxel) : Type 0 where
  pub x : lifted (k.x + o.x) ≡ Some j.x
  pub y : lifted (k.y + o.y) ≡ Some j.y
  pub z : lifted (k.z + o.z) ≡ Some j.z

from_some : (x y z : Option ℕ) (j : Voxel) → key_from x y z ≡ Some j
    → (x ≡ Some j.x) × (y ≡ Some j.y) × (z ≡ Some j.z)
from_some None y z j e = cc
from_some (Some x) None z j e = cc
from_some (Some x) (Some y) None j e = cc
from_some (Some x) (Some y) (Some z) j e = (
  ap (λ o. x_of o x) e,
  ap (λ o. y_of o x) e,
  ap (λ o. z_of o x) e,
)
  where
    x_of : Option Voxel → ℕ → Option ℕ
    x_of None n = None
    x_of (Some k) n = Some k.x

    y_of : Option Voxel → ℕ → Option ℕ
    y_of None n = None
    y_of (Some k) n = Some k.y

    z_of : Option Voxel → ℕ → Option ℕ
    z_of None n = None
    z_of (Some k) n = Some k.z

from_is : (o : Offset) (k j : Voxel) → before o k ≡ Some j → IsFrom o k j
from_is o k j e =
    let (x, y, z) = from_some (lifted (k.x + o.x)) (lifted (k.y + o.y)) (lifted (k.z + o.z)) j e in
    record { x = x; y = y; z = z }

from_in_map : (o : Offset) (k j : Voxel) → IsFrom o k j → IsInMap j
from_in_map o k j f = record {
  x = (lifted_is (k.x + o.x) j.x f.x).1;
  y = (lifted_is (k.y + o.y) j.y f.y).1;
  z = (lifted_is (k.z + o.z) j.z f.z).1;
}

none_on_x : (x y z : Option ℕ) → x ≡ None → key_from x y z ≡ None
none_on_x None y z e = refl
none_on_x (Some x) y z e = cc

none_on_y : (x y z : Option ℕ) → y ≡ None → key_from x y z ≡ None
none_on_y None y z e = refl
none_on_y (Some x) None z e = refl
none_on_y (Some x) (Some y) z e = cc

none_on_z : (x y z : Option ℕ) → z ≡ None → key_from x y z ≡ None
none_on_z None y z e = refl
none_on_z (Some x) None z e = refl
none_on_z (Some x) (Some y) None e = refl
none_on_z (Some x) (Some y) (Some z) e = cc

-- ---- the whole map

-- the quotient of a sum by the map, by which of the two blocks has it
root_axis : (a v : ℕ) → v < 65536 → (v + a) / 65536 ≡ a / 65536 + carry 0 a v
root_axis a v below =
    let sum : (v + a) / 65536 ≡ v / 65536 + a / 65536 + carry 0 a v = carry_is 0 v a in
    let none : v / 65536 ≡ 0 = omega (arith, below) in
    omega (arith, sum, none)

bits_of : (x y z : ℕ) → x ≤ 1 → y ≤ 1 → z ≤ 1
    → ((x + 2 * y + 4 * z) % 2 ≡ x) × ((x + 2 * y + 4 * z) / 2 % 2 ≡ y)
    × ((x + 2 * y + 4 * z) / 4 % 2 ≡ z) × (x + 2 * y + 4 * z < 8)
bits_of x y z lx ly lz = (
  omega (arith, lx, ly, lz),
  omega (arith, lx, ly, lz),
  omega (arith, lx, ly, lz),
  omega (arith, lx, ly, lz),
)

pub part_few : (d : ℕ) (o : Offset) (k : Voxel) → part_of d o k < 8
part_few d o k = (bits_of (carry d o.x k.x) (carry d o.y k.y) (carry d o.z k.z)
    (carry_few d o.x k.x) (carry_few d o.y k.y) (carry_few d o.z k.z)).3

pub root_row : (t : Tree) (o : Offset) (row : Row)
    → ((j : ℕ) → j < 8 → IsRootNode t o j (node_of_row row j)) → IsRow t o root_block row
root_row t o row each = record {
  met = λ k inmap held. by_axes k inmap (cases_eq ((k.x + o.x) / 65536) 1)
      (cases_eq ((k.y + o.y) / 65536) 1) (cases_eq ((k.z + o.z) / 65536) 1);
  nodes = λ j lj. (each j lj).node;
  alike = λ deep. absurd (omega (arith, deep));
}
  where
    here : (k : Voxel) → IsRootNode t o (part_of 0 o k) (node_of_row row (part_of 0 o k))
    here k = each (part_of 0 o k) (part_few 0 o k)

    bits : (k : Voxel) → (part_of 0 o k % 2 ≡ carry 0 o.x k.x)
        × (part_of 0 o k / 2 % 2 ≡ carry 0 o.y k.y) × (part_of 0 o k / 4 % 2 ≡ carry 0 o.z k.z)
        × (part_of 0 o k < 8)
    bits k = bits_of (carry 0 o.x k.x) (carry 0 o.y k.y) (carry 0 o.z k.z)
        (carry_few 0 o.x k.x) (carry_few 0 o.y k.y) (carry_few 0 o.z k.z)

    absent : (k : Voxel) → (IsAtRoot o (part_of 0 o k) → ⊥) → before o k ≡ None
        → node_of_row row (part_of 0 o k) ≡ node_from t 0 (before o k)
    absent k not none = (here k).beside not ∙ ap (node_from t 0) (sym none)

    by_axes : (k : Voxel) → IsInMap k
        → (((k.x + o.x) / 65536 ≡ 1) ⊎ ((k.x + o.x) / 65536 ≡ 1 → ⊥))
        → (((k.y + o.y) / 65536 ≡ 1) ⊎ ((k.y + o.y) / 65536 ≡ 1 → ⊥))
        → (((k.z + o.z) / 65536 ≡ 1) ⊎ ((k.z + o.z) / 65536 ≡ 1 → ⊥))
        → node_of_row row (part_of 0 o k) ≡ node_from t 0 (before o k)
    by_axes k inmap (inr not) y z =
        let axis = root_axis o.x k.x inmap.x in
        let bit = (bits k).0 in
        absent k (λ at. not (let is = at.x in omega (arith, axis, bit, is)))
        (none_on_x (lifted (k.x + o.x)) (lifted (k.y + o.y)) (lifted (k.z + o.z))
        (lifted_other (k.x + o.x) not))
    by_axes k inmap x (inr not) z =
        let axis = root_axis o.y k.y inmap.y in
        let bit = (bits k).1 in
        absent k (λ at. not (let is = at.y in omega (arith, axis, bit, is)))
        (none_on_y (lifted (k.x + o.x)) (lifted (k.y + o.y)) (lifted (k.z + o.z))
        (lifted_other (k.y + o.y) not))
    by_axes k inmap x y (inr not) =
        let axis = root_axis o.z k.z inmap.z in
        let bit = (bits k).2 in
        absent k (λ at. not (let is = at.z in omega (arith, axis, bit, is)))
        (none_on_z (lifted (k.x + o.x)) (lifted (k.y + o.y)) (lifted (k.z + o.z))
        (lifted_other (k.z + o.z) not))
    by_axes k inmap (inl x) (inl y) (inl z) =
        let on_x = root_axis o.x k.x inmap.x in
        let on_y = root_axis o.y k.y inmap.y in
        let on_z = root_axis o.z k.z inmap.z in
        let (bit_x, bit_y, bit_z, few) = bits k in
        let from : before o k ≡ Some (record {
          x = k.x + o.x - 65536;
          y = k.y + o.y - 65536;
          z = k.z + o.z - 65536;
        }) =
        rw (lifted_one (k.x + o.x) x, lifted_one (k.y + o.y) y, lifted_one (k.z + o.z) z) refl in
        (here k).there (record {
          x = omega (arith, on_x, bit_x, x);
          y = omega (arith, on_y, bit_y, y);
          z = omega (arith, on_z, bit_z, z);
        })
        ∙ sym (ap (node_from t 0) from ∙ reach_zero t _)

-- ---- a child

-- where a voxel of a child comes from on an axis
axis_placed : (d a v half second : ℕ) (s : AxisStep) → d ≤ 15 → IsAxisStep (d + 1) a s
    → half ≡ v / side (d + 1) % 2 → second ≡ carry (d + 1) a v
    → IsPlaced d a v (place_of s half second)
axis_placed d a v half second s low is at carried =
    subst (IsPlaced d a v)
    (sym (ap (λ (n : ℕ). n + s.bit + cond {A = ℕ} s.is_cut second 0) at
    ∙ ap (λ (n : ℕ). v / side (d + 1) % 2 + n + cond {A = ℕ} s.is_cut second 0) is.bit
    ∙ ap (λ (n : ℕ). v / side (d + 1) % 2 + a / side (d + 1) % 2 + n) (cut s.is_cut refl)))
    (placed d a v low)
  where
    cut : (test : Bool) → s.is_cut ≡ test → cond {A = ℕ} s.is_cut second 0 ≡ carry (d + 1) a v
    cut true e = ap (λ test. cond {A = ℕ} test second 0) e ∙ carried
    cut false e = ap (λ test. cond {A = ℕ} test second 0) e
        ∙ sym (carry_whole (d + 1) a v (is.whole.0 e))

-- the bits of a child's index are those of its voxels
index_bits : (d i : ℕ) (k : Voxel) → d ≤ 15 → child_index_of d k ≡ i
    → (i % 2 ≡ k.x / side (d + 1) % 2) × (i / 2 % 2 ≡ k.y / side (d + 1) % 2)
    × (i / 4 % 2 ≡ k.z / side (d + 1) % 2)
unfolding child_index_of
index_bits d i k low is =
    let level : 15 - d ≡ 16 - (d + 1) = omega arith in
    let x : k.x / 2 ^ (15 - d) ≡ k.x / side (d + 1) = ap (λ (h : ℕ). k.x / 2 ^ h) level in
    let y : k.y / 2 ^ (15 - d) ≡ k.y / side (d + 1) = ap (λ (h : ℕ). k.y / 2 ^ h) level in
    let z : k.z / 2 ^ (15 - d) ≡ k.z / side (d + 1) = ap (λ (h : ℕ). k.z / 2 ^ h) level in
    (omega (arith, is, x), omega (arith, is, y), omega (arith, is, z))

-- the index of the child that a voxel comes from, by the sums
source_index : (d : ℕ) (o : Offset) (k j : Voxel) → d ≤ 15 → IsFrom o k j
    → child_index_of d j ≡ (k.x + o.x) / side (d + 1) % 2 + 2 * ((k.y + o.y) / side (d + 1) % 2)
    + 4 * ((k.z + o.z) / side (d + 1) % 2)
unfolding child_index_of
source_index d o k j low f =
    let x = lifted_bit d (k.x + o.x) j.x low f.x in
    let y = lifted_bit d (k.y + o.y) j.y low f.y in
    let z = lifted_bit d (k.z + o.z) j.z low f.z in
    omega (arith, x, y, z)

-- a child of a node of the tree is a node of it
node_below : (t : Tree) (n : Node) (c : ℕ) → IsLinked t → c < 8 → IsNodeOf t n
    → IsNodeOf t (step t.groups n c)
node_below t n c l few (inl none) = inl (ap (λ m. step t.groups m c) none)
node_below t n c l few (inr (p, ok, is)) = by n is
  where
    by : (m : Node) → node_in t p ≡ m → IsNodeOf t (step t.groups m c)
    by Absent e = inl refl
    by (Leaf v) e = inr (p, ok, e)
    by (Inner v id) e = inr (Slot id c, slot_place t l p ok id c (ap link_of e) few, refl)

place_few : (s : AxisStep) (half second : ℕ) → s.bit ≤ 1 → half ≤ 1 → second ≤ 1
    → place_of s half second ≤ 3
place_few s half second bit lh ls = by s.is_cut
  where
    by : (test : Bool) → half + s.bit + cond {A = ℕ} test second 0 ≤ 3
    by true = omega (arith, bit, lh, ls)
    by false = omega (arith, bit, lh, ls)

pub bit_few : (d a : ℕ) (s : AxisStep) → IsAxisStep d a s → s.bit ≤ 1
bit_few d a s is = (let bit = is.bit in omega (arith, bit))

pub from_node_few : (way : Step) (i j : ℕ) → (way.x.bit ≤ 1) × (way.y.bit ≤ 1) × (way.z.bit ≤ 1)
    → from_node way i j < 8
from_node_few way i j (x, y, z) =
    let px = place_few way.x (i % 2) (j % 2) x (omega arith) (omega arith) in
    let py = place_few way.y (i / 2 % 2) (j / 2 % 2) y (omega arith) (omega arith) in
    let pz = place_few way.z (i / 4 % 2) (j / 4 % 2) z (omega arith) (omega arith) in
    by (place_of way.x (i % 2) (j % 2)) (place_of way.y (i / 2 % 2) (j / 2 % 2))
    (place_of way.z (i / 4 % 2) (j / 4 % 2)) px py pz
  where
    by : (a b c : ℕ) → a ≤ 3 → b ≤ 3 → c ≤ 3 → a / 2 + 2 * (b / 2) + 4 * (c / 2) < 8
    by a b c la lb lc = omega (arith, la, lb, lc)

pub from_child_few : (way : Step) (i j : ℕ) → from_child way i j < 8
from_child_few way i j =
    by (place_of way.x (i % 2) (j % 2)) (place_of way.y (i / 2 % 2) (j / 2 % 2))
    (place_of way.z (i / 4 % 2) (j / 4 % 2))
  where
    by : (a b c : ℕ) → a % 2 + 2 * (b % 2) + 4 * (c % 2) < 8
    by a b c = omega arith

pub way_bits : (d : ℕ) (o : Offset) (way : Step) → IsStep d o way
    → (way.x.bit ≤ 1) × (way.y.bit ≤ 1) × (way.z.bit ≤ 1)
way_bits d o way is =
    (bit_few d o.x way.x is.x, bit_few d o.y way.y is.y, bit_few d o.z way.z is.z)

-- an offset goes by whole voxels
whole_voxels : (d a : ℕ) → d ≡ 16 → a % side d ≡ 0
whole_voxels d a e =
    let level : 16 - d ≡ 0 = omega (arith, e) in
    ap (λ (h : ℕ). a % 2 ^ h) level ∙ (let one : a % 1 ≡ 0 = omega arith in one)

same_place : (d a half second other : ℕ) (s : AxisStep) → d ≡ 16 → IsAxisStep d a s
    → place_of s half second ≡ place_of s half other
same_place d a half second other s e is =
    let not : s.is_cut ≡ false = is.whole.1 (whole_voxels d a e) in
    rw not refl

pub child_row : (t : Tree) (o : Offset) (b c : Cube) (i : ℕ) (way : Step) (row next : Row)
    → IsLinked t → b.depth ≤ 15 → i < 8 → c ≡ child_of b i → IsStep (b.depth + 1) o way
    → IsRow t o b row
    → ((j : ℕ) → j < 8 → node_of_row next j
    ≡ step t.groups (node_of_row row (from_node way i j)) (from_child way i j))
    → IsRow t o c next
child_row t o b c i way row next l low li is ways r each =
    subst (λ a. IsRow t o a next) (sym is) (record {
      met = λ k inmap held. subst
          (λ (d : ℕ). node_of_row next (part_of d o k) ≡ node_from t d (before o k))
          (sym (depth_child_of b i))
          (met_at k inmap ((child_holds b i k (omega (arith, low)) li).0 held));
      nodes = λ j lj. subst (IsNodeOf t) (sym (each j lj))
          (node_below t (node_of_row row (from_node way i j)) (from_child way i j) l
          (from_child_few way i j)
          (r.nodes (from_node way i j)
          (from_node_few way i j (way_bits (b.depth + 1) o way ways))));
      alike = λ deep j lj. each j lj
          ∙ same_nodes (sym (depth_child_of b i) ∙ deep) j
          ∙ sym (each 0 (omega arith));
    })
  where
    by_source : (k : Voxel) (index : ℕ)
        → index ≡ (k.x + o.x) / side (b.depth + 1) % 2
        + 2 * ((k.y + o.y) / side (b.depth + 1) % 2)
        + 4 * ((k.z + o.z) / side (b.depth + 1) % 2)
        → (from : Option Voxel) → before o k ≡ from
        → step t.groups (node_from t b.depth from) index ≡ node_from t (b.depth + 1) from
    by_source k index at None e = refl
    by_source k index at (Some j) e =
        ap (step t.groups (reach t b.depth j))
        (at ∙ sym (source_index b.depth o k j low (from_is o k j e)))
        ∙ sym (reach_suc t b.depth j)

    met_at : (k : Voxel) → IsInMap k → HoldsVoxel b k × (child_index_of b.depth k ≡ i)
        → node_of_row next (part_of (b.depth + 1) o k) ≡ node_from t (b.depth + 1) (before o k)
    met_at k inmap (held, index) =
        let d = b.depth in
        let j = part_of (d + 1) o k in
        let (bit_x, bit_y, bit_z, few) =
        bits_of (carry (d + 1) o.x k.x) (carry (d + 1) o.y k.y) (carry (d + 1) o.z k.z)
        (carry_few (d + 1) o.x k.x) (carry_few (d + 1) o.y k.y) (carry_few (d + 1) o.z k.z) in
        let (half_x, half_y, half_z) = index_bits d i k low index in
        let x = axis_placed d o.x k.x (i % 2) (j % 2) way.x low ways.x half_x bit_x in
        let y = axis_placed d o.y k.y (i / 2 % 2) (j / 2 % 2) way.y low ways.y half_y bit_y in
        let z = axis_placed d o.z k.z (i / 4 % 2) (j / 4 % 2) way.z low ways.z half_z bit_z in
        let node : from_node way i j ≡ part_of d o k = rw (x.block, y.block, z.block) refl in
        let child : from_child way i j
        ≡ (k.x + o.x) / side (d + 1) % 2 + 2 * ((k.y + o.y) / side (d + 1) % 2)
        + 4 * ((k.z + o.z) / side (d + 1) % 2) = rw (x.half, y.half, z.half) refl in
        each j few
        ∙ ap (λ (m : ℕ). step t.groups (node_of_row row m) (from_child way i j)) node
        ∙ ap (λ m. step t.groups m (from_child way i j)) (r.met k inmap held)
        ∙ by_source k (from_child way i j) child (before o k) refl

    same_nodes : b.depth + 1 ≡ 16 → (j : ℕ)
        → step t.groups (node_of_row row (from_node way i j)) (from_child way i j)
        ≡ step t.groups (node_of_row row (from_node way i 0)) (from_child way i 0)
    same_nodes deep j =
        let x = same_place (b.depth + 1) o.x (i % 2) (j % 2) 0 way.x deep ways.x in
        let y = same_place (b.depth + 1) o.y (i / 2 % 2) (j / 2 % 2) 0 way.y deep ways.y in
        let z = same_place (b.depth + 1) o.z (i / 4 % 2) (j / 4 % 2) 0 way.z deep ways.z in
        ap (λ (m : ℕ). step t.groups (node_of_row row m) (from_child way i j))
        (ap (λ (p : ℕ). p / 2 + 2 * (place_of way.y (i / 2 % 2) (j / 2 % 2) / 2)
        + 4 * (place_of way.z (i / 4 % 2) (j / 4 % 2) / 2)) x
        ∙ ap (λ (p : ℕ). place_of way.x (i % 2) 0 / 2 + 2 * (p / 2)
        + 4 * (place_of way.z (i / 4 % 2) (j / 4 % 2) / 2)) y
        ∙ ap (λ (p : ℕ). place_of way.x (i % 2) 0 / 2 + 2 * (place_of way.y (i / 2 % 2) 0 / 2)
        + 4 * (p / 2)) z)
        ∙ ap (λ (m : ℕ). step t.groups (node_of_row row (from_node way i 0)) m)
        (ap (λ (p : ℕ). p % 2 + 2 * (place_of way.y (i / 2 % 2) (j / 2 % 2) % 2)
        + 4 * (place_of way.z (i / 4 % 2) (j / 4 % 2) % 2)) x
        ∙ ap (λ (p : ℕ). place_of way.x (i % 2) 0 % 2 + 2 * (p % 2)
        + 4 * (place_of way.z (i / 4 % 2) (j / 4 % 2) % 2)) y
        ∙ ap (λ (p : ℕ). place_of way.x (i % 2) 0 % 2 + 2 * (place_of way.y (i / 2 % 2) 0 % 2)
        + 4 * (p % 2)) z)

-- what is read of a row
pub read_row : (row : Row) (from node : ℕ) (x : Node) → 8 ≡ length row.nodes → from ≡ node
    → node < 8 → x ≡ slice_index_or row.nodes from x → x ≡ node_of_row row node
read_row row from node x long at few is =
    get_or_read_under row.nodes from 8 x Absent is (omega (arith, at, few)) long
    ∙ ap (node_of_row row) at

-- ---- what a row says

-- where all its nodes are one node that isn't Inner, each voxel has its value
pub row_value : (t : Tree) (o : Offset) (b : Cube) (row : Row) (n : Node) → b.depth ≤ 16
    → IsRow t o b row → link_of n ≡ None → ((j : ℕ) → j < 8 → node_of_row row j ≡ n)
    → (k : Voxel) → IsInMap k → HoldsVoxel b k → moved_values t o k ≡ value_of n
row_value t o b row n top r plain all k inmap held =
    by_source (before o k)
    (sym (r.met k inmap held) ∙ all (part_of b.depth o k) (part_few b.depth o k))
  where
    by_source : (from : Option Voxel) → node_from t b.depth from ≡ n
        → value_from (value_at t) from ≡ value_of n
    by_source None e = ap value_of e
    by_source (Some j) e =
        value_at_last t j b.depth top (ap link_of e ∙ plain) ∙ ap value_of e

-- a voxel's row is one node, which isn't Inner
pub voxel_plain : (t : Tree) (o : Offset) (b : Cube) (row : Row) → IsLinked t → IsBlock b
    → b.depth ≡ 16 → IsRow t o b row → link_of (node_of_row row 0) ≡ None
voxel_plain t o b row l ok deep r =
    let k = lowest_voxel b in
    ap link_of (sym (r.alike deep (part_of b.depth o k) (part_few b.depth o k)))
    ∙ ap link_of (r.met k (lowest_in_map b ok) (lowest_held b))
    ∙ by_source (before o k) refl
  where
    by_link : (j : Voxel) → IsInMap j → (o : Option ℕ) → link_of (reach t b.depth j) ≡ o
        → link_of (reach t b.depth j) ≡ None
    by_link j inmap None e = e
    by_link j inmap (Some x) e =
        (let home = reach_home t j l inmap b.depth x e (omega (arith, deep)) in
        let low = (l.homes x _ home).1 in
        let level = depth_block_of b.depth j in
        absurd (omega (arith, low, level, deep)))

    by_source : (from : Option Voxel) → before o (lowest_voxel b) ≡ from
        → link_of (node_from t b.depth from) ≡ None
    by_source None e = refl
    by_source (Some j) e =
        by_link j (from_in_map o (lowest_voxel b) j (from_is o (lowest_voxel b) j e))
        (link_of (reach t b.depth j)) refl

-- so that another one's block is above the voxels
pub row_low : (t : Tree) (o : Offset) (b : Cube) (row : Row) → IsLinked t → IsBlock b
    → IsRow t o b row
    → (link_of (node_of_row row 0) ≡ None
    → ((j : ℕ) → j < 8 → node_of_row row j ≡ node_of_row row 0) → ⊥) → b.depth ≤ 15
row_low t o b row l ok r none = elim (cases_lt b.depth 16) [
  | inl low ↦ omega (arith, low)
  | inr high ↦
      (let top = ok.depth in
      let deep : b.depth ≡ 16 = omega (arith, high, top) in
      absurd (none (voxel_plain t o b row l ok deep r) (r.alike deep)))
]

-- what a node of the tree links is live, and its value lies within the bounds
pub node_live : (t : Tree) (n : Node) → IsLinked t → IsNodeOf t n → (id : ℕ)
    → link_of n ≡ Some id → IsLive t.groups id
node_live t n l (inl none) id link = cc
node_live t n l (inr (p, ok, is)) id link = linked_live t l p ok id (ap link_of is ∙ link)

pub node_within : (t : Tree) (n : Node) → IsLinked t → IsNodeOf t n → IsWithin t.odds (value_of n)
node_within t n l (inl none) = subst (λ m. IsWithin t.odds (value_of m)) (sym none) tt
node_within t n l (inr (p, ok, is)) = subst (λ m. IsWithin t.odds (value_of m)) is (l.leaves p)
