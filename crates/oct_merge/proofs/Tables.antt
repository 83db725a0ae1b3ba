-- How many voxels of a block are counted at each place of a table.
use Rattle.std.proofs.Common.{◌≡◌, ℕ, zero, suc, ◌+◌, ◌-◌, ◌*◌, ◌^◌, ◌<◌, ◌≤◌, Bool, true, false}
use Rattle.std.proofs.Common.{cond, refl, sym, ◌∙◌, ap, subst, arith, Some, None}
use Rattle.std.specs.Prelude.{◌&&◌, nat_eq, sum_by, count_by, map, replicate, List, Option, length}
use Rattle.std.specs.Prelude.{slice_index_or, IsTrue, ◌↔◌}
use Rattle.std.specs.List.{sum}
use Rattle.std.proofs.Math.Nat.{mul-le-mul}
use Rattle.std.proofs.lemmas.Bool.{false≢true, eq-eqb}
use Rattle.std.proofs.lemmas.List.Sums.{sum-map}
use Rattle.std.proofs.lemmas.Grind.{same_number_lists}
use Rattle.oct_key.specs.Voxel.{Voxel, IsInMap}
use Rattle.oct_key.specs.Block.{Cube, IsBlock, HoldsVoxel, child_of, root_block}
use Rattle.oct_key.specs.Boxes.{is_in_box, box_volume}
use Rattle.oct_key.proofs.Blocks.{depth_child_of, root_in_map}
use Rattle.oct_odds.specs.Update.{class_of}
use Rattle.oct_odds.specs.declared.event.Class.{Class}
use Rattle.oct_odds.specs.declared.event.Class.TheVariants.{Unknown, Free, Occupied}
use Rattle.oct_values.specs.Blocks.{child_numbers, voxels_below, voxels_of}
use Rattle.oct_values.specs.Classes.{Classes, classes_of}
use Rattle.oct_values.proofs.Axes.{sum_below, sum_below_none, sum_below_next}
use Rattle.oct_values.proofs.Eights.{sum_by-flat_map, same_eight}
use Rattle.oct_values.proofs.Held.{all_held}
use Rattle.oct_values.proofs.Sums.{All-follows, sum_by-same, sum_by-each_le, sum_by-none}
use Rattle.oct_values.proofs.Sums.{sum_by-turned, count_by-same}
use Rattle.oct_edit.proofs.Counts.{sum_below_eight}
use Rattle.oct_edit.proofs.Needs.{sum_below_le}
use Rattle.oct_arena.specs.declared.node.Node.{Node}
use Rattle.oct_arena.specs.Nodes.{link_of, value_of}
use Rattle.oct_tree.specs.Tree.{IsOver, Tree, IsLinked, value_at}
use Rattle.oct_tree.proofs.Over.{over_value}
use Rattle.oct_merge.specs.Pairs.{pair_of, is_counted, pairs_in, places, pair_counts}
use Rattle.oct_merge.specs.Shared.{shared_in}
use Rattle.oct_merge.proofs.Known.{over_low}
use Rattle.oct_merge.proofs.Shares.{box_in, box_whole}

-- those of a block are those of its children
pub pairs_of_children : (lo hi : Voxel) (a b : Classes) (n : ℕ) (c : Cube) → c.depth ≤ 15
    → pairs_in lo hi a b n c ≡ sum_below (λ i. pairs_in lo hi a b n (child_of c i)) 8
unfolding pairs_in voxels_below
pairs_of_children lo hi a b n c low =
    ap (λ h. count_by (is_counted lo hi a b n) (voxels_below h c)) level
    ∙ sum_by-flat_map (λ k. cond (is_counted lo hi a b n k) 1 0)
    (λ i. voxels_below (15 - c.depth) (child_of c i)) child_numbers
    ∙ same_eight
    (λ i. count_by (is_counted lo hi a b n) (voxels_below (15 - c.depth) (child_of c i)))
    (λ i. pairs_in lo hi a b n (child_of c i))
    (λ i li. ap (λ h. count_by (is_counted lo hi a b n) (voxels_below h (child_of c i)))
    (child_level i))
    ∙ sum_below_eight (λ i. pairs_in lo hi a b n (child_of c i))
  where
    level : 16 - c.depth ≡ suc (15 - c.depth)
    level = omega (arith, low)

    child_level : (i : ℕ) → 15 - c.depth ≡ 16 - (child_of c i).depth
    child_level i = (let deep = depth_child_of c i in omega (arith, deep))

weaker : (a b : Bool) → cond {A = ℕ} (a && b) 1 0 ≤ cond {A = ℕ} a 1 0
weaker true true = omega arith
weaker true false = omega arith
weaker false b = omega arith

-- they lie in the box
pub pairs_few : (lo hi : Voxel) (a b : Classes) (n : ℕ) (c : Cube) → IsBlock c
    → pairs_in lo hi a b n c ≤ shared_in lo hi c
unfolding pairs_in
pairs_few lo hi a b n c ok =
    subst (λ m. count_by (is_counted lo hi a b n) (voxels_of c) ≤ m) (box_in lo hi c ok.depth)
    (sum_by-each_le (λ k. cond {A = ℕ} (is_counted lo hi a b n k) 1 0)
    (λ k. cond {A = ℕ} (is_in_box lo hi k) 1 0) (voxels_of c)
    (All-follows (HoldsVoxel c)
    (λ k. cond {A = ℕ} (is_counted lo hi a b n k) 1 0
    ≤ cond {A = ℕ} (is_in_box lo hi k) 1 0)
    (voxels_of c) (λ k held. weaker (is_in_box lo hi k) (nat_eq (pair_of (a k) (b k)) n))
    (all_held c ok)))

-- where the block's voxels have one pair of classes, all that lie in
-- the box are counted at its place
pub pairs_plain : (lo hi : Voxel) (a b : Classes) (n : ℕ) (c : Cube) (x y : Class) → IsBlock c
    → ((k : Voxel) → HoldsVoxel c k → a k ≡ x) → ((k : Voxel) → HoldsVoxel c k → b k ≡ y)
    → pairs_in lo hi a b n c ≡ cond (nat_eq (pair_of x y) n) (shared_in lo hi c) 0
unfolding pairs_in
pairs_plain lo hi a b n c x y ok ha hb =
    count_by-same (is_counted lo hi a b n) (λ k. is_in_box lo hi k && nat_eq (pair_of x y) n)
    (voxels_of c)
    (All-follows (HoldsVoxel c)
    (λ k. is_counted lo hi a b n k ≡ (is_in_box lo hi k && nat_eq (pair_of x y) n)) (voxels_of c)
    (λ k held. rw (ha k held, hb k held) refl) (all_held c ok))
    ∙ by_test (nat_eq (pair_of x y) n)
  where
    both : (t : Bool) → (t && true) ≡ t
    both true = refl
    both false = refl

    neither : (t : Bool) → cond {A = ℕ} (t && false) 1 0 ≡ 0
    neither true = refl
    neither false = refl

    by_test : (test : Bool)
        → count_by (λ k. is_in_box lo hi k && test) (voxels_of c) ≡ cond test (shared_in lo hi c) 0
    by_test true =
        count_by-same (λ k. is_in_box lo hi k && true) (is_in_box lo hi) (voxels_of c)
        (All-follows (HoldsVoxel c) (λ k. (is_in_box lo hi k && true) ≡ is_in_box lo hi k)
        (voxels_of c) (λ k held. both (is_in_box lo hi k)) (all_held c ok))
        ∙ box_in lo hi c ok.depth
    by_test false =
        sum_by-same (λ k. cond {A = ℕ} (is_in_box lo hi k && false) 1 0) (λ k. 0) (voxels_of c)
        (All-follows (HoldsVoxel c) (λ k. cond {A = ℕ} (is_in_box lo hi k && false) 1 0 ≡ 0)
        (voxels_of c) (λ k held. neither (is_in_box lo hi k)) (all_held c ok))
        ∙ sum_by-none (voxels_of c)

-- the class of each voxel under a node that links no group
pub plain_class : (t : Tree) (c : Cube) (n : Node) → IsBlock c → IsOver t c n → link_of n ≡ None
    → (k : Voxel) → HoldsVoxel c k
    → classes_of t.odds (value_at t) k ≡ class_of t.odds (value_of n)
plain_class t c n ok over none k held =
    ap (class_of t.odds) (over_value t c n ok.depth over none k held)

-- each voxel of the box is counted at one place
one_place : (test : Bool) (x y : Class)
    → sum_by (λ n. cond {A = ℕ} (test && nat_eq (pair_of x y) n) 1 0) places ≡ cond test 1 0
one_place true Unknown Unknown = refl
one_place true Unknown Free = refl
one_place true Unknown Occupied = refl
one_place true Free Unknown = refl
one_place true Free Free = refl
one_place true Free Occupied = refl
one_place true Occupied Unknown = refl
one_place true Occupied Free = refl
one_place true Occupied Occupied = refl
one_place false x y = refl

pub all_pairs : (lo hi : Voxel) (a b : Classes) → IsInMap hi
    → sum_by (λ n. pairs_in lo hi a b n root_block) places ≡ box_volume lo hi
unfolding pairs_in
all_pairs lo hi a b v =
    sum_by-turned (λ n k. cond {A = ℕ} (is_counted lo hi a b n k) 1 0) places (voxels_of root_block)
    ∙ sum_by-same (λ k. sum_by (λ n. cond {A = ℕ} (is_counted lo hi a b n k) 1 0) places)
    (λ k. cond {A = ℕ} (is_in_box lo hi k) 1 0) (voxels_of root_block)
    (All-follows (HoldsVoxel root_block)
    (λ k. sum_by (λ n. cond {A = ℕ} (is_counted lo hi a b n k) 1 0) places
    ≡ cond {A = ℕ} (is_in_box lo hi k) 1 0)
    (voxels_of root_block)
    (λ k held. one_place (is_in_box lo hi k) (a k) (b k)) (all_held root_block root_in_map))
    ∙ box_in lo hi root_block (omega arith)
    ∙ box_whole lo hi v

pub box_few : (lo hi : Voxel) → IsInMap hi → box_volume lo hi ≤ 2 ^ 48
box_few lo hi v =
    let x : hi.x + 1 - lo.x ≤ 2 ^ 16 = (let l = v.x in omega (arith, l)) in
    let y : hi.y + 1 - lo.y ≤ 2 ^ 16 = (let l = v.y in omega (arith, l)) in
    let z : hi.z + 1 - lo.z ≤ 2 ^ 16 = (let l = v.z in omega (arith, l)) in
    let all : (hi.x + 1 - lo.x) * ((hi.y + 1 - lo.y) * (hi.z + 1 - lo.z))
    ≤ 2 ^ 16 * (2 ^ 16 * 2 ^ 16) =
    mul-le-mul x (mul-le-mul y z) in
    omega (arith, all)

pub root_few : (lo hi : Voxel) (a b : Classes) (n : ℕ) → IsInMap hi
    → pairs_in lo hi a b n root_block ≤ 2 ^ 48
root_few lo hi a b n v =
    let few = pairs_few lo hi a b n root_block root_in_map in
    let whole = box_whole lo hi v in
    let most = box_few lo hi v in
    omega (arith, few, whole, most)

-- a block whose node links a group in one of two trees is no voxel
pub both_low : (s t : Tree) (c : Cube) (m n : Node) (plain : Bool) → IsLinked s → IsLinked t
    → IsBlock c → IsOver s c m → IsOver t c n
    → plain ≡ false → IsTrue plain ↔ ((link_of m ≡ None) × (link_of n ≡ None)) → c.depth ≤ 15
both_low s t c m n plain ls lt ok here there fails is = go (link_of m) (link_of n) refl refl
  where
    go : (x y : Option ℕ) → link_of m ≡ x → link_of n ≡ y → c.depth ≤ 15
    go None None a b = absurd (false≢true (sym fails ∙ is.1 (a, b)))
    go (Some x) y a b = over_low s c m x ls ok here a
    go None (Some y) a b = over_low t c n y lt ok there b

-- nothing of a block that shares no voxel with the box is counted
pub counted_none : (lo hi : Voxel) (a b : Classes) (n : ℕ) (c : Cube) (voxels was : ℕ) → IsBlock c
    → voxels ≡ shared_in lo hi c → voxels ≡ 0
    → was ≡ was + pairs_in lo hi a b n c
counted_none lo hi a b n c voxels was ok is nothing =
    (let few = pairs_few lo hi a b n c ok in omega (arith, few, is, nothing))

-- a block of one pair of classes
pub counted_plain : (lo hi : Voxel) (s t : Tree) (n : ℕ) (c : Cube) (l r : Node) (x y : Class)
    (place voxels : ℕ)
    → IsBlock c → IsOver s c l → IsOver t c r
    → link_of l ≡ None → link_of r ≡ None → x ≡ class_of s.odds (value_of l)
    → y ≡ class_of t.odds (value_of r) → place ≡ pair_of x y → voxels ≡ shared_in lo hi c
    → pairs_in lo hi (classes_of s.odds (value_at s)) (classes_of t.odds (value_at t)) n c
    ≡ cond (nat_eq place n) voxels 0
counted_plain lo hi s t n c l r x y place voxels ok here there plain_l plain_r is_x is_y at share =
    pairs_plain lo hi (classes_of s.odds (value_at s)) (classes_of t.odds (value_at t)) n c x y ok
    (λ k held. plain_class s c l ok here plain_l k held ∙ sym is_x)
    (λ k held. plain_class t c r ok there plain_r k held ∙ sym is_y)
    ∙ ap (λ p. cond (nat_eq p n) (shared_in lo hi c) 0) (sym at)
    ∙ ap (λ v. cond (nat_eq place n) v 0) (sym share)

pub counted_room : (was voxels place pairs : ℕ) → pairs ≡ cond (nat_eq place place) voxels 0
    → was + pairs < 2 ^ 64 → was + voxels < 2 ^ 64
counted_room was voxels place pairs is room =
    let all : pairs ≡ voxels = is ∙ ap (λ test. cond test voxels 0) (eq-eqb place place refl) in
    omega (arith, all, room)

-- child after child
pub child_room : (lo hi : Voxel) (a b : Classes) (n i : ℕ) (c : Cube) (was now : ℕ) → c.depth ≤ 15
    → i < 8 → was + pairs_in lo hi a b n c < 2 ^ 64
    → now ≡ was + sum_below (λ j. pairs_in lo hi a b n (child_of c j)) i
    → now + pairs_in lo hi a b n (child_of c i) < 2 ^ 64
child_room lo hi a b n i c was now low few room is =
    let all = pairs_of_children lo hi a b n c low in
    let here = sum_below_next (λ j. pairs_in lo hi a b n (child_of c j)) i in
    let rest =
    sum_below_le (λ j. pairs_in lo hi a b n (child_of c j)) (i + 1) 8 (omega (arith, few)) in
    omega (arith, all, here, rest, room, is)

pub child_first : (f : ℕ → ℕ) (was : ℕ) → was ≡ was + sum_below f 0
child_first f was = (let none = sum_below_none f in omega (arith, none))

pub child_next : (f : ℕ → ℕ) (was now new i : ℕ) → now ≡ was + sum_below f i → new ≡ now + f i
    → new ≡ was + sum_below f (i + 1)
child_next f was now new i is more =
    (let next = sum_below_next f i in omega (arith, is, more, next))

pub child_last : (lo hi : Voxel) (a b : Classes) (n i : ℕ) (c : Cube) (was now : ℕ) → c.depth ≤ 15
    → i ≡ 8
    → now ≡ was + sum_below (λ j. pairs_in lo hi a b n (child_of c j)) i
    → now ≡ was + pairs_in lo hi a b n c
child_last lo hi a b n i c was now low end is =
    is ∙ ap (λ m. was + sum_below (λ j. pairs_in lo hi a b n (child_of c j)) m) end
    ∙ ap (λ m. was + m) (sym (pairs_of_children lo hi a b n c low))

-- where there was nothing, there is what is added
pub from_none : (new was more : ℕ) → new ≡ was + more → was ≡ 0 → new ≡ more
from_none new was more is none = omega (arith, is, none)

-- an empty table has no counts
pub zeros : (n : ℕ) → n < 9 → ◌≡◌ {A = ℕ} (slice_index_or (replicate 9 0) n 0) 0
zeros zero l = refl
zeros (suc zero) l = refl
zeros (suc (suc zero)) l = refl
zeros (suc (suc (suc zero))) l = refl
zeros (suc (suc (suc (suc zero)))) l = refl
zeros (suc (suc (suc (suc (suc zero))))) l = refl
zeros (suc (suc (suc (suc (suc (suc zero)))))) l = refl
zeros (suc (suc (suc (suc (suc (suc (suc zero))))))) l = refl
zeros (suc (suc (suc (suc (suc (suc (suc (suc zero)))))))) l = refl
zeros (suc (suc (suc (suc (suc (suc (suc (suc (suc k))))))))) l = absurd (omega (arith, l))

-- a table of no voxels has room for all of a box
pub empty_room : (lo hi : Voxel) (a b : Classes) (n : ℕ) → IsInMap hi → n < 9
    → slice_index_or (replicate 9 0) n 0 + pairs_in lo hi a b n root_block < 2 ^ 64
empty_room lo hi a b n v l =
    (let none = zeros n l in let few = root_few lo hi a b n v in omega (arith, none, few))

-- the whole table
pub whole_table : (lo hi : Voxel) (a b : Classes) (counts : List ℕ) → length counts ≡ 9
    → ((n : ℕ) → n < 9 → slice_index_or counts n 0 ≡ pairs_in lo hi a b n root_block)
    → counts ≡ pair_counts lo hi a b
unfolding pair_counts
whole_table lo hi a b counts nine each =
    same_number_lists counts (map (λ n. pairs_in lo hi a b n root_block) places) nine at
  where
    nth : (k : ℕ) → k < 9
        → slice_index_or (map (λ n. pairs_in lo hi a b n root_block) places) k 0
        ≡ pairs_in lo hi a b k root_block
    nth zero l = refl
    nth (suc zero) l = refl
    nth (suc (suc zero)) l = refl
    nth (suc (suc (suc zero))) l = refl
    nth (suc (suc (suc (suc zero)))) l = refl
    nth (suc (suc (suc (suc (suc zero))))) l = refl
    nth (suc (suc (suc (suc (suc (suc zero)))))) l = refl
    nth (suc (suc (suc (suc (suc (suc (suc zero))))))) l = refl
    nth (suc (suc (suc (suc (suc (suc (suc (suc zero)))))))) l = refl
    nth (suc (suc (suc (suc (suc (suc (suc (suc (suc k))))))))) l = absurd (omega (arith, l))

    at : (k : ℕ) → k < length counts
        → slice_index_or counts k 0
        ≡ slice_index_or (map (λ n. pairs_in lo hi a b n root_block) places) k 0
    at k l = each k (omega (arith, l, nine)) ∙ sym (nth k (omega (arith, l, nine)))

pub table_total : (lo hi : Voxel) (a b : Classes) (counts : List ℕ) → IsInMap hi
    → counts ≡ pair_counts lo hi a b → sum counts ≡ box_volume lo hi
unfolding pair_counts
table_total lo hi a b counts v is =
    ap sum is ∙ sum-map (λ n. pairs_in lo hi a b n root_block) places ∙ all_pairs lo hi a b v
