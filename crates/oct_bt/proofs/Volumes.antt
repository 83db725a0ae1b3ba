-- The voxels of a class in a block are those that its record gives it.
use Rattle.std.proofs.Common.{◌≡◌, ℕ, zero, suc, ◌+◌, ◌-◌, ◌*◌, ◌^◌, ◌<◌, ◌≤◌, Bool, true, false}
use Rattle.std.proofs.Common.{cond, List, [], ◌++◌, length, inl, inr, append-nil, refl, sym, subst}
use Rattle.std.proofs.Common.{◌∙◌, ap, arith}
use Rattle.std.specs.Prelude.{sum_by, count_by}
use Rattle.std.specs.List.{All}
use Rattle.oct_key.specs.Voxel.{Voxel, IsInMap}
use Rattle.oct_key.specs.Block.{Cube, IsBlock, HoldsVoxel, child_of, child_index_of, root_block}
use Rattle.oct_key.proofs.Blocks.{child_holds, child_in_map, depth_child_of, root_in_map}
use Rattle.oct_key.proofs.Held.{held_in_map}
use Rattle.oct_odds.specs.declared.event.Class.{Class}
use Rattle.oct_odds.specs.declared.event.Class.TheVariants.{Unknown}
use Rattle.oct_values.specs.Blocks.{child_numbers, voxels_below, voxels_of}
use Rattle.oct_values.specs.Classes.{Classes, is_same_class}
use Rattle.oct_values.proofs.Eights.{sum_by-flat_map, sum_of_eight, same_eight}
use Rattle.oct_values.proofs.Sums.{All-follows, count_by-same}
use Rattle.oct_values.proofs.Held.{all_held}
use Rattle.oct_bt.specs.NodeData.{IsDataOf}
use Rattle.oct_bt.specs.Records.{Entries, End, Plain, Record, AreEntries, IsRecord, flat, class_in}
use Rattle.oct_bt.specs.Records.{class_by}
use Rattle.oct_bt.specs.Voxels.{class_voxels, leaf_voxels}

-- all voxels of a block, or none
all_or_none : (test : Bool) (h : ℕ) (b : Cube) → count_by (λ k. test) (voxels_below h b)
    ≡ cond {A = ℕ} test (8 ^ h) 0
unfolding voxels_below
all_or_none true zero b = refl
all_or_none false zero b = refl
all_or_none test (suc h) b =
    sum_by-flat_map (λ k. cond {A = ℕ} test 1 0) (λ i. voxels_below h (child_of b i)) child_numbers
    ∙ same_eight (λ i. count_by (λ k. test) (voxels_below h (child_of b i)))
    (λ i. cond {A = ℕ} test (8 ^ h) 0)
    (λ i l. all_or_none test h (child_of b i)) ∙ sum_of_eight (λ i. cond {A = ℕ} test (8 ^ h) 0)
    ∙ eightfold test (8 ^ h) (8 ^ suc h) (omega arith)
  where
    eightfold : (test : Bool) (n m : ℕ) → m ≡ 8 * n
        → cond {A = ℕ} test n 0 + cond test n 0 + cond test n 0 + cond test n 0 + cond test n 0
        + cond test n 0 + cond test n 0 + cond test n 0
        ≡ cond {A = ℕ} test m 0
    eightfold true n m e = omega (arith, e)
    eightfold false n m e = refl

-- a sum over this many numbers from one on
unfoldable sum_from : ℕ → ℕ → (ℕ → ℕ) → ℕ
sum_from i zero f = 0
sum_from i (suc n) f = f i + sum_from (suc i) n f

whole_sum : (f : ℕ → ℕ) → sum_by f child_numbers ≡ sum_from 0 8 f
unfolding sum_from
whole_sum f = (let all = sum_of_eight f in omega (arith, all))

-- the voxels of a class in child i of a block
in_child : Class → (Voxel → Class) → ℕ → Cube → ℕ → ℕ
in_child class classes h b i = count_by (λ k. is_same_class (classes k) class)
    (voxels_below h (child_of b i))

-- where a record is said to give the children of a block the classes of its entries, it gives the
-- block those
volume_by_children : (class : Class) (d h : ℕ) (b : Cube) (r : Entries) → b.depth ≡ d → d + h ≡ 15
    → IsBlock b
    → ((f : ℕ → ℕ) → ((i : ℕ) → i < 8 → f i ≡ in_child class (λ k. class_in d r i k) h b i)
    → sum_from 0 8 f ≡ class_voxels class d r)
    → count_by (λ k. is_same_class (class_by d r k) class) (voxels_below (suc h) b)
    ≡ class_voxels class d r
unfolding voxels_below in_child
volume_by_children class d h b r deep high ok sums =
    sum_by-flat_map (λ k. cond {A = ℕ} (is_same_class (class_by d r k) class) 1 0)
    (λ i. voxels_below h (child_of b i)) child_numbers
    ∙ whole_sum (in_child class (class_by d r) h b)
    ∙ sums (in_child class (class_by d r) h b) each
  where
    each : (i : ℕ) → i < 8 → in_child class (class_by d r) h b i
        ≡ in_child class (λ k. class_in d r i k) h b i
    each i l =
        let down = depth_child_of b i in
        let above : 16 - (child_of b i).depth ≡ h = omega (arith, down, deep, high) in
        let held : All (HoldsVoxel (child_of b i)) (voxels_below h (child_of b i)) =
        subst (λ (n : ℕ). All (HoldsVoxel (child_of b i)) (voxels_below n (child_of b i))) above
        (all_held (child_of b i) (child_in_map b i ok (omega (arith, deep, high)))) in
        count_by-same (λ k. is_same_class (class_by d r k) class)
        (λ k. is_same_class (class_in d r i k) class) (voxels_below h (child_of b i))
        (All-follows (HoldsVoxel (child_of b i))
        (λ k. is_same_class (class_by d r k) class ≡ is_same_class (class_in d r i k) class)
        (voxels_below h (child_of b i))
        (λ k there. ap (λ (n : ℕ). is_same_class (class_in d r n k) class)
        (let index = ((child_holds b i k (omega (arith, deep, high)) l).0 there).1 in
        subst (λ (n : ℕ). child_index_of n k ≡ i) deep index)) held)

-- the entries of a block from child i on
entries_sum : (class : Class) (es : Entries) (d n i h : ℕ) (b : Cube) (f : ℕ → ℕ) → b.depth ≡ d
    → d + h ≡ 15 → IsBlock b → i + n ≤ 8 → AreEntries d n es
    → ((j : ℕ) → j < n → f (i + j) ≡ in_child class (λ k. class_in d es j k) h b (i + j))
    → sum_from i n f ≡ class_voxels class d es
unfolding sum_from class_voxels class_in in_child
entries_sum class End d zero i h b f deep high ok few are each = refl
entries_sum class End d (suc n) i h b f deep high ok few are each = absurd are
entries_sum class (Plain c es) d zero i h b f deep high ok few are each = absurd are
entries_sum class (Plain c es) d (suc n) i h b f deep high ok few are each =
    let at : i + 0 ≡ i = omega arith in
    let height : h ≡ 15 - d = omega (arith, high) in
    let first : f i ≡ leaf_voxels class d c = ap f (sym at) ∙ each 0 (omega arith)
    ∙ all_or_none (is_same_class c class) h (child_of b (i + 0))
    ∙ ap (λ (n : ℕ). cond {A = ℕ} (is_same_class c class) (8 ^ n) 0) height in
    let later : sum_from (suc i) n f ≡ class_voxels class d es =
    entries_sum class es d n (suc i) h b f deep high ok (omega (arith, few)) are
    (λ j l. (let next : suc i + j ≡ i + suc j = omega arith in
    ap f next ∙ each (suc j) (omega (arith, l)) ∙ ap (in_child class (λ k. class_in d es j k) h b)
    (sym next))) in
    rw (first, later) refl
entries_sum class (Record r es) d zero i h b f deep high ok few are each = absurd are
entries_sum class (Record r es) d (suc n) i zero b f deep high ok few (low, inner, are) each =
    absurd (omega (arith, low, high))
entries_sum class (Record r es) d (suc n) i (suc h) b f deep high ok few (low, inner, are) each =
    let at : i + 0 ≡ i = omega arith in
    let down = depth_child_of b (i + 0) in
    let below : (child_of b (i + 0)).depth ≡ suc d = omega (arith, down, deep) in
    let more : suc d + h ≡ 15 = omega (arith, high) in
    let in_map : IsBlock (child_of b (i + 0)) = child_in_map b (i + 0) ok (omega (arith, deep, low))
    in
    let first : f i ≡ class_voxels class (suc d) r = ap f (sym at) ∙ each 0 (omega arith)
    ∙ volume_by_children class (suc d) h (child_of b (i + 0)) r below more in_map
    (λ g inside. entries_sum class r (suc d) 8 0 h (child_of b (i + 0)) g below more in_map
    (omega arith) inner
    (λ j l. (let same : j ≡ 0 + j = omega arith in
    ap g (sym same) ∙ inside j l
    ∙ ap (in_child class (λ k. class_in (suc d) r j k) h (child_of b (i + 0))) same))) in
    let later : sum_from (suc i) n f ≡ class_voxels class d es =
    entries_sum class es d n (suc i) (suc h) b f deep high ok (omega (arith, few)) are
    (λ j l. (let next : suc i + j ≡ i + suc j = omega arith in
    ap f next ∙ each (suc j) (omega (arith, l))
    ∙ ap (in_child class (λ k. class_in d es j k) (suc h) b) (sym next))) in
    rw (first, later) refl

-- the record of the whole map gives it the voxels that are counted
root_sum : (class : Class) (r : Entries) → IsRecord 0 r
    → count_by (λ k. is_same_class (class_by 0 r k) class) (voxels_of root_block)
    ≡ class_voxels class 0 r
root_sum class r is =
    volume_by_children class 0 15 root_block r refl refl root_in_map
    (λ f each. entries_sum class r 0 8 0 15 root_block f refl refl root_in_map (omega arith) is
    (λ j l. (let same : j ≡ 0 + j = omega arith in
    ap f (sym same) ∙ each j l ∙ ap (in_child class (λ k. class_in 0 r j k) 15 root_block) same)))

-- classes that are equal on the map have as many voxels of a class
same_count : (class : Class) (c e : Classes) → ((k : Voxel) → IsInMap k → c k ≡ e k)
    → count_by (λ k. is_same_class (c k) class) (voxels_of root_block)
    ≡ count_by (λ k. is_same_class (e k) class) (voxels_of root_block)
same_count class c e same =
    count_by-same (λ k. is_same_class (c k) class) (λ k. is_same_class (e k) class)
    (voxels_of root_block)
    (All-follows (HoldsVoxel root_block)
    (λ k. is_same_class (c k) class ≡ is_same_class (e k) class) (voxels_of root_block)
    (λ k there. ap (λ x. is_same_class x class)
    (same k (held_in_map root_block k root_in_map there))) (all_held root_block root_in_map))

-- what a record's count says of the classes of the data
pub counted_voxels : (class : Class) (classes : Classes) (codes : List ℕ) (n : ℕ)
    → IsDataOf classes codes → 0 < length codes
    → ((r : Entries) (tail : List ℕ) → IsRecord 0 r → codes ≡ flat r ++ tail
    → n ≡ class_voxels class 0 r)
    → n ≡ count_by (λ k. is_same_class (classes k) class) (voxels_of root_block)
counted_voxels class classes codes n (inl (empty, all)) some counted =
    (let none : length codes ≡ 0 = ap length empty in absurd (omega (arith, none, some)))
counted_voxels class classes codes n (inr (r, is, text, gives)) some counted =
    counted r [] is (text ∙ sym (append-nil (flat r))) ∙ sym (root_sum class r is)
    ∙ same_count class (class_by 0 r) classes gives

-- without data there is no voxel of a known class
pub no_voxels : (class : Class) (classes : Classes) (codes : List ℕ) → is_same_class Unknown class
    ≡ false → IsDataOf classes codes → length codes ≡ 0
    → 0 ≡ count_by (λ k. is_same_class (classes k) class) (voxels_of root_block)
no_voxels class classes codes known (inl (empty, all)) none =
    sym (same_count class classes (λ k. Unknown) all
    ∙ ap (λ (test : Bool). count_by (λ k. test) (voxels_of root_block)) known
    ∙ all_or_none false 16 root_block)
no_voxels class classes codes known (inr (r, is, text, gives)) none =
    (let some : length codes ≡ length (flat r) = ap length text in
    absurd (omega (arith, some, none)))
