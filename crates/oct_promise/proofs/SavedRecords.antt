-- How long the canonical file of values is, by the groups that they need.
use Rattle.std.proofs.Common.{◌≡◌, ℕ, zero, suc, ◌+◌, ◌*◌, ◌≤◌, ◌^◌, List, [], ◌∷◌, length}
use Rattle.std.proofs.Common.{length-append, Bool, true, false, cond, Option, Some, None, refl, sym}
use Rattle.std.proofs.Common.{ap, subst, ◌∙◌, arith}
use Rattle.std.specs.Prelude.{not, sum_by}
use Rattle.std.specs.Fmt.{decimal}
use Rattle.std.specs.List.{flat_map}
use Rattle.std.proofs.lemmas.List.Sums.{sum_by-cons}
use Rattle.oct_key.specs.Block.{Cube, IsBlock, child_of, root_block, lowest_voxel}
use Rattle.oct_key.specs.Values.{Values}
use Rattle.oct_key.specs.Voxel.{IsResolution}
use Rattle.oct_key.proofs.Blocks.{child_in_map, root_in_map}
use Rattle.oct_key.proofs.Held.{child_depths, held_by_parent}
use Rattle.oct_odds.specs.Odds.{Odds}
use Rattle.oct_odds.specs.Update.{class_of}
use Rattle.oct_odds.specs.declared.event.Class.{Class}
use Rattle.oct_bt.specs.Canonical.{data_of_child, data_below, is_unknown, canonical_data}
use Rattle.oct_bt.specs.Canonical.{canonical_size}
use Rattle.oct_bt.specs.File.{text_of_lines, header_lines, header_text, bt_text}
use Rattle.oct_bt.proofs.Alike.{class_of_all}
use Rattle.oct_bt.proofs.FilesBack.{header_texts}
use Rattle.oct_bt.proofs.Sizes.{accepted_few}
use Rattle.oct_bt.proofs.Standing.{canonical_accepted}
use Rattle.oct_values.specs.Blocks.{child_numbers}
use Rattle.oct_values.specs.Classes.{Classes, classes_of, class_of_block}
use Rattle.oct_values.specs.Counts.{is_uniform, group_count}
use Rattle.oct_values.proofs.Eights.{none_of_eight}
use Rattle.oct_values.proofs.Listed.{sum_of_blocks}
use Rattle.oct_values.proofs.Uniform.{value_of_uniform}
use Rattle.oct_promise.proofs.LoadedGroups.{varied, none_varied}

-- texts in a row, each within a bound of its own
flat_few : (f : ℕ → List ℕ) (g : ℕ → ℕ) (list : List ℕ) → ((i : ℕ) → length (f i) ≤ 2 * g i)
    → length (flat_map f list) ≤ 2 * sum_by g list
flat_few f g [] few = omega arith
flat_few f g (i ∷ more) few =
    let parts = length-append (f i) (flat_map f more) in
    let sums = sum_by-cons g i more in
    omega (arith, parts, sums, few i, flat_few f g more few)

-- a block of one value is of one class
uniform_class : (odds : Odds) (values : Values) (b : Cube) → IsBlock b → is_uniform values b ≡ true
    → class_of_block (classes_of odds values) b ≡ Some (class_of odds (values (lowest_voxel b)))
uniform_class odds values b ok one =
    class_of_all (classes_of odds values) b (class_of odds (values (lowest_voxel b))) ok
    (λ k held. ap (class_of odds) (value_of_uniform values b k ok one held))

-- so one that isn't of one class isn't of one value
several_values : (odds : Odds) (values : Values) (b : Cube) → IsBlock b
    → class_of_block (classes_of odds values) b ≡ None
    → cond {A = ℕ} (not (is_uniform values b)) 1 0 ≡ 1
several_values odds values b ok several = by_test (is_uniform values b) refl
  where
    by_test : (t : Bool) → is_uniform values b ≡ t → cond {A = ℕ} (not t) 1 0 ≡ 1
    by_test false e = refl
    by_test true e = (let one = uniform_class odds values b ok e in
        let both : Some (class_of odds (values (lowest_voxel b))) ≡ None = sym one ∙ several in
        absurd cc)

-- a block's own data has two bytes at most for each block, of it and those in it, that isn't of one
-- value
data_few : (odds : Odds) (values : Values) (h : ℕ) (b : Cube) → b.depth + h ≡ 16 → IsBlock b →
    length (data_of_child (class_of_block (classes_of odds values) b)
    (data_below (classes_of odds values) h b)) ≤ 2 * varied values h b
unfolding data_below
data_few odds values zero b d ok = by_class (class_of_block (classes_of odds values) b)
  where
    by_class : (o : Option Class) → length (data_of_child o []) ≤ 2 * varied values zero b
    by_class (Some c) = omega arith
    by_class None = omega arith
data_few odds values (suc h) b d ok =
    by_class (class_of_block (classes_of odds values) b) refl
    (λ i. data_few odds values h (child_of b i) (child_depths b h i d)
    (child_in_map b i ok (omega arith)))
  where
    classes : Classes
    classes = classes_of odds values

    below : ℕ → List ℕ
    below i = data_of_child (class_of_block classes (child_of b i))
        (data_below classes h (child_of b i))

    by_class : (o : Option Class) → class_of_block classes b ≡ o
        → ((i : ℕ) → length (below i) ≤ 2 * varied values h (child_of b i)) →
        length (data_of_child o (data_below classes (suc h) b)) ≤ 2 * varied values (suc h) b
    by_class (Some c) e inside = omega arith
    by_class None e inside =
        let all = sum_of_blocks (λ c. cond (not (is_uniform values c)) 1 0) h b in
        let here = several_values odds values b ok e in
        let rest = flat_few below (λ i. varied values h (child_of b i)) child_numbers inside in
        omega (arith, all, here, rest)

-- the canonical data has two bytes at most for each group that the values need, or two
pub records_few : (odds : Odds) (values : Values) (n : ℕ) → 1 ≤ n → group_count values ≤ n
    → length (canonical_data (classes_of odds values)) ≤ 2 * n
unfolding canonical_data data_below group_count
records_few odds values n some few = by_unknown (is_unknown classes)
  where
    classes : Classes
    classes = classes_of odds values

    below : ℕ → List ℕ
    below i = data_of_child (class_of_block classes (child_of root_block i))
        (data_below classes 15 (child_of root_block i))

    sum : ℕ
    sum = sum_by (λ i. varied values 15 (child_of root_block i)) child_numbers

    within : length (flat_map below child_numbers) ≤ 2 * sum
    within = flat_few below (λ i. varied values 15 (child_of root_block i)) child_numbers
        (λ i. data_few odds values 15 (child_of root_block i) (child_depths root_block 15 i refl)
        (child_in_map root_block i root_in_map (omega arith)))

    by_test : (t : Bool) → is_uniform values root_block ≡ t → 1 + sum ≤ n
    by_test true e =
        let none = none_of_eight (λ i. varied values 15 (child_of root_block i))
        (λ i li. none_varied values (values (lowest_voxel root_block)) 15 (child_of root_block i)
        (child_depths root_block 15 i refl) (child_in_map root_block i root_in_map (omega arith))
        (λ k held. value_of_uniform values root_block k root_in_map e
        (held_by_parent root_block i k (omega arith) li held))) in
        omega (arith, none, some)
    by_test false e =
        let all = sum_of_blocks (λ c. cond (not (is_uniform values c)) 1 0) 15 root_block in
        let here : cond {A = ℕ} (not (is_uniform values root_block)) 1 0 ≡ 1 = rw e refl in
        omega (arith, all, here, few)

    by_unknown : (t : Bool) → length (cond t [] (data_below classes 16 root_block)) ≤ 2 * n
    by_unknown true = omega arith
    by_unknown false = (let one = by_test (is_uniform values root_block) refl in
        omega (arith, one, within))

-- the header is short
header_few : (res : ℕ) (classes : Classes) → IsResolution res
    → length (header_text (canonical_size classes) res) ≤ 65536
unfolding header_text
header_few res classes is =
    let t = header_texts (canonical_size classes) res
    (accepted_few (canonical_size classes) (canonical_data classes) (canonical_accepted classes))
    is in
    subst (λ b. length (text_of_lines (header_lines (decimal (canonical_size classes)) b)) ≤ 65536)
    (sym t.res_is)
    (subst (λ a. length (text_of_lines (header_lines a (t.e ∷ t.es))) ≤ 65536) (sym t.size_is)
    t.few)

-- and the file isn't too large to be loaded
pub file_few : (odds : Odds) (values : Values) (res n : ℕ) → IsResolution res → 1 ≤ n → n ≤ 2 ^ 26
    → group_count values ≤ n → length (bt_text res (classes_of odds values)) ≤ 2 ^ 30
unfolding bt_text
file_few odds values res n is some small few =
    let header = header_few res (classes_of odds values) is in
    let records = records_few odds values n some few in
    let parts = length-append (header_text (canonical_size (classes_of odds values)) res)
    (canonical_data (classes_of odds values)) in
    omega (arith, header, records, parts, small)
