-- That the values which node data gives need no more groups than it has records.
use Rattle.std.proofs.Common.{◌≡◌, ℕ, zero, suc, ◌+◌, ◌*◌, ◌≤◌, List, Bool, true, false, cond}
use Rattle.std.proofs.Common.{length, inl, inr, refl, ◌∙◌, ap, arith}
use Rattle.std.specs.Prelude.{not, sum_by, count_by}
use Rattle.std.proofs.lemmas.List.Sums.{sum_by-cons}
use Rattle.oct_key.specs.Block.{Cube, IsBlock, HoldsVoxel, child_of, root_block}
use Rattle.oct_key.specs.Values.{Values}
use Rattle.oct_key.specs.Voxel.{Voxel, IsInMap}
use Rattle.oct_key.proofs.Blocks.{child_in_map, root_in_map}
use Rattle.oct_key.proofs.Held.{child_depths, held_by_parent, held_in_map}
use Rattle.oct_odds.specs.declared.event.Class.{Class}
use Rattle.oct_odds.specs.declared.event.Class.TheVariants.{Unknown}
use Rattle.oct_odds.specs.Update.{Value}
use Rattle.oct_bt.specs.NodeData.{IsDataOf}
use Rattle.oct_bt.specs.Records.{Entries, End, Plain, Record, AreEntries, record_count}
use Rattle.oct_bt.specs.Records.{record_total, class_by}
use Rattle.oct_bt.proofs.Canonicals.{Gives, child_height, child_is_block, gives_children}
use Rattle.oct_bt.proofs.Fills.{flat_counted}
use Rattle.oct_bt.proofs.Least.{plain_gives, record_gives, behind_plain, behind_record}
use Rattle.oct_bt.proofs.Numbering.{numbers_from}
use Rattle.oct_values.specs.Blocks.{child_numbers, blocks_below}
use Rattle.oct_values.specs.Classes.{Classes}
use Rattle.oct_values.specs.Counts.{is_uniform, group_count}
use Rattle.oct_values.proofs.Eights.{none_of_eight}
use Rattle.oct_values.proofs.Listed.{sum_of_blocks, sum_of_no_blocks}
use Rattle.oct_values.proofs.Uniform.{uniform_of}

-- how many blocks aren't uniform among a block and those in it, of this many depths from its own on
abbrev pub varied : Values → ℕ → Cube → ℕ
varied values h b = count_by (λ c. not (is_uniform values c)) (blocks_below h b)

-- none where all voxels of the block have one value
pub none_varied : (values : Values) (value : Value) (h : ℕ) (b : Cube) → b.depth + h ≡ 16
    → IsBlock b → ((k : Voxel) → HoldsVoxel b k → values k ≡ value) → varied values h b ≡ 0
none_varied values value zero b d ok same =
    sum_of_no_blocks (λ c. cond (not (is_uniform values c)) 1 0) b
none_varied values value (suc h) b d ok same =
    let all = sum_of_blocks (λ c. cond (not (is_uniform values c)) 1 0) h b in
    let here : cond {A = ℕ} (not (is_uniform values b)) 1 0 ≡ 0 =
    (let one : is_uniform values b ≡ true = uniform_of values b value ok same in rw one refl) in
    let rest = none_of_eight (λ i. varied values h (child_of b i))
    (λ i li. none_varied values value h (child_of b i) (child_depths b h i d)
    (child_in_map b i ok (omega arith))
    (λ k held. same k (held_by_parent b i k (omega arith) li held))) in
    omega (arith, all, here, rest)

one_at_most : (t : Bool) → cond {A = ℕ} t 1 0 ≤ 1
one_at_most true = omega arith
one_at_most false = omega arith

-- the blocks in the children that entries stand for, of which no more aren't uniform than there are
-- records
groups_from : (es : Entries) (classes : Classes) (value : Class → Value) (h d m n : ℕ) (b : Cube)
    → b.depth ≡ d → d + suc h ≡ 16 → IsBlock b → AreEntries d n es →
    Gives classes b d m n es
    → sum_by (λ i. varied (λ k. value (classes k)) h (child_of b i)) (numbers_from m n)
    ≤ record_count es
unfolding numbers_from record_count
groups_from End classes value h d m zero b e all ok are gives = omega arith
groups_from End classes value h d m (suc n) b e all ok are gives = absurd are
groups_from (Plain c es) classes value h d m zero b e all ok are gives = absurd are
groups_from (Plain c es) classes value h d m (suc n) b e all ok are gives =
    let sums = sum_by-cons (λ i. varied (λ k. value (classes k)) h (child_of b i)) m
    (numbers_from (suc m) n) in
    let high = child_height b d h m e all in
    let here = none_varied (λ k. value (classes k)) (value c) h (child_of b m)
    (omega (arith, high.0, high.1)) (child_is_block b d h m e all ok)
    (λ k held. ap value (plain_gives classes b d m n c es gives k held)) in
    let rest = groups_from es classes value h d (suc m) n b e all ok are
    (behind_plain classes b d m n c es gives) in
    omega (arith, sums, here, rest)
groups_from (Record r es) classes value h d m zero b e all ok are gives = absurd are
groups_from (Record r es) classes value zero d m (suc n) b e all ok (low, inner, are) gives =
    absurd (omega arith)
groups_from (Record r es) classes value (suc h) d m (suc n) b e all ok (low, inner, are) gives =
    let sums = sum_by-cons (λ i. varied (λ k. value (classes k)) (suc h) (child_of b i)) m
    (numbers_from (suc m) n) in
    let high = child_height b d (suc h) m e all in
    let block = child_is_block b d (suc h) m e all ok in
    let below = sum_of_blocks (λ c. cond (not (is_uniform (λ k. value (classes k)) c)) 1 0) h
    (child_of b m) in
    let here = one_at_most (not (is_uniform (λ k. value (classes k)) (child_of b m))) in
    let inside = groups_from r classes value h (suc d) 0 8 (child_of b m) high.0 high.1 block inner
    (gives_children classes (child_of b m) (suc d) r high.0 (omega arith)
    (record_gives classes b d m n r es gives)) in
    let rest = groups_from es classes value (suc h) d (suc m) n b e all ok are
    (behind_record classes b d m n r es gives) in
    omega (arith, sums, below, here, inside, rest)

-- the values that are given to the classes of node data need no more groups than it has records
pub groups_of_data : (classes : Classes) (value : Class → Value) (codes : List ℕ)
    → IsDataOf classes codes → group_count (λ k. value (classes k)) ≤ record_total codes
unfolding group_count numbers_from
groups_of_data classes value codes (inl (empty, unknown)) =
    let none = none_varied (λ k. value (classes k)) (value Unknown) 16 root_block refl root_in_map
    (λ k held. ap value (unknown k (held_in_map root_block k root_in_map held))) in
    omega (arith, none)
groups_of_data classes value codes (inr (r, is, text, gives)) =
    let all = sum_of_blocks (λ c. cond (not (is_uniform (λ k. value (classes k)) c)) 1 0) 15
    root_block in
    let here = one_at_most (not (is_uniform (λ k. value (classes k)) root_block)) in
    let inside = groups_in_record r is gives in
    let long : length codes ≡ 2 * (1 + record_count r) = ap length text ∙ flat_counted r in
    omega (arith, all, here, inside, long)
  where
    groups_in_record : (r : Entries) → AreEntries 0 8 r
        → ((k : Voxel) → IsInMap k → class_by 0 r k ≡ classes k)
        → sum_by (λ i. varied (λ k. value (classes k)) 15 (child_of root_block i)) child_numbers
        ≤ record_count r
    groups_in_record r is gives =
        groups_from r classes value 15 0 0 8 root_block refl refl root_in_map is
        (gives_children classes root_block 0 r refl (omega arith)
        (λ k held. gives k (held_in_map root_block k root_in_map held)))
