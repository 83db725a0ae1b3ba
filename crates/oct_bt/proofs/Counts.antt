-- Counting the data of a block, from its last child to its first.
use Rattle.std.proofs.Common.{◌≡◌, ℕ, zero, suc, ◌+◌, ◌-◌, ◌^◌, ◌<◌, ◌≤◌, Option, Some, None}
use Rattle.std.proofs.Common.{length, refl, sym, subst, ◌∙◌, ap, arith}
use Rattle.oct_key.specs.Block.{Cube, child_of}
use Rattle.oct_key.proofs.Blocks.{child_in_map, depth_child_of}
use Rattle.oct_odds.specs.declared.event.Class.{Class}
use Rattle.oct_odds.specs.declared.event.Class.TheVariants.{Unknown, Free, Occupied}
use Rattle.oct_bt.specs.declared.mixture.Mixture.{Mixture}
use Rattle.oct_bt.specs.declared.mixture.Mixture.TheVariants.{Pure, Mixed}
use Rattle.oct_values.specs.Classes.{Classes, class_of_block}
use Rattle.oct_bt.specs.Records.{Entries, End, Plain, Record, IsRecord, flat, known_entries}
use Rattle.oct_bt.specs.Records.{record_count}
use Rattle.oct_bt.specs.Canonical.{data_below, known_codes}
use Rattle.oct_bt.specs.Mixtures.{class_of_mixture, entry_nodes, IsCounted}
use Rattle.oct_bt.proofs.Numbering.{numbers_from}
use Rattle.oct_bt.proofs.Alike.{class_of_voxel}
use Rattle.oct_bt.proofs.Canonicals.{entry_before, entries_of, canonical_record, canonical_from}
use Rattle.oct_bt.proofs.Canonicals.{all_children, data_is_flat, canonical_is_record, not_none}
use Rattle.oct_bt.proofs.Codes.{known_in_flat}
use Rattle.oct_bt.proofs.Sizes.{full, known_few}
use Rattle.oct_bt.proofs.Fills.{flat_counted}
use Rattle.oct_bt.proofs.Mixtures.{IsAbove}

-- a count, in words of the canonical record
pub record IsTally (c : Classes) (d : ℕ) (b : Cube) (nodes number : ℕ) : Type 0 where
  pub known : nodes ≡ known_entries (canonical_record c (suc (16 - (d + 1))) b)
  pub records : number ≡ 1 + record_count (canonical_record c (suc (16 - (d + 1))) b)

text_is : (c : Classes) (d : ℕ) (b : Cube) → IsAbove d b
    → data_below c (16 - d) b ≡ flat (canonical_record c (suc (16 - (d + 1))) b)
text_is c d b a = (let low = a.low in let deep = a.depth in
    ap (λ (h : ℕ). data_below c h b) a.next
    ∙ data_is_flat c (16 - (d + 1)) d b a.depth (omega (arith, low, deep)) a.ok)

record_is : (c : Classes) (d : ℕ) (b : Cube) → IsAbove d b
    → IsRecord d (canonical_record c (suc (16 - (d + 1))) b)
record_is c d b a = (let low = a.low in let deep = a.depth in
    canonical_is_record c (16 - (d + 1)) d b a.depth (omega (arith, low, deep)) a.ok)

pub to_tally : (c : Classes) (d : ℕ) (b : Cube) (nodes number : ℕ) → IsAbove d b
    → IsCounted (data_below c (16 - d) b) nodes number
    → IsTally c d b nodes number
to_tally c d b nodes number a s =
    let r : Entries = canonical_record c (suc (16 - (d + 1))) b in
    let long : length (data_below c (16 - d) b) ≡ length (flat r) = ap length (text_is c d b a) in
    let counted = flat_counted r in
    let number_is = s.records in
    record {
      known = sym s.known ∙ ap known_codes (text_is c d b a)
          ∙ known_in_flat r d (record_is c d b a);
      records = omega (arith, long, counted, number_is);
    }

pub from_tally : (c : Classes) (d : ℕ) (b : Cube) (nodes number : ℕ) → IsAbove d b
    → IsTally c d b nodes number
    → IsCounted (data_below c (16 - d) b) nodes number
from_tally c d b nodes number a s =
    let r : Entries = canonical_record c (suc (16 - (d + 1))) b in
    let long : length (data_below c (16 - d) b) ≡ length (flat r) = ap length (text_is c d b a) in
    let counted = flat_counted r in
    let number_is = s.records in
    record {
      known = ap known_codes (text_is c d b a) ∙ known_in_flat r d (record_is c d b a)
          ∙ sym s.known;
      records = omega (arith, long, counted, number_is);
    }

-- ---- how much that can be

full_more : (h k : ℕ) → full h ≤ full (h + k)
unfolding full
full_more h zero =
    (let same : h + 0 ≡ h = omega arith in subst (λ (n : ℕ). full h ≤ full n) (sym same)
    (omega arith))
full_more h (suc k) =
    let next : h + suc k ≡ suc (h + k) = omega arith in
    let here = full_more h k in
    subst (λ (n : ℕ). full h ≤ full n) (sym next) (omega (arith, here))

fewer_records : (es : Entries) → record_count es ≤ known_entries es
unfolding known_entries record_count
fewer_records End = omega arith
fewer_records (Plain Unknown es) = fewer_records es
fewer_records (Plain Free es) = omega (arith, fewer_records es)
fewer_records (Plain Occupied es) = omega (arith, fewer_records es)
fewer_records (Record r es) = omega (arith, fewer_records r, fewer_records es)

pub tally_small : (c : Classes) (d : ℕ) (b : Cube) → IsAbove d b
    → (known_entries (canonical_record c (suc (16 - (d + 1))) b) < 2 ^ 50)
    × (record_count (canonical_record c (suc (16 - (d + 1))) b) < 2 ^ 50)
unfolding full
tally_small c d b a =
    let low = a.low in
    let deep = a.depth in
    let r : Entries = canonical_record c (suc (16 - (d + 1))) b in
    let few = known_few r d 8 (15 - d) (record_is c d b a) (omega (arith, low, deep)) in
    let fewer = fewer_records r in
    let whole : 15 - d + d ≡ 15 = omega (arith, low, deep) in
    let most : full (15 - d) ≤ full 15 =
    subst (λ (n : ℕ). full (15 - d) ≤ full n) whole (full_more (15 - d) d) in
    (omega (arith, few, most), omega (arith, few, most, fewer))

-- ---- children

-- a child of several classes is above the voxels
pub child_above : (c : Classes) (d : ℕ) (b : Cube) (i : ℕ) → IsAbove d b
    → class_of_block c (child_of b i) ≡ None → IsAbove (d + 1) (child_of b i)
child_above c d b i a none =
    let deep = depth_child_of b i in
    let depth = a.depth in
    let low = a.low in
    let ok = child_in_map b i a.ok a.low in
    let not_voxel : (child_of b i).depth ≡ 16 → ⊥ = λ voxel.
    not_none (class_of_block c (child_of b i)) _ (class_of_voxel c (child_of b i) voxel ok) none in
    let lower : (child_of b i).depth < 16 = omega (arith, deep, low, not_voxel) in
    record {
      ok = ok;
      low = lower;
      depth = omega (arith, deep, depth);
      next = omega (arith, deep, depth, lower);
      child = λ j. (let down = depth_child_of (child_of b i) j in
          omega (arith, down, deep, depth, lower));
    }

-- the entries from one child on
step_is : (c : Classes) (h : ℕ) (b : Cube) (done : ℕ) → done < 8
    → canonical_from c h b (8 - (done + 1)) (done + 1)
    ≡ entry_before (class_of_block c (child_of b (7 - done)))
    (canonical_record c h (child_of b (7 - done))) (canonical_from c h b (8 - done) done)
unfolding entries_of numbers_from
step_is c h b done less =
    let at : 8 - (done + 1) ≡ 7 - done = omega arith in
    let more : done + 1 ≡ suc done = omega arith in
    let next : suc (7 - done) ≡ 8 - done = omega (arith, less) in
    ap (λ (m : ℕ). canonical_from c h b m (done + 1)) at ∙ ap (canonical_from c h b (7 - done)) more
    ∙ ap (λ (m : ℕ). entry_before (class_of_block c (child_of b (7 - done)))
    (canonical_record c h (child_of b (7 - done))) (canonical_from c h b m done)) next

-- the sums over the children from one on
pub record AreTallied (c : Classes) (d : ℕ) (b : Cube) (done nodes number : ℕ) : Type 0 where
  pub known : nodes ≡ known_entries (canonical_from c (16 - (d + 1)) b (8 - done) done)
  pub records : number ≡ 1 + record_count (canonical_from c (16 - (d + 1)) b (8 - done) done)

pub tallied_first : (c : Classes) (d : ℕ) (b : Cube) → AreTallied c d b 0 0 1
unfolding entries_of numbers_from known_entries record_count
tallied_first c d b = record { known = refl; records = refl }

pub tallied_pure : (c : Classes) (d : ℕ) (b : Cube) (done nodes number : ℕ) (m : Mixture) → done < 8
    → class_of_block c (child_of b (7 - done)) ≡ class_of_mixture m
    → ((x : Class) (way : ℕ) → m ≡ Mixed x way → ⊥)
    → AreTallied c d b done nodes number → AreTallied c d b (done + 1)
    (nodes + entry_nodes (class_of_mixture m)) number
unfolding known_entries record_count
tallied_pure c d b done nodes number (Mixed x way) less is other s = absurd (other x way refl)
tallied_pure c d b done nodes number (Pure x) less is other s = by x is
  where
    later : Entries
    later = canonical_from c (16 - (d + 1)) b (8 - done) done

    whole : (y : Class) → class_of_block c (child_of b (7 - done)) ≡ Some y
        → canonical_from c (16 - (d + 1)) b (8 - (done + 1)) (done + 1) ≡ Plain y later
    whole y e = step_is c (16 - (d + 1)) b done less
        ∙ ap (λ o. entry_before o (canonical_record c (16 - (d + 1)) (child_of b (7 - done))) later)
        e

    by : (y : Class) → class_of_block c (child_of b (7 - done)) ≡ Some y
        → AreTallied c d b (done + 1) (nodes + entry_nodes (Some y)) number
    by Unknown e = (let k = s.known in let r = s.records in record {
      known = omega (arith, k) ∙ sym (ap known_entries (whole Unknown e));
      records = r ∙ sym (ap (λ es. 1 + record_count es) (whole Unknown e));
    })
    by Free e = (let k = s.known in let r = s.records in record {
      known = omega (arith, k) ∙ sym (ap known_entries (whole Free e));
      records = r ∙ sym (ap (λ es. 1 + record_count es) (whole Free e));
    })
    by Occupied e = (let k = s.known in let r = s.records in record {
      known = omega (arith, k) ∙ sym (ap known_entries (whole Occupied e));
      records = r ∙ sym (ap (λ es. 1 + record_count es) (whole Occupied e));
    })

pub tallied_mixed : (c : Classes) (d : ℕ) (b : Cube) (done nodes number more_nodes more : ℕ)
    → done < 8 → IsAbove d b
    → class_of_block c (child_of b (7 - done)) ≡ None
    → IsTally c (d + 1) (child_of b (7 - done)) more_nodes more
    → AreTallied c d b done nodes number → AreTallied c d b (done + 1) (nodes + 1 + more_nodes)
    (number + more)
unfolding known_entries record_count
tallied_mixed c d b done nodes number more_nodes more less a none t s =
    let a' = child_above c d b (7 - done) a none in
    let next = a'.next in
    let whole : canonical_from c (16 - (d + 1)) b (8 - (done + 1)) (done + 1)
    ≡ Record (canonical_record c (suc (16 - (d + 1 + 1))) (child_of b (7 - done)))
    (canonical_from c (16 - (d + 1)) b (8 - done) done) =
    step_is c (16 - (d + 1)) b done less
    ∙ ap (λ o. entry_before o (canonical_record c (16 - (d + 1)) (child_of b (7 - done)))
    (canonical_from c (16 - (d + 1)) b (8 - done) done)) none
    ∙ ap (λ (h : ℕ). Record (canonical_record c h (child_of b (7 - done)))
    (canonical_from c (16 - (d + 1)) b (8 - done) done)) next in
    let k = s.known in
    let r = s.records in
    let k' = t.known in
    let r' = t.records in
    let all_known = ap known_entries whole in
    let all_records = ap (λ es. record_count es) whole in
    record {
      known = omega (arith, k, k') ∙ sym all_known;
      records = omega (arith, r, r') ∙ sym (ap (λ (n : ℕ). 1 + n) all_records);
    }

pub tallied_all : (c : Classes) (d : ℕ) (b : Cube) (done nodes number : ℕ) → done ≡ 8
    → AreTallied c d b done nodes number
    → IsTally c d b nodes number
tallied_all c d b done nodes number end s =
    let whole : canonical_from c (16 - (d + 1)) b (8 - done) done
    ≡ canonical_record c (suc (16 - (d + 1))) b =
    ap (λ (n : ℕ). canonical_from c (16 - (d + 1)) b (8 - n) n) end
    ∙ sym (all_children c (16 - (d + 1)) b) in
    record {
      known = s.known ∙ ap known_entries whole;
      records = s.records ∙ ap (λ es. 1 + record_count es) whole;
    }

-- the sums are never greater than those of all children
suffix_few : (c : Classes) (h : ℕ) (b : Cube) (m n : ℕ)
    → (known_entries (canonical_from c h b m n) ≤ known_entries (canonical_from c h b 0 (m + n)))
    × (record_count (canonical_from c h b m n) ≤ record_count (canonical_from c h b 0 (m + n)))
unfolding entries_of numbers_from known_entries record_count
suffix_few c h b zero n = (let same : 0 + n ≡ n = omega arith in
    subst (λ (k : ℕ).
    (known_entries (canonical_from c h b 0 n) ≤ known_entries (canonical_from c h b 0 k))
    × (record_count (canonical_from c h b 0 n) ≤ record_count (canonical_from c h b 0 k)))
    (sym same) (omega arith, omega arith))
suffix_few c h b (suc m) n =
    let same : m + suc n ≡ suc m + n = omega arith in
    let before = suffix_few c h b m (suc n) in
    let one = more (class_of_block c (child_of b m)) (canonical_record c h (child_of b m))
    (canonical_from c h b (suc m) n) in
    subst (λ (k : ℕ). (known_entries (canonical_from c h b (suc m) n)
    ≤ known_entries (canonical_from c h b 0 k))
    × (record_count (canonical_from c h b (suc m) n) ≤ record_count (canonical_from c h b 0 k)))
    same
    (let k = before.0 in let r = before.1 in let k' = one.0 in let r' = one.1 in
    (omega (arith, k, k'), omega (arith, r, r')))
  where
    more : (o : Option Class) (r later : Entries)
        → (known_entries later ≤ known_entries (entry_before o r later))
        × (record_count later ≤ record_count (entry_before o r later))
    more None r later = (omega arith, omega arith)
    more (Some Unknown) r later = (omega arith, omega arith)
    more (Some Free) r later = (omega arith, omega arith)
    more (Some Occupied) r later = (omega arith, omega arith)

pub tallied_small : (c : Classes) (d : ℕ) (b : Cube) (done nodes number : ℕ) → IsAbove d b
    → done ≤ 8 → AreTallied c d b done nodes number
    → (nodes < 2 ^ 50) × (number ≤ 2 ^ 50)
tallied_small c d b done nodes number a few s =
    let small = tally_small c d b a in
    let whole : 8 - done + done ≡ 8 = omega (arith, few) in
    let part = subst
    (λ (k : ℕ). (known_entries (canonical_from c (16 - (d + 1)) b (8 - done) done)
    ≤ known_entries (canonical_from c (16 - (d + 1)) b 0 k))
    × (record_count (canonical_from c (16 - (d + 1)) b (8 - done) done)
    ≤ record_count (canonical_from c (16 - (d + 1)) b 0 k))) whole
    (suffix_few c (16 - (d + 1)) b (8 - done) done) in
    let all = all_children c (16 - (d + 1)) b in
    let known_all = ap known_entries all in
    let records_all = ap record_count all in
    let k = s.known in
    let r = s.records in
    let p = part.0 in
    let q = part.1 in
    let x = small.0 in
    let y = small.1 in
    (omega (arith, k, p, x, known_all), omega (arith, r, q, y, records_all))
