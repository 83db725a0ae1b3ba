-- How many voxels are noted, and what making room for more comes to.
use Rattle.std.proofs.Common.{◌≡◌, zero, suc, List, [], ◌∷◌, length, map}
use Rattle.std.proofs.Common.{Bool, true, false, refl, sym, ap, subst, ◌∙◌, arith}
use Rattle.std.specs.Prelude.{is_some}
use Rattle.std.specs.List.{AllByRecursion, Contains, filter}
use Rattle.std.specs.List.Sorted.{IsStrictlySortedBy}
use Rattle.std.specs.declared.cmp.Ordering.TheVariants.{Less}
use Rattle.std.proofs.lemmas.List.{length-map}
use Rattle.std.proofs.lemmas.List.Elements.{All-contains, All-contains_itself, All-map}
use Rattle.std.proofs.lemmas.List.Elements.{filter_passes}
use Rattle.std.proofs.lemmas.List.Kept.{IsStrictlySortedBy-filter}
use Rattle.std.proofs.lemmas.List.Sums.{length-filter}
use Rattle.oct_key.specs.Voxel.{Voxel, IsInMap}
use Rattle.oct_key.specs.Order.{key_cmp, voxels_in_order}
use Rattle.oct_key.specs.Values.{is_same_voxel}
use Rattle.oct_key.proofs.SameVoxels.{is_same_voxel_refl}
use Rattle.oct_key.proofs.Order.{one_way}
use Rattle.oct_key.proofs.OneOrder.{on_first, on_rest, one_order}
use Rattle.oct_key.proofs.InOrder.{in_order_sorted, in_order_all, in_order_inside}
use Rattle.oct_key.proofs.InOrder.{contains_mapped}
use Rattle.oct_values.proofs.Sums.{All-follows, count_by-same}
use Rattle.oct_change.specs.declared.changes.Note.{Note}
use Rattle.oct_change.specs.Notes.{AreInMap, first_noted, noted_total}
use Rattle.oct_change.proofs.Reports.{noted_of}

-- the voxels of notes
abbrev pub keys_in : List Note → List Voxel
keys_in notes = map (λ (note : Note). note.key) notes

-- a voxel of a note is noted
has_note : (notes : List Note) (k : Voxel) → Contains (keys_in notes) k
    → is_some (first_noted notes k) ≡ true
has_note [] k (n, l, is) = absurd (omega arith)
has_note (note ∷ notes) k (zero, l, is) =
    (let same : is_same_voxel note.key k ≡ true =
    subst (λ q. is_same_voxel note.key q ≡ true) is (is_same_voxel_refl note.key) in rw same refl)
has_note (note ∷ notes) k (suc n, l, is) =
    by_test (is_same_voxel note.key k) refl (has_note notes k (n, omega arith, is))
  where
    by_test : (same : Bool) → is_same_voxel note.key k ≡ same
        → is_some (first_noted notes k) ≡ true → is_some (first_noted (note ∷ notes) k) ≡ true
    by_test true e later = rw e refl
    by_test false e later = rw e later

-- what passes a test is kept
kept_passes : (p : Voxel → Bool) (ks : List Voxel) (k : Voxel) → Contains ks k → p k ≡ true
    → Contains (filter p ks) k
kept_passes p [] k (n, l, is) h = absurd (omega arith)
kept_passes p (q ∷ qs) k (zero, l, is) h =
    (let passes : p q ≡ true = ap p is ∙ h in
    subst (Contains (filter p (q ∷ qs))) is (rw passes (on_first (filter p qs) q)))
kept_passes p (q ∷ qs) k (suc n, l, is) h =
    by_test (p q) refl (kept_passes p qs k (n, omega arith, is) h)
  where
    by_test : (test : Bool) → p q ≡ test → Contains (filter p qs) k
        → Contains (filter p (q ∷ qs)) k
    by_test true e there = rw e (on_rest q (filter p qs) k there)
    by_test false e there = rw e there

steps : (k : Voxel) (ks : List Voxel) → IsStrictlySortedBy key_cmp (k ∷ ks)
    → AllByRecursion (λ q. key_cmp k q ≡ Less) ks × IsStrictlySortedBy key_cmp ks
unfolding IsStrictlySortedBy
steps k ks h = (h.0, h.1)

-- where no voxel is noted twice, there are as many notes as voxels that are noted
sorted_total : (notes : List Note) → AreInMap notes → IsStrictlySortedBy key_cmp (keys_in notes)
    → length notes ≡ noted_total notes
sorted_total notes inside sorted =
    sym (length-map notes (λ (note : Note). note.key)) ∙ ap length same
    ∙ length-filter is_noted voxels_in_order
  where
    is_noted : Voxel → Bool
    is_noted k = is_some (first_noted notes k)

    to : (k : Voxel) → Contains (keys_in notes) k → Contains (filter is_noted voxels_in_order) k
    to k there = kept_passes is_noted voxels_in_order k
        (in_order_all k (All-contains IsInMap (keys_in notes) k
        (All-map IsInMap (λ (note : Note). note.key) notes inside) there))
        (has_note notes k there)

    from : (k : Voxel) → Contains (filter is_noted voxels_in_order) k → Contains (keys_in notes) k
    from k there = noted_of (Contains (keys_in notes)) notes k
        (All-follows (Contains notes) (λ (note : Note). Contains (keys_in notes) note.key) notes
        (λ note h. contains_mapped (λ (note : Note). note.key) notes note h)
        (All-contains_itself notes))
        (All-contains (λ q. is_noted q ≡ true) (filter is_noted voxels_in_order) k
        (filter_passes is_noted voxels_in_order) there)

    same : keys_in notes ≡ filter is_noted voxels_in_order
    same = one_order (λ a b. key_cmp a b ≡ Less) (IsStrictlySortedBy key_cmp) one_way steps
        (keys_in notes) (filter is_noted voxels_in_order) sorted
        (IsStrictlySortedBy-filter key_cmp is_noted voxels_in_order in_order_sorted) to from

-- the same first notes are of as many voxels
same_total : (old new : List Note)
    → ((k : Voxel) → first_noted new k ≡ first_noted old k) → noted_total new ≡ noted_total old
same_total old new first =
    count_by-same (λ k. is_some (first_noted new k)) (λ k. is_some (first_noted old k))
    voxels_in_order
    (All-follows IsInMap (λ k. is_some (first_noted new k) ≡ is_some (first_noted old k))
    voxels_in_order (λ k _. ap is_some (first k)) in_order_inside)

-- what is left of notes are as many as voxels were noted
pub compact_total : (old new : List Note) → AreInMap new
    → IsStrictlySortedBy key_cmp (keys_in new)
    → ((k : Voxel) → first_noted new k ≡ first_noted old k) → length new ≡ noted_total old
compact_total old new inside sorted first =
    sorted_total new inside sorted ∙ same_total old new first
