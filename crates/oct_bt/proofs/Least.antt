-- No record of the same classes has a shorter text than the canonical one, and one of the same
-- length is it.
use Rattle.std.proofs.Common.{◌≡◌, ℕ, zero, suc, ◌+◌, ◌<◌, ◌≤◌, ◌⊎◌, inl, inr, Bool, true, false}
use Rattle.std.proofs.Common.{Option, Some, None, length, refl, sym, subst, ◌∙◌, ap, arith}
use Rattle.std.proofs.Common.{length-append}
use Rattle.oct_key.specs.Voxel.{Voxel, IsInMap}
use Rattle.oct_key.specs.Block.{Cube, IsBlock, HoldsVoxel, child_of, root_block}
use Rattle.oct_odds.specs.declared.event.Class.{Class}
use Rattle.oct_key.proofs.Held.{held_in_map}
use Rattle.oct_key.proofs.Blocks.{root_in_map}
use Rattle.oct_values.specs.Classes.{Classes, class_of_block}
use Rattle.oct_bt.specs.Canonical.{is_unknown, canonical_data}
use Rattle.oct_bt.proofs.Injective.{root_record, data_of_unknown, root_data}
use Rattle.oct_bt.specs.Records.{Entries, End, Plain, Record, AreEntries, IsRecord, bodies_of, flat}
use Rattle.oct_bt.specs.Records.{class_in, class_by}
use Rattle.oct_bt.proofs.Numbering.{numbers_from}
use Rattle.oct_bt.proofs.Alike.{class_of_all}
use Rattle.oct_bt.proofs.Canonicals.{entries_of, entry_before, canonical_record, canonical_from}
use Rattle.oct_bt.proofs.Canonicals.{all_children, child_height, child_is_block, Gives}
use Rattle.oct_bt.proofs.Canonicals.{gives_children}

-- entries are these, or have a longer text
abbrev pub IsLeastOf : Entries → Entries → Type 0
IsLeastOf least es = (es ≡ least) ⊎ (length (bodies_of least) < length (bodies_of es))

-- how long the text of a record is
pub length_of_flat : (r : Entries) → length (flat r) ≡ 2 + length (bodies_of r)
length_of_flat r = omega arith

-- how long the text of entries is where the first is a record
pub length_of_record : (r later : Entries) → length (bodies_of (Record r later))
    ≡ 2 + length (bodies_of r) + length (bodies_of later)
unfolding bodies_of
length_of_record r later =
    (let long = length-append (flat r) (bodies_of later) in omega (arith, long))

no_shorter : (least es : Entries) → IsLeastOf least es
    → length (bodies_of least) ≤ length (bodies_of es)
no_shorter least es (inl same) =
    (let l : length (bodies_of es) ≡ length (bodies_of least) = ap (λ r. length (bodies_of r)) same
    in omega arith)
no_shorter least es (inr more) = omega arith

-- a class before entries
plain_step : (c x : Class) (least es : Entries) → c ≡ x → IsLeastOf least es
    → IsLeastOf (Plain x least) (Plain c es)
unfolding bodies_of
plain_step c x least es is (inl same) = inl (rw (is, same) refl)
plain_step c x least es is (inr more) = inr more

-- a record where a class would do
waste_step : (x : Class) (r least es : Entries) → IsLeastOf least es → IsLeastOf (Plain x least)
    (Record r es)
unfolding bodies_of
waste_step x r least es h =
    let long = length-append (flat r) (bodies_of es) in
    let later : length (bodies_of least) ≤ length (bodies_of es) = no_shorter least es h in
    inr (omega (arith, long, later))

-- a record before entries
record_step : (q r least es : Entries) → IsLeastOf q r → IsLeastOf least es
    → IsLeastOf (Record q least) (Record r es)
record_step q r least es (inl is) (inl same) = inl (rw (is, same) refl)
record_step q r least es (inl is) (inr more) =
    let long = length_of_record r es in
    let short = length_of_record q least in
    let same : length (bodies_of r) ≡ length (bodies_of q) = ap (λ r. length (bodies_of r)) is in
    inr (omega (arith, long, short, same, more))
record_step q r least es (inr longer) h =
    let long = length_of_record r es in
    let short = length_of_record q least in
    let later : length (bodies_of least) ≤ length (bodies_of es) = no_shorter least es h in
    inr (omega (arith, long, short, longer, later))

-- what the first entry gives, and what those after it give
first_gives : (classes : Classes) (b : Cube) (d m n : ℕ) (es : Entries)
    → Gives classes b d m (suc n) es
    → (k : Voxel) → HoldsVoxel (child_of b m) k → class_in d es 0 k ≡ classes k
first_gives classes b d m n es gives k held =
    let at : m + 0 ≡ m = omega arith in
    gives 0 k (omega arith) (subst (λ i. HoldsVoxel (child_of b i) k) (sym at) held)

pub behind_plain : (classes : Classes) (b : Cube) (d m n : ℕ) (c : Class) (es : Entries)
    → Gives classes b d m (suc n) (Plain c es) → Gives classes b d (suc m) n es
unfolding class_in
behind_plain classes b d m n c es gives j k l held =
    let at : m + suc j ≡ suc m + j = omega arith in
    gives (suc j) k (omega arith) (subst (λ i. HoldsVoxel (child_of b i) k) (sym at) held)

pub behind_record : (classes : Classes) (b : Cube) (d m n : ℕ) (r es : Entries)
    → Gives classes b d m (suc n) (Record r es) → Gives classes b d (suc m) n es
unfolding class_in
behind_record classes b d m n r es gives j k l held =
    let at : m + suc j ≡ suc m + j = omega arith in
    gives (suc j) k (omega arith) (subst (λ i. HoldsVoxel (child_of b i) k) (sym at) held)

pub plain_gives : (classes : Classes) (b : Cube) (d m n : ℕ) (c : Class) (es : Entries)
    → Gives classes b d m (suc n) (Plain c es)
    → (k : Voxel) → HoldsVoxel (child_of b m) k → classes k ≡ c
unfolding class_in
plain_gives classes b d m n c es gives k held =
    sym (first_gives classes b d m n (Plain c es) gives k held)

pub record_gives : (classes : Classes) (b : Cube) (d m n : ℕ) (r es : Entries)
    → Gives classes b d m (suc n) (Record r es)
    → (k : Voxel) → HoldsVoxel (child_of b m) k → class_by (suc d) r k ≡ classes k
unfolding class_in
record_gives classes b d m n r es gives k held =
    first_gives classes b d m n (Record r es) gives k held

-- entries that give the children of a block, from child m on, their classes are the canonical ones,
-- or have a longer text
pub least_from : (es : Entries) (classes : Classes) (h d m n : ℕ) (b : Cube) → b.depth ≡ d
    → d + suc h ≡ 16 → IsBlock b → AreEntries d n es
    → Gives classes b d m n es → IsLeastOf (canonical_from classes h b m n) es
unfolding entries_of numbers_from
least_from End classes h d m zero b e all ok are gives = inl refl
least_from End classes h d m (suc n) b e all ok are gives = absurd are
least_from (Plain c es) classes h d m zero b e all ok are gives = absurd are
least_from (Plain c es) classes h d m (suc n) b e all ok are gives =
    let same : class_of_block classes (child_of b m) ≡ Some c =
    class_of_all classes (child_of b m) c (child_is_block b d h m e all ok)
    (plain_gives classes b d m n c es gives) in
    rw same (plain_step c c (canonical_from classes h b (suc m) n) es refl
    (least_from es classes h d (suc m) n b e all ok are (behind_plain classes b d m n c es gives)))
least_from (Record r es) classes h d m zero b e all ok are gives = absurd are
least_from (Record r es) classes zero d m (suc n) b e all ok (low, inner, are) gives =
    absurd (omega arith)
least_from (Record r es) classes (suc h) d m (suc n) b e all ok (low, inner, are) gives =
    by_class (class_of_block classes (child_of b m))
    (least_from es classes (suc h) d (suc m) n b e all ok are
    (behind_record classes b d m n r es gives))
    (subst (λ q. IsLeastOf q r) (sym (all_children classes h (child_of b m)))
    (least_from r classes h (suc d) 0 8 (child_of b m)
    (child_height b d (suc h) m e all).0 (child_height b d (suc h) m e all).1
    (child_is_block b d (suc h) m e all ok) inner
    (gives_children classes (child_of b m)
    (suc d) r (child_height b d (suc h) m e all).0 (omega arith)
    (record_gives classes b d m n r es gives))))
  where
    by_class : (o : Option Class) → IsLeastOf (canonical_from classes (suc h) b (suc m) n) es
        → IsLeastOf (canonical_record classes (suc h) (child_of b m)) r
        → IsLeastOf (entry_before o (canonical_record classes (suc h) (child_of b m))
        (canonical_from classes (suc h) b (suc m) n)) (Record r es)
    by_class (Some x) later here =
        waste_step x r (canonical_from classes (suc h) b (suc m) n) es later
    by_class None later here =
        record_step (canonical_record classes (suc h) (child_of b m)) r
        (canonical_from classes (suc h) b (suc m) n) es here later

-- a record of the whole map is the canonical one of its classes, or has a longer text
pub least_root : (classes : Classes) (r : Entries) → IsRecord 0 r
    → ((k : Voxel) → IsInMap k → class_by 0 r k ≡ classes k)
    → IsLeastOf (root_record classes) r
unfolding root_record
least_root classes r is gives =
    subst (λ q. IsLeastOf q r) (sym (all_children classes 15 root_block))
    (least_from r classes 15 0 0 8 root_block refl (omega arith) root_in_map is
    (gives_children classes root_block 0 r refl (omega arith)
    (λ k held. gives k (held_in_map root_block k root_in_map held))))

-- no text of a record of the whole map is shorter than the canonical data of its classes, and one
-- of the same length is that data
pub least_data : (classes : Classes) (r : Entries) → IsRecord 0 r
    → ((k : Voxel) → IsInMap k → class_by 0 r k ≡ classes k)
    → (length (canonical_data classes) ≤ length (flat r))
    × (length (flat r) ≡ length (canonical_data classes) → flat r ≡ canonical_data classes)
least_data classes r is gives = by_test (is_unknown classes) refl (least_root classes r is gives)
  where
    by_test : (unknown : Bool) → is_unknown classes ≡ unknown → IsLeastOf (root_record classes) r
        → (length (canonical_data classes) ≤ length (flat r))
        × (length (flat r) ≡ length (canonical_data classes) → flat r ≡ canonical_data classes)
    by_test true at least =
        (let none : length (canonical_data classes) ≡ 0 = ap length (data_of_unknown classes at) in
        let some : length (flat r) ≡ 2 + length (bodies_of r) = length_of_flat r in
        (omega arith, λ same. absurd (omega (arith, none, some, same))))
    by_test false at (inl same) =
        (let data_is : flat r ≡ canonical_data classes = ap (λ q. flat q) same
        ∙ sym (root_data classes at) in
        let long : length (flat r) ≡ length (canonical_data classes) = ap length data_is in
        (omega arith, λ l. data_is))
    by_test false at (inr more) =
        (let long : length (canonical_data classes) ≡ length (flat (root_record classes)) =
        ap length (root_data classes at) in
        let some : length (flat r) ≡ 2 + length (bodies_of r) = length_of_flat r in
        let others : length (flat (root_record classes))
        ≡ 2 + length (bodies_of (root_record classes)) = length_of_flat (root_record classes) in (
          omega (arith, long, some, others, more),
          λ l. absurd (omega (arith, long, some, others, more, l)),
        ))
