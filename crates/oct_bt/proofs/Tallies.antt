-- Counting the voxels of a record child by child.
use Rattle.std.proofs.Common.{◌≡◌, ℕ, zero, suc, ◌+◌, ◌-◌, ◌*◌, ◌/◌, ◌%◌, ◌^◌, ◌<◌, ◌≤◌, Bool, true}
use Rattle.std.proofs.Common.{false, cond, List, [], ◌∷◌, ◌++◌, length, drop, append_assoc}
use Rattle.std.proofs.Common.{length-append, refl, sym, subst, ◌∙◌, ap, arith}
use Rattle.oct_odds.specs.declared.event.Class.{Class}
use Rattle.oct_odds.specs.declared.event.Class.TheVariants.{Free, Occupied}
use Rattle.oct_values.specs.Classes.{is_same_class}
use Rattle.oct_bt.specs.Records.{Entries, End, Plain, Record, AreEntries, IsRecord, class_code}
use Rattle.oct_bt.specs.Records.{codes_of, bodies_of, flat}
use Rattle.oct_bt.specs.Voxels.{class_voxels, leaf_voxels, IsRecordCount}
use Rattle.oct_bt.proofs.Texts.{class_code_below}
use Rattle.oct_bt.proofs.Fills.{drop_front, drop_more}

-- the first i children of a block are counted, and what is left of its record are these entries
pub record IsCounting (d : ℕ) (codes : List ℕ) (next rest i free occupied : ℕ) (r : Entries)
    (tail : List ℕ) : Type 0 where
  pub es : Entries
  pub are : AreEntries d (8 - i) es
  pub left : rest ≡ codes_of es
  pub text : drop next codes ≡ bodies_of es ++ tail
  pub used : next + length (bodies_of es) ≡ length (flat r)
  pub frees : free + class_voxels Free d es ≡ class_voxels Free d r
  pub taken : occupied + class_voxels Occupied d es ≡ class_voxels Occupied d r

-- the record of the next child
pub record IsNext (d : ℕ) (codes : List ℕ) (next : ℕ) : Type 0 where
  pub r : Entries
  pub tail : List ℕ
  pub is : IsRecord (d + 1) r
  pub text : drop next codes ≡ flat r ++ tail
  pub low : d < 15
  pub within : next ≤ length codes

pub next_record : (d : ℕ) (codes : List ℕ) (next rest i free occupied : ℕ) (r : Entries)
    (tail : List ℕ) → i < 8 → rest % 4 ≡ 3
    → IsCounting d codes next rest i free occupied r tail → IsNext d codes next
unfolding codes_of bodies_of
next_record d codes next rest i free occupied r tail li three s =
    by_entries s.es (8 - i) (omega (arith, li)) s.are (sym s.left) s.text
  where
    within : (xs : List ℕ) (n : ℕ) → 0 < length (drop n xs) → n ≤ length xs
    within xs zero some = omega arith
    within [] (suc n) some = absurd (omega arith)
    within (x ∷ xs) (suc n) some = (let rest = within xs n some in omega arith)

    by_entries : (es : Entries) (n : ℕ) → 0 < n → AreEntries d n es → codes_of es ≡ rest
        → drop next codes ≡ bodies_of es ++ tail → IsNext d codes next
    by_entries End zero some are left text = absurd (omega arith)
    by_entries End (suc n) some are left text = absurd are
    by_entries (Plain c es) zero some are left text = absurd are
    by_entries (Plain c es) (suc n) some are left text =
        (let small = class_code_below c in absurd (omega (arith, small, left, three)))
    by_entries (Record q es) zero some are left text = absurd are
    by_entries (Record q es) (suc n) some (low, inner, are) left text =
        (let deep : suc d ≡ d + 1 = omega arith in
        let front : drop next codes ≡ flat q ++ (bodies_of es ++ tail) =
        text ∙ append_assoc (flat q) (bodies_of es) tail in
        record {
          r = q;
          tail = bodies_of es ++ tail;
          is = subst (λ (d : ℕ). IsRecord d q) deep inner;
          text = front;
          low = low;
          within = within codes next (let long : length (drop next codes)
              ≡ length (flat q ++ (bodies_of es ++ tail)) = ap length front in
              let some : 0 < length (flat q ++ (bodies_of es ++ tail)) = omega arith in
              omega (arith, long, some));
        })

-- after a child that is a leaf
pub counting_leaf : (d : ℕ) (codes : List ℕ) (next rest i free occupied more other : ℕ)
    (r : Entries) (tail : List ℕ) → i < 8 → (rest % 4 ≡ 3 → ⊥)
    → IsCounting d codes next rest i free occupied r tail
    → ((c : Class) → class_code c ≡ rest % 4 → more ≡ leaf_voxels Free d c)
    → ((c : Class) → class_code c ≡ rest % 4 → other ≡ leaf_voxels Occupied d c)
    → IsCounting d codes next (rest / 4) (i + 1) (free + more) (occupied + other) r tail
unfolding codes_of bodies_of class_voxels
counting_leaf d codes next rest i free occupied more other r tail li none s are_free are_occupied =
    by_entries s.es (8 - i) refl s.are (sym s.left) s.text s.used s.frees s.taken
  where
    by_entries : (es : Entries) (n : ℕ) → 8 - i ≡ n → AreEntries d n es → codes_of es ≡ rest
        → drop next codes ≡ bodies_of es ++ tail
        → next + length (bodies_of es) ≡ length (flat r) → free + class_voxels Free d es
        ≡ class_voxels Free d r
        → occupied + class_voxels Occupied d es ≡ class_voxels Occupied d r
        → IsCounting d codes next (rest / 4) (i + 1) (free + more) (occupied + other) r tail
    by_entries End zero at are left text used frees taken = absurd (omega (arith, at, li))
    by_entries End (suc n) at are left text used frees taken = absurd are
    by_entries (Plain c es) zero at are left text used frees taken = absurd are
    by_entries (Plain c es) (suc n) at are left text used frees taken =
        (let small = class_code_below c in
        let here : class_code c ≡ rest % 4 = omega (arith, small, left) in
        let later : 8 - (i + 1) ≡ n = omega (arith, at, li) in
        record {
          es = es;
          are = subst (λ (n : ℕ). AreEntries d n es) (sym later) are;
          left = omega (arith, small, left);
          text = text;
          used = used;
          frees = joined free more (leaf_voxels Free d c) (class_voxels Free d es)
              (class_voxels Free d r) (are_free c here) frees;
          taken = joined occupied other (leaf_voxels Occupied d c) (class_voxels Occupied d es)
              (class_voxels Occupied d r) (are_occupied c here) taken;
        })
      where
        joined : (a m l e t : ℕ) → m ≡ l → a + (l + e) ≡ t → a + m + e ≡ t
        joined a m l e t same whole = omega (arith, same, whole)
    by_entries (Record q es) zero at are left text used frees taken = absurd are
    by_entries (Record q es) (suc n) at are left text used frees taken =
        absurd (none (omega (arith, left)))

-- after one that is a record
pub counting_record : (d : ℕ) (codes : List ℕ) (next rest i free occupied more other bytes : ℕ)
    (r : Entries) (tail : List ℕ) → i < 8 → rest % 4 ≡ 3
    → IsCounting d codes next rest i free occupied r tail
    → ((q : Entries) (later : List ℕ) → IsRecord (d + 1) q → drop next codes ≡ flat q ++ later
    → IsRecordCount (d + 1) q more other bytes)
    → IsCounting d codes (next + bytes) (rest / 4) (i + 1) (free + more) (occupied + other) r tail
unfolding codes_of bodies_of class_voxels
counting_record d codes next rest i free occupied more other bytes r tail li three s counted =
    by_entries s.es (8 - i) refl s.are (sym s.left) s.text s.used s.frees s.taken
  where
    by_entries : (es : Entries) (n : ℕ) → 8 - i ≡ n → AreEntries d n es → codes_of es ≡ rest
        → drop next codes ≡ bodies_of es ++ tail
        → next + length (bodies_of es) ≡ length (flat r) → free + class_voxels Free d es
        ≡ class_voxels Free d r
        → occupied + class_voxels Occupied d es ≡ class_voxels Occupied d r
        → IsCounting d codes (next + bytes) (rest / 4) (i + 1) (free + more)
        (occupied + other) r tail
    by_entries End zero at are left text used frees taken = absurd (omega (arith, at, li))
    by_entries End (suc n) at are left text used frees taken = absurd are
    by_entries (Plain c es) zero at are left text used frees taken = absurd are
    by_entries (Plain c es) (suc n) at are left text used frees taken =
        (let small = class_code_below c in absurd (omega (arith, small, left, three)))
    by_entries (Record q es) zero at are left text used frees taken = absurd are
    by_entries (Record q es) (suc n) at (deeper, inner, are) left text used frees taken =
        (let next_depth : suc d ≡ d + 1 = omega arith in
        let front : drop next codes ≡ flat q ++ (bodies_of es ++ tail) =
        text ∙ append_assoc (flat q) (bodies_of es) tail in
        let count = counted q (bodies_of es ++ tail)
        (subst (λ (d : ℕ). IsRecord d q) next_depth inner) front in
        let later : 8 - (i + 1) ≡ n = omega (arith, at, li) in
        let long = length-append (flat q) (bodies_of es) in
        let took = count.text_bytes in
        record {
          es = es;
          are = subst (λ (n : ℕ). AreEntries d n es) (sym later) are;
          left = omega (arith, left);
          text = sym (drop_more codes next bytes) ∙ ap (drop bytes) front
              ∙ ap (λ (n : ℕ). drop n (flat q ++ (bodies_of es ++ tail))) took
              ∙ drop_front (flat q) (bodies_of es ++ tail);
          used = omega (arith, used, long, took);
          frees = joined free more (class_voxels Free (suc d) q) (class_voxels Free d es)
              (class_voxels Free d r)
              (count.free_voxels ∙ ap (λ (n : ℕ). class_voxels Free n q) (sym next_depth)) frees;
          taken = joined occupied other (class_voxels Occupied (suc d) q)
              (class_voxels Occupied d es) (class_voxels Occupied d r)
              (count.occupied_voxels ∙ ap (λ (n : ℕ). class_voxels Occupied n q) (sym next_depth))
              taken;
        })
      where
        joined : (a m l e t : ℕ) → m ≡ l → a + (l + e) ≡ t → a + m + e ≡ t
        joined a m l e t same whole = omega (arith, same, whole)

-- after the last child
pub counting_all : (d : ℕ) (codes : List ℕ) (next rest i free occupied : ℕ) (r : Entries)
    (tail : List ℕ) → i ≡ 8
    → IsCounting d codes next rest i free occupied r tail → IsRecordCount d r free occupied next
unfolding bodies_of class_voxels
counting_all d codes next rest i free occupied r tail end s =
    by_entries s.es (8 - i) (omega (arith, end)) s.are s.used s.frees s.taken
  where
    by_entries : (es : Entries) (n : ℕ) → n ≡ 0 → AreEntries d n es → next + length (bodies_of es)
        ≡ length (flat r)
        → free + class_voxels Free d es ≡ class_voxels Free d r
        → occupied + class_voxels Occupied d es ≡ class_voxels Occupied d r
        → IsRecordCount d r free occupied next
    by_entries End n none are used frees taken = record {
      free_voxels = omega (arith, frees);
      occupied_voxels = omega (arith, taken);
      text_bytes = omega (arith, used);
    }
    by_entries (Plain c es) zero none are used frees taken = absurd are
    by_entries (Plain c es) (suc n) none are used frees taken = absurd (omega (arith, none))
    by_entries (Record q es) zero none are used frees taken = absurd are
    by_entries (Record q es) (suc n) none are used frees taken = absurd (omega (arith, none))

-- ---- how many there can be

-- entries give no more voxels than their children have
voxels_few : (class : Class) (es : Entries) (d n h : ℕ) → AreEntries d n es → d + h ≡ 15
    → class_voxels class d es ≤ n * 8 ^ h
unfolding class_voxels
voxels_few class End d n h are at = omega arith
voxels_few class (Plain c es) d zero h are at = absurd are
voxels_few class (Plain c es) d (suc n) h are at =
    let height : 15 - d ≡ h = omega (arith, at) in
    added (leaf_voxels class d c) (8 ^ h) (class_voxels class d es) n
    (subst (λ (m : ℕ). leaf_voxels class d c ≤ 8 ^ m) height (at_most (is_same_class c class)
    (8 ^ (15 - d)))) (voxels_few class es d n h are at)
  where
    at_most : (test : Bool) (m : ℕ) → cond {A = ℕ} test m 0 ≤ m
    at_most true m = omega arith
    at_most false m = omega arith

    added : (a p e n : ℕ) → a ≤ p → e ≤ n * p → a + e ≤ suc n * p
    added a p e n first later = omega (arith, first, later)
voxels_few class (Record r es) d zero h are at = absurd are
voxels_few class (Record r es) d (suc n) zero (low, inner, are) at = absurd (omega (arith, low, at))
voxels_few class (Record r es) d (suc n) (suc h) (low, inner, are) at =
    added (class_voxels class (suc d) r) (8 ^ suc h) (8 ^ h)
    (class_voxels class d es) n (omega arith)
    (voxels_few class r (suc d) 8 h inner (omega (arith, at)))
    (voxels_few class es d n (suc h) are at)
  where
    added : (a p q e n : ℕ) → p ≡ 8 * q → a ≤ 8 * q → e ≤ n * p → a + e ≤ suc n * p
    added a p q e n eightfold first later = omega (arith, eightfold, first, later)

eights_rise : (h k : ℕ) → 8 ^ h ≤ 8 ^ (h + k)
eights_rise h zero =
    (let same : h + 0 ≡ h = omega arith in subst (λ (n : ℕ). 8 ^ h ≤ 8 ^ n) (sym same)
    (omega arith))
eights_rise h (suc k) =
    let next : h + suc k ≡ suc (h + k) = omega arith in
    let here = eights_rise h k in
    subst (λ (n : ℕ). 8 ^ h ≤ 8 ^ n) (sym next) (omega (arith, here))

-- what is counted so far is less than 2^64, and lies within the text
pub record IsSmall (codes : List ℕ) (next free occupied : ℕ) : Type 0 where
  pub frees : free ≤ 2 ^ 48
  pub taken : occupied ≤ 2 ^ 48
  pub within : next ≤ length codes

pub eights_small : (d : ℕ) → d ≤ 15 → 8 ^ (15 - d) ≤ 2 ^ 45
eights_small d low =
    let whole : 15 - d + d ≡ 15 = omega (arith, low) in
    subst (λ (n : ℕ). 8 ^ (15 - d) ≤ 8 ^ n) whole (eights_rise (15 - d) d)

pub counting_small : (d : ℕ) (codes : List ℕ) (next rest i free occupied : ℕ) (r : Entries)
    (tail : List ℕ) → d ≤ 15 → IsRecord d r
    → codes ≡ flat r ++ tail → IsCounting d codes next rest i free occupied r tail
    → IsSmall codes next free occupied
counting_small d codes next rest i free occupied r tail low is text s =
    let high : d + (15 - d) ≡ 15 = omega (arith, low) in
    let most = eights_small d low in
    let long : length codes ≡ length (flat r) + length tail = ap length text
    ∙ length-append (flat r) tail in
    let used = s.used in
    record {
      frees = small free (class_voxels Free d s.es) (class_voxels Free d r)
          (8 ^ (15 - d)) s.frees (voxels_few Free r d 8 (15 - d) is high) most;
      taken = small occupied (class_voxels Occupied d s.es) (class_voxels Occupied d r)
          (8 ^ (15 - d)) s.taken (voxels_few Occupied r d 8 (15 - d) is high) most;
      within = omega (arith, long, used);
    }
  where
    small : (a e t p : ℕ) → a + e ≡ t → t ≤ 8 * p → p ≤ 2 ^ 45 → a ≤ 2 ^ 48
    small a e t p sum few most = omega (arith, sum, few, most)

pub power_fits : (d n : ℕ) → d ≤ 15 → n ≡ 15 - d → 8 ^ n < 2 ^ 64
power_fits d n low is =
    (let few = eights_small d low in let same : 8 ^ n ≡ 8 ^ (15 - d) = ap (λ (n : ℕ). 8 ^ n) is in
    omega (arith, few, same))

-- ---- a child that is being added

pub leaf_small : (d : ℕ) (codes : List ℕ) (next rest i free occupied more other : ℕ) (r : Entries)
    (tail : List ℕ) → d ≤ 15 → IsRecord d r
    → codes ≡ flat r ++ tail → i < 8 → (rest % 4 ≡ 3 → ⊥)
    → IsCounting d codes next rest i free occupied r tail
    → ((c : Class) → class_code c ≡ rest % 4 → more ≡ leaf_voxels Free d c)
    → ((c : Class) → class_code c ≡ rest % 4 → other ≡ leaf_voxels Occupied d c)
    → IsSmall codes next (free + more) (occupied + other)
leaf_small d codes next rest i free occupied more other r tail low is text li none s are_free
    are_occupied =
    counting_small d codes next (rest / 4) (i + 1) (free + more)
    (occupied + other) r tail low is text
    (counting_leaf d codes next rest i free occupied more other r tail li none s are_free
    are_occupied)

pub record_small : (d : ℕ) (codes : List ℕ) (next rest i free occupied more other bytes : ℕ)
    (r : Entries) (tail : List ℕ) → d ≤ 15 → IsRecord d r
    → codes ≡ flat r ++ tail → i < 8 → rest % 4 ≡ 3
    → IsCounting d codes next rest i free occupied r tail
    → ((q : Entries) (later : List ℕ) → IsRecord (d + 1) q → drop next codes ≡ flat q ++ later
    → IsRecordCount (d + 1) q more other bytes)
    → IsSmall codes (next + bytes) (free + more) (occupied + other)
record_small d codes next rest i free occupied more other bytes r tail low is text li three s
    counted =
    counting_small d codes (next + bytes) (rest / 4) (i + 1) (free + more)
    (occupied + other) r tail low is text
    (counting_record d codes next rest i free occupied more other bytes r tail li three s counted)
