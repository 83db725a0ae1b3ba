-- The first bad field is none exactly where all conditions hold.
use Rattle.std.proofs.Common.{◌≡◌, ℤ, ◌≤ℤ◌, ◌<ℤ◌, Bool, true, false, not, cond, Option, Some, None}
use Rattle.std.proofs.Common.{arith, refl, sym, ◌∙◌}
use Rattle.std.specs.Prelude.{int_lt, int_le}
use Rattle.std.proofs.lemmas.Int.{ints}
use Rattle.std.proofs.lemmas.Bool.{and_from, and_parts}
use Rattle.oct_odds.specs.declared.model.OddsField.{OddsField}
use Rattle.oct_odds.specs.declared.model.OddsField.TheVariants.{Hit, Miss, Min, Max, Thr}
use Rattle.oct_odds.specs.Odds.{Odds, IsSmall, IsSound, is_small, is_good, first_bad_field}

-- what the test of a magnitude means
small : (n : ℤ) → is_small n ≡ true → IsSmall n
unfolding is_small
small n h = grind (arith, ints)

test_small : (n : ℤ) → IsSmall n → is_small n ≡ true
unfolding is_small
test_small n h = grind (arith, ints)

below : (a b : ℤ) → int_lt a b ≡ true → a <ℤ b
below a b h = grind (arith, ints)

test_below : (a b : ℤ) → a <ℤ b → int_lt a b ≡ true
test_below a b h = grind (arith, ints)

at_most : (a b : ℤ) → int_le a b ≡ true → a ≤ℤ b
at_most a b h = grind (arith, ints)

test_at_most : (a b : ℤ) → a ≤ℤ b → int_le a b ≡ true
test_at_most a b h = grind (arith, ints)

-- a good field is passed over
passed : (good : Bool) (field : OddsField) (rest found : Option OddsField) → good ≡ true
    → rest ≡ found → cond (not good) (Some field) rest ≡ found
passed true field rest found g r = r
passed false field rest found g r = cc

-- a bad field is found
found : (good : Bool) (field : OddsField) (rest : Option OddsField) → good ≡ false
    → cond (not good) (Some field) rest ≡ Some field
found true field rest b = cc
found false field rest b = refl

-- the maximum is the first bad field
pub max_found : (o : Odds) → is_good o Hit ≡ true → is_good o Miss ≡ true → is_good o Min ≡ true
    → is_good o Max ≡ false → Some Max ≡ first_bad_field o
max_found o hit miss min max =
    let e : first_bad_field o ≡ Some Max =
    passed _ _ _ _ hit (passed _ _ _ _ miss (passed _ _ _ _ min (found _ _ _ max))) in
    sym e

-- the threshold is the first bad field
pub thr_found : (o : Odds) → is_good o Hit ≡ true → is_good o Miss ≡ true → is_good o Min ≡ true
    → is_good o Max ≡ true → is_good o Thr ≡ false → Some Thr ≡ first_bad_field o
thr_found o hit miss min max thr =
    let e : first_bad_field o ≡ Some Thr =
    passed _ _ _ _ hit
    (passed _ _ _ _ miss (passed _ _ _ _ min (passed _ _ _ _ max (found _ _ _ thr)))) in
    sym e

-- no field is bad
pub none_found : (o : Odds) → is_good o Hit ≡ true → is_good o Miss ≡ true → is_good o Min ≡ true
    → is_good o Max ≡ true → is_good o Thr ≡ true → None ≡ first_bad_field o
none_found o hit miss min max thr =
    let e : first_bad_field o ≡ None =
    passed _ _ _ _ hit
    (passed _ _ _ _ miss
    (passed _ _ _ _ min (passed _ _ _ _ max (passed _ _ _ _ thr refl)))) in
    sym e

-- where none is found, a field and those after it are good
none_here : (good : Bool) (field : OddsField) (rest : Option OddsField)
    → cond (not good) (Some field) rest ≡ None → (good ≡ true) × (rest ≡ None)
none_here true field rest h = (refl, h)
none_here false field rest h = cc

-- where no field is bad, the conditions hold
pub sound_from_none : (o : Odds) → first_bad_field o ≡ None → IsSound o
sound_from_none o h =
    let hit = none_here _ _ _ h in
    let miss = none_here _ _ _ hit.1 in
    let min = none_here _ _ _ miss.1 in
    let max = none_here _ _ _ min.1 in
    let thr = none_here _ _ _ max.1 in
    let good_hit = and_parts _ _ hit.0 in
    let good_miss = and_parts _ _ miss.0 in
    let good_min = and_parts _ _ min.0 in
    let good_max = and_parts _ _ max.0 in
    let good_thr = and_parts _ _ thr.0 in
    let within = and_parts _ _ good_thr.0 in
    record {
      hit_positive = below _ _ good_hit.1;
      miss_negative = below _ _ good_miss.1;
      zero_within = (at_most _ _ good_min.1, at_most _ _ good_max.1);
      thr_within = (below _ _ within.1, at_most _ _ good_thr.1);
      small = (
        small _ good_hit.0,
        small _ good_miss.0,
        small _ good_min.0,
        small _ good_max.0,
        small _ within.0,
      );
    }

-- where the conditions hold, no field is bad
pub none_from_sound : (o : Odds) → IsSound o → first_bad_field o ≡ None
none_from_sound o s =
    passed _ _ _ _ (and_from _ _ (test_small _ s.small.0) (test_below _ _ s.hit_positive))
    (passed _ _ _ _ (and_from _ _ (test_small _ s.small.1) (test_below _ _ s.miss_negative))
    (passed _ _ _ _ (and_from _ _ (test_small _ s.small.2) (test_at_most _ _ s.zero_within.0))
    (passed _ _ _ _ (and_from _ _ (test_small _ s.small.3) (test_at_most _ _ s.zero_within.1))
    (passed _ _ _ _
    (and_from _ _ (and_from _ _ (test_small _ s.small.4) (test_below _ _ s.thr_within.0))
    (test_at_most _ _ s.thr_within.1))
    refl))))

-- where a field is bad, the conditions don't all hold
pub some_unsound : (o : Odds) (field : OddsField) → first_bad_field o ≡ Some field → IsSound o → ⊥
some_unsound o field some sound =
    let none = none_from_sound o sound in
    let e : None ≡ Some field = sym none ∙ some in
    cc
