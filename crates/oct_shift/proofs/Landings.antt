-- Which numbers and voxels lie in the map after a move.
use Rattle.std.proofs.Common.{◌≡◌, ℕ, ◌<◌, ◌≤◌, ◌↔◌, Some, None, Bool, true, false, refl, sym, ◌∙◌}
use Rattle.std.proofs.Common.{ap}
use Rattle.std.proofs.Common.{arith, subst}
use Rattle.std.specs.Prelude.{ℤ, pos, negsuc, ◌+ℤ◌, ◌≤ℤ◌, ◌<ℤ◌, IsTrue, Option, is_some, nat_lt}
use Rattle.std.specs.Prelude.{◌&&◌}
use Rattle.std.proofs.lemmas.Bool.{ltb-true, ltb-false, false≢true}
use Rattle.std.proofs.lemmas.Int.{ints}
use Rattle.oct_key.specs.Voxel.{in_range, key_from}

-- a number lies in the map where the test for its bounds says so
pub in_range_is : (z : ℤ) (test : Bool) → (IsTrue test ↔ ((pos 0 ≤ℤ z) × (z <ℤ pos 65536)))
    → test ≡ is_some (in_range z)
in_range_is (pos m) test is = by test (nat_lt m 65536) refl is
  where
    by : (test below : Bool) → nat_lt m 65536 ≡ below
        → (IsTrue test ↔ ((pos 0 ≤ℤ pos m) × (pos m <ℤ pos 65536)))
        → test ≡ is_some (in_range (pos m))
    by true true e is = rw e refl
    by false false e is = rw e refl
    by true false e is =
        (let past : 65536 ≤ m = ltb-false m 65536 e in
        let (low, high) = is.0 refl in
        absurd (omega (arith, ints, past, high)))
    by false true e is =
        (let less : m < 65536 = ltb-true m 65536 e in
        let low : pos 0 ≤ℤ pos m = omega (arith, ints) in
        let high : pos m <ℤ pos 65536 = omega (arith, ints, less) in
        absurd (false≢true (is.1 (low, high))))
in_range_is (negsuc m) true is = (let (low, high) = is.0 refl in absurd (omega (arith, ints, low)))
in_range_is (negsuc m) false is = refl

-- three numbers make a voxel where there are three
three_there : (x y z : Option ℕ)
    → is_some (key_from x y z) ≡ (is_some x && is_some y && is_some z)
three_there None y z = refl
three_there (Some x) None z = refl
three_there (Some x) (Some y) None = refl
three_there (Some x) (Some y) (Some z) = refl

-- what is told of a number that was passed on is told of it
pub passed : (a b : ℤ) (n : ℕ) (test : Bool) → a ≡ b → test ≡ is_some (in_range (pos n +ℤ a))
    → test ≡ is_some (in_range (pos n +ℤ b))
passed a b n test same is = subst (λ z. test ≡ is_some (in_range (pos n +ℤ z))) same is

pub all_land : (x y z : Option ℕ) (test : Bool) → is_some x ≡ true → is_some y ≡ true
    → test ≡ is_some z → test ≡ is_some (key_from x y z)
all_land x y z test on_x on_y on_z =
    on_z ∙ sym (three_there x y z ∙ ap (λ a. a && is_some y && is_some z) on_x
    ∙ ap (λ a. true && a && is_some z) on_y)

pub two_leave : (x y z : Option ℕ) (test : Bool) → is_some x ≡ true → is_some y ≡ false
    → test ≡ false → test ≡ is_some (key_from x y z)
two_leave x y z test on_x on_y none =
    none ∙ sym (three_there x y z ∙ ap (λ a. a && is_some y && is_some z) on_x
    ∙ ap (λ a. true && a && is_some z) on_y)

pub one_leaves : (x y z : Option ℕ) (test : Bool) → is_some x ≡ false → test ≡ false
    → test ≡ is_some (key_from x y z)
one_leaves x y z test on_x none =
    none ∙ sym (three_there x y z ∙ ap (λ a. a && is_some y && is_some z) on_x)
