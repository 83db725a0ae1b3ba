use Rattle.std.proofs.Common.{◌≤◌, ◌+◌, ◌∙◌, drop, inl, inr, refl, arith}
use Rattle.std.specs.List.{prefix_len}
use Rattle.oct_num.specs.Decimal.{is_digit}
use Rattle.oct_num.proofs.DigitRuns.{digits_small}
use Rattle.oct_num.proofs.Fronts.{front_begins, kept}
use Rattle.oct_num.proofs.FrontsAt.{front_at, front_missing}
use Rattle.oct_num.proofs.metres.metres_at.Goals as goal

pub returns-then-digits-eq0-clause-exact : goal.returns-then-digits-eq0-clause-exact
returns-then-digits-eq0-clause-exact c =
    front_missing c.args.text.now c.args.from _ _ _ c.skip_sign-minus.ensures.rest
    c.add_digits-whole.ensures.end refl (inl c.if-digits-eq0.true)

pub returns-then-digits-gt-MOST_WHOLE_DIGITS-clause-exact :
    goal.returns-then-digits-gt-MOST_WHOLE_DIGITS-clause-exact
returns-then-digits-gt-MOST_WHOLE_DIGITS-clause-exact c =
    front_missing c.args.text.now c.args.from _ _ _ c.skip_sign-minus.ensures.rest
    c.add_digits-whole.ensures.end refl (inr (inl c.if-digits-gt-MOST_WHOLE_DIGITS.true))

pub add_fraction-requires-clause-before : goal.add_fraction-requires-clause-before
add_fraction-requires-clause-before c =
    let size : 0 + prefix_len is_digit (drop c.skip_sign-minus.result.1 c.args.text.now) ≤ 7 =
    omega (arith, c.add_digits-whole.ensures.end, c.if-digits-gt-MOST_WHOLE_DIGITS.false) in
    digits_small _ _ 7 (c.add_digits-whole.ensures.small 0 (omega arith) (omega (arith, size))) size

pub returns-in_err-nm-clause-exact : goal.returns-in_err-nm-clause-exact
returns-in_err-nm-clause-exact c =
    rw c.from_residual.ensures
    (front_missing c.args.text.now c.args.from _ _ _ c.skip_sign-minus.ensures.rest
    c.add_digits-whole.ensures.end refl (inr (inr c.in_err-nm.ensures.exact)))

pub returns-clause-exact : goal.returns-clause-exact
returns-clause-exact c =
    front_at c.args.text.now c.args.from _ _ _ _ _ _ _ _ c.skip_sign-minus.ensures.minus
    c.skip_sign-minus.ensures.rest c.add_digits-whole.ensures.end refl c.if-digits-eq0.false
    c.if-digits-gt-MOST_WHOLE_DIGITS.false
    (c.add_digits-whole.ensures.value 0 (omega arith)
    (omega (arith, c.add_digits-whole.ensures.end, c.if-digits-gt-MOST_WHOLE_DIGITS.false)))
    c.in_ok-nm.ensures.exact
    (kept _ _ c.with_sign.ensures.same c.in_ok-nm.ensures.reach ∙ c.with_sign.ensures.value)

pub returns-clause-begins : goal.returns-clause-begins
returns-clause-begins c = front_begins _ _ _ (returns-clause-exact c)
