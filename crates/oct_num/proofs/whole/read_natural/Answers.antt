use Rattle.std.proofs.Common.{◌≡◌, ◌+◌, ◌≤◌, inl, inr, arith}
use Rattle.std.specs.List.{prefix_len}
use Rattle.oct_num.specs.Decimal.{is_digit}
use Rattle.oct_num.proofs.DigitRuns.{digits_small}
use Rattle.oct_num.proofs.NumberFronts.{natural_found, natural_missing}
use Rattle.oct_num.proofs.whole.read_natural.Goals as goal
use Rattle.oct_num.proofs.whole.read_natural.Goals.{then-end-eq0-via-then-end-eq0}
use Rattle.oct_num.proofs.whole.read_natural.Goals.{then-end-eq0-via-else-end-eq0+then-end-gt-MOST_DIGITS}
use Rattle.oct_num.proofs.whole.read_natural.Goals.{then-end-eq0-via-else-end-eq0+else-end-gt-MOST_DIGITS+then-end-digits}

pub returns-then-end-eq0-clause-exact : goal.returns-then-end-eq0-clause-exact
returns-then-end-eq0-clause-exact c =
    let digits = c.args.digits.now in
    let end = c.add_digits-number.result.1 in
    let counted : end ≡ 0 + prefix_len is_digit digits = c.add_digits-number.ensures.end in
    elim c.then-end-eq0.branch [
      | then-end-eq0-via-then-end-eq0 w ↦ natural_missing digits end counted (inl w.if-end-eq0.true)
      | then-end-eq0-via-else-end-eq0+then-end-gt-MOST_DIGITS w ↦ natural_missing digits end counted
          (inr (inl w.if-end-gt-MOST_DIGITS.true))
      | then-end-eq0-via-else-end-eq0+else-end-gt-MOST_DIGITS+then-end-digits w ↦
          natural_missing digits end counted (inr (inr w.if-end-digits.true))
    ]

pub returns-clause-exact : goal.returns-clause-exact
returns-clause-exact c =
    let digits = c.args.digits.now in
    let end = c.add_digits-number.result.1 in
    let counted : end ≡ 0 + prefix_len is_digit digits = c.add_digits-number.ensures.end in
    let few : 0 + prefix_len is_digit digits ≤ 18 =
    omega (arith, counted, c.if-end-gt-MOST_DIGITS.false) in
    natural_found digits end c.add_digits-number.result.0 counted c.if-end-eq0.false
    c.if-end-gt-MOST_DIGITS.false (omega (arith, c.if-end-digits.false))
    (c.add_digits-number.ensures.value 0 (omega arith) few)

pub returns-clause-reach : goal.returns-clause-reach
returns-clause-reach c =
    let few : 0 + prefix_len is_digit c.args.digits.now ≤ 18 =
    omega (arith, c.add_digits-number.ensures.end, c.if-end-gt-MOST_DIGITS.false) in
    digits_small _ _ 18 (c.add_digits-number.ensures.small 0 (omega arith) few) few
