use Rattle.std.proofs.Common.{◌∙◌, sym, refl, arith}
use Rattle.oct_num.proofs.FrontsAt.{fraction_there, fraction_some, all_small}
use Rattle.oct_num.proofs.metres.add_fraction.Goals as goal

pub overflow_mul-result-2 : goal.overflow_mul-result-2
overflow_mul-result-2 c =
    omega (
      arith,
      all_small _ _ _ _ _ _ (c.add_digits-value.ensures.small 7 c.requires.before)
          c.add_digits-value.ensures.end refl c.if-digits-gt-MOST_FRACTION_DIGITS.false
          c.nanometres_per_unit.ensures,
    )

pub returns-clause-exact : goal.returns-clause-exact
returns-clause-exact c =
    let there =
    fraction_there c.args.text.now c.args.point
    (sym c.has_at.ensures ∙ c.if-not-has_at.false) in
    fraction_some _ _ _ _ _ _ _ _ there.1 c.add_digits-value.ensures.end refl c.if-digits-eq0.false
    c.if-digits-gt-MOST_FRACTION_DIGITS.false
    (c.add_digits-value.ensures.value 7 c.requires.before
    (omega (arith, c.add_digits-value.ensures.end, c.if-digits-gt-MOST_FRACTION_DIGITS.false)))
    c.nanometres_per_unit.ensures refl

pub returns-clause-reach : goal.returns-clause-reach
returns-clause-reach c =
    all_small _ _ _ _ _ _ (c.add_digits-value.ensures.small 7 c.requires.before)
    c.add_digits-value.ensures.end refl c.if-digits-gt-MOST_FRACTION_DIGITS.false
    c.nanometres_per_unit.ensures
