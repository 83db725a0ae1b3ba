use Rattle.std.proofs.Common.{◌+◌, rules, ap}
use Rattle.std.proofs.lemmas.Result.{err_from_is_err_and}
use Rattle.oct_num.proofs.MetresReading.{magnitude_fault}
use Rattle.oct_num.proofs.metres.read_magnitude.Goals as goal

pub returns-in_err-fraction-clause-exact : goal.returns-in_err-fraction-clause-exact
returns-in_err-fraction-clause-exact c =
    let p = err_from_is_err_and c.from_residual.result c.from_residual.ensures.1 in
    rw (p.1, p.2)
    (magnitude_fault _ _ _ _ _ (λ e. search rules)
    (ap (λ n. c.args.start + n) c.split_digits.ensures.count) c.split_digits.ensures.rest
    c.in_err-fraction.ensures.exact)
