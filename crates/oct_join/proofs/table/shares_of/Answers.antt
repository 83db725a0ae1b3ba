use Rattle.std.proofs.Common.{◌*◌, ◌<◌, sym, rules}
use Rattle.oct_key.specs.CubeOf.{cube_of}
use Rattle.oct_join.proofs.Counting.{shares_are, product_small}
use Rattle.oct_join.proofs.table.shares_of.Goals as goal

pub returns : goal.returns
returns c i l =
    rw (sym c.lo-lo.ensures, sym c.hi-hi.ensures)
    (shares_are c.lo-lo.result c.hi-hi.result (cube_of c.args.block) _ _ _ _ _ _ i l
    c.shared_halves-x.ensures.low c.shared_halves-x.ensures.high c.shared_halves-y.ensures.low
    c.shared_halves-y.ensures.high c.shared_halves-z.ensures.low c.shared_halves-z.ensures.high)

pub overflow_mul-result-2 : goal.overflow_mul-result-2
overflow_mul-result-2 c =
    let fits : c.shared_halves-x.result.low * c.shared_halves-y.result.low
    * c.shared_halves-z.result.low < 18446744073709551616 =
    product_small _ _ _ c.shared_halves-x.ensures.few_low c.shared_halves-y.ensures.few_low
    c.shared_halves-z.ensures.few_low in
    search rules

pub overflow_mul-result-4 : goal.overflow_mul-result-4
overflow_mul-result-4 c =
    let fits : c.shared_halves-x.result.high * c.shared_halves-y.result.low
    * c.shared_halves-z.result.low < 18446744073709551616 =
    product_small _ _ _ c.shared_halves-x.ensures.few_high c.shared_halves-y.ensures.few_low
    c.shared_halves-z.ensures.few_low in
    search rules

pub overflow_mul-result-6 : goal.overflow_mul-result-6
overflow_mul-result-6 c =
    let fits : c.shared_halves-x.result.low * c.shared_halves-y.result.high
    * c.shared_halves-z.result.low < 18446744073709551616 =
    product_small _ _ _ c.shared_halves-x.ensures.few_low c.shared_halves-y.ensures.few_high
    c.shared_halves-z.ensures.few_low in
    search rules

pub overflow_mul-result-8 : goal.overflow_mul-result-8
overflow_mul-result-8 c =
    let fits : c.shared_halves-x.result.high * c.shared_halves-y.result.high
    * c.shared_halves-z.result.low < 18446744073709551616 =
    product_small _ _ _ c.shared_halves-x.ensures.few_high c.shared_halves-y.ensures.few_high
    c.shared_halves-z.ensures.few_low in
    search rules

pub overflow_mul-result-10 : goal.overflow_mul-result-10
overflow_mul-result-10 c =
    let fits : c.shared_halves-x.result.low * c.shared_halves-y.result.low
    * c.shared_halves-z.result.high < 18446744073709551616 =
    product_small _ _ _ c.shared_halves-x.ensures.few_low c.shared_halves-y.ensures.few_low
    c.shared_halves-z.ensures.few_high in
    search rules

pub overflow_mul-result-12 : goal.overflow_mul-result-12
overflow_mul-result-12 c =
    let fits : c.shared_halves-x.result.high * c.shared_halves-y.result.low
    * c.shared_halves-z.result.high < 18446744073709551616 =
    product_small _ _ _ c.shared_halves-x.ensures.few_high c.shared_halves-y.ensures.few_low
    c.shared_halves-z.ensures.few_high in
    search rules

pub overflow_mul-result-14 : goal.overflow_mul-result-14
overflow_mul-result-14 c =
    let fits : c.shared_halves-x.result.low * c.shared_halves-y.result.high
    * c.shared_halves-z.result.high < 18446744073709551616 =
    product_small _ _ _ c.shared_halves-x.ensures.few_low c.shared_halves-y.ensures.few_high
    c.shared_halves-z.ensures.few_high in
    search rules

pub overflow_mul-result-16 : goal.overflow_mul-result-16
overflow_mul-result-16 c =
    let fits : c.shared_halves-x.result.high * c.shared_halves-y.result.high
    * c.shared_halves-z.result.high < 18446744073709551616 =
    product_small _ _ _ c.shared_halves-x.ensures.few_high c.shared_halves-y.ensures.few_high
    c.shared_halves-z.ensures.few_high in
    search rules
