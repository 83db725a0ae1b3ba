use Rattle.std.proofs.Common.{◌*◌, arith, bit_or, sym, ◌∙◌, ap}
use Rattle.std.proofs.lemmas.Nat.{and_le_l, le_or_r}
use Rattle.oct_bt.proofs.CodeMasks.{threes_few}
use Rattle.oct_join.specs.Joined.{merged_codes}
use Rattle.oct_join.proofs.Masks.{greatest_is, least_is, first_is}
use Rattle.oct_join.proofs.codes.merged_codes.Goals as goal

pub overflow_sub-result : goal.overflow_sub-result
overflow_sub-result c =
    let few = threes_few 8 (bit_or c.args.a c.args.b) in
    let is = c.threes-both.ensures.exact in
    omega (arith, few, is)

pub overflow_sub-result-in-Least : goal.overflow_sub-result-in-Least
overflow_sub-result-in-Least c =
    let few = threes_few 8 (bit_or c.args.a c.args.b) in
    let is = c.threes-both.ensures.exact in
    omega (arith, few, is)

pub overflow_sub-result-in-First : goal.overflow_sub-result-in-First
overflow_sub-result-in-First c =
    let few = and_le_l c.args.b (3 * c.threes-both.result) in
    let less = le_or_r c.args.a c.args.b in
    omega (arith, few, less)

pub returns-in-Greatest : goal.returns-in-Greatest
returns-in-Greatest c =
    greatest_is c.args.a c.args.b c.threes-both.result c.threes-both.ensures.exact
    ∙ ap (λ r. merged_codes 8 r c.args.a c.args.b) (sym c.in-Greatest.is)

pub returns-in-Least : goal.returns-in-Least
returns-in-Least c =
    least_is c.args.a c.args.b c.threes-both.result c.threes-both.ensures.exact
    ∙ ap (λ r. merged_codes 8 r c.args.a c.args.b) (sym c.in-Least.is)

pub returns-in-First : goal.returns-in-First
returns-in-First c =
    first_is c.args.a c.args.b c.threes-both.result c.threes-both.ensures.exact
    ∙ ap (λ r. merged_codes 8 r c.args.a c.args.b) (sym c.in-First.is)
