use Rattle.std.proofs.Common.{arith, ◌∙◌}
use Rattle.oct_join.proofs.Walks.{codes_of_side, long_side, codes_of_class}
use Rattle.oct_join.proofs.joining.side_codes.Goals as goal

pub bounds-text-0 : goal.bounds-text-0
bounds-text-0 c =
    let (depth, r, tail, side, is) = c.requires in
    let long = long_side depth c.args.code c.args.text.now r tail c.if-code-eq3.true is in
    omega (arith, long)

pub bounds-text-1 : goal.bounds-text-1
bounds-text-1 c =
    let (depth, r, tail, side, is) = c.requires in
    let long = long_side depth c.args.code c.args.text.now r tail c.if-code-eq3.true is in
    omega (arith, long)

pub returns-then-code-eq3 : goal.returns-then-code-eq3
returns-then-code-eq3 c = λ depth r tail side is.
    codes_of_side depth c.args.code c.args.text.now r tail _ _ c.if-code-eq3.true side is
    c.from.ensures c.from-then-code-eq3.ensures

pub eight_times-requires : goal.eight_times-requires
eight_times-requires c =
    let (depth, r, tail, side, is) = c.requires in
    (codes_of_class depth c.args.code r c.if-code-eq3.false side).1

pub returns : goal.returns
returns c = λ depth r tail side is.
    c.eight_times.ensures ∙ (codes_of_class depth c.args.code r c.if-code-eq3.false side).0
