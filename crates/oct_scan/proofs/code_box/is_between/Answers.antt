use Rattle.oct_scan.proofs.CodeBoxes.{test_failed, test_passed}
use Rattle.oct_scan.proofs.code_box.is_between.Goals as goal

pub returns-then-third_bits-bits : goal.returns-then-third_bits-bits
returns-then-third_bits-bits c =
    test_passed c.third_bits.result c.third_bits-bits.result
    c.third_bits-then-third_bits-bits.result c.args.low c.args.high c.args.code
    c.third_bits.ensures c.third_bits-bits.ensures c.third_bits-then-third_bits-bits.ensures
    c.if-third_bits-bits.true

pub returns-else-third_bits-bits : goal.returns-else-third_bits-bits
returns-else-third_bits-bits c =
    test_failed c.third_bits.result c.third_bits-bits.result c.args.low c.args.high c.args.code
    c.third_bits.ensures c.third_bits-bits.ensures c.if-third_bits-bits.false
