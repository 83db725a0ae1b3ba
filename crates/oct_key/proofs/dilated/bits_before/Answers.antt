use Rattle.std.proofs.Common.{arith}
use Rattle.oct_key.proofs.Carries.{dilated_some_bit, bits_before_is}
use Rattle.oct_key.proofs.dilated.bits_before.Goals as goal

pub overflow_sub-result : goal.overflow_sub-result
overflow_sub-result c =
    (let l = dilated_some_bit c.args.bits c.requires.bits c.requires.some in omega (arith, l))

pub returns : goal.returns
returns c = bits_before_is c.args.bits c.requires.bits c.requires.some
