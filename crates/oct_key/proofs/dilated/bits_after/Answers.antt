use Rattle.std.proofs.Common.{arith}
use Rattle.oct_key.proofs.Carries.{dilated_fits, bits_after_is}
use Rattle.oct_key.proofs.dilated.bits_after.Goals as goal

pub overflow_add-result : goal.overflow_add-result
overflow_add-result c = (let l = dilated_fits c.args.bits c.requires in omega (arith, l))

pub returns : goal.returns
returns c = bits_after_is c.args.bits c.requires
