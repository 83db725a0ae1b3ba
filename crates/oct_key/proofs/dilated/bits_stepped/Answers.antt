use Rattle.std.proofs.Common.{◌≡◌, if◌then◌else◌}
use Rattle.oct_key.proofs.Carries.{bits_stepped_is}
use Rattle.oct_key.proofs.dilated.bits_stepped.Goals as goal
use Rattle.oct_key.proofs.dilated.bits_stepped.Goals.{then-rises, else-rises}

pub returns : goal.returns
returns c =
    let by : c.if-rises.by ≡ (if c.args.rises then 241264265751991 else 18446744073709551615) =
    elim c.if-rises.branch [
      | then-rises w ↦ rw w.if-rises.true w.by-is
      | else-rises w ↦ rw w.if-rises.false w.by-is
    ] in
    bits_stepped_is c.args.rises c.args.bits c.args.now c.if-rises.by c.requires.bits c.requires.now
    c.requires.down by
