use Rattle.oct_key.specs.Morton.{gathered}
use Rattle.oct_key.proofs.Spreads.{third_bits_masked, pairs_joined, nibbles_joined, bytes_joined}
use Rattle.oct_key.proofs.Spreads.{whole_joined}
use Rattle.oct_key.proofs.Interleavings.{gathered_below}
use Rattle.oct_key.proofs.morton_code.gather_bits.Goals as goal

pub returns : goal.returns
returns c =
    let n = gathered 16 c.args.m in
    rw (third_bits_masked c.args.m, pairs_joined n, nibbles_joined n, bytes_joined n)
    (whole_joined n (gathered_below 16 c.args.m))
