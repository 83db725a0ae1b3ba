use Rattle.std.proofs.Common.{sym, ◌∙◌}
use Rattle.oct_key.specs.Morton.{gathered}
use Rattle.oct_key.proofs.Interleavings.{interleaved_one}
use Rattle.oct_key.proofs.Spreads.{third_bits_masked}
use Rattle.oct_scan.proofs.code_box.third_bits.Goals as goal

pub returns : goal.returns
returns c = third_bits_masked c.args.code ∙ sym (interleaved_one 16 (gathered 16 c.args.code))
