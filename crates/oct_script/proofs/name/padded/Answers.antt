use Rattle.oct_script.proofs.NameBytes.{zeros_behind}
use Rattle.oct_script.proofs.name.padded.Goals as goal

pub returns : goal.returns
returns c = rw c.copy_from_slice.ensures.after (zeros_behind c.args.word.now)
