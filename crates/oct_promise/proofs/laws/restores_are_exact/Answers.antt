use Rattle.oct_promise.proofs.FilesRestored.{file_restored}
use Rattle.oct_promise.proofs.laws.restores_are_exact.Goals as goal

pub returns : goal.returns
returns c = file_restored _ c.keep.ensures.set_up
