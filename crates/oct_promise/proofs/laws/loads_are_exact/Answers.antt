use Rattle.oct_promise.proofs.FilesLoaded.{file_loaded}
use Rattle.oct_promise.proofs.laws.loads_are_exact.Goals as goal

pub returns : goal.returns
returns c = file_loaded _ c.keep.ensures.set_up
