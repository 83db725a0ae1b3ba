use Rattle.oct_promise.proofs.LoadedBack.{load_gives_back}
use Rattle.oct_promise.proofs.laws.saves_are_loaded.Goals as goal

pub returns : goal.returns
returns c = load_gives_back _ c.keep.ensures.set_up c.keep.ensures.limited
