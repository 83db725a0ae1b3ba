use Rattle.oct_promise.proofs.StateCommands.{session_is}
use Rattle.oct_promise.proofs.laws.states_stay_sound.Goals as goal

pub returns : goal.returns
returns g c = λ lines. (session_is _ (g.F.Store.files c.args.store.now) lines
    c.keep.ensures.set_up (g.met.F.Store.tells_bytes c.args.store.now)).state
