use Rattle.oct_promise.proofs.GivenBack.{restores_told}
use Rattle.oct_promise.proofs.laws.snapshots_are_restored.Goals as goal

pub returns : goal.returns
returns g c = restores_told _ (g.F.Store.files c.args.store.now) c.keep.ensures.set_up
    (g.met.F.Store.tells_bytes c.args.store.now)
