use Rattle.oct_promise.proofs.RegionMaps.{maps_join, snapshots_join}
use Rattle.oct_promise.proofs.laws.maps_join_to_one.Goals as goal

pub returns-clause-values : goal.returns-clause-values
returns-clause-values g c = λ bytes plan built cover.
    maps_join _ (g.F.Store.files c.args.store.now) bytes plan built cover

pub returns-clause-snapshots : goal.returns-clause-snapshots
returns-clause-snapshots g c = λ bytes plan built cover map joined.
    snapshots_join _ (g.F.Store.files c.args.store.now) bytes c.keep.ensures.set_up
    (g.met.F.Store.tells_bytes c.args.store.now) plan built cover map joined
