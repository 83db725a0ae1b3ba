use Rattle.std.proofs.Common.{[], rules}
use Rattle.oct_io.specs.Shelf.{shelf}
use Rattle.oct_session.specs.Standing.{desk_of}
use Rattle.oct_session.proofs.Endings.{nothing_asked}
use Rattle.oct_session.proofs.Serving.{ends_back, session_read, session_stopped, runs_back}
use Rattle.oct_session.proofs.Serving.{runs_read, runs_stopped}
use Rattle.oct_session.proofs.Turns.{waits_first}
use Rattle.oct_session.proofs.service.serve.Goals as goal

pub returns-in-Ok-clause-ends : goal.returns-in-Ok-clause-ends
returns-in-Ok-clause-ends g c =
    ends_back g.K.Sink g.F.Store.files g.F.Store.calls c.args.options.now
    (g.F.Store.files c.args.store.now) _ _ c.args.store.now c.args.sink.now
    c.read_all.new.context.map.now c.map-1.given.0 c.read_all.new.context.store.now
    c.store-1.given.0
    c.read_all.new.context.sink.now c.sink-1.given.0 _ (search rules) (search rules) (search rules)
    (session_read _ c.args.options.now (g.F.Store.files c.args.store.now) _ _ _ _ c.args.map.now
    (λ first. shelf g.F.Store.files g.F.Store.calls first c.args.store.now)
    (desk_of g.F.Store.files g.F.Store.calls c.read_all.new.context.map.now
    c.read_all.new.context.store.now)
    c.args.store.now _ _ _ (nothing_asked g.F.Store.files g.F.Store.calls c.args.store.now)
    (record { stands = c.requires; fresh = c.new-session.ensures })
    c.done_or_refused.ensures c.in-Ok.ensures.reads.to)

pub returns-clause-ends : goal.returns-clause-ends
returns-clause-ends g c =
    ends_back g.K.Sink g.F.Store.files g.F.Store.calls c.args.options.now
    (g.F.Store.files c.args.store.now) _ _ c.args.store.now c.args.sink.now
    c.read_all.new.context.map.now c.map-1.given.0 c.read_all.new.context.store.now
    c.store-1.given.0
    c.read_all.new.context.sink.now c.sink-1.given.0 _ (search rules) (search rules) (search rules)
    (session_stopped c.args.options.now (g.F.Store.files c.args.store.now) _ _ _ _ c.args.map.now
    (λ first. shelf g.F.Store.files g.F.Store.calls first c.args.store.now)
    (desk_of g.F.Store.files g.F.Store.calls c.read_all.new.context.map.now
    c.read_all.new.context.store.now)
    c.args.store.now _ _ _ (nothing_asked g.F.Store.files g.F.Store.calls c.args.store.now)
    (record { stands = c.requires; fresh = c.new-session.ensures })
    c.from.ensures c.in-Err.ensures.reads.to)

pub returns-in-Ok-clause-runs : goal.returns-in-Ok-clause-runs
returns-in-Ok-clause-runs g c =
    runs_back g.S.Source g.K.Sink g.F.Store c.args.options.now c.read_all.new.context.map.now
    c.map-1.given.0 c.args.source.now c.read_all.new.source c.args.sink.now
    c.read_all.new.context.sink.now c.sink-1.given.0 c.args.store.now
    c.read_all.new.context.store.now
    c.store-1.given.0 _ (search rules) (search rules) (search rules)
    (runs_read g.S.Source g.K.Sink g.F.Store c.args.options.now _ _ _ _ _ _ _ _
    c.read_all.new.session.refused _ c.done_or_refused.ensures
    (c.in-Ok.ensures.reads.done.stands c.args.options.now ([], c.requires))
    c.in-Ok.ensures.source_counts c.in-Ok.ensures.reads.done.counted)

pub returns-clause-runs : goal.returns-clause-runs
returns-clause-runs g c =
    runs_back g.S.Source g.K.Sink g.F.Store c.args.options.now c.read_all.new.context.map.now
    c.map-1.given.0 c.args.source.now c.read_all.new.source c.args.sink.now
    c.read_all.new.context.sink.now c.sink-1.given.0 c.args.store.now
    c.read_all.new.context.store.now
    c.store-1.given.0 _ (search rules) (search rules) (search rules)
    (runs_stopped g.S.Source g.K.Sink g.F.Store c.args.options.now _ _ _ _ _ _ _ _ _
    c.from.ensures
    (c.in-Err.ensures.reads.done.stands c.args.options.now ([], c.requires))
    c.in-Err.ensures.source_counts c.in-Err.ensures.reads.done.counted)

pub read_all-requires : goal.read_all-requires
read_all-requires g c = waits_first _ _ c.new-session.ensures
