use Rattle.std.proofs.Common.{refl, sym, ◌∙◌}
use Rattle.oct_session.specs.Standing.{desk_of}
use Rattle.oct_session.proofs.Built.{written_ends, unwritten_ends, zero_stays, writing_ends}
use Rattle.oct_session.proofs.Built.{writing_asks, writing_runs, unwritten_runs}
use Rattle.oct_session.proofs.building.build.Goals as goal

pub returns-then-has_ended-clause-ends : goal.returns-then-has_ended-clause-ends
returns-then-has_ended-clause-ends g c =
    written_ends c.args.options.now (g.F.Store.files c.args.store.now) _ _ _ _
    (desk_of g.F.Store.files g.F.Store.calls c.serve-ended.new.map c.serve-ended.new.store
    c.args.store.now) _ _ (sym c.has_ended.ensures ∙ c.if-has_ended.true)
    c.serve-ended.ensures.ends
    (writing_ends c.serve-ended.new.map c.tree.result.now c.write-written.result _ _ _ _
    (sym c.has_ended.ensures ∙ c.if-has_ended.true) c.tree.ensures.exact c.status_written.ensures
    c.write-written.ensures.written c.write-written.ensures.cut)

pub returns-then-has_ended-clause-waits : goal.returns-then-has_ended-clause-waits
returns-then-has_ended-clause-waits g c =
    writing_asks c.write-written.result _ _ _ (sym c.has_ended.ensures ∙ c.if-has_ended.true)
    c.status_written.ensures

pub returns-then-has_ended-clause-runs : goal.returns-then-has_ended-clause-runs
returns-then-has_ended-clause-runs g c =
    writing_runs g.S.Source g.K.Sink _ g.F.Store c.args.options.now _ _ _ _ _ _ _ _ _
    c.write-written.result _ _ (sym c.has_ended.ensures ∙ c.if-has_ended.true)
    c.status_written.ensures c.serve-ended.ensures.runs c.write-written.ensures.counts

pub returns-else-has_ended-clause-ends : goal.returns-else-has_ended-clause-ends
returns-else-has_ended-clause-ends g c =
    unwritten_ends c.args.options.now (g.F.Store.files c.args.store.now) _ _ _ _
    (desk_of g.F.Store.files g.F.Store.calls c.serve-ended.new.map c.serve-ended.new.store
    c.args.store.now) _ (sym c.has_ended.ensures ∙ c.if-has_ended.false)
    (λ fault. zero_stays (c.serve-ended.ensures.runs.sink_counts.write_fault fault)) refl
    c.serve-ended.ensures.ends

pub returns-else-has_ended-clause-runs : goal.returns-else-has_ended-clause-runs
returns-else-has_ended-clause-runs g c =
    unwritten_runs g.S.Source g.K.Sink _ g.F.Store c.args.options.now _ _ _ _ _ _ _ _ _
    zero_stays c.serve-ended.ensures.runs
