use Rattle.std.specs.Prelude.{⊤}
use Rattle.std.proofs.Common.{Option, Some, Bool, ap}
use Rattle.oct_io.specs.Shelf.{shelf}
use Rattle.oct_tasks.specs.Meant.{meant_task}
use Rattle.oct_tasks.specs.Needs.{reads, names_files}
use Rattle.oct_tasks.specs.Task as meant
use Rattle.oct_tasks.specs.declared.task.Task.{Task}
use Rattle.oct_tasks.proofs.Runs.{session_run, build_run, run_unnamed, run_over_store}
use Rattle.oct_tasks.proofs.program.perform.Goals as goal

-- the task that a run does
abbrev run_of : Task → Option meant.Task
run_of task = Some (meant_task task)

-- whether it may name files of the store
abbrev names : Task → Bool
names task = names_files (reads (run_of task))

pub returns-in-Session-clause-answer : goal.returns-in-Session-clause-answer
returns-in-Session-clause-answer g c = rw c.in-Session.is
    (session_run _ _ (g.F.Store.files c.args.store.now) _ _ _ _ c.serve.new.map
    (shelf g.F.Store.files g.F.Store.calls c.args.store.now c.serve.new.store) _
    c.serve.ensures.ends).answer

pub returns-in-Session-clause-leaves : goal.returns-in-Session-clause-leaves
returns-in-Session-clause-leaves g c = rw c.in-Session.is
    (session_run _ _ (g.F.Store.files c.args.store.now) _ _ _ _ c.serve.new.map
    (shelf g.F.Store.files g.F.Store.calls c.args.store.now c.serve.new.store) _
    c.serve.ensures.ends).leaves

pub returns-in-Build-clause-answer : goal.returns-in-Build-clause-answer
returns-in-Build-clause-answer g c = rw c.in-Build.is
    (build_run ⊤ _ (g.F.Store.files c.args.store.now) _ _ _ _ c.build.new.map
    (shelf g.F.Store.files g.F.Store.calls c.args.store.now c.build.new.store) _
    c.build.ensures.ends).answer

pub returns-in-Build-clause-leaves : goal.returns-in-Build-clause-leaves
returns-in-Build-clause-leaves g c = rw c.in-Build.is
    (build_run _ _ (g.F.Store.files c.args.store.now) _ _ _ _ c.build.new.map
    (shelf g.F.Store.files g.F.Store.calls c.args.store.now c.build.new.store) _
    c.build.ensures.ends).leaves

pub returns-in-OverFile-clause-leaves : goal.returns-in-OverFile-clause-leaves
returns-in-OverFile-clause-leaves g c =
    run_unnamed g.F.Store.files g.F.Store.calls c.args.store.now _ (run_of c.args.task.now)
    _ _ _ _ _ (ap names c.in-OverFile.is)

pub returns-in-OverStore-clause-leaves : goal.returns-in-OverStore-clause-leaves
returns-in-OverStore-clause-leaves g c = rw c.in-OverStore.is
    (run_over_store _ c.in-OverStore.task (g.F.Store.files c.args.store.now) _ _ _ _
    (shelf g.F.Store.files g.F.Store.calls c.args.store.now c.do_over_store.new.store) _
    c.do_over_store.ensures.files c.do_over_store.ensures.called)

pub returns-in-Gen-clause-leaves : goal.returns-in-Gen-clause-leaves
returns-in-Gen-clause-leaves g c =
    run_unnamed g.F.Store.files g.F.Store.calls c.args.store.now _ (run_of c.args.task.now)
    _ _ _ _ _ (ap names c.in-Gen.is)

pub returns-in-Drill-clause-leaves : goal.returns-in-Drill-clause-leaves
returns-in-Drill-clause-leaves g c =
    run_unnamed g.F.Store.files g.F.Store.calls c.args.store.now _ (run_of c.args.task.now)
    _ _ _ _ _ (ap names c.in-Drill.is)
