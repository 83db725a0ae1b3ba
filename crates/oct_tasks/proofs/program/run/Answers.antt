use Rattle.std.proofs.Common.{None, refl, sym}
use Rattle.oct_tasks.proofs.Runs.{run_unnamed}
use Rattle.oct_tasks.proofs.program.run.Goals as goal

pub returns-in-Ok-clause-answer : goal.returns-in-Ok-clause-answer
returns-in-Ok-clause-answer g c = rw (sym c.in-Ok.ensures.exact) c.perform.ensures.answer

pub returns-in-Ok-clause-leaves : goal.returns-in-Ok-clause-leaves
returns-in-Ok-clause-leaves g c = rw (sym c.in-Ok.ensures.exact) c.perform.ensures.leaves

pub returns-in-Ok-clause-made : goal.returns-in-Ok-clause-made
returns-in-Ok-clause-made g c = rw (sym c.in-Ok.ensures.exact) c.perform.ensures.made

pub returns-in-Err-clause-leaves : goal.returns-in-Err-clause-leaves
returns-in-Err-clause-leaves g c = rw (sym c.in-Err.ensures.exact)
    (run_unnamed g.F.Store.files g.F.Store.calls c.args.store.now _ None _ _ _ _ _ refl)
