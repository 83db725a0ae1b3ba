use Rattle.oct_file_tasks.proofs.StoreEnds.{found_ends, fault_ends, memory_ends}
use Rattle.oct_file_tasks.proofs.merging.do_over_store.Goals as goal

pub returns-in-Ok-clause-ends : goal.returns-in-Ok-clause-ends
returns-in-Ok-clause-ends g c =
    found_ends c.args.task.now (g.F.Store.files c.args.store.now) c.in-Ok.found _ _ _
    c.in-Ok.ensures.found c.answer.ensures.ends

pub returns-in-Err-Failed-clause-ends : goal.returns-in-Err-Failed-clause-ends
returns-in-Err-Failed-clause-ends g c =
    fault_ends c.args.task.now (g.F.Store.files c.args.store.now) _

pub returns-in-Err-Memory-clause-ends : goal.returns-in-Err-Memory-clause-ends
returns-in-Err-Memory-clause-ends g c =
    memory_ends c.args.task.now (g.F.Store.files c.args.store.now) _
