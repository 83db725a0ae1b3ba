use Rattle.oct_num.proofs.Results.{on_any_err}
use Rattle.oct_gen.specs.Script.{script_of}
use Rattle.oct_gen.proofs.Written.{stopped_list}
use Rattle.oct_gen.proofs.writing.gen_script.Goals as goal

pub returns-in_err-extend_from_slice-clause-err : goal.returns-in_err-extend_from_slice-clause-err
returns-in_err-extend_from_slice-clause-err c = on_any_err c.from_residual.result _
    (stopped_list (script_of c.args.seed c.args.scans c.args.points) _ _ _ _ _ _
    c.loop-line.invariant c.in-Some.ensures.next
    c.in-Some.ensures.some c.in_err-extend_from_slice.ensures.items)
