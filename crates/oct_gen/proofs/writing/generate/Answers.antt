use Rattle.std.proofs.Common.{◌∙◌}
use Rattle.oct_num.proofs.Results.{on_any_err}
use Rattle.oct_gen.specs.Script.{script_of}
use Rattle.oct_gen.proofs.Written.{went_on, cut_off, parts_of}
use Rattle.oct_gen.proofs.writing.generate.Goals as goal

pub loop-script-preserved : goal.loop-script-preserved
loop-script-preserved g c = record {
  way = went_on _ _ _ _ _ _ _ c.loop-script.invariant.way
      (parts_of c.fill-count.result _ _ _ c.fill-count.ensures.bytes c.fill-count.ensures.moved)
      c.in_ok-write_all.ensures.ok;
  faults = c.in_ok-write_all.ensures.counts.stays.0 ∙ c.loop-script.invariant.faults;
  shortages = c.in_ok-write_all.ensures.counts.stays.1 ∙ c.loop-script.invariant.shortages;
}

pub returns-in_err-write_all-clause-err : goal.returns-in_err-write_all-clause-err
returns-in_err-write_all-clause-err g c = on_any_err c.from_residual.result _
    (cut_off (script_of c.args.seed c.args.scans c.args.points) _ _ _ _ _ _
    c.loop-script.invariant.way
    (parts_of c.fill-count.result _ _ _ c.fill-count.ensures.bytes c.fill-count.ensures.moved)
    c.in_err-write_all.ensures.err)
