use Rattle.std.proofs.Common.{arith, ◌∙◌}
use Rattle.oct_io.proofs.Appending.{appended_step}
use Rattle.oct_session.proofs.ahead.write_counted.Goals as goal

pub loop-told-preserved : goal.loop-told-preserved
loop-told-preserved g c = record {
  within = omega (arith, c.in_ok-told.ensures.within, c.split_at.ensures);
  written = appended_step _ _ _ _ _ _ _ c.loop-told.invariant.written c.split_at.ensures.back
      c.in_ok-told.ensures.appended;
  faults = c.in_ok-told.ensures.counts.stays.0 ∙ c.loop-told.invariant.faults;
  shortages = c.in_ok-told.ensures.counts.stays.1 ∙ c.loop-told.invariant.shortages;
}
