use Rattle.std.proofs.Common.{◌≡◌, ◌+◌, ◌≤◌, sym, subst, rules, arith}
use Rattle.std.specs.Prelude.{min}
use Rattle.std.proofs.Math.Nat.{min-le_right}
use Rattle.oct_scan.proofs.Judging.{bound_none, bound_more, bound_all}
use Rattle.oct_scan.proofs.judge.bound_met.Goals as goal

pub loop-beam-init : goal.loop-beam-init
loop-beam-init c = record {
  within = λ edge o range key placed few. bound_none edge o c.args.beams.now;
  few = omega arith;
}

pub loop-beam-preserved : goal.loop-beam-preserved
loop-beam-preserved c =
    let capped : c.min-bound.result
    ≡ min (c.loop-beam.bound + c.most_met.result) (c.args.most + 1) = search rules in
    record {
      within = λ edge o range key placed. bound_more edge o c.args.beams.now
          c.loop-beam.beam-index _ c.args.start c.loop-beam.bound c.most_met.result
          c.min-bound.result c.args.most range c.loop-beam-test.true key placed
          c.most_met.ensures.exact capped (c.loop-beam.invariant.within edge o range key placed);
      few = subst (λ n. n ≤ c.args.most + 1) (sym capped)
          (min-le_right (c.loop-beam.bound + c.most_met.result) (c.args.most + 1));
    }

pub returns : goal.returns
returns c = λ edge o range key placed few.
    bound_all edge o c.args.beams.now c.loop-beam.beam-index c.loop-beam.bound
    (omega (arith, c.loop-beam-test.false))
    (c.loop-beam.invariant.within edge o range key placed few)
