use Rattle.std.proofs.Common.{refl, arith}
use Rattle.oct_scan.proofs.BrickCounts.{bricks_counted_step, bricks_counted_all, brick_below}
use Rattle.oct_scan.proofs.BrickCounts.{last_code}
use Rattle.oct_scan.proofs.need.count_blocks.Goals as goal

pub bricks_added-requires-clause-apart : goal.bricks_added-requires-clause-apart
bricks_added-requires-clause-apart c =
    brick_below c.args.bricks.now c.loop-brick.brick-index _ c.loop-brick.last c.requires.ascend
    c.loop-brick-test.true (c.loop-brick.invariant.last_is _)

pub loop-brick-preserved : goal.loop-brick-preserved
loop-brick-preserved c = record {
  counted = bricks_counted_step c.loop-brick.count c.bricks_added.result c.count_octets.result
      c.loop-brick.last c.args.bricks.now c.loop-brick.brick-index _ c.loop-brick-test.true
      c.bricks_added.ensures.exact c.count_octets.ensures.exact c.loop-brick.invariant.counted;
  bounded = (let b = c.loop-brick.invariant.bounded in let f = c.bricks_added.ensures.few in
      let g = c.count_octets.ensures.few in omega (arith, b, f, g));
  last_is = λ d before e. (
    c.loop-brick.brick-index,
    refl,
    last_code c.args.bricks.now c.loop-brick.brick-index _ d before c.loop-brick-test.true e,
  );
}

pub returns : goal.returns
returns c = bricks_counted_all c.loop-brick.count c.loop-brick.last c.args.bricks.now
    c.loop-brick.brick-index c.loop-brick-test.false c.loop-brick.invariant.counted
