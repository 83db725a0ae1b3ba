use Rattle.std.proofs.Common.{◌<◌, ◌^◌, ◌+◌, subst, ◌∙◌, ap, arith, rules}
use Rattle.std.specs.Prelude.{count_ones}
use Rattle.oct_brick.specs.Bricks.{frees_of}
use Rattle.oct_brick.proofs.BrickCodes.{count_more, count_fits}
use Rattle.oct_scan.proofs.Settling.{small_codes, hits_fit_at, hits_are_many, frees_are_many}
use Rattle.oct_scan.proofs.bricks.count_voxels.Goals as goal

pub overflow_add-hits : goal.overflow_add-hits
overflow_add-hits c =
    let more = count_more (λ b. b.hits) c.args.bricks.now c.loop-brick.brick-index _
    c.loop-brick.hits c.from-hits.result c.loop-brick-test.true
    (hits_fit_at c.args.bricks.now c.loop-brick.brick-index _ c.loop-brick-test.true
    c.requires.bricks) c.from-hits.ensures c.loop-brick.invariant.hits in
    let few = count_fits (λ b. b.hits) c.args.bricks.now (c.loop-brick.brick-index + 1)
    (c.loop-brick.hits + c.from-hits.result) c.requires.ascend
    (small_codes c.args.bricks.now c.requires.bricks) more in
    omega (arith, few)

pub overflow_add-frees : goal.overflow_add-frees
overflow_add-frees c =
    let fits : c.frees.result < 2 ^ 64 = search rules in
    let more = count_more frees_of c.args.bricks.now c.loop-brick.brick-index _ c.loop-brick.frees
    c.from-frees.result c.loop-brick-test.true (subst (λ n. n < 2 ^ 64) c.frees.ensures.exact fits)
    (c.from-frees.ensures ∙ ap count_ones c.frees.ensures.exact) c.loop-brick.invariant.frees in
    let few = count_fits frees_of c.args.bricks.now (c.loop-brick.brick-index + 1)
    (c.loop-brick.frees + c.from-frees.result) c.requires.ascend
    (small_codes c.args.bricks.now c.requires.bricks) more in
    omega (arith, few)

pub loop-brick-preserved : goal.loop-brick-preserved
loop-brick-preserved c =
    let fits : c.frees.result < 2 ^ 64 = search rules in
    record {
      hits = count_more (λ b. b.hits) c.args.bricks.now c.loop-brick.brick-index _ c.loop-brick.hits
          c.from-hits.result c.loop-brick-test.true
          (hits_fit_at c.args.bricks.now c.loop-brick.brick-index _ c.loop-brick-test.true
          c.requires.bricks) c.from-hits.ensures c.loop-brick.invariant.hits;
      frees = count_more frees_of c.args.bricks.now c.loop-brick.brick-index _ c.loop-brick.frees
          c.from-frees.result c.loop-brick-test.true
          (subst (λ n. n < 2 ^ 64) c.frees.ensures.exact fits)
          (c.from-frees.ensures ∙ ap count_ones c.frees.ensures.exact) c.loop-brick.invariant.frees;
    }

pub returns-clause-hits : goal.returns-clause-hits
returns-clause-hits c = hits_are_many c.args.bricks.now c.loop-brick.brick-index c.loop-brick.hits
    c.loop-brick-test.false c.loop-brick.invariant.hits

pub returns-clause-frees : goal.returns-clause-frees
returns-clause-frees c =
    frees_are_many c.args.bricks.now c.loop-brick.brick-index c.loop-brick.frees
    c.loop-brick-test.false c.loop-brick.invariant.frees
