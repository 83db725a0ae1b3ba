use Rattle.std.proofs.Common.{arith}
use Rattle.octofix.proofs.Keyed.{all_told}
use Rattle.octofix.specs.Queries.{told_at}
use Rattle.octofix.proofs.batches.answer_by_keys.Goals as goal

pub returns : goal.returns
returns c =
    all_told (told_at c.args.depth c.args.map.now) c.args.points.now c.args.keys.now
    c.loop-key.key-index _ c.loop-key.answers (omega (arith, c.loop-key-test.false)) (omega arith)
    c.loop-key.invariant.room c.loop-key.invariant.told
