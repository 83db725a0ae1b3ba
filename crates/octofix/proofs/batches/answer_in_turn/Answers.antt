use Rattle.std.proofs.Common.{[], ◌∙◌, arith}
use Rattle.std.proofs.lemmas.List.{length-set}
use Rattle.octofix.proofs.Keyed.{all_told, told_more, told_right}
use Rattle.octofix.specs.Queries.{told_at}
use Rattle.octofix.proofs.batches.answer_in_turn.Goals as goal

pub loop-i-init : goal.loop-i-init
loop-i-init c = record {
  told = λ j d p l. absurd (omega (arith, l));
  room = c.requires;
  paths = c.paths-paths.ensures.paths;
}

pub loop-i-preserved : goal.loop-i-preserved
loop-i-preserved c = record {
  told = told_more (told_at c.args.depth c.args.map.now) c.args.points.now [] c.loop-i.answers
      c.loop-i.i _ c.told.result c.loop-i-test.true c.loop-i.invariant.room
      (told_right c.args.map.now c.args.depth _ _ _ _ c.told.ensures c.get_by.ensures.answer
      c.point.ensures)
      c.loop-i.invariant.told;
  room = length-set c.loop-i.answers c.loop-i.i c.told.result ∙ c.loop-i.invariant.room;
  paths = c.get_by.ensures.paths;
}

pub returns : goal.returns
returns c =
    all_told (told_at c.args.depth c.args.map.now) c.args.points.now [] 0 c.loop-i.i
    c.loop-i.answers (omega arith) (omega (arith, c.loop-i-test.false))
    c.loop-i.invariant.room c.loop-i.invariant.told
