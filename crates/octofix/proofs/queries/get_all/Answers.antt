use Rattle.std.proofs.Common.{rules}
use Rattle.octofix.proofs.Fronts.{front_part, front_whole}
use Rattle.octofix.specs.Queries.{told_at}
use Rattle.octofix.proofs.queries.get_all.Goals as goal

pub loop-done-preserved : goal.loop-done-preserved
loop-done-preserved c = record {
  within = search rules;
  answers = front_part (told_at c.args.depth c.args.map.now) c.args.points.now c.args.answers.now
      c.loop-done.answers c.answer_piece.new.answers c.loop-done.done c.min-end.result
      (search rules) (search rules) c.loop-done.invariant.answers c.answer_piece.ensures;
}

pub returns-clause-answers : goal.returns-clause-answers
returns-clause-answers c =
    front_whole (told_at c.args.depth c.args.map.now) c.args.points.now
    c.args.answers.now c.loop-done.answers c.loop-done.done c.loop-done-test.false
    c.if-answers-points.false c.loop-done.invariant.answers
