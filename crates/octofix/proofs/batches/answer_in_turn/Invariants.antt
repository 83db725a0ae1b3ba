use Rattle.std.proofs.Common.{◌≡◌, [], length}
use Rattle.oct_query.specs.Paths.{ArePathsOf}
use Rattle.octofix.specs.Batches.{AreToldOrKeyed}
use Rattle.octofix.specs.Queries.{told_at}
use Rattle.octofix.proofs.batches.answer_in_turn.Given as goal

abbrev pub invariant-loop-i : goal.invariant-loop-i
invariant-loop-i l = record {
  told : AreToldOrKeyed (told_at l.depth l.map) l.points [] 0 l.i l.answers;
  room : length l.answers ≡ length l.points;
  paths : ArePathsOf l.map.tree l.paths;
}
