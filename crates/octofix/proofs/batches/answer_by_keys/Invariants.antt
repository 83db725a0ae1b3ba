use Rattle.std.proofs.Common.{◌≡◌, length}
use Rattle.oct_query.specs.Paths.{ArePathsOf}
use Rattle.octofix.specs.Batches.{AreToldOrKeyed}
use Rattle.octofix.specs.Queries.{told_at}
use Rattle.octofix.proofs.batches.answer_by_keys.Given as goal

abbrev pub invariant-loop-key : goal.invariant-loop-key
invariant-loop-key l = record {
  told : AreToldOrKeyed (told_at l.depth l.map) l.points l.keys l.key-index
      (length l.points) l.answers;
  room : length l.answers ≡ length l.points;
  paths : ArePathsOf l.map.tree l.paths;
}
