use Rattle.std.proofs.Common.{◌≡◌, length}
use Rattle.octofix.proofs.Keyed.{AreKeyed}
use Rattle.octofix.specs.Queries.{told_at}
use Rattle.octofix.proofs.batches.sorted_keys.Given as goal

abbrev pub invariant-loop-i : goal.invariant-loop-i
invariant-loop-i l = record {
  keyed : AreKeyed l.map.tree.res l.points (told_at l.depth l.map) l.i l.keys.items l.answers;
  room : length l.answers ≡ length l.points;
}
