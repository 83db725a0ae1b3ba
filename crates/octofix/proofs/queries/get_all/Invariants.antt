use Rattle.std.proofs.Common.{◌≡◌, ◌≤◌, ◌-◌, length, map, take}
use Rattle.octofix.specs.Buffers.{fronted}
use Rattle.octofix.specs.Queries.{told_at}
use Rattle.octofix.proofs.queries.get_all.Given as goal

abbrev pub invariant-loop-done : goal.invariant-loop-done
invariant-loop-done l = record {
  within : l.done ≤ length l.points;
  answers : l.answers
      ≡ fronted l.initial.answers (map (told_at l.depth l.map) (take l.done l.points));
}

abbrev pub decreases-loop-done : goal.decreases-loop-done
decreases-loop-done l = length l.points - l.done
