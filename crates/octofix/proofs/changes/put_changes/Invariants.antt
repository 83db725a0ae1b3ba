use Rattle.std.proofs.Common.{◌≡◌, map, take}
use Rattle.octofix.specs.Buffers.{fronted}
use Rattle.octofix.specs.Changes.{change_told}
use Rattle.octofix.proofs.changes.put_changes.Given as goal

abbrev pub invariant-loop-i : goal.invariant-loop-i
invariant-loop-i l = l.changes ≡ fronted l.initial.changes (map change_told (take l.i l.found))
