use Rattle.std.proofs.Common.{◌≡◌, map, take}
use Rattle.octofix.specs.Buffers.{fronted}
use Rattle.octofix.specs.Places.{placed_by}
use Rattle.octofix.proofs.places.put_placed.Given as goal

abbrev pub invariant-loop-i : goal.invariant-loop-i
invariant-loop-i l = l.places
    ≡ fronted l.initial.places (map (placed_by l.by) (take l.i l.points))
