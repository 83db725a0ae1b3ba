use Rattle.std.proofs.Common.{◌≡◌, map, take}
use Rattle.octofix.specs.Buffers.{fronted}
use Rattle.octofix.specs.Casts.{cast_between, stop_told}
use Rattle.octofix.specs.declared.types.SegmentNm.{SegmentNm}
use Rattle.octofix.proofs.casts.cast_all.Given as goal

abbrev pub invariant-loop-i : goal.invariant-loop-i
invariant-loop-i l = l.stops
    ≡ fronted l.initial.stops
    (map (λ (s : SegmentNm). stop_told (cast_between s.origin s.end l.ignore_unknown l.map))
    (take l.i l.segments))
