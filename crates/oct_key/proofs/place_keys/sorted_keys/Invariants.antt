use Rattle.std.specs.Fn.{FnReturnsAt}
use Rattle.oct_key.proofs.PlaceKeys.{AreFirst}
use Rattle.oct_key.proofs.place_keys.sorted_keys.Given as goal

abbrev pub invariant-loop-place : goal.invariant-loop-place
invariant-loop-place g l =
    AreFirst (FnReturnsAt g.F.Fn l.code_of) l.step l.things l.place l.keys.items
