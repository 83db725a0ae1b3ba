-- The value that a class is given.
use Rattle.std.specs.Prelude.{Some, None}
use Rattle.oct_odds.specs.Odds.{Odds}
use Rattle.oct_odds.specs.Update.{Value}
use Rattle.oct_odds.specs.declared.event.Class.{Class}
use Rattle.oct_odds.specs.declared.event.Class.TheVariants.{Unknown, Free, Occupied}

-- the value that a voxel of a class is given: the lower bound where it is free, the upper one where
-- it is occupied
abbrev pub value_for : Odds → Class → Value
value_for odds Unknown = None
value_for odds Free = Some odds.min
value_for odds Occupied = Some odds.max
