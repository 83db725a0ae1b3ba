-- What the voxels of a block have in common.
use Rattle.std.specs.Prelude.{Option, Some, None}
use Rattle.oct_odds.specs.Update.{Value}
use Rattle.oct_snap.specs.declared.common.Common.{Common as Shared}
use Rattle.oct_snap.specs.declared.common.Common.TheVariants.{Value as OfValue, Several}

-- the one value, or none where there are several
abbrev pub value_of_common : Shared → Option Value
value_of_common (OfValue value) = Some value
value_of_common Several = None
