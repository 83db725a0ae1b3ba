-- A map that is moved by a whole number of voxels on each axis.
use Rattle.std.specs.Prelude.{pos, ◌-ℤ◌, ◌+ℤ◌, Option, Some, None}
use Rattle.oct_key.specs.Voxel.{Voxel, in_range, key_from}
use Rattle.oct_key.specs.Values.{Values}
use Rattle.oct_odds.specs.Update.{Value}
use Rattle.oct_shift.specs.declared.shift.Shift.{Shift}

-- the voxel that is moved to a voxel: the shift is taken off each of its numbers; or none, where
-- that is no voxel of the map
abbrev pub source : Shift → Voxel → Option Voxel
source s k =
    key_from (in_range (pos k.x -ℤ s.x)) (in_range (pos k.y -ℤ s.y)) (in_range (pos k.z -ℤ s.z))

-- the value of a voxel, or none where there is no voxel
abbrev pub value_from : Values → Option Voxel → Value
value_from w None = None
value_from w (Some k) = w k

-- the value of each voxel of the moved map
abbrev pub shifted : Shift → Values → Values
shifted s w k = value_from w (source s k)

-- the voxel that a voxel is moved to, or none where it is moved out of the map
abbrev pub target : Shift → Voxel → Option Voxel
target s k =
    key_from (in_range (pos k.x +ℤ s.x)) (in_range (pos k.y +ℤ s.y)) (in_range (pos k.z +ℤ s.z))
