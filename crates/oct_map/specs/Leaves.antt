-- What a map answers when it is asked for its leaves, from the value of each voxel alone.
use Rattle.std.specs.Prelude.{List, Option, Some, None, Result, Ok, Err, if◌then◌else◌}
use Rattle.oct_key.specs.declared.point.Point.{Point}
use Rattle.oct_key.specs.Voxel.{Voxel, key_at}
use Rattle.oct_key.specs.Values.{Values}
use Rattle.oct_key.specs.Boxes.{is_box}
use Rattle.oct_query.specs.Shown.{Shown}
use Rattle.oct_odds.specs.Odds.{Odds}
use Rattle.oct_query.specs.Leaves.{leaves_met, those_sought}
use Rattle.oct_query.specs.declared.sought.Sought.{Sought}
use Rattle.oct_map.specs.declared.fault.MapFault.{MapFault}
use Rattle.oct_map.specs.declared.fault.MapFault.TheVariants.{Outside, BadBox}
use Rattle.oct_map.specs.Ground.{Ground}

-- the leaves that meet the box of two voxels, or of points outside the map
abbrev pub leaves_in_answer_at : Values → Option Voxel → Option Voxel
    → Result (List Shown) MapFault
leaves_in_answer_at values None hi = Err (Outside 1)
leaves_in_answer_at values (Some lo) None = Err (Outside 2)
leaves_in_answer_at values (Some lo) (Some hi) =
    if is_box lo hi then Ok (leaves_met values lo hi) else Err BadBox

-- the leaves that meet the box whose corners are the voxels that hold two points
abbrev pub leaves_in_answer : Ground → Values → Point → Point → Result (List Shown) MapFault
leaves_in_answer g values lo hi =
    leaves_in_answer_at values (key_at g.res lo) (key_at g.res hi)

-- those of the leaves of an answer that are sought
abbrev pub sought_answer : Odds → Sought → Result (List Shown) MapFault
    → Result (List Shown) MapFault
sought_answer odds sought (Ok leaves) = Ok (those_sought odds sought leaves)
sought_answer odds sought (Err fault) = Err fault

-- the leaves that are sought and meet the box whose corners are the voxels that hold two points
abbrev pub sought_in_answer : Ground → Values → Sought → Point → Point
    → Result (List Shown) MapFault
sought_in_answer g values sought lo hi =
    sought_answer g.odds sought (leaves_in_answer g values lo hi)
