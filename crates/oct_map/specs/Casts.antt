-- What a map answers to a cast, from the value of each voxel alone.
use Rattle.std.specs.Prelude.{Bool, Option, Some, None, Result, Ok, Err}
use Rattle.oct_key.specs.declared.point.Point.{Point}
use Rattle.oct_key.specs.Voxel.{Voxel, key_at}
use Rattle.oct_key.specs.Values.{Values}
use Rattle.oct_values.specs.Classes.{classes_of}
use Rattle.oct_cast.specs.declared.outcome.Cast.{Cast}
use Rattle.oct_cast.specs.Cast.{cast_along}
use Rattle.oct_map.specs.declared.fault.MapFault.{MapFault}
use Rattle.oct_map.specs.declared.fault.MapFault.TheVariants.{Outside}
use Rattle.oct_map.specs.Ground.{Ground}

-- the answer to a cast between two voxels, or from or to a point outside the map
abbrev pub cast_answer_at : Option Voxel → Option Voxel → Cast → Result Cast MapFault
cast_answer_at None end cast = Err (Outside 1)
cast_answer_at (Some origin) None cast = Err (Outside 2)
cast_answer_at (Some origin) (Some end) cast = Ok cast

-- the answer to a cast from a point to another
abbrev pub cast_answer : Ground → Values → Point → Point → Bool → Result Cast MapFault
cast_answer g values o e ignore = cast_answer_at (key_at g.res o) (key_at g.res e)
    (cast_along g.res o e ignore (classes_of g.odds values))
