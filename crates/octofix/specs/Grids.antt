-- The cells of an occupancy grid of a map.
use Rattle.std.specs.Prelude.{◌^◌, ℤ, nat_lt, List, Option, Some, None, Result, Ok, Err}
use Rattle.std.specs.Prelude.{if◌then◌else◌}
use Rattle.oct_export.specs.Grids.{cells_of, column_count}
use Rattle.oct_key.specs.Boxes.{is_box}
use Rattle.oct_key.specs.Voxel.{Voxel, key_at}
use Rattle.oct_map.specs.Map.{Map}
use Rattle.oct_map.specs.declared.fault.MapFault.TheVariants.{BadBox, Outside}
use Rattle.oct_tree.specs.Classes.{classes_in}
use Rattle.oct_values.specs.Classes.{Classes}
use Rattle.octofix.specs.Points.{point_of}
use Rattle.octofix.specs.declared.refusal.Refusal.{Refusal}
use Rattle.octofix.specs.declared.refusal.Refusal.TheVariants as refusal
use Rattle.octofix.specs.declared.types.PointNm.{PointNm}

-- the cells of a box, where it has no more than 2^26 columns
abbrev pub cells_in : Classes → Voxel → Voxel → Result (List ℤ) Refusal
cells_in classes lo hi =
    let count = column_count (record { lo = lo; hi = hi }) in
    if nat_lt (2 ^ 26) count then Err (refusal.WideGrid count) else Ok (cells_of classes lo hi)

-- the cells of the box of two voxels, or of points outside the map
abbrev pub cells_at : Classes → Option Voxel → Option Voxel → Result (List ℤ) Refusal
cells_at classes None hi = Err (refusal.Map (Outside 1))
cells_at classes (Some lo) None = Err (refusal.Map (Outside 2))
cells_at classes (Some lo) (Some hi) =
    if is_box lo hi then cells_in classes lo hi else Err (refusal.Map BadBox)

-- the cells of the box whose corners are the voxels that hold two points
abbrev pub cells_between : PointNm → PointNm → Map → Result (List ℤ) Refusal
cells_between low high m =
    cells_at (classes_in m.tree) (key_at m.tree.res (point_of low))
    (key_at m.tree.res (point_of high))
