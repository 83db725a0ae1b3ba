-- The blocks that a map lists.
use Rattle.std.specs.Prelude.{ℕ, List, Option, Some, None, Result, Ok, Err}
use Rattle.oct_map.specs.Leaves.{leaves_in_answer, sought_in_answer}
use Rattle.oct_map.specs.Lists.{list_answer}
use Rattle.oct_map.specs.Map.{Map, ground_of, values_of}
use Rattle.oct_map.specs.declared.fault.MapFault.{MapFault}
use Rattle.oct_query.specs.Leaves.{leaves_of, those_sought}
use Rattle.oct_query.specs.Shown.{Shown}
use Rattle.oct_query.specs.declared.sought.Sought.{Sought}
use Rattle.octofix.specs.Asked.{told_each}
use Rattle.octofix.specs.Bounds.{sought_numbered}
use Rattle.octofix.specs.Points.{point_of}
use Rattle.octofix.specs.declared.refusal.Refusal.{Refusal}
use Rattle.octofix.specs.declared.refusal.Refusal.TheVariants as refusal
use Rattle.octofix.specs.declared.types.KnownBlock.{KnownBlock}
use Rattle.octofix.specs.declared.types.PointNm.{PointNm}

-- a block with its value, as C reads it
abbrev pub block_told : Shown → KnownBlock
block_told s = record {
  depth = s.block.depth;
  x = s.block.x;
  y = s.block.y;
  z = s.block.z;
  value = s.value;
}

-- the map's answer to a list of the known blocks of a depth in the box of two points
abbrev pub listed : PointNm → PointNm → ℕ → Map → Result (List Shown) MapFault
listed low high depth m =
    list_answer (ground_of m) m.is_stale (values_of m) (point_of low) (point_of high) depth

-- the known blocks of a depth in the box of two points
abbrev pub blocks_between : PointNm → PointNm → ℕ → Map → Result (List KnownBlock) Refusal
blocks_between low high depth m = told_each block_told (listed low high depth m)

-- the leaves of a map
abbrev pub leaves_told : Map → Result (List KnownBlock) Refusal
leaves_told m = told_each block_told (Ok (leaves_of (values_of m)))

-- the map's answer to a list of the leaves that meet the box of two points
abbrev pub leaves_listed : PointNm → PointNm → Map → Result (List Shown) MapFault
leaves_listed low high m =
    leaves_in_answer (ground_of m) (values_of m) (point_of low) (point_of high)

-- the leaves that meet the box of two points
abbrev pub leaves_between : PointNm → PointNm → Map → Result (List KnownBlock) Refusal
leaves_between low high m = told_each block_told (leaves_listed low high m)

-- those of them that are sought, or that no number means what is
abbrev pub sought_told : Option Sought → Map → Result (List KnownBlock) Refusal
sought_told None m = Err (refusal.BadArgument 0)
sought_told (Some sought) m =
    told_each block_told (Ok (those_sought m.tree.odds sought (leaves_of (values_of m))))

-- the leaves of a map whose voxels are those that a number means
abbrev pub leaves_sought : ℕ → Map → Result (List KnownBlock) Refusal
leaves_sought number m = sought_told (sought_numbered number) m

-- the map's answer to a list of the leaves that are sought and meet the box of two points
abbrev pub sought_listed : Sought → PointNm → PointNm → Map → Result (List Shown) MapFault
sought_listed sought low high m =
    sought_in_answer (ground_of m) (values_of m) sought (point_of low) (point_of high)

-- those of the box of two points that are sought, or that no number means what is
abbrev pub sought_told_in : Option Sought → PointNm → PointNm → Map
    → Result (List KnownBlock) Refusal
sought_told_in None low high m = Err (refusal.BadArgument 0)
sought_told_in (Some sought) low high m = told_each block_told (sought_listed sought low high m)

-- the leaves that meet the box of two points, and whose voxels are those that a number means
abbrev pub leaves_sought_in : ℕ → PointNm → PointNm → Map → Result (List KnownBlock) Refusal
leaves_sought_in number low high m = sought_told_in (sought_numbered number) low high m
