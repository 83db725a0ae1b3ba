-- What a map answers to a list of blocks, from the value of each voxel alone.
use Rattle.std.specs.Prelude.{ℕ, nat_lt, Bool, ◌&&◌, List, length, Option, Some, None, Result, Ok}
use Rattle.std.specs.Prelude.{Err, if◌then◌else◌}
use Rattle.oct_key.specs.declared.point.Point.{Point}
use Rattle.oct_key.specs.Voxel.{Voxel, key_at}
use Rattle.oct_key.specs.Values.{Values}
use Rattle.oct_key.specs.Boxes.{is_box}
use Rattle.oct_query.specs.Shown.{Shown}
use Rattle.oct_query.specs.Listed.{met_blocks, listed_blocks}
use Rattle.oct_map.specs.declared.fault.MapFault.{MapFault}
use Rattle.oct_map.specs.declared.fault.MapFault.TheVariants.{Outside, BadDepth, BadBox, Stale}
use Rattle.oct_map.specs.declared.fault.MapFault.TheVariants.{TooManyBlocks}
use Rattle.oct_map.specs.Ground.{Ground}

-- the most blocks, unknown ones among them, that a list may have
abbrev pub list_most : ℕ
list_most = 1000000

-- these blocks, unless so many meet the box that no list may have them
abbrev pub blocks_answer : ℕ → List Shown → Result (List Shown) MapFault
blocks_answer count blocks = if nat_lt list_most count then Err (TooManyBlocks count) else Ok blocks

-- the answer to a list of the blocks of a depth in the box of two voxels; the inner values of a
-- stale map aren't asked
abbrev pub box_blocks_answer : Bool → Values → ℕ → Voxel → Voxel → Result (List Shown) MapFault
box_blocks_answer is_stale values depth lo hi =
    if nat_lt 16 depth then Err BadDepth
    else if is_box lo hi then
    (if is_stale && nat_lt depth 16 then Err Stale
    else blocks_answer (length (met_blocks lo hi depth)) (listed_blocks values lo hi depth))
    else Err BadBox

-- the answer to a list between two voxels, or points outside the map
abbrev pub list_answer_at : Bool → Values → ℕ → Option Voxel → Option Voxel
    → Result (List Shown) MapFault
list_answer_at is_stale values depth None hi = Err (Outside 1)
list_answer_at is_stale values depth (Some lo) None = Err (Outside 2)
list_answer_at is_stale values depth (Some lo) (Some hi) =
    box_blocks_answer is_stale values depth lo hi

-- the answer to a list of the blocks of a depth in the box whose corners are the voxels that hold
-- two points
abbrev pub list_answer : Ground → Bool → Values → Point → Point → ℕ → Result (List Shown) MapFault
list_answer g is_stale values lo hi depth =
    list_answer_at is_stale values depth (key_at g.res lo) (key_at g.res hi)
