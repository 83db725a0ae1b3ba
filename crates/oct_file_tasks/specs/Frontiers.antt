-- What the task over a file writes that lists a frontier.
use Rattle.std.specs.Prelude.{ℕ, ◌++◌, codes, decimal, List, length, nat_lt, if◌then◌else◌}
use Rattle.std.specs.List.{flat_map}
use Rattle.oct_key.specs.declared.point.Point.{Point}
use Rattle.oct_key.specs.Voxel.{Voxel}
use Rattle.oct_bt.specs.DataClasses.{data_classes}
use Rattle.oct_bt.specs.File.{FileRead}
use Rattle.oct_frontier.specs.Frontier.{frontier_between}
use Rattle.oct_io.specs.declared.status.Status.TheVariants.{Done}
use Rattle.oct_io.specs.Answer.{Answer}
use Rattle.oct_file_tasks.specs.Refusals.{refused, box_between, reply_in}
use Rattle.oct_file_tasks.specs.declared.refusal.Refusal.TheVariants.{TooManyFrontiers}

-- the line of a voxel of a frontier
abbrev pub voxel_line : Voxel → List ℕ
voxel_line k = codes "frontier " ++ decimal k.x ++ codes " " ++ decimal k.y ++ codes " "
    ++ decimal k.z ++ codes "\n"

-- a line for each voxel, and one with their number
unfoldable pub listing : List Voxel → List ℕ
listing voxels = flat_map voxel_line voxels ++ codes "end " ++ decimal (length voxels) ++ codes "\n"

-- the reply that lists a frontier, where it has no more than 1,000,000 voxels
abbrev pub list_reply : List Voxel → Answer
list_reply voxels =
    if nat_lt 1000000 (length voxels) then refused TooManyFrontiers
    else record { text = listing voxels; status = Done }

-- the reply to a file: the voxels are those of its resolution, and the classes its own
abbrev pub frontier_reply : Point → Point → FileRead → Answer
frontier_reply lo hi file =
    reply_in (λ box. list_reply (frontier_between (data_classes file.codes) box.lo box.hi))
    (box_between file.res lo hi)
