-- What the tasks over a file write that show its map to other programs.
use Rattle.std.specs.Prelude.{ℕ, ◌^◌, length, nat_lt, if◌then◌else◌}
use Rattle.oct_key.specs.declared.point.Point.{Point}
use Rattle.oct_key.specs.Boxes.{Window}
use Rattle.oct_bt.specs.DataClasses.{data_classes}
use Rattle.oct_bt.specs.File.{FileRead}
use Rattle.oct_export.specs.Boxes.{boxes_of}
use Rattle.oct_export.specs.BoxTexts.{scene_text}
use Rattle.oct_export.specs.Grids.{column_count, pgm_text}
use Rattle.oct_io.specs.declared.status.Status.TheVariants.{Done}
use Rattle.oct_values.specs.Classes.{Classes}
use Rattle.oct_io.specs.Answer.{Answer}
use Rattle.oct_file_tasks.specs.Refusals.{refused, box_between, reply_in}
use Rattle.oct_file_tasks.specs.declared.refusal.Refusal.TheVariants.{WideGrid, TooManyBoxes}

-- the reply that shows a box as a picture, where it has no more than 2^26 columns
unfoldable pub grid_reply : Classes → Window → Answer
grid_reply classes box =
    if nat_lt (2 ^ 26) (column_count box) then refused (WideGrid (column_count box))
    else record { text = pgm_text classes box.lo box.hi; status = Done }

-- the reply to a file: the box is that of its resolution, and the classes its own
abbrev pub project_reply : Point → Point → FileRead → Answer
project_reply lo hi file =
    reply_in (grid_reply (data_classes file.codes)) (box_between file.res lo hi)

-- how many boxes the occupied space of a file makes
abbrev pub box_count : FileRead → ℕ
box_count file = length (boxes_of (data_classes file.codes))

-- the reply that shows it as a scene, where it makes no more than 1,000,000 boxes
unfoldable pub scene_reply : FileRead → Answer
scene_reply file =
    if nat_lt 1000000 (box_count file) then refused (TooManyBoxes (box_count file))
    else record { text = scene_text file.res (data_classes file.codes); status = Done }
