-- Why what is asked of a file is refused.
use Rattle.std.specs.Prelude.{ℕ, ◌++◌, codes, decimal, List, Option, Some, None, Result, Ok, Err}
use Rattle.std.specs.Prelude.{if◌then◌else◌}
use Rattle.oct_key.specs.declared.point.Point.{Point}
use Rattle.oct_key.specs.Boxes.{Window, is_box}
use Rattle.oct_key.specs.Voxel.{Voxel, key_at}
use Rattle.oct_script.specs.Replies as replies
use Rattle.oct_script.specs.declared.reply.Refusal.TheVariants as script
use Rattle.oct_io.specs.declared.status.Status.TheVariants.{Refused}
use Rattle.oct_io.specs.Answer.{Answer}
use Rattle.oct_file_tasks.specs.declared.refusal.Refusal.{Refusal}
use Rattle.oct_file_tasks.specs.declared.refusal.Refusal.TheVariants.{Line, TooManyFrontiers}
use Rattle.oct_file_tasks.specs.declared.refusal.Refusal.TheVariants.{WideGrid, TooManyBoxes}

-- a refusal by its number, its name and its fields
abbrev pub refusal_text : Refusal → List ℕ
refusal_text (Line refusal) = replies.refusal_text refusal
refusal_text TooManyFrontiers = codes "37 TooManyFrontiers"
refusal_text (WideGrid count) = codes "38 WideGrid count " ++ decimal count
refusal_text (TooManyBoxes count) = codes "39 TooManyBoxes count " ++ decimal count

-- the reply that says it
abbrev pub refused : Refusal → Answer
refused refusal = record {
  text = codes "refused " ++ refusal_text refusal ++ codes "\n";
  status = Refused;
}

-- the box of two voxels, where both are there and are corners
abbrev pub box_from : Option Voxel → Option Voxel → Result Window Refusal
box_from None hi = Err (Line (script.Outside 1))
box_from (Some lo) None = Err (Line (script.Outside 2))
box_from (Some lo) (Some hi) =
    if is_box lo hi then Ok (record { lo = lo; hi = hi }) else Err (Line script.BadBox)

-- the box between two points, at a resolution in nanometres: that of their voxels, where both lie
-- in the map and are corners
unfoldable pub box_between : ℕ → Point → Point → Result Window Refusal
box_between edge lo hi = box_from (key_at edge lo) (key_at edge hi)

-- the reply to what is asked of a box, or the refusal for which there is none
abbrev pub reply_in : (Window → Answer) → Result Window Refusal → Answer
reply_in reply (Ok corners) = reply corners
reply_in reply (Err refusal) = refused refusal
