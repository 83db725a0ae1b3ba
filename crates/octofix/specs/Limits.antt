-- The box to which scans are restricted, and the mark, by calls on a handle.
use Rattle.std.specs.Prelude.{ℕ, [], ⊤, Option, Some, None, Result, Ok, Err}
use Rattle.oct_key.specs.Boxes.{Window}
use Rattle.oct_key.specs.Voxel.{key_at}
use Rattle.oct_key.specs.declared.point.Point.{Point}
use Rattle.oct_map.specs.Answers.{limit_answer}
use Rattle.oct_map.specs.Map.{Map, ground_of}
use Rattle.oct_map.specs.Outcome.{corner_box}
use Rattle.oct_map.specs.declared.fault.MapFault.{MapFault}
use Rattle.octofix.specs.Codes.{of_map, refusal_code}
use Rattle.octofix.specs.Numbers as code
use Rattle.octofix.specs.Points.{box_told}
use Rattle.octofix.specs.declared.refusal.Refusal.{Refusal}
use Rattle.octofix.specs.declared.types.VoxelBox.{VoxelBox}

-- the answer to a limit
abbrev pub limiting : Point → Point → Map → Result ⊤ Refusal
limiting lo hi m = of_map (limit_answer (ground_of m) lo hi)

-- the map that is restricted to this box, where that isn't refused
abbrev pub limited_by : Result ⊤ MapFault → Option Window → Map → Map
limited_by (Ok done) corners m = record m { update_box = corners }
limited_by (Err fault) corners m = m

-- the map that is restricted to the box of two points
abbrev pub limited : Point → Point → Map → Map
limited lo hi m = limited_by (limit_answer (ground_of m) lo hi)
    (corner_box (key_at m.tree.res lo) (key_at m.tree.res hi)) m

-- the map whose scans no box restricts
abbrev pub unlimited : Map → Map
unlimited m = record m { update_box = None }

-- the map with a mark that stands at this moment
abbrev pub tracked : Map → Map
tracked m = record m { mark = Some (record { notes = []; spare = 0 }) }

-- the map without a mark
abbrev pub untracked : Map → Map
untracked m = record m { mark = None }

-- the code of a question for the box
abbrev pub window_code : Result (Option Window) Refusal → ℕ
window_code (Ok (Some window)) = code.done
window_code (Ok None) = code.none
window_code (Err refusal) = refusal_code refusal

-- what stands in the place for the box afterwards
abbrev pub window_left : VoxelBox → Result (Option Window) Refusal → VoxelBox
window_left old (Ok (Some corners)) = box_told corners
window_left old (Ok None) = old
window_left old (Err refusal) = old
