-- Occupied space as boxes of VRML97 (ISO/IEC 14772-1).
use Rattle.std.specs.Prelude.{ℕ, ◌+◌, ◌*◌, ◌/◌, ◌%◌, ◌^◌, nat_lt, pos, codes, List, ◌++◌}
use Rattle.std.specs.List.{flat_map}
use Rattle.std.specs.Fmt.{decimal}
use Rattle.std.specs.Int.{abs_diff}
use Rattle.oct_num.specs.Form.{fraction_text}
use Rattle.oct_num.specs.MetresText.{leading_digits, metres_text}
use Rattle.oct_num.specs.Sign.{sign_text}
use Rattle.oct_key.specs.Block.{Cube, side}
use Rattle.oct_values.specs.Classes.{Classes}
use Rattle.oct_export.specs.Boxes.{boxes_of}

-- a length in ten-billionths of a metre, in metres: a point and the digits after it only where
-- there are some, up to the last one that isn't 0
unfoldable pub fine_text : ℕ → List ℕ
fine_text n = decimal (n / 10 ^ 10) ++ fraction_text (leading_digits 10 (n % 10 ^ 10))

-- twice the middle of a block of this depth and number on an axis, in voxels from the lowest face
-- of the map on: where its voxels begin, and where they end
abbrev pub twice_middle : ℕ → ℕ → ℕ
twice_middle depth n = n * side depth + (n + 1) * side depth

-- the middle of a block on an axis, in metres from the origin, which lies 32,768 voxels from that
-- face: half of this many edges of this many nanometres, of which each half is five ten-billionths
-- of a metre, with a minus below the origin
unfoldable pub middle_text : ℕ → ℕ → ℕ → List ℕ
middle_text edge depth n =
    sign_text (nat_lt (twice_middle depth n) 65536)
    ++ fine_text (5 * (abs_diff (twice_middle depth n) 65536 * edge))

-- the edge of a block of this depth, in metres
abbrev pub size_text : ℕ → ℕ → List ℕ
size_text edge depth = metres_text (pos (side depth * edge))

-- the line of a box, of the texts of its middle on each axis and of its edge
abbrev pub line_with : List ℕ → List ℕ → List ℕ → List ℕ → List ℕ
line_with x y z s =
    codes "Transform { translation " ++ x ++ codes " " ++ y ++ codes " " ++ z
    ++ codes " children [ Shape { geometry Box { size " ++ s ++ codes " " ++ s ++ codes " " ++ s
    ++ codes " } } ] }\n"

-- the line of a box
unfoldable pub box_line : ℕ → Cube → List ℕ
box_line edge b = line_with (middle_text edge b.depth b.x) (middle_text edge b.depth b.y)
    (middle_text edge b.depth b.z) (size_text edge b.depth)

-- the lines of boxes
abbrev pub box_lines : ℕ → List Cube → List ℕ
box_lines edge boxes = flat_map (box_line edge) boxes

-- the scene of a resolution in nanometres and a class for each voxel
unfoldable pub scene_text : ℕ → Classes → List ℕ
scene_text edge classes = codes "#VRML V2.0 utf8\n" ++ box_lines edge (boxes_of classes)
