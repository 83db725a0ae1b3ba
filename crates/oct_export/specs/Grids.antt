-- A height band as a grid: a grey picture in the form PGM (Netpbm, magic number P5), and the cells
-- of an occupancy grid of ROS (nav_msgs/OccupancyGrid).
use Rattle.std.specs.Prelude.{ℕ, ◌+◌, ◌-◌, ◌*◌, ℤ, pos, neg_ℤ, codes, List, ◌++◌, map}
use Rattle.std.specs.List.{flat_map}
use Rattle.std.specs.Fmt.{decimal}
use Rattle.oct_key.specs.Boxes.{Window}
use Rattle.oct_key.specs.Voxel.{Voxel}
use Rattle.oct_key.specs.Order.{numbers_from}
use Rattle.oct_odds.specs.declared.event.Class.{Class}
use Rattle.oct_odds.specs.declared.event.Class.TheVariants.{Unknown, Free, Occupied}
use Rattle.oct_values.specs.Classes.{Classes}
use Rattle.oct_export.specs.Bands.{numbers_to, band_class}

-- how many columns a box has
abbrev pub column_count : Window → ℕ
column_count box = (box.hi.x + 1 - box.lo.x) * (box.hi.y + 1 - box.lo.y)

-- what the columns of this number on y show, by ascending x, each class as it is written
unfoldable pub shown_row : {A : Type 0} → (Class → A) → Classes → Voxel → Voxel → ℕ → List A
shown_row written classes lo hi y =
    map (λ x. written (band_class classes lo.z hi.z x y)) (numbers_to lo.x hi.x)

-- the grey of a class: black, nearly white, and a light grey between
abbrev pub grey_of : Class → ℕ
grey_of Occupied = 0
grey_of Free = 254
grey_of Unknown = 205

-- a row of the picture: a byte for each column of this number on y, by ascending x
abbrev pub row_of : Classes → Voxel → Voxel → ℕ → List ℕ
row_of classes lo hi y = shown_row grey_of classes lo hi y

-- this many rows, the highest y first
unfoldable pub rows_of : Classes → Voxel → Voxel → ℕ → List ℕ
rows_of classes lo hi count = flat_map (λ n. row_of classes lo hi (hi.y - n)) (numbers_from 0 count)

-- the lines before the rows: the magic number, the width and the height, and the value of white
unfoldable pub grid_head : ℕ → ℕ → List ℕ
grid_head width height =
    codes "P5\n" ++ decimal width ++ codes " " ++ decimal height ++ codes "\n255\n"

-- the picture of the columns of a box
unfoldable pub pgm_text : Classes → Voxel → Voxel → List ℕ
pgm_text classes lo hi =
    grid_head (hi.x + 1 - lo.x) (hi.y + 1 - lo.y) ++ rows_of classes lo hi (hi.y + 1 - lo.y)

-- the cell of a class in an occupancy grid: how likely it is occupied, in per cent, and -1 where
-- nothing is known
abbrev pub cell_of : Class → ℤ
cell_of Occupied = pos 100
cell_of Free = pos 0
cell_of Unknown = neg_ℤ (pos 1)

-- the cells of the columns of a box: by ascending y, and for each y by ascending x
unfoldable pub cells_of : Classes → Voxel → Voxel → List ℤ
cells_of classes lo hi = flat_map (shown_row cell_of classes lo hi) (numbers_to lo.y hi.y)
