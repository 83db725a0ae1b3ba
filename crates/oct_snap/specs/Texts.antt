-- The text of a snapshot: a value for each voxel of the map, in whole nodes.
use Rattle.std.specs.Prelude.{codes, ℕ, zero, suc, List, [], ◌∷◌, ◌++◌, Option, Some, None}
use Rattle.std.specs.List.{flat_map}
use Rattle.std.specs.Int.{w16, w64, to_be_bytes}
use Rattle.oct_key.specs.Voxel.{Voxel}
use Rattle.oct_key.specs.Values.{Values}
use Rattle.oct_key.specs.Boxes.{Window}
use Rattle.oct_key.specs.Block.{Cube, child_of, lowest_voxel, root_block}
use Rattle.oct_odds.specs.Odds.{Odds}
use Rattle.oct_odds.specs.Update.{Value}
use Rattle.oct_values.specs.Blocks.{child_numbers}
use Rattle.oct_values.specs.Counts.{is_same_value}
use Rattle.oct_values.specs.Uniform.{uniform_answer}
use Rattle.oct_snap.specs.Nodes.{number_bytes, whole_text}

-- the one value of a block's voxels, where unknown counts as a value, or none where they have
-- several
abbrev pub common_value : Values → Cube → Option Value
common_value values b = uniform_answer is_same_value values b

-- a node: of one value, or of several by the nodes of the children
abbrev pub text_with : Option Value → List ℕ → List ℕ
text_with (Some value) inner = whole_text value
text_with None inner = 2 ∷ inner

-- the node of a block that stands this many depths above the voxels: its value where it has one,
-- else the nodes of its children
unfoldable pub node_text : ℕ → Values → Cube → List ℕ
node_text zero values b = whole_text (values (lowest_voxel b))
node_text (suc depths) values b = text_with (common_value values b)
    (flat_map (λ i. node_text depths values (child_of b i)) child_numbers)

-- the node of the whole map
abbrev pub map_text : Values → List ℕ
map_text values = node_text 16 values root_block

-- the five numbers of log-odds, four bytes each
abbrev pub odds_bytes : Odds → List ℕ
odds_bytes o = number_bytes o.hit ++ (number_bytes o.miss ++ (number_bytes o.min
    ++ (number_bytes o.max ++ number_bytes o.thr)))

-- a number of a voxel on an axis in two bytes
abbrev pub axis_bytes : ℕ → List ℕ
axis_bytes n = to_be_bytes w16 n

-- the three numbers of a voxel
abbrev pub voxel_bytes : Voxel → List ℕ
voxel_bytes k = axis_bytes k.x ++ (axis_bytes k.y ++ axis_bytes k.z)

-- whether there is a box, and its corners
abbrev pub window_bytes : Option Window → List ℕ
window_bytes None = 0 ∷ []
window_bytes (Some w) = 1 ∷ (voxel_bytes w.lo ++ voxel_bytes w.hi)

-- a resolution in eight bytes
abbrev pub res_bytes : ℕ → List ℕ
res_bytes res = to_be_bytes w64 res

-- the fields before the nodes
abbrev pub head_bytes : ℕ → Odds → Option Window → List ℕ
head_bytes res odds window =
    codes "OCTSNAP2" ++ (res_bytes res ++ (odds_bytes odds ++ window_bytes window))

-- the snapshot of values at a resolution, with their log-odds and the box, if there is one
unfoldable pub snap_text : ℕ → Odds → Option Window → Values → List ℕ
snap_text res odds window values = head_bytes res odds window ++ map_text values

-- the older form, without log-odds and box
unfoldable pub old_text : ℕ → Values → List ℕ
old_text res values = (codes "OCTSNAP1" ++ res_bytes res) ++ map_text values
