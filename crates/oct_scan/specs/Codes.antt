-- Working words for lists of Morton codes.
use Rattle.std.specs.Prelude.{ℕ, zero, suc, ◌+◌, ◌/◌, List, [], ◌∷◌, ◌==◌, if◌then◌else◌, Option}
use Rattle.std.specs.Prelude.{Some, None}
use Rattle.oct_brick.specs.declared.brick.Brick.{Brick}
use Rattle.oct_brick.specs.Masks.{octet_count}

-- the codes of a list without those of another, which stand in it in the same order
unfoldable pub difference : List ℕ → List ℕ → List ℕ
difference [] ys = []
difference (x ∷ xs) [] = x ∷ difference xs []
difference (x ∷ xs) (y ∷ ys) = if y == x then difference xs ys else x ∷ difference xs (y ∷ ys)

-- how often two codes can lose their last three bits, at most this many times, and still differ
unfoldable pub levels_apart : ℕ → ℕ → ℕ → ℕ
levels_apart zero a b = 0
levels_apart (suc most) a b = if a / 8 == b / 8 then 0 else 1 + levels_apart most (a / 8) (b / 8)

-- how many blocks of depth 0 to 15 hold the voxel of a code and not that of the code before it
abbrev pub new_blocks : ℕ → ℕ → ℕ
new_blocks before code = levels_apart 15 before code

-- how many blocks of depth 0 to 15 hold the voxel of a code and not that of the code before it,
-- where one comes before
abbrev pub blocks_added : Option ℕ → ℕ → ℕ
blocks_added None code = 16
blocks_added (Some before) code = new_blocks before code

-- the blocks that each of these codes adds to those of the code before it
unfoldable pub blocks_after : Option ℕ → List ℕ → ℕ
blocks_after last [] = 0
blocks_after last (code ∷ codes) = blocks_added last code + blocks_after (Some code) codes

-- how many blocks hold a voxel of these codes, in their order
abbrev pub block_count : List ℕ → ℕ
block_count codes = blocks_after None codes

-- how many blocks of depth 0 to 14 hold the brick of a code and not that of the code before it
abbrev pub new_bricks : ℕ → ℕ → ℕ
new_bricks before code = 1 + levels_apart 13 before code

-- the same, where one comes before
abbrev pub bricks_added : Option ℕ → ℕ → ℕ
bricks_added None code = 15
bricks_added (Some before) code = new_bricks before code

-- the blocks that each of these bricks adds to those of the brick before it, and its octets
unfoldable pub bricks_after : Option ℕ → List Brick → ℕ
bricks_after last [] = 0
bricks_after last (b ∷ bs) =
    bricks_added last b.code + octet_count 8 b.scanned + bricks_after (Some b.code) bs

-- how many blocks hold a voxel of these bricks, in their order
abbrev pub brick_count : List Brick → ℕ
brick_count bricks = bricks_after None bricks
