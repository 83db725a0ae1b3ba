-- Blocks all of whose voxels have one answer: a value, a class, or anything else that a voxel has.
use Rattle.std.specs.Prelude.{◌≡◌, Bool, Option, Some, None, if◌then◌else◌}
use Rattle.std.specs.List.{list_all}
use Rattle.oct_key.specs.Voxel.{Voxel}
use Rattle.oct_key.specs.Block.{Cube, HoldsVoxel, lowest_voxel}
use Rattle.oct_values.specs.Blocks.{voxels_of}

-- all voxels of the block have one answer
abbrev pub IsUniform : {A : Type 0} → (Voxel → A) → Cube → Type 0
IsUniform answers b = (j k : Voxel) → HoldsVoxel b j → HoldsVoxel b k → answers j ≡ answers k

-- whether the block is uniform by such a test: each of its voxels has the answer of the lowest one
unfoldable pub is_uniform_by : {A : Type 0} → (A → A → Bool) → (Voxel → A) → Cube → Bool
is_uniform_by same answers b =
    list_all (λ k. same (answers k) (answers (lowest_voxel b))) (voxels_of b)

-- the one answer of a block's voxels, or none where they have several
unfoldable pub uniform_answer : {A : Type 0} → (A → A → Bool) → (Voxel → A) → Cube → Option A
uniform_answer same answers b =
    if is_uniform_by same answers b then Some (answers (lowest_voxel b)) else None
