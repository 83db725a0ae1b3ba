-- Codes of the map and their voxels.
use Rattle.std.proofs.Common.{◌≡◌, ℕ, ◌/◌, ◌^◌, ◌<◌, refl}
use Rattle.oct_key.specs.Voxel.{Voxel, IsInMap}
use Rattle.oct_key.specs.Morton.{morton_of}
use Rattle.oct_key.proofs.Interleavings.{morton_of_gathered, gathered_in_map, morton_injective}
use Rattle.oct_key.proofs.Interleavings.{morton_below}
use Rattle.oct_brick.specs.Voxels.{coded_voxel}

pub coded_voxel-IsInMap : (c : ℕ) → IsInMap (coded_voxel c)
coded_voxel-IsInMap c = gathered_in_map c (c / 2) (c / 4) _ _ _ refl refl refl

pub morton_of-coded_voxel : (c : ℕ) → c < 2 ^ 48 → morton_of (coded_voxel c) ≡ c
morton_of-coded_voxel c l = morton_of_gathered c _ _ _ l refl refl refl

pub coded_voxel-morton_of : (k : Voxel) → IsInMap k → coded_voxel (morton_of k) ≡ k
coded_voxel-morton_of k on_k =
    morton_injective (coded_voxel (morton_of k)) k (coded_voxel-IsInMap (morton_of k)) on_k
    (morton_of-coded_voxel (morton_of k) (morton_below k))
