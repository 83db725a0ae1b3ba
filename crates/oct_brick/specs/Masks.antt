-- The voxels that a mask of 64 bits stands for, in the brick of a code.
use Rattle.std.specs.Prelude.{◌≡◌, ℕ, zero, suc, ◌+◌, ◌*◌, ◌/◌, ◌%◌, List, [], ◌∷◌, ◌==◌}
use Rattle.std.specs.Prelude.{if◌then◌else◌}
use Rattle.std.specs.Int.{bit_at}

-- a voxel's code lies in the brick of this number, and its bit is set in the mask
pub record HasCode (brick mask code : ℕ) : Type 0 where
  pub inside : code / 64 ≡ brick
  pub set : bit_at mask (code % 64) ≡ 1

-- the codes whose bits are set among the lowest of a mask, where bit 0 stands for the first code
unfoldable pub mask_codes : ℕ → ℕ → ℕ → List ℕ
mask_codes zero first mask = []
mask_codes (suc places) first mask =
    if mask % 2 == 1
    then first ∷ mask_codes places (first + 1) (mask / 2)
    else mask_codes places (first + 1) (mask / 2)

-- the codes of a brick's voxels whose bits are set in a mask, ascending
abbrev pub codes_of : ℕ → ℕ → List ℕ
codes_of brick mask = mask_codes 64 (64 * brick) mask

-- how many of the lowest octets of a mask, groups of eight bits, aren't 0
unfoldable pub octet_count : ℕ → ℕ → ℕ
octet_count zero mask = 0
octet_count (suc octets) mask =
    if mask % 256 == 0
    then octet_count octets (mask / 256)
    else 1 + octet_count octets (mask / 256)
