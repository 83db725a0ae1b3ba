-- Beams in the order of the bricks where they end.
use Rattle.std.specs.Prelude.{◌≡◌, ℕ, ◌/◌}
use Rattle.oct_key.specs.Morton.{morton_of}
use Rattle.oct_scan.specs.declared.beam.PlacedBeam.{PlacedBeam}

-- the code of the brick where a beam ends
abbrev pub EndsIn : PlacedBeam → ℕ → Type 0
EndsIn b code = code ≡ morton_of b.voxel / 64
