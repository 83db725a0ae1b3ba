-- What a block of the code is.
use Rattle.oct_key.specs.Block.{Cube}
use Rattle.oct_key.specs.declared.block.Block.{Block}

-- the cube that a block is
abbrev pub cube_of : Block → Cube
cube_of b = record { depth = b.depth; x = b.x; y = b.y; z = b.z }
