-- The memory of an arena: chunks of 1,024 groups, one after another.
use Rattle.std.specs.Prelude.{◌≡◌, List, [], ◌∷◌, ◌++◌, length, ⊤}
use Rattle.oct_arena.specs.declared.chunk.Chunk.TheInside.{Inside}
use Rattle.oct_arena.specs.Entries.{Groups}

-- a chunk: its address, cells and grant belong together
pub record IsChunk (c : Inside) : Type 0 where
  pub placed : c.cells.at ≡ c.address.ptr
  pub many : length c.cells.values ≡ 1024
  pub granted : c.grant.at ≡ c.address.ptr
  pub count : c.grant.count ≡ 1024
  pub alloc : c.grant.alloc ≡ c.alloc

-- the groups of the chunks, one chunk after another
abbrev pub joined : List Groups → Groups
joined [] = []
joined (c ∷ cs) = c ++ joined cs

-- each chunk has 1,024 groups
abbrev pub AllFull : List Groups → Type 0
AllFull [] = ⊤
AllFull (c ∷ cs) = (length c ≡ 1024) × AllFull cs
