-- What memory the cells of a block are, at values of the row R.
use Rattle.std.specs.Prelude.{ℕ, ◌+◌, ◌*◌, ◌^◌, List, [], ◌∷◌, length, Option, Some, None}
use Rattle.std.specs.Mem.{type_size}
use base.Fraction.{full_share}
use base.Fml.{Lft, Fml, ftrue, ffalse, fsep, flt, froom}
use mir.Syntax.{Ty, ty_array}
use mir.Raw.{raw}
use denote.RattleType.{RattleType}
use denote.Memory.{lone, part_at, shared_of}
use denote.Sharing.{nothing, said, beside}
use denote.RawPtr.{Ptr, block_ptr, null_ptr}

module _ (R : RattleType) (b : ℕ) where
  -- the cell at byte o of the block b: a value that lies there, or room for one
  abbrev pub cell_owned : ℕ → Option R.Denot → Fml
  cell_owned o (Some x) = part_at R full_share x b o
  cell_owned o None = froom (raw (lone R.mir)) b o

  -- cells one after another from byte o on
  abbrev pub cells_owned : ℕ → List (Option R.Denot) → Fml
  cells_owned o [] = ftrue
  cells_owned o (c ∷ cs) = fsep (cell_owned o c) (cells_owned (o + type_size R) cs)

  -- what the holder of a `&` has of the cell at byte o
  abbrev pub cell_lent : ℕ → Option R.Denot → Lft → Fml
  cell_lent o (Some x) = shared_of R x b o
  cell_lent o None = nothing

  -- and of cells one after another
  abbrev pub cells_lent : ℕ → List (Option R.Denot) → Lft → Fml
  cells_lent o [] = nothing
  cells_lent o (c ∷ cs) = beside (cell_lent o c) (cells_lent (o + type_size R) cs)

module _ (R : RattleType) where
  -- the cells have fewer than 2 ^ 63 bytes
  abbrev pub few_bytes : List (Option R.Denot) → Fml
  few_bytes cs = flt (length cs * type_size R) (2 ^ 63)

  -- the cells from an address on
  abbrev pub row_owned : Ptr → List (Option R.Denot) → Fml
  row_owned (block_ptr b o) cs = fsep (few_bytes cs) (cells_owned R b o cs)
  row_owned null_ptr cs = ffalse

  -- what the holder of a `&` has of them
  abbrev pub row_lent : Ptr → List (Option R.Denot) → Lft → Fml
  row_lent (block_ptr b o) cs = beside (said (few_bytes cs)) (cells_lent R b o cs)
  row_lent null_ptr cs = said ffalse

  -- what an allocator wants to see where a block of n cells comes back
  abbrev pub grant_owned : (Ty → Ptr → Fml) → Ptr → ℕ → Fml
  grant_owned token p n = token (raw (ty_array (lone R.mir) n)) p
