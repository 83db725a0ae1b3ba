-- A `&` to cells is made wherever one to a value can be. Assumes `Logic`.
use Prim.Native.Nat.{ℕ, ◌+◌}
use Rattle.std.specs.Prelude.{List, [], ◌∷◌, Option, Some, None}
use Rattle.std.specs.Mem.{type_size}
use seplogic.Ra.Ura.{Ura}
use base.Fml.{Lft, Incl, ftrue, ffalse}
use types.Logic.{Logic}
use denote.RattleType.{RattleType, RowLaws}
use denote.Param.Laws.{Laws}
use denote.RawPtr.{Ptr, block_ptr, null_ptr}
use denote.Sharing.{ShrLaws, said}
use denote.SharingLaws.{beside_shr_laws, nothing_shr_laws, said_shr_laws}
use denote.Shares.{Shares-less}
use denote.Struct.Lending.{Lends, Lends-both, Lends-nothing, Lends-said, Lends-false}
use Rattle.oct_cells.specs.Ownership.{cell_owned, cells_owned, cell_lent, cells_lent, few_bytes}
use Rattle.oct_cells.specs.Ownership.{row_owned, row_lent}

-- what is lent can be copied, and used for a shorter time
module _ (R : RattleType) (laws : RowLaws R) (b : ℕ) where
  cells_shared : (o : ℕ) (cs : List (Option R.Denot)) → ShrLaws (cells_lent R b o cs)
  cells_shared o [] = nothing_shr_laws
  cells_shared o (None ∷ cs) =
      beside_shr_laws _ _ nothing_shr_laws (cells_shared (o + type_size R) cs)
  cells_shared o (Some x ∷ cs) =
      beside_shr_laws _ _ (laws x b o) (cells_shared (o + type_size R) cs)

pub row_shared : (R : RattleType) → RowLaws R → (p : Ptr) (cs : List (Option R.Denot))
    → ShrLaws (row_lent R p cs)
row_shared R laws (block_ptr b o) cs =
    beside_shr_laws _ _ (said_shr_laws (few_bytes R cs) tt) (cells_shared R laws b o cs)
row_shared R laws null_ptr cs = said_shr_laws ffalse tt

-- what is owned lends it
module _ {M : Type 1} {𝓤 : Ura M} (𝓛 : Logic 𝓤) (l : Lft) (R : RattleType) (laws : Laws R)
    (lives : Incl l R.lives) where
  cell_lends : (b o : ℕ) (c : Option R.Denot) → Lends 𝓛 (cell_owned R b o c) (cell_lent R b o c) l
  cell_lends b o None = Lends-nothing 𝓛 (cell_owned R b o None) l
  cell_lends b o (Some x) = λ κ ts. Shares-less 𝓛 R R.lives l lives (laws.shares 𝓛) x κ ts b o

  cells_lend : (b o : ℕ) (cs : List (Option R.Denot))
      → Lends 𝓛 (cells_owned R b o cs) (cells_lent R b o cs) l
  cells_lend b o [] = Lends-nothing 𝓛 ftrue l
  cells_lend b o (c ∷ cs) =
      (let next = o + type_size R in
      Lends-both 𝓛 (cell_owned R b o c) (cells_owned R b next cs) (cell_lent R b o c)
      (cells_lent R b next cs) l (cell_lends b o c) (cells_lend b next cs))

  pub row_lends : (p : Ptr) (cs : List (Option R.Denot))
      → Lends 𝓛 (row_owned R p cs) (row_lent R p cs) l
  row_lends (block_ptr b o) cs =
      Lends-both 𝓛 (few_bytes R cs) (cells_owned R b o cs) (said (few_bytes R cs))
      (cells_lent R b o cs) l (Lends-said 𝓛 (few_bytes R cs) tt l) (cells_lend b o cs)
  row_lends null_ptr cs = Lends-false 𝓛 (said ffalse) l
