-- The block that an allocator is asked for, and the allocator as a type parameter. Assumes `Logic`.
use mathlib.Core.Path.{◌≡◌, sym, ap, ◌∙◌}
use Prim.Native.Nat.{ℕ, zero, suc, ◌*◌, ◌<◌, ◌^◌}
use native.Mathlib.Nat.{zero-mul, suc-mul}
use native.Mathlib.Omega.{arith}
use mathlib.Core.List.{[], ◌∷◌}
use mir.Syntax.{Ty, Args, a_type, ty_array, dcons, dnil}
use mir.Raw.{raw}
use prog.Memory.{size, align, capped}
use prog.Capped.{capped_is}
use prog.RawLaws.{size-raw, align-raw}
use denote.RattleType.{RattleType}
use denote.Param.{param, bounded}
use Rattle.std.proofs.mem.Param.{El, elτ}
use Rattle.std.proofs.alloc.Calls.{Al}
use Rattle.oct_cells.proofs.Memory.{bytes}

-- a size that a word can't hold plays no part where the whole block's fits
pub whole_size : (n size : ℕ) → n * size < 2 ^ 64 → n * capped size ≡ n * size
whole_size zero size h = zero-mul (capped size) ∙ sym (zero-mul size)
whole_size (suc n) size h =
    let more = suc-mul n size in ap (λ (k : ℕ). suc n * k) (capped_is size (omega arith))

module _ (E : El) where
  -- what a block of n cells is allocated as
  abbrev pub block : ℕ → Ty
  block n = raw (ty_array (elτ E) n)

  pub block_size : (n : ℕ) → n * bytes E < 2 ^ 64 → capped (size (block n)) ≡ n * bytes E
  block_size n fits = ap capped (size-raw (ty_array (elτ E) n)) ∙ capped_is (n * bytes E) fits

  pub block_align : (n : ℕ) → capped (align (block n)) ≡ capped (align (elτ E))
  block_align n = ap capped (align-raw (ty_array (elτ E) n))

module _ (E : El) (Z : Al) where
  -- the type arguments of a function over values and an allocator
  abbrev pub both_args : Args
  both_args = bounded (a_type ∷ a_type ∷ []) (E.row, (Z.row, tt)) (dcons Z.d (dcons Z.drops dnil))

  abbrev pub AllocRow : RattleType
  AllocRow = param 1 Z.row
