-- Numbers in bytes, and back.
use Rattle.std.proofs.Common.{rules, ◌≡◌, ℕ, zero, suc, ◌^◌, ◌<◌, [], ◌∷◌, refl, ◌∙◌, ap, arith}
use Rattle.std.proofs.Common.{get_or}
use Rattle.std.specs.Prelude.{ℤ, pos, negsuc}
use Rattle.std.specs.Int.{w32, cast_signed, cast_unsigned, to_be_bytes, from_be_bytes}
use Rattle.std.proofs.lemmas.Int.{ints, to_z-of_z, of_z-to_z}
use Rattle.std.proofs.lemmas.Nat.{be_bytes_4, from_be_bytes-to_be_bytes_4}
use mir.Val.{SFits}
use Rattle.oct_snap.specs.Nodes.{number_bytes}
use Rattle.oct_snap.specs.Reading.{number_of}

-- four bytes
abbrev pub AreBytes : ℕ → ℕ → ℕ → ℕ → Type 0
AreBytes a b c d = (a < 256) × (b < 256) × (c < 256) × (d < 256)

small_at : (a b c d i : ℕ) → AreBytes a b c d → get_or (a ∷ b ∷ c ∷ d ∷ []) i 0 < 256
small_at a b c d zero (p, q, r, t) = p
small_at a b c d (suc zero) (p, q, r, t) = q
small_at a b c d (suc (suc zero)) (p, q, r, t) = r
small_at a b c d (suc (suc (suc zero))) (p, q, r, t) = t
small_at a b c d (suc (suc (suc (suc i)))) s = omega arith

four_bytes_below : (a b c d : ℕ) → AreBytes a b c d
    → from_be_bytes w32 (a ∷ b ∷ c ∷ d ∷ []) < 2 ^ 32
four_bytes_below a b c d s = (let (p, q, r, t) = s in omega (arith, p, q, r, t))

-- the bytes of the number that four bytes make are these
pub bytes_back : (a b c d : ℕ) → AreBytes a b c d → number_bytes (number_of (a ∷ b ∷ c ∷ d ∷ []))
    ≡ a ∷ b ∷ c ∷ d ∷ []
bytes_back a b c d s =
    ap (to_be_bytes w32) (of_z-to_z w32 (from_be_bytes w32 (a ∷ b ∷ c ∷ d ∷ [])) (four_bytes_below a
    b c d s))
    ∙ be_bytes_4 (a ∷ b ∷ c ∷ d ∷ [])
    (from_be_bytes w32 (a ∷ b ∷ c ∷ d ∷ [])) refl (λ i. small_at a b c d i s) refl

unsigned_below : (n : ℤ) → SFits w32 n → cast_unsigned w32 n < 2 ^ 32
unsigned_below (pos n) fits = search (rules, ints)
unsigned_below (negsuc n) fits = omega arith

-- the number that its four bytes make
pub number_back : (n : ℤ) → SFits w32 n → number_of (number_bytes n) ≡ n
number_back n fits =
    ap (cast_signed w32) (from_be_bytes-to_be_bytes_4 (cast_unsigned w32 n) (unsigned_below n fits))
    ∙ to_z-of_z w32 n fits
