-- Bricks that stay bricks of the map while voxels are added.
use Rattle.std.proofs.Common.{◌≡◌, ℕ, ◌/◌, ◌%◌, ◌^◌, ◌<◌, inl, inr, sym, subst, ◌∙◌, ◌≤◌, arith}
use Rattle.std.proofs.Common.{bit_or}
use Rattle.std.proofs.lemmas.Nat.{or_lt, le_or_l}
use Rattle.std.proofs.Math.Nat.{pow-le-pow_right}
use Rattle.oct_brick.specs.Masks.{HasCode}
use Rattle.oct_brick.specs.declared.brick.Brick.{Brick}
use Rattle.oct_brick.specs.Bricks.{IsBrick, HitsAreScanned}
use Rattle.oct_brick.proofs.Bits.{or_both, some_bit}

-- the bit of a place fits a mask
bit_fits : (code bit : ℕ) → bit ≡ 2 ^ (code % 64) → bit < 2 ^ 64
bit_fits code bit e =
    let le : 2 ^ (code % 64) ≤ 2 ^ 63 = pow-le-pow_right (omega arith) {j = 63} (omega arith) in
    omega (arith, e, le)

-- with a voxel that changes
pub scanned_brick : (b : Brick) (code bit : ℕ) → bit ≡ 2 ^ (code % 64) → b.code < 2 ^ 42
    → b.scanned < 2 ^ 64 → b.hits < 2 ^ 64 → HitsAreScanned b
    → IsBrick (record b { scanned = bit_or b.scanned bit })
scanned_brick b code bit e below scanned hits part = record {
  code = below;
  fits = or_lt 64 b.scanned bit scanned (bit_fits code bit e);
  hits_fit = hits;
  some = subst (λ (n : ℕ). 0 < bit_or b.scanned n) (sym e) (some_bit b.scanned (code % 64));
  part = λ c h. (or_both b.code b.scanned bit c).1 (inl (part c h));
}

-- with a voxel that is hit
pub hit_brick : (b : Brick) (code bit bit' : ℕ) → bit ≡ 2 ^ (code % 64) → bit' ≡ 2 ^ (code % 64)
    → code / 64 ≡ b.code → b.code < 2 ^ 42 → b.scanned < 2 ^ 64 → b.hits < 2 ^ 64 → HitsAreScanned b
    → IsBrick (record b { scanned = bit_or b.scanned bit; hits = bit_or b.hits bit' })
hit_brick b code bit bit' e e' inside below scanned hits part = record {
  code = below;
  fits = or_lt 64 b.scanned bit scanned (bit_fits code bit e);
  hits_fit = or_lt 64 b.hits bit' hits (bit_fits code bit' e');
  some = subst (λ (n : ℕ). 0 < bit_or b.scanned n) (sym e) (some_bit b.scanned (code % 64));
  part = λ c h. (or_both b.code b.scanned bit c).1 (elim ((or_both b.code b.hits bit' c).0 h) [
    | inl k ↦ inl (part c k)
    | inr k ↦ inr (subst (λ n. HasCode b.code n c) (e' ∙ sym e) k)
  ]);
}

-- and with the voxels of another brick of its code
pub joined_brick : (a b : Brick) → a.code ≡ b.code → IsBrick a → IsBrick b
    → IsBrick (record a { scanned = bit_or a.scanned b.scanned; hits = bit_or a.hits b.hits })
joined_brick a b same one other = record {
  code = one.code;
  fits = or_lt 64 a.scanned b.scanned one.fits other.fits;
  hits_fit = or_lt 64 a.hits b.hits one.hits_fit other.hits_fit;
  some = (let s = one.some in let l = le_or_l a.scanned b.scanned in omega (arith, s, l));
  part =
      λ c h. (or_both a.code a.scanned b.scanned c).1 (elim ((or_both a.code a.hits b.hits c).0 h) [
        | inl k ↦ inl (one.part c k)
        | inr k ↦ inr (subst (λ n. HasCode n b.scanned c) (sym same)
            (other.part c (subst (λ n. HasCode n b.hits c) same k)))
      ]);
}
