-- What the first other voxel of a block says of its children, and the codes of a record.
use Rattle.std.proofs.Common.{◌≡◌, ◌≢◌, ℕ, suc, ◌+◌, ◌-◌, ◌*◌, ◌/◌, ◌%◌, ◌^◌, ◌<◌, ◌≤◌, Some}
use Rattle.std.proofs.Common.{sym, subst, ap, arith}
use Rattle.std.proofs.Math.Nat.{pow-suc, pow-le-pow_right}
use Rattle.oct_key.specs.Block.{Cube, child_of}
use Rattle.oct_odds.specs.declared.event.Class.{Class}
use Rattle.oct_values.specs.Classes.{Classes, class_of_block}
use Rattle.oct_bt.specs.Mixtures.{voxel_on, IsPureBefore, IsFirstOther}
use Rattle.oct_bt.proofs.Mixtures.{IsAbove}

-- ---- the mixtures of children

-- what the first other voxel of a block says of its children
pub child_before : (c : Classes) (x : Class) (d : ℕ) (b : Cube) (i way : ℕ) → IsAbove d b
    → IsFirstOther c x (16 - d) b way → i < way % 8
    → class_of_block c (child_of b i) ≡ Some x
child_before c x d b i way a s less =
    (subst (λ (h : ℕ). IsPureBefore c x h b way) a.next s.before).0 i less

pub child_with : (c : Classes) (x : Class) (d : ℕ) (b : Cube) (i way : ℕ) → IsAbove d b
    → IsFirstOther c x (16 - d) b way → i ≡ way % 8
    → IsFirstOther c x (16 - (d + 1)) (child_of b i) (way / 8)
unfolding voxel_on
child_with c x d b i way a s at = by (subst (λ (h : ℕ). IsFirstOther c x h b way) a.next s)
  where
    by : IsFirstOther c x (suc (16 - (d + 1))) b way → IsFirstOther c x (16 - (d + 1))
        (child_of b i) (way / 8)
    by f = record {
      before = subst (λ (n : ℕ). IsPureBefore c x (16 - (d + 1)) (child_of b n) (way / 8))
          (sym at) f.before.1;
      other = subst (λ (n : ℕ). c (voxel_on (16 - (d + 1)) (child_of b n) (way / 8)) ≢ x)
          (sym at) f.other;
      short = (let power = pow-suc 8 (16 - (d + 1)) in let few = f.short in
          omega (arith, power, few));
    }

-- ---- codes

pub codes_few : (done codes code : ℕ) → done < 8 → codes < 4 ^ done → code < 4
    → (code + 4 * codes < 4 ^ (done + 1)) × (code + 4 * codes < 65536)
codes_few done codes code l few small =
    let power : 4 ^ suc done ≡ 4 ^ done * 4 = pow-suc 4 done in
    let next : 4 ^ (done + 1) ≡ 4 ^ suc done =
    ap (λ (m : ℕ). 4 ^ m) (let e : done + 1 ≡ suc done = omega arith in e) in
    let most : 4 ^ (done + 1) ≤ 4 ^ 8 =
    pow-le-pow_right {n = 4} (omega arith) {i = done + 1} {j = 8} (omega arith) in
    (omega (arith, power, next, few, small), omega (arith, power, next, few, small, most))
