-- Numbers compare as they do with each bit at three times its place.
use Rattle.std.proofs.Common.{◌≡◌, ℕ, zero, suc, ◌+◌, ◌*◌, ◌/◌, ◌%◌, ◌^◌, ◌<◌, ◌≤◌, Bool}
use Rattle.std.proofs.Common.{inl, inr, refl, sym, ◌∙◌, ap, arith}
use Rattle.std.specs.Prelude.{nat_le, ◌&&◌}
use Rattle.std.proofs.Math.Nat.{pow-suc}
use Rattle.std.proofs.lemmas.Bool.{cases_Bool, cases_eq, le-leb, leb-true, leb-false, lt-leb}
use Rattle.oct_key.specs.Boxes.{Window, is_between, is_in_box}
use Rattle.oct_key.specs.Morton.{interleaved, gathered, morton_of}
use Rattle.oct_key.specs.Voxel.{Voxel, IsInMap}
use Rattle.oct_key.specs.Dilated.{dilated}
use Rattle.oct_key.proofs.Interleavings.{gathered_below}
use Rattle.oct_brick.specs.Voxels.{coded_voxel}
use Rattle.oct_brick.proofs.CodedVoxels.{coded_voxel-morton_of}

-- this many bits of a number, each at three times its place
abbrev bits_of : ℕ → ℕ → ℕ
bits_of n v = interleaved n v 0 0

bits_step : (n v : ℕ) → bits_of (suc n) v ≡ 8 * bits_of n (v / 2) + v % 2
unfolding interleaved
bits_step n v = omega arith

bits_in_order : (n v w : ℕ) → v < w → w < 2 ^ n → bits_of n v < bits_of n w
bits_in_order zero v w less below = absurd (omega (arith, less, below))
bits_in_order (suc n) v w less below = elim (cases_eq (v / 2) (w / 2)) [
  | inl same ↦ omega (
    arith,
    bits_step n v,
    bits_step n w,
    ap (bits_of n) same,
    same,
    less,
  )
  | inr other ↦ omega (
    arith,
    bits_step n v,
    bits_step n w,
    bits_in_order n (v / 2) (w / 2) (omega (arith, other, less))
        (omega (arith, below, pow-suc 2 n)),
  )
]

-- so the test of two numbers is that of their bits
pub same_test : (v w : ℕ) → v < 65536 → w < 65536 → nat_le (dilated v) (dilated w) ≡ nat_le v w
same_test v w on_v on_w = elim (cases_Bool (nat_le v w)) [
  | inl yes_so ↦ elim (cases_eq v w) [
    | inl same ↦
        le-leb (dilated v) (dilated w) (omega (arith, ap dilated same)) ∙ sym yes_so
    | inr other ↦
        le-leb (dilated v) (dilated w)
        (let less = bits_in_order 16 v w (omega (arith, leb-true v w yes_so, other)) on_w in
        omega (arith, less)) ∙ sym yes_so
  ]
  | inr not_so ↦
      lt-leb (dilated v) (dilated w) (bits_in_order 16 w v (leb-false v w not_so) on_v)
      ∙ sym not_so
]

-- and so is the test of codes, on one axis
pub same_gathered : (a b : ℕ)
    → nat_le (dilated (gathered 16 a)) (dilated (gathered 16 b))
    ≡ nat_le (gathered 16 a) (gathered 16 b)
same_gathered a b =
    same_test (gathered 16 a) (gathered 16 b) (gathered_below 16 a) (gathered_below 16 b)

-- and that of a number between two
within : (l b h low high code : ℕ) → l ≡ dilated (gathered 16 low) → b ≡ dilated (gathered 16 code)
    → h ≡ dilated (gathered 16 high)
    → (nat_le l b && nat_le b h)
    ≡ is_between (gathered 16 low) (gathered 16 high) (gathered 16 code)
within l b h low high code el eb eh =
    ap (λ n. nat_le n b && nat_le b h) el
    ∙ ap (λ n. nat_le (dilated (gathered 16 low)) n && nat_le n h) eb
    ∙ ap (λ n. nat_le (dilated (gathered 16 low)) (dilated (gathered 16 code))
    && nat_le (dilated (gathered 16 code)) n) eh
    ∙ ap (λ t. t && nat_le (dilated (gathered 16 code)) (dilated (gathered 16 high)))
    (same_gathered low code)
    ∙ ap (λ t. nat_le (gathered 16 low) (gathered 16 code) && t) (same_gathered code high)

pub test_passed : (l b h low high code : ℕ) → l ≡ dilated (gathered 16 low)
    → b ≡ dilated (gathered 16 code) → h ≡ dilated (gathered 16 high) → l ≤ b
    → nat_le b h ≡ is_between (gathered 16 low) (gathered 16 high) (gathered 16 code)
test_passed l b h low high code el eb eh le = ap (λ t. t && nat_le b h) (sym (le-leb l b le))
    ∙ within l b h low high code el eb eh

pub test_failed : (l b low high code : ℕ) → l ≡ dilated (gathered 16 low)
    → b ≡ dilated (gathered 16 code) → b < l
    → nat_le l b ≡ is_between (gathered 16 low) (gathered 16 high) (gathered 16 code)
test_failed l b low high code el eb less =
    let h : ℕ = dilated (gathered 16 high) in
    lt-leb l b less ∙ ap (λ t. t && nat_le b h) (sym (lt-leb l b less))
    ∙ within l b h low high code el eb refl

-- the voxel of a code of the map
pub voxel_of : (k l : Voxel) (code : ℕ) → IsInMap k → code ≡ morton_of k → k ≡ l
    → coded_voxel code ≡ l
voxel_of k l code on_map coded same = ap coded_voxel coded ∙ coded_voxel-morton_of k on_map ∙ same

-- the test of a code is that of its voxel
pub held_as : (box : Window) (k : Voxel) (code lo hi : ℕ) (t : Bool) → IsInMap k
    → code ≡ morton_of k → coded_voxel lo ≡ box.lo → coded_voxel hi ≡ box.hi
    → t ≡ is_in_box (coded_voxel lo) (coded_voxel hi) (coded_voxel code)
    → is_in_box box.lo box.hi k ≡ t
held_as box k code lo hi t on_map coded is_lo is_hi is =
    sym (is ∙ ap (λ v. is_in_box v (coded_voxel hi) (coded_voxel code)) is_lo
    ∙ ap (λ v. is_in_box box.lo v (coded_voxel code)) is_hi
    ∙ ap (λ v. is_in_box box.lo box.hi v) (voxel_of k k code on_map coded refl))
