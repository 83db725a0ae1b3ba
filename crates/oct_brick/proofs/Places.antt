-- Where a brick lies in the tree.
use Rattle.std.proofs.Common.{◌≡◌, ℕ, ◌+◌, ◌-◌, ◌*◌, ◌/◌, ◌%◌, ◌^◌, ◌≤◌, sym, ◌∙◌, ap, arith}
use Rattle.std.proofs.Math.Nat.{div-div-eq-div-mul}
use Rattle.std.proofs.lemmas.Nat.{pow-add}
use Rattle.oct_key.specs.Voxel.{Voxel}
use Rattle.oct_key.specs.Block.{child_index_of}
use Rattle.oct_key.specs.Morton.{morton_of}
use Rattle.oct_key.proofs.Interleavings.{digit_of_morton}

-- a digit of a brick's code is that of its voxels' codes
brick_digit : (depth code : ℕ) → depth ≤ 13
    → code / 2 ^ (3 * (15 - depth)) ≡ code / 64 / 2 ^ (3 * (13 - depth))
brick_digit depth code l =
    let more : 3 * (15 - depth) ≡ 6 + 3 * (13 - depth) = omega (arith, l) in
    ap (λ (n : ℕ). code / 2 ^ n) more ∙ ap (λ (m : ℕ). code / m) (pow-add 2 6 (3 * (13 - depth)))
    ∙ sym (div-div-eq-div-mul code 64 (2 ^ (3 * (13 - depth))))

-- so it is the index of the child that holds them
pub brick_child : (depth code : ℕ) (k : Voxel) → depth ≤ 13 → morton_of k / 64 ≡ code
    → code / 2 ^ (3 * (13 - depth)) % 8 ≡ child_index_of depth k
brick_child depth code k l e =
    let same : code / 2 ^ (3 * (13 - depth)) ≡ morton_of k / 2 ^ (3 * (15 - depth)) =
    ap (λ (n : ℕ). n / 2 ^ (3 * (13 - depth))) (sym e)
    ∙ sym (brick_digit depth (morton_of k) l) in
    ap (λ (n : ℕ). n % 8) same ∙ digit_of_morton depth k (omega (arith, l))
