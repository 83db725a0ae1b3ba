-- The bricks at the front of a list that lie in the children up to one.
use Rattle.std.proofs.Common.{◌≡◌, ℕ, ◌<◌, List, length, get_or, ap, arith, leb, true, false}
use Rattle.std.specs.List.{AllWithin}
use Rattle.std.specs.List.Sorted.{IsNonDecreasingBy, IsPartitionPoint}
use Rattle.std.proofs.lemmas.Bool.{lt-leb}
use Rattle.oct_brick.specs.declared.brick.Brick.{Brick}
use Rattle.oct_brick.proofs.Merging.{same_default}
use Rattle.oct_edit.specs.Bricks.{brick_child}

-- the first n bricks lie in the children up to i
abbrev pub AreFront : ℕ → ℕ → List Brick → ℕ → Type 0
AreFront depth i bs n = AllWithin (λ b. leb (brick_child depth b.code) i ≡ true) bs 0 n

-- where the next one doesn't, none of the others does
pub front_ends : (depth i n : ℕ) (bs : List Brick) (d : Brick) → AreFront depth i bs n
    → n < length bs → IsNonDecreasingBy (λ b. brick_child depth b.code) bs
    → i < brick_child depth (get_or bs n d).code
    → IsPartitionPoint (λ b. leb (brick_child depth b.code) i ≡ true)
    (λ b. leb (brick_child depth b.code) i ≡ false) bs n
front_ends depth i n bs d front l order over = (
  front,
  λ k e a m. lt-leb _ _ (
      let up = order n k e a m in
      let here : brick_child depth (get_or bs n d).code ≡ brick_child depth (get_or bs n e).code =
      ap (λ (x : Brick). brick_child depth x.code) (same_default bs n e d l) in
      omega (arith, up, here, over)),
)
