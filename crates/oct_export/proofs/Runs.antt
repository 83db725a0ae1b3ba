-- Runs of equal bytes, piece by piece.
use Rattle.std.proofs.Common.{◌≡◌, ℕ, ◌+◌, ◌-◌, ◌≤◌, List, [], ◌++◌, take, ◌∙◌, ap, arith}
use Rattle.std.specs.Prelude.{replicate}
use Rattle.std.proofs.lemmas.List.{take-replicate, replicate-append-replicate}

-- a piece of a buffer of them
pub run_piece : (size byte : ℕ) (bytes piece : List ℕ) → bytes ≡ replicate 256 byte
    → piece ≡ take size bytes → size ≤ 256 → piece ≡ replicate size byte
run_piece size byte bytes piece is front few = front ∙ ap (take size) is
    ∙ take-replicate size 256 byte few

pub run_none : (n byte : ℕ) → n ≡ 0 → replicate n byte ≡ []
run_none n byte is = ap (λ m. replicate m byte) is

pub run_more : (count left size byte : ℕ) (piece : List ℕ) → size ≤ left → left ≤ count
    → piece ≡ replicate size byte
    → replicate (count - left) byte ++ piece ≡ replicate (count - (left - size)) byte
run_more count left size byte piece few most is =
    let sum : (count - left) + size ≡ count - (left - size) = omega (arith, few, most) in
    ap (λ l. replicate (count - left) byte ++ l) is
    ∙ replicate-append-replicate (count - left) size byte ∙ ap (λ n. replicate n byte) sum

pub run_cut : (count left size byte : ℕ) (piece : List ℕ) → size ≤ left → left ≤ count
    → piece ≡ replicate size byte
    → replicate (count - left) byte ++ (piece ++ replicate (left - size) byte)
    ≡ replicate count byte
run_cut count left size byte piece few most is =
    let first : size + (left - size) ≡ left = omega (arith, few) in
    let sum : (count - left) + left ≡ count = omega (arith, most) in
    ap (λ l. replicate (count - left) byte ++ (l ++ replicate (left - size) byte)) is
    ∙ ap (λ l. replicate (count - left) byte ++ l)
    (replicate-append-replicate size (left - size) byte ∙ ap (λ n. replicate n byte) first)
    ∙ replicate-append-replicate (count - left) left byte ∙ ap (λ n. replicate n byte) sum

pub run_whole : (count left byte : ℕ) → left ≡ 0 → replicate (count - left) byte
    ≡ replicate count byte
run_whole count left byte none =
    (let e : count - left ≡ count = omega (arith, none) in ap (λ n. replicate n byte) e)
