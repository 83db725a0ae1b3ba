-- The codes of a block, written where their place was kept.
use Rattle.std.proofs.Common.{◌≡◌, ℕ, ◌+◌, Some, None, List, [], ◌∷◌, ◌++◌, length, take}
use Rattle.std.proofs.Common.{◌%◌, ◌/◌}
use Rattle.std.proofs.Common.{append_assoc, append-nil, length-append, sym, ◌∙◌, ap, arith}
use Rattle.std.specs.Prelude.{slice_set}
use Rattle.std.proofs.Math.Seq.{take-append_seam, set-append_seam}
use Rattle.oct_odds.specs.declared.event.Class.{Class}
use Rattle.oct_bt.specs.Canonical.{data_of_child}
use Rattle.oct_bt.specs.Records.{code_bytes}
use Rattle.oct_join.specs.Joined.{one_class}

pub one_closed : (old new before later : List ℕ) (start codes : ℕ) (class : Class)
    → Some class ≡ one_class codes → new ≡ take start old → old ≡ before ++ (0 ∷ 0 ∷ later)
    → length before ≡ start
    → new ≡ before ++ data_of_child (one_class codes) (code_bytes codes ++ later)
one_closed old new before later start codes class one is whole at =
    is ∙ ap (take start) whole
    ∙ ap (λ (n : ℕ). take n (before ++ (0 ∷ 0 ∷ later))) (sym at)
    ∙ take-append_seam before (0 ∷ 0 ∷ later) ∙ sym (append-nil before)
    ∙ ap (λ o. before ++ data_of_child o (code_bytes codes ++ later)) one

pub several_closed : (old new before later : List ℕ) (start codes : ℕ)
    → None ≡ one_class codes
    → new ≡ slice_set (slice_set old start (codes % 256)) (start + 1) (codes / 256)
    → old ≡ before ++ (0 ∷ 0 ∷ later) → length before ≡ start
    → new ≡ before ++ data_of_child (one_class codes) (code_bytes codes ++ later)
several_closed old new before later start codes one is whole at =
    let low : ℕ = codes % 256 in
    let high : ℕ = codes / 256 in
    let first : slice_set old start low ≡ (before ++ low ∷ []) ++ 0 ∷ later =
    ap (λ (t : List ℕ). slice_set t start low) whole
    ∙ ap (λ (n : ℕ). slice_set (before ++ (0 ∷ 0 ∷ later)) n low) (sym at)
    ∙ set-append_seam before 0 (0 ∷ later) low ∙ sym (append_assoc before (low ∷ []) (0 ∷ later)) in
    let long : start + 1 ≡ length (before ++ low ∷ []) =
    (let sum = length-append before (low ∷ []) in omega (arith, sum, at)) in
    is ∙ ap (λ (t : List ℕ). slice_set t (start + 1) high) first
    ∙ ap (λ (n : ℕ). slice_set ((before ++ low ∷ []) ++ 0 ∷ later) n high) long
    ∙ set-append_seam (before ++ low ∷ []) 0 later high
    ∙ append_assoc before (low ∷ []) (high ∷ later)
    ∙ ap (λ o. before ++ data_of_child o (code_bytes codes ++ later)) one
