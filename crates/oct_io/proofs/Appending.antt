-- What is told to be written, with more bytes after it.
use Rattle.std.proofs.Common.{◌≡◌, ℕ, ◌+◌, List, [], ◌++◌, take, drop, Option, Some, None, refl, ap}
use Rattle.std.proofs.Common.{append_assoc, append-nil, ◌∙◌, sym}
use Rattle.std.proofs.Math.Seq.{take-add}
use Rattle.oct_io.specs.Told.{appended}

-- two pieces, one after the other, are one longer piece
pub appended_twice : (o : Option (List ℕ)) (x y : List ℕ) → appended (appended o x) y
    ≡ appended o (x ++ y)
appended_twice None x y = refl
appended_twice (Some w) x y = ap Some (append_assoc w x y)

-- no bytes after it leave it as it is
pub appended_nil : (o : Option (List ℕ)) → o ≡ appended o []
appended_nil None = refl
appended_nil (Some w) = ap Some (sym (append-nil w))

-- the first bytes of a piece, and then more of it
pub appended_more : (o : Option (List ℕ)) (piece : List ℕ) (i n : ℕ)
    → appended (appended o (take i piece)) (take n (drop i piece)) ≡ appended o (take (i + n) piece)
appended_more o piece i n = appended_twice o _ _ ∙ ap (appended o) (sym (take-add i n piece))

-- one write more of a piece, of which i bytes were written
pub appended_step : (o w w' : Option (List ℕ)) (piece rest : List ℕ) (i n : ℕ)
    → w ≡ appended o (take i piece) → rest ≡ drop i piece → w' ≡ appended w (take n rest)
    → w' ≡ appended o (take (i + n) piece)
appended_step o w w' piece rest i n p q r =
    r ∙ ap (λ x. appended x (take n rest)) p
    ∙ ap (λ x. appended (appended o (take i piece)) (take n x)) q ∙ appended_more o piece i n
