-- A text that is written piece by piece.
use Rattle.std.proofs.Common.{◌≡◌, ℕ, ◌+◌, ◌<◌, Option, Some, List, ◌++◌, length, take, drop}
use Rattle.std.proofs.Common.{sym, ap, ◌∙◌, arith, append_assoc, length-append}
use Rattle.std.proofs.lemmas.List.{take-append-drop, take-append-le}
use Rattle.std.proofs.Math.Seq.{take-append-add}
use Rattle.oct_io.specs.Told.{appended}
use Rattle.oct_io.proofs.Appending.{appended_nil, appended_twice}

-- all of the text but what is left was written after what stood there
pub record IsUnderWay (text : List ℕ) (old now : Option (List ℕ)) (left : List ℕ) : Type 0 where
  pub done : List ℕ
  pub written : now ≡ appended old done
  pub split : text ≡ done ++ left

-- a part of the text was written, but not all of it
abbrev pub IsCutOff : List ℕ → Option (List ℕ) → Option (List ℕ) → Type 0
IsCutOff text old new = (n : ℕ) × (n < length text) × (new ≡ appended old (take n text))

-- a piece more
pub went_on : (text : List ℕ) (old now new : Option (List ℕ)) (left piece rest : List ℕ)
    → IsUnderWay text old now left → left ≡ piece ++ rest
    → new ≡ appended now piece → IsUnderWay text old new rest
went_on text old now new left piece rest way parts is = record {
  done = way.done ++ piece;
  written = is ∙ ap (λ o. appended o piece) way.written ∙ appended_twice old way.done piece;
  split = way.split ∙ ap (λ t. way.done ++ t) parts ∙ sym (append_assoc way.done piece rest);
}

-- a part of a piece more, and then no more
pub cut_off : (text : List ℕ) (old now new : Option (List ℕ)) (left piece rest : List ℕ)
    → IsUnderWay text old now left → left ≡ piece ++ rest
    → IsCutOff piece now new → IsCutOff text old new
cut_off text old now new left piece rest way parts (n, less, is) =
    let all : length text ≡ length way.done + (length piece + length rest) =
    ap length way.split ∙ length-append way.done left ∙ ap (λ k. length way.done + k)
    (ap length parts ∙ length-append piece rest) in
    let front : take n left ≡ take n piece = ap (take n) parts
    ∙ take-append-le n piece rest (omega (arith, less)) in (
      length way.done + n,
      omega (arith, less, all),
      is ∙ ap (λ o. appended o (take n piece)) way.written
          ∙ appended_twice old way.done (take n piece)
          ∙ ap (appended old)
          (ap (λ t. way.done ++ t) (sym front) ∙ sym (take-append-add way.done left n)
          ∙ ap (take (length way.done + n)) (sym way.split)),
    )

-- nothing of a piece, where it has some bytes
pub stopped : (text : List ℕ) (old now new : Option (List ℕ)) (left piece rest : List ℕ)
    → IsUnderWay text old now left → left ≡ piece ++ rest
    → 0 < length piece → new ≡ now → IsCutOff text old new
stopped text old now new left piece rest way parts some same =
    cut_off text old now new left piece rest way parts (0, some, same ∙ appended_nil now)

-- a text that is read in pieces of this many bytes
pub parts_of : (n : ℕ) (left piece rest : List ℕ) → piece ≡ take n left → rest ≡ drop n left
    → left ≡ piece ++ rest
parts_of n left piece rest front behind = sym (take-append-drop n left) ∙ ap (λ t. t ++ drop n left)
    (sym front) ∙ ap (λ t. piece ++ t) (sym behind)

some_same : (x y : List ℕ) → Some x ≡ Some y → x ≡ y
some_same x y e = cc

-- the same of bytes in memory
pub stopped_list : (text old now new left piece rest : List ℕ) → IsUnderWay text (Some old)
    (Some now) left → left ≡ piece ++ rest
    → 0 < length piece → new ≡ now → (n : ℕ) × (n < length text) × (new ≡ old ++ take n text)
stopped_list text old now new left piece rest way parts some same =
    let (n, less, is) =
    stopped text (Some old) (Some now) (Some new) left piece rest way parts some (ap Some same)
    in
    (n, less, some_same new (old ++ take n text) is)
