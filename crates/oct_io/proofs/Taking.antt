-- What is taken of an input, piece by piece.
use Rattle.std.proofs.Common.{◌≡◌, ℕ, List, [], ◌++◌, length, take, drop, Option, Some, None}
use Rattle.std.proofs.Common.{IfSome, refl, sym, ◌∙◌, ap, arith, append_assoc, append-nil}
use Rattle.std.proofs.Common.{length-append}
use Rattle.std.proofs.lemmas.List.{take-append-drop}
use Rattle.std.proofs.lemmas.List.Prefix.{front_rest}
use Rattle.oct_io.specs.Told.{dropped}
use Rattle.oct_io.specs.Taken.{HasTaken, before}

-- what was left is what a read took and what is left after it
pub before_piece : (old new : Option (List ℕ)) (piece : List ℕ) (n : ℕ) → new ≡ dropped n old
    → IfSome old (λ left. piece ≡ take n left) → old ≡ before piece new
before_piece None new piece n moved same = rw moved refl
before_piece (Some left) new piece n moved same =
    rw moved (ap Some (sym (take-append-drop n left) ∙ ap (λ x. x ++ drop n left) (sym same)))

-- two pieces, one after the other, are one longer piece
pub before_twice : (xs ys : List ℕ) (left : Option (List ℕ)) → before xs (before ys left)
    ≡ before (xs ++ ys) left
before_twice xs ys None = refl
before_twice xs ys (Some left) = ap Some (sym (append_assoc xs ys left))

some_same : (x y : List ℕ) → Some x ≡ Some y → x ≡ y
some_same x y e = cc

some_none : (x : List ℕ) → Some x ≡ None → ⊥
some_none x e = cc

-- the bytes before what is left were taken of an input that is told
pub before_taken : (bytes whole : List ℕ) (left : Option (List ℕ)) → Some whole ≡ before bytes left
    → HasTaken (length bytes) whole left
before_taken bytes whole None e = absurd (some_none whole e)
before_taken bytes whole (Some rest) e =
    let parts : whole ≡ bytes ++ rest = some_same whole (bytes ++ rest) e in
    let long = length-append bytes rest in
    let size : length whole ≡ length (bytes ++ rest) = ap length parts in
    record {
      within = omega (arith, long, size);
      rest = ap Some (sym (front_rest whole bytes rest parts));
    }

-- and where nothing is left they are all of it
pub before_all : (bytes whole : List ℕ) (left : Option (List ℕ)) → Some whole ≡ before bytes left
    → IfSome left (λ rest. rest ≡ []) → (whole ≡ bytes) × (left ≡ Some [])
before_all bytes whole None e none = absurd (some_none whole e)
before_all bytes whole (Some rest) e none =
    (some_same whole (bytes ++ rest) e ∙ ap (λ x. bytes ++ x) none ∙ append-nil bytes, ap Some none)
