-- The lines of a script behind one line more.
use Rattle.std.proofs.Common.{◌≡◌, ℕ, ◌≤◌, List, [], ◌∷◌, ◌++◌, length, map, Bool, true, false}
use Rattle.std.proofs.Common.{cond, refl, sym, ap, ◌∙◌, arith, length-append}
use Rattle.std.specs.Prelude.{not}
use Rattle.std.specs.List.{All, onto_first}
use Rattle.std.proofs.lemmas.Bool.{le-ltb}
use Rattle.std.proofs.lemmas.List.Splits.{slice_split_at}
use Rattle.oct_script.specs.Lines.{Line, is_line_feed, is_in_line, line_of, ended, parts_of}
use Rattle.oct_script.specs.Lines.{all_but_last, last_of, last_line}
use Rattle.oct_script.specs.Lines.{all_lines}
use Rattle.oct_session.specs.Session.{lines_of}
use Rattle.oct_session.specs.Setup.{Setup}

-- there is a part, whatever the text
abbrev HasSome : List (List ℕ) → Type 0
HasSome parts = (first : List ℕ) × ((rest : List (List ℕ)) × (parts ≡ first ∷ rest))

onto_some : (b : ℕ) (parts : List (List ℕ)) → HasSome parts → HasSome (onto_first b parts)
onto_some b [] some = absurd (let no : [] ≡ some.0 ∷ some.1.0 = some.1.1 in cc)
onto_some b (part ∷ parts) some = (b ∷ part, (parts, refl))

parts_some : (bytes : List ℕ) → HasSome (parts_of bytes)
parts_some [] = ([], ([], refl))
parts_some (b ∷ bytes) =
    elim (is_line_feed b) as
    (λ v. HasSome (cond {A = List (List ℕ)} v ([] ∷ parts_of bytes)
    (onto_first b (parts_of bytes)))) [
      | true ↦ ([], (parts_of bytes, refl))
      | false ↦ onto_some b (parts_of bytes) (parts_some bytes)
    ]

lines_of_parts : List (List ℕ) → List Line
lines_of_parts parts =
    map (λ part. ended (line_of part)) (all_but_last parts) ++ last_line (last_of parts)

one_more : (text : List ℕ) (parts : List (List ℕ)) → HasSome parts
    → lines_of_parts (text ∷ parts) ≡ ended (line_of text) ∷ lines_of_parts parts
unfolding lines_of_parts
one_more text [] some = absurd (let no : [] ≡ some.0 ∷ some.1.0 = some.1.1 in cc)
one_more text (part ∷ parts) some = refl

not_feed : (v : Bool) → not v ≡ true → v ≡ false
not_feed true is = absurd cc
not_feed false is = refl

-- a text without a line feed, a line feed, and more
pub lines_behind : (text bytes : List ℕ) → All (λ b. is_in_line b ≡ true) text
    → all_lines (text ++ 10 ∷ bytes) ≡ ended (line_of text) ∷ all_lines bytes
unfolding lines_of_parts
lines_behind text bytes one =
    ap lines_of_parts (slice_split_at is_line_feed text 10 bytes
    (λ k d below. not_feed (is_line_feed _) (one k d below)) refl)
    ∙ one_more text (parts_of bytes) (parts_some bytes)

-- the same of a script that isn't too long
pub short_lines : (o : Setup) (bytes : List ℕ) → length bytes ≤ o.max_bytes
    → lines_of o bytes ≡ all_lines bytes
unfolding lines_of
short_lines o bytes short = rw (le-ltb o.max_bytes (length bytes) short) refl

pub script_lines : (o : Setup) (text bytes : List ℕ) → All (λ b. is_in_line b ≡ true) text
    → length (text ++ 10 ∷ bytes) ≤ o.max_bytes
    → lines_of o (text ++ 10 ∷ bytes) ≡ ended (line_of text) ∷ lines_of o bytes
script_lines o text bytes one short =
    let few : length bytes ≤ o.max_bytes = omega (arith, length-append text (10 ∷ bytes)) in
    short_lines o (text ++ 10 ∷ bytes) short ∙ lines_behind text bytes one
    ∙ ap (λ x. ended (line_of text) ∷ x) (sym (short_lines o bytes few))
