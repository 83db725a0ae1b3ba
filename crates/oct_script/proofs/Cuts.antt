-- Bytes after bytes that are cut into lines.
use Rattle.std.proofs.Common.{◌≡◌, ℕ, zero, suc, ◌+◌, ◌<◌, ◌≤◌, List, [], ◌∷◌, ◌++◌, length, take}
use Rattle.std.proofs.Common.{map, get_or, true, false, cond, inl, inr, refl, sym, ap, ◌∙◌, arith}
use Rattle.std.proofs.Common.{append_assoc, append-nil, length-append, add-one}
use Rattle.std.proofs.Math.Seq.{take-suc}
use Rattle.std.proofs.lemmas.Bool.{lt-ltb, not-true, not-false, cases_lt, cond-true, cond-false}
use Rattle.std.proofs.lemmas.Bool.{le-ltb}
use Rattle.std.proofs.lemmas.List.{take_all}
use Rattle.std.proofs.lemmas.List.Sums.{fold-append, fold_more, prefix_len_passes, prefix_len_stops}
use Rattle.std.proofs.lemmas.List.Sums.{prefix_len-le-length}
use Rattle.std.specs.List.{fold, prefix_len, onto_first}
use Rattle.oct_script.specs.Lines.{Line, Text, Long, is_line_feed, is_in_line, line_of, joined}
use Rattle.oct_script.specs.Lines.{ended, parts_of, all_but_last, last_of, ended_lines, rest_of}

-- bytes that are cut one after another: the lines that have ended, and
-- the bytes after the last of them
record Cut : Type 0 where
  lines : List Line
  rest : List ℕ

-- one byte more: a line feed ends the line, and any other byte joins it
abbrev with_byte : Cut → ℕ → Cut
with_byte c b =
    cond (is_line_feed b) (record { lines = c.lines ++ ended (line_of c.rest) ∷ []; rest = [] })
    (record { lines = c.lines; rest = c.rest ++ b ∷ [] })

abbrev cut_of : List ℕ → Cut
cut_of bytes = fold with_byte (record { lines = []; rest = [] }) bytes

abbrev lines_in : List (List ℕ) → List Line
lines_in parts = map (λ part. ended (line_of part)) (all_but_last parts)

-- parts, the first of which has some bytes in front
abbrev behind : List ℕ → List (List ℕ) → List (List ℕ)
behind rest [] = rest ∷ []
behind rest (part ∷ parts) = (rest ++ part) ∷ parts

record HasFirst (parts : List (List ℕ)) : Type 0 where
  first : List ℕ
  others : List (List ℕ)
  is : parts ≡ first ∷ others

first_onto : (b : ℕ) (parts : List (List ℕ)) → HasFirst parts → HasFirst (onto_first b parts)
first_onto b parts h = record {
  first = b ∷ h.first;
  others = h.others;
  is = ap (onto_first b) h.is;
}

parts_first : (bytes : List ℕ) → HasFirst (parts_of bytes)
parts_first [] = record { first = []; others = []; is = refl }
parts_first (b ∷ bytes) =
    elim (is_line_feed b) as
    (λ v. HasFirst (cond v ([] ∷ parts_of bytes) (onto_first b (parts_of bytes)))) [
      | true ↦ record { first = []; others = parts_of bytes; is = refl }
      | false ↦ first_onto b (parts_of bytes) (parts_first bytes)
    ]

-- what a cut has, after what it had
abbrev further : Cut → List (List ℕ) → Cut
further c parts = record {
  lines = c.lines ++ lines_in (behind c.rest parts);
  rest = last_of (behind c.rest parts);
}

cut_made : (lines others : List Line) (rest more : List ℕ) → lines ≡ others → rest ≡ more
    → ◌≡◌ {A = Cut} (record { lines = lines; rest = rest }) (record { lines = others; rest = more })
cut_made lines others rest more p q =
    ap (λ x. let c : Cut = record { lines = x; rest = rest } in c) p
    ∙ ap (λ x. let c : Cut = record { lines = others; rest = x } in c) q

further_feed : (c : Cut) (parts : List (List ℕ)) → HasFirst parts
    → further (record { lines = c.lines ++ ended (line_of c.rest) ∷ []; rest = [] }) parts
    ≡ further c ([] ∷ parts)
further_feed c parts h =
    rw (h.is, append-nil c.rest)
    (cut_made _ _ _ _
    (append_assoc c.lines (ended (line_of c.rest) ∷ []) (lines_in (h.first ∷ h.others)))
    refl)

further_byte : (c : Cut) (b : ℕ) (parts : List (List ℕ)) → HasFirst parts
    → further (record { lines = c.lines; rest = c.rest ++ b ∷ [] }) parts
    ≡ further c (onto_first b parts)
further_byte c b parts h =
    ap (λ x. further (record { lines = c.lines; rest = c.rest ++ b ∷ [] }) x) h.is
    ∙ ap (λ x. let d : Cut = record {
      lines = c.lines ++ lines_in (x ∷ h.others);
      rest =
          last_of (x ∷ h.others);
    } in d)
    (append_assoc c.rest (b ∷ []) h.first)
    ∙ ap (λ x. further c (onto_first b x)) (sym h.is)

cut_parts : (c : Cut) (bytes : List ℕ) → fold with_byte c bytes ≡ further c (parts_of bytes)
cut_parts c [] = rw (append-nil c.rest) (cut_made _ _ _ _ (sym (append-nil c.lines)) refl)
cut_parts c (b ∷ bytes) =
    elim (is_line_feed b) as
    (λ v. fold with_byte
    (cond v (record { lines = c.lines ++ ended (line_of c.rest) ∷ []; rest = [] })
    (record { lines = c.lines; rest = c.rest ++ b ∷ [] }))
    bytes
    ≡ further c (cond v ([] ∷ parts_of bytes) (onto_first b (parts_of bytes)))) [
      | true ↦ cut_parts
          (record { lines = c.lines ++ ended (line_of c.rest) ∷ []; rest = [] }) bytes
          ∙ further_feed c (parts_of bytes) (parts_first bytes)
      | false ↦ cut_parts (record { lines = c.lines; rest = c.rest ++ b ∷ [] }) bytes
          ∙ further_byte c b (parts_of bytes) (parts_first bytes)
    ]

-- a cut has the lines and the rest of its bytes
cut_is : (bytes : List ℕ) → cut_of bytes ≡ record {
  lines = ended_lines bytes;
  rest = rest_of bytes;
}
cut_is bytes =
    let h = parts_first bytes in cut_parts (record { lines = []; rest = [] }) bytes ∙ rw h.is refl

-- bytes after those that were cut
cut_of-append : (bytes more : List ℕ) → cut_of (bytes ++ more) ≡ fold with_byte (cut_of bytes) more
cut_of-append bytes more = fold-append with_byte _ bytes more

-- a byte that joins a line
joins_byte : (c : Cut) (b : ℕ) → is_in_line b ≡ true
    → with_byte c b ≡ record { lines = c.lines; rest = c.rest ++ b ∷ [] }
joins_byte c b h = let f : is_line_feed b ≡ false = not-true (is_line_feed b) h in rw f refl

-- bytes without a line feed join the rest
joins : (lines : List Line) (rest piece : List ℕ) (n : ℕ) → n ≤ prefix_len is_in_line piece →
    fold with_byte (record { lines = lines; rest = rest }) (take n piece) ≡ record {
      lines = lines;
      rest = rest ++ take n piece;
    }
joins lines rest piece zero h =
    ap (λ (r : List ℕ). let c : Cut = record { lines = lines; rest = r } in c)
    (sym (append-nil rest))
joins lines rest piece (suc n) h =
    let l : n < length piece = omega (arith, prefix_len-le-length is_in_line piece) in
    let p : is_in_line (get_or piece n 0) ≡ true =
    prefix_len_passes is_in_line piece n 0 (omega arith) in
    let e : (rest ++ take n piece) ++ get_or piece n 0 ∷ [] ≡ rest ++ take (suc n) piece =
    append_assoc rest (take n piece) (get_or piece n 0 ∷ [])
    ∙ ap (λ r. rest ++ r) (sym (take-suc piece n 0 l)) in
    ap (λ k. fold with_byte (record { lines = lines; rest = rest }) (take k piece))
    (sym (add-one n))
    ∙ fold_more with_byte (record { lines = lines; rest = rest }) piece n 0 l
    ∙ ap (λ c. with_byte c (get_or piece n 0)) (joins lines rest piece n (omega arith))
    ∙ joins_byte (record { lines = lines; rest = rest ++ take n piece }) (get_or piece n 0) p
    ∙ ap (λ (r : List ℕ). let c : Cut = record { lines = lines; rest = r } in c) e

cut_joined : (bytes piece : List ℕ) → prefix_len is_in_line piece ≡ length piece
    → cut_of (bytes ++ piece) ≡ record {
      lines = (cut_of bytes).lines;
      rest = (cut_of bytes).rest ++ piece;
    }
cut_joined bytes piece h =
    let e : take (length piece) piece ≡ piece = take_all (length piece) piece (omega arith) in
    cut_of-append bytes piece
    ∙ ap (λ x. fold with_byte (cut_of bytes) x) (sym e)
    ∙ joins (cut_of bytes).lines (cut_of bytes).rest piece (length piece) (omega arith)
    ∙ ap (λ x. let c : Cut = record {
      lines = (cut_of bytes).lines;
      rest = (cut_of bytes).rest ++ x;
    } in c)
    e

cut_ended : (bytes piece : List ℕ) (n : ℕ) → n ≡ prefix_len is_in_line piece → n < length piece →
    cut_of (bytes ++ take (n + 1) piece) ≡ record {
      lines = (cut_of bytes).lines ++ ended (line_of ((cut_of bytes).rest ++ take n piece)) ∷ [];
      rest = [];
    }
cut_ended bytes piece n e h =
    let f : is_in_line (get_or piece n 0) ≡ false =
    rw e (prefix_len_stops is_in_line piece 0 (omega arith)) in
    let t : is_line_feed (get_or piece n 0) ≡ true =
    not-false (is_line_feed (get_or piece n 0)) f in
    cut_of-append bytes (take (n + 1) piece)
    ∙ fold_more with_byte (cut_of bytes) piece n 0 h
    ∙ ap (λ c. with_byte c (get_or piece n 0))
    (joins (cut_of bytes).lines (cut_of bytes).rest piece n (omega arith))
    ∙ rw t refl

lines_are : (bytes : List ℕ) → ended_lines bytes ≡ (cut_of bytes).lines
lines_are bytes = ap (λ (c : Cut). c.lines) (sym (cut_is bytes))

rest_is : (bytes : List ℕ) → rest_of bytes ≡ (cut_of bytes).rest
rest_is bytes = ap (λ (c : Cut). c.rest) (sym (cut_is bytes))

-- a piece in which no line ends joins the rest
pub joined_piece : (bytes piece : List ℕ) → prefix_len is_in_line piece ≡ length piece
    → (ended_lines (bytes ++ piece) ≡ ended_lines bytes)
    × (rest_of (bytes ++ piece) ≡ rest_of bytes ++ piece)
joined_piece bytes piece h = (
  lines_are (bytes ++ piece) ∙ ap (λ (c : Cut). c.lines) (cut_joined bytes piece h)
      ∙ sym (lines_are bytes),
  rest_is (bytes ++ piece) ∙ ap (λ (c : Cut). c.rest) (cut_joined bytes piece h)
      ∙ ap (λ x. x ++ piece) (sym (rest_is bytes)),
)

-- a piece up to and with its first line feed ends the line
pub ended_piece : (bytes piece : List ℕ) (n : ℕ) → n ≡ prefix_len is_in_line piece
    → n < length piece →
    (ended_lines (bytes ++ take (n + 1) piece)
    ≡ ended_lines bytes ++ ended (line_of (rest_of bytes ++ take n piece))
    ∷ [])
    × (rest_of (bytes ++ take (n + 1) piece) ≡ [])
ended_piece bytes piece n e h = (
  lines_are (bytes ++ take (n + 1) piece) ∙ ap (λ (c : Cut). c.lines) (cut_ended bytes piece n e h)
      ∙ ap (λ x. x ++ ended (line_of ((cut_of bytes).rest ++ take n piece)) ∷ [])
      (sym (lines_are bytes))
      ∙ ap (λ x. ended_lines bytes ++ ended (line_of (x ++ take n piece)) ∷ [])
      (sym (rest_is bytes)),
  rest_is (bytes ++ take (n + 1) piece) ∙ ap (λ (c : Cut). c.rest) (cut_ended bytes piece n e h),
)

-- the lines of some bytes begin those of more bytes
lines_begin : (c : Cut) (more : List ℕ)
    → (lines : List Line) × ((fold with_byte c more).lines ≡ c.lines ++ lines)
lines_begin c [] = ([], sym (append-nil c.lines))
lines_begin c (b ∷ more) =
    elim (is_line_feed b) as
    (λ v. (lines : List Line)
    × ((fold with_byte (cond v (record {
      lines = c.lines ++ ended (line_of c.rest) ∷ [];
      rest = [];
    }) (record { lines = c.lines; rest = c.rest ++ b ∷ [] })) more).lines
    ≡ c.lines ++ lines)) [
      | true ↦ (let (lines, e) = lines_begin
          (record { lines = c.lines ++ ended (line_of c.rest) ∷ []; rest = [] }) more in (
            ended (line_of c.rest) ∷ lines,
            e ∙ append_assoc c.lines (ended (line_of c.rest) ∷ []) lines,
          ))
      | false ↦ lines_begin (record { lines = c.lines; rest = c.rest ++ b ∷ [] }) more
    ]

pub ended_lines-append : (bytes more : List ℕ)
    → (lines : List Line) × (ended_lines (bytes ++ more) ≡ ended_lines bytes ++ lines)
ended_lines-append bytes more =
    let s = lines_begin (cut_of bytes) more in (
      s.0,
      lines_are (bytes ++ more) ∙ ap (λ (c : Cut). c.lines) (cut_of-append bytes more) ∙ s.1
          ∙ ap (λ x. x ++ s.0) (sym (lines_are bytes)),
    )

-- more than 4,096 bytes are a long line
pub line_long : (bytes : List ℕ) → 4096 < length bytes → line_of bytes ≡ Long
line_long bytes h = cond-true _ _ _ (lt-ltb 4096 (length bytes) h)

-- at most 4,096 bytes are the text of a line
pub line_short : (bytes : List ℕ) → length bytes ≤ 4096 → line_of bytes ≡ Text bytes
line_short bytes h = cond-false _ _ _ (le-ltb 4096 (length bytes) h)

-- bytes that join a line one piece after another
pub joined_line : (rest bytes : List ℕ) → joined (line_of rest) bytes ≡ line_of (rest ++ bytes)
joined_line rest bytes =
    elim (cases_lt 4096 (length rest)) [
      | inl h ↦ (let long : 4096
          < length (rest ++ bytes) = omega (arith, length-append rest bytes) in
          rw (line_long rest h, line_long (rest ++ bytes) long) refl)
      | inr h ↦ rw (line_short rest h) refl
    ]
