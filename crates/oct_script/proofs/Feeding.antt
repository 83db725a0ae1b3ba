-- The line that is being read, with a piece of its script after it.
use Rattle.std.proofs.Common.{◌≡◌, ℕ, ◌+◌, ◌-◌, ◌<◌, List, [], ◌∷◌, ◌++◌, length, take, drop, false}
use Rattle.std.proofs.Common.{◌≤◌, Bool, cond, subst, refl, sym, ap, ◌∙◌, arith, length-drop}
use Rattle.std.proofs.Common.{length-take}
use Rattle.std.proofs.lemmas.List.{take_all}
use Rattle.std.proofs.lemmas.List.Sums.{prefix_len-le-length}
use Rattle.std.specs.List.{prefix_len}
use Rattle.oct_script.specs.Lines.{Line, LineSoFar, is_in_line, line_of, joined, ended, ended_lines}
use Rattle.oct_script.specs.Lines.{rest_of, IsReading, HasJoined, HasEnded, Text, Long}
use Rattle.oct_script.specs.Lines.{trimmed, unread, whole}
use Rattle.oct_script.proofs.Cuts.{joined_piece, ended_piece, joined_line, line_short}

-- a piece in which no line ends
pub piece_joins : (old new : LineSoFar) (piece front rest bytes : List ℕ) (count : ℕ) →
    count ≡ prefix_len is_in_line piece → front ≡ take count piece → rest ≡ drop count piece
    → length rest ≡ 0 →
    new.line ≡ joined old.line front → new.has_ended ≡ false → IsReading old bytes
    → HasJoined new bytes (bytes ++ take count piece)
piece_joins old new piece front rest bytes count counted first behind none line unended at =
    let left : length rest ≡ length piece - count = ap length behind ∙ length-drop count piece in
    let len : prefix_len is_in_line piece ≡ length piece =
    omega (arith, counted, left, none, prefix_len-le-length is_in_line piece) in
    let whole : take count piece ≡ piece = take_all count piece (omega (arith, counted, len)) in
    let cut = joined_piece bytes piece len in
    record {
      lines = ap (λ x. ended_lines (bytes ++ x)) whole ∙ cut.0;
      reads = record {
        line =
            line ∙ ap (λ x. joined x front) at.line
            ∙ ap (λ x. joined (line_of (rest_of bytes)) x) (first ∙ whole)
            ∙ joined_line (rest_of bytes) piece ∙ ap line_of (sym cut.1)
            ∙ ap (λ x. line_of (rest_of (bytes ++ x))) (sym whole);
        unended = unended;
      };
    }

-- a piece up to and with a line feed
pub piece_ends : (old new : LineSoFar) (whole : Line) (piece front rest bytes : List ℕ) (count : ℕ)
    →
    count ≡ prefix_len is_in_line piece → front ≡ take count piece → rest ≡ drop count piece
    → 0 < length rest →
    whole ≡ joined old.line front → new.line ≡ ended whole → IsReading old bytes
    → HasEnded new bytes (bytes ++ take (count + 1) piece)
piece_ends old new whole piece front rest bytes count counted first behind some line end at =
    let n : ℕ = prefix_len is_in_line piece in
    let left : length rest ≡ length piece - count = ap length behind ∙ length-drop count piece in
    let more : n < length piece = omega (arith, counted, left, some) in
    let size : count + 1 ≡ n + 1 = omega (arith, counted) in
    let cut = ended_piece bytes piece n refl more in
    let is : ended (line_of (rest_of bytes ++ take n piece)) ≡ new.line =
    ap ended
    (sym (joined_line (rest_of bytes) (take n piece))
    ∙ ap (λ x. joined x (take n piece)) (sym at.line)
    ∙ ap (λ x. joined old.line x) (sym (first ∙ ap (λ k. take k piece) counted)) ∙ sym line)
    ∙ sym end in
    record {
      lines =
          ap (λ k. ended_lines (bytes ++ take k piece)) size ∙ cut.0
          ∙ ap (λ x. ended_lines bytes ++ x ∷ []) is;
      rest = ap (λ k. rest_of (bytes ++ take k piece)) size ∙ cut.1;
    }

-- a line that stands whole in a piece
pub piece_whole : (old : LineSoFar) (piece front text bytes : List ℕ) (count taken : ℕ) →
    count ≡ prefix_len is_in_line piece → front ≡ take count piece → count < length piece
    → count ≤ 4096 → text ≡ trimmed front → taken ≡ count + 1 → old ≡ unread → IsReading old bytes
    → HasEnded (whole text) bytes (bytes ++ take taken piece)
piece_whole old piece front text bytes count taken counted first more few is behind none at =
    let left : length (drop count piece) ≡ length piece - count = length-drop count piece in
    let short : length front ≤ 4096 = omega (arith, ap length first, length-take count piece) in
    let line : whole text ≡ whole (trimmed front) = ap whole is in
    subst (λ k. HasEnded (whole text) bytes (bytes ++ take k piece)) (sym behind)
    (piece_ends old (whole text) (line_of front) piece front (drop count piece) bytes count counted
    first refl (omega (arith, left, more))
    (ap (λ (l : LineSoFar). joined l.line front) (sym none)) (ap (λ x. Text x) is
    ∙ ap ended (sym (line_short front short))) at)

-- a line of which nothing has come
pub fresh_line : (overran has_ended : Bool) (kept : List ℕ) → overran ≡ false → length kept ≡ 0
    → has_ended ≡ false →
    record { line = cond overran Long (Text kept); has_ended = has_ended } ≡ unread
fresh_line overran has_ended [] short none unended = rw (short, unended) refl
fresh_line overran has_ended (b ∷ kept) short none unended = cc
