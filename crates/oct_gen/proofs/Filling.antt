-- Pieces of what is to come at the front of a buffer.
use Rattle.std.proofs.Common.{◌≡◌, ℕ, ◌+◌, ◌-◌, ◌≤◌, List, [], ◌++◌, length, take, drop, min, sym}
use Rattle.std.proofs.Common.{ap, ◌∙◌, arith}
use Rattle.std.proofs.lemmas.List.{length-take, length-drop, take-append-le, drop-append-le}
use Rattle.std.proofs.lemmas.List.{drop-drop, take-take, drop_at, take-append-drop}
use Rattle.std.proofs.Math.Seq.{take-add, take-append-add, drop-length}

-- ---- a piece of a line

-- after a line that was given whole comes the next one
pub next_of : (text line more next later : List ℕ) (at : ℕ) → text ≡ drop at line ++ more
    → at ≡ length line → more ≡ next ++ later → text ≡ next ++ later
next_of text line more next later at is used new =
    let none : drop at line ≡ [] = ap (λ (n : ℕ). drop n line) used ∙ drop-length line in
    is ∙ ap (λ t. t ++ more) none ∙ new

-- a piece is at most what is left of its line
pub piece_within : (n : ℕ) (rest line : List ℕ) (room : ℕ) → n ≡ min (length rest) room
    → rest ≡ line → n ≤ length line
piece_within n rest line room least is = omega (arith, least, ap length is)

pub piece_bytes : (n : ℕ) (text rest more copied buffer : List ℕ) → text ≡ rest ++ more
    → copied ≡ take n rest → n ≤ length rest
    → take n (copied ++ drop n buffer) ≡ take n text
piece_bytes n text rest more copied buffer is same within =
    let long : n ≤ length copied = omega (arith, ap length same, length-take n rest, within) in
    take-append-le n copied (drop n buffer) long ∙ ap (take n) same
    ∙ take-take n n rest (omega arith)
    ∙ sym (take-append-le n rest more within) ∙ ap (take n) (sym is)

pub piece_moved : (n at : ℕ) (text line more : List ℕ) → text ≡ drop at line ++ more
    → n ≤ length (drop at line) → drop (at + n) line ++ more ≡ drop n text
piece_moved n at text line more is within =
    sym (ap (drop n) is ∙ drop-append-le n (drop at line) more within
    ∙ ap (λ t. t ++ more) (drop-drop n at line))

-- ---- one piece after the other

pub filled_more : (f n : ℕ) (text left buffer part behind : List ℕ) → take f buffer ≡ take f text
    → left ≡ drop f text → f ≤ length buffer → n ≤ length part
    → take n part ≡ take n left → take (f + n) (take f buffer ++ (part ++ behind))
    ≡ take (f + n) text
filled_more f n text left buffer part behind same later within fits more =
    let size : length (take f buffer) + n ≡ f + n = omega (arith, length-take f buffer, within) in
    ap (λ (k : ℕ). take k (take f buffer ++ (part ++ behind))) (sym size)
    ∙ take-append-add (take f buffer) (part ++ behind) n
    ∙ ap (λ t. t ++ take n (part ++ behind)) same
    ∙ ap (λ t. take f text ++ t) (take-append-le n part behind fits ∙ more ∙ ap (take n) later)
    ∙ sym (take-add f n text)

-- what lies behind the pieces stays
pub rest_more : (f n k : ℕ) (buffer part old : List ℕ) → drop f buffer ≡ drop f old
    → f ≤ length buffer → n ≤ length part → length part ≡ length (take k (drop f buffer))
    → drop n part ≡ drop n (take k (drop f buffer))
    → drop (f + n) (take f buffer ++ (part ++ drop k (drop f buffer))) ≡ drop (f + n) old
rest_more f n k buffer part old same within fits size kept =
    let mid = take k (drop f buffer) in
    let behind = drop k (drop f buffer) in
    let front : length (take f buffer) ≡ f = omega (arith, length-take f buffer, within) in
    sym (drop-drop n f (take f buffer ++ (part ++ behind)))
    ∙ ap (drop n) (drop_at (take f buffer) (part ++ behind) f front)
    ∙ drop-append-le n part behind fits
    ∙ ap (λ t. t ++ behind) kept
    ∙ sym (drop-append-le n mid behind (omega (arith, fits, size)))
    ∙ ap (drop n) (take-append-drop k (drop f buffer) ∙ same)
    ∙ drop-drop n f old

pub part_fits : (f n : ℕ) (buffer : List ℕ) → n ≤ length (take (length buffer - f) (drop f buffer))
    → f ≤ length buffer → f + n ≤ length buffer
part_fits f n buffer within start =
    omega (
      arith,
      within,
      length-take (length buffer - f) (drop f buffer),
      length-drop f buffer,
      start,
    )

pub text_lasts : (f n : ℕ) (text left : List ℕ) → n ≤ length left → left ≡ drop f text
    → f ≤ length text → f + n ≤ length text
text_lasts f n text left within later start =
    omega (arith, within, ap length later, length-drop f text, start)

pub moved_more : (f n : ℕ) (text left : List ℕ) → left ≡ drop f text
    → drop n left ≡ drop (f + n) text
moved_more f n text left later = ap (drop n) later ∙ drop-drop n f text
