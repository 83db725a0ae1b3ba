-- A session over more lines.
use Rattle.std.proofs.Common.{◌≡◌, ℕ, ◌+◌, ◌<◌, ◌≤◌, List, [], ◌∷◌, ◌++◌, take, drop, Bool, true}
use Rattle.std.proofs.Common.{false, cond, Option, Some, None, IsSome, inl, inr, refl, sym, ap}
use Rattle.std.proofs.Common.{subst, ◌∙◌, arith, append_assoc, append-nil}
use Rattle.std.specs.List.{fold}
use Rattle.std.proofs.lemmas.List.{take-take, take-append-drop}
use Rattle.std.proofs.lemmas.List.Sums.{fold-append, fold_push}
use Rattle.oct_io.specs.Files.{Files}
use Rattle.oct_io.specs.Told.{appended}
use Rattle.oct_script.specs.Lines.{Line, ended_lines}
use Rattle.oct_script.specs.Replies.{text_of}
use Rattle.oct_script.proofs.Cuts.{ended_lines-append}
use Rattle.oct_session.specs.Ending.{replies_within, has_quit_within, HasReplied}
use Rattle.oct_session.specs.Commands.{Saving, file_named, asks_for, stored}
use Rattle.oct_session.specs.Leaving.{IsKnown}
use Rattle.oct_session.specs.Session.{Progress, start, effect_of, next_command, answered}
use Rattle.oct_session.specs.Session.{after_line, progress}
use Rattle.oct_session.specs.Setup.{Setup}
use Rattle.oct_session.specs.Standing.{FindsTold}

-- one line more
pub progress_push : (o : Setup) (files : Option Files) (lines : List Line) (line : Line)
    → progress o files (lines ++ line ∷ []) ≡ after_line o (progress o files lines) line
progress_push o files lines line = fold_push (after_line o) (start files) lines line

-- a session that goes on answers the line
pub after_answered : (o : Setup) (p : Progress) (line : Line) → p.has_quit ≡ false
    → after_line o p line ≡ answered o p line
after_answered o p line running = rw running refl

after_quit : (o : Setup) (p : Progress) (line : Line) → p.has_quit ≡ true → after_line o p line ≡ p
after_quit o p line quit = rw quit refl

-- a session that has ended stays where it is
lines_behind_quit : (o : Setup) (p : Progress) (lines : List Line) → p.has_quit ≡ true
    → fold (after_line o) p lines ≡ p
lines_behind_quit o p [] quit = refl
lines_behind_quit o p (line ∷ lines) quit =
    ap (λ x. fold (after_line o) x lines) (after_quit o p line quit)
    ∙ lines_behind_quit o p lines quit

-- lines after a `quit` have no effect
pub progress_behind_quit : (o : Setup) (files : Option Files) (lines more : List Line)
    → (progress o files lines).has_quit ≡ true
    → progress o files (lines ++ more) ≡ progress o files lines
progress_behind_quit o files lines more quit = fold-append (after_line o) (start files) lines more
    ∙ lines_behind_quit o (progress o files lines) more quit

-- neither have bytes
pub bytes_behind_quit : (o : Setup) (files : Option Files) (bytes more : List ℕ)
    → has_quit_within o files bytes ≡ true →
    progress o files (ended_lines (bytes ++ more)) ≡ progress o files (ended_lines bytes)
bytes_behind_quit o files bytes more quit =
    let s = ended_lines-append bytes more in
    ap (λ lines. progress o files lines) s.1
    ∙ progress_behind_quit o files (ended_lines bytes) s.0 quit

no_quit_by : (o : Setup) (files : Option Files) (bytes more : List ℕ) (b : Bool)
    → has_quit_within o files bytes ≡ b → has_quit_within o files (bytes ++ more) ≡ false
    → b ≡ false
no_quit_by o files bytes more true is running = let same =
    ap (λ (p : Progress). p.has_quit) (bytes_behind_quit o files bytes more is) in cc
no_quit_by o files bytes more false is running = refl

-- where no `quit` line ends within some bytes, none ends within the first of them
pub no_quit_before : (o : Setup) (files : Option Files) (bytes : List ℕ) (k taken : ℕ) → k ≤ taken
    → has_quit_within o files (take taken bytes) ≡ false
    → has_quit_within o files (take k bytes) ≡ false
no_quit_before o files bytes k taken few running =
    no_quit_by o files (take k bytes) (drop k (take taken bytes))
    (has_quit_within o files (take k bytes)) refl
    (ap (has_quit_within o files)
    (ap (λ x. x ++ drop k (take taken bytes)) (sym (take-take k taken bytes few))
    ∙ take-append-drop k (take taken bytes)) ∙ running)

-- a line leaves the replies that were there, and writes more after them
line_grows : (o : Setup) (p : Progress) (line : Line)
    → (more : List ℕ) × ((after_line o p line).text ≡ p.text ++ more)
line_grows o p line = elim p.has_quit as
    (λ v. (more : List ℕ) × ((cond v p (answered o p line)).text ≡ p.text ++ more)) [
      | true ↦ ([], sym (append-nil p.text))
      | false ↦ (text_of (effect_of o p line).reply, refl)
    ]

text_grows : (o : Setup) (p : Progress) (lines : List Line)
    → (more : List ℕ) × ((fold (after_line o) p lines).text ≡ p.text ++ more)
text_grows o p [] = ([], sym (append-nil p.text))
text_grows o p (line ∷ lines) =
    let s = text_grows o (after_line o p line) lines in
    let t = line_grows o p line in
    (t.0 ++ s.0, s.1 ∙ ap (λ x. x ++ s.0) t.1 ∙ append_assoc p.text t.0 s.0)

-- more lines leave the replies that were there, and write more after them
pub progress_grows : (o : Setup) (files : Option Files) (lines more : List Line)
    → (text : List ℕ) × ((progress o files (lines ++ more)).text
    ≡ (progress o files lines).text ++ text)
progress_grows o files lines more =
    let s = text_grows o (progress o files lines) more in
    (s.0, ap (λ (p : Progress). p.text) (fold-append (after_line o) (start files) lines more) ∙ s.1)

-- more bytes leave the replies that were there
replies_grow : (o : Setup) (files : Option Files) (bytes more : List ℕ)
    → (text : List ℕ) × (replies_within o files (bytes ++ more)
    ≡ replies_within o files bytes ++ text)
replies_grow o files bytes more =
    let s = ended_lines-append bytes more in
    let t = progress_grows o files (ended_lines bytes) s.0 in
    (t.0, ap (λ lines. (progress o files lines).text) s.1 ∙ t.1)

-- what was written has the replies to the lines that end within the first of these bytes
pub replied_before : (o : Setup) (files : Option Files) (bytes more : List ℕ)
    (w u : Option (List ℕ)) → HasReplied o files (bytes ++ more) w u → HasReplied o files bytes w u
replied_before o files bytes more w u at =
    let t = replies_grow o files bytes more in
    record {
      more = t.0 ++ at.more;
      written = at.written ∙ ap (λ x. appended w (x ++ at.more)) t.1
          ∙ ap (appended w) (append_assoc (replies_within o files bytes) t.0 at.more);
    }

-- the same by the numbers of bytes
pub replied_first : (o : Setup) (files : Option Files) (bytes : List ℕ) (k taken : ℕ)
    (w u : Option (List ℕ)) → k ≤ taken → HasReplied o files (take taken bytes) w u
    → HasReplied o files (take k bytes) w u
replied_first o files bytes k taken w u few at =
    let parts : take taken bytes ≡ take k bytes ++ drop k (take taken bytes) =
    sym (take-append-drop k (take taken bytes))
    ∙ ap (λ x. x ++ drop k (take taken bytes)) (take-take k taken bytes few) in
    replied_before o files (take k bytes) (drop k (take taken bytes)) w u
    (subst (λ x. HasReplied o files x w u) parts at)

-- files that are told after a saving were told before it, and stay told
told_before : (files : Option Files) (saving : Option Saving) → IsSome (stored files saving)
    → IsSome files
told_before files None some = some
told_before None (Some saving) some = some
told_before (Some files) (Some saving) some = refl

told_after : (files : Option Files) (saving : Option Saving) → IsSome files
    → IsSome (stored files saving)
told_after files None some = some
told_after None (Some saving) some = cc
told_after (Some files) (Some saving) some = refl

-- one line more asks no less of the store
line_asks : (o : Setup) (p : Progress) (line : Line) → p.asks ≤ (after_line o p line).asks
line_asks o p line = elim p.has_quit as (λ v. p.asks ≤ (cond v p (answered o p line)).asks)
    [ true ↦ omega arith | false ↦ omega arith ]

fold_asks : (o : Setup) (p : Progress) (lines : List Line)
    → p.asks ≤ (fold (after_line o) p lines).asks
fold_asks o p [] = omega arith
fold_asks o p (line ∷ lines) =
    omega (arith, line_asks o p line, fold_asks o (after_line o p line) lines)

pub asks_before : (o : Setup) (files : Option Files) (lines more : List Line)
    → (progress o files lines).asks ≤ (progress o files (lines ++ more)).asks
asks_before o files lines more =
    subst (λ (p : Progress). (progress o files lines).asks ≤ p.asks)
    (sym (fold-append (after_line o) (start files) lines more))
    (fold_asks o (progress o files lines) more)

answered_unnamed : (o : Setup) (p : Progress) (line : Line) → (answered o p line).asks ≡ 0
    → (p.asks ≡ 0) × (asks_for (file_named (next_command p line)) ≡ 0)
answered_unnamed o p line none = (omega (arith, none), omega (arith, none))

answered_known : (o : Setup) (p : Progress) (line : Line) → IsKnown (answered o p line) → IsKnown p
answered_known o p line (inl some) = inl (told_before p.files (effect_of o p line).saving some)
answered_known o p line (inr none) = inr (answered_unnamed o p line none).0

-- what is known after one line more was known before
pub known_line : (o : Setup) (p : Progress) (line : Line) → IsKnown (after_line o p line)
    → IsKnown p
known_line o p line = elim p.has_quit as (λ v. IsKnown (cond v p (answered o p line)) → IsKnown p)
    [ true ↦ (λ known. known) | false ↦ answered_known o p line ]

known_fold : (o : Setup) (p : Progress) (lines : List Line) → IsKnown (fold (after_line o) p lines)
    → IsKnown p
known_fold o p [] known = known
known_fold o p (line ∷ lines) known =
    known_line o p line (known_fold o (after_line o p line) lines known)

pub known_before : (o : Setup) (files : Option Files) (lines more : List Line)
    → IsKnown (progress o files (lines ++ more)) → IsKnown (progress o files lines)
known_before o files lines more known =
    known_fold o (progress o files lines) more
    (subst IsKnown (fold-append (after_line o) (start files) lines more) known)

-- the same by the bytes
pub known_bytes : (o : Setup) (files : Option Files) (bytes more : List ℕ)
    → IsKnown (progress o files (ended_lines (bytes ++ more)))
    → IsKnown (progress o files (ended_lines bytes))
known_bytes o files bytes more known =
    let s = ended_lines-append bytes more in
    known_before o files (ended_lines bytes) s.0
    (subst (λ lines. IsKnown (progress o files lines)) s.1 known)

line_told : (o : Setup) (p : Progress) (line : Line) → IsSome p.files
    → IsSome (after_line o p line).files
line_told o p line some =
    elim p.has_quit as (λ v. IsSome (cond v p (answered o p line)).files)
    [ true ↦ some | false ↦ told_after p.files (effect_of o p line).saving some ]

-- files that are told stay told
pub told_fold : (o : Setup) (p : Progress) (lines : List Line) → IsSome p.files
    → IsSome (fold (after_line o) p lines).files
told_fold o p [] some = some
told_fold o p (line ∷ lines) some =
    told_fold o (after_line o p line) lines (line_told o p line some)

named_none : (named : Option (List ℕ)) → asks_for named ≡ 0 → named ≡ None
named_none None none = refl
named_none (Some name) none = cc

finds_told : (o : Setup) (p : Progress) (line : Line) → IsKnown (answered o p line)
    → FindsTold (file_named (next_command p line)) p.files
finds_told o p line (inl some) = inr (told_before p.files (effect_of o p line).saving some)
finds_told o p line (inr none) =
    inl (named_none (file_named (next_command p line)) (answered_unnamed o p line none).1)

-- a line that is known names no file, or finds it told
pub line_finds_told : (o : Setup) (p : Progress) (line : Line) → p.has_quit ≡ false
    → IsKnown (after_line o p line) → FindsTold (file_named (next_command p line)) p.files
line_finds_told o p line running known =
    finds_told o p line (subst IsKnown (after_answered o p line running) known)

-- how often the store is asked after a line, of a session that goes on
pub asks_next : (o : Setup) (p : Progress) (line : Line) → p.has_quit ≡ false
    → (after_line o p line).asks ≡ p.asks + asks_for (file_named (next_command p line))
asks_next o p line running = ap (λ (x : Progress). x.asks) (after_answered o p line running)

-- a line that names a file asks it once more
pub asks_more : (o : Setup) (p : Progress) (line : Line) → p.has_quit ≡ false
    → IsSome (file_named (next_command p line)) → p.asks < (after_line o p line).asks
asks_more o p line running some =
    omega (arith, asks_next o p line running, some_asks (file_named (next_command p line)) some)
  where
    some_asks : (named : Option (List ℕ)) → IsSome named → asks_for named ≡ 1
    some_asks None some = cc
    some_asks (Some name) some = refl
