-- What a line of a script does, in the words of the whole session.
use Rattle.std.proofs.Common.{◌≡◌, ℕ, List, [], ◌∷◌, ◌++◌, true, false, cond, Option, Some}
use Rattle.std.proofs.Common.{None, Result, Ok}
use Rattle.std.proofs.Common.{refl, sym, ap, subst, ◌∙◌, append_assoc, append-nil}
use Rattle.oct_io.specs.Files.{Files}
use Rattle.oct_script.specs.Lines.{Line}
use Rattle.oct_script.specs.Replies.{text_of, reply_text}
use Rattle.oct_script.specs.declared.command.Command.{Command}
use Rattle.oct_script.specs.declared.reply.Refusal.{Refusal}
use Rattle.oct_script.specs.declared.reply.Reply.{Reply}
use Rattle.oct_io.specs.Answer.{Outcome}
use Rattle.oct_io.specs.declared.status.Status.TheVariants.{TooLong}
use Rattle.oct_session.specs.History.{State, state_after}
use Rattle.oct_session.specs.ScanBlock.{end_reply}
use Rattle.oct_session.specs.Session.{Progress, effect_of, next_command, after_line, progress}
use Rattle.oct_session.specs.Session.{ended, closed, finished, overlong, is_too_long, lines_of}
use Rattle.oct_session.specs.Session.{last_progress, session}
use Rattle.oct_session.specs.Setup.{Setup}
use Rattle.oct_session.specs.declared.scan_block.ScanBlock.{ScanBlock}
use Rattle.oct_session.proofs.Progresses.{progress_push, progress_grows, after_answered}
use Rattle.oct_promise.specs.Lines.{IsLine, Replies, state_behind}

-- the text of a session begins with the replies to its lines
abbrev BeginsWith : Progress → Outcome → Type 0
BeginsWith p a = (more : List ℕ) × (a.text ≡ p.text ++ more)

nothing_behind : (text : List ℕ) → text ≡ text ++ []
nothing_behind text = sym (append-nil text)

overlong_begins : (p : Progress) → BeginsWith p (overlong p)
overlong_begins p = elim p.has_quit as (λ b. BeginsWith p (cond b (finished p)
    (record { text = p.text; files = p.files; status = TooLong }))) [
      | true ↦ ([], nothing_behind p.text)
      | false ↦ ([], nothing_behind p.text)
    ]

whole_begins : (p : Progress) → BeginsWith p (finished (closed p))
whole_begins p = elim p.has_quit as (λ b. BeginsWith p (finished (cond b p (ended p)))) [
  | true ↦ ([], nothing_behind p.text)
  | false ↦ (text_of (end_reply p.block), refl)
]

session_begins : (o : Setup) (files : Option Files) (bytes : List ℕ)
    → BeginsWith (last_progress o files bytes) (session o files bytes)
unfolding session
session_begins o files bytes =
    let p : Progress = last_progress o files bytes in
    elim (is_too_long o bytes) as
    (λ b. BeginsWith p (cond b (overlong p) (finished (closed p))))
    [ true ↦ overlong_begins p | false ↦ whole_begins p ]

-- the next line is this command, outside the block of a scan, of a session that goes on
pub record IsNext (p : Progress) (line : Line) (command : Command) : Type 0 where
  pub running : p.has_quit ≡ false
  pub outside : p.block ≡ None
  pub reads : next_command p line ≡ Ok command

pub next_line : (o : Setup) (files : Option Files) (bytes : List ℕ) (before : List Line)
    (line : Line) (c : Command) → IsLine o files bytes before line None (Ok c)
    → IsNext (progress o files before) line c
next_line o files bytes before line c is =
    record { running = is.running; outside = is.inside; reads = is.reads }

-- the answer has the reply to a line of the script
pub line_replied : (o : Setup) (files : Option Files) (bytes : List ℕ) (before : List Line)
    (line : Line) (block : Option ScanBlock) (c : Result Command Refusal) (reply : Reply)
    → IsLine o files bytes before line block c
    → (effect_of o (progress o files before) line).reply ≡ Some reply
    → Replies o files bytes before reply
line_replied o files bytes before line block c reply is answer =
    let r : Progress = progress o files before in
    let pushed : progress o files (before ++ line ∷ []) ≡ after_line o r line =
    progress_push o files before line in
    let line_text : (after_line o r line).text ≡ r.text ++ reply_text reply =
    ap (λ (p : Progress). p.text) (after_answered o r line is.running)
    ∙ ap (λ x. r.text ++ text_of x) answer in
    let parts : lines_of o bytes ≡ (before ++ line ∷ []) ++ is.behind =
    is.script ∙ sym (append_assoc before (line ∷ []) is.behind) in
    let g = progress_grows o files (before ++ line ∷ []) is.behind in
    let s = session_begins o files bytes in (
      g.0 ++ s.0,
      s.1 ∙ ap (λ x. (progress o files x).text ++ s.0) parts
          ∙ ap (λ x. x ++ s.0) (g.1 ∙ ap (λ (p : Progress). p.text ++ g.0) pushed
          ∙ ap (λ x. x ++ g.0) line_text)
          ∙ append_assoc (r.text ++ reply_text reply) g.0 s.0
          ∙ append_assoc r.text (reply_text reply) (g.0 ++ s.0),
    )

-- a line has this reply, and the state behind it is such
pub record Does (o : Setup) (r : Progress) (line : Line) (reply : Reply) (P : State → Type 0)
    : Type 0 where
  pub answer : (effect_of o r line).reply ≡ Some reply
  pub state : P (state_after o (after_line o r line).history)

-- in the words of the whole session
pub told_and_left : (o : Setup) (files : Option Files) (bytes : List ℕ) (before : List Line)
    (line : Line) (block : Option ScanBlock) (c : Result Command Refusal) (reply : Reply)
    (P : State → Type 0) → IsLine o files bytes before line block c
    → Does o (progress o files before) line reply P
    → Replies o files bytes before reply × P (state_behind o files (before ++ line ∷ []))
told_and_left o files bytes before line block c reply P is does = (
  line_replied o files bytes before line block c reply is does.answer,
  subst (λ (x : Progress). P (state_after o x.history)) (sym (progress_push o files before line))
      does.state,
)
