-- How a session ends, by its replies.
use Rattle.std.proofs.Common.{◌≡◌, ℕ, ◌<◌, List, [], ◌∷◌, ◌++◌, ◌||◌, ◌&&◌, length, Bool, true}
use Rattle.std.proofs.Common.{false, cond, Option, Some, None, Ok, inl, inr, refl, sym, ap, ◌∙◌}
use Rattle.std.proofs.Common.{◌↔◌, subst, append_assoc, append-nil}
use Rattle.std.proofs.Math.Bool.{or-false}
use Rattle.std.proofs.lemmas.Bool.{cases_lt, lt-ltb, le-ltb}
use Rattle.std.proofs.lemmas.List.Folds.{list_any-append}
use Rattle.std.specs.List.{Contains, fold, list_any}
use Rattle.std.specs.Prelude.{not}
use Rattle.oct_brick.proofs.Lists.{contains_none, contains_here, contains_later, contains_cases}
use Rattle.oct_io.specs.Answer.{Outcome}
use Rattle.oct_io.specs.Files.{Files}
use Rattle.oct_io.specs.declared.status.Status.{Status}
use Rattle.oct_io.specs.declared.status.Status.TheVariants.{Done, Refused, TooLong}
use Rattle.oct_script.specs.Lines.{Line}
use Rattle.oct_script.specs.Replies.{is_refusal, text_of}
use Rattle.oct_script.specs.declared.command.Command.TheVariants as command
use Rattle.oct_script.specs.declared.reply.Refusal.{Refusal}
use Rattle.oct_script.specs.declared.reply.Reply.{Reply}
use Rattle.oct_script.specs.declared.reply.Reply.TheVariants as reply_of
use Rattle.oct_session.specs.Commands.{is_quit, stored}
use Rattle.oct_session.specs.ScanBlock.{end_reply}
use Rattle.oct_session.specs.Session.{Progress, Effect, start, effect_of, answered, after_line}
use Rattle.oct_session.specs.Session.{progress, ended, closed, finished, overlong, is_too_long}
use Rattle.oct_session.specs.Session.{lines_of, last_progress, session, status_at_end}
use Rattle.oct_session.specs.Setup.{Setup}
use Rattle.oct_session.proofs.Progresses.{progress_push, after_answered, progress_behind_quit}
use Rattle.oct_promise.specs.Endings.{IsOverlong, HasRefusal, EndsBehind}
use Rattle.oct_promise.specs.Lines.{IsLine}
use Rattle.oct_promise.specs.Sums.{reply_to, replies_to, reply_at_end, all_replies}
use Rattle.oct_promise.proofs.GivenBack.{effect_next}
use Rattle.oct_promise.proofs.Telling.{next_line}

-- ---- whether a reply was a refusal

or_joined : (a b c : Bool) → ((a || b) || c) ≡ (a || (b || c))
or_joined true b c = refl
or_joined false b c = refl

line_refused : (o : Setup) (p : Progress) (line : Line)
    → (after_line o p line).refused ≡ (p.refused || is_refusal (reply_to o p line))
line_refused o p line =
    elim p.has_quit as (λ v. (cond {A = Progress} v p (answered o p line)).refused
    ≡ (p.refused || is_refusal (cond {A = Option Reply} v None (effect_of o p line).reply))) [
      | true ↦ sym (or-false p.refused)
      | false ↦ refl
    ]

lines_refused : (o : Setup) (p : Progress) (lines : List Line)
    → (fold (after_line o) p lines).refused
    ≡ (p.refused || list_any is_refusal (replies_to o p lines))
unfolding replies_to
lines_refused o p [] = sym (or-false p.refused)
lines_refused o p (line ∷ lines) =
    let rest : Bool = list_any is_refusal (replies_to o (after_line o p line) lines) in
    lines_refused o (after_line o p line) lines
    ∙ ap (λ b. b || rest) (line_refused o p line)
    ∙ or_joined p.refused (is_refusal (reply_to o p line)) rest

end_refused : (p : Progress)
    → (closed p).refused ≡ (p.refused || is_refusal (reply_at_end p))
end_refused p =
    elim p.has_quit as (λ v. (cond {A = Progress} v p (ended p)).refused
    ≡ (p.refused || is_refusal (cond {A = Option Reply} v None (end_reply p.block)))) [
      | true ↦ sym (or-false p.refused)
      | false ↦ refl
    ]

all_refused : (o : Setup) (files : Option Files) (lines : List Line)
    → (closed (progress o files lines)).refused ≡ list_any is_refusal (all_replies o files lines)
all_refused o files lines =
    let p : Progress = progress o files lines in
    let told : List (Option Reply) = replies_to o (start files) lines in
    end_refused p
    ∙ ap (λ b. b || is_refusal (reply_at_end p)) (lines_refused o (start files) lines)
    ∙ ap (λ b. list_any is_refusal told || b) (sym (or-false (is_refusal (reply_at_end p))))
    ∙ sym (list_any-append is_refusal told (reply_at_end p ∷ []))

-- the refusal among some replies
refusal_in : (r : Option Reply) → is_refusal r ≡ true
    → (refusal : Refusal) × (r ≡ Some (reply_of.Refused refusal))
refusal_in (Some (reply_of.Refused refusal)) is = (refusal, refl)
refusal_in other is = absurd cc

any_first : (r : Option Reply) (rs : List (Option Reply)) (b : Bool) → is_refusal r ≡ b
    → (b || list_any is_refusal rs) ≡ true
    → (list_any is_refusal rs ≡ true
    → (refusal : Refusal) × Contains rs (Some (reply_of.Refused refusal)))
    → (refusal : Refusal) × Contains (r ∷ rs) (Some (reply_of.Refused refusal))
any_first r rs true is any below =
    let (refusal, e) = refusal_in r is in
    (refusal, subst (Contains (r ∷ rs)) e (contains_here r rs))
any_first r rs false is any below =
    let (refusal, there) = below any in (refusal, contains_later r _ rs there)

any_found : (rs : List (Option Reply)) → list_any is_refusal rs ≡ true
    → (refusal : Refusal) × Contains rs (Some (reply_of.Refused refusal))
any_found [] any = absurd cc
any_found (r ∷ rs) any = any_first r rs (is_refusal r) refl any (any_found rs)

right_true : (b : Bool) → (b || true) ≡ true
right_true true = refl
right_true false = refl

found_any : (rs : List (Option Reply)) (refusal : Refusal)
    → Contains rs (Some (reply_of.Refused refusal)) → list_any is_refusal rs ≡ true
found_any [] refusal there = absurd (contains_none _ there)
found_any (r ∷ rs) refusal there =
    elim (contains_cases r (Some (reply_of.Refused refusal)) rs there) [
      | inl e ↦ ap (λ (x : Option Reply). is_refusal x || list_any is_refusal rs) e
      | inr below ↦ ap (λ b. is_refusal r || b) (found_any rs refusal below)
          ∙ right_true (is_refusal r)
    ]

-- ---- statuses

overlong_status : (p : Progress) → (overlong p).status
    ≡ cond {A = Status} (not p.has_quit) TooLong (status_at_end (closed p).refused)
overlong_status p =
    elim p.has_quit as (λ v. (cond {A = Outcome} v (finished p) (record {
      text = p.text;
      files = p.files;
      status = TooLong;
    })).status ≡ cond {A = Status} (not v) TooLong
    (status_at_end (cond {A = Progress} v p (ended p)).refused)) [
      | true ↦ refl
      | false ↦ refl
    ]

session_status : (o : Setup) (files : Option Files) (bytes : List ℕ)
    → (session o files bytes).status
    ≡ cond {A = Status} (is_too_long o bytes && not (last_progress o files bytes).has_quit) TooLong
    (status_at_end (closed (last_progress o files bytes)).refused)
unfolding session
session_status o files bytes =
    let p : Progress = last_progress o files bytes in
    elim (is_too_long o bytes) as
    (λ b. (cond {A = Outcome} b (overlong p) (finished (closed p))).status
    ≡ cond {A = Status} (b && not p.has_quit) TooLong (status_at_end (closed p).refused)) [
      | true ↦ overlong_status p
      | false ↦ refl
    ]

-- which status it is, by whether the script is too long, a line is `quit` and a reply a refusal
abbrev told_status : Bool → Bool → Bool → Status
told_status long quit refused = cond (long && not quit) TooLong (status_at_end refused)

too_long_when : (long quit refused : Bool) → told_status long quit refused ≡ TooLong
    → (long ≡ true) × (quit ≡ false)
too_long_when true false refused is = (refl, refl)
too_long_when true true true is = absurd cc
too_long_when true true false is = absurd cc
too_long_when false quit true is = absurd cc
too_long_when false quit false is = absurd cc

refused_when : (long quit refused : Bool) → told_status long quit refused ≡ Refused
    → ((long ≡ true) → (quit ≡ false) → ⊥) × (refused ≡ true)
refused_when true false refused is = absurd cc
refused_when true true true is = ((λ l q. absurd cc), refl)
refused_when true true false is = absurd cc
refused_when false quit true is = ((λ l q. absurd cc), refl)
refused_when false quit false is = absurd cc

done_when : (long quit refused : Bool) → told_status long quit refused ≡ Done
    → ((long ≡ true) → (quit ≡ false) → ⊥) × (refused ≡ false)
done_when true false refused is = absurd cc
done_when true true true is = absurd cc
done_when true true false is = ((λ l q. absurd cc), refl)
done_when false quit true is = absurd cc
done_when false quit false is = ((λ l q. absurd cc), refl)

ended_when : (long quit refused : Bool) → ((long ≡ true) → (quit ≡ false) → ⊥)
    → told_status long quit refused ≡ status_at_end refused
ended_when true false refused never = absurd (never refl refl)
ended_when true true refused never = refl
ended_when false quit refused never = refl

-- ---- in words

long_exactly : (o : Setup) (bytes : List ℕ)
    → (is_too_long o bytes ≡ true) ↔ (o.max_bytes < length bytes)
long_exactly o bytes = (
  λ is. elim (cases_lt o.max_bytes (length bytes)) [
    | inl more ↦ more
    | inr few ↦ absurd
        (let no : true ≡ false = sym is ∙ le-ltb o.max_bytes (length bytes) few in cc)
  ],
  λ more. lt-ltb o.max_bytes (length bytes) more,
)

not_false : (b : Bool) → ¬ (b ≡ true) → b ≡ false
not_false true never = absurd (never refl)
not_false false never = refl

module _ (o : Setup) (files : Option Files) (bytes : List ℕ) where
  refusal_exactly : ((closed (last_progress o files bytes)).refused ≡ true)
      ↔ HasRefusal o files bytes
  refusal_exactly = (
    λ is. any_found (all_replies o files (lines_of o bytes))
        (sym (all_refused o files (lines_of o bytes)) ∙ is),
    λ (refusal, there). all_refused o files (lines_of o bytes)
        ∙ found_any (all_replies o files (lines_of o bytes)) refusal there,
  )

  -- whether the script is overlong, by the tests
  not_overlong : ((is_too_long o bytes ≡ true)
      → ((last_progress o files bytes).has_quit ≡ false) → ⊥) → ¬ IsOverlong o files bytes
  not_overlong never is = never ((long_exactly o bytes).1 is.long) is.running

  overlong_not : ¬ IsOverlong o files bytes → (is_too_long o bytes ≡ true)
      → ((last_progress o files bytes).has_quit ≡ false) → ⊥
  overlong_not never long running =
      never (record { long = (long_exactly o bytes).0 long; running = running })

  pub too_long_exactly : ((session o files bytes).status ≡ TooLong) ↔ IsOverlong o files bytes
  too_long_exactly = (
    λ is. (let (long, running) = too_long_when (is_too_long o bytes)
        (last_progress o files bytes).has_quit
        (closed (last_progress o files bytes)).refused
        (sym (session_status o files bytes) ∙ is) in
        record { long = (long_exactly o bytes).0 long; running = running }),
    λ is. session_status o files bytes
        ∙ ap (λ b. told_status b (last_progress o files bytes).has_quit
        (closed (last_progress o files bytes)).refused) ((long_exactly o bytes).1 is.long)
        ∙ ap (λ b. told_status true b (closed (last_progress o files bytes)).refused) is.running,
  )

  pub refused_exactly : ((session o files bytes).status ≡ Refused)
      ↔ ((¬ IsOverlong o files bytes) × HasRefusal o files bytes)
  refused_exactly = (
    λ is. (let (never, refused) = refused_when (is_too_long o bytes)
        (last_progress o files bytes).has_quit
        (closed (last_progress o files bytes)).refused
        (sym (session_status o files bytes) ∙ is) in
        (not_overlong never, refusal_exactly.0 refused)),
    λ (never, some). session_status o files bytes
        ∙ ended_when (is_too_long o bytes) (last_progress o files bytes).has_quit
        (closed (last_progress o files bytes)).refused (overlong_not never)
        ∙ ap status_at_end (refusal_exactly.1 some),
  )

  pub done_exactly : ((session o files bytes).status ≡ Done)
      ↔ ((¬ IsOverlong o files bytes) × (¬ HasRefusal o files bytes))
  done_exactly = (
    λ is. (let (never, fine) = done_when (is_too_long o bytes)
        (last_progress o files bytes).has_quit
        (closed (last_progress o files bytes)).refused
        (sym (session_status o files bytes) ∙ is) in (
          not_overlong never,
          λ some. absurd
              (let no : true ≡ false = sym (refusal_exactly.1 some) ∙ fine in cc),
        )),
    λ (never, none). session_status o files bytes
        ∙ ended_when (is_too_long o bytes) (last_progress o files bytes).has_quit
        (closed (last_progress o files bytes)).refused (overlong_not never)
        ∙ ap status_at_end (not_false (closed (last_progress o files bytes)).refused
        (λ is. none (refusal_exactly.0 is))),
  )

-- ---- quit

quit_session : (o : Setup) (files : Option Files) (bytes : List ℕ)
    → (last_progress o files bytes).has_quit ≡ true
    → session o files bytes ≡ finished (last_progress o files bytes)
unfolding session
quit_session o files bytes quit =
    let p : Progress = last_progress o files bytes in
    elim (is_too_long o bytes) as
    (λ b. cond {A = Outcome} b (overlong p) (finished (closed p)) ≡ finished p) [
      | true ↦ ap (λ v. cond {A = Outcome} v (finished p)
          (record { text = p.text; files = p.files; status = TooLong })) quit
      | false ↦ ap (λ v. finished (cond {A = Progress} v p (ended p))) quit
    ]

pub quit_ends : (o : Setup) (files : Option Files) (bytes : List ℕ) (before : List Line)
    (line : Line) → IsLine o files bytes before line None (Ok command.Quit)
    → EndsBehind o files bytes before
quit_ends o files bytes before line is =
    let r : Progress = progress o files before in
    let does = effect_next o r line command.Quit
    (next_line o files bytes before line command.Quit is) in
    let pushed : progress o files (before ++ line ∷ []) ≡ answered o r line =
    progress_push o files before line ∙ after_answered o r line is.running in
    let quits : (progress o files (before ++ line ∷ [])).has_quit ≡ true =
    ap (λ (x : Progress). x.has_quit) pushed ∙ ap is_quit is.reads in
    let last : last_progress o files bytes ≡ answered o r line =
    ap (progress o files) (is.script ∙ sym (append_assoc before (line ∷ []) is.behind))
    ∙ progress_behind_quit o files (before ++ line ∷ []) is.behind quits ∙ pushed in
    let whole : session o files bytes ≡ finished (answered o r line) =
    quit_session o files bytes (ap (λ (x : Progress). x.has_quit) (last ∙ sym pushed) ∙ quits)
    ∙ ap finished last in
    record {
      text = ap (λ (a : Outcome). a.text) whole
          ∙ ap (λ (e : Effect). r.text ++ text_of e.reply) does ∙ append-nil r.text;
      files = ap (λ (a : Outcome). a.files) whole
          ∙ ap (λ (e : Effect). stored r.files e.saving) does;
    }
