-- Lines that change nothing.
use Rattle.std.proofs.Common.{◌≡◌, ℕ, ◌+◌, [], ◌++◌, true, false, cond, Option, Some, None}
use Rattle.std.proofs.Common.{Result, Ok, Err, refl, ap, subst, ◌∙◌, arith, append-nil}
use Rattle.oct_io.specs.Files.{Files}
use Rattle.oct_script.specs.Lines.{Line}
use Rattle.oct_script.specs.Replies.{is_refusal}
use Rattle.oct_script.specs.declared.command.Command.{Command}
use Rattle.oct_script.specs.declared.reply.Refusal.{Refusal}
use Rattle.oct_script.specs.declared.reply.Reply.{Reply}
use Rattle.oct_session.specs.Commands.{question_action, question_changes, kind_action, kind_work}
use Rattle.oct_session.specs.Commands.{kind_changes, may_change, reply, action_of, asked_of}
use Rattle.oct_session.specs.Commands.{saving_by, saving_of, named_in, asks_for, file_named}
use Rattle.oct_session.specs.Commands.{accepted, stored}
use Rattle.oct_session.specs.History.{History, State, state_after}
use Rattle.oct_session.specs.Kinds.{Kind, kind_of, Nothing, Opens, Adds, Closes, Orders, Names}
use Rattle.oct_session.specs.Kinds.{Asks as AsksMap}
use Rattle.oct_session.specs.Leaving.{Desk, IsLike, IsLikeAfter}
use Rattle.oct_session.specs.ScanBlock.{opened, does_close, is_end}
use Rattle.oct_session.specs.Session.{Progress, Effect, effect, effect_inside, effect_of_command}
use Rattle.oct_session.specs.Session.{unless_opened, next_command, after_line}
use Rattle.oct_session.specs.Setup.{Setup}
use Rattle.oct_session.specs.Standing.{IsIdle}
use Rattle.oct_session.specs.declared.kinds.Question.{Question}
use Rattle.oct_session.specs.declared.kinds.Question.TheVariants as question
use Rattle.oct_session.specs.declared.scan_block.ScanBlock.{ScanBlock}
use Rattle.oct_session.proofs.Effects.{saves_none}
use Rattle.oct_session.proofs.Progresses.{after_answered, asks_next}

-- at first nothing was done
pub idle_none : (p : Progress) → IsIdle p p
idle_none p = record { history = refl; files = refl; asks = refl }

-- nothing was done, and nothing after that
pub idle_twice : (p q r : Progress) → IsIdle p q → IsIdle q r → IsIdle p r
idle_twice p q r one two = record {
  history = two.history ∙ one.history;
  files = two.files ∙ one.files;
  asks = two.asks ∙ one.asks;
}

-- a desk after nothing was done
pub like_idle : (o : Setup) (d : Desk) (p q : Progress) → IsIdle p q → IsLikeAfter o q d
    → IsLikeAfter o p d
like_idle o d p q idle like =
    subst (λ (f : Option Files). IsLike f (state_after o p.history) d.map d.store.files) idle.files
    (subst (λ (h : History). IsLike q.files (state_after o h) d.map d.store.files) idle.history
    like)

idle_question : (q : Question) → question_changes q ≡ false → question_action q ≡ []
idle_question (question.Get p depth) same = refl
idle_question (question.List lo hi depth) same = refl
idle_question (question.Cast origin end ignore) same = refl
idle_question question.Counts same = cc
idle_question question.Changes same = refl

-- what does a command that changes nothing adds nothing to the history
idle_action : (files : Option Files) (s : State) (k : Kind) → kind_changes k ≡ false
    → kind_action files s k ≡ []
idle_action files s (Orders order) same = cc
idle_action files s (AsksMap question) same = idle_question question same
idle_action files s (Names verb name) same = cc
idle_action files s Closes same = cc
idle_action files s Nothing same = refl
idle_action files s (Opens head) same = refl
idle_action files s (Adds p) same = refl

-- and asks nothing of the files
idle_work : (k : Kind) → kind_changes k ≡ false → kind_work k ≡ None
idle_work (Orders order) same = refl
idle_work (AsksMap question) same = refl
idle_work (Names verb name) same = cc
idle_work Closes same = refl
idle_work Nothing same = refl
idle_work (Opens head) same = refl
idle_work (Adds p) same = refl

idle_open : (k : Kind) → kind_changes k ≡ false → does_close k ≡ false
idle_open (Orders order) same = refl
idle_open (AsksMap question) same = refl
idle_open (Names verb name) same = refl
idle_open Closes same = cc
idle_open Nothing same = refl
idle_open (Opens head) same = refl
idle_open (Adds p) same = refl

idle_asked : (c : Result Command Refusal) → may_change c ≡ false → asked_of c ≡ None
idle_asked (Ok command) same = idle_work (kind_of command) same
idle_asked (Err refusal) same = refl

-- the store isn't asked for it
pub idle_unasked : (c d : Result Command Refusal) → c ≡ d → may_change d ≡ false
    → asks_for (file_named c) ≡ 0
idle_unasked c d is same = ap (λ x. asks_for (file_named x)) is
    ∙ ap (λ w. asks_for (named_in w)) (idle_asked d same)

idle_end : (c : Result Command Refusal) → may_change c ≡ false → is_end c ≡ false
idle_end (Ok command) same = idle_open (kind_of command) same
idle_end (Err refusal) same = refl

idle_added : (files : Option Files) (s : State) (c : Result Command Refusal)
    → may_change c ≡ false → action_of files s c ≡ []
idle_added files s (Ok command) same = idle_action files s (kind_of command) same
idle_added files s (Err refusal) same = refl

accepted_none : (r : Option Reply) (actions : History) → actions ≡ [] → accepted r actions ≡ []
accepted_none r actions none =
    elim (is_refusal r) as (λ b. cond {A = History} b [] actions ≡ []) [
      | true ↦ refl
      | false ↦ none
    ]

-- an effect that adds nothing to the history, and saves nothing
abbrev IsQuiet : Effect → Type 0
IsQuiet e = (e.added ≡ []) × (e.saving ≡ None)

quiet_opened : (e : Effect) (block : Option ScanBlock) → IsQuiet e
    → IsQuiet (unless_opened e block)
quiet_opened e None quiet = quiet
quiet_opened e (Some block) quiet = (refl, refl)

quiet_inside : (s : State) (number : ℕ) (c : Result Command Refusal) (block : ScanBlock)
    → is_end c ≡ false → IsQuiet (effect_inside s number c block)
quiet_inside s number c block goes_on = rw goes_on (refl, refl)

-- a line of such a command, inside a block or outside
quiet_line : (files : Option Files) (s : State) (number : ℕ) (line : Line)
    (c : Result Command Refusal) (block : Option ScanBlock) → may_change c ≡ false
    → IsQuiet (effect files s number line c block)
quiet_line files s number line c None same =
    quiet_opened (effect_of_command files s c) (opened number line c) (
      accepted_none (reply files s c) (action_of files s c) (idle_added files s c same),
      saves_none (reply files s c) (saving_of s c) (ap (saving_by s) (idle_asked c same)),
    )
quiet_line files s number line c (Some block) same =
    quiet_inside s number c block (idle_end c same)

-- a line that changes nothing, behind others
pub idle_line : (o : Setup) (p : Progress) (line : Line) → p.has_quit ≡ false
    → may_change (next_command p line) ≡ false → IsIdle p (after_line o p line)
idle_line o p line running same =
    let after = after_answered o p line running in
    let quiet = quiet_line p.files (state_after o p.history) (p.line_count + 1) line
    (next_command p line) p.block same in
    record {
      history = ap (λ (x : Progress). x.history) after ∙ ap (λ h. p.history ++ h) quiet.0
          ∙ append-nil p.history;
      files = ap (λ (x : Progress). x.files) after ∙ ap (stored p.files) quiet.1;
      asks = omega (
        arith,
        asks_next o p line running,
        ap (λ w. asks_for (named_in w)) (idle_asked (next_command p line) same),
      );
    }
