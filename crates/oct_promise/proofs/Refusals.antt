-- That a line which is refused changes nothing.
use Rattle.std.proofs.Common.{◌≡◌, ℕ, ◌+◌, List, [], ◌∷◌, ◌++◌, true, false, cond, Option, Some}
use Rattle.std.proofs.Common.{None, Result, refl, ap, ◌∙◌, append-nil}
use Rattle.oct_io.specs.Files.{Files}
use Rattle.oct_script.specs.Lines.{Line}
use Rattle.oct_script.specs.declared.command.Command.{Command}
use Rattle.oct_script.specs.declared.reply.Refusal.{Refusal}
use Rattle.oct_script.specs.declared.reply.Reply.{Reply}
use Rattle.oct_script.specs.declared.reply.Reply.TheVariants.{Refused}
use Rattle.oct_session.specs.Commands.{Saving, reply, action_of, saving_of, accepted}
use Rattle.oct_session.specs.Commands.{accepted_saving, stored}
use Rattle.oct_session.specs.History.{History, State, state_after}
use Rattle.oct_session.specs.ScanBlock.{opened, with_line, is_end, block_reply, block_action}
use Rattle.oct_session.specs.Session.{Progress, Effect, effect, effect_of, effect_opened, replied}
use Rattle.oct_session.specs.Session.{silent, next_command, progress}
use Rattle.oct_session.specs.Setup.{Setup}
use Rattle.oct_session.specs.declared.scan_block.ScanBlock.{ScanBlock}
use Rattle.oct_session.proofs.Progresses.{progress_push, after_answered}
use Rattle.oct_promise.specs.Lines.{IsLine, Replies, state_behind}
use Rattle.oct_promise.proofs.Telling.{line_replied}

-- where its reply is a refusal, it does nothing
abbrev IsKept : Effect → Type 0
IsKept e = (r : Refusal) → e.reply ≡ Some (Refused r) → (e.added ≡ []) × (e.saving ≡ None)

replied_kept : (answer : Option Reply) (actions : History) (saving : Option Saving)
    → IsKept (replied answer actions saving)
replied_kept answer actions saving r is = (
  ap (λ (x : Option Reply). accepted x actions) is,
  ap (λ (x : Option Reply). accepted_saving x saving) is,
)

silent_kept : (block : ScanBlock) → IsKept (silent block)
silent_kept block r is = (refl, refl)

opened_kept : (files : Option Files) (s : State) (c : Result Command Refusal)
    (block : Option ScanBlock) → IsKept (effect_opened files s c block)
opened_kept files s c None = replied_kept (reply files s c) (action_of files s c) (saving_of s c)
opened_kept files s c (Some block) = silent_kept block

effect_kept : (files : Option Files) (s : State) (number : ℕ) (line : Line)
    (c : Result Command Refusal) (block : Option ScanBlock)
    → IsKept (effect files s number line c block)
effect_kept files s number line c None = opened_kept files s c (opened number line c)
effect_kept files s number line c (Some block) =
    elim (is_end c) as (λ b. IsKept
    (cond {A = Effect} b (replied (block_reply s block) (block_action block) None)
    (silent (with_line number c block)))) [
      | true ↦ replied_kept (block_reply s block) (block_action block) None
      | false ↦ silent_kept (with_line number c block)
    ]

-- a line that is refused leaves state and files, and its refusal is in the answer
pub refusal_keeps : (o : Setup) (files : Option Files) (bytes : List ℕ) (before : List Line)
    (line : Line) (block : Option ScanBlock) (c : Result Command Refusal) (r : Refusal)
    → IsLine o files bytes before line block c
    → (effect_of o (progress o files before) line).reply ≡ Some (Refused r)
    → Replies o files bytes before (Refused r)
    × (state_behind o files (before ++ line ∷ []) ≡ state_behind o files before)
    × ((progress o files (before ++ line ∷ [])).files ≡ (progress o files before).files)
refusal_keeps o files bytes before line block c r is answer =
    let p : Progress = progress o files before in
    let kept = effect_kept p.files (state_after o p.history) (p.line_count + 1) line
    (next_command p line) p.block r answer in
    let after = progress_push o files before line ∙ after_answered o p line is.running in (
      line_replied o files bytes before line block c (Refused r) is answer,
      ap (λ (x : Progress). state_after o x.history) after
          ∙ ap (λ (h : History). state_after o (p.history ++ h)) kept.0
          ∙ ap (state_after o) (append-nil p.history),
      ap (λ (x : Progress). x.files) after ∙ ap (stored p.files) kept.1,
    )
