-- That a question changes nothing, and `counts` but prunes.
use Rattle.std.proofs.Common.{◌≡◌, ℕ, ◌+◌, List, [], ◌∷◌, ◌++◌, true, false, cond, Option, None, Ok}
use Rattle.std.proofs.Common.{refl, ap, ◌∙◌}
use Rattle.oct_io.specs.Files.{Files}
use Rattle.oct_script.specs.Lines.{Line}
use Rattle.oct_script.specs.Replies.{is_refusal}
use Rattle.oct_script.specs.declared.command.Command.{Command}
use Rattle.oct_script.specs.declared.command.Command.TheVariants as command
use Rattle.oct_script.specs.declared.reply.Reply.{Reply}
use Rattle.oct_session.specs.Commands.{Saving, accepted, accepted_saving, stored}
use Rattle.oct_session.specs.Commands.{reply as reply_to}
use Rattle.oct_session.specs.History.{History, State, Pruned, after_all, state_after}
use Rattle.oct_session.specs.Session.{Progress, Effect, effect, effect_of, progress}
use Rattle.oct_session.specs.Setup.{Setup}
use Rattle.oct_session.proofs.MapHistory.{state_more}
use Rattle.oct_session.proofs.Progresses.{progress_push, after_answered}
use Rattle.oct_promise.specs.Edits.{IsPruned}
use Rattle.oct_promise.specs.Lines.{IsLine, state_behind}
use Rattle.oct_promise.specs.Listed.{IsQuestion}
use Rattle.oct_promise.proofs.GivenBack.{effect_next}
use Rattle.oct_promise.proofs.Telling.{next_line}

nothing : (r : Option Reply) → accepted r [] ≡ []
nothing r = elim (is_refusal r) as (λ b. cond {A = History} b [] [] ≡ []) [
  | true ↦ refl
  | false ↦ refl
]

unsaved : (r : Option Reply) → accepted_saving r None ≡ None
unsaved r = elim (is_refusal r) as (λ b. cond {A = Option Saving} b None None ≡ None) [
  | true ↦ refl
  | false ↦ refl
]

-- what does this adds these actions, and saves nothing
abbrev DoesOnly : Effect → History → Type 0
DoesOnly e actions = (e.added ≡ actions) × (e.saving ≡ None)

module _ (files : Option Files) (s : State) (number : ℕ) (line : Line) where
  asks_only : (c : Command) → IsQuestion c → DoesOnly (effect files s number line (Ok c) None) []
  asks_only (command.Get p depth) is =
      (nothing (reply_to files s (Ok (command.Get p depth))), unsaved _)
  asks_only (command.List from to depth) is =
      (nothing (reply_to files s (Ok (command.List from to depth))), unsaved _)
  asks_only (command.Cast from to ignore) is =
      (nothing (reply_to files s (Ok (command.Cast from to ignore))), unsaved _)
  asks_only command.Changes is = (nothing (reply_to files s (Ok command.Changes)), unsaved _)
  asks_only other is = absurd is

module _ (o : Setup) (files : Option Files) (bytes : List ℕ) (before : List Line)
    (line : Line) where
  left_by : (c : Command) (actions : History)
      → IsLine o files bytes before line None (Ok c)
      → DoesOnly (effect (progress o files before).files (state_behind o files before)
      ((progress o files before).line_count + 1) line (Ok c) None) actions
      → (state_behind o files (before ++ line ∷ [])
      ≡ after_all (state_behind o files before) actions)
      × ((progress o files (before ++ line ∷ [])).files ≡ (progress o files before).files)
  left_by c actions is does =
      let p : Progress = progress o files before in
      let next = effect_next o p line c (next_line o files bytes before line c is) in
      let pushed = progress_push o files before line ∙ after_answered o p line is.running in (
        ap (λ (x : Progress). state_after o x.history) pushed
            ∙ state_more o p.history (effect_of o p line).added
            ∙ ap (after_all (state_behind o files before))
            (ap (λ (e : Effect). e.added) next ∙ does.0),
        ap (λ (x : Progress). x.files) pushed
            ∙ ap (stored p.files) (ap (λ (e : Effect). e.saving) next ∙ does.1),
      )

  pub question_rests : (c : Command) → IsQuestion c → IsLine o files bytes before line None (Ok c)
      → (state_behind o files (before ++ line ∷ []) ≡ state_behind o files before)
      × ((progress o files (before ++ line ∷ [])).files ≡ (progress o files before).files)
  question_rests c asks is = left_by c [] is (asks_only (progress o files before).files
      (state_behind o files before) ((progress o files before).line_count + 1) line c asks)

  pub counts_prunes : IsLine o files bytes before line None (Ok command.Counts)
      → IsPruned (state_behind o files before) (state_behind o files (before ++ line ∷ []))
      × ((progress o files (before ++ line ∷ [])).files ≡ (progress o files before).files)
  counts_prunes is = left_by command.Counts (Pruned ∷ []) is (refl, refl)
