-- What a save and a snapshot write.
use Rattle.std.proofs.Common.{◌≡◌, ℕ, ◌+◌, List, [], ◌++◌, Some, None, Ok, length, refl}
use Rattle.std.proofs.Common.{ap, ◌∙◌, append-nil}
use Rattle.oct_io.specs.Files.{Files}
use Rattle.oct_script.specs.Lines.{Line}
use Rattle.oct_script.specs.declared.command.Command.{Command}
use Rattle.oct_script.specs.declared.command.Command.TheVariants as command
use Rattle.oct_script.specs.declared.reply.Reply.TheVariants.{Saved}
use Rattle.oct_session.specs.Commands.{stored}
use Rattle.oct_session.specs.FileCommands.{classes_file, snapshot_file}
use Rattle.oct_session.specs.History.{state_after}
use Rattle.oct_session.specs.Session.{Progress, Effect, effect, effect_of, progress}
use Rattle.oct_session.specs.Setup.{Setup}
use Rattle.oct_session.proofs.Progresses.{progress_push, after_answered}
use Rattle.oct_promise.specs.GivenBack.{WritesFile}
use Rattle.oct_promise.specs.Lines.{IsLine, state_behind}
use Rattle.oct_promise.proofs.GivenBack.{effect_next}
use Rattle.oct_promise.proofs.Telling.{next_line, line_replied}

-- what a line does that writes this file under this name
abbrev writing : List ℕ → List ℕ → Effect
writing name file = record {
  reply = Some (Saved (length file));
  added = [];
  saving = Some (record { name = name; bytes = file });
  block = None;
}

-- a command of which the effect is that
writes : (o : Setup) (files : Files) (bytes : List ℕ) (before : List Line) (line : Line)
    (name file : List ℕ) (c : Command) → IsLine o (Some files) bytes before line None (Ok c)
    → effect (progress o (Some files) before).files (state_behind o (Some files) before)
    ((progress o (Some files) before).line_count + 1) line (Ok c) None ≡ writing name file
    → WritesFile o files bytes before line name file
writes o files bytes before line name file c is does =
    let p : Progress = progress o (Some files) before in
    let all : effect_of o p line ≡ writing name file =
    effect_next o p line c (next_line o (Some files) bytes before line c is) ∙ does in
    let after = progress_push o (Some files) before line ∙ after_answered o p line is.running in
    record {
      told =
          line_replied o (Some files) bytes before line None (Ok c) (Saved (length file)) is
          (ap (λ (e : Effect). e.reply) all);
      written =
          ap (λ (x : Progress). x.files) after ∙ ap (λ (e : Effect). stored p.files e.saving) all;
      state =
          ap (λ (x : Progress). state_after o x.history) after
          ∙ ap (λ (e : Effect). state_after o (p.history ++ e.added)) all
          ∙ ap (state_after o) (append-nil p.history);
    }

pub save_writes : (o : Setup) (files : Files) (bytes : List ℕ) (before : List Line) (line : Line)
    (name : List ℕ) → IsLine o (Some files) bytes before line None (Ok (command.Save name))
    → WritesFile o files bytes before line name (classes_file (state_behind o (Some files) before))
save_writes o files bytes before line name is =
    writes o files bytes before line name (classes_file (state_behind o (Some files) before))
    (command.Save name) is refl

pub snapshot_writes : (o : Setup) (files : Files) (bytes : List ℕ) (before : List Line)
    (line : Line) (name : List ℕ)
    → IsLine o (Some files) bytes before line None (Ok (command.Snapshot name))
    → WritesFile o files bytes before line name
    (snapshot_file (state_behind o (Some files) before))
snapshot_writes o files bytes before line name is =
    writes o files bytes before line name (snapshot_file (state_behind o (Some files) before))
    (command.Snapshot name) is refl
