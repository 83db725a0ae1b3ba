-- A load of any file that isn't refused.
use Rattle.std.proofs.Common.{◌≡◌, ℕ, List, [], ◌∷◌, Option, Some, None, Result, Ok, Err}
use Rattle.std.proofs.Common.{refl, sym, ap, subst, ◌∙◌}
use Rattle.std.specs.Prelude.{⊤, option_map}
use Rattle.oct_bt.specs.DataClasses.{data_classes}
use Rattle.oct_bt.specs.File.{FileRead, reading}
use Rattle.oct_bt.specs.Records.{record_total}
use Rattle.oct_bt.specs.declared.fault.BtFault.{BtFault}
use Rattle.oct_io.specs.Files.{Files}
use Rattle.oct_io.specs.declared.store.Loaded.{Loaded}
use Rattle.oct_io.specs.declared.store.Loaded.TheVariants.{Bytes, Missing, TooLarge}
use Rattle.oct_map.specs.Ground.{Ground}
use Rattle.oct_map.specs.Loads.{load_answer}
use Rattle.oct_map.specs.declared.fault.MapFault.{MapFault}
use Rattle.oct_script.specs.Lines.{Line}
use Rattle.oct_script.specs.Replies.{file_refusal}
use Rattle.oct_script.specs.declared.command.Command.TheVariants as command
use Rattle.oct_script.specs.declared.reply.Refusal.{Refusal}
use Rattle.oct_script.specs.declared.reply.Reply.{Reply}
use Rattle.oct_script.specs.declared.reply.Reply.TheVariants as reply_of
use Rattle.oct_values.specs.Classes.{Classes}
use Rattle.oct_session.specs.Commands.{accepted}
use Rattle.oct_session.specs.FileCommands.{found_in, load_reply, load_action, reading_reply}
use Rattle.oct_session.specs.FileCommands.{reading_action, nodes_reply}
use Rattle.oct_session.specs.History.{State, Replaced, after, after_all, state_after}
use Rattle.oct_session.specs.Refusals.{refusal_of}
use Rattle.oct_session.specs.Session.{Progress, Effect, effect_of, after_line, progress}
use Rattle.oct_session.specs.Setup.{Setup}
use Rattle.oct_session.proofs.MapHistory.{state_more}
use Rattle.oct_session.proofs.Progresses.{after_answered}
use Rattle.oct_promise.specs.GivenBack.{LoadsFile}
use Rattle.oct_promise.specs.Lines.{IsLine}
use Rattle.oct_promise.specs.Promise.{IsLoaded}
use Rattle.oct_promise.specs.States.{IsSetUp}
use Rattle.oct_promise.proofs.GivenBack.{effect_next}
use Rattle.oct_promise.proofs.LoadedBack.{classes_loaded}
use Rattle.oct_promise.proofs.SoundOdds.{odds_stay_sound}
use Rattle.oct_promise.proofs.Telling.{next_line, told_and_left}

-- ---- what was read

loaded_apart : (r : Option Refusal) (nodes : ℕ)
    → option_map reply_of.Refused r ≡ Some (reply_of.Loaded nodes) → ⊥
loaded_apart None nodes is = cc
loaded_apart (Some r) nodes is = cc

nodes_told : (count nodes : ℕ) (answer : Result ⊤ MapFault)
    → nodes_reply count answer ≡ Some (reply_of.Loaded nodes) → nodes ≡ count
nodes_told count nodes (Ok done) is = cc
nodes_told count nodes (Err fault) is = absurd (loaded_apart (refusal_of fault) nodes is)

file_read : (g : Ground) (read : Result FileRead BtFault) (nodes : ℕ)
    → reading_reply g read ≡ Some (reply_of.Loaded nodes)
    → (file : FileRead) × (read ≡ Ok file) × (nodes ≡ file.nodes)
file_read g (Err fault) nodes is = absurd (loaded_apart (file_refusal fault) nodes is)
file_read g (Ok file) nodes is =
    (file, refl, nodes_told file.nodes nodes (load_answer g file.res (record_total file.codes)) is)

-- the file that was found
pub record IsFound (found : Option Loaded) (nodes : ℕ) : Type 0 where
  pub bytes : List ℕ
  pub there : found ≡ Some (Bytes bytes)
  pub file : FileRead
  pub read : reading bytes ≡ Ok file
  pub counted : nodes ≡ file.nodes

pub found_file : (g : Ground) (found : Option Loaded) (nodes : ℕ)
    → load_reply g found ≡ Some (reply_of.Loaded nodes) → IsFound found nodes
found_file g None nodes is = absurd cc
found_file g (Some Missing) nodes is = absurd cc
found_file g (Some TooLarge) nodes is = absurd cc
found_file g (Some (Bytes bytes)) nodes is =
    let (file, read, counted) = file_read g (reading bytes) nodes is in record {
      bytes = bytes;
      there = refl;
      file = file;
      read = read;
      counted = counted;
    }

-- what is done with it
pub action_found : {found : Option Loaded} {nodes : ℕ} (it : IsFound found nodes)
    → load_action found ≡ Replaced (data_classes it.file.codes) ∷ []
action_found it = ap load_action it.there ∙ ap reading_action it.read

-- ---- the line

pub file_loaded : (o : Setup) → IsSetUp o → (files : Option Files) (bytes : List ℕ)
    (before : List Line) (line : Line) (name : List ℕ) (nodes : ℕ)
    → IsLine o files bytes before line None (Ok (command.Load name))
    → (effect_of o (progress o files before) line).reply ≡ Some (reply_of.Loaded nodes)
    → LoadsFile o files before line name nodes
file_loaded o set files bytes before line name nodes is answer =
    let r : Progress = progress o files before in
    let t : State = state_after o r.history in
    let does = effect_next o r line (command.Load name)
    (next_line o files bytes before line (command.Load name) is) in
    let told : load_reply t.base (found_in r.files name) ≡ Some (reply_of.Loaded nodes) =
    ap (λ (e : Effect). e.reply) (sym does) ∙ answer in
    let it = found_file t.base (found_in r.files name) nodes told in
    let c : Classes = data_classes it.file.codes in
    let added : (effect_of o r line).added ≡ Replaced c ∷ [] =
    ap (λ (e : Effect). e.added) does
    ∙ ap (λ (x : Option Reply). accepted x (load_action (found_in r.files name))) told
    ∙ action_found it in
    let leaves : state_after o (after_line o r line).history ≡ after t (Replaced c) =
    ap (λ (x : Progress). state_after o x.history) (after_answered o r line is.running)
    ∙ state_more o r.history (effect_of o r line).added ∙ ap (after_all t) added in
    record {
      bytes = it.bytes;
      found = it.there;
      file = it.file;
      read = it.read;
      counted = it.counted;
      left = (told_and_left o files bytes before line None (Ok (command.Load name))
          (reply_of.Loaded nodes) (IsLoaded c t) is (record {
            answer = answer;
            state = subst (IsLoaded c t) (sym leaves)
                (classes_loaded t c (odds_stay_sound o files before set.odds));
          })).1;
    }
