-- A load gives back the classes that the save of the same name wrote.
use Rattle.std.proofs.Common.{◌≡◌, ℕ, ◌+◌, ◌≤◌, List, [], ◌∷◌, Bool, true, false, cond}
use Rattle.std.proofs.Common.{Option, Some, None, IsSome, Result, Ok, Err, refl, sym, ap, subst}
use Rattle.std.proofs.Common.{◌∙◌, arith}
use Rattle.std.specs.Prelude.{int_lt, pos, ◌≤ℤ◌, ◌<ℤ◌, ⊤}
use Rattle.std.proofs.lemmas.Bool.{eq-eqb, le-ltb}
use Rattle.std.proofs.lemmas.Int.{ints}
use Rattle.oct_bt.specs.Canonical.{canonical_data, canonical_size}
use Rattle.oct_bt.specs.Classes.{value_for}
use Rattle.oct_bt.specs.DataClasses.{data_classes}
use Rattle.oct_bt.specs.File.{FileRead, reading}
use Rattle.oct_bt.specs.Records.{record_total}
use Rattle.oct_bt.proofs.DataClassed.{data_classed}
use Rattle.oct_bt.proofs.FilesBack.{file_back}
use Rattle.oct_bt.proofs.Standing.{one_meaning, canonical_stands, canonical_accepted}
use Rattle.oct_io.specs.Files.{Files}
use Rattle.oct_io.specs.declared.store.Loaded.TheVariants.{Bytes}
use Rattle.oct_key.specs.Voxel.{Voxel, IsInMap, IsResolution}
use Rattle.oct_map.specs.Ground.{Ground}
use Rattle.oct_map.specs.Loads.{load_answer, fresh_room_answer}
use Rattle.oct_map.specs.declared.fault.MapFault.{MapFault}
use Rattle.oct_map.specs.declared.fault.MapFault.TheVariants as fault
use Rattle.oct_odds.specs.Odds.{Odds, IsSound}
use Rattle.oct_odds.specs.Update.{Value, class_of}
use Rattle.oct_odds.specs.declared.event.Class.{Class}
use Rattle.oct_odds.specs.declared.event.Class.TheVariants.{Unknown, Free, Occupied}
use Rattle.oct_script.specs.Lines.{Line}
use Rattle.oct_script.specs.declared.command.Command.TheVariants as command
use Rattle.oct_script.specs.declared.reply.Reply.{Reply}
use Rattle.oct_script.specs.declared.reply.Reply.TheVariants as reply_of
use Rattle.oct_values.specs.Classes.{Classes}
use Rattle.oct_values.specs.Counts.{group_count}
use Rattle.oct_values.specs.Events.{after_event}
use Rattle.oct_session.specs.Commands.{accepted, stored}
use Rattle.oct_session.specs.FileCommands.{found_in, classes_file, load_reply, load_action}
use Rattle.oct_session.specs.FileCommands.{reading_reply, reading_action, nodes_reply}
use Rattle.oct_promise.specs.GivenBack.{TwoLines, up_to_second, AreSaveAndLoad, LoadsBack}
use Rattle.oct_promise.specs.Lines.{classes_in}
use Rattle.oct_promise.specs.Promise.{IsLoaded}
use Rattle.oct_promise.specs.States.{IsSetUp}
use Rattle.oct_session.specs.History.{State, Replaced, class_event, after, after_all, state_after}
use Rattle.oct_session.specs.History.{value_after}
use Rattle.oct_session.specs.Setup.{IsLimited}
use Rattle.oct_session.specs.Session.{Progress, Effect, effect, effect_of, after_line, start}
use Rattle.oct_session.specs.Session.{progress}
use Rattle.oct_session.specs.Setup.{Setup}
use Rattle.oct_promise.proofs.Fitting.{groups_within}
use Rattle.oct_promise.proofs.GivenBack.{file_in, saved_there, effect_next}
use Rattle.oct_promise.proofs.GivenBack.{found_there, file_kept}
use Rattle.oct_session.proofs.MapHistory.{state_more, replaced_by}
use Rattle.oct_session.proofs.Progresses.{after_answered, told_fold}
use Rattle.oct_promise.proofs.SavedRecords.{records_few, file_few}
use Rattle.oct_promise.proofs.StateActions.{bound_within}
use Rattle.oct_promise.proofs.SoundOdds.{odds_stay_sound}
use Rattle.oct_promise.proofs.StateCommands.{res_of, most_of}
use Rattle.oct_promise.proofs.Telling.{IsNext, next_line, Does, told_and_left}

-- ---- values and classes

-- what a voxel of a class is given counts as that class
class_back : (o : Odds) → IsSound o → (c : Class) → class_of o (value_for o c) ≡ c
class_back o sound Unknown = refl
class_back o sound Free = by_test (int_lt o.min o.thr) refl
  where
    by_test : (t : Bool) → int_lt o.min o.thr ≡ t → cond {A = Class} t Free Occupied ≡ Free
    by_test true e = refl
    by_test false e = absurd
        (let low = sound.thr_within.0 in let no : o.thr ≤ℤ o.min = grind (arith, ints) in
        omega (arith, ints, low, no))
class_back o sound Occupied = by_test (int_lt o.max o.thr) refl
  where
    by_test : (t : Bool) → int_lt o.max o.thr ≡ t → cond {A = Class} t Free Occupied ≡ Occupied
    by_test true e = absurd (let high = sound.thr_within.1 in
        let no : o.max <ℤ o.thr = grind (arith, ints) in omega (arith, ints, high, no))
    by_test false e = refl

-- a load gives a voxel the value of its class
value_back : (o : Odds) → IsSound o → (c : Class) (was : Value)
    → after_event o (Some (class_event o c)) was ≡ value_for o c
value_back o sound c was = replaced_by o c was (value_for o c) refl (bound_within o sound c)

-- canonical data gives the voxels the classes whose data it is
pub data_back : (classes : Classes) (k : Voxel) → IsInMap k
    → data_classes (canonical_data classes) k ≡ classes k
data_back classes = one_meaning (data_classes (canonical_data classes)) classes
    (canonical_data classes)
    (data_classed (canonical_size classes) (canonical_data classes) (canonical_accepted classes))
    (canonical_stands classes)

-- ---- the file

-- the save writes the file of the state
written_there : (o : Setup) (p : Progress) (line : Line) (name : List ℕ)
    → IsNext p line (command.Save name) → IsSome p.files →
    file_in (after_line o p line).files name ≡ Some (classes_file (state_after o p.history))
written_there o p line name next told =
    ap (λ (x : Progress). file_in x.files name) (after_answered o p line next.running)
    ∙ ap (λ (e : Effect). file_in (stored p.files e.saving) name)
    (effect_next o p line (command.Save name) next)
    ∙ saved_there p.files (record { name = name; bytes = classes_file (state_after o p.history) })
    told

-- what it is read as
abbrev file_of : State → FileRead
file_of s = record {
  res = s.base.res;
  codes = canonical_data (classes_in s);
  nodes = canonical_size
      (classes_in s);
}

-- it is accepted where its resolution is that of the map, and the groups of its values are within
-- the limit
accepted_back : (s : State) (g : Ground) → s.base.res ≡ g.res → 1 ≤ g.max_groups
    → group_count s.values ≤ g.max_groups →
    load_answer g s.base.res (record_total (canonical_data (classes_in s))) ≡ Ok tt
accepted_back s g res some room =
    let long = records_few s.base.odds s.values g.max_groups some room in
    let few : record_total (canonical_data (classes_in s)) ≤ g.max_groups = omega (arith, long) in
    ap (λ b. cond {A = Result ⊤ MapFault} b
    (fresh_room_answer g.max_groups (record_total (canonical_data (classes_in s))))
    (Err (fault.OtherResolution (pos s.base.res) (pos g.res)))) (eq-eqb s.base.res g.res res)
    ∙ ap (λ b. cond {A = Result ⊤ MapFault} b
    (Err (fault.Full 0 (record_total (canonical_data (classes_in s))))) (Ok tt))
    (le-ltb g.max_groups (record_total (canonical_data (classes_in s))) few)

-- ---- the load

-- what a load of the file of a state does
record Loads (files : Option Files) (s t : State) (line : Line) (number : ℕ) (name : List ℕ) : Type
    0 where
  reply : (effect files t number line (Ok (command.Load name)) None).reply
      ≡ Some (reply_of.Loaded (canonical_size (classes_in s)))
  added : (effect files t number line (Ok (command.Load name)) None).added
      ≡ Replaced (data_classes (canonical_data (classes_in s))) ∷ []

loads : (files : Option Files) (s t : State) (line : Line) (number : ℕ) (name : List ℕ) →
    found_in files name ≡ Some (Bytes (classes_file s)) → reading (classes_file s) ≡ Ok (file_of s)
    → load_answer t.base s.base.res (record_total (canonical_data (classes_in s))) ≡ Ok tt →
    Loads files s t line number name
loads files s t line number name found read answer = all
  where
    reply_is : load_reply t.base (found_in files name)
        ≡ Some (reply_of.Loaded (canonical_size (classes_in s)))
    reply_is = ap (load_reply t.base) found ∙ ap (reading_reply t.base) read
        ∙ ap (nodes_reply (canonical_size (classes_in s))) answer

    action_is : load_action (found_in files name)
        ≡ Replaced (data_classes (canonical_data (classes_in s))) ∷ []
    action_is = ap load_action found ∙ ap reading_action read

    all : Loads files s t line number name
    all = record {
      reply = reply_is;
      added = ap (λ (r : Option Reply). accepted r (load_action (found_in files name))) reply_is
          ∙ action_is;
    }

-- the state after the load of these classes
pub classes_loaded : (t : State) (c : Classes) → IsSound t.base.odds
    → IsLoaded c t (after t (Replaced c))
classes_loaded t c sound = record {
  classes = λ k low. ap (class_of t.base.odds) (value_back t.base.odds sound (c k) (t.values k))
      ∙ class_back t.base.odds sound (c k);
  values = λ k low. value_back t.base.odds sound (c k) (t.values k);
  beside = (refl, refl, refl);
}

-- it has the classes of the other one
state_back : (s t : State) → IsSound t.base.odds
    → IsLoaded (classes_in s) t (after t (Replaced (data_classes (canonical_data (classes_in s)))))
state_back s t sound =
    let back = data_back (classes_in s) in
    let done = classes_loaded t (data_classes (canonical_data (classes_in s))) sound in record {
      classes = λ k low. done.classes k low ∙ back k low;
      values = λ k low. done.values k low ∙ ap (value_for t.base.odds) (back k low);
      beside = done.beside;
    }

loaded_back : (o : Setup) (p r : Progress) (line : Line) (name : List ℕ) → IsSetUp o → IsLimited o
    → IsSound (state_after o r.history).base.odds
    → group_count (value_after o p.history) ≤ o.max_groups →
    file_in r.files name ≡ Some (classes_file (state_after o p.history))
    → IsNext r line (command.Load name) →
    Does o r line (reply_of.Loaded (canonical_size (classes_in (state_after o p.history))))
    (IsLoaded (classes_in (state_after o p.history)) (state_after o r.history))
loaded_back o p r line name set limited sound few there next =
    let s : State = state_after o p.history in
    let t : State = state_after o r.history in
    let ok : IsResolution s.base.res = subst IsResolution (sym (res_of o p.history)) set.res in
    let most = most_of o r.history in
    let some = limited.some in
    let short = file_few s.base.odds s.values s.base.res o.max_groups ok (omega (arith, some))
    limited.few few in
    let answer = accepted_back s t.base (res_of o p.history ∙ sym (res_of o r.history))
    (omega (arith, most, some)) (subst (λ n. group_count s.values ≤ n) (sym most) few) in
    let done = loads r.files s t line (r.line_count + 1) name
    (found_there r.files name (classes_file s) there short) (file_back s.base.res (classes_in s) ok)
    answer in
    let replied : (effect_of o r line).reply
    ≡ Some (reply_of.Loaded (canonical_size (classes_in s))) =
    ap (λ (e : Effect). e.reply) (effect_next o r line (command.Load name) next) ∙ done.reply in
    let added : (effect_of o r line).added
    ≡ Replaced (data_classes (canonical_data (classes_in s))) ∷ [] =
    ap (λ (e : Effect). e.added) (effect_next o r line (command.Load name) next) ∙ done.added in
    let ends : state_after o (after_line o r line).history
    ≡ after t (Replaced (data_classes (canonical_data (classes_in s)))) =
    ap (λ (x : Progress). state_after o x.history) (after_answered o r line next.running)
    ∙ state_more o r.history (effect_of o r line).added
    ∙ ap (after_all t) added in
    record {
      answer = replied;
      state = subst (IsLoaded (classes_in s) t) (sym ends) (state_back s t sound);
    }

-- the law
pub load_gives_back : (o : Setup) → IsSetUp o → IsLimited o → (files : Files)
    (bytes name : List ℕ) (t : TwoLines) → AreSaveAndLoad o files bytes name t
    → LoadsBack o files bytes t
load_gives_back o set limited files bytes name t given =
    let p : Progress = progress o (Some files) t.before in
    let r : Progress = progress o (Some files) (up_to_second t) in
    let written = written_there o p t.first name
    (next_line o (Some files) bytes t.before t.first (command.Save name) given.writes)
    (told_fold o (start (Some files)) t.before refl) in
    let there = file_kept o files bytes name (classes_file (state_after o p.history)) t
    (command.Save name) (command.Load name) given written in
    let sound = odds_stay_sound o (Some files) (up_to_second t) set.odds in
    let does = loaded_back o p r t.second name set limited sound
    (groups_within o (Some files) t.before) there
    (next_line o (Some files) bytes (up_to_second t) t.second (command.Load name) given.reads) in
    let done = told_and_left o (Some files) bytes (up_to_second t) t.second None
    (Ok (command.Load name))
    (reply_of.Loaded (canonical_size (classes_in (state_after o p.history))))
    (IsLoaded (classes_in (state_after o p.history)) (state_after o r.history)) given.reads does in
    record { told = done.0; left = done.1 }
