-- What a load or a restore answers, and what map and files then are; and what a save leaves.
use Rattle.std.proofs.Common.{◌≡◌, ◌+◌, ◌≤◌, ℕ, List, [], MutBor, Bool, true, false, cond, length}
use Rattle.std.proofs.Common.{Option, Some, None, IsSome, Result, Ok, Err, IfOk, IfSome, IsErr}
use Rattle.std.proofs.Common.{IsErrAnd, inl, inr, refl, sym, ap, subst, ◌∙◌}
use Rattle.std.specs.Prelude.{⊤, pos, nat_eq, nat_lt, option_map, ◌++◌}
use Rattle.oct_bt.specs.declared.fault.BtFault.{BtFault}
use Rattle.oct_bt.specs.Canonical.{canonical_size, node_total}
use Rattle.oct_bt.specs.File.{FileRead, reading, bt_text, header_text}
use Rattle.oct_tree.specs.Classes.{classes_in}
use Rattle.oct_bt.specs.Records.{record_total}
use Rattle.oct_bt.proofs.Injective.{same_data}
use Rattle.oct_io.specs.Counts.{IsAskCounted}
use Rattle.oct_io.specs.Files.{Files, KeepsOthers, saved}
use Rattle.oct_io.specs.Loaded.{loaded_of}
use Rattle.oct_io.specs.declared.store.Loaded.{Loaded}
use Rattle.oct_io.specs.declared.store.Loaded.TheVariants.{Bytes, Missing, TooLarge}
use Rattle.oct_io.specs.declared.store.Store as store
use Rattle.oct_io.specs.declared.store.StoreFault.{StoreFault}
use Rattle.oct_io.specs.declared.store.StoreFault.TheVariants as store_fault
use Rattle.oct_key.specs.Voxel.{Voxel, IsInMap}
use Rattle.oct_map.specs.Answers.{IsAnswerOrMemory}
use Rattle.oct_map.specs.Ground.{Ground}
use Rattle.oct_map.specs.Loads.{IsMapLoaded, load_answer}
use Rattle.oct_map.specs.Map.{Map, IsMap, ground_of, values_of}
use Rattle.oct_map.specs.declared.fault.MapFault.{MapFault}
use Rattle.oct_map.specs.declared.fault.MapFault.TheVariants as fault
use Rattle.oct_odds.specs.Update.{class_of}
use Rattle.oct_script.specs.declared.reply.Refusal.{Refusal}
use Rattle.oct_script.specs.declared.reply.Reply.{Reply}
use Rattle.oct_script.specs.declared.reply.Reply.TheVariants as reply_of
use Rattle.oct_session.specs.Commands.{FileWork, Puts, Reads, accepted, accepted_saving}
use Rattle.oct_session.specs.Commands.{changed_by}
use Rattle.oct_session.specs.Commands.{named_in}
use Rattle.oct_session.specs.FileCommands.{found_in, nodes_reply, reading_reply, reading_action}
use Rattle.oct_session.specs.FileCommands.{load_reply, classes_file, save_reply}
use Rattle.oct_session.specs.History.{History, State, after_all, state_after}
use Rattle.oct_session.specs.Leaving.{StandsFor, IsLike, KeepsUnsaved}
use Rattle.oct_session.specs.Moments.{IsFileOf, SavesFile, Works, saving_effect}
use Rattle.oct_session.specs.Refusals.{fault_reply}
use Rattle.oct_script.specs.Replies.{file_refusal}
use Rattle.oct_session.specs.Session.{Effect, replied}
use Rattle.oct_session.specs.Standing.{HasAnswered, HasDone, HasEffect, HasFailed, FindsTold}
use Rattle.oct_session.specs.Standing.{TakesEffect}
use Rattle.oct_session.specs.declared.context.Context.{Context}
use Rattle.oct_session.proofs.Effects.{counted_done, counted_on, ran_out, same_files, saves_none}
use Rattle.oct_session.proofs.Effects.{stands_where_done, unasked, with_desk}
use Rattle.oct_session.proofs.MapHistory.{stands_replaced}
use Rattle.oct_session.proofs.Readings.{IsTold, reading_told}
use Rattle.oct_session.proofs.Replying.{refuses, no_reply}
use Rattle.oct_values.specs.Classes.{Classes, classes_of}

-- ---- the map

-- a file that the map took
pub replace_done : (m n : Map) (file : FileRead) (nodes : ℕ) → nodes ≡ file.nodes
    → IsAnswerOrMemory (load_answer (ground_of m) file.res (record_total file.codes)) (Ok tt)
    → IsMapLoaded m n file.codes → IsMap n → ground_of n ≡ ground_of m →
    HasAnswered (λ s. reading_reply s.base (Ok file)) (λ s. reading_action (Ok file)) m n
    (Some (reply_of.Loaded nodes))
replace_done m n file nodes is (inl answer) loaded is_map ground = λ s at. (
  ap (λ x. Some (reply_of.Loaded x)) is
      ∙ ap (nodes_reply file.nodes)
      (answer ∙ ap (λ g. load_answer g file.res (record_total file.codes)) at.base),
  stands_replaced m n s file.codes loaded is_map ground at,
)
replace_done m n file nodes is (inr memory) loaded is_map ground = cc

-- what was read of a file has a reply
file_some : (g : Ground) (file : FileRead) → IsSome (reading_reply g (Ok file))
file_some g file = by_test (nat_eq file.res g.res) (nat_lt g.max_groups (record_total file.codes))
  where
    by_test : (same full : Bool) →
        IsSome (nodes_reply file.nodes
        (cond {A = Result ⊤ MapFault} same
        (cond {A = Result ⊤ MapFault} full (Err (fault.Full 0 (record_total file.codes))) (Ok tt))
        (Err (fault.OtherResolution (pos file.res) (pos g.res)))))
    by_test false full = refl
    by_test true true = refl
    by_test true false = refl

refused_some : (o : Option Refusal) → IsSome o → IsSome (option_map reply_of.Refused o)
refused_some None some = cc
refused_some (Some refusal) some = refl

read_some : (g : Ground) (read : Result FileRead BtFault) → IsTold read
    → IsSome (reading_reply g read)
read_some g (Ok file) told = file_some g file
read_some g (Err f) told = refused_some (file_refusal f) told

-- and so has a file
pub reading_some : (g : Ground) (bytes : List ℕ) → IsSome (reading_reply g (reading bytes))
reading_some g bytes = read_some g (reading bytes) (reading_told bytes)

-- and whatever the store has
pub load_some : (g : Ground) (found : Loaded) → IsSome (load_reply g (Some found))
load_some g Missing = refl
load_some g TooLarge = refl
load_some g (Bytes bytes) = reading_some g bytes

-- a file that the map refused
pub replace_refused : {E : Type 0} (r : Result (Option Reply) E) (m n : Map) (file : FileRead)
    (f : MapFault) → IfOk r (λ a. a ≡ fault_reply f) → IfOk r IsSome →
    IsAnswerOrMemory (load_answer (ground_of m) file.res (record_total file.codes)) (Err f) → n ≡ m
    → HasDone (λ s. reading_reply s.base (Ok file)) (λ s. reading_action (Ok file)) m n r
replace_refused (Ok a) m n file f is some (inl answer) same = λ s at. (
  is ∙ ap (nodes_reply file.nodes)
      (answer ∙ ap (λ g. load_answer g file.res (record_total file.codes)) at.base),
  subst (λ (x : Map). StandsFor x (after_all s (accepted a (reading_action (Ok file))))) (sym same)
      (subst (λ more. StandsFor m (after_all s more))
      (sym (ap (λ b. cond b [] (reading_action (Ok file))) (refuses f a some is))) at),
)
replace_refused (Ok a) m n file f is some (inr none) same = absurd (no_reply f a some is cc)
replace_refused (Err x) m n file f is some answer same =
    λ s at. (file_some s.base file, subst (λ (x : Map). StandsFor x s) (sym same) at)

-- a file that memory ran out for
pub bytes_unread : {E : Type 0} (r : Result (Option Reply) E) (m : Map) (bytes : List ℕ) → IsErr r
    → HasDone (λ s. reading_reply s.base (reading bytes)) (λ s. reading_action (reading bytes)) m m
    r
bytes_unread (Ok x) m bytes err = cc
bytes_unread (Err x) m bytes err = λ s at. (reading_some s.base bytes, at)

-- ---- map and store

-- what is asked of the files names this one
abbrev pub Names : Option FileWork → List ℕ → Type 0
Names w name = named_in w ≡ Some name

-- the file that it names is told
finds_named : (w : Option FileWork) (name : List ℕ) (files : Option Files) → Names w name
    → FindsTold (named_in w) files → FindsTold (Some name) files
finds_named w name files named finds = subst (λ x. FindsTold x files) named finds

names_some : (w : Option FileWork) (name : List ℕ) → Names w name → IsSome (named_in w)
names_some w name named = subst (λ x. IsSome x) (sym named) refl

-- a store that failed at a load leaves all files as they were
same_failed : (w : Option FileWork) (name : List ℕ) (files : Option Files) (s : State)
    (m : Map) (held : Option Files) (x : StoreFault) → Names w name → changed_by w ≡ None
    → IsLike files s m held → HasFailed w files s m held x
same_failed w name files s m held store_fault.Failed named none at = (
  names_some w name named,
  record {
    stands = at.stands;
    others = subst (λ saved. KeepsUnsaved saved files held) (sym none)
        at.told;
  },
)
same_failed w name files s m held store_fault.Memory named none at = at

-- a store that failed at a save leaves all files but one, and all where memory ran out
torn_failed : (w : Option FileWork) (name : List ℕ) (files : Option Files) (s : State)
    (m : Map) (held : Option Files) (x : StoreFault) → Names w name → changed_by w ≡ Some name
    → StandsFor m s → KeepsOthers files held name →
    (x ≡ store_fault.Memory → held ≡ files) → HasFailed w files s m held x
torn_failed w name files s m held store_fault.Failed named saves at others same = (
  names_some w name named,
  record {
    stands = at;
    others = subst (λ saved. KeepsUnsaved saved files held) (sym saves)
        others;
  },
)
torn_failed w name files s m held store_fault.Memory named saves at others same =
    record { stands = at; told = same refl }

-- the file is told
found_is : (f files : Option Files) (name : List ℕ) (found : Loaded) → f ≡ files
    → IfSome f (λ files. found ≡ loaded_of (files name)) → FindsTold (Some name) files
    → Some found ≡ found_in files name
found_is f None name found same has (inl none) = cc
found_is f None name found same has (inr some) = cc
found_is f (Some files) name found same has finds =
    ap Some (subst (λ x. IfSome x (λ files. found ≡ loaded_of (files name))) same has)

-- what answers whatever the store has
abbrev pub AnswersAll : (Ground → Option Loaded → Option Reply) → Type 0
AnswersAll reply = (g : Ground) (found : Loaded) → IsSome (reply g (Some found))

-- what a command does that takes in a file, by what the store has
abbrev pub loading_effect : (Ground → Option Loaded → Option Reply)
    → (Ground → Option Loaded → History) → List ℕ → Option Files → State → Effect
loading_effect reply actions name files s =
    replied (reply s.base (found_in files name)) (actions s.base (found_in files name)) None

finds_some : (reply : Ground → Option Loaded → Option Reply) → AnswersAll reply
    → (g : Ground) (files : Option Files) (name : List ℕ) → FindsTold (Some name) files
    → IsSome (reply g (found_in files name))
finds_some reply some g None name (inl none) = cc
finds_some reply some g None name (inr told) = cc
finds_some reply some g (Some files) name finds = some g (loaded_of (files name))

-- a file that was taken in, or refused
load_done : (w : Option FileWork) (reply : Ground → Option Loaded → Option Reply)
    (actions : Ground → Option Loaded → History) (m n : Map) (f g : Option Files)
    (key name : List ℕ) (found : Loaded) (a : Option Reply) → Names w name → key ≡ name → g ≡ f →
    IfSome f (λ files. found ≡ loaded_of (files key)) →
    HasAnswered (λ s. reply s.base (Some found)) (λ s. actions s.base (Some found)) m n a
    → TakesEffect (λ files s. loading_effect reply actions name files s) w m f n g None a
load_done w reply actions m n f g key name found a named spelt same has done = λ files s finds at.
    let is = found_is f files name found at.told
    (subst (λ k. IfSome f (λ files. found ≡ loaded_of (files k))) spelt has)
    (finds_named w name files named finds) in
    let took = done s at.stands in (
      took.0 ∙ ap (reply s.base) is,
      refl,
      record {
        stands = subst (λ x. StandsFor n
            (after_all s (accepted (reply s.base x) (actions s.base x)))) is
            (subst (λ x. StandsFor n (after_all s (accepted x (actions s.base (Some found)))))
            took.0 took.1);
        told = same_files g files (accepted_saving (reply s.base (found_in files name)) None)
            (same ∙ at.told) (saves_none (reply s.base (found_in files name)) None refl);
      },
    )

-- one that the store failed at
load_failed : (w : Option FileWork) (reply : Ground → Option Loaded → Option Reply)
    (actions : Ground → Option Loaded → History) → AnswersAll reply
    → (r : Result (Option Reply) StoreFault) (m : Map) (f g : Option Files) (name : List ℕ)
    → Names w name → changed_by w ≡ None → IsErr r → g ≡ f →
    HasEffect (λ files s. loading_effect reply actions name files s) w None m f m g None r
load_failed w reply actions some (Ok x) m f g name named none err same = cc
load_failed w reply actions some (Err x) m f g name named none err same = λ files s finds at. (
  inl (finds_some reply some s.base files name (finds_named w name files named finds)),
  same_failed w name files s m g x named none
      (record { stands = at.stands; told = same ∙ at.told }),
)

-- one that memory ran out for
load_unfinished : (w : Option FileWork) (reply : Ground → Option Loaded → Option Reply)
    (actions : Ground → Option Loaded → History) → AnswersAll reply
    → (r : Result (Option Reply) StoreFault) (m n : Map) (f g : Option Files) (name : List ℕ)
    (found : Loaded) → Names w name →
    IsErrAnd r (λ x. x ≡ store_fault.Memory) → g ≡ f →
    ((s : State) → StandsFor m s → IsSome (reply s.base (Some found)) × StandsFor n s)
    → HasEffect (λ files s. loading_effect reply actions name files s) w None m f n g None r
load_unfinished w reply actions some (Ok x) m n f g name found named memory same kept =
    absurd memory
load_unfinished w reply actions some (Err x) m n f g name found named memory same kept =
    λ files s finds at. (
      inl (finds_some reply some s.base files name (finds_named w name files named finds)),
      subst (λ y. HasFailed w files s n g y) (sym memory)
          (record { stands = (kept s at.stands).1; told = same ∙ at.told }),
    )

-- a call that takes in a file of the store
abbrev pub HasRead : {K F T : Type 0} → store.Ghosts F
    → (Ground → Option Loaded → Option Reply) → (Ground → Option Loaded → History) → List ℕ
    → Context K F → Context K F → Result T StoreFault → Option Reply → Type 0
HasRead ghosts reply actions name d e r a =
    Works ghosts (loading_effect reply actions name) (Some (Reads name)) None None d e r a

-- the store had no file to give
pub read_failed : {K F T U : Type 0} (ghosts : store.Ghosts F)
    (reply : Ground → Option Loaded → Option Reply) (actions : Ground → Option Loaded → History)
    (d : Context K F) (store : MutBor F) (r : Result T StoreFault) (a : Option Reply)
    (name : List ℕ) (fault : StoreFault) → AnswersAll reply
    → store.ghost_name ≡ d.store.ghost_name → IsErrAnd r (λ x. x ≡ fault)
    → ghosts.files store.now ≡ ghosts.files d.store.now
    → ghosts.calls store.now ≤ ghosts.calls d.store.now + 1
    → IsAskCounted {T = U} (Err fault) (ghosts.faults d.store.now) (ghosts.faults store.now)
    → HasRead ghosts reply actions name d (with_desk d d.map store) r a
read_failed ghosts reply actions d store (Ok x) a name fault some held is same few counted =
    absurd is
read_failed ghosts reply actions d store (Err x) a name fault some held is same few counted =
    record {
      took = load_failed (Some (Reads name)) reply actions some (Err x) d.map.now
          (ghosts.files d.store.now) (ghosts.files store.now) name refl refl refl same;
      stands = λ o some. some;
      asks = record { unasked = λ none. cc; few = few };
      counts = counted_on (Err x) fault _ _ is counted;
      map_name = refl;
      store_name = held;
      sink_name = refl;
      sink = refl;
    }

-- it had one, and memory ran out for it
pub read_ran_out : {K F T U : Type 0} (ghosts : store.Ghosts F)
    (reply : Ground → Option Loaded → Option Reply) (actions : Ground → Option Loaded → History)
    (d : Context K F) (map : MutBor Map) (store : MutBor F) (r : Result T StoreFault)
    (a : Option Reply) (name : List ℕ) (found : U) (loaded : Loaded) → AnswersAll reply
    → map.ghost_name ≡ d.map.ghost_name → store.ghost_name ≡ d.store.ghost_name
    → IsErrAnd r (λ x. x ≡ store_fault.Memory)
    → ghosts.files store.now ≡ ghosts.files d.store.now
    → ghosts.calls store.now ≤ ghosts.calls d.store.now + 1
    → IsAskCounted (Ok found) (ghosts.faults d.store.now) (ghosts.faults store.now)
    → ((s : State) → StandsFor d.map.now s
    → IsSome (reply s.base (Some loaded)) × StandsFor map.now s)
    → HasRead ghosts reply actions name d (with_desk d map store) r a
read_ran_out ghosts reply actions d map store (Ok x) a name found loaded some kept held memory
    same few counted done = absurd memory
read_ran_out ghosts reply actions d map store (Err x) a name found loaded some kept held memory
    same few counted done = record {
      took = load_unfinished (Some (Reads name)) reply actions some (Err x) d.map.now map.now
          (ghosts.files d.store.now) (ghosts.files store.now) name loaded refl memory same done;
      stands = λ o some. (some.0, (done (state_after o some.0) some.1).1);
      asks = record { unasked = λ none. cc; few = few };
      counts = ran_out (Err x) _ _ memory counted.stays;
      map_name = kept;
      store_name = held;
      sink_name = refl;
      sink = refl;
    }

-- it was taken in, or refused
pub read_done : {K F : Type 0} (ghosts : store.Ghosts F)
    (reply : Ground → Option Loaded → Option Reply) (actions : Ground → Option Loaded → History)
    (d : Context K F) (map : MutBor Map) (store : MutBor F) (a : Option Reply)
    (key name : List ℕ) (loaded : Loaded)
    → map.ghost_name ≡ d.map.ghost_name → store.ghost_name ≡ d.store.ghost_name → key ≡ name
    → IfSome (ghosts.files d.store.now) (λ files. loaded ≡ loaded_of (files key))
    → ghosts.files store.now ≡ ghosts.files d.store.now
    → ghosts.calls store.now ≤ ghosts.calls d.store.now + 1
    → IsAskCounted (Ok loaded) (ghosts.faults d.store.now) (ghosts.faults store.now)
    → HasAnswered (λ s. reply s.base (Some loaded)) (λ s. actions s.base (Some loaded)) d.map.now
    map.now a
    → HasRead ghosts reply actions name d (with_desk d map store) (Ok (tt {0})) a
read_done ghosts reply actions d map store a key name loaded kept held spelt has same few counted
    done = record {
      took = load_done (Some (Reads name)) reply actions d.map.now map.now
          (ghosts.files d.store.now) (ghosts.files store.now) key name loaded a refl spelt same has
          done;
      stands = stands_where_done {E = ⊤} (Ok a) d.map.now map.now
          (λ s. reply s.base (Some loaded)) (λ s. actions s.base (Some loaded)) done;
      asks = record { unasked = λ none. cc; few = few };
      counts = counted_done _ _ _ _ counted;
      map_name = kept;
      store_name = held;
      sink_name = refl;
      sink = refl;
    }

-- the canonical file depends on the classes of the map's voxels alone
same_text : (res : ℕ) (c e : Classes) → ((k : Voxel) → IsInMap k → c k ≡ e k)
    → bt_text res c ≡ bt_text res e
unfolding bt_text canonical_size
same_text res c e same =
    ap (λ bytes. header_text (node_total bytes) res ++ bytes) (same_data c e same)

-- the file of a map's classes is that of the state for which it stands
pub same_file : (m : Map) (s : State) → StandsFor m s
    → bt_text m.tree.res (classes_in m.tree) ≡ classes_file s
same_file m s at =
    ap (λ (g : Ground). bt_text g.res (classes_of g.odds (values_of m))) at.base
    ∙ same_text s.base.res (classes_of s.base.odds (values_of m)) (classes_of s.base.odds s.values)
    (λ k low. ap (class_of s.base.odds) (sym (at.values k low)))

pub classes_saved : (m : Map) (bytes : List ℕ) → bytes ≡ bt_text m.tree.res (classes_in m.tree)
    → IsFileOf m classes_file bytes
classes_saved m bytes is s at = is ∙ same_file m s at

pub classes_made : {V E : Type 0} (m : Map) (made : Result V E) (items : V → List ℕ)
    → IfOk made (λ v. items v ≡ bt_text m.tree.res (classes_in m.tree))
    → IfOk made (λ v. IsFileOf m classes_file (items v))
classes_made m (Ok v) items is = classes_saved m (items v) is
classes_made m (Err x) items is = tt

-- a file that the store took
pub save_done : (w : Option FileWork) (m : Map) (f g : Option Files)
    (key name bytes : List ℕ) (n : ℕ) (file : State → List ℕ) → key ≡ name → IsFileOf m file bytes
    → n ≡ length bytes → g ≡ saved f key bytes →
    TakesEffect (λ files s. saving_effect file name s) w m f m g None (Some (reply_of.Saved n))
save_done w m f g key name bytes n file spelt is long told = λ files s finds at.
    let same = is s at.stands in (
      ap (λ x. Some (reply_of.Saved x)) long ∙ ap save_reply same,
      refl,
      record {
        stands = at.stands;
        told = told ∙ ap (λ k. saved f k bytes) spelt
            ∙ ap (λ x. saved x name bytes) at.told ∙ ap (saved files name) same;
      },
    )

-- one that the store failed at
pub save_failed : {A : Type 0} (w : Option FileWork) (r : Result (Option Reply) StoreFault)
    (fault : StoreFault) (m : Map) (f g : Option Files) (key name : List ℕ) (file : State → List ℕ)
    → Names w name → changed_by w ≡ Some name → key ≡ name → IsErrAnd r (λ x. x ≡ fault)
    → KeepsOthers f g key → (◌≡◌ {A = Result A StoreFault} (Err fault) (Err store_fault.Memory)
    → g ≡ f) →
    HasEffect (λ files s. saving_effect file name s) w None m f m g None r
save_failed w (Ok x) fault m f g key name file named saves spelt is others same = absurd is
save_failed w (Err x) fault m f g key name file named saves spelt is others same =
    λ files s finds at. (
      inl refl,
      torn_failed w name files s m g x named saves at.stands
          (subst (λ told. KeepsOthers told g name) at.told (subst (KeepsOthers f g) spelt others))
          (λ memory. same (ap Err (sym is ∙ memory)) ∙ at.told),
    )

-- one that memory ran out for before the store was asked
pub save_unasked : {K F T : Type 0} (ghosts : store.Ghosts F) (file : State → List ℕ)
    (name : List ℕ) (d : Context K F) (r : Result T StoreFault) (a : Option Reply)
    → IsErrAnd r (λ x. x ≡ store_fault.Memory) → SavesFile ghosts file name d d r a
save_unasked ghosts file name d (Ok x) a memory = absurd memory
save_unasked ghosts file name d (Err x) a memory = record {
  took = λ files s finds at. (
    inl refl,
    subst (λ y. HasFailed (Some (Puts name file)) files s d.map.now (ghosts.files d.store.now) y)
        (sym memory) (record { stands = at.stands; told = at.told }),
  );
  stands = λ o some. some;
  asks = unasked _ _ _;
  counts = ran_out (Err x) _ _ memory refl;
  map_name = refl;
  store_name = refl;
  sink_name = refl;
  sink = refl;
}
