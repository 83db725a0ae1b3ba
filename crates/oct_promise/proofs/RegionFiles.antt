-- The files of regions, and what is merged of them.
use Rattle.std.proofs.Common.{◌≡◌, ◌≢◌, ℕ, ◌≤◌, ◌^◌, List, [], ◌∷◌, ◌++◌, ◌||◌, length, Bool}
use Rattle.std.proofs.Common.{true, false, cond, Option, Some, None, IsSome, Ok, refl, sym, ap}
use Rattle.std.proofs.Common.{subst, ◌∙◌, arith, length-append}
use Rattle.std.proofs.lemmas.Bool.{eq-eqb, le-leb, le-ltb}
use Rattle.std.specs.Prelude.{int_lt, ℤ}
use Rattle.std.proofs.lemmas.List.Folds.{list_any-append}
use Rattle.oct_bt.specs.Canonical.{canonical_data, canonical_size}
use Rattle.oct_bt.specs.Classes.{value_for}
use Rattle.oct_bt.specs.DataClasses.{data_classes}
use Rattle.oct_bt.specs.File.{FileRead, bt_text}
use Rattle.oct_bt.proofs.FilesBack.{file_back}
use Rattle.oct_bt.proofs.Injective.{SameClasses, same_data}
use Rattle.oct_file_tasks.proofs.Canonicals.{same_text}
use Rattle.oct_io.specs.Answer.{Answer, Outcome}
use Rattle.oct_io.specs.Files.{Files}
use Rattle.oct_io.specs.Loaded.{loaded_of}
use Rattle.oct_io.specs.declared.status.Status.TheVariants as status
use Rattle.oct_io.specs.declared.store.Loaded.{Loaded}
use Rattle.oct_io.specs.declared.store.Loaded.TheVariants.{Bytes, TooLarge}
use Rattle.oct_join.specs.Merged.{merged_class, merged_classes}
use Rattle.oct_join.proofs.Classes.{class_merged}
use Rattle.oct_key.specs.Boxes.{Window, is_in_box}
use Rattle.oct_key.specs.Values.{Values}
use Rattle.oct_map.specs.Merges.{merged_values}
use Rattle.oct_odds.specs.Update.{Value}
use Rattle.oct_key.specs.Voxel.{Voxel, IsInMap, IsResolution}
use Rattle.oct_merge.specs.declared.rule.Rule.{Rule}
use Rattle.oct_merge.specs.declared.rule.Rule.TheVariants.{Greatest, Least, First}
use Rattle.oct_script.specs.Lines.{ended, line_of}
use Rattle.oct_odds.specs.Odds.{default_odds}
use Rattle.oct_odds.specs.declared.event.Class.{Class}
use Rattle.oct_odds.specs.declared.event.Class.TheVariants.{Unknown, Free, Occupied}
use Rattle.oct_values.specs.Classes.{Classes, classes_of}
use Rattle.oct_session.specs.Building.{build, last_state, text_built}
use Rattle.oct_session.specs.FileCommands.{classes_file}
use Rattle.oct_merge.specs.Merged.{merged}
use Rattle.oct_session.specs.Session.{Progress, session, overlong, finished, closed}
use Rattle.oct_session.specs.Session.{last_progress, lines_of, status_at_end}
use Rattle.oct_session.specs.Setup.{Setup}
use Rattle.oct_file_tasks.specs.OverStore.{found_reply, merged_text, store_reply}
use Rattle.oct_file_tasks.specs.declared.store_task.PairTask.{PairTask}
use Rattle.oct_file_tasks.specs.declared.store_task.StoreTask.{StoreTask}
use Rattle.oct_file_tasks.specs.TwoFiles.{map_in, judged, joined, of_one_size}
use Rattle.oct_file_tasks.specs.declared.store_task.PairTask.TheVariants as task
use Rattle.oct_promise.specs.Lines.{classes_in, state_behind}
use Rattle.oct_promise.specs.RegionFiles.{merge_of, Share, script_for, Plan, Region, Merged}
use Rattle.oct_promise.specs.RegionFiles.{boxes_of, file_of, IsBuilt, AreMerged, IsPlan}
use Rattle.oct_promise.specs.Regions.{is_in_some, classes_within, values_within, Cover}
use Rattle.oct_promise.specs.Regions.{CoverValues}
use Rattle.oct_promise.specs.States.{IsSetUp}
use Rattle.oct_promise.proofs.LoadedBack.{data_back}
use Rattle.oct_promise.proofs.RegionScripts.{script_lines}
use Rattle.oct_promise.proofs.RegionsKept.{region_part, part_classes}
use Rattle.oct_promise.proofs.StateCommands.{res_of}

-- ---- classes

known_alone : (rule : Rule) (c : Class) → merged_class rule c Unknown ≡ c
known_alone rule Unknown = refl
known_alone rule Free = refl
known_alone rule Occupied = refl

known_twice : (rule : Rule) (c : Class) → merged_class rule c c ≡ c
known_twice rule Unknown = refl
known_twice Greatest Free = refl
known_twice Greatest Occupied = refl
known_twice Least Free = refl
known_twice Least Occupied = refl
known_twice First Free = refl
known_twice First Occupied = refl

class_joined : (rule : Rule) (x y : Bool) (c : Class)
    → merged_class rule (cond {A = Class} x c Unknown) (cond {A = Class} y c Unknown)
    ≡ cond {A = Class} (x || y) c Unknown
class_joined rule true true c = known_twice rule c
class_joined rule true false c = known_alone rule c
class_joined rule false y c = refl

-- what is merged of the classes within some boxes and within others are those within all of them
pub classes_joined : (rule : Rule) (boxes others : List Window) (c : Classes) (k : Voxel)
    → merged_classes rule (classes_within boxes c) (classes_within others c) k
    ≡ classes_within (boxes ++ others) c k
classes_joined rule boxes others c k =
    class_joined rule (is_in_some boxes k) (is_in_some others k) (c k)
    ∙ ap (λ b. cond {A = Class} b (c k) Unknown)
    (sym (list_any-append (λ (b : Window). is_in_box b.lo b.hi k) boxes others))

class_covered : (x : Bool) (c : Class) → (c ≢ Unknown → x ≡ true)
    → cond {A = Class} x c Unknown ≡ c
class_covered true c known = refl
class_covered false Unknown known = refl
class_covered false Free known = absurd (let no : false ≡ true = known (λ e. cc) in cc)
class_covered false Occupied known = absurd (let no : false ≡ true = known (λ e. cc) in cc)

-- boxes that leave out no known voxel have all classes
pub classes_covered : (boxes : List Window) (c : Classes) → Cover boxes c → (k : Voxel)
    → IsInMap k → classes_within boxes c k ≡ c k
classes_covered boxes c cover k ok = class_covered (is_in_some boxes k) (c k) (cover k ok)

-- ---- values

either_way : (b : Bool) (v : ℤ) → cond {A = ℤ} b v v ≡ v
either_way true v = refl
either_way false v = refl

value_twice : (rule : Rule) (v : Value) → merged rule v v ≡ v
value_twice rule None = refl
value_twice Greatest (Some v) = ap Some (either_way (int_lt v v) v)
value_twice Least (Some v) = ap Some (either_way (int_lt v v) v)
value_twice First (Some v) = refl

value_alone : (rule : Rule) (v : Value) → merged rule v None ≡ v
value_alone rule None = refl
value_alone rule (Some v) = refl

value_beside : (rule : Rule) (v : Value) → merged rule None v ≡ v
value_beside rule None = refl
value_beside rule (Some v) = refl

value_joined : (rule : Rule) (x y : Bool) (v : Value)
    → merged rule (cond {A = Value} x v None) (cond {A = Value} y v None)
    ≡ cond {A = Value} (x || y) v None
value_joined rule true true v = value_twice rule v
value_joined rule true false v = value_alone rule v
value_joined rule false true v = value_beside rule v
value_joined rule false false v = refl

-- what is merged of the values within some boxes and within others are those within all of them
pub values_joined : (rule : Rule) (boxes others : List Window) (values : Values) (k : Voxel)
    → merged_values rule (values_within boxes values) (values_within others values) k
    ≡ values_within (boxes ++ others) values k
values_joined rule boxes others values k =
    value_joined rule (is_in_some boxes k) (is_in_some others k) (values k)
    ∙ ap (λ b. cond {A = Value} b (values k) None)
    (sym (list_any-append (λ (b : Window). is_in_box b.lo b.hi k) boxes others))

value_covered : (x : Bool) (v : Value) → (IsSome v → x ≡ true) → cond {A = Value} x v None ≡ v
value_covered true v known = refl
value_covered false None known = refl
value_covered false (Some v) known = absurd (let no : false ≡ true = known refl in cc)

-- boxes that leave out no known voxel have all values
pub values_covered : (boxes : List Window) (values : Values) → CoverValues boxes values
    → (k : Voxel) → IsInMap k → values_within boxes values k ≡ values k
values_covered boxes values cover k ok =
    value_covered (is_in_some boxes k) (values k) (cover k ok)

-- ---- files

same_file : (res : ℕ) (c e : Classes) → SameClasses c e → bt_text res c ≡ bt_text res e
same_file res c e same = same_text res c e (same_data c e same)

-- what a canonical file is read as
abbrev canonical_file : ℕ → Classes → FileRead
canonical_file res c =
    record { res = res; codes = canonical_data c; nodes = canonical_size c }

map_back : (res : ℕ) (c : Classes) → IsResolution res → length (bt_text res c) ≤ 2 ^ 30
    → map_in (loaded_of (Some (bt_text res c))) ≡ Ok (canonical_file res c)
map_back res c ok few =
    ap (λ b. map_in (cond {A = Loaded} b (Bytes (bt_text res c)) TooLarge))
    (le-leb (length (bt_text res c)) (2 ^ 30) few)
    ∙ ap judged (file_back res c ok)

-- two maps of one resolution
pair_found : (rule : Rule) (f g : FileRead) → f.res ≡ g.res
    → found_reply (task.Merge rule) (of_one_size f g) ≡ record {
      text = bt_text f.res (classes_of default_odds (λ k. merged rule
          (value_for default_odds (data_classes f.codes k))
          (value_for default_odds (data_classes g.codes k))));
      status = status.Done;
    }
unfolding merged_text
pair_found rule f g same = rw (eq-eqb f.res g.res same) refl

-- a merge of two files of classes is the file of the merged classes
pub file_merged : (rule : Rule) (res : ℕ) (c e : Classes) → IsResolution res
    → length (bt_text res c) ≤ 2 ^ 30 → length (bt_text res e) ≤ 2 ^ 30
    → merge_of rule (bt_text res c) (bt_text res e)
    ≡ record { text = bt_text res (merged_classes rule c e); status = status.Done }
file_merged rule res c e ok few few_more =
    let f : FileRead = canonical_file res c in
    let g : FileRead = canonical_file res e in
    ap (λ x. found_reply (task.Merge rule)
    (joined x (map_in (loaded_of (Some (bt_text res e)))))) (map_back res c ok few)
    ∙ ap (λ x. found_reply (task.Merge rule) (joined (Ok f) x)) (map_back res e ok few_more)
    ∙ pair_found rule f g refl
    ∙ ap (λ (t : List ℕ). record { text = t; status = status.Done })
    (same_file res (classes_of default_odds (λ k. merged rule
    (value_for default_odds (data_classes f.codes k))
    (value_for default_odds (data_classes g.codes k)))) (merged_classes rule c e)
    (λ k low. class_merged rule (data_classes f.codes k) (data_classes g.codes k)
    ∙ ap (λ (x : Class). merged_class rule x (data_classes g.codes k)) (data_back c k low)
    ∙ ap (merged_class rule (c k)) (data_back e k low)))

-- ---- builds

text_ended : (file : List ℕ) (refused : Bool) → text_built file (status_at_end refused) ≡ file
text_ended file true = refl
text_ended file false = refl

-- the file of a script that isn't too long
pub file_built : (o : Setup) (files : Option Files) (bytes : List ℕ) → length bytes ≤ o.max_bytes
    → (build o files bytes).text ≡ bt_text o.res (classes_in (last_state o files bytes))
unfolding build session
file_built o files bytes short =
    let p : Progress = last_progress o files bytes in
    let file : List ℕ = classes_file (last_state o files bytes) in
    ap (λ b. text_built file (cond {A = Outcome} b (overlong p) (finished (closed p))).status)
    (le-ltb o.max_bytes (length bytes) short)
    ∙ text_ended file (closed p).refused
    ∙ ap (λ n. bt_text n (classes_in (last_state o files bytes))) (res_of o p.history)

module _ (o : Setup) (set : IsSetUp o) (files : Option Files) (bytes : List ℕ) where
  -- the file of a region
  region_file : (share : Share) → IsBuilt o files bytes share
      → (build o share.files (script_for share bytes)).text
      ≡ bt_text o.res (classes_within (share.box ∷ []) (classes_in (last_state o files bytes)))
  region_file share is =
      let lines = lines_of o bytes in
      let limit = ended (line_of share.limit) in
      file_built o share.files (script_for share bytes) is.short
      ∙ ap (λ x. bt_text o.res (classes_in (state_behind o share.files x)))
      (script_lines o share.limit bytes is.one_line is.short)
      ∙ same_file o.res (classes_in (state_behind o share.files (limit ∷ lines)))
      (classes_within (share.box ∷ []) (classes_in (state_behind o files lines)))
      (λ k low. part_classes share.box (state_behind o files lines)
      (state_behind o share.files (limit ∷ lines))
      (region_part o files share.files share.box limit lines is.region) k)

  -- a merge of two files that are such
  both_merged : (rule : Rule) (first second : Plan)
      → file_of o bytes first ≡ bt_text o.res
      (classes_within (boxes_of first) (classes_in (last_state o files bytes)))
      → file_of o bytes second ≡ bt_text o.res
      (classes_within (boxes_of second) (classes_in (last_state o files bytes)))
      → AreMerged o bytes first second
      → merge_of rule (file_of o bytes first) (file_of o bytes second) ≡ record {
        text = bt_text o.res (classes_within (boxes_of first ++ boxes_of second)
            (classes_in (last_state o files bytes)));
        status = status.Done;
      }
  both_merged rule first second x y are =
      let c : Classes = classes_in (last_state o files bytes) in
      let a : Classes = classes_within (boxes_of first) c in
      let b : Classes = classes_within (boxes_of second) c in
      ap (λ t. merge_of rule t (file_of o bytes second)) x
      ∙ ap (λ t. merge_of rule (bt_text o.res a) t) y
      ∙ file_merged rule o.res a b set.res
      (subst (λ t. length t ≤ 2 ^ 30) x are.few) (subst (λ t. length t ≤ 2 ^ 30) y are.few_more)
      ∙ ap (λ (t : List ℕ). record { text = t; status = status.Done })
      (same_file o.res (merged_classes rule a b)
      (classes_within (boxes_of first ++ boxes_of second) c)
      (λ k low. classes_joined rule (boxes_of first) (boxes_of second) c k))

  -- the file that all comes to
  plan_file : (plan : Plan) → IsPlan o files bytes plan → file_of o bytes plan
      ≡ bt_text o.res (classes_within (boxes_of plan) (classes_in (last_state o files bytes)))
  unfolding IsPlan file_of boxes_of
  plan_file (Region share) is = region_file share is
  plan_file (Merged rule first second) is =
      ap (λ (a : Answer). a.text)
      (both_merged rule first second (plan_file first is.0) (plan_file second is.1) is.2)

  -- no merge is refused
  pub merges_done : (rule : Rule) (first second : Plan)
      → IsPlan o files bytes (Merged rule first second)
      → (merge_of rule (file_of o bytes first) (file_of o bytes second)).status ≡ status.Done
  unfolding IsPlan
  merges_done rule first second is =
      ap (λ (a : Answer). a.status)
      (both_merged rule first second (plan_file first is.0) (plan_file second is.1) is.2)

  short_whole : (plan : Plan) → IsPlan o files bytes plan → length bytes ≤ o.max_bytes
  unfolding IsPlan
  short_whole (Region share) is =
      let short = is.short in omega (arith, short, length-append share.limit (10 ∷ bytes))
  short_whole (Merged rule first second) is = short_whole first is.0

  -- regions that leave out no known voxel are joined to the file of the whole
  pub regions_join : (plan : Plan) → IsPlan o files bytes plan
      → Cover (boxes_of plan) (classes_in (last_state o files bytes))
      → file_of o bytes plan ≡ (build o files bytes).text
  regions_join plan is cover =
      let c : Classes = classes_in (last_state o files bytes) in
      plan_file plan is
      ∙ same_file o.res (classes_within (boxes_of plan) c) c
      (λ k low. classes_covered (boxes_of plan) c cover k low)
      ∙ sym (file_built o files bytes (short_whole plan is))

-- what the task answers to two files of the store
pub merge_replies : (rule : Rule) (asked : StoreTask) (files : Files) (first second : List ℕ)
    → asked.asks ≡ task.Merge rule → files asked.first ≡ Some first
    → files asked.second ≡ Some second → store_reply asked files ≡ merge_of rule first second
merge_replies rule asked files first second asks one other =
    ap (λ (t : PairTask). found_reply t (joined (map_in (loaded_of (files asked.first)))
    (map_in (loaded_of (files asked.second))))) asks
    ∙ ap (λ x. found_reply (task.Merge rule) (joined (map_in (loaded_of x))
    (map_in (loaded_of (files asked.second))))) one
    ∙ ap (λ x. found_reply (task.Merge rule) (joined (map_in (loaded_of (Some first)))
    (map_in (loaded_of x)))) other
