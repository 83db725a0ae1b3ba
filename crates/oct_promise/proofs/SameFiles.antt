-- That the files of classes are equal where the classes are, and that no other one is shorter.
use Rattle.std.proofs.Common.{◌≡◌, ◌≤◌, ◌↔◌, ℕ, List, [], ◌++◌, length, Option, Result, Ok, Err}
use Rattle.std.proofs.Common.{sym, ap, subst, ◌∙◌, arith, true}
use Rattle.oct_arena.specs.Entries.{live}
use Rattle.oct_bt.specs.Canonical.{canonical_data, canonical_size, node_total}
use Rattle.oct_bt.specs.DataClasses.{data_classes}
use Rattle.oct_bt.specs.File.{FileRead, bt_text, header_text, reading}
use Rattle.oct_bt.specs.declared.fault.BtFault.{BtFault}
use Rattle.oct_bt.proofs.FilesBack.{file_back}
use Rattle.oct_bt.proofs.Injective.{SameClasses, data_tells_classes}
use Rattle.oct_io.specs.Files.{Files}
use Rattle.oct_key.specs.Values.{SameValues}
use Rattle.oct_key.specs.Voxel.{Voxel, IsInMap, IsResolution}
use Rattle.oct_map.specs.Map.{Map}
use Rattle.oct_query.proofs.Needed.{groups_needed, pruned_groups}
use Rattle.oct_script.specs.Lines.{Line}
use Rattle.oct_tree.specs.Tree.{Tree, IsLinked, value_at}
use Rattle.oct_values.specs.Classes.{Classes}
use Rattle.oct_values.specs.Counts.{group_count}
use Rattle.oct_values.proofs.Uniform.{same_group_count}
use Rattle.oct_session.specs.FileCommands.{classes_file}
use Rattle.oct_session.specs.History.{State}
use Rattle.oct_session.specs.Leaving.{StandsFor}
use Rattle.oct_session.specs.Session.{progress}
use Rattle.oct_session.specs.Setup.{Setup}
use Rattle.oct_promise.specs.Lines.{classes_in, state_behind}
use Rattle.oct_promise.specs.States.{IsSetUp}
use Rattle.oct_promise.proofs.LowBytes.{data_of_file}
use Rattle.oct_promise.proofs.StateCommands.{res_of}

codes_read : Result FileRead BtFault → List ℕ
codes_read (Ok read) = read.codes
codes_read (Err fault) = []

-- the codes that a canonical file is read as
codes_back : (res : ℕ) (c : Classes) → IsResolution res
    → codes_read (reading (bt_text res c)) ≡ canonical_data c
unfolding codes_read
codes_back res c ok = ap codes_read (file_back res c ok)

alike_files : (res : ℕ) (c e : Classes) → IsResolution res
    → (bt_text res c ≡ bt_text res e) ↔ SameClasses c e
unfolding bt_text canonical_size
alike_files res c e ok = (
  λ is. (data_tells_classes c e).0 (sym (codes_back res c ok)
      ∙ ap (λ file. codes_read (reading file)) is ∙ codes_back res e ok),
  λ same. ap (λ text. header_text (node_total text) res ++ text) ((data_tells_classes c e).1 same),
)

-- two states of one resolution have the same file exactly where they have the same classes
pub files_alike : (o : Setup) → IsSetUp o → (files more : Option Files) (lines others : List Line)
    → (classes_file (state_behind o files lines) ≡ classes_file (state_behind o more others))
    ↔ SameClasses (classes_in (state_behind o files lines))
    (classes_in (state_behind o more others))
files_alike o set files more lines others =
    let s : State = state_behind o files lines in
    let t : State = state_behind o more others in
    let alike = alike_files o.res (classes_in s) (classes_in t) set.res in
    let first : classes_file s ≡ bt_text o.res (classes_in s) =
    ap (λ n. bt_text n (classes_in s)) (res_of o (progress o files lines).history) in
    let second : classes_file t ≡ bt_text o.res (classes_in t) =
    ap (λ n. bt_text n (classes_in t)) (res_of o (progress o more others).history) in (
      λ is. alike.0 (sym first ∙ is ∙ second),
      λ same. first ∙ alike.1 same ∙ sym second,
    )

-- what a save writes is read as the canonical data of its classes
pub codes_saved : (o : Setup) → IsSetUp o → (files : Option Files) (lines : List Line)
    (saved : FileRead) → reading (classes_file (state_behind o files lines)) ≡ Ok saved
    → saved.codes ≡ canonical_data (classes_in (state_behind o files lines))
unfolding codes_read
codes_saved o set files lines saved is =
    let s : State = state_behind o files lines in
    let range : IsResolution s.base.res =
    subst IsResolution (sym (res_of o (progress o files lines).history)) set.res in
    sym (ap codes_read is) ∙ codes_back s.base.res (classes_in s) range

-- and of all files with these classes none has less node data
pub files_least : (o : Setup) → IsSetUp o → (files : Option Files) (lines : List Line)
    (file : List ℕ) (saved read : FileRead)
    → reading (classes_file (state_behind o files lines)) ≡ Ok saved → reading file ≡ Ok read
    → ((k : Voxel) → IsInMap k
    → data_classes read.codes k ≡ classes_in (state_behind o files lines) k)
    → length saved.codes ≤ length read.codes
files_least o set files lines file saved read is_saved is same =
    subst (λ codes. length codes ≤ length read.codes)
    (sym (codes_saved o set files lines saved is_saved))
    (data_of_file file read (classes_in (state_behind o files lines)) is same)

-- a map that was pruned has the fewest groups of all trees of its values
pub fewest_groups : (map : Map) (s : State) (other : Tree) → StandsFor map s
    → s.is_pruned ≡ true → IsLinked map.tree → IsLinked other
    → SameValues s.values (value_at other)
    → (live map.tree.groups ≡ group_count s.values)
    × (live map.tree.groups ≤ live other.groups)
fewest_groups map s other stands pruned linked other_linked same =
    let has = pruned_groups map.tree linked (stands.pruned pruned) in
    let values = same_group_count s.values (value_at map.tree) stands.values in
    let others = same_group_count s.values (value_at other) same in
    let needs = groups_needed other other_linked in
    (sym has ∙ sym values, omega (arith, has, values, others, needs))
