-- The canonical text of a tree that was filled from a file.
use Rattle.std.proofs.Common.{◌≡◌, ℕ, ℤ, pos, true, List, [], ◌++◌, Option, Result, Ok, Err, OnOk}
use Rattle.std.proofs.Common.{OnErr, ◌<◌, length, refl, ◌∙◌, ap, subst, arith, zero-lt-suc}
use mir.Val.{SFits, to_z, of_z}
use mir.Syntax.{w64}
use Rattle.std.proofs.lemmas.Int.{ints, to_z-of_z}
use Rattle.oct_key.specs.Voxel.{Voxel, IsInMap, IsResolution}
use Rattle.oct_odds.specs.Odds.{Odds, default_odds}
use Rattle.oct_odds.specs.Update.{class_of}
use Rattle.oct_odds.specs.declared.event.Class.{Class}
use Rattle.oct_odds.specs.declared.event.Class.TheVariants.{Unknown, Free, Occupied}
use Rattle.oct_tree.specs.Changes.{IsGrown}
use Rattle.oct_tree.specs.Classes.{classes_in}
use Rattle.oct_tree.specs.Tree.{Tree, value_at}
use Rattle.oct_bt.specs.Canonical.{canonical_data, canonical_size, node_total}
use Rattle.oct_values.specs.Classes.{Classes, classes_of}
use Rattle.oct_bt.specs.Classes.{value_for}
use Rattle.oct_bt.specs.DataClasses.{data_classes, is_canonical}
use Rattle.oct_bt.specs.File.{FileRead, bt_text, file_text, header_text, text_of_lines}
use Rattle.oct_bt.specs.NodeData.{IsAccepted, IsDataOf}
use Rattle.oct_bt.proofs.DataClassed.{data_classed}
use Rattle.oct_bt.proofs.Injective.{same_data}
use Rattle.std.proofs.lemmas.Slice.Eq.{bytes_eq-Decides}
use Rattle.oct_bt.proofs.Rewrites.{canonical_again}
use Rattle.oct_io.specs.declared.sink.SinkFault.{SinkFault}
use Rattle.oct_io.specs.Taken.{IsCutOff}
use Rattle.oct_io.specs.Told.{appended}
use Rattle.oct_file_tasks.specs.Answers.{canonical_text, report}
use Rattle.oct_file_tasks.specs.Ending.{Sends}

-- what a voxel of a class is given counts as that class
class_kept : (c : Class) → class_of default_odds (value_for default_odds c) ≡ c
class_kept Unknown = refl
class_kept Free = refl
class_kept Occupied = refl

-- files of one node data and one resolution are one text
pub same_text : (res : ℕ) (c e : Classes) → canonical_data c ≡ canonical_data e
    → bt_text res c ≡ bt_text res e
unfolding bt_text canonical_size
same_text res c e same = ap (λ (data' : List ℕ). header_text (node_total data') res ++ data') same

-- a tree that was filled has the classes of the file
pub filled_classes : (s t u : Tree) (file : FileRead) → s.odds ≡ default_odds → IsGrown s t
    → IsAccepted file.nodes file.codes
    → ((classes : Classes) → IsDataOf classes file.codes → (k : Voxel) → IsInMap k
    → value_at u k ≡ value_for t.odds (classes k))
    → u.odds ≡ t.odds → (k : Voxel) → IsInMap k → classes_of u.odds (value_at u) k
    ≡ data_classes file.codes k
filled_classes s t u file odds grown accepted values kept_odds k in_map =
    ap (class_of u.odds)
    (values (data_classes file.codes) (data_classed file.nodes file.codes accepted) k in_map)
    ∙ ap (λ (o : Odds). class_of o (value_for t.odds (data_classes file.codes k)))
    (kept_odds ∙ grown.odds ∙ odds)
    ∙ ap (λ (o : Odds). class_of default_odds (value_for o (data_classes file.codes k)))
    (grown.odds ∙ odds)
    ∙ class_kept (data_classes file.codes k)

-- the text of a tree with the classes of a file is the canonical one of that
pub tree_text : (t : Tree) (file : FileRead) → t.res ≡ file.res
    → ((k : Voxel) → IsInMap k → classes_in t k ≡ data_classes file.codes k)
    → bt_text t.res (classes_in t) ≡ canonical_text file
tree_text t file res same =
    ap (λ (r : ℕ). bt_text r (classes_in t)) res
    ∙ same_text file.res (classes_in t) (data_classes file.codes)
    (same_data (classes_in t) (data_classes file.codes) same)

-- a file whose node data is canonical, written again, is the canonical one
canonical_written_again : (file : FileRead) → IsAccepted file.nodes file.codes
    → is_canonical file.codes ≡ true
    → file_text file ≡ canonical_text file
unfolding is_canonical
canonical_written_again file accepted is = canonical_again file (data_classes file.codes) accepted
    ((bytes_eq-Decides file.codes (canonical_data (data_classes file.codes))).0 is)

-- no canonical file is empty
pub some_canonical : (file : FileRead) → 0 < length (canonical_text file)
unfolding bt_text header_text text_of_lines
some_canonical file = zero-lt-suc _

-- nor are the lines about a file
pub some_report : (file : FileRead) → 0 < length (report file)
some_report file = zero-lt-suc _

-- six lines, one after another
pub six_lines : (z a b c d e f k l m n o p q r s t u v : List ℕ) → z ≡ [] → a ≡ z ++ k → b ≡ a ++ l
    → c ≡ b ++ m → d ≡ c ++ n → e ≡ d ++ o → f ≡ e ++ p
    → k ≡ q → l ≡ r → m ≡ s → n ≡ t → o ≡ u → p ≡ v → f ≡ q ++ r ++ s ++ t ++ u ++ v
six_lines z a b c d e f k l m n o p q r s t u v ez ea eb ec ed ee ef ek el em en eo ep =
    rw (ef, ee, ed, ec, eb, ea, ez, ek, el, em, en, eo, ep) refl

-- a resolution as the code passes it on
pub passed_on : (n : ℤ) (res : ℕ) → n ≡ pos res → IsResolution res → to_z w64 (of_z w64 n) ≡ pos res
passed_on n res is range = ap (λ (n : ℤ). to_z w64 (of_z w64 n)) is
    ∙ (let fits : SFits w64 (pos res) = omega (arith, ints, range) in to_z-of_z w64 (pos res) fits)

-- a canonical file that was written again, or a part of it
pub sends_again : {T : Type 0} (r : Result T SinkFault) (file : FileRead)
    (old new : Option (List ℕ)) → IsAccepted file.nodes file.codes
    → is_canonical file.codes ≡ true → OnOk r (new ≡ appended old (file_text file))
    → OnErr r (IsCutOff old new (file_text file))
    → Sends (canonical_text file) old new r
sends_again (Ok t) file old new accepted test done cut =
    done ∙ ap (appended old) (canonical_written_again file accepted test)
sends_again (Err fault) file old new accepted test done cut =
    subst (IsCutOff old new) (canonical_written_again file accepted test) cut
