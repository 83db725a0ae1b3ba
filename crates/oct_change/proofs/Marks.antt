-- The classes at the mark stay, whatever is noted after.
use Rattle.std.proofs.Common.{◌≡◌, List, [], ◌∷◌, ◌++◌, Bool, true, false, Option, Some, None, inl}
use Rattle.std.proofs.Common.{inr, refl, sym, ap, ◌∙◌}
use Rattle.std.specs.Prelude.{◌⊎◌, is_some, option_map}
use Rattle.std.specs.Option.{option_or, unwrap_or}
use Rattle.std.specs.List.{All, find}
use Rattle.std.proofs.lemmas.Bool.{false≢true}
use Rattle.std.proofs.lemmas.List.Folds.{find-append}
use Rattle.oct_key.specs.Voxel.{Voxel, IsInMap}
use Rattle.oct_key.specs.Values.{is_same_voxel}
use Rattle.oct_key.proofs.SameVoxels.{is_same_voxel_exact}
use Rattle.oct_odds.specs.declared.event.Class.{Class}
use Rattle.oct_values.specs.Classes.{Classes}
use Rattle.oct_values.proofs.Sums.{first_of_all, rest_of_all}
use Rattle.oct_change.specs.declared.changes.Note.{Note}
use Rattle.oct_change.specs.Notes.{first_noted, marked_by, HasNoted}

-- the first note of a voxel is among the first notes, else among the others
map-or : {A B : Type 0} (f : A → B) (o p : Option A)
    → option_map f (option_or o p) ≡ option_or (option_map f o) (option_map f p)
map-or f None p = refl
map-or f (Some x) p = refl

pub first_noted-append : (notes more : List Note) (k : Voxel)
    → first_noted (notes ++ more) k ≡ option_or (first_noted notes k) (first_noted more k)
first_noted-append notes more k =
    ap (option_map (λ (note : Note). note.before))
    (find-append (λ (note : Note). is_same_voxel note.key k) notes more)
    ∙ map-or (λ (note : Note). note.before) (find (λ (note : Note). is_same_voxel note.key k) notes)
    (find (λ (note : Note). is_same_voxel note.key k) more)

-- a note that is right has the class of its voxel
noted_right : (now : Classes) (notes : List Note) (k : Voxel) (c : Class)
    → All (λ note. note.before ≡ now note.key) notes → first_noted notes k ≡ Some c → c ≡ now k
noted_right now [] k c right is = cc
noted_right now (note ∷ notes) k c right is =
    by_test
    (noted_right now notes k c (rest_of_all (λ note. note.before ≡ now note.key) note notes right))
    (is_same_voxel note.key k) refl
  where
    some : (a b : Class) → ◌≡◌ {A = Option Class} (Some a) (Some b) → a ≡ b
    some a b e = cc

    by_test : (first_noted notes k ≡ Some c → c ≡ now k) → (same : Bool)
        → is_same_voxel note.key k ≡ same → c ≡ now k
    by_test later true e =
        (let here : first_noted (note ∷ notes) k ≡ Some note.before = rw e refl in
        let first : note.before ≡ now note.key =
        first_of_all (λ (note : Note). note.before ≡ now note.key) note notes right in
        sym (some note.before c (sym here ∙ is)) ∙ first
        ∙ ap now (is_same_voxel_exact note.key k e))
    by_test later false e =
        (let here : first_noted (note ∷ notes) k ≡ first_noted notes k = rw e refl in
        later (sym here ∙ is))

-- The classes at the mark stay, where each voxel that changes its class was noted before.
pub mark_kept : (now after : Classes) (P : Voxel → Type 0) (old new : List Note)
    → HasNoted now P old new
    → ((k : Voxel) → IsInMap k → (after k ≡ now k) ⊎ P k)
    → (k : Voxel) → IsInMap k → marked_by new after k ≡ marked_by old now k
mark_kept now after P old new f cover k v =
    ap (λ l. marked_by l after k) f.split
    ∙ ap (λ o. unwrap_or o (after k)) (first_noted-append old f.added k)
    ∙ by_first (first_noted old k) (first_noted f.added k) refl
  where
    by_first : (first later : Option Class) → first_noted f.added k ≡ later
        → unwrap_or (option_or first later) (after k) ≡ unwrap_or first (now k)
    by_first (Some c) later e = refl
    by_first None (Some c) e = noted_right now f.added k c f.right e
    by_first None None e = elim (cover k v) [
      | inl same ↦ same
      | inr asked ↦ absurd (false≢true (sym (ap is_some e) ∙ f.whole k v asked))
    ]
