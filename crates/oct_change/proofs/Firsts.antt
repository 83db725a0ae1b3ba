-- The first note of each voxel, gathered in an ordered map, and the changes that it shows.
use Rattle.std.proofs.Common.{◌≡◌, ℕ, ◌+◌, ◌<◌, ◌≤◌, List, [], ◌∷◌, length, take, get_or, Bool}
use Rattle.std.proofs.Common.{true}
use Rattle.std.proofs.Common.{false, Option, Some, None, refl, sym, ap, ◌∙◌, arith, add-one}
use Rattle.std.proofs.Common.{take-suc}
use Rattle.std.specs.Prelude.{is_some, cond}
use Rattle.std.specs.BTreeMap.{BTreeMap, Updates, get, btree_map_len}
use Rattle.std.specs.Option.{option_or}
use Rattle.std.proofs.lemmas.Bool.{false≢true, true≢false}
use Rattle.oct_key.specs.Voxel.{Voxel}
use Rattle.oct_key.specs.Order.{key_cmp}
use Rattle.oct_key.specs.Values.{is_same_voxel}
use Rattle.oct_key.proofs.SameVoxels.{is_same_voxel_exact}
use Rattle.oct_key.proofs.Order.{is_at-key_cmp}
use Rattle.oct_odds.specs.declared.event.Class.{Class}
use Rattle.oct_change.specs.declared.changes.Note.{Note}
use Rattle.oct_change.specs.Notes.{first_noted}
use Rattle.oct_change.proofs.Marks.{first_noted-append}

-- with one note more
first_noted-next : (notes : List Note) (i : ℕ) (d : Note) (k : Voxel) → i < length notes
    → first_noted (take (i + 1) notes) k ≡ option_or (first_noted (take i notes) k)
    (first_noted (get_or notes i d ∷ []) k)
first_noted-next notes i d k l = ap (λ t. first_noted t k) (ap (λ n. take n notes) (add-one i)
    ∙ take-suc notes i d l) ∙ first_noted-append (take i notes) (get_or notes i d ∷ []) k

or_none : {A : Type 0} (o : Option A) → option_or o None ≡ o
or_none None = refl
or_none (Some x) = refl

or_some : {A : Type 0} (o p : Option A) → is_some o ≡ true → option_or o p ≡ o
or_some None p h = absurd (false≢true h)
or_some (Some x) p h = refl

none_unless_some : {A : Type 0} (o : Option A) → is_some o ≡ false → o ≡ None
none_unless_some None h = refl
none_unless_some (Some x) h = absurd (true≢false h)

-- a voxel that isn't noted yet takes its note
pub first_put : (notes : List Note) (i : ℕ) (d : Note) (m n : BTreeMap Voxel Class)
    → i < length notes → ((k : Voxel) → get key_cmp m k ≡ first_noted (take i notes) k)
    → is_some (get key_cmp m (get_or notes i d).key) ≡ false
    → Updates key_cmp m n (get_or notes i d).key (Some (get_or notes i d).before) → (k : Voxel)
    → get key_cmp n k ≡ first_noted (take (i + 1) notes) k
first_put notes i d m n l so_far absent put k =
    put.0 k ∙ ap (λ test. cond test (Some (get_or notes i d).before) (get key_cmp m k))
    (is_at-key_cmp (get_or notes i d).key k)
    ∙ by_test (is_same_voxel (get_or notes i d).key k) refl ∙ sym (first_noted-next notes i d k l)
  where
    by_test : (same : Bool) → is_same_voxel (get_or notes i d).key k ≡ same
        → cond same (Some (get_or notes i d).before) (get key_cmp m k) ≡ option_or
        (first_noted (take i notes) k) (first_noted (get_or notes i d ∷ []) k)
    by_test true e =
        (let here : first_noted (get_or notes i d ∷ []) k ≡ Some (get_or notes i d).before = rw e
        refl in
        let none : first_noted (take i notes) k ≡ None = sym (so_far k)
        ∙ ap (get key_cmp m) (sym (is_same_voxel_exact (get_or notes i d).key k e))
        ∙ none_unless_some _ absent in
        rw (none, here) refl)
    by_test false e =
        (let here : first_noted (get_or notes i d ∷ []) k ≡ None = rw e refl in
        so_far k ∙ sym (or_none (first_noted (take i notes) k))
        ∙ ap (option_or (first_noted (take i notes) k)) (sym here))

-- one that is noted keeps its first
pub first_kept : (notes : List Note) (i : ℕ) (d : Note) (m : BTreeMap Voxel Class)
    → i < length notes → ((k : Voxel) → get key_cmp m k ≡ first_noted (take i notes) k)
    → is_some (get key_cmp m (get_or notes i d).key) ≡ true → (k : Voxel)
    → get key_cmp m k ≡ first_noted (take (i + 1) notes) k
first_kept notes i d m l so_far there k = so_far k
    ∙ by_test (is_same_voxel (get_or notes i d).key k) refl ∙ sym (first_noted-next notes i d k l)
  where
    by_test : (same : Bool) → is_same_voxel (get_or notes i d).key k ≡ same
        → first_noted (take i notes) k ≡ option_or (first_noted (take i notes) k)
        (first_noted (get_or notes i d ∷ []) k)
    by_test true e =
        (let some : is_some (first_noted (take i notes) k) ≡ true = ap is_some (sym (so_far k))
        ∙ ap (λ q. is_some (get key_cmp m q))
        (sym (is_same_voxel_exact (get_or notes i d).key k e)) ∙ there in
        sym (or_some (first_noted (take i notes) k) (first_noted (get_or notes i d ∷ []) k) some))
    by_test false e =
        (let here : first_noted (get_or notes i d ∷ []) k ≡ None = rw e refl in
        sym (or_none (first_noted (take i notes) k))
        ∙ ap (option_or (first_noted (take i notes) k)) (sym here))

-- one entry more at most, for one note more
pub few_put : (o : Option Class) (i : ℕ) (m n r : BTreeMap Voxel Class) → r ≡ n
    → btree_map_len n ≡ btree_map_len m + cond (is_some o) 0 1 → length m.entries ≤ i
    → length r.entries ≤ i + 1
few_put None i m n r is more few =
    (let same = ap btree_map_len is in omega (arith, same, more, few))
few_put (Some c) i m n r is more few =
    (let same = ap btree_map_len is in omega (arith, same, more, few))

pub few_kept : (i : ℕ) (m r : BTreeMap Voxel Class) → r ≡ m → length m.entries ≤ i
    → length r.entries ≤ i + 1
few_kept i m r is few = (let same = ap btree_map_len is in omega (arith, same, few))
