-- What notes become that an ordered map of the first ones is made of.
use Rattle.std.proofs.Common.{◌≡◌, ℕ, List, [], ◌∷◌, ◌++◌, length, map, Bool, true, false}
use Rattle.std.proofs.Common.{Some, refl, sym, ap, subst, ◌∙◌, append_assoc}
use Rattle.std.specs.Prelude.{cond, max}
use Rattle.std.proofs.lemmas.List.{length-map}
use Rattle.std.specs.BTreeMap.{BTreeMap, is_at, get, IsOrdered}
use Rattle.std.specs.Map.{lookup}
use Rattle.std.specs.List.Sorted.{IsStrictlySortedBy}
use Rattle.std.proofs.lemmas.List.Elements.{All-append, All-cons, All-nil}
use Rattle.oct_key.specs.Voxel.{Voxel, IsInMap}
use Rattle.oct_key.specs.Order.{key_cmp}
use Rattle.oct_key.specs.Values.{is_same_voxel}
use Rattle.oct_key.proofs.SameVoxels.{is_same_voxel_exact, is_same_voxel_refl}
use Rattle.oct_key.proofs.Order.{is_at-key_cmp}
use Rattle.oct_odds.specs.declared.event.Class.{Class}
use Rattle.oct_change.specs.declared.changes.Note.{Note}
use Rattle.oct_change.specs.Notes.{AreInMap, first_noted, note_of, noted_total}
use Rattle.oct_change.specs.Held.{Held, IsCompacted, room_of, wanted_room}
use Rattle.oct_change.proofs.Totals.{compact_total}

-- the test for one voxel is that of the other
same_test : (a b : Voxel) (x : Bool) → is_same_voxel a b ≡ x → is_same_voxel b a ≡ x
same_test a b true e =
    subst (λ c. is_same_voxel b c ≡ true) (sym (is_same_voxel_exact a b e)) (is_same_voxel_refl b)
same_test a b false e = by_test (is_same_voxel b a) refl
  where
    by_test : (y : Bool) → is_same_voxel b a ≡ y → is_same_voxel b a ≡ false
    by_test false f = f
    by_test true f =
        (let same : is_same_voxel a b
        ≡ true =
        subst (λ c. is_same_voxel a c ≡ true) (sym (is_same_voxel_exact b a f))
        (is_same_voxel_refl a) in
        cc)

-- the first note of a voxel among notes of entries is what is found there
pub noted_by_entries : (es : List (Voxel × Class)) (k : Voxel)
    → first_noted (map note_of es) k ≡ lookup (is_at (key_cmp k)) es
noted_by_entries [] k = refl
noted_by_entries (e ∷ es) k = by_test (noted_by_entries es k) (is_same_voxel e.0 k) refl
  where
    by_test : first_noted (map note_of es) k ≡ lookup (is_at (key_cmp k)) es → (x : Bool)
        → is_same_voxel e.0 k ≡ x
        → first_noted (map note_of (e ∷ es)) k ≡ lookup (is_at (key_cmp k)) (e ∷ es)
    by_test later true h =
        (let there : is_at (key_cmp k) e.0 ≡ true = is_at-key_cmp k e.0 ∙ same_test e.0 k true h in
        let here : first_noted (map note_of (e ∷ es)) k ≡ Some e.1 = rw h refl in
        here ∙ sym (ap (λ test. cond test (Some e.1) (lookup (is_at (key_cmp k)) es)) there))
    by_test later false h =
        (let there : is_at (key_cmp k) e.0 ≡ false = is_at-key_cmp k e.0
        ∙ same_test e.0 k false h in
        let here : first_noted (map note_of (e ∷ es)) k ≡ first_noted (map note_of es) k =
        rw h refl in
        here ∙ later
        ∙ sym (ap (λ test. cond test (Some e.1) (lookup (is_at (key_cmp k)) es)) there))

-- so that the first notes stay
pub compact_first : (old new : List Note) (first : BTreeMap Voxel Class)
    → ((k : Voxel) → get key_cmp first k ≡ first_noted old k) → new ≡ map note_of first.entries
    → (k : Voxel) → first_noted new k ≡ first_noted old k
compact_first old new first is made k =
    ap (λ l. first_noted l k) made ∙ noted_by_entries first.entries k ∙ is k

-- the voxels of these notes are the keys
keys_noted : (es : List (Voxel × Class))
    → map (λ (note : Note). note.key) (map note_of es) ≡ map (λ e. e.0) es
keys_noted [] = refl
keys_noted (e ∷ es) = ap (λ l. e.0 ∷ l) (keys_noted es)

-- and no voxel has two
pub compact_once : (old new : List Note) (first : BTreeMap Voxel Class) → IsOrdered key_cmp first
    → ((k : Voxel) → get key_cmp first k ≡ first_noted old k) → new ≡ map note_of first.entries
    → AreInMap new → length new ≡ noted_total old
compact_once old new first ordered is made inside =
    compact_total old new inside
    (subst (λ l. IsStrictlySortedBy key_cmp (map (λ (note : Note). note.key) l)) (sym made)
    (subst (IsStrictlySortedBy key_cmp) (sym (keys_noted first.entries)) ordered))
    (compact_first old new first is made)

-- what is left of notes, in the room that was made
pub compacted : (old mid new : Held) (n : ℕ) (first : BTreeMap Voxel Class)
    → IsOrdered key_cmp first → ((k : Voxel) → get key_cmp first k ≡ first_noted old.notes k)
    → new.notes ≡ map note_of first.entries → AreInMap new.notes
    → room_of mid ≡ max (room_of old) (wanted_room (length first.entries) n)
    → room_of new ≡ room_of mid → IsCompacted old new n
compacted old mid new n first ordered is made inside grown same = record {
  first = compact_first old.notes new.notes first is made;
  once = once;
  room = same ∙ grown ∙ ap (λ m. max (room_of old) (wanted_room m n)) (sym length_is ∙ once);
}
  where
    once : length new.notes ≡ noted_total old.notes
    once = compact_once old.notes new.notes first ordered is made inside

    length_is : length new.notes ≡ length first.entries
    length_is = ap length made ∙ length-map first.entries note_of

-- one entry more is put
pub put_step : (old new whole : List Note) (e : Voxel × Class) (left rest : List (Voxel × Class))
    → left ≡ e ∷ rest → new ≡ old ++ note_of e ∷ [] → old ++ map note_of left ≡ whole
    → new ++ map note_of rest ≡ whole
put_step old new whole e left rest taken added so_far =
    ap (λ l. l ++ map note_of rest) added
    ∙ append_assoc old (note_of e ∷ []) (map note_of rest)
    ∙ ap (λ l. old ++ map note_of l) (sym taken) ∙ so_far

pub in_map_more : (old new : List Note) (note : Note) → new ≡ old ++ note ∷ [] → IsInMap note.key
    → AreInMap old → AreInMap new
in_map_more old new note added inside all =
    subst AreInMap (sym added)
    (All-append (λ (n : Note). IsInMap n.key) old (note ∷ []) all
    (All-cons (λ (n : Note). IsInMap n.key) note [] inside (All-nil (λ (n : Note). IsInMap n.key))))
