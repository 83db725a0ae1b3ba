-- What keeps the mark of a map, and what is noted.
use Rattle.std.proofs.Common.{◌≡◌, ℕ, ◌+◌, ◌<◌, ◌≤◌, List, [], ◌∷◌, length, Bool, true, false}
use Rattle.std.proofs.Common.{Option, Some, None, Ok, Err, inl, inr, refl, sym, ap, subst, ◌∙◌}
use Rattle.std.proofs.Common.{append-nil, arith}
use Rattle.std.specs.Prelude.{◌⊎◌, ⊤, is_some, IsSome, IsOk, Result, All, Contains}
use Rattle.std.specs.Option.{option_or, unwrap_or}
use Rattle.std.proofs.lemmas.Bool.{false≢true, cases_lt}
use Rattle.std.proofs.lemmas.List.{length-append}
use Rattle.std.proofs.lemmas.List.Elements.{All-contains_itself}
use Rattle.oct_brick.proofs.Lists.{contains_none, contains_cases}
use Rattle.oct_key.specs.Voxel.{Voxel, IsInMap}
use Rattle.oct_key.specs.Values.{Values, SameValues, is_same_voxel}
use Rattle.oct_key.proofs.SameVoxels.{is_same_voxel_exact, is_same_voxel_refl}
use Rattle.oct_odds.specs.Odds.{Odds}
use Rattle.oct_odds.specs.Update.{class_of}
use Rattle.oct_odds.specs.declared.event.Event.{Event}
use Rattle.oct_odds.specs.declared.event.Class.{Class}
use Rattle.oct_values.specs.Classes.{Classes}
use Rattle.oct_values.specs.Events.{Events, event_at, is_listed, after_event, updated}
use Rattle.oct_key.specs.Boxes.{IsInBox, is_in_box}
use Rattle.oct_values.specs.Boxes.{box_events}
use Rattle.oct_key.proofs.Boxes.{in_box_exactly}
use Rattle.oct_values.proofs.Sums.{first_of_all, rest_of_all, All-follows}
use Rattle.oct_change.specs.declared.changes.Note.{Note}
use Rattle.oct_change.specs.Held.{Held, IsCompacted}
use Rattle.oct_change.specs.Notes.{first_noted, marked_by}
use Rattle.oct_change.proofs.Marks.{first_noted-append, mark_kept}
use Rattle.oct_tree.specs.Tree.{Tree, value_at}
use Rattle.oct_edit.specs.Edits.{IsEdited}
use Rattle.oct_edit.specs.Listed.{ListedUpdate}
use Rattle.oct_edit.specs.Scan.{events_of}
use Rattle.oct_edit.proofs.Shares.{event_has, some_event}
use Rattle.oct_map.specs.Outcome.{corner_events}
use Rattle.oct_num.specs.declared.memory.Memory.{Memory}
use Rattle.oct_map.specs.declared.fault.MapFault.{MapFault}
use Rattle.oct_map.specs.Answers.{IsAnswerOrMemory, room_answer, edit_need, edit_answer_at}
use Rattle.oct_map.specs.Edits.{ReservesFew}
use Rattle.oct_map.specs.Ground.{Ground}
use Rattle.oct_map.specs.Map.{Map, values_of}
use Rattle.oct_map.specs.Notes.{notes_of, note_room, noted_count, marked_by_notes, IsNoted}
use Rattle.oct_map.specs.Notes.{IsSameNoted}
use Rattle.oct_map.specs.Notes.{HasMarked, HasRoomForNotes, LacksNotes, NotesFew, IsNotedBehind}
use Rattle.oct_map.specs.Notes.{IsRoomMade}
use Rattle.oct_map.specs.Marks.{classes_in, marked_of, SameMark, KeepsMark}
use Rattle.oct_map.specs.Edits.{IsReadied}
use Rattle.oct_map.proofs.Edits.{SameEvents, edited_to, same_noted}

-- the same values have the same classes
pub same_classes : (m n : Map) → SameValues (values_of m) (values_of n) → n.tree.odds ≡ m.tree.odds
    → (k : Voxel) → IsInMap k → classes_in n k ≡ classes_in m k
same_classes m n same odds k v =
    ap (λ (o : Odds). class_of o (values_of n k)) odds
    ∙ ap (class_of m.tree.odds) (sym (same k v))

-- one mark after another
pub same_mark_trans : (a b c : Option Classes) → SameMark a b → SameMark b c → SameMark a c
same_mark_trans None None None f g = tt
same_mark_trans None None (Some c) f g = absurd g
same_mark_trans None (Some b) c f g = absurd f
same_mark_trans (Some a) None c f g = absurd f
same_mark_trans (Some a) (Some b) None f g = absurd g
same_mark_trans (Some a) (Some b) (Some c) f g = λ k v. f k v ∙ g k v

-- where the classes stay, the same first notes keep the mark
pub marked_kept : (a b : Option Held) (before after : Classes) → IsSameNoted a b
    → ((k : Voxel) → IsInMap k → after k ≡ before k)
    → SameMark (marked_by_notes a before) (marked_by_notes b after)
marked_kept None None before after s same = tt
marked_kept None (Some y) before after s same = absurd (false≢true (sym s.standing))
marked_kept (Some x) None before after s same = absurd (false≢true s.standing)
marked_kept (Some x) (Some y) before after s same = λ k v.
    ap (λ o. unwrap_or o (before k)) (sym (s.first k))
    ∙ ap (unwrap_or (first_noted y.notes k)) (sym (same k v))

pub kept_mark : (m n : Map) → IsSameNoted m.mark n.mark → SameValues (values_of m) (values_of n)
    → n.tree.odds ≡ m.tree.odds → KeepsMark m n
kept_mark m n noted same odds =
    marked_kept m.mark n.mark (classes_in m) (classes_in n) noted (same_classes m n same odds)

-- and where all voxels that change their class were noted
marked_more : (P : Voxel → Type 0) (n : ℕ) (a b : Option Held) (before after : Classes)
    → HasMarked before P n a b
    → ((k : Voxel) → IsInMap k → (after k ≡ before k) ⊎ P k)
    → SameMark (marked_by_notes a before) (marked_by_notes b after)
marked_more P n None b before after h cover =
    subst (λ x. SameMark None (marked_by_notes x after)) (sym h) tt
marked_more P n (Some old) b before after (held, is, noted, used, kept) cover =
    subst (λ x. SameMark (Some (marked_by old.notes before)) (marked_by_notes x after)) (sym is)
    (λ k v. sym (mark_kept before after P old.notes held.notes noted cover k v))

-- a voxel that takes an event is one of those that were asked for, and the others stay
pub events_cover : (o : Odds) (events : Events) (v w : Values) (P : Voxel → Type 0)
    → SameValues (updated o events v) w
    → ((k : Voxel) → IsInMap k → IsSome (events k) → P k)
    → (k : Voxel) → IsInMap k → (w k ≡ v k) ⊎ P k
events_cover o events v w P is asked k m = by_event (events k) refl
  where
    by_event : (e : Option Event) → events k ≡ e → (w k ≡ v k) ⊎ P k
    by_event None e = inl (sym (is k m) ∙ ap (λ x. after_event o x (v k)) e)
    by_event (Some event) e = inr (asked k m (ap is_some e))

-- a noted voxel was asked for
found_asked : (P : Voxel → Type 0) (notes : List Note) (k : Voxel)
    → All (λ (note : Note). P note.key) notes → IsSome (first_noted notes k) → P k
found_asked P [] k asked some = absurd (false≢true some)
found_asked P (note ∷ notes) k asked some =
    by_test (found_asked P notes k (rest_of_all (λ (note : Note). P note.key) note notes asked))
    (is_same_voxel note.key k) refl
  where
    by_test : (IsSome (first_noted notes k) → P k) → (same : Bool) → is_same_voxel note.key k ≡ same
        → P k
    by_test later true e = subst P (is_same_voxel_exact note.key k e)
        (first_of_all (λ (note : Note). P note.key) note notes asked)
    by_test later false e =
        (let here : first_noted (note ∷ notes) k ≡ first_noted notes k = rw e refl in
        later (subst IsSome here some))

either_noted : (o p : Option Class) → IsSome (option_or o p) → IsSome o ⊎ IsSome p
either_noted None p h = inr h
either_noted (Some x) p h = inl refl

-- what was noted is all that is noted besides
marked_only : (now : Classes) (P : Voxel → Type 0) (n : ℕ) (a b : Option Held)
    → HasMarked now P n a b → (k : Voxel) → IsNoted b k → IsNoted a k ⊎ P k
marked_only now P n None b h k noted =
    absurd (false≢true (subst (λ x. IsNoted x k) h noted))
marked_only now P n (Some old) b (held, is, h, used, kept) k noted =
    elim (either_noted (first_noted old.notes k) (first_noted h.added k)
    (subst IsSome (ap (λ l. first_noted l k) h.split ∙ first_noted-append old.notes h.added k)
    (subst (λ x. IsNoted x k) is noted)))
    [ inl before ↦ inl before | inr later ↦ inr (found_asked P h.added k h.only later) ]

-- this many notes came behind those that there were, in the same room
marked_behind : (now : Classes) (P : Voxel → Type 0) (n : ℕ) (a b : Option Held)
    → HasMarked now P n a b → IsNotedBehind a b n
marked_behind now P n None b h =
    record { added = []; notes = ap notes_of h; few = omega arith; room = ap note_room h }
marked_behind now P n (Some old) b (held, is, h, used, kept) = record {
  added = h.added;
  notes = ap notes_of is ∙ h.split;
  few = (let more = ap length h.split ∙ length-append old.notes h.added in
      omega (arith, more, used, kept));
  room = ap note_room is ∙ kept;
}

-- room was made before them, or there was room
behind_made : (a m b : Option Held) (n : ℕ) → IsNotedBehind m b n
    → (m ≡ a) ⊎ IsRoomMade a m n 0 → IsNotedBehind a b n ⊎ IsRoomMade a b n n
behind_made a m b n h (inl same) = inl (subst (λ x. IsNotedBehind x b n) same h)
behind_made a m b n h (inr made) = inr (record {
  few = (let more = ap length h.notes ∙ length-append (notes_of m) h.added in
      let few = made.few in
      let added = h.few in
      omega (arith, more, few, added));
  room = h.room ∙ made.room;
})

-- room was made among the notes of a mark
pub room_made : (old new : Held) (a b : Option Held) (n : ℕ) → (n ≤ old.spare → new ≡ old)
    → (old.spare < n → IsCompacted old new n) → a ≡ Some old → b ≡ Some new
    → (b ≡ a) ⊎ IsRoomMade a b n 0
room_made old new a b n enough made is becomes = elim (cases_lt old.spare n) [
  | inl wanting ↦ (let h = made wanting in
      let once = h.once in
      let few : length (notes_of b) ≤ noted_count a + 0 = rw (is, becomes) (omega (arith, once)) in
      inr (record { few = few; room = rw (is, becomes) h.room }))
  | inr there ↦ inl (becomes ∙ ap Some (enough there) ∙ sym is)
]

-- room is made and these voxels are noted
pub noted_few : (now : Classes) (P : Voxel → Type 0) (n : ℕ) (a m b : Option Held) (events : Events)
    → IsSameNoted a m → (m ≡ a) ⊎ IsRoomMade a m n 0 → (HasRoomForNotes a n → m ≡ a)
    → HasMarked now P n m b
    → ((k : Voxel) → IsInMap k → P k → IsSome (events k)) → NotesFew a b events n
noted_few now P n a m b events same made enough h asked = record {
  only = λ k v noted. elim (marked_only now P n m b h k noted) [
    | inl before ↦ inl (subst IsSome (same.first k) before)
    | inr later ↦ inr (asked k v later)
  ];
  enough = λ there. subst (λ x. IsNotedBehind x b n) (enough there) (marked_behind now P n m b h);
  made = behind_made a m b n (marked_behind now P n m b h) made;
}

-- nothing is noted
pub same_few : (n : ℕ) (a b : Option Held) (events : Events) → b ≡ a → NotesFew a b events n
same_few n a b events e = record {
  only = λ k v noted. inl (subst (λ x. IsNoted x k) e noted);
  enough = λ _. behind;
  made = inl behind;
}
  where
    behind : IsNotedBehind a b n
    behind = record {
      added = [];
      notes = ap notes_of e ∙ sym (append-nil (notes_of a));
      few = omega arith;
      room = ap note_room e;
    }

-- room was made in a map
pub readied_mark : (m u : Map) (need : ℕ) → IsReadied m u need → KeepsMark m u
readied_mark m u need ready =
    kept_mark m u (same_noted m.mark u.mark ready.notes) ready.values
    (ap (λ (g : Ground). g.odds) ready.setup)

-- an edit changes the class of no voxel but one that has an event
pub edit_cover : (u : Map) (w : Tree) (c : Option Held) (d : Events) (P : Voxel → Type 0)
    (lazy : Bool) → IsEdited u.tree w d → ((k : Voxel) → IsInMap k → IsSome (d k) → P k)
    → (k : Voxel) → IsInMap k → (classes_in (edited_to u w lazy c) k ≡ classes_in u k) ⊎ P k
edit_cover u w c d P lazy edited asked k v =
    elim (events_cover u.tree.odds d (values_of u) (value_at w) P edited.values asked k v) [
      | inl value ↦ inl (ap (λ (o : Odds). class_of o (value_at w k)) edited.odds
          ∙ ap (class_of u.tree.odds) value)
      | inr is ↦ inr is
    ]

-- room was made in a map, voxels were noted, and no other one changed its class
pub marked_change : (m u : Map) (w : Tree) (b c : Option Held) (P : Voxel → Type 0)
    (n need : ℕ) (lazy : Bool) → IsReadied m u need → IsSameNoted u.mark b
    → HasMarked (classes_in u) P n b c
    → ((k : Voxel) → IsInMap k
    → (classes_in (edited_to u w lazy c) k ≡ classes_in u k) ⊎ P k)
    → KeepsMark m (edited_to u w lazy c)
marked_change m u w b c P n need lazy ready noted marked cover =
    same_mark_trans (marked_of m) (marked_of u) (marked_of (edited_to u w lazy c))
    (readied_mark m u need ready)
    (same_mark_trans (marked_of u) (marked_by_notes b (classes_in u))
    (marked_of (edited_to u w lazy c))
    (marked_kept u.mark b (classes_in u) (classes_in u) noted (λ k v. refl))
    (marked_more P n b c (classes_in u) (classes_in (edited_to u w lazy c)) marked cover))

-- room was made in a map, its voxels were noted, and its tree was edited
pub marked_edit : (m u : Map) (w : Tree) (b c : Option Held) (d : Events) (P : Voxel → Type 0)
    (n need : ℕ) (lazy : Bool) → IsReadied m u need → IsSameNoted u.mark b
    → HasMarked (classes_in u) P n b c → IsEdited u.tree w d
    → ((k : Voxel) → IsInMap k → IsSome (d k) → P k) → KeepsMark m (edited_to u w lazy c)
marked_edit m u w b c d P n need lazy ready noted marked edited asked =
    marked_change m u w b c P n need lazy ready noted marked
    (edit_cover u w c d P lazy edited asked)

-- there was no room for notes
pub marked_room : (m u : Map) (b : Option Held) (need : ℕ) → IsReadied m u need → b ≡ u.mark
    → KeepsMark m (record u { mark = b })
marked_room m u b need ready same =
    same_mark_trans (marked_of m) (marked_of u) (marked_of (record u { mark = b }))
    (readied_mark m u need ready)
    (marked_kept u.mark b (classes_in u) (classes_in u) (same_noted u.mark b same) (λ k v. refl))

-- an equal mark in words of the first one
pub few_after : (n : ℕ) (a m b : Option Held) (events : Events) → m ≡ a → NotesFew m b events n
    → NotesFew a b events n
few_after n a m b events e few = subst (λ x. NotesFew x b events n) e few

-- the voxel of an edit is the one that has its event
pub edit_asked : (key : Voxel) (event : Event) (k : Voxel) → IsSome (event_at (Some key) event k)
    → k ≡ key
edit_asked key event k some = by_test (is_same_voxel key k) refl
  where
    by_test : (same : Bool) → is_same_voxel key k ≡ same → k ≡ key
    by_test true e = sym (is_same_voxel_exact key k e)
    by_test false e = absurd (false≢true (let h = rw e at some in h))

pub asked_edit : (target : Option Voxel) (key : Voxel) (event : Event) (k : Voxel)
    → target ≡ Some key → k ≡ key → IsSome (event_at target event k)
asked_edit target key event k is e = rw (is, e) (rw (is_same_voxel_refl key) refl)

-- those of a box are the ones in it
pub box_asked : (lo hi : Voxel) (event : Event) (k : Voxel) → IsSome (box_events lo hi event k)
    → IsInBox lo hi k
box_asked lo hi event k some = by_test (is_in_box lo hi k) refl
  where
    by_test : (inside : Bool) → is_in_box lo hi k ≡ inside → IsInBox lo hi k
    by_test true e = (in_box_exactly lo hi k).0 e
    by_test false e = absurd (false≢true (let h = rw e at some in h))

pub asked_box : (a b : Option Voxel) (lo hi : Voxel) (event : Event) (k : Voxel)
    → a ≡ Some lo → b ≡ Some hi → IsInBox lo hi k → IsSome (corner_events a b event k)
asked_box a b lo hi event k ea eb inside =
    (let there = (in_box_exactly lo hi k).1 inside in rw (ea, eb) (rw there refl))

-- those of a scan are hit or freed
pub scan_asked : (u : ListedUpdate) (k : Voxel) → IsSome (events_of u k)
    → Contains u.hits k ⊎ Contains u.frees k
scan_asked u k some =
    event_has (λ q. Contains u.hits q ⊎ Contains u.frees q) u k
    (All-follows (Contains u.hits) (λ q. Contains u.hits q ⊎ Contains u.frees q) u.hits
    (λ q h. inl h)
    (All-contains_itself u.hits))
    (All-follows (Contains u.frees) (λ q. Contains u.hits q ⊎ Contains u.frees q) u.frees
    (λ q h. inr h) (All-contains_itself u.frees))
    some

listed : (keys : List Voxel) (k : Voxel) → Contains keys k → is_listed keys k ≡ true
listed [] k h = absurd (contains_none k h)
listed (x ∷ keys) k h = elim (contains_cases x k keys h) [
  | inl here ↦ (let same : is_same_voxel k x ≡ true =
      subst (λ q. is_same_voxel q x ≡ true) here (is_same_voxel_refl x) in rw same refl)
  | inr later ↦ (let there = listed keys k later in by_test (is_same_voxel k x) refl there)
]
  where
    by_test : (same : Bool) → is_same_voxel k x ≡ same → is_listed keys k ≡ true
        → is_listed (x ∷ keys) k ≡ true
    by_test true e there = rw e refl
    by_test false e there = rw e there

pub asked_scan : (u : ListedUpdate) (e : Events) (k : Voxel) → SameEvents (events_of u) e
    → IsInMap k
    → Contains u.hits k ⊎ Contains u.frees k → IsSome (e k)
asked_scan u e k same v asked = subst IsSome (same k v) (some_event u k (elim asked [
  | inl hit ↦ inl (listed u.hits k hit)
  | inr freed ↦ inr (listed u.frees k freed)
]))

-- memory for notes wants only where there isn't room for them
pub lacks_notes : {e : Memory} (a m : Option Held) (n : ℕ) (r : Result ⊤ Memory) → m ≡ a → r ≡ Err e
    → (HasRoomForNotes m n → IsOk r) → LacksNotes a n
lacks_notes a m n r same err enough room =
    false≢true (subst IsOk err (enough (subst (λ x. HasRoomForNotes x n) (sym same) room)))

-- for no notes there is room
pub lacks_some : (mark : Option Held) (n : ℕ) → LacksNotes mark n → 0 < n
lacks_some None n lacks = absurd (lacks tt)
lacks_some (Some held) n lacks = elim (cases_lt 0 n) [
  | inl some ↦ some
  | inr none ↦ absurd (lacks (omega (arith, none)))
]

-- room that was made is an answer
pub room_ok : (r : Result ⊤ MapFault) → IsAnswerOrMemory r (Ok tt) → IsOk r
room_ok r (inl e) = subst IsOk e refl
room_ok r (inr e) = cc

pub edit_ok : (most : ℕ) (values : Values) (target : Option Voxel) (key : Voxel) → target ≡ Some key
    → IsAnswerOrMemory (room_answer most values edit_need) (Ok tt)
    → IsOk (edit_answer_at most values target)
edit_ok most values target key is answer =
    rw is (room_ok (room_answer most values edit_need) answer)

-- entries are the same whatever the mark is
pub reserved_remarked : (m n : Map) (mark : Option Held) (need : ℕ) → ReservesFew m n need
    → ReservesFew m (record n { mark = mark }) need
reserved_remarked m n mark need h =
    record { kept = h.kept; enough = h.enough; few = h.few }
