-- Notes of several voxels, one after another.
use Rattle.std.proofs.Common.{◌≡◌, ℕ, ◌+◌, ◌≤◌, List, [], ◌∷◌, ◌++◌, length}
use Rattle.std.proofs.Common.{Option, Some, None, inl, inr, refl, sym, ap, subst, ◌∙◌, arith}
use Rattle.std.proofs.Common.{append_assoc, append-nil}
use Rattle.std.specs.Prelude.{◌⊎◌, IsSome, All, Contains}
use Rattle.std.specs.Option.{option_or}
use Rattle.std.proofs.lemmas.Bool.{false≢true}
use Rattle.std.proofs.lemmas.List.Elements.{All-append, All-cons, All-nil, Contains-append_left}
use Rattle.std.proofs.lemmas.List.Elements.{Contains-append_right, Contains-append_cases}
use Rattle.std.proofs.lemmas.List.{length-append}
use Rattle.oct_brick.proofs.Lists.{contains_none, contains_here, contains_cases}
use Rattle.oct_key.specs.Voxel.{Voxel}
use Rattle.oct_key.proofs.SameVoxels.{is_same_voxel_refl}
use Rattle.oct_odds.specs.declared.event.Class.{Class}
use Rattle.oct_values.specs.Classes.{Classes}
use Rattle.oct_values.proofs.Sums.{All-follows}
use Rattle.oct_change.specs.declared.changes.Note.{Note}
use Rattle.oct_change.specs.Notes.{first_noted, HasNoted}
use Rattle.oct_change.proofs.Marks.{first_noted-append}

-- the note of one voxel
pub noted_one : (now : Classes) (old new : List Note) (k : Voxel) (c : Class) → c ≡ now k
    → new ≡ old ++ record { key = k; before = c } ∷ [] → HasNoted now (λ q. q ≡ k) old new
noted_one now old new k c is added = record {
  added = record { key = k; before = c } ∷ [];
  split = added;
  right = one_right;
  only = one_asked;
  whole = λ q v asked. whole q asked;
}
  where
    one_right : All (λ (note : Note). note.before ≡ now note.key)
        (record { key = k; before = c } ∷ [])
    one_right = All-cons (λ (note : Note). note.before ≡ now note.key)
        (record { key = k; before = c }) [] is
        (All-nil (λ (note : Note). note.before ≡ now note.key))

    one_asked : All (λ (note : Note). note.key ≡ k) (record { key = k; before = c } ∷ [])
    one_asked = All-cons (λ (note : Note). note.key ≡ k) (record { key = k; before = c }) [] refl
        (All-nil (λ (note : Note). note.key ≡ k))

    whole : (q : Voxel) → q ≡ k → IsSome (first_noted (record { key = k; before = c } ∷ []) q)
    whole q e = rw e (rw (is_same_voxel_refl k) refl)

-- nothing was asked for
pub noted_none : (now : Classes) (P : Voxel → Type 0) (old : List Note) → ((k : Voxel) → P k → ⊥)
    → HasNoted now P old old
noted_none now P old none = record {
  added = [];
  split = sym (append-nil old);
  right = All-nil (λ (note : Note). note.before ≡ now note.key);
  only = All-nil (λ (note : Note). P note.key);
  whole = λ k v asked. absurd (none k asked);
}

some_or : {A : Type 0} (o p : Option A) → IsSome o ⊎ IsSome p → IsSome (option_or o p)
some_or None p (inl h) = absurd (false≢true h)
some_or None p (inr h) = h
some_or (Some x) p h = refl

-- voxels of one kind, and then those of another
pub noted_join : (now : Classes) (P Q R : Voxel → Type 0) (old mid new : List Note)
    → HasNoted now P old mid → HasNoted now Q mid new
    → ((k : Voxel) → R k → P k ⊎ Q k) → ((k : Voxel) → P k → R k) → ((k : Voxel) → Q k → R k)
    → HasNoted now R old new
noted_join now P Q R old mid new f g cover first second = record {
  added = f.added ++ g.added;
  split = g.split ∙ ap (λ l. l ++ g.added) f.split ∙ append_assoc old f.added g.added;
  right = All-append (λ (note : Note). note.before ≡ now note.key) f.added g.added f.right g.right;
  only = All-append (λ (note : Note). R note.key) f.added g.added
      (All-follows (λ (note : Note). P note.key) (λ (note : Note). R note.key) f.added
      (λ note. first note.key) f.only)
      (All-follows (λ (note : Note). Q note.key) (λ (note : Note). R note.key) g.added
      (λ note. second note.key) g.only);
  whole = λ k v asked. subst IsSome (sym (first_noted-append f.added g.added k))
      (some_or (first_noted f.added k) (first_noted g.added k)
      (elim (cover k asked) [ inl p ↦ inl (f.whole k v p) | inr q ↦ inr (g.whole k v q) ]));
}

-- Of a list of voxels the first ones are noted, and these are left.
pub record IsUnderWay (now : Classes) (whole left : List Voxel) (old new : List Note)
    (before after : ℕ) : Type 0 where
  pub done : List Voxel
  pub split : whole ≡ done ++ left
  pub noted : HasNoted now (Contains done) old new
  pub room : before ≡ after + length done

pub under_way_start : (now : Classes) (whole : List Voxel) (old : List Note) (spare : ℕ)
    → IsUnderWay now whole whole old old spare spare
under_way_start now whole old spare = record {
  done = [];
  split = refl;
  noted = noted_none now (Contains []) old (λ k h. contains_none k h);
  room = omega arith;
}

-- one voxel more
pub under_way_step : (now : Classes) (whole left rest : List Voxel) (k : Voxel)
    (old mid new : List Note) (before between after : ℕ)
    → IsUnderWay now whole left old mid before between → left ≡ k ∷ rest
    → HasNoted now (λ q. q ≡ k) mid new → between ≡ after + 1
    → IsUnderWay now whole rest old new before after
under_way_step now whole left rest k old mid new before between after u taken f room = record {
  done = u.done ++ k ∷ [];
  split = u.split ∙ ap (λ l. u.done ++ l) taken ∙ sym (append_assoc u.done (k ∷ []) rest);
  noted = noted_join now (Contains u.done) (λ q. q ≡ k) (Contains (u.done ++ k ∷ [])) old mid new
      u.noted f cover first second;
  room = (let total = u.room in let longer = length-append u.done (k ∷ []) in omega
      (arith, total, longer, room));
}
  where
    alone : (q : Voxel) → Contains (k ∷ []) q → q ≡ k
    alone q h = elim (contains_cases k q [] h)
        [ inl e ↦ sym e | inr none ↦ absurd (contains_none q none) ]

    cover : (q : Voxel) → Contains (u.done ++ k ∷ []) q → Contains u.done q ⊎ (q ≡ k)
    cover q h = elim (Contains-append_cases u.done (k ∷ []) q h)
        [ inl a ↦ inl a | inr b ↦ inr (alone q b) ]

    first : (q : Voxel) → Contains u.done q → Contains (u.done ++ k ∷ []) q
    first q h = Contains-append_left u.done (k ∷ []) q h

    second : (q : Voxel) → q ≡ k → Contains (u.done ++ k ∷ []) q
    second q e = Contains-append_right u.done (k ∷ []) q
        (subst (Contains (k ∷ [])) (sym e) (contains_here k []))

-- all of them
pub under_way_end : (now : Classes) (whole left : List Voxel) (old new : List Note)
    (before after : ℕ) → IsUnderWay now whole left old new before after
    → left ≡ [] → HasNoted now (Contains whole) old new × (before ≡ after + length whole)
under_way_end now whole left old new before after u none =
    let all : whole ≡ u.done = u.split ∙ ap (λ l. u.done ++ l) none ∙ append-nil u.done in
    let total = u.room in
    let long = ap length all in
    (subst (λ l. HasNoted now (Contains l) old new) (sym all) u.noted, omega (arith, total, long))

-- there is room for the next one
pub under_way_room : (now : Classes) (whole left rest : List Voxel) (k : Voxel)
    (old new : List Note) (before after : ℕ)
    → IsUnderWay now whole left old new before after → left ≡ k ∷ rest → length whole ≤ before
    → 1 ≤ after
under_way_room now whole left rest k old new before after u taken room =
    let total = u.room in
    let long = ap length u.split ∙ length-append u.done left in
    let more = ap length taken in
    omega (arith, total, long, more, room)
