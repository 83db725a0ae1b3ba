-- The report of notes has each voxel whose class differs from its class at the mark, in order.
use Rattle.std.proofs.Common.{◌≡◌, zero, suc, Result, Ok, Err, IfOk, List, [], ◌∷◌, map, Bool, true}
use Rattle.std.proofs.Common.{false, Option, Some, None, refl, sym, ap, subst, ◌∙◌, arith}
use Rattle.std.specs.Prelude.{is_some, option_map}
use Rattle.std.specs.BTreeMap.{BTreeMap, IsOrdered, get}
use Rattle.std.specs.Map.{keys_of}
use Rattle.std.specs.Option.{unwrap_or}
use Rattle.std.specs.List.{All, AllByRecursion, Contains, filter_map}
use Rattle.std.specs.List.Sorted.{IsStrictlySortedBy}
use Rattle.std.specs.Ordering.{is_eq}
use Rattle.std.specs.declared.cmp.Ordering.TheVariants.{Less}
use Rattle.std.proofs.lemmas.Bool.{false≢true}
use Rattle.std.proofs.lemmas.List.Elements.{All-contains, All-contains_itself}
use Rattle.std.proofs.lemmas.Map.Views.{All-found, Contains-from_lookup}
use Rattle.oct_key.specs.Voxel.{Voxel, IsInMap}
use Rattle.oct_key.specs.Order.{key_cmp}
use Rattle.oct_key.specs.Values.{is_same_voxel}
use Rattle.oct_key.proofs.SameVoxels.{is_same_voxel_exact}
use Rattle.oct_key.proofs.Order.{key_cmp_total, is_at-key_cmp}
use Rattle.oct_key.proofs.OneOrder.{on_first, on_rest}
use Rattle.oct_odds.specs.declared.event.Class.{Class}
use Rattle.oct_odds.specs.declared.event.Class.TheVariants.{Unknown, Free, Occupied}
use Rattle.oct_values.proofs.Sums.{first_of_all, rest_of_all, All-follows}
use Rattle.oct_change.specs.declared.kind.Kind.{Kind}
use Rattle.oct_change.specs.declared.kind.Change.{Change}
use Rattle.oct_change.specs.declared.changes.Note.{Note}
use Rattle.oct_values.specs.Classes.{Classes}
use Rattle.oct_change.specs.Notes.{first_noted, marked_by}
use Rattle.oct_change.specs.Changes.{kind_between, change_of, AreChanges}

-- the change of a noted voxel, if its class now is another one
abbrev pub entry_change : Classes → Voxel × Class → Option Change
entry_change now e = change_of e.0 e.1 (now e.0)

pub some_is : {A : Type 0} (a b : A) → ◌≡◌ {A = Option A} (Some a) (Some b) → a ≡ b
some_is a b e = cc

-- what a function gives of an element is among what it gives of the list
pub contains_kept : {X Y : Type 0} (f : X → Option Y) (xs : List X) (x : X) (y : Y)
    → Contains xs x → f x ≡ Some y → Contains (filter_map f xs) y
contains_kept f [] x y (k, l, is) gives = absurd (omega arith)
contains_kept f (z ∷ zs) x y (zero, l, is) gives = (let here : f z ≡ Some y = ap f is
    ∙ gives in rw here (on_first (filter_map f zs) y))
contains_kept {Y = Y} f (z ∷ zs) x y (suc k, l, is) gives = go (f z)
    (contains_kept f zs x y (k, omega arith, is) gives) refl
  where
    go : (o : Option Y) → Contains (filter_map f zs) y → f z ≡ o
        → Contains (filter_map f (z ∷ zs)) y
    go None rest e = rw e rest
    go (Some w) rest e = rw e (on_rest w (filter_map f zs) y rest)

-- and comes from one
pub contains_from : {X Y : Type 0} (f : X → Option Y) (xs : List X) (y : Y)
    → Contains (filter_map f xs) y → (x : X) × Contains xs x × (f x ≡ Some y)
contains_from f [] y (k, l, is) = absurd (omega arith)
contains_from {X = X} {Y = Y} f (z ∷ zs) y there = go (f z) (contains_from f zs y) refl there
  where
    next : (x : X) × Contains zs x × (f x ≡ Some y) → (x : X) × Contains (z ∷ zs) x × (f x ≡ Some y)
    next (x, c, e) = (x, on_rest z zs x c, e)

    go : (o : Option Y) → (Contains (filter_map f zs) y
        → (x : X) × Contains zs x × (f x ≡ Some y)) → f z ≡ o
        → Contains (filter_map f (z ∷ zs)) y → (x : X) × Contains (z ∷ zs) x × (f x ≡ Some y)
    go None rest e c = (let d : Contains (filter_map f zs) y = rw e at c in next (rest d))
    go (Some w) rest e c = by_place (rw e at c)
      where
        by_place : Contains (w ∷ filter_map f zs) y → (x : X) × Contains (z ∷ zs) x × (f x ≡ Some y)
        by_place (zero, l, is) = (z, on_first zs z, e ∙ ap Some is)
        by_place (suc k, l, is) = next (rest (k, omega arith, is))

-- the keys of changes are keys of the entries, in their order
after_first : (now : Classes) (P : Voxel → Type 0) (es : List (Voxel × Class))
    → AllByRecursion P (keys_of es)
    → AllByRecursion P (map (λ (change : Change). change.key) (filter_map (entry_change now) es))
after_first now P [] h = h
after_first now P (e ∷ es) h = go (kind_between e.1 (now e.0)) refl (after_first now P es h.1)
  where
    go : (kind : Option Kind) → kind_between e.1 (now e.0) ≡ kind
        → AllByRecursion P (map (λ (change : Change). change.key)
        (filter_map (entry_change now) es))
        → AllByRecursion P (map (λ (change : Change). change.key)
        (filter_map (entry_change now) (e ∷ es)))
    go None is rest = rw is rest
    go (Some kind) is rest = rw is (h.0, rest)

pub rises : (now : Classes) (es : List (Voxel × Class)) → IsStrictlySortedBy key_cmp (keys_of es)
    → IsStrictlySortedBy key_cmp (map (λ (change : Change). change.key)
    (filter_map (entry_change now) es))
unfolding IsStrictlySortedBy
rises now [] h = h
rises now (e ∷ es) h = go (kind_between e.1 (now e.0)) refl (rises now es h.1)
  where
    go : (kind : Option Kind) → kind_between e.1 (now e.0) ≡ kind
        → IsStrictlySortedBy key_cmp (map (λ (change : Change). change.key)
        (filter_map (entry_change now) es))
        → IsStrictlySortedBy key_cmp (map (λ (change : Change). change.key)
        (filter_map (entry_change now) (e ∷ es)))
    go None is rest = rw is rest
    go (Some kind) is rest = rw is (after_first now (λ q. key_cmp e.0 q ≡ Less) es h.0, rest)

-- a voxel that is noted is the voxel of a note
pub noted_of : (P : Voxel → Type 0) (notes : List Note) (k : Voxel)
    → All (λ (note : Note). P note.key) notes → is_some (first_noted notes k) ≡ true → P k
noted_of P [] k all h = absurd (false≢true h)
noted_of P (note ∷ notes) k all h = go
    (noted_of P notes k (rest_of_all (λ (note : Note). P note.key) note notes all))
    (is_same_voxel note.key k) refl
  where
    go : (is_some (first_noted notes k) ≡ true → P k) → (same : Bool)
        → is_same_voxel note.key k ≡ same → P k
    go later true e = subst P (is_same_voxel_exact note.key k e)
        (first_of_all (λ (note : Note). P note.key) note notes all)
    go later false e = (let here : first_noted (note ∷ notes) k ≡ first_noted notes k = rw e refl
        in later (ap is_some (sym here) ∙ h))

-- a class doesn't change to itself
no_kind : (c : Class) → kind_between c c ≡ None
no_kind Unknown = refl
no_kind Free = refl
no_kind Occupied = refl

abbrev made : Voxel → Kind → Change
made k kind = record { key = k; kind = kind }

-- the parts of a change
pub change_is : (now : Classes) (k q : Voxel) (before : Class) (kind : Kind)
    → entry_change now (q, before) ≡ Some (record { key = k; kind = kind })
    → (q ≡ k) × (kind_between before (now q) ≡ Some kind)
change_is now k q before kind h = go (kind_between before (now q)) refl h
  where
    go : (o : Option Kind) → kind_between before (now q) ≡ o
        → option_map (made q) o ≡ Some (made k kind)
        → (q ≡ k) × (kind_between before (now q) ≡ Some kind)
    go None e h = cc
    go (Some other) e h = (let same : made q other ≡ made k kind = some_is _ _ h in (
      ap (λ (change : Change). change.key) same,
      e ∙ ap (λ (change : Change). Some change.kind) same,
    ))

pub reported : (notes : List Note) (now : Classes) (m : BTreeMap Voxel Class)
    (changes : List Change) → All (λ (note : Note). IsInMap note.key) notes → ((k : Voxel)
    → get key_cmp m k ≡ first_noted notes k) → IsOrdered key_cmp m
    → changes ≡ filter_map (entry_change now) m.entries
    → AreChanges (marked_by notes now) now changes
reported notes now m changes in_map first ordered are = subst
    (AreChanges (marked_by notes now) now) (sym are) (record {
      rise = rises now m.entries ordered;
      inside = inside;
      exact = λ k v kind. (to k kind, from k kind);
    })
  where
    found : (e : Voxel × Class) → Contains m.entries e → first_noted notes e.0 ≡ Some e.1
    found e there = sym (first e.0) ∙ All-contains
        (λ (e : Voxel × Class). get key_cmp m e.0 ≡ Some e.1) m.entries e
        (All-found key_cmp_total m ordered) there

    to : (k : Voxel) (kind : Kind) → Contains (filter_map (entry_change now) m.entries)
        (record { key = k; kind = kind }) → kind_between (marked_by notes now k) (now k) ≡ Some kind
    to k kind there =
        let (e, c, gives) = contains_from (entry_change now) m.entries
        (record { key = k; kind = kind }) there in
        let (same, is) = change_is now k e.0 e.1 kind gives in
        let before : marked_by notes now e.0 ≡ e.1 = ap (λ o. unwrap_or o (now e.0)) (found e c) in
        subst (λ q. kind_between (marked_by notes now q) (now q) ≡ Some kind) same
        (ap (λ b. kind_between b (now e.0)) before ∙ is)

    from : (k : Voxel) (kind : Kind) → kind_between (marked_by notes now k) (now k) ≡ Some kind
        → Contains (filter_map (entry_change now) m.entries) (record { key = k; kind = kind })
    from k kind h = go (first_noted notes k) refl h
      where
        same_key : (x y : Voxel) → is_eq (key_cmp x y) ≡ true → x ≡ y
        same_key x y e = is_same_voxel_exact x y (sym (is_at-key_cmp x y) ∙ e)

        none_some : (x : Kind) → ◌≡◌ {A = Option Kind} None (Some x) → ⊥
        none_some x e = cc

        go : (o : Option Class) → first_noted notes k ≡ o
            → kind_between (unwrap_or o (now k)) (now k) ≡ Some kind
            → Contains (filter_map (entry_change now) m.entries) (record { key = k; kind = kind })
        go None e h = absurd (none_some kind (sym (no_kind (now k)) ∙ h))
        go (Some before) e h = contains_kept (entry_change now) m.entries (k, before)
            (record { key = k; kind = kind })
            (Contains-from_lookup same_key k before m.entries (first k
            ∙ e)) (ap (option_map (λ kind. record { key = k; kind = kind })) h)

    in_map_each : (change : Change) → Contains (filter_map (entry_change now) m.entries) change
        → IsInMap change.key
    in_map_each change there =
        let (e, c, gives) = contains_from (entry_change now) m.entries change there in
        let (same, is) = change_is now change.key e.0 e.1 change.kind gives in
        subst IsInMap same (noted_of IsInMap notes e.0 in_map (ap is_some (found e c)))

    inside : All (λ (change : Change). IsInMap change.key) (filter_map (entry_change now) m.entries)
    inside = All-follows (Contains (filter_map (entry_change now) m.entries))
        (λ (change : Change). IsInMap change.key) (filter_map (entry_change now) m.entries)
        in_map_each (All-contains_itself (filter_map (entry_change now) m.entries))

pub reported_ok : {E : Type 0} (r : Result (List Change) E) (notes : List Note) (now : Classes)
    (m : BTreeMap Voxel Class) → All (λ (note : Note). IsInMap note.key) notes → ((k : Voxel)
    → get key_cmp m k ≡ first_noted notes k) → IsOrdered key_cmp m
    → IfOk r (λ changes. changes ≡ filter_map (entry_change now) m.entries)
    → IfOk r (λ changes. AreChanges (marked_by notes now) now changes)
reported_ok (Ok changes) notes now m in_map first ordered are = reported notes now m changes in_map
    first ordered are
reported_ok (Err e) notes now m in_map first ordered are = tt
