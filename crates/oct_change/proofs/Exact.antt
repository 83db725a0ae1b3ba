-- The report of notes is the one list of changes since the mark.
use Rattle.std.proofs.Common.{◌≡◌, zero, suc, Result, Ok, Err, IfOk, List, []}
use Rattle.std.proofs.Common.{◌∷◌, map, Option, Some, None, refl, sym, ap, subst, ◌∙◌}
use Rattle.std.proofs.Common.{arith}
use Rattle.std.specs.Prelude.{option_map}
use Rattle.std.specs.List.{AllByRecursion, Contains, filter_map}
use Rattle.std.specs.List.Sorted.{IsStrictlySortedBy}
use Rattle.std.specs.Map.{keys_of}
use Rattle.std.specs.declared.cmp.Ordering.TheVariants.{Less}
use Rattle.std.proofs.lemmas.List.Elements.{All-contains, All-contains_itself}
use Rattle.oct_key.specs.Voxel.{Voxel, IsInMap}
use Rattle.oct_key.specs.Order.{key_cmp, voxels_in_order}
use Rattle.oct_key.proofs.Order.{one_way}
use Rattle.oct_key.proofs.OneOrder.{on_first, on_rest, one_order}
use Rattle.oct_key.proofs.InOrder.{in_order_sorted, in_order_all, in_order_inside}
use Rattle.oct_odds.specs.declared.event.Class.{Class}
use Rattle.oct_values.proofs.Sums.{All-follows}
use Rattle.oct_change.specs.declared.kind.Kind.{Kind}
use Rattle.oct_change.specs.declared.kind.Change.{Change}
use Rattle.oct_values.specs.Classes.{Classes}
use Rattle.oct_change.specs.Changes.{kind_between, change_of, changes_between, AreChanges}
use Rattle.oct_change.proofs.Reports.{entry_change, contains_kept, contains_from, rises, change_is}

-- the voxels with their classes
abbrev marked : Classes → List (Voxel × Class)
marked before = map (λ k. (k, before k)) voxels_in_order

keys_marked : (before : Classes) (ks : List Voxel)
    → keys_of (map (λ (k : Voxel). (k, before k)) ks) ≡ ks
keys_marked before [] = refl
keys_marked before (k ∷ ks) = ap (λ l. k ∷ l) (keys_marked before ks)

marked_there : (before : Classes) (ks : List Voxel) (k : Voxel) → Contains ks k
    → Contains {X = Voxel × Class} (map (λ (k : Voxel). (k, before k)) ks) (k, before k)
marked_there before [] k (n, l, is) = absurd (omega arith)
marked_there before (q ∷ qs) k (zero, l, is) = subst
    (λ j. Contains {X = Voxel × Class} (map (λ (k : Voxel). (k, before k)) (q ∷ qs)) (j, before j))
    is (on_first (map (λ (k : Voxel). (k, before k)) qs) (q, before q))
marked_there before (q ∷ qs) k (suc n, l, is) = on_rest (q, before q)
    (map (λ (k : Voxel). (k, before k)) qs) (k, before k)
    (marked_there before qs k (n, omega arith, is))

marked_from : (before : Classes) (ks : List Voxel) (e : Voxel × Class)
    → Contains (map (λ (k : Voxel). (k, before k)) ks) e → Contains ks e.0 × (e.1 ≡ before e.0)
marked_from before [] e (n, l, is) = absurd (omega arith)
marked_from before (q ∷ qs) e (zero, l, is) = subst
    (λ (d : Voxel × Class). Contains (q ∷ qs) d.0 × (d.1 ≡ before d.0)) is (on_first qs q, refl)
marked_from before (q ∷ qs) e (suc n, l, is) =
    (let rest = marked_from before qs e (n, omega arith, is) in (on_rest q qs e.0 rest.0, rest.1))

-- which change as they do
same_change : (before after : Classes) (ks : List Voxel)
    → filter_map (entry_change after) (map (λ (k : Voxel). (k, before k)) ks) ≡ filter_map
    (λ k. change_of k (before k) (after k)) ks
same_change before after [] = refl
same_change before after (k ∷ ks) = go (kind_between (before k) (after k)) refl
    (same_change before after ks)
  where
    go : (kind : Option Kind) → kind_between (before k) (after k) ≡ kind
        → filter_map (entry_change after) (map (λ (k : Voxel). (k, before k)) ks) ≡ filter_map
        (λ k. change_of k (before k) (after k)) ks
        → filter_map (entry_change after) (map (λ (k : Voxel). (k, before k)) (k ∷ ks)) ≡
        filter_map (λ k. change_of k (before k) (after k)) (k ∷ ks)
    go None is rest = rw is rest
    go (Some kind) is rest = rw is (ap (λ l. record { key = k; kind = kind } ∷ l) rest)

-- the changes in the order of the map's voxels
abbrev listed : Classes → Classes → List Change
listed before after = filter_map (entry_change after) (marked before)

pub listed_changes : (before after : Classes) → AreChanges before after (listed before after)
listed_changes before after = record {
  rise = rises after (marked before) (subst (IsStrictlySortedBy key_cmp)
      (sym (keys_marked before voxels_in_order)) in_order_sorted);
  inside = All-follows (Contains (listed before after)) (λ (change : Change). IsInMap change.key)
      (listed before after) in_map (All-contains_itself (listed before after));
  exact = λ k v kind. (to k kind, from k v kind);
}
  where
    in_map : (change : Change) → Contains (listed before after) change → IsInMap change.key
    in_map change there =
        let (e, c, gives) = contains_from (entry_change after) (marked before) change there in
        let (same, is) = change_is after change.key e.0 e.1 change.kind gives in
        subst IsInMap same (All-contains IsInMap voxels_in_order e.0 in_order_inside
        (marked_from before voxels_in_order e c).0)

    to : (k : Voxel) (kind : Kind) → Contains (listed before after)
        (record { key = k; kind = kind }) → kind_between (before k) (after k) ≡ Some kind
    to k kind there =
        let (e, c, gives) = contains_from (entry_change after) (marked before)
        (record { key = k; kind = kind }) there in
        let (same, is) = change_is after k e.0 e.1 kind gives in
        subst (λ q. kind_between (before q) (after q) ≡ Some kind) same
        (ap (λ b. kind_between b (after e.0)) (sym (marked_from before voxels_in_order e c).1) ∙ is)

    from : (k : Voxel) → IsInMap k → (kind : Kind)
        → kind_between (before k) (after k) ≡ Some kind
        → Contains (listed before after) (record { key = k; kind = kind })
    from k v kind h = contains_kept (entry_change after) (marked before) (k, before k)
        (record { key = k; kind = kind })
        (marked_there before voxels_in_order k (in_order_all k v))
        (ap (option_map (λ kind. record { key = k; kind = kind })) h)

-- there is one list of changes, and it is right
key_steps : (x : Change) (xs : List Change)
    → AllByRecursion (λ q. key_cmp x.key q ≡ Less) (map (λ (change : Change). change.key) xs)
    → AllByRecursion (λ (y : Change). key_cmp x.key y.key ≡ Less) xs
key_steps x [] h = h
key_steps x (y ∷ ys) h = (h.0, key_steps x ys h.1)

step_of : (x : Change) (xs : List Change)
    → IsStrictlySortedBy key_cmp (map (λ (change : Change). change.key) (x ∷ xs))
    → AllByRecursion (λ (y : Change). key_cmp x.key y.key ≡ Less) xs × IsStrictlySortedBy key_cmp
    (map (λ (change : Change). change.key) xs)
unfolding IsStrictlySortedBy
step_of x xs h = (key_steps x xs h.0, h.1)

pub right_changes : (before after : Classes)
    → AreChanges before after (changes_between before after)
right_changes before after =
    subst (AreChanges before after) (same_change before after voxels_in_order)
    (listed_changes before after)

pub one_report : (before after : Classes) (xs : List Change) → AreChanges before after xs
    → xs ≡ changes_between before after
one_report before after xs h =
    one_order (λ (x y : Change). key_cmp x.key y.key ≡ Less)
    (λ (xs : List Change). IsStrictlySortedBy key_cmp (map (λ (change : Change). change.key) xs))
    (λ x y f g. one_way x.key y.key f g) step_of xs (changes_between before after) h.rise all.rise
    (λ x there. (let v = All-contains (λ (change : Change). IsInMap change.key) xs x h.inside there
    in (all.exact x.key v x.kind).1 ((h.exact x.key v x.kind).0 there)))
    (λ x there. (let v = All-contains (λ (change : Change). IsInMap change.key)
    (changes_between before after) x all.inside there in (h.exact x.key v x.kind).1
    ((all.exact x.key v x.kind).0 there)))
  where
    all : AreChanges before after (changes_between before after)
    all = right_changes before after

pub one_report_ok : {E : Type 0} (r : Result (List Change) E) (before after : Classes)
    → IfOk r (λ changes. AreChanges before after changes)
    → IfOk r (λ changes. changes ≡ changes_between before after)
one_report_ok (Ok changes) before after h = one_report before after changes h
one_report_ok (Err e) before after h = tt
