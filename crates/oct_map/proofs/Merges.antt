-- What a merge needs and leaves of a map.
use Rattle.std.proofs.Common.{◌≡◌, ℕ, ◌+◌, ◌<◌, ◌≤◌, Bool, true, false, Some, None, Ok, Err, inl}
use Rattle.std.proofs.Common.{inr, refl, sym, subst, ◌∙◌, ap, arith}
use Rattle.std.specs.Prelude.{Option, ◌&&◌, ◌⊎◌, not, ⊤, Result, nat_lt, if◌then◌else◌}
use Rattle.std.specs.Prelude.{IfErr, IsTrue, IsSome, OnOk, is_some}
use Rattle.std.proofs.lemmas.Bool.{false≢true, cases_lt, lt-ltb, le-ltb}
use Rattle.oct_key.specs.Voxel.{Voxel, IsInMap}
use Rattle.oct_key.specs.Values.{Values, SameValues}
use Rattle.oct_key.specs.Block.{Cube, IsBlock, lowest_voxel}
use Rattle.oct_key.proofs.Blocks.{lowest_held, lowest_in_map}
use Rattle.oct_key.proofs.Boxes.{in_box_exactly}
use Rattle.oct_values.specs.Blocks.{blocks_above_voxels}
use Rattle.oct_values.specs.Counts.{is_uniform, group_count}
use Rattle.oct_values.proofs.Listed.{all_above_voxels}
use Rattle.oct_values.proofs.Sums.{All-follows, count_by-same}
use Rattle.oct_values.proofs.Uniform.{same_uniform, same_group_count}
use Rattle.oct_values.specs.Events.{Events}
use Rattle.oct_values.specs.Classes.{Classes}
use Rattle.oct_odds.specs.Update.{Value}
use Rattle.oct_key.specs.Boxes.{Window, IsInBox, box_volume}
use Rattle.oct_change.specs.Held.{Held}
use Rattle.oct_change.proofs.Noting.{noted_none}
use Rattle.oct_arena.specs.Entries.{home_at, live}
use Rattle.oct_arena.specs.Nodes.{link_of}
use Rattle.oct_tree.specs.Tree.{Tree, IsLinked, reach, value_at}
use Rattle.oct_tree.specs.Changes.{IsGrown}
use Rattle.oct_tree.specs.Shape.{IsPruned}
use Rattle.oct_tree.proofs.Over.{over_lowest, over_home}
use Rattle.oct_inner.specs.Changes.{IsShrunk}
use Rattle.oct_edit.proofs.Wholes.{same_total}
use Rattle.oct_edit.specs.Edits.{IsEdited}
use Rattle.oct_query.specs.Extent.{IsExtent, IsLeastBox}
use Rattle.oct_query.proofs.Needed.{home_or_uniform, home_varied, pruned_groups}
use Rattle.oct_merge.specs.Merged.{merge_event, merge_events}
use Rattle.oct_merge.specs.declared.rule.Rule.{Rule}
use Rattle.oct_merge.specs.Need.{merge_need}
use Rattle.oct_merge.specs.Walk.{is_split, is_needed}
use Rattle.oct_merge.proofs.Homes.{need_by_blocks}
use Rattle.oct_map.specs.declared.fault.MapFault.{MapFault}
use Rattle.oct_map.specs.declared.fault.MapFault.TheVariants.{Full, WideWhileTracked}
use Rattle.oct_map.specs.Ground.{Ground}
use Rattle.oct_map.specs.Map.{Map, IsMap, values_of}
use Rattle.oct_map.specs.Answers.{IsAnswerOrMemory, most_noted, room_answer}
use Rattle.oct_map.specs.Edits.{IsReadied, IsMapEdited, IsMapRefused, KeepsAllElse, LacksEntries}
use Rattle.oct_map.specs.Edits.{ReservesFew}
use Rattle.oct_map.specs.Edits.{fitted_groups, entries_of}
use Rattle.oct_map.specs.Marks.{classes_in, KeepsMark, SameMark}
use Rattle.oct_map.specs.Notes.{HasMarked, HasRoomForNotes, IsNotedBehind, IsSameNoted, LacksNotes}
use Rattle.oct_map.specs.Notes.{NotesFew, marked_by_notes}
use Rattle.oct_map.specs.Merges.{HasMerged, IsInGiven, IsMergedInto, IsMergeRefused}
use Rattle.oct_map.specs.Merges.{IsMergeReserved, merged_values}
use Rattle.oct_map.specs.Merges.{IsPrunedAtMost, IsWide, given_events, given_volume}
use Rattle.oct_map.specs.Merges.{is_parted_by, more_groups, note_answer, union_answer}
use Rattle.oct_map.proofs.Rooms.{fitted_own, fitted_least}
use Rattle.oct_map.proofs.Edits.{edited_to}
use Rattle.oct_map.proofs.Marks.{edit_cover, marked_change}

is_false : (a : Bool) → (a ≡ true → ⊥) → a ≡ false
is_false true h = absurd (h refl)
is_false false h = refl

-- in a pruned tree the node over a block links a group exactly where the block has several values
split_varied : (t : Tree) (b : Cube) → IsLinked t → IsPruned t → IsBlock b
    → is_split t b ≡ not (is_uniform (value_at t) b)
split_varied t b l pruned ok = elim (home_or_uniform t b l ok) [
  | inl (none, uniform) ↦
      by_link none uniform (link_of (reach t b.depth (lowest_voxel b))) refl
  | inr (x, home) ↦
      ap is_some (l.reached x b home (lowest_voxel b) (lowest_in_map b ok) (lowest_held b))
      ∙ ap not (sym (is_false (is_uniform (value_at t) b) (home_varied t b x l pruned home)))
]
  where
    by_link : ((x : ℕ) → home_at t.groups x ≡ Some b → ⊥) → is_uniform (value_at t) b ≡ true
        → (o : Option ℕ) → link_of (reach t b.depth (lowest_voxel b)) ≡ o
        → is_split t b ≡ not (is_uniform (value_at t) b)
    by_link none uniform None e = ap is_some e ∙ ap not (sym uniform)
    by_link none uniform (Some x) e =
        absurd (none x (over_home t b (reach t b.depth (lowest_voxel b)) x l ok
        (over_lowest t b ok) e))

not_not : (a : Bool) → not (not a) ≡ a
not_not true = refl
not_not false = refl

-- what a merge of pruned trees may take is what their values need
pub pruned_more : (t o : Tree) → IsLinked t → IsPruned t → IsLinked o → IsPruned o
    → merge_need t o ≡ more_groups (value_at t) (value_at o)
unfolding more_groups
pruned_more t o l pruned lo their_pruned =
    need_by_blocks t o l lo
    ∙ count_by-same (is_needed t o) (is_parted_by (value_at t) (value_at o)) blocks_above_voxels
    (All-follows (λ b. IsBlock b × (b.depth ≤ 15))
    (λ b. is_needed t o b ≡ is_parted_by (value_at t) (value_at o) b) blocks_above_voxels
    (λ b at. ap (λ a. a && not (is_split t b)) (split_varied o b lo their_pruned at.0)
    ∙ ap (λ a. not (is_uniform (value_at o) b) && not a) (split_varied t b l pruned at.0)
    ∙ ap (λ a. not (is_uniform (value_at o) b) && a) (not_not (is_uniform (value_at t) b)))
    all_above_voxels)

-- it depends on the values of the map's voxels alone
pub same_more : (v w x y : Values) → SameValues v x → SameValues w y
    → more_groups v w ≡ more_groups x y
unfolding more_groups
same_more v w x y first second =
    count_by-same (is_parted_by v w) (is_parted_by x y) blocks_above_voxels
    (All-follows (λ b. IsBlock b × (b.depth ≤ 15))
    (λ b. is_parted_by v w b ≡ is_parted_by x y b) blocks_above_voxels
    (λ b at. ap (λ a. not a && is_uniform v b) (same_uniform w y b at.0 second)
    ∙ ap (λ a. not (is_uniform y b) && a) (same_uniform v x b at.0 first))
    all_above_voxels)

-- making room leaves the need of a pruned map
pub still_needed : (m u o : Map) (need : ℕ) → IsMap u → IsMap o → IsReadied m u need
    → IsPruned m.tree → IsPruned o.tree
    → merge_need u.tree o.tree ≡ more_groups (values_of m) (values_of o)
still_needed m u o need is their_is ready pruned their_pruned =
    pruned_more u.tree o.tree is.formed.linked (ready.pruned pruned) their_is.formed.linked
    their_pruned
    ∙ sym (same_more (values_of m) (values_of o) (values_of u) (values_of o) ready.values
    (λ k v. refl))

-- maps of the same values answer alike
pub same_answer : (most n : ℕ) (v w x y : Values) → most ≡ n → SameValues v x → SameValues w y
    → union_answer most v w ≡ union_answer n x y
same_answer most n v w x y limit first second =
    ap (λ a. union_answer a v w) limit
    ∙ ap (λ more. room_answer n v more) (same_more v w x y first second)
    ∙ ap (λ g. if nat_lt n (g + more_groups x y) then Err (Full g (more_groups x y)) else Ok tt)
    (same_group_count v x first)

-- a pruned map is fitted
pruned_fitted : (p : Map) (need : ℕ) → IsMap p → IsPruned p.tree
    → fitted_groups p need ≡ group_count (values_of p)
pruned_fitted p need is pruned = elim (cases_lt p.max_groups (live p.tree.groups + need)) [
  | inl over ↦ fitted_least p need over
  | inr room ↦ fitted_own p need room ∙ sym (pruned_groups p.tree is.formed.linked pruned)
]

-- the limit of a map that was pruned
pub pruned_limit : (m p : Map) → KeepsAllElse m p → p.max_groups ≡ m.max_groups
pruned_limit m p keeps = ap (λ (g : Ground). g.max_groups) keeps.setup

-- it lacks entries where the first map has fewer than it needs
pub pruned_lacks : (m p : Map) (w y : Values) → IsMap p → IsPruned p.tree → IsPrunedAtMost m p
    → SameValues w y → LacksEntries p (more_groups (values_of p) y)
    → entries_of m < group_count (values_of m) + more_groups (values_of m) w
pruned_lacks m p w y is pruned to second lacks =
    let all = same_total m.tree.groups p.tree.groups to.shrunk.length in
    let fitted = pruned_fitted p (more_groups (values_of p) y) is pruned in
    let groups = same_group_count (values_of m) (values_of p) to.keeps.values in
    let more = same_more (values_of m) w (values_of p) y to.keeps.values second in
    elim (cases_lt (entries_of m) (group_count (values_of m) + more_groups (values_of m) w)) [
      | inl less ↦ less
      | inr enough ↦ absurd (lacks (omega (arith, all, fitted, groups, more, enough)))
    ]

-- and makes as many more
pub pruned_reserved : (m p n : Map) (w y : Values) → IsMap p → IsPruned p.tree
    → IsPrunedAtMost m p → SameValues w y → ReservesFew p n (more_groups (values_of p) y)
    → IsMergeReserved m n w
pruned_reserved m p n w y is pruned to second h =
    let all = same_total m.tree.groups p.tree.groups to.shrunk.length in
    let fitted = pruned_fitted p (more_groups (values_of p) y) is pruned in
    let groups = same_group_count (values_of m) (values_of p) to.keeps.values in
    let more = same_more (values_of m) w (values_of p) y to.keeps.values second in
    let limit = pruned_limit m p to.keeps in
    let kept = h.kept in
    record {
      kept = omega (arith, all, kept);
      enough = λ enough. h.enough (omega (arith, all, fitted, groups, more, enough)) ∙ all;
      few = elim h.few [
        | inl as_were ↦ inl (as_were ∙ all)
        | inr few ↦ (let a = few.0 in let b = few.1 in
            inr (omega (arith, a, fitted, groups, more), omega (arith, b, limit)))
      ];
    }

-- what is pruned and then pruned again
pub shrunk_on : (t u w : Tree) → IsShrunk t u → IsShrunk u w → IsShrunk t w
shrunk_on t u w f g = record {
  homes = λ x b home. f.homes x b (g.homes x b home);
  inner = λ p id v node. f.inner p id v (g.inner p id v node);
  length = g.length ∙ f.length;
  live = (let a = f.live in let b = g.live in omega (arith, a, b));
  spare = (let a = f.spare in let b = g.spare in omega (arith, a, b));
  res = g.res ∙ f.res;
  odds = g.odds ∙ f.odds;
}

-- what is refused after pruning leaves the first map as such a call does
pub pruned_refused : (m p n : Map) (fault : MapFault) (need : ℕ) → IsPrunedAtMost m p
    → IsPruned p.tree → IsMapRefused p n fault need → IsMergeRefused m n fault
pruned_refused m p n fault need to pruned h =
    let fewer = to.shrunk.live in
    let still = h.live in
    record {
      values = λ k v. to.keeps.values k v ∙ h.values k v;
      stale = h.stale ∙ to.keeps.stale;
      mark = h.mark ∙ to.keeps.notes;
      live = omega (arith, fewer, still);
      left = (let (t, fits, grown) = h.roomy in
          (t, shrunk_on m.tree p.tree t to.shrunk fits.shrunk, grown));
      full = λ groups more e. (let (least, shrunk) = h.full groups more e in
          (least, shrunk_on m.tree p.tree n.tree to.shrunk shrunk));
    }

-- the three together
pub has_merged : (rule : Rule) (m o n : Map) (done : Result ⊤ MapFault)
    → OnOk done (SameValues (merged_values rule (values_of m) (values_of o)) (values_of n))
    → OnOk done (IsMergedInto rule m o n) → IsPruned n.tree → OnOk done (HasMerged rule m o n)
has_merged rule m o n (Ok ok) merged edited pruned = record {
  merged = merged;
  edited = edited;
  pruned = pruned;
}
has_merged rule m o n (Err fault) merged edited pruned = tt

-- what is done after pruning is done of the first map
pub merged_into : (rule : Rule) (m o p q n : Map) (need : ℕ) (r : Result ⊤ MapFault)
    → IsPrunedAtMost m p → SameValues (values_of o) (values_of q)
    → OnOk r (IsMapEdited p n (merge_events rule (values_of p) (values_of q)) need false)
    → OnOk r (IsMergedInto rule m o n)
merged_into rule m o p q n need (Ok a) to theirs h = record {
  fitted = h.fitted;
  shrunk = shrunk_on m.tree p.tree h.fitted to.shrunk h.fits.shrunk;
  events = merge_events rule (values_of p) (values_of q);
  merging = λ k v. ap (λ a. merge_event rule a (values_of q k)) (sym (to.keeps.values k v))
      ∙ ap (merge_event rule (values_of m k)) (sym (theirs k v));
  edited = h.edited;
}
merged_into rule m o p q n need (Err fault) to theirs h = tt

pub on_err : (m p n : Map) (need : ℕ) (r : Result ⊤ MapFault) → IsPrunedAtMost m p → IsPruned p.tree
    → IfErr r (λ fault. IsMapRefused p n fault need) → IfErr r (IsMergeRefused m n)
on_err m p n need (Ok a) to pruned h = tt
on_err m p n need (Err fault) to pruned h = pruned_refused m p n fault need to pruned h

-- a tree as it was
pub shrunk_itself : (t : Tree) → IsShrunk t t
shrunk_itself t = record {
  homes = λ x b home. home;
  inner = λ p id v node. node;
  length = refl;
  live = omega arith;
  spare = omega arith;
  res = refl;
  odds = refl;
}

grown_itself : (t : Tree) → IsGrown t t
grown_itself t = record {
  entries = λ x. refl;
  length = omega arith;
  spare = omega arith;
  root = refl;
  res = refl;
  odds = refl;
}

-- what is refused before anything is done leaves the map
pub refused_wide : (m : Map) (fault : MapFault) → IsWide fault → IsMergeRefused m m fault
refused_wide m fault (count, is) = record {
  values = λ k v. refl;
  stale = refl;
  mark = refl;
  live = omega arith;
  left = (m.tree, shrunk_itself m.tree, grown_itself m.tree);
  full = λ groups more e. absurd (not_full groups more (sym e ∙ is));
}
  where
    not_full : (groups more : ℕ) → Full groups more ≡ WideWhileTracked count → ⊥
    not_full groups more e = cc

-- for want of room no merge is refused as too wide
pub never_wide : (most more count : ℕ) (v : Values) (r : Result ⊤ MapFault)
    → IsAnswerOrMemory (room_answer most v more) r → r ≡ Err (WideWhileTracked count) → ⊥
never_wide most more count v r (inl is) e = by_test (nat_lt most (group_count v + more)) is
  where
    by_test : (test : Bool) → r ≡ (if test then Err (Full (group_count v) more) else Ok tt) → ⊥
    by_test true same = cc
    by_test false same = cc
never_wide most more count v r (inr is) e = cc

-- what holds of each fault of a call holds of its fault
pub of_fault : {A : Type 0} (r : Result A MapFault) (fault : MapFault) (P : MapFault → Type 0)
    → IfErr r P → r ≡ Err fault → P fault
of_fault {A = A} r fault P h e = subst (λ (x : Result A MapFault). IfErr x P) e h

-- ---- what is noted

-- a box that lies in the other, and holds it, is the other
one_number : (a b : ℕ) → a ≤ b → b ≤ a → a ≡ b
one_number a b below above = omega (arith, below, above)

one_voxel : (a b : Voxel) → a.x ≡ b.x → a.y ≡ b.y → a.z ≡ b.z → a ≡ b
one_voxel a b x y z =
    ap (λ n. record { x = n; y = a.y; z = a.z }) x
    ∙ ap (λ n. record { x = b.x; y = n; z = a.z }) y
    ∙ ap (λ n. record { x = b.x; y = b.y; z = n }) z

one_box : (These : Voxel → Type 0) (a b : Window) → IsLeastBox These a → IsLeastBox These b → a ≡ b
one_box These a b e f =
    let (la, ha) = e.least b.lo b.hi f.holds in
    let (lb, hb) = f.least a.lo a.hi e.holds in
    let lo : a.lo ≡ b.lo = one_voxel a.lo b.lo (one_number a.lo.x b.lo.x lb.x.0 la.x.0)
    (one_number a.lo.y b.lo.y lb.y.0 la.y.0) (one_number a.lo.z b.lo.z lb.z.0 la.z.0) in
    let hi : a.hi ≡ b.hi = one_voxel a.hi b.hi (one_number a.hi.x b.hi.x ha.x.1 hb.x.1)
    (one_number a.hi.y b.hi.y ha.y.1 hb.y.1) (one_number a.hi.z b.hi.z ha.z.1 hb.z.1) in
    ap (λ k. record { lo = k; hi = a.hi }) lo ∙ ap (λ k. record { lo = b.lo; hi = k }) hi

-- the least box around no voxel would lie in a box that holds none
no_box : (These : Voxel → Type 0) (a : Window) → ((k : Voxel) → These k → ⊥)
    → IsLeastBox These a → ⊥
no_box These a none e =
    let one : Voxel = record { x = 1; y = 1; z = 1 } in
    let zero : Voxel = record { x = 0; y = 0; z = 0 } in
    let (low, high) = e.least one zero (λ k these. absurd (none k these)) in
    let (up, down) = low.x in
    omega (arith, up, down)

pub one_extent : (These : Voxel → Type 0) (a b : Option Window) → IsExtent These a
    → IsExtent These b → a ≡ b
one_extent These None None e f = refl
one_extent These None (Some b) e f = absurd (no_box These b e f)
one_extent These (Some a) None e f = absurd (no_box These a f e)
one_extent These (Some a) (Some b) e f = ap Some (one_box These a b e f)

-- nothing is noted where no box is given
pub marked_none : (now : Classes) (b : Option Held) → HasMarked now (IsInGiven None) 0 b b
marked_none now None = refl
marked_none now (Some old) =
    (old, refl, noted_none now (IsInGiven None) old.notes (λ k asked. asked), omega arith, refl)

-- each voxel of a box that is given has an event
pub given_asked : (box : Window) (k : Voxel) → IsInBox box.lo box.hi k
    → IsSome (given_events (Some box) k)
given_asked box k inside = (let there = (in_box_exactly box.lo box.hi k).1 inside in rw there refl)

no_mark : (a : Option Held) → is_some a ≡ false → a ≡ None
no_mark None e = refl
no_mark (Some x) e = absurd (false≢true (sym e))

still_none : (now : Classes) (P : Voxel → Type 0) (n : ℕ) (a b c : Option Held) → a ≡ None
    → IsSameNoted a b → HasMarked now P n b c → c ≡ None
still_none now P n a None c none same marked = marked
still_none now P n a (Some y) c none same marked =
    absurd (false≢true (sym (same.standing ∙ ap is_some none)))

none_kept : (a c : Option Held) (before after : Classes) → a ≡ None → c ≡ None
    → SameMark (marked_by_notes a before) (marked_by_notes c after)
none_kept a c before after first second = rw (first, second) tt

-- a mark is kept where the voxels were noted that change their class, if there is one
pub marked_given : (m u : Map) (w : Tree) (b c : Option Held) (P : Voxel → Type 0) (n need : ℕ)
    → IsReadied m u need → IsSameNoted u.mark b → HasMarked (classes_in u) P n b c
    → (IsTrue (is_some m.mark) → (k : Voxel) → IsInMap k
    → (classes_in (edited_to u w false c) k ≡ classes_in u k) ⊎ P k)
    → KeepsMark m (edited_to u w false c)
marked_given m u w b c P n need ready noted marked cover = by_test (is_some m.mark) refl
  where
    by_test : (test : Bool) → is_some m.mark ≡ test → KeepsMark m (edited_to u w false c)
    by_test true e = marked_change m u w b c P n need false ready noted marked (cover e)
    by_test false e =
        (let none = no_mark m.mark e in
        none_kept m.mark c (classes_in m) (classes_in (edited_to u w false c)) none
        (still_none (classes_in u) P n u.mark b c (ready.notes ∙ none) noted marked))

-- so where those were noted that the other map of a merge knows
pub marked_merge : (m u : Map) (w : Tree) (b c : Option Held) (d : Events) (P : Voxel → Type 0)
    (n need : ℕ) → IsReadied m u need → IsSameNoted u.mark b → HasMarked (classes_in u) P n b c
    → IsEdited u.tree w d
    → (IsTrue (is_some m.mark) → (k : Voxel) → IsInMap k → IsSome (d k) → P k)
    → KeepsMark m (edited_to u w false c)
marked_merge m u w b c d P n need ready noted marked edited asked =
    marked_given m u w b c P n need ready noted marked
    (λ there. edit_cover u w c d P false edited (asked there))

-- there was no room for the notes of the box around what the other map knows
pub lacks_given : (mark : Option Held) (noted extent : Option Window)
    → Ok noted ≡ note_answer (is_some mark) extent → LacksNotes mark (given_volume noted)
    → LacksNotes mark (given_volume extent)
lacks_given None noted extent is lacks = absurd (lacks tt)
lacks_given (Some held) noted None is lacks =
    (let same : noted ≡ None = cc in
    subst (λ x. LacksNotes (Some held) (given_volume x)) same lacks)
lacks_given (Some held) noted (Some box) is lacks =
    by_test (nat_lt most_noted (box_volume box.lo box.hi)) is
  where
    by_test : (test : Bool)
        → Ok noted ≡ (if test then Err (WideWhileTracked (box_volume box.lo box.hi))
        else Ok (Some box))
        → LacksNotes (Some held) (given_volume (Some box))
    by_test true e = cc
    by_test false e = (let same : noted ≡ Some box = cc in
        subst (λ x. LacksNotes (Some held) (given_volume x)) same lacks)

-- where nothing is noted, no voxel is
nothing_noted : (a b : Option Held) (events : Events) (n : ℕ) → NotesFew a b (given_events None) 0
    → NotesFew a b events n
nothing_noted a b events n few = record {
  only = λ k v noted. elim (few.only k v noted) [
    | inl before ↦ inl before
    | inr event ↦ absurd (false≢true event)
  ];
  enough = λ _. behind;
  made = inl behind;
}
  where
    room : (a : Option Held) → HasRoomForNotes a 0
    room None = tt
    room (Some held) = omega arith

    none : IsNotedBehind a b 0
    none = few.enough (room a)

    behind : IsNotedBehind a b n
    behind = record {
      added = none.added;
      notes = none.notes;
      few = (let few = none.few in omega (arith, few));
      room = none.room;
    }

-- few are noted of the box around what the other map knows
pub given_few : (mark b : Option Held) (noted extent : Option Window)
    → Ok noted ≡ note_answer (is_some mark) extent
    → NotesFew mark b (given_events noted) (given_volume noted)
    → NotesFew mark b (given_events extent) (given_volume extent)
given_few None b noted extent is few =
    (let same : noted ≡ None = cc in
    nothing_noted None b (given_events extent) (given_volume extent)
    (subst (λ x. NotesFew None b (given_events x) (given_volume x)) same few))
given_few (Some held) b noted None is few =
    (let same : noted ≡ None = cc in
    subst (λ x. NotesFew (Some held) b (given_events x) (given_volume x)) same few)
given_few (Some held) b noted (Some box) is few =
    by_test (nat_lt most_noted (box_volume box.lo box.hi)) is
  where
    by_test : (test : Bool)
        → Ok noted ≡ (if test then Err (WideWhileTracked (box_volume box.lo box.hi))
        else Ok (Some box))
        → NotesFew (Some held) b (given_events (Some box)) (given_volume (Some box))
    by_test true e = cc
    by_test false e = (let same : noted ≡ Some box = cc in
        subst (λ x. NotesFew (Some held) b (given_events x) (given_volume x)) same few)

-- an event of a merge is on a voxel that the other map knows
pub merge_known : (rule : Rule) (v w : Value) → IsSome (merge_event rule v w) → IsSome w
merge_known rule None None some = some
merge_known rule (Some x) None some = absurd (false≢true some)
merge_known rule v (Some y) some = refl

-- ---- the answer of the box that is noted

pub noted_wide : (has_mark : Bool) (extent : Option Window) (box : Window) (count : ℕ)
    → has_mark ≡ true → Some box ≡ extent → count ≡ box_volume box.lo box.hi → most_noted < count
    → Err (WideWhileTracked count) ≡ note_answer has_mark extent
noted_wide has_mark extent box count mark is counted over =
    subst (λ e. Err (WideWhileTracked count) ≡ note_answer has_mark e) is
    (let test : nat_lt most_noted (box_volume box.lo box.hi) ≡ true =
    lt-ltb most_noted (box_volume box.lo box.hi) (omega (arith, counted, over)) in
    rw (mark, test) (ap (λ n. Err (WideWhileTracked n)) counted))

pub noted_fits : (has_mark : Bool) (extent : Option Window) (box : Window) → has_mark ≡ true
    → Some box ≡ extent → box_volume box.lo box.hi ≤ most_noted
    → Ok extent ≡ note_answer has_mark extent
noted_fits has_mark extent box mark is fits =
    subst (λ e. Ok e ≡ note_answer has_mark e) is
    (let test : nat_lt most_noted (box_volume box.lo box.hi) ≡ false =
    le-ltb most_noted (box_volume box.lo box.hi) fits in rw (mark, test) refl)

pub noted_nothing : (has_mark : Bool) (extent : Option Window) → has_mark ≡ true → extent ≡ None
    → Ok extent ≡ note_answer has_mark extent
noted_nothing has_mark extent mark is = rw (mark, is) refl

-- a map as it was
pub pruned_itself : (m : Map) → IsPrunedAtMost m m
pruned_itself m = record {
  same = λ _. refl;
  shrunk = shrunk_itself m.tree;
  keeps = record {
    setup = refl;
    values = λ k v. refl;
    stale = refl;
    notes = refl;
    fresh = λ is. is;
    pruned = λ is. is;
  };
}
