-- What fitting a map to a box that is kept leaves, and what keeping the box makes of it then.
use Rattle.std.proofs.Common.{◌≡◌, ℕ, ◌+◌, ◌<◌, ◌≤◌, Bool, true, false, cond, Some, None, Ok, Err}
use Rattle.std.proofs.Common.{IsOk, inl, inr, refl, sym, subst, ◌∙◌, ap, arith}
use Rattle.std.specs.Prelude.{◌||◌, ◌&&◌, ◌⊎◌, not, Option, ⊤, Result, IsErrAnd, IsSome, is_some}
use Rattle.std.specs.Prelude.{OnOk, IfErr, nat_lt, if◌then◌else◌}
use Rattle.std.proofs.lemmas.Bool.{cases_lt, lt-ltb, le-ltb}
use Rattle.oct_key.specs.Voxel.{Voxel, IsInMap}
use Rattle.oct_key.specs.Values.{Values}
use Rattle.oct_key.specs.Block.{IsBlock, lowest_voxel}
use Rattle.oct_key.specs.Boxes.{Window, is_in_box}
use Rattle.oct_odds.specs.Odds.{Odds}
use Rattle.oct_odds.specs.Update.{Value, class_of}
use Rattle.oct_odds.specs.declared.event.Event.TheVariants.{Forget}
use Rattle.oct_values.specs.Blocks.{blocks_above_voxels}
use Rattle.oct_values.specs.Boxes.{is_cut_by}
use Rattle.oct_values.specs.Counts.{group_count}
use Rattle.oct_values.specs.Events.{after_event}
use Rattle.oct_values.proofs.Listed.{all_above_voxels}
use Rattle.oct_values.proofs.Sums.{All-follows, count_by-same}
use Rattle.oct_arena.specs.Entries.{live}
use Rattle.oct_arena.specs.Nodes.{value_of}
use Rattle.oct_tree.specs.Shape.{IsPruned}
use Rattle.oct_tree.specs.Tree.{Tree, value_at}
use Rattle.oct_tree.proofs.Grown.{grown_reach}
use Rattle.oct_edit.specs.Edits.{IsEdited, IsTidyAlong}
use Rattle.oct_edit.specs.Keep.{keep_events, parts_leaf, keep_need}
use Rattle.oct_edit.proofs.Wholes.{same_total}
use Rattle.oct_inner.specs.Changes.{IsShrunk}
use Rattle.oct_change.specs.Held.{Held}
use Rattle.oct_map.specs.declared.fault.MapFault.{MapFault}
use Rattle.oct_map.specs.declared.fault.MapFault.TheVariants.{Full, Memory, WideWhileTracked}
use Rattle.oct_map.specs.Answers.{IsAnswerOrMemory, room_answer}
use Rattle.oct_map.specs.Edits.{IsFitted, IsMapEdited, IsMapRefused, IsReadied, KeepsAllElse}
use Rattle.oct_map.specs.Edits.{LacksEntries, ReservesFew, fitted_groups}
use Rattle.oct_map.specs.Keeps.{IsKept, IsFittedToKeep, kept_need, parted_need}
use Rattle.oct_map.specs.Map.{Map, IsMap, HasRoomFor, ground_of, values_of}
use Rattle.oct_map.specs.Marks.{KeepsMark, classes_in, marked_of}
use Rattle.oct_map.specs.Merges.{IsKnownBox, IsWide, given_events, given_volume}
use Rattle.oct_map.specs.Merges.{note_answer, then_answer}
use Rattle.oct_map.specs.Notes.{LacksNotes, NotesFew}
use Rattle.oct_map.proofs.Edits.{edited_to, eager_after, same_noted, values_alike}
use Rattle.oct_map.proofs.Keeps.{parted_groups, parted_most, pruned_parted, same_parted}
use Rattle.oct_map.proofs.Marks.{few_after, kept_mark, same_few, same_mark_trans}
use Rattle.oct_map.proofs.Merges.{given_few, lacks_given, pruned_limit, shrunk_itself, shrunk_on}
use Rattle.oct_map.proofs.Rooms.{fitted_least, fitted_own, grown_itself, pruned_needs, room_fits}
use Rattle.oct_map.proofs.Rooms.{room_full, shrunk_reserved}

-- ---- how the map is fitted

kept_own : (m : Map) (lo hi : Voxel) → HasRoomFor m (keep_need m.tree lo hi)
    → kept_need m lo hi ≡ keep_need m.tree lo hi
kept_own m lo hi room =
    let test : nat_lt m.max_groups (live m.tree.groups + keep_need m.tree lo hi) ≡ false =
    le-ltb m.max_groups (live m.tree.groups + keep_need m.tree lo hi) room in
    rw test refl

kept_over : (m : Map) (lo hi : Voxel)
    → m.max_groups < live m.tree.groups + keep_need m.tree lo hi
    → kept_need m lo hi ≡ parted_need (values_of m) lo hi
kept_over m lo hi over =
    let test : nat_lt m.max_groups (live m.tree.groups + keep_need m.tree lo hi) ≡ true =
    lt-ltb m.max_groups (live m.tree.groups + keep_need m.tree lo hi) over in
    rw test refl

keeps_itself : (m : Map) → KeepsAllElse m m
keeps_itself m = record {
  setup = refl;
  values = λ k v. refl;
  stale = refl;
  notes = refl;
  fresh = λ is. is;
  pruned = λ is. is;
}

-- where there is room it stays as it is
pub own_fit : (m : Map) (lo hi : Voxel) (need : ℕ) → IsMap m → need ≡ keep_need m.tree lo hi
    → HasRoomFor m need → IsFittedToKeep m m lo hi (Ok need)
own_fit m lo hi need is counted room =
    let fits : HasRoomFor m (keep_need m.tree lo hi) = subst (HasRoomFor m) counted room in
    let kept = kept_own m lo hi fits in
    let groups = parted_groups m.tree lo hi is.formed.linked in
    record {
      done = (
        counted,
        counted ∙ sym kept,
        room,
        room_fits m.max_groups (parted_need (values_of m) lo hi) (values_of m)
            (omega (arith, groups, fits)),
      );
      full = tt;
      own = λ _. refl;
      pruned = λ none. absurd (none (subst (HasRoomFor m) (sym kept) fits));
      shrunk = shrunk_itself m.tree;
      keeps = keeps_itself m;
      map = is;
    }

-- and else it is pruned
record IsOver (m u : Map) (lo hi : Voxel) (need : ℕ) : Type 0 where
  pub kept : need ≡ kept_need m lo hi
  pub parted : need ≡ parted_need (values_of m) lo hi
  pub never : HasRoomFor m (kept_need m lo hi) → ⊥
  pub groups : live u.tree.groups ≡ group_count (values_of m)
  pub limit : u.max_groups ≡ m.max_groups

is_over : (m u : Map) (lo hi : Voxel) (first need : ℕ) → IsMap m → IsMap u
    → first ≡ keep_need m.tree lo hi → (HasRoomFor m first → ⊥) → KeepsAllElse m u
    → IsPruned u.tree → need ≡ keep_need u.tree lo hi → IsOver m u lo hi need
is_over m u lo hi first need is is_too counted never keeps pruned again =
    let over : m.max_groups < live m.tree.groups + keep_need m.tree lo hi =
    elim (cases_lt m.max_groups (live m.tree.groups + keep_need m.tree lo hi)) [
      | inl less ↦ less
      | inr more ↦ absurd (never (subst (HasRoomFor m) (sym counted) more))
    ] in
    let kept = kept_over m lo hi over in
    let most = parted_most m.tree lo hi is.formed.linked in
    let parted : need ≡ parted_need (values_of m) lo hi =
    again ∙ pruned_parted u.tree lo hi is_too.formed.linked pruned
    ∙ sym (same_parted (values_of m) (values_of u) lo hi keeps.values) in
    record {
      kept = parted ∙ sym kept;
      parted = parted;
      never = λ room. absurd (omega (arith, room, kept, most, over));
      groups = pruned_needs (values_of m) u.tree is_too.formed.linked pruned keeps.values;
      limit = pruned_limit m u keeps;
    }

pub pruned_fit : (m u : Map) (lo hi : Voxel) (first need : ℕ) → IsMap m → IsMap u
    → first ≡ keep_need m.tree lo hi → (HasRoomFor m first → ⊥) → IsShrunk m.tree u.tree
    → KeepsAllElse m u → IsPruned u.tree → need ≡ keep_need u.tree lo hi → HasRoomFor u need
    → IsFittedToKeep m u lo hi (Ok need)
pruned_fit m u lo hi first need is is_too counted never shrunk keeps pruned again room =
    let o = is_over m u lo hi first need is is_too counted never keeps pruned again in
    let parted = o.parted in
    let groups = o.groups in
    let limit = o.limit in
    record {
      done = (
        again,
        o.kept,
        room,
        room_fits m.max_groups (parted_need (values_of m) lo hi) (values_of m)
            (omega (arith, room, parted, groups, limit)),
      );
      full = tt;
      own = λ fits. absurd (o.never fits);
      pruned = λ _. pruned;
      shrunk = shrunk;
      keeps = keeps;
      map = is_too;
    }

pub full_fit : (m u : Map) (lo hi : Voxel) (first need groups : ℕ) → IsMap m → IsMap u
    → first ≡ keep_need m.tree lo hi → (HasRoomFor m first → ⊥) → IsShrunk m.tree u.tree
    → KeepsAllElse m u → IsPruned u.tree → need ≡ keep_need u.tree lo hi
    → (HasRoomFor u need → ⊥) → groups ≡ live u.tree.groups
    → IsFittedToKeep m u lo hi (Err (Full groups need))
full_fit m u lo hi first need groups is is_too counted never shrunk keeps pruned again none lives =
    let o = is_over m u lo hi first need is is_too counted never keeps pruned again in
    let parted = o.parted in
    let least = o.groups in
    let limit = o.limit in
    let over : u.max_groups < live u.tree.groups + need =
    elim (cases_lt u.max_groups (live u.tree.groups + need)) [
      | inl less ↦ less
      | inr more ↦ absurd (none more)
    ] in
    record {
      done = tt;
      full = (
        pruned,
        room_full m.max_groups (parted_need (values_of m) lo hi) groups (values_of m)
            (lives ∙ least) (omega (arith, over, parted, limit, lives))
            ∙ ap (λ n. Err (Full groups n)) (sym parted),
      );
      own = λ fits. absurd (o.never fits);
      pruned = λ _. pruned;
      shrunk = shrunk;
      keeps = keeps;
      map = is_too;
    }

-- ---- what keeping the box makes of the map that was fitted

-- room that is made leaves what is taken
pub still_parted : (m u : Map) (lo hi : Voxel) (need : ℕ) → IsReadied m u need → HasRoomFor m need
    → keep_need u.tree lo hi ≡ keep_need m.tree lo hi
unfolding keep_need
still_parted m u lo hi need ready room =
    let (t, fits, grown) = ready.roomy in
    count_by-same (parts_leaf u.tree lo hi) (parts_leaf t lo hi) blocks_above_voxels
    (All-follows (λ b. IsBlock b × (b.depth ≤ 15))
    (λ b. parts_leaf u.tree lo hi b ≡ parts_leaf t lo hi b) blocks_above_voxels
    (λ b at. ap (λ n. is_cut_by lo hi b && is_some (value_of n))
    (grown_reach t u.tree grown b.depth (lowest_voxel b)))
    all_above_voxels)
    ∙ ap (λ (a : Tree). keep_need a lo hi) (fits.own room)

-- no voxel changes its class but one that was known
pub keep_cover : (u : Map) (w : Tree) (c : Option Held) (lo hi : Voxel) (P : Voxel → Type 0)
    → IsEdited u.tree w (keep_events lo hi)
    → ((k : Voxel) → IsInMap k → IsSome (values_of u k) → P k)
    → (k : Voxel) → IsInMap k → (classes_in (edited_to u w false c) k ≡ classes_in u k) ⊎ P k
keep_cover u w c lo hi P edited known k v = by_value (values_of u k) refl
  where
    forgets : (o : Odds) (inside : Bool)
        → after_event o (cond (not inside) (Some Forget) None) None ≡ None
    forgets o true = refl
    forgets o false = refl

    by_value : (x : Value) → values_of u k ≡ x
        → (classes_in (edited_to u w false c) k ≡ classes_in u k) ⊎ P k
    by_value (Some x) e = inr (known k v (ap is_some e))
    by_value None e =
        (let value : value_at w k ≡ values_of u k = sym (edited.values k v)
        ∙ ap (after_event u.tree.odds (keep_events lo hi k)) e
        ∙ forgets u.tree.odds (is_in_box lo hi k) ∙ sym e in
        inl (ap (λ (o : Odds). class_of o (value_at w k)) edited.odds
        ∙ ap (class_of u.tree.odds) value))

-- what keeping the box makes of a map that was fitted to it
pub record IsKeptThen (u n : Map) (lo hi : Voxel) (need : ℕ) (noted : Option Window)
    (done : Result ⊤ MapFault) : Type 0 where
  pub answer : (done ≡ Ok tt) ⊎ (done ≡ Err Memory)
  pub memory : done ≡ Err Memory
      → LacksEntries u need ⊎ LacksNotes u.mark (given_volume noted)
  pub edited : OnOk done (IsMapEdited u n (keep_events lo hi) need false)
  pub path : OnOk done ((k : Voxel) → IsInMap k → IsSome (keep_events lo hi k)
      → IsTidyAlong n.tree k)
  pub refused : IfErr done (λ fault. IsMapRefused u n fault need)
  pub reserved : ReservesFew u n need
  pub mark : KeepsMark u n
  pub few : NotesFew u.mark n.mark (given_events noted) (given_volume noted)
  pub setup : ground_of n ≡ ground_of u
  pub map : IsMap n

-- the fitted map counts as many groups for it
fitted_alike : (m u : Map) (lo hi : Voxel) (need : ℕ) → IsFittedToKeep m u lo hi (Ok need)
    → fitted_groups u need ≡ fitted_groups m (kept_need m lo hi)
fitted_alike m u lo hi need f =
    elim (cases_lt m.max_groups (live m.tree.groups + kept_need m lo hi)) [
      | inl over ↦ fitted_own u need f.done.2
          ∙ pruned_needs (values_of m) u.tree f.map.formed.linked
          (f.pruned (λ room. absurd (omega (arith, room, over)))) f.keeps.values
          ∙ sym (fitted_least m (kept_need m lo hi) over)
      | inr room ↦ fitted_own u need f.done.2
          ∙ ap (λ (a : Map). live a.tree.groups) (f.own room)
          ∙ sym (fitted_own m (kept_need m lo hi) room)
    ]

joined : (m u : Map) (lo hi : Voxel) (need : ℕ) (t : Tree) → IsFittedToKeep m u lo hi (Ok need)
    → IsFitted u need t → IsFitted m (kept_need m lo hi) t
joined m u lo hi need t f h = record {
  own = λ room. h.own f.done.2 ∙ ap (λ (a : Map). a.tree) (f.own room);
  shrunk = shrunk_on m.tree u.tree t f.shrunk h.shrunk;
  values = λ k v. f.keeps.values k v ∙ h.values k v;
}

edited_too : (m u n : Map) (lo hi : Voxel) (need : ℕ) → IsFittedToKeep m u lo hi (Ok need)
    → IsMapEdited u n (keep_events lo hi) need false
    → IsMapEdited m n (keep_events lo hi) (kept_need m lo hi) false
edited_too m u n lo hi need f h = record {
  values = λ k v. values_alike m.tree.odds u.tree.odds (keep_events lo hi) (keep_events lo hi)
      (values_of m) (values_of u) (sym f.shrunk.odds) (λ q in_map. refl) f.keeps.values k v
      ∙ h.values k v;
  stale = h.stale ∙ ap (λ stale. stale || false) f.keeps.stale;
  eager = λ eager. eager_after m.tree u.tree n.tree (keep_events lo hi) (keep_events lo hi)
      f.shrunk.odds (λ q in_map. refl) f.keeps.values f.keeps.fresh f.keeps.pruned
      (h.eager eager);
  fitted = h.fitted;
  fits = joined m u lo hi need h.fitted f h.fits;
  edited = h.edited;
  lazily = h.lazily;
}

refused_too : (m u n : Map) (lo hi : Voxel) (need : ℕ) (fault : MapFault)
    → IsFittedToKeep m u lo hi (Ok need) → IsMapRefused u n fault need
    → IsMapRefused m n fault (kept_need m lo hi)
refused_too m u n lo hi need fault f h =
    let fewer = f.shrunk.live in
    let still = h.live in
    record {
      values = λ k v. f.keeps.values k v ∙ h.values k v;
      stale = h.stale ∙ f.keeps.stale;
      mark = h.mark ∙ f.keeps.notes;
      pruned = λ is. h.pruned (f.keeps.pruned is);
      live = omega (arith, fewer, still);
      roomy = (let (t, fits, grown) = h.roomy in (t, joined m u lo hi need t f fits, grown));
      full = λ groups more e. (let (least, shrunk) = h.full groups more e in
          (least, shrunk_on m.tree u.tree n.tree f.shrunk shrunk));
    }

reserved_too : (m u n : Map) (lo hi : Voxel) (need : ℕ) → IsFittedToKeep m u lo hi (Ok need)
    → ReservesFew u n need → ReservesFew m n (kept_need m lo hi)
reserved_too m u n lo hi need f h =
    let all = same_total m.tree.groups u.tree.groups f.shrunk.length in
    let groups = fitted_alike m u lo hi need f in
    let same = f.done.1 in
    let limit = pruned_limit m u f.keeps in
    let kept = h.kept in
    record {
      kept = omega (arith, all, kept);
      enough = λ enough. h.enough (omega (arith, all, groups, same, enough)) ∙ all;
      few = elim h.few [
        | inl as_were ↦ inl (as_were ∙ all)
        | inr few ↦ (let a = few.0 in let b = few.1 in
            inr (omega (arith, a, groups, same), omega (arith, b, limit)))
      ];
    }

lacks_too : (m u : Map) (lo hi : Voxel) (need : ℕ) → IsFittedToKeep m u lo hi (Ok need)
    → LacksEntries u need → LacksEntries m (kept_need m lo hi)
lacks_too m u lo hi need f lacks enough =
    let all = same_total m.tree.groups u.tree.groups f.shrunk.length in
    let groups = fitted_alike m u lo hi need f in
    let same = f.done.1 in
    lacks (omega (arith, all, groups, same, enough))

fit_mark : (m u : Map) → IsShrunk m.tree u.tree → KeepsAllElse m u → KeepsMark m u
fit_mark m u shrunk keeps =
    kept_mark m u (same_noted m.mark u.mark keeps.notes) keeps.values shrunk.odds

on_ok : {A B : Type 0} (r : Result ⊤ MapFault) → (A → B) → OnOk r A → OnOk r B
on_ok (Ok a) f h = f h
on_ok (Err e) f h = tt

on_err : (r : Result ⊤ MapFault) (P Q : MapFault → Type 0) → ((e : MapFault) → P e → Q e)
    → IfErr r P → IfErr r Q
on_err (Ok a) P Q f h = tt
on_err (Err e) P Q f h = f e h

-- both together
pub kept_after : (m u n : Map) (lo hi : Voxel) (need : ℕ) (noted : Option Window)
    (done : Result ⊤ MapFault) → IsFittedToKeep m u lo hi (Ok need)
    → ((extent : Option Window) → IsKnownBox m extent
    → Ok noted ≡ note_answer (is_some m.mark) extent)
    → IsKeptThen u n lo hi need noted done → IsKept m n lo hi done
kept_after m u n lo hi need noted done f note s = record {
  answer = λ extent is.
      subst (λ a. IsAnswerOrMemory (then_answer a
      (room_answer m.max_groups (values_of m) (parted_need (values_of m) lo hi))) done)
      (note extent is)
      (subst (λ a. IsAnswerOrMemory a done) (sym f.done.3) s.answer);
  memory = λ e. (
    subst IsOk (sym f.done.3) refl,
    elim (s.memory e) [
      | inl few ↦ inl (lacks_too m u lo hi need f few)
      | inr notes ↦ inr (λ extent is. lacks_given m.mark noted extent (note extent is)
          (subst (λ mark. LacksNotes mark (given_volume noted)) f.keeps.notes notes))
    ],
  );
  narrow = λ e extent is. subst IsOk (note extent is) refl;
  edited = on_ok done (edited_too m u n lo hi need f) s.edited;
  path = s.path;
  refused = on_err done (λ fault. IsMapRefused u n fault need)
      (λ fault. IsMapRefused m n fault (kept_need m lo hi))
      (λ fault. refused_too m u n lo hi need fault f) s.refused;
  wide = λ count e. absurd (never count s.answer e);
  reserved = reserved_too m u n lo hi need f s.reserved;
  mark = same_mark_trans (marked_of m) (marked_of u) (marked_of n)
      (fit_mark m u f.shrunk f.keeps) s.mark;
  noted = λ extent is. given_few m.mark n.mark noted extent (note extent is)
      (few_after (given_volume noted) m.mark u.mark n.mark (given_events noted) f.keeps.notes
      s.few);
  setup = s.setup ∙ f.keeps.setup;
  map = s.map;
}
  where
    never : (count : ℕ) → (done ≡ Ok tt) ⊎ (done ≡ Err Memory)
        → done ≡ Err (WideWhileTracked count) → ⊥
    never count (inl is) e = cc
    never count (inr is) e = cc

-- want of room is told as such
room_fault : (most more : ℕ) (v : Values) (fault : MapFault) (r : Result ⊤ MapFault)
    → r ≡ room_answer most v more → r ≡ Err fault → fault ≡ Full (group_count v) more
room_fault most more v fault r is = by_test (nat_lt most (group_count v + more)) is
  where
    by_test : (test : Bool) → r ≡ (if test then Err (Full (group_count v) more) else Ok tt)
        → r ≡ Err fault → fault ≡ Full (group_count v) more
    by_test true same e = cc
    by_test false same e = cc

-- where it is refused as full
pub kept_full : (m u : Map) (lo hi : Voxel) (noted : Option Window) (fault : MapFault)
    (done : Result ⊤ MapFault) → done ≡ Err fault → IsFittedToKeep m u lo hi (Err fault)
    → ((extent : Option Window) → IsKnownBox m extent
    → Ok noted ≡ note_answer (is_some m.mark) extent) → IsKept m u lo hi done
kept_full m u lo hi noted fault done handed f note =
    subst (IsKept m u lo hi) (sym handed) (record {
      answer = λ extent is.
          subst (λ a. IsAnswerOrMemory (then_answer a
          (room_answer m.max_groups (values_of m) (parted_need (values_of m) lo hi))) (Err fault))
          (note extent is) (inl (sym f.full.1));
      memory = λ e. absurd (not_memory e);
      narrow = λ e extent is. absurd (not_memory e);
      edited = tt;
      path = tt;
      refused = record {
        values = f.keeps.values;
        stale = f.keeps.stale;
        mark = f.keeps.notes;
        pruned = f.keeps.pruned;
        live = f.shrunk.live;
        roomy = (
          u.tree,
          (record {
            own = λ room. ap (λ (a : Map). a.tree) (f.own room);
            shrunk = f.shrunk;
            values = f.keeps.values;
          }),
          grown_itself u.tree,
        );
        full = λ groups more e. (f.full.0, f.shrunk);
      };
      wide = λ count e. absurd (not_wide count e);
      reserved = shrunk_reserved m u (kept_need m lo hi) f.shrunk;
      mark = fit_mark m u f.shrunk f.keeps;
      noted = λ extent is.
          same_few (given_volume extent) m.mark u.mark (given_events extent) f.keeps.notes;
      setup = f.keeps.setup;
      map = f.map;
    })
  where
    told : fault ≡ Full (group_count (values_of m)) (parted_need (values_of m) lo hi)
    told = room_fault m.max_groups (parted_need (values_of m) lo hi) (values_of m) fault _ refl
        f.full.1

    not_memory : ◌≡◌ {A = Result ⊤ MapFault} (Err fault) (Err Memory) → ⊥
    not_memory e = (let is = told in cc)

    not_wide : (count : ℕ) → ◌≡◌ {A = Result ⊤ MapFault} (Err fault) (Err (WideWhileTracked count))
        → ⊥
    not_wide count e = (let is = told in cc)

-- and where the box to be noted is too wide
pub kept_wide : (m : Map) (lo hi : Voxel) (fault : MapFault) (done : Result ⊤ MapFault) → IsMap m
    → done ≡ Err fault → IsWide fault
    → ((extent : Option Window) → IsKnownBox m extent
    → Err fault ≡ note_answer (is_some m.mark) extent) → IsKept m m lo hi done
kept_wide m lo hi fault done is_map handed (width, is_wide) note =
    subst (IsKept m m lo hi) (sym handed) (record {
      answer = λ extent is.
          subst (λ a. IsAnswerOrMemory (then_answer a
          (room_answer m.max_groups (values_of m) (parted_need (values_of m) lo hi))) (Err fault))
          (note extent is) (inl refl);
      memory = λ e. absurd (not_memory e);
      narrow = λ e extent is. absurd (not_memory e);
      edited = tt;
      path = tt;
      refused = record {
        values = λ k v. refl;
        stale = refl;
        mark = refl;
        pruned = λ is. is;
        live = omega arith;
        roomy = (
          m.tree,
          (record {
            own = λ room. refl;
            shrunk = shrunk_itself m.tree;
            values = λ k v. refl;
          }),
          grown_itself m.tree,
        );
        full = λ groups more e. absurd (not_full groups more e);
      };
      wide = λ count e. refl;
      reserved = shrunk_reserved m m (kept_need m lo hi) (shrunk_itself m.tree);
      mark = fit_mark m m (shrunk_itself m.tree) (keeps_itself m);
      noted = λ extent is. same_few (given_volume extent) m.mark m.mark (given_events extent) refl;
      setup = refl;
      map = is_map;
    })
  where
    not_memory : ◌≡◌ {A = Result ⊤ MapFault} (Err fault) (Err Memory) → ⊥
    not_memory e = cc

    not_full : (groups more : ℕ) → fault ≡ Full groups more → ⊥
    not_full groups more e = cc

-- an error that is handed on
pub is_handed : {A : Type 0} (s : Result A MapFault) (fault : MapFault)
    → IsErrAnd s (λ e. e ≡ fault) → s ≡ Err fault
is_handed (Ok a) fault on = absurd on
is_handed (Err e) fault on = ap Err on
