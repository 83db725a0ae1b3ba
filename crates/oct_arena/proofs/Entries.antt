-- What a change of an arena's entries leaves, for those who use one.
use Rattle.std.proofs.Common.{◌≡◌, ◌≢◌, ℕ, ◌+◌, ◌-◌, ◌*◌, ◌<◌, [], ◌∷◌, ◌++◌}
use Rattle.std.proofs.Common.{length, set, refl, sym, ◌∙◌, ap, arith, cond, inl, inr}
use Rattle.std.proofs.Common.{length-append}
use Rattle.std.specs.Prelude.{Option, Some, None, is_none, is_some, IsSome, slice_set}
use Rattle.std.proofs.lemmas.List.{get_or_append_left, get_or-set_same, get_or-set_other}
use Rattle.std.proofs.lemmas.List.{get_or-replicate, length-replicate, length-set, get_or_past}
use Rattle.std.proofs.Math.Seq.{get_or-append_right}
use Rattle.std.proofs.lemmas.List.Sums.{sum_by-set, sum_by-append, sum_by-cons}
use Rattle.std.proofs.lemmas.List.Folds.{sum_by-replicate}
use Rattle.std.proofs.lemmas.Option.{none-some, same_Some}
use Rattle.std.proofs.lemmas.Bool.{cases_lt, cases_eq, false≢true}
use Rattle.oct_arena.specs.declared.node.Group.{Group}
use Rattle.oct_arena.specs.declared.node.Node.{Node}
use Rattle.oct_arena.specs.Entries.{Groups, IsArena, IsLive, entry, node_of, home_of, with_node}
use Rattle.oct_arena.specs.Entries.{spare, live, vacant}

one : (e : Option Group) → cond {A = ℕ} (is_some e) 1 0 + cond {A = ℕ} (is_none e) 1 0 ≡ 1
one None = refl
one (Some g) = refl

-- each entry has a group or is vacant
pub live_spare : (gs : Groups) → live gs + spare gs ≡ length gs
live_spare [] = refl
live_spare (e ∷ gs) =
    let h = one e in
    let some : live (e ∷ gs) ≡ cond {A = ℕ} (is_some e) 1 0 + live gs =
    sum_by-cons (λ (x : Option Group). cond (is_some x) 1 0) e gs in
    let none : spare (e ∷ gs) ≡ cond {A = ℕ} (is_none e) 1 0 + spare gs =
    sum_by-cons (λ (x : Option Group). cond (is_none x) 1 0) e gs in
    omega (arith, live_spare gs, h, some, none)

-- a live id lies within the list
pub live_within : (gs : Groups) (id : ℕ) → IsLive gs id → id < length gs
live_within gs id h = elim (cases_lt id (length gs)) [
  | inl l ↦ l
  | inr m ↦ (let e = get_or_past gs id None m in absurd (false≢true (rw e at h)))
]

-- one entry is set: it is the new one, and each other is what it was
pub entry_set_same : (gs : Groups) (id : ℕ) (e : Option Group) → id < length gs
    → entry (slice_set gs id e) id ≡ e
entry_set_same gs id e l = get_or-set_same gs id e None l

pub entry_set_other : (gs : Groups) (id j : ℕ) (e : Option Group) → j ≢ id
    → entry (slice_set gs id e) j ≡ entry gs j
entry_set_other gs id j e n = get_or-set_other gs id j e None n

-- how the counts change where one entry is set
spare_set : (gs : Groups) (id : ℕ) (e : Option Group) → id < length gs
    → spare (slice_set gs id e) + cond {A = ℕ} (is_none (entry gs id)) 1 0
    ≡ spare gs + cond {A = ℕ} (is_none e) 1 0
spare_set gs id e l =
    let h = sum_by-set (λ (x : Option Group). cond {A = ℕ} (is_none x) 1 0) gs id e None l in
    omega (arith, h)

live_none : (e : Option Group) → IsSome e → cond {A = ℕ} (is_none e) 1 0 ≡ 0
live_none None h = absurd (false≢true h)
live_none (Some g) h = refl

-- a vacant entry gets a group
pub spare_filled : (gs : Groups) (id : ℕ) (g : Group) → id < length gs → entry gs id ≡ None
    → spare (slice_set gs id (Some g)) + 1 ≡ spare gs
spare_filled gs id g l v =
    let h = spare_set gs id (Some g) l in
    let was : cond {A = ℕ} (is_none (entry gs id)) 1 0 ≡ 1 = rw v refl in
    omega (arith, h, was)

-- a group is taken away
pub spare_vacated : (gs : Groups) (id : ℕ) → IsLive gs id
    → spare (slice_set gs id None) ≡ spare gs + 1
spare_vacated gs id h =
    let s = spare_set gs id None (live_within gs id h) in
    let was = live_none (entry gs id) h in
    omega (arith, s, was)

none_with : (e : Option Group) (i : ℕ) (n : Node)
    → cond {A = ℕ} (is_none (with_node e i n)) 1 0 ≡ cond {A = ℕ} (is_none e) 1 0
none_with None i n = refl
none_with (Some g) i n = refl

-- a node of a group changes
pub spare_changed : (gs : Groups) (id i : ℕ) (n : Node) → id < length gs
    → spare (slice_set gs id (with_node (entry gs id) i n)) ≡ spare gs
spare_changed gs id i n l =
    let s = spare_set gs id (with_node (entry gs id) i n) l in
    let same = none_with (entry gs id) i n in
    omega (arith, s, same)

-- the changed entry has the new node there, and else what it had
pub node_with_same : (e : Option Group) (i : ℕ) (n : Node) → IsSome e
    → ((g : Group) → e ≡ Some g → length g.nodes ≡ 8) → i < 8 → node_of (with_node e i n) i ≡ n
node_with_same None i n h w l = absurd (false≢true h)
node_with_same (Some g) i n h w l = get_or-set_same g.nodes i n _ (rw (w g refl) l)

pub node_with_other : (e : Option Group) (i j : ℕ) (n : Node) → j ≢ i
    → node_of (with_node e i n) j ≡ node_of e j
node_with_other None i j n h = refl
node_with_other (Some g) i j n h = get_or-set_other g.nodes i j n _ h

pub home_with : (e : Option Group) (i : ℕ) (n : Node) → home_of (with_node e i n) ≡ home_of e
home_with None i n = refl
home_with (Some g) i n = refl

pub none_in_vacant : (k j : ℕ) → entry (vacant k) j ≡ None
none_in_vacant k j = elim (cases_lt j k) [
  | inl l ↦ get_or-replicate k j None None l
  | inr m ↦ get_or_past (vacant k) j None (rw (length-replicate {A = Option Group} k None) m)
]

-- vacant entries are appended: nothing else stands under any id, there are
-- this many more, and as many groups
pub entry_grown : (gs : Groups) (k id : ℕ) → entry (gs ++ vacant k) id ≡ entry gs id
entry_grown gs k id = elim (cases_lt id (length gs)) [
  | inl l ↦ get_or_append_left gs (vacant k) None id l
  | inr m ↦ get_or-append_right gs (vacant k) id None m ∙ none_in_vacant k (id - length gs)
      ∙ sym (get_or_past gs id None m)
]

pub length_grown : (gs : Groups) (k : ℕ) → length (gs ++ vacant k) ≡ length gs + k
length_grown gs k =
    length-append gs (vacant k)
    ∙ ap (λ n. length gs + n) (length-replicate {A = Option Group} k None)

pub live_grown : (gs : Groups) (k : ℕ) → live (gs ++ vacant k) ≡ live gs
live_grown gs k =
    let both : live (gs ++ vacant k) ≡ live gs + live (vacant k) =
    sum_by-append (λ (x : Option Group). cond {A = ℕ} (is_some x) 1 0) gs (vacant k) in
    let new : live (vacant k) ≡ k * 0 =
    sum_by-replicate (λ (x : Option Group). cond {A = ℕ} (is_some x) 1 0) k None in
    omega (arith, both, new)

pub spare_grown : (gs : Groups) (k : ℕ) → spare (gs ++ vacant k) ≡ spare gs + k
spare_grown gs k =
    omega (arith, live_spare gs, live_spare (gs ++ vacant k), live_grown gs k, length_grown gs k)

-- the entries stay those of an arena
pub arena_set : (gs : Groups) (id : ℕ) (e : Option Group) → IsArena gs
    → ((g : Group) → e ≡ Some g → length g.nodes ≡ 8) → IsArena (slice_set gs id e)
arena_set gs id e h w = record {
  few = rw (length-set gs id e) h.few;
  eight = λ j g at. elim (cases_eq j id) [
    | inl same ↦ (elim (cases_lt id (length gs)) [
      | inl l ↦ w g
          (sym (entry_set_same gs id e l) ∙ ap (entry (slice_set gs id e)) (sym same) ∙ at)
      | inr m ↦
          absurd (none-some g
          (sym (get_or_past (slice_set gs id e) j None (rw (length-set gs id e, same) m)) ∙ at))
    ])
    | inr other ↦ h.eight j g (sym (entry_set_other gs id j e other) ∙ at)
  ];
}

-- a group of eight nodes is put in, or none
pub arena_filled : (gs : Groups) (id : ℕ) (g : Group) → IsArena gs → length g.nodes ≡ 8
    → IsArena (slice_set gs id (Some g))
arena_filled gs id g h eight =
    arena_set gs id (Some g) h
    (λ f at. ap (λ (x : Group). length x.nodes) (sym (same_Some _ _ at)) ∙ eight)

pub arena_vacated : (gs : Groups) (id : ℕ) → IsArena gs → IsArena (slice_set gs id None)
arena_vacated gs id h = arena_set gs id None h (λ f at. absurd (none-some f at))

eight_with : (e : Option Group) (i : ℕ) (n : Node) → ((f : Group) → e ≡ Some f → length f.nodes ≡ 8)
    → (g : Group) → with_node e i n ≡ Some g → length g.nodes ≡ 8
eight_with None i n w g at = absurd (none-some g at)
eight_with (Some f) i n w g at =
    let same : ◌≡◌ {A = Group} (record { home = f.home; nodes = set f.nodes i n }) g =
    same_Some _ _ at in
    ap (λ (x : Group). length x.nodes) (sym same) ∙ length-set f.nodes i n ∙ w f refl

-- a node of a group changes, and the entries stay those of an arena
pub arena_changed : (gs : Groups) (id i : ℕ) (n : Node) → IsArena gs
    → IsArena (slice_set gs id (with_node (entry gs id) i n))
arena_changed gs id i n h =
    arena_set gs id (with_node (entry gs id) i n) h (eight_with (entry gs id) i n (h.eight id))
