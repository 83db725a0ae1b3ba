-- What the arena's calls do to the free list and to the entries, over plain memory.
use Rattle.std.proofs.Common.{◌≡◌, ◌≢◌, ℕ, zero, suc, ◌+◌, ◌<◌, ◌≤◌, List, [], ◌∷◌, length, set}
use Rattle.std.proofs.Common.{refl, sym, subst, ◌∙◌, ap, arith, inl, inr, Some, None, Option, true}
use Rattle.std.proofs.Common.{cond}
use Rattle.std.proofs.Common.{ℤ}
use Rattle.std.specs.Prelude.{slice_set, is_some, is_none}
use Rattle.std.proofs.lemmas.List.{get_or_past, length-set, set-set}
use Rattle.std.proofs.lemmas.List.Sums.{sum_by-cons}
use Rattle.std.proofs.lemmas.Bool.{cases_lt, cases_eq, false≢true}
use Rattle.std.proofs.lemmas.Option.{none-some}
use Rattle.oct_arena.specs.declared.node.Group.{Group}
use Rattle.oct_arena.specs.declared.node.Node.{Node}
use Rattle.oct_arena.specs.declared.node.Node.TheVariants.{Inner}
use Rattle.oct_arena.specs.declared.node.GroupId.{GroupId}
use Rattle.oct_arena.specs.Entries.{Groups, IsArena, IsLive, entry, node_of, with_node, spare}
use Rattle.oct_arena.specs.Free.{linked_number, next, chain, without, IsNotIn, AreOnce}
use Rattle.oct_arena.specs.Free.{IsThreaded}
use Rattle.oct_arena.proofs.Entries.{entry_set_same, entry_set_other, spare_vacated}
use Rattle.oct_arena.proofs.Entries.{arena_filled, arena_vacated, arena_changed, node_with_same}

set_swap : {X : Type 0} (xs : List X) (i j : ℕ) (a b : X) → i ≢ j
    → set (set xs j a) i b ≡ set (set xs i b) j a
set_swap [] i j a b ne = refl
set_swap (x ∷ xs) zero zero a b ne = absurd (ne refl)
set_swap (x ∷ xs) zero (suc j) a b ne = refl
set_swap (x ∷ xs) (suc i) zero a b ne = refl
set_swap (x ∷ xs) (suc i) (suc j) a b ne =
    ap (λ ys. x ∷ ys) (set_swap xs i j a b (λ e. ne (ap suc e)))

-- lists of entries
length_chain : (k h : ℕ) (m : Groups) → length (chain k h m) ≡ k
length_chain zero h m = refl
length_chain (suc k) h m = ap suc (length_chain k (next m h) m)

pub length_without : (m : Groups) (is : List ℕ) → length (without m is) ≡ length m
length_without m [] = refl
length_without m (i ∷ is) = length-set (without m is) i None ∙ length_without m is

vacant_set : (gs : Groups) (i : ℕ) → entry (slice_set gs i None) i ≡ None
vacant_set gs i = elim (cases_lt i (length gs)) [
  | inl l ↦ entry_set_same gs i None l
  | inr past ↦ get_or_past (slice_set gs i None) i None
      (rw (length-set {A = Option Group} gs i None) past)
]

-- a live entry is none of those that are vacant, and its memory is its group
pub live_apart : (m : Groups) (is : List ℕ) (i : ℕ) → IsLive (without m is) i
    → IsNotIn i is × (entry (without m is) i ≡ entry m i)
live_apart m [] i live = (tt, refl)
live_apart m (j ∷ js) i live =
    let other : i ≢ j =
    λ e.
    absurd (false≢true (sym (ap is_some (ap (entry (without m (j ∷ js))) e
    ∙ vacant_set (without m js) j)) ∙ live)) in
    let kept = entry_set_other (without m js) j i None other in
    let rest = live_apart m js i (subst (λ (e : Option Group). is_some e ≡ true) kept live) in
    ((other, rest.0), kept ∙ rest.1)

entry_without : (m : Groups) (is : List ℕ) (i : ℕ) → IsNotIn i is
    → entry (without m is) i ≡ entry m i
entry_without m [] i h = refl
entry_without m (j ∷ js) i h =
    entry_set_other (without m js) j i None h.0 ∙ entry_without m js i h.1

without_set : (m : Groups) (is : List ℕ) (i : ℕ) (e : Option Group) → IsNotIn i is
    → without (slice_set m i e) is ≡ slice_set (without m is) i e
without_set m [] i e h = refl
without_set m (j ∷ js) i e h =
    ap (λ gs. slice_set gs j None) (without_set m js i e h.1)
    ∙ set_swap (without m js) j i e None (λ p. h.0 (sym p))

pub next_other : (m : Groups) (i j : ℕ) (e : Option Group) → j ≢ i
    → next (slice_set m i e) j ≡ next m j
next_other m i j e ne = ap (λ g. linked_number (node_of g 0)) (entry_set_other m i j e ne)

chain_set : (k h : ℕ) (m : Groups) (i : ℕ) (e : Option Group) → IsNotIn i (chain k h m)
    → chain k h (slice_set m i e) ≡ chain k h m
chain_set zero h m i e n = refl
chain_set (suc k) h m i e n =
    ap (λ p. h ∷ chain k p (slice_set m i e)) (next_other m i h e (λ p. n.0 (sym p)))
    ∙ ap (λ is. h ∷ is) (chain_set k (next m h) m i e n.1)

-- a front of the memory has groups, and nothing else: the rest is vacant, and without some entries
-- of the front as many more
spare_front : (m : Groups) (n : ℕ) → n ≤ length m → ((i : ℕ) → i < n → IsLive m i)
    → ((i : ℕ) → n ≤ i → entry m i ≡ None)
    → spare m + n ≡ length m
spare_front [] n l full empty = (let none : n ≡ 0 = omega arith in ap (λ k. 0 + k) none)
spare_front (None ∷ m) zero l full empty =
    let c : spare (None ∷ m) ≡ 1 + spare m =
    sum_by-cons (λ (x : Option Group). cond (is_none x) 1 0) None m in
    let h =
    spare_front m zero (omega arith) (λ i a. absurd (omega arith))
    (λ i a. empty (suc i) (omega arith)) in
    omega (arith, c, h)
spare_front (Some g ∷ m) zero l full empty = absurd (none-some g (sym (empty 0 (omega arith))))
spare_front (None ∷ m) (suc n) l full empty = absurd (false≢true (full 0 (omega arith)))
spare_front (Some g ∷ m) (suc n) l full empty =
    let c : spare (Some g ∷ m) ≡ 0 + spare m =
    sum_by-cons (λ (x : Option Group). cond (is_none x) 1 0) (Some g) m in
    let h =
    spare_front m n (omega arith) (λ i a. full (suc i) (omega arith))
    (λ i a. empty (suc i) (omega arith)) in
    omega (arith, c, h)

spare_without : (m : Groups) (is : List ℕ) (n : ℕ) → ((i : ℕ) → i < n → IsLive m i) → AreOnce is n
    → spare (without m is) ≡ spare m + length is
spare_without m [] n full once = omega arith
spare_without m (i ∷ is) n full once =
    let live : IsLive (without m is) i = ap is_some (entry_without m is i once.1) ∙ full i once.0 in
    omega (arith, spare_vacated (without m is) i live, spare_without m is n full once.2)

arena_without : (m : Groups) (is : List ℕ) → IsArena m → IsArena (without m is)
arena_without m [] h = h
arena_without m (i ∷ is) h = arena_vacated (without m is) i (arena_without m is h)

full_set : (m : Groups) (i n : ℕ) (e : Option Group) → n ≤ length m
    → ((j : ℕ) → j < n → IsLive m j) → is_some e ≡ true
    → (j : ℕ) → j < n → IsLive (slice_set m i e) j
full_set m i n e few full some j l = elim (cases_eq j i) [
  | inl same ↦ (let at : i < length m = omega arith in
      ap (λ k. is_some (entry (slice_set m i e) k)) same ∙ ap is_some (entry_set_same m i e at)
      ∙ some)
  | inr other ↦ ap is_some (entry_set_other m i j e other) ∙ full j l
]

empty_set : (m : Groups) (i n : ℕ) (e : Option Group) → i < n
    → ((j : ℕ) → n ≤ j → entry m j ≡ None)
    → (j : ℕ) → n ≤ j → entry (slice_set m i e) j ≡ None
empty_set m i n e l empty j a = entry_set_other m i j e (λ p. omega arith) ∙ empty j a

-- what is live in memory was taken
live_used : (m : Groups) (n i : ℕ) → ((j : ℕ) → n ≤ j → entry m j ≡ None) → IsLive m i → i < n
live_used m n i empty live = elim (cases_lt i n) [
  | inl l ↦ l
  | inr past ↦ absurd (false≢true (sym (ap is_some (empty i past)) ∙ live))
]

-- the entries of an arena's memory
abbrev pub entries : Groups → ℕ → ℕ → Groups
entries m h k = without m (chain k h m)

module _ (m : Groups) (h k n : ℕ) (w : IsThreaded m h k n) where
  pub spare_is : spare (entries m h k) + n ≡ length m + k
  spare_is =
      omega (
        arith,
        spare_without m (chain k h m) n w.full w.once,
        spare_front m n w.within w.full w.empty,
        length_chain k h m,
      )

  pub length_is : length (entries m h k) ≡ length m
  length_is = length_without m (chain k h m)

  pub is_arena : IsArena (entries m h k)
  is_arena = arena_without m (chain k h m) w.arena

  -- a live entry is in memory, where it was taken
  pub live_in : (i : ℕ) → IsLive (entries m h k) i
      → IsNotIn i (chain k h m) × (entry (entries m h k) i ≡ entry m i) × IsLive m i × (i < n)
  live_in i live =
      let (free, same) = live_apart m (chain k h m) i live in
      let there : IsLive m i = sym (ap is_some same) ∙ live in
      (free, same, there, live_used m n i w.empty there)

-- what every change of the group of an entry that was taken leaves
module _ (m : Groups) (h k n i : ℕ) (e : Option Group) (w : IsThreaded m h k n)
    (free : IsNotIn i (chain k h m)) (below : i < n) (some : is_some e ≡ true)
    (arena : IsArena (slice_set m i e)) where
  same_chain : chain k h (slice_set m i e) ≡ chain k h m
  same_chain = chain_set k h m i e free

  pub threaded_set : IsThreaded (slice_set m i e) h k n
  threaded_set = record {
    within = subst (λ l. n ≤ l) (sym (length-set m i e)) w.within;
    full = full_set m i n e w.within w.full some;
    empty = empty_set m i n e below w.empty;
    arena = arena;
    once = subst (λ is. AreOnce is n) (sym same_chain) w.once;
  }

  pub entries_set : entries (slice_set m i e) h k ≡ slice_set (entries m h k) i e
  entries_set = ap (without (slice_set m i e)) same_chain ∙ without_set m (chain k h m) i e free

-- the first entry of the free list gets a group
pub record IsTaken (m : Groups) (h k n : ℕ) (g : Group) : Type 0 where
  pub threaded : IsThreaded (slice_set m h (Some g)) (next m h) k n
  pub filled : entries (slice_set m h (Some g)) (next m h) k
      ≡ slice_set (entries m h (suc k)) h (Some g)
  pub below : h < n
  pub vacant : entry (entries m h (suc k)) h ≡ None

pub taken : (m : Groups) (h k n : ℕ) (g : Group) → IsThreaded m h (suc k) n → length g.nodes ≡ 8
    → IsTaken m h k n g
taken m h k n g w eight =
    let rest = chain k (next m h) m in
    let (below, free, once) = w.once in
    let w' : IsThreaded m (next m h) k n = record {
      within = w.within;
      full = w.full;
      empty = w.empty;
      arena = w.arena;
      once = once;
    } in
    let arena = arena_filled m h g w.arena eight in
    record {
      threaded = threaded_set m (next m h) k n h (Some g) w' free below refl arena;
      filled =
          entries_set m (next m h) k n h (Some g) w' free below refl arena
          ∙ sym (set-set (without m rest) h None (Some g));
      below = below;
      vacant = vacant_set (without m rest) h;
    }

-- where none was given back, the first entry that was never taken gets it
pub begun : (m : Groups) (h n : ℕ) (g : Group) → IsThreaded m h 0 n → n < length m
    → length g.nodes ≡ 8
    → IsThreaded (slice_set m n (Some g)) h 0 (suc n)
begun m h n g w l eight = record {
  within = subst (λ k. suc n ≤ k) (sym (length-set m n (Some g))) (omega arith);
  full = λ j a. elim (cases_eq j n) [
    | inl same ↦ ap (λ k. is_some (entry (slice_set m n (Some g)) k)) same
        ∙ ap is_some (entry_set_same m n (Some g) l)
    | inr other ↦ ap is_some (entry_set_other m n j (Some g) other) ∙ w.full j (omega arith)
  ];
  empty =
      λ j a. entry_set_other m n j (Some g) (λ p. omega arith) ∙ w.empty j (omega arith);
  arena = arena_filled m n g w.arena eight;
  once = tt;
}

some_with : (e : Option Group) (i : ℕ) (n : Node) → is_some (with_node e i n) ≡ is_some e
some_with None i n = refl
some_with (Some g) i n = refl

-- a node of a live entry changes
module _ (m : Groups) (h k n i j : ℕ) (node : Node) (w : IsThreaded m h k n)
    (live : IsLive (entries m h k) i) where
  pub changed : IsThreaded (slice_set m i (with_node (entry m i) j node)) h k n
      × (entries (slice_set m i (with_node (entry m i) j node)) h k ≡ slice_set (entries m h k) i
      (with_node (entry (entries m h k) i) j node))
  changed =
      let (free, same, there, below) = live_in m h k n w i live in
      let e = with_node (entry m i) j node in
      let some : is_some e ≡ true = some_with (entry m i) j node ∙ there in
      let arena = arena_changed m i j node w.arena in (
        threaded_set m h k n i e w free below some arena,
        entries_set m h k n i e w free below some arena
            ∙ ap (λ x. slice_set (entries m h k) i (with_node x j node)) (sym same),
      )

-- a live entry becomes the first of the free list
next_with : (m : Groups) (i h : ℕ) (id : GroupId) (v : ℤ) → id.number ≡ h → i < length m
    → IsLive m i → IsArena m → next (slice_set m i (with_node (entry m i) 0 (Inner v id))) i ≡ h
next_with m i h id v e l live arena =
    ap (λ x. linked_number (node_of x 0))
    (entry_set_same m i (with_node (entry m i) 0 (Inner v id)) l)
    ∙ ap linked_number
    (node_with_same (entry m i) 0 (Inner v id) live (λ g at. arena.eight i g at) (omega arith))
    ∙ e

pub given : (m : Groups) (h k n i : ℕ) (id : GroupId) (v : ℤ) → IsThreaded m h k n
    → IsLive (entries m h k) i → id.number ≡ h
    → (let m' = slice_set m i (with_node (entry m i) 0 (Inner v id)) in
    IsThreaded m' i (suc k) n × (entries m' i (suc k) ≡ slice_set (entries m h k) i None))
given m h k n i id v w live e =
    let (free, same, there, below) = live_in m h k n w i live in
    let x = with_node (entry m i) 0 (Inner v id) in
    let m' = slice_set m i x in
    let few = w.within in
    let within : i < length m = omega arith in
    let some : is_some x ≡ true = some_with (entry m i) 0 (Inner v id) ∙ there in
    let arena = arena_changed m i 0 (Inner v id) w.arena in
    let w' = threaded_set m h k n i x w free below some arena in
    let link : next m' i ≡ h = next_with m i h id v e within there w.arena in
    let chained : chain (suc k) i m' ≡ i ∷ chain k h m =
    ap (λ p. i ∷ chain k p m') link ∙ ap (λ is. i ∷ is) (chain_set k h m i x free) in (
      record {
        within = w'.within;
        full = w'.full;
        empty = w'.empty;
        arena = arena;
        once = subst (λ is. AreOnce is n) (sym chained) (below, free, w.once);
      },
      ap (without m') chained
          ∙ ap (λ gs. slice_set gs i None) (without_set m (chain k h m) i x free)
          ∙ set-set (entries m h k) i x None,
    )
