-- An event on one voxel needs sixteen groups at most, so that a scan of few bricks needs few.
use Rattle.std.proofs.Common.{◌≡◌, ◌≢◌, ℕ, zero, suc, ◌+◌, ◌*◌, ◌/◌, ◌%◌, ◌^◌, ◌<◌, ◌≤◌, ◌∙◌, Bool}
use Rattle.std.proofs.Common.{true, false, cond, List, [], ◌∷◌, map, length, bit_and, inl, inr}
use Rattle.std.proofs.Common.{refl, sym, subst, ap, arith, Some, None}
use Rattle.std.specs.Prelude.{◌⊎◌, ◌||◌, IsSome, is_some, sum_by}
use Rattle.std.proofs.lemmas.Bool.{false≢true, cases_eq}
use Rattle.oct_key.specs.Voxel.{Voxel, IsInMap}
use Rattle.oct_key.specs.Values.{is_same_voxel}
use Rattle.oct_key.specs.Block.{Cube, IsBlock, HoldsVoxel, child_of, child_index_of, root_block}
use Rattle.oct_key.proofs.Blocks.{child_in_map, child_holds, root_in_map}
use Rattle.oct_key.proofs.SameVoxels.{is_same_voxel_exact}
use Rattle.oct_odds.specs.declared.event.Event.{Event}
use Rattle.oct_values.specs.Blocks.{blocks_below, blocks_above_voxels}
use Rattle.oct_values.specs.Events.{Events, event_at, is_listed, scan_events}
use Rattle.oct_values.specs.Needs.{is_reached, event_need}
use Rattle.oct_values.proofs.Eights.{none_of_eight}
use Rattle.oct_key.proofs.Held.{held_in_map, held_by_parent, child_depths}
use Rattle.oct_values.proofs.Listed.{sum_of_blocks, sum_of_no_blocks, all_above_voxels}
use Rattle.oct_values.proofs.Reached.{reached_exactly}
use Rattle.oct_values.proofs.Sums.{sum_by-each_le, sum_by-plus, All-follows}
use Rattle.std.proofs.lemmas.List.Elements.{All-cons, All-nil}
use Rattle.std.specs.List.{All}
use Rattle.std.proofs.lemmas.Nat.{and_le_l}
use Rattle.std.proofs.lemmas.Bool.Decides.{eqb_tells}
use Rattle.std.proofs.lemmas.List.{length-append, length-map}
use Rattle.oct_brick.specs.declared.brick.Brick.{Brick}
use Rattle.oct_brick.specs.Masks.{mask_codes, codes_of}
use Rattle.oct_brick.specs.Bricks.{IsBrick, frees_of}
use Rattle.oct_brick.specs.Voxels.{coded_voxel, hit_voxels, freed_voxels}
use Rattle.oct_brick.proofs.Bits.{and_both}
use Rattle.oct_brick.proofs.BrickCodes.{codes_by, by_cons}
use Rattle.oct_edit.specs.Listed.{update_of}
use Rattle.oct_edit.specs.Scan.{events_of}
use Rattle.oct_values.proofs.Axes.{sum_below}
use Rattle.oct_edit.proofs.Counts.{sum_below_eight}
use Rattle.oct_edit.proofs.Voxels.{event_here, event_only}

-- one for a block that events reach
abbrev counted : Events → Cube → ℕ
counted events q = cond {A = ℕ} (is_reached events q) 1 0

tested_none : (test : Bool) → (test ≡ true → ⊥) → cond {A = ℕ} test 1 0 ≡ 0
tested_none true out = absurd (out refl)
tested_none false out = refl

tested_few : (test : Bool) → cond {A = ℕ} test 1 0 ≤ 1
tested_few true = omega arith
tested_few false = omega arith

-- events outside a block reach none of the blocks in it
away : (h : ℕ) (b : Cube) (events : Events) → IsBlock b → b.depth + h ≡ 16
    → ((q : Voxel) → HoldsVoxel b q → IsSome (events q) → ⊥)
    → sum_by (counted events) (blocks_below h b) ≡ 0
away zero b events ok d out = sum_of_no_blocks (counted events) b
away (suc h) b events ok d out =
    let all = sum_of_blocks (counted events) h b in
    let here =
    tested_none (is_reached events b)
    (λ e. (let (q, held, some) = (reached_exactly events b ok).0 e in
    out q held some)) in
    let rest = none_of_eight (λ i. sum_by (counted events) (blocks_below h (child_of b i)))
    (λ i li. away h (child_of b i) events (child_in_map b i ok (omega arith)) (child_depths b h i d)
    (λ q there some. out q (held_by_parent b i q (omega arith) li there) some)) in
    omega (arith, all, here, rest)

-- a sum below a number of which one alone may be more than none
alone_none : (f : ℕ → ℕ) (i m : ℕ) → m ≤ i → m ≤ 8 → ((j : ℕ) → j < 8 → j ≢ i → f j ≡ 0)
    → sum_below f m ≡ 0
unfolding sum_below
alone_none f i zero low few none = refl
alone_none f i (suc m) low few none =
    let before = alone_none f i m (omega arith) (omega arith) none in
    let here =
    none m (omega arith) (λ e. (let l : suc m ≤ m = omega (arith, e, low) in
    absurd (omega (arith, l)))) in
    omega (arith, before, here)

alone : (f : ℕ → ℕ) (i n m : ℕ) → m ≤ 8 → f i ≤ n → ((j : ℕ) → j < 8 → j ≢ i → f j ≡ 0)
    → sum_below f m ≤ n
unfolding sum_below
alone f i n zero few most none = omega arith
alone f i n (suc m) few most none = elim (cases_eq m i) [
  | inl same ↦ (let before = alone_none f i m (omega (arith, same)) (omega arith) none in
      let here : f m ≡ f i = ap f same in
      omega (arith, before, here, most))
  | inr other ↦ (let before = alone f i n m (omega arith) most none in
      let here = none m (omega arith) other in
      omega (arith, before, here))
]

-- an event on one voxel reaches one block of each depth
one_each : (h : ℕ) (b : Cube) (k : Voxel) (event : Event) → IsBlock b → b.depth + h ≡ 16
    → sum_by (counted (event_at (Some k) event)) (blocks_below h b) ≤ h
one_each zero b k event ok d =
    (let none = sum_of_no_blocks (counted (event_at (Some k) event)) b in omega (arith, none))
one_each (suc h) b k event ok d =
    let all = sum_of_blocks (counted (event_at (Some k) event)) h b in
    let here = tested_few (is_reached (event_at (Some k) event) b) in
    let eight =
    sum_below_eight
    (λ i. sum_by (counted (event_at (Some k) event)) (blocks_below h (child_of b i))) in
    let rest =
    alone (λ i. sum_by (counted (event_at (Some k) event)) (blocks_below h (child_of b i)))
    (child_index_of b.depth k) h 8 (omega arith)
    (one_each h (child_of b (child_index_of b.depth k)) k event
    (child_in_map b (child_index_of b.depth k) ok (omega arith))
    (child_depths b h (child_index_of b.depth k) d))
    (λ j lj other. away h (child_of b j) (event_at (Some k) event)
    (child_in_map b j ok (omega arith)) (child_depths b h j d)
    (λ q there some. (let is : q ≡ k = event_only k q event some in
    other (sym ((child_holds b j k (omega arith) lj).0
    (subst (HoldsVoxel (child_of b j)) is there)).1)))) in
    omega (arith, all, here, eight, rest)

one_need : (k : Voxel) (event : Event) → event_need (event_at (Some k) event) ≤ 16
unfolding event_need
one_need k event = one_each 16 root_block k event root_in_map refl

-- events that are all among two others need no more than both
tested_either : (p q r : Bool) → (p ≡ true → (q ≡ true) ⊎ (r ≡ true))
    → cond {A = ℕ} p 1 0 ≤ cond {A = ℕ} q 1 0 + cond {A = ℕ} r 1 0
tested_either false q r f = omega arith
tested_either true q r f = elim (f refl) [
  | inl e ↦ (let one : cond {A = ℕ} q 1 0 ≡ 1 = ap (λ test. cond {A = ℕ} test 1 0) e in
      omega (arith, one))
  | inr e ↦ (let one : cond {A = ℕ} r 1 0 ≡ 1 = ap (λ test. cond {A = ℕ} test 1 0) e in
      omega (arith, one))
]

either_need : (all some others : Events)
    → ((q : Voxel) → IsInMap q → IsSome (all q) → IsSome (some q) ⊎ IsSome (others q))
    → event_need all ≤ event_need some + event_need others
unfolding event_need
either_need all some others f =
    let both = sum_by-plus (counted some) (counted others) blocks_above_voxels in
    let each =
    sum_by-each_le (counted all) (λ c. counted some c + counted others c) blocks_above_voxels
    (All-follows (λ c. IsBlock c × (c.depth ≤ 15)) (λ c. counted all c ≤ counted some c + counted
    others c) blocks_above_voxels (λ c at. tested_either _ _ _ (reached c at.0))
    all_above_voxels) in
    omega (arith, both, each)
  where
    reached : (c : Cube) → IsBlock c → is_reached all c ≡ true
        → (is_reached some c ≡ true) ⊎ (is_reached others c ≡ true)
    reached c ok h =
        let (q, held, event) = (reached_exactly all c ok).0 h in
        elim (f q (held_in_map c q ok held) event) [
          | inl e ↦ inl ((reached_exactly some c ok).1 (q, held, e))
          | inr e ↦ inr ((reached_exactly others c ok).1 (q, held, e))
        ]

-- one voxel more
more_hits : (k : Voxel) (hits frees : List Voxel) (hit miss : Event) (q : Voxel)
    → IsSome (scan_events (k ∷ hits) hit frees miss q)
    → IsSome (event_at (Some k) hit q) ⊎ IsSome (scan_events hits hit frees miss q)
more_hits k hits frees hit miss q some = go (is_same_voxel q k) refl
  where
    go : (same : Bool) → is_same_voxel q k ≡ same
        → IsSome (event_at (Some k) hit q) ⊎ IsSome (scan_events hits hit frees miss q)
    go true e =
        inl (subst (λ a. IsSome (event_at (Some k) hit a)) (sym (is_same_voxel_exact q k e))
        (ap is_some (event_here k hit)))
    go false e =
        inr (subst (λ same. IsSome (cond (same || is_listed hits q) (Some hit)
        (cond (is_listed frees q) (Some miss) None))) e some)

more_frees : (k : Voxel) (frees : List Voxel) (hit miss : Event) (q : Voxel)
    → IsSome (scan_events [] hit (k ∷ frees) miss q)
    → IsSome (event_at (Some k) miss q) ⊎ IsSome (scan_events [] hit frees miss q)
more_frees k frees hit miss q some = go (is_same_voxel q k) refl
  where
    go : (same : Bool) → is_same_voxel q k ≡ same
        → IsSome (event_at (Some k) miss q) ⊎ IsSome (scan_events [] hit frees miss q)
    go true e =
        inl (subst (λ a. IsSome (event_at (Some k) miss a)) (sym (is_same_voxel_exact q k e))
        (ap is_some (event_here k miss)))
    go false e =
        inr (subst (λ same. IsSome (cond (same || is_listed frees q) (Some miss) None)) e some)

no_need : (hit miss : Event) → event_need (scan_events [] hit [] miss) ≡ 0
unfolding event_need
no_need hit miss =
    away 16 root_block (scan_events [] hit [] miss) root_in_map refl
    (λ q held some. false≢true some)

pub few_need : (hits frees : List Voxel) (hit miss : Event)
    → event_need (scan_events hits hit frees miss) ≤ 16 * (length hits + length frees)
few_need [] [] hit miss = (let none = no_need hit miss in omega (arith, none))
few_need [] (k ∷ frees) hit miss =
    let one = one_need k miss in
    let rest = few_need [] frees hit miss in
    let both =
    either_need (scan_events [] hit (k ∷ frees) miss) (event_at (Some k) miss)
    (scan_events [] hit frees miss) (λ q v some. more_frees k frees hit miss q some) in
    omega (arith, one, rest, both)
few_need (k ∷ hits) frees hit miss =
    let one = one_need k hit in
    let rest = few_need hits frees hit miss in
    let both =
    either_need (scan_events (k ∷ hits) hit frees miss) (event_at (Some k) hit)
    (scan_events hits hit frees miss) (λ q v some. more_hits k hits frees hit miss q some) in
    omega (arith, one, rest, both)

-- a mask has as many voxels as places at most
codes_few : (n first mask : ℕ) → length (mask_codes n first mask) ≤ n
unfolding mask_codes
codes_few zero first mask = omega arith
codes_few (suc n) first mask = elim (eqb_tells (mask % 2) 1) [
  | inl p ↦ rw p.0 (let rest = codes_few n (first + 1) (mask / 2) in omega (arith, rest))
  | inr p ↦ rw p.0 (let rest = codes_few n (first + 1) (mask / 2) in omega (arith, rest))
]

few_by : (f : Brick → ℕ) (a b : Brick) → length (map coded_voxel (codes_by f (a ∷ b ∷ []))) ≤ 128
few_by f a b =
    let whole = ap length (by_cons f a (b ∷ []))
    ∙ length-append (codes_of a.code (f a)) (codes_by f (b ∷ [])) in
    let last = ap length (by_cons f b [])
    ∙ length-append (codes_of b.code (f b)) (codes_by f []) in
    let none : length (codes_by f []) ≡ 0 = refl in
    let first_few = codes_few 64 (64 * a.code) (f a) in
    let last_few = codes_few 64 (64 * b.code) (f b) in
    let same = length-map (codes_by f (a ∷ b ∷ [])) coded_voxel in
    omega (arith, whole, last, none, first_few, last_few, same)

-- two bricks need sixteen groups at most for each of their voxels
pub two_need : (a b : Brick) (hit miss : Event)
    → event_need (events_of (update_of (a ∷ b ∷ []) hit miss)) ≤ 4096
two_need a b hit miss =
    let few = few_need (hit_voxels (a ∷ b ∷ [])) (freed_voxels (a ∷ b ∷ [])) hit miss in
    let hits = few_by (λ b. b.hits) a b in
    let frees = few_by frees_of a b in
    omega (arith, few, hits, frees)

-- a brick of which some voxels change, and those of them that are hit
pub masked_brick : (code scanned hits : ℕ) → code < 2 ^ 42 → 0 < scanned → scanned < 2 ^ 64
    → IsBrick (record { code = code; scanned = scanned; hits = bit_and scanned hits })
masked_brick code scanned hits low some fits = record {
  code = low;
  fits = fits;
  hits_fit = (let l = and_le_l scanned hits in omega (arith, l, fits));
  some = some;
  part = λ c h. ((and_both code scanned hits c).0 h).0;
}

-- both of two bricks
pub two_are : (a b : Brick) → IsBrick a → IsBrick b → All IsBrick (a ∷ b ∷ [])
two_are a b h k = All-cons IsBrick a (b ∷ []) h (All-cons IsBrick b [] k (All-nil IsBrick))
