-- What each call of an arena leaves, for the entries that its memory is seen as.
use Rattle.std.proofs.Common.{◌≡◌, ℕ, zero, suc, ◌+◌, ◌-◌, ◌*◌, ◌<◌, ◌≤◌, ◌^◌, ◌++◌, length}
use Rattle.std.proofs.Common.{refl, sym, subst, ◌∙◌, ap, arith, Some, None, ℤ, ◌∷◌, append-nil}
use Rattle.std.proofs.Common.{append_assoc}
use Rattle.std.specs.Prelude.{slice_set, max}
use Rattle.std.proofs.Math.Nat.{le-max_left, le-max_right}
use Rattle.oct_arena.specs.declared.node.Group.{Group}
use Rattle.oct_arena.specs.declared.node.Node.{Node}
use Rattle.oct_arena.specs.declared.node.Node.TheVariants.{Inner}
use Rattle.oct_arena.specs.declared.node.GroupId.{GroupId}
use Rattle.oct_arena.specs.Entries.{Groups, IsArena, IsLive, entry, with_node, spare, live, vacant}
use Rattle.oct_arena.specs.Free.{next, IsThreaded}
use Rattle.oct_arena.proofs.Entries.{live_within, live_spare, spare_filled, spare_vacated}
use Rattle.oct_arena.proofs.Entries.{spare_changed, spare_grown, live_grown, length_grown}
use Rattle.oct_arena.proofs.FreeLists.{entries, spare_is, length_is, is_arena, live_in, taken}
use Rattle.oct_arena.proofs.FreeLists.{begun, changed, given}
use Rattle.oct_arena.proofs.Growth.{grown}

module _ (m : Groups) (h k n : ℕ) (es : Groups) (w : IsThreaded m h k n) (view : entries m h k ≡ es)
  where
    pub lengths : length m ≡ length es
    lengths = sym (length_is m h k n w) ∙ ap length view

    pub arena : IsArena es
    arena = subst IsArena view (is_arena m h k n w)

    -- as many are vacant as were given back or never taken
    pub counts : length m - n + k ≡ spare es
    counts =
        let e : spare es + n ≡ length m + k = sym (ap (λ gs. spare gs + n) view)
        ∙ spare_is m h k n w in
        let l = w.within in omega arith

    -- as many groups as entries that aren't vacant
    both : live es + k ≡ n
    both = (let l = w.within in omega (arith, counts, lengths, live_spare es, l))

    pub few : k ≤ n
    few = omega (arith, both)

    pub lives : n - k ≡ live es
    lives = omega (arith, both)

    -- what stands under a live id is in memory
    pub there : (i : ℕ) → IsLive es i → IsLive m i
    there i l = (live_in m h k n w i (subst (λ gs. IsLive gs i) (sym view) l)).2

    pub in_memory : (i : ℕ) → IsLive es i → entry es i ≡ entry m i
    in_memory i l =
        ap (λ gs. entry gs i) (sym view)
        ∙ (live_in m h k n w i (subst (λ gs. IsLive gs i) (sym view) l)).1

    -- some entry was never taken, where one is vacant and none was given back
    pub more : k ≡ 0 → 1 ≤ spare es → n < length m
    more none l = omega (arith, counts, none, l)

    -- the first entry that was given back
    module _ (some : 1 ≤ k) where
      last : IsThreaded m h (suc (k - 1)) n
      last = (let e : k ≡ suc (k - 1) = omega arith in subst (λ j. IsThreaded m h j n) e w)

      pub head_there : IsLive m h
      head_there = w.full h last.once.0

    -- an entry gets a group
    pub record Took (i h2 k2 n2 : ℕ) (g : Group) (m2 : Groups) : Type 0 where
      pub threaded : IsThreaded m2 h2 k2 n2
      pub filled : entries m2 h2 k2 ≡ slice_set es i (Some g)
      pub inside : i < length es
      pub vacant : entry es i ≡ None
      pub spares : spare (slice_set es i (Some g)) + 1 ≡ spare es

    pub took_last : (h2 : ℕ) (g : Group) (m2 : Groups) → 1 ≤ k → length g.nodes ≡ 8 → h2 ≡ next m h
        → m2 ≡ slice_set m h (Some g) → Took h h2 (k - 1) n g m2
    took_last h2 g m2 some eight head memory =
        let e : k ≡ suc (k - 1) = omega arith in
        let was : entries m h (suc (k - 1)) ≡ es = ap (entries m h) (sym e) ∙ view in
        let r = taken m h (k - 1) n g (last some) eight in
        let inside : h < length es = omega (arith, r.below, lengths, w.within) in
        let vacant : entry es h ≡ None = ap (λ gs. entry gs h) (sym was) ∙ r.vacant in
        record {
          threaded =
              subst (λ (p : ℕ × Groups). IsThreaded p.1 p.0 (k - 1) n)
              (λ i. (sym head i, sym memory i)) r.threaded;
          filled =
              ap (λ (p : ℕ × Groups). entries p.1 p.0 (k - 1)) (λ i. (head i, memory i)) ∙ r.filled
              ∙ ap (λ gs. slice_set gs h (Some g)) was;
          inside = inside;
          vacant = vacant;
          spares = spare_filled es h g inside vacant;
        }

    pub took_new : (n2 : ℕ) (g : Group) (m2 : Groups) → k ≡ 0 → 1 ≤ spare es → length g.nodes ≡ 8
        → n2 ≡ suc n → m2 ≡ slice_set m n (Some g) → Took n h k n2 g m2
    took_new n2 g m2 none some eight number memory =
        let l = more none some in
        let all : entries m h k ≡ m = ap (λ j. entries m h j) none in
        let inside : n < length es = omega (arith, l, lengths) in
        let vacant : entry es n ≡ None =
        ap (λ gs. entry gs n) (sym view ∙ all) ∙ w.empty n (omega arith) in
        let r = begun m h n g (subst (λ j. IsThreaded m h j n) none w) l eight in
        record {
          threaded =
              subst (λ (p : Groups × ℕ × ℕ). IsThreaded p.0 h p.1 p.2)
              (λ i. (sym memory i, sym none i, sym number i)) r;
          filled =
              ap (λ (p : Groups × ℕ). entries p.0 h p.1) (λ i. (memory i, none i))
              ∙ ap (λ gs. slice_set gs n (Some g)) (sym all ∙ view);
          inside = inside;
          vacant = vacant;
          spares = spare_filled es n g inside vacant;
        }

    -- a live entry is given back
    pub record Gave (i : ℕ) (m2 : Groups) : Type 0 where
      pub threaded : IsThreaded m2 i (k + 1) n
      pub vacated : entries m2 i (k + 1) ≡ slice_set es i None
      pub spares : spare (slice_set es i None) ≡ spare es + 1

    pub gave : (i : ℕ) (id : GroupId) (v : ℤ) (m2 : Groups) → IsLive es i → id.number ≡ h
        → m2 ≡ slice_set m i (with_node (entry m i) 0 (Inner v id)) → Gave i m2
    gave i id v m2 l e memory =
        let more : suc k ≡ k + 1 = omega arith in
        let r = given m h k n i id v w (subst (λ gs. IsLive gs i) (sym view) l) e in
        record {
          threaded =
              subst (λ (p : Groups × ℕ). IsThreaded p.0 i p.1 n)
              (λ j. (sym memory j, more j)) r.0;
          vacated =
              ap (λ (p : Groups × ℕ). entries p.0 i p.1) (λ j. (memory j, sym more j)) ∙ r.1
              ∙ ap (λ gs. slice_set gs i None) view;
          spares = spare_vacated es i l;
        }

    -- a node of a live entry changes
    pub record Changed (i j : ℕ) (node : Node) (m2 : Groups) : Type 0 where
      pub threaded : IsThreaded m2 h k n
      pub changed : entries m2 h k ≡ slice_set es i (with_node (entry es i) j node)
      pub spares : spare (slice_set es i (with_node (entry es i) j node)) ≡ spare es

    pub has_changed : (i j : ℕ) (node : Node) (m2 : Groups) → IsLive es i
        → m2 ≡ slice_set m i (with_node (entry m i) j node) → Changed i j node m2
    has_changed i j node m2 l memory =
        let r = changed m h k n i j node w (subst (λ gs. IsLive gs i) (sym view) l) in
        record {
          threaded = subst (λ gs. IsThreaded gs h k n) (sym memory) r.0;
          changed =
              ap (λ gs. entries gs h k) memory ∙ r.1
              ∙ ap (λ gs. slice_set gs i (with_node (entry gs i) j node)) view;
          spares = spare_changed es i j node (live_within es i l);
        }

    -- a chunk is added
    pub grew : (m2 : Groups) → m2 ≡ m ++ vacant 1024 → length m + 1024 ≤ 2 ^ 31 + 1023
        → IsThreaded m2 h k n × (entries m2 h k ≡ es ++ vacant 1024)
    grew m2 memory room =
        let r = grown m h k n w room in (
          subst (λ gs. IsThreaded gs h k n) (sym memory) r.0,
          ap (λ gs. entries gs h k) memory ∙ r.1 ∙ ap (λ gs. gs ++ vacant 1024) view,
        )

-- entries that are appended until n are vacant
pub record IsReserving (n : ℕ) (old new : Groups) : Type 0 where
  pub kept : new ≡ old ++ vacant (length new - length old)
  pub chunks : (c : ℕ) × (length new ≡ length old + 1024 * c)
  pub few : spare new ≤ max (spare old) (n + 1023)
  pub live : live new ≡ live old
  pub enough : n ≤ spare old → new ≡ old

pub reserving : (n : ℕ) (old : Groups) → IsReserving n old old
reserving n old =
    let none : length old - length old ≡ 0 = omega arith in
    record {
      kept = sym (append-nil old) ∙ ap (λ k. old ++ vacant k) (sym none);
      chunks = (0, omega arith);
      few = le-max_left (spare old) (n + 1023);
      live = refl;
      enough = λ l. refl;
    }

pub replicate_more : (j k : ℕ) → vacant j ++ vacant k ≡ vacant (j + k)
replicate_more zero k = let e : k ≡ zero + k = omega arith in ap vacant e
replicate_more (suc j) k =
    let e : suc (j + k) ≡ suc j + k = omega arith in
    ap (λ gs. None ∷ gs) (replicate_more j k) ∙ ap vacant e

pub reserving_more : (n : ℕ) (old new after : Groups) → IsReserving n old new → spare new < n
    → after ≡ new ++ vacant 1024 → IsReserving n old after × (n - spare after < n - spare new)
reserving_more n old new after r l e =
    let more : spare after ≡ spare new + 1024 = ap spare e ∙ spare_grown new 1024 in
    let longer : length after ≡ length new + 1024 = ap length e ∙ length_grown new 1024 in
    let at_least : length old ≤ length new =
    (let h = ap length r.kept ∙ length_grown old (length new - length old) in
    omega (arith, h)) in
    let count : length new - length old + 1024 ≡ length after - length old = omega arith in (
      record {
        kept =
            e ∙ ap (λ gs. gs ++ vacant 1024) r.kept
            ∙ append_assoc old (vacant (length new - length old)) (vacant 1024)
            ∙ ap (λ gs. old ++ gs)
            (replicate_more (length new - length old) 1024 ∙ ap vacant count);
        chunks = (let (c, is) = r.chunks in (c + 1, omega (arith, longer, is)));
        few =
            subst (λ k. k ≤ max (spare old) (n + 1023)) (sym more)
            (let top = le-max_right (spare old) (n + 1023) in
            omega arith);
        live = ap live e ∙ live_grown new 1024 ∙ r.live;
        enough = λ enough. absurd (let h = ap spare (r.enough enough) in omega arith);
      },
      omega arith,
    )
