-- Chunks: what stands in one, and many of them as one list.
use Rattle.std.proofs.Common.{◌≡◌, ℕ, zero, suc, ◌+◌, ◌-◌, ◌*◌, ◌/◌, ◌%◌, ◌<◌, ◌≤◌, List, [], ◌∷◌}
use Rattle.std.proofs.Common.{◌++◌, length, get_or, set, refl, sym, ◌∙◌, ap, arith}
use Rattle.std.proofs.Common.{append_assoc, append-nil, length-append, Some, None, Option, true}
use Rattle.std.specs.Prelude.{slice_set, is_some}
use Rattle.std.proofs.lemmas.Bool.{false≢true}
use Rattle.std.proofs.lemmas.List.{get_or_append_left, length-set, set-append_left}
use Rattle.std.proofs.lemmas.List.{set-append_right}
use Rattle.std.proofs.Math.Seq.{get_or-append_right}
use Rattle.oct_cells.specs.Cells.{HasValue}
use Rattle.oct_arena.specs.declared.node.Group.{Group}
use Rattle.oct_arena.specs.Entries.{Groups, IsLive, entry}
use Rattle.oct_arena.specs.Chunks.{joined, AllFull}

some_value : (e : Option Group) → is_some e ≡ true → (g : Group) × (e ≡ Some g)
some_value None h = absurd (false≢true h)
some_value (Some g) h = (g, refl)

-- a cell that is live has a value
pub has_value : (gs : Groups) (i : ℕ) → IsLive gs i → HasValue gs i
has_value gs i live = some_value (entry gs i) live

-- many chunks as one list, by the chunk c and the place s in it
pub length_joined : (cs : List Groups) → AllFull cs → length (joined cs) ≡ 1024 * length cs
length_joined [] h = omega arith
length_joined (c ∷ cs) h = omega (arith, length_joined cs h.1, length-append c (joined cs))

entry_joined : (cs : List Groups) (i c s : ℕ) (k : Groups) → AllFull cs → i ≡ 1024 * c + s
    → s < 1024 → c < length cs → k ≡ get_or cs c k → entry (joined cs) i ≡ entry k s
entry_joined [] i c s k h p q r e = absurd (omega arith)
entry_joined (a ∷ cs) i zero s k h p q r e =
    let here : i ≡ s = omega arith in
    get_or_append_left a (joined cs) None i (omega arith) ∙ ap (λ n. entry a n) here
    ∙ ap (λ xs. entry xs s) (sym e)
entry_joined (a ∷ cs) i (suc c) s k h p q r e =
    let past : length a ≤ i = omega arith in let less : i - length a ≡ 1024 * c + s = omega arith in
    get_or-append_right a (joined cs) i None past
    ∙ entry_joined cs (i - length a) c s k h.1 less q (omega arith) e

set_joined : (cs : List Groups) (i c s : ℕ) (k : Groups) (x : Option Group) → AllFull cs
    → i ≡ 1024 * c + s → s < 1024 → c < length cs → k ≡ get_or cs c k
    → joined (set cs c (slice_set k s x)) ≡ slice_set (joined cs) i x
set_joined [] i c s k x h p q r e = absurd (omega arith)
set_joined (a ∷ cs) i zero s k x h p q r e =
    let here : s ≡ i = omega arith in
    ap (λ xs. slice_set xs s x ++ joined cs) e ∙ ap (λ n. slice_set a n x ++ joined cs) here
    ∙ sym (set-append_left a (joined cs) i x (omega arith))
set_joined (a ∷ cs) i (suc c) s k x h p q r e =
    let past : 1024 ≤ i = omega arith in let less : i - 1024 ≡ 1024 * c + s = omega arith in
    ap (λ ys. a ++ ys) (set_joined cs (i - 1024) c s k x h.1 less q (omega arith) e)
    ∙ sym (set-append_right a (joined cs) 1024 i x h.0 past)

full_set_chunk : (cs : List Groups) (c : ℕ) (k : Groups) → AllFull cs → length k ≡ 1024
    → AllFull (set cs c k)
full_set_chunk [] c k h e = tt
full_set_chunk (a ∷ cs) zero k h e = (e, h.1)
full_set_chunk (a ∷ cs) (suc c) k h e = (h.0, full_set_chunk cs c k h.1 e)

full_chunk : (cs : List Groups) (c : ℕ) (k : Groups) → AllFull cs → c < length cs
    → k ≡ get_or cs c k → length k ≡ 1024
full_chunk [] c k h r e = absurd (omega arith)
full_chunk (a ∷ cs) zero k h r e = ap length e ∙ h.0
full_chunk (a ∷ cs) (suc c) k h r e = full_chunk cs c k h.1 (omega arith) e

pub full_more : (cs : List Groups) (k : Groups) → AllFull cs → length k ≡ 1024
    → AllFull (cs ++ k ∷ [])
full_more [] k h e = (e, tt)
full_more (a ∷ cs) k h e = (h.0, full_more cs k h.1 e)

pub joined_more : (cs : List Groups) (k : Groups) → joined (cs ++ k ∷ []) ≡ joined cs ++ k
joined_more [] k = append-nil k
joined_more (a ∷ cs) k = rw (joined_more cs k) (sym (append_assoc a (joined cs) k))

-- place i in the list is place i % 1024 of chunk i / 1024
module _ (cs : List Groups) (gs : Groups) (i : ℕ) (full : AllFull cs) (view : joined cs ≡ gs)
    (within : i < length gs) where
  pub chunk_within : i / 1024 < length cs
  chunk_within =
      let e : length gs ≡ 1024 * length cs = ap length (sym view) ∙ length_joined cs full in
      omega arith

  module _ (k : Groups) (is : k ≡ get_or cs (i / 1024) k) where
    pub place_within : i % 1024 < length k
    place_within = let e = full_chunk cs (i / 1024) k full chunk_within is in omega arith

    pub read_place : entry k (i % 1024) ≡ entry gs i
    read_place =
        sym (entry_joined cs i (i / 1024) (i % 1024) k full (omega arith) (omega arith)
        chunk_within is)
        ∙ ap (λ xs. entry xs i) view

    pub live_place : IsLive gs i → IsLive k (i % 1024)
    live_place live = ap is_some read_place ∙ live

    module _ (after : Groups) (x : Option Group) (e : after ≡ slice_set k (i % 1024) x) where
      pub written_full : AllFull (set cs (i / 1024) after)
      written_full =
          full_set_chunk cs (i / 1024) after full
          (ap length e ∙ length-set k (i % 1024) x
          ∙ full_chunk cs (i / 1024) k full chunk_within is)

      pub written : joined (set cs (i / 1024) after) ≡ slice_set gs i x
      written =
          ap (λ y. joined (set cs (i / 1024) y)) e
          ∙ set_joined cs i (i / 1024) (i % 1024) k x full (omega arith) (omega arith)
          chunk_within is
          ∙ ap (λ xs. slice_set xs i x) view
