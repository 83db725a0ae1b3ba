-- How many nodes a record can stand for.
use Rattle.std.proofs.Common.{◌≡◌, refl, ℕ, zero, suc, ◌+◌, ◌*◌, ◌^◌, ◌<◌, ◌≤◌, List, [], ◌∷◌}
use Rattle.std.proofs.Common.{Option, inl, inr, subst, ◌∙◌, sym, arith}
use Rattle.oct_odds.specs.declared.event.Class.TheVariants.{Unknown, Free, Occupied}
use Rattle.oct_bt.specs.Records.{Entries, End, Plain, Record, AreEntries, IsRecord, flat}
use Rattle.oct_bt.specs.Records.{known_entries}
use Rattle.oct_bt.specs.Canonical.{node_total}
use Rattle.oct_bt.specs.NodeData.{Progress, Reads, after_bytes, IsReached, IsAccepted}
use Rattle.oct_bt.proofs.Codes.{total_of_flat}
use Rattle.oct_bt.proofs.Walks.{Shallow, IsParsed, parsed_from, parsed_root}

-- the nodes of a block that stands this many depths above the voxels, itself included
unfoldable pub full : ℕ → ℕ
full zero = 1
full (suc height) = 1 + 8 * full height

pub some_full : (height : ℕ) → 1 ≤ full height
unfolding full
some_full zero = omega arith
some_full (suc height) = omega arith

-- entries have at most this many nodes
pub known_few : (es : Entries) (d n height : ℕ) → AreEntries d n es → d + height ≡ 15
    → known_entries es ≤ n * full height
unfolding known_entries full
known_few End d n height are at = omega arith
known_few (Plain c es) d zero height are at = absurd are
known_few (Plain Unknown es) d (suc n) height are at = omega (arith, known_few es d n height are at)
known_few (Plain Free es) d (suc n) height are at =
    omega (arith, known_few es d n height are at, some_full height)
known_few (Plain Occupied es) d (suc n) height are at =
    omega (arith, known_few es d n height are at, some_full height)
known_few (Record r es) d zero height are at = absurd are
known_few (Record r es) d (suc n) zero (low, inner, are) at = absurd (omega (arith, low, at))
known_few (Record r es) d (suc n) (suc height) (low, inner, are) at =
    let here : full (suc height) ≡ 1 + 8 * full height = full_more height in
    omega (
      arith,
      known_few es d n (suc height) are at,
      known_few r (suc d) 8 height inner (omega (arith, at)),
      here,
    )
  where
    full_more : (height : ℕ) → full (suc height) ≡ 1 + 8 * full height
    full_more height = refl

total_small : (r : Entries) → IsRecord 0 r → node_total (flat r) < 2 ^ 64
unfolding full
total_small r is = omega (arith, total_of_flat r 0 is, known_few r 0 8 15 is refl)

-- the records that a reading has come to, where none is to come
pub reached_small : (start size : ℕ) (half : Option ℕ) (records : List ℕ) (p : Progress)
    → IsReached start size p → p ≡ Reads [] half records
    → node_total records < 2 ^ 64
unfolding after_bytes Shallow IsParsed
reached_small start zero half records p (bytes, below, at) whole =
    let (none, is) = parsed_from bytes start [] [] records half below tt (sym at ∙ whole) in
    let few : node_total [] < 2 ^ 64 = omega arith in
    subst (λ t. node_total t < 2 ^ 64) (sym (is ∙ none)) few
reached_small start (suc size) half records p (bytes, below, at) whole =
    let (parsed, is) = parsed_from bytes start (0 ∷ []) [] records half below (omega arith, tt)
    (sym at ∙ whole) in
    let (r, formed, text) = parsed_root bytes parsed in
    subst (λ t. node_total t < 2 ^ 64) (sym (is ∙ text)) (total_small r formed)

-- accepted node data
pub accepted_few : (size : ℕ) (bytes : List ℕ) → IsAccepted size bytes → size < 10 ^ 16
unfolding full
accepted_few size bytes (inl (none, empty)) = omega (arith, none)
accepted_few size bytes (inr (r, is, text, total)) =
    omega (arith, total, known_few r 0 8 15 is refl)
