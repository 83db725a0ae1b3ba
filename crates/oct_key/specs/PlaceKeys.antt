-- Numbers that hold a place in a list and the code of what stands there.
use Rattle.std.specs.Prelude.{ℕ, ◌/◌, ◌%◌, ◌<◌, List, map, length, All, slice_index_or}
use Rattle.std.specs.List.{range_with_len}
use Rattle.std.specs.List.Sorted.{IsPermutation}

-- what stands at the place that a key has
abbrev pub keyed_at : {X : Type 0} → ℕ → List X → X → ℕ → X
keyed_at step things d key = slice_index_or things (key % step) d

-- below the step a key has a place of the list, and above it the code of what stands there
pub record IsKey {X : Type 0} (HasCode : X → ℕ → Type 0) (step : ℕ) (things : List X)
    (key : ℕ) : Type 0 where
  pub within : key % step < length things
  pub coded : (d : X) → HasCode (keyed_at step things d key) (key / step)

-- the keys have each place of the list once, in some order
pub record AreKeys {X : Type 0} (HasCode : X → ℕ → Type 0) (step : ℕ) (things : List X)
    (keys : List ℕ) : Type 0 where
  pub each : All (IsKey HasCode step things) keys
  pub places : IsPermutation (range_with_len 0 (length things)) (map (λ key. key % step) keys)
