-- What a load answers, and its limit.
use Rattle.std.specs.Prelude.{◌<◌, ◌≤◌, ◌^◌, ℕ, List, length, nat_le, Option, Some, None}
use Rattle.std.specs.Prelude.{if◌then◌else◌, ⊤}
use Rattle.oct_io.specs.declared.store.Loaded.{Loaded}
use Rattle.oct_io.specs.declared.store.Loaded.TheVariants.{Bytes, Missing, TooLarge}

-- what a load answers where the name has these bytes, or no file
abbrev pub loaded_of : Option (List ℕ) → Loaded
loaded_of None = Missing
loaded_of (Some bytes) = if nat_le (length bytes) (2 ^ 30) then Bytes bytes else TooLarge

-- the bytes that were loaded, if any, are at most 2^30
abbrev pub IsWithinLimit : Loaded → Type 0
IsWithinLimit (Bytes bytes) = length bytes ≤ 2 ^ 30
IsWithinLimit Missing = ⊤
IsWithinLimit TooLarge = ⊤

-- a load takes memory, where the name has these bytes, or no file: there is a byte to answer
abbrev pub TakesMemory : Option (List ℕ) → Type 0
TakesMemory None = ⊥
TakesMemory (Some bytes) = (0 < length bytes) × (length bytes ≤ 2 ^ 30)
