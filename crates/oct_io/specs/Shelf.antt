-- A store, as a run uses it.
use Rattle.std.specs.Prelude.{◌≡◌, ℕ, Option}
use Rattle.oct_io.specs.Files.{Files}

-- a store, as a run uses it: its files, where it tells them, that it is as it was at first, and
-- how often it had been asked at first and has been now, where it counts that
pub record Shelf : Type 1 where
  pub files : Option Files
  pub same : Type 0
  pub first_calls : ℕ
  pub calls : ℕ

-- the shelf of a store as it is now, beside the same store as it was at first
abbrev pub shelf : {F : Type 0} → (F → Option Files) → (F → ℕ) → F → F → Shelf
shelf files calls first store = record {
  files = files store;
  same = store ≡ first;
  first_calls = calls first;
  calls = calls store;
}
