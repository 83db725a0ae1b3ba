-- What sources, sinks and stores hold, as contracts see it.
use Rattle.std.specs.Prelude.{ℕ, List, Option}

-- what a source in memory still has to give, and how many bytes it gives at most in one read
pub record Supply : Type 0 where
  pub left : List ℕ
  pub most : ℕ

-- what was written to a sink in memory, how many bytes it takes at most in one write, and how many
-- writes ran out of memory
pub record Receipt : Type 0 where
  pub written : List ℕ
  pub most : ℕ
  pub shortages : ℕ

-- what a reader of std tells of its bytes itself, and how many reads have failed
pub record Reading : Type 0 where
  pub told : Option (List ℕ)
  pub faults : ℕ

-- what a writer of std tells of its bytes itself, and how many writes have failed or run out of
-- memory
pub record Writing : Type 0 where
  pub told : Option (List ℕ)
  pub faults : ℕ
  pub shortages : ℕ

-- how many calls over a folder have failed
pub record Tally : Type 0 where
  pub faults : ℕ
