-- The codes that the library has beside those of refusals, by the names that `octofix.h` has for
-- them.
use Rattle.std.specs.Prelude.{ℕ}

-- all was done
abbrev pub done : ℕ
done = 0

-- the handle has no map
abbrev pub closed : ℕ
closed = 40

-- the handle has a map already
abbrev pub open_already : ℕ
open_already = 41

-- nothing is known of what was asked for
abbrev pub unknown : ℕ
unknown = 42

-- no voxel stops the cast
abbrev pub clear : ℕ
clear = 43

-- there is nothing of what was asked for
abbrev pub none : ℕ
none = 44

-- memory ran out
abbrev pub memory : ℕ
memory = 45

-- the buffer is too small
abbrev pub small_buffer : ℕ
small_buffer = 46

-- a number that was passed is out of its range
abbrev pub bad_argument : ℕ
bad_argument = 47

-- the log-odds of the two maps aren't the same
abbrev pub other_odds : ℕ
other_odds = 48
