-- Calls that fail by their numbers.
use Rattle.std.specs.Prelude.{ℕ, zero, suc, ◌+◌, ◌-◌, ◌^◌, nat_eq, nat_lt, Bool, false, List, cond}
use Rattle.std.specs.Prelude.{if◌then◌else◌}
use Rattle.std.specs.List.{list_any}
use Rattle.oct_io.specs.declared.calls.Calls.{Calls}

-- whether the call of a number is to fail
abbrev pub is_to_fail : List ℕ → ℕ → Bool
is_to_fail fails number = list_any (λ n. nat_eq n number) fails

-- whether the next call has a number: the count stays at its last value, and a call that finds it
-- there has none
abbrev pub has_number : ℕ → Bool
has_number count = nat_lt count (2 ^ 64 - 1)

-- whether the next call fails
abbrev pub fails_next : Calls → Bool
fails_next calls =
    if has_number calls.count then is_to_fail calls.fails (calls.count + 1) else false

-- the calls, with one more
abbrev pub with_call : Calls → Calls
with_call calls = record {
  fails = calls.fails;
  count = if has_number calls.count then calls.count + 1 else calls.count;
}

-- how many of the first n calls fail
unfoldable pub failed_within : List ℕ → ℕ → ℕ
failed_within fails zero = 0
failed_within fails (suc count) =
    failed_within fails count + cond (is_to_fail fails (suc count)) 1 0

-- how many calls have failed
abbrev pub failed_of : Calls → ℕ
failed_of calls = failed_within calls.fails calls.count
