-- What a call leaves in a buffer that a list is put into.
use Rattle.std.specs.Prelude.{◌≡◌, ◌≤◌, ◌++◌, ℕ, nat_lt, List, ◌∷◌, length, drop, ⊤, Result, Ok}
use Rattle.std.specs.Prelude.{Err, if◌then◌else◌}
use Rattle.octofix.specs.Asked.{IsReached}
use Rattle.octofix.specs.Codes.{refusal_code}
use Rattle.octofix.specs.Numbers as code
use Rattle.octofix.specs.declared.refusal.Refusal.{Refusal}

-- the buffer with these elements at its front, and all behind them as it was
abbrev pub fronted : {A : Type 0} → List A → List A → List A
fronted buffer items = items ++ drop (length items) buffer

-- the buffer after these elements were put into it: as it was where it is too small for them
abbrev pub filled : {A : Type 0} → List A → List A → List A
filled buffer items =
    if nat_lt (length buffer) (length items) then buffer else fronted buffer items

-- the code of putting so many elements into a buffer of this length
abbrev pub room_code : ℕ → ℕ → ℕ
room_code room count = if nat_lt room count then code.small_buffer else code.done

-- the code of a list for a buffer of this length
abbrev pub list_code : {A : Type 0} → ℕ → Result (List A) Refusal → ℕ
list_code room (Ok items) = room_code room (length items)
list_code room (Err refusal) = refusal_code refusal

-- what is left of a buffer after it
abbrev pub list_left : {A : Type 0} → List A → Result (List A) Refusal → List A
list_left buffer (Ok items) = filled buffer items
list_left buffer (Err refusal) = buffer

-- what is left of a count: how many elements there are, also where the buffer is too small
abbrev pub count_left : {A : Type 0} → ℕ → Result (List A) Refusal → ℕ
count_left count (Ok items) = length items
count_left count (Err refusal) = count

-- a list that isn't empty
abbrev pub IsSomeList : {A : Type 0} → Result (List A) Refusal → Type 0
IsSomeList (Ok (item ∷ items)) = ⊤
IsSomeList _ = ⊥

-- a list for which a buffer of this length has room
abbrev pub HasFit : {A : Type 0} → ℕ → Result (List A) Refusal → Type 0
HasFit room (Ok items) = length items ≤ room
HasFit room (Err refusal) = ⊥

-- What a call leaves that puts a list into a buffer and tells how long it is: of what was reached,
-- which is the answer unless memory ran out where it may, the code, the buffer and the count.
pub record IsListTold {A : Type 0} (answer : Result (List A) Refusal) (may_run_out : Type 0)
    (code : ℕ) (old new : List A) (count count_after : ℕ) : Type 0 where
  pub reached : Result (List A) Refusal
  pub right : IsReached answer may_run_out reached
  pub coded : code ≡ list_code (length old) reached
  pub left : new ≡ list_left old reached
  pub counted : count_after ≡ count_left count reached
