-- What calls that change a map leave of a handle.
use Rattle.std.specs.Prelude.{◌≡◌, ℕ, Option, Some, None, Result, Ok, Err}
use Rattle.oct_map.specs.Map.{Map}
use Rattle.oct_map.specs.declared.fault.MapFault.{MapFault}
use Rattle.octofix.specs.Codes.{answer_code, answer_details, answer_value, of_map}
use Rattle.octofix.specs.HandleLends.{open_with}
use Rattle.octofix.specs.Handles.{Handle}
use Rattle.octofix.specs.Numbers as code
use Rattle.octofix.specs.declared.refusal.Refusal.{Refusal}
use Rattle.octofix.specs.declared.refusal.Refusal.TheVariants as refusal
use Rattle.octofix.specs.declared.types.Details.{Details}

-- what a call leaves of a handle: without a map the same, and with one the same but for its map,
-- which is so
abbrev pub LeftFrom : Option Map → Handle → Handle → (Map → Map → Type 0) → Type 0
LeftFrom None h n R = n ≡ h
LeftFrom (Some m) h n R = (u : Map) × (n ≡ open_with h u) × R m u

-- the same by the two handles
abbrev pub Left : Handle → Handle → (Map → Map → Type 0) → Type 0
Left h = LeftFrom h.slot.map h

-- the same of a call that makes this of each map
abbrev pub changed_from : Option Map → (Map → Map) → Handle → Handle
changed_from None f h = h
changed_from (Some m) f h = open_with h (f m)

-- the handle after a call that makes this of each map
abbrev pub changed : (Map → Map) → Handle → Handle
changed f h = changed_from h.slot.map f h

-- the code of a call that is done wherever there is a map
abbrev pub open_code : Option Map → ℕ
open_code None = code.closed
open_code (Some m) = code.done

-- the answer is that there is no map, and the handle stays, or what the call makes of the map is
-- so, with this answer
abbrev pub DoneFrom : {A : Type 0} → Option Map → Handle → Handle
    → (Map → Map → Result A Refusal → Type 0) → Result A Refusal → Type 0
DoneFrom None h n R answer = (n ≡ h) × (answer ≡ Err refusal.Closed)
DoneFrom (Some m) h n R answer = (u : Map) × (n ≡ open_with h u) × R m u answer

-- the same by the two handles
abbrev pub IsDone : {A : Type 0} → Handle → Handle
    → (Map → Map → Result A Refusal → Type 0) → Result A Refusal → Type 0
IsDone h = DoneFrom h.slot.map h

-- the same, of an answer that is told by its code and its details
pub record IsTold {A : Type 0} (old new : Handle) (R : Map → Map → Result A Refusal → Type 0)
    (code : ℕ) (details : Details) : Type 0 where
  pub answer : Result A Refusal
  pub done : IsDone old new R answer
  pub coded : code ≡ answer_code answer
  pub detailed : details ≡ answer_details answer

-- the same, of an answer with a value that stands in its place afterwards
pub record IsValueTold {A : Type 0} (old new : Handle)
    (R : Map → Map → Result A Refusal → Type 0) (code : ℕ) (details : Details) (before after : A)
    : Type 0 where
  pub answer : Result A Refusal
  pub done : IsDone old new R answer
  pub coded : code ≡ answer_code answer
  pub detailed : details ≡ answer_details answer
  pub told : after ≡ answer_value before answer

-- what is asked for is refused before the map is looked at, or else the map is asked, and what it
-- makes of that is so
abbrev pub IsAsked : {X A : Type 0} → Result X Refusal
    → (X → Map → Map → Result A MapFault → Type 0) → Map → Map → Result A Refusal → Type 0
IsAsked (Err refused) R m n answer = (answer ≡ Err refused) × (n ≡ m)
IsAsked {A = A} (Ok x) R m n answer =
    (done : Result A MapFault) × R x m n done × (answer ≡ of_map done)
