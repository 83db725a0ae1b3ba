-- What is asked of the map of a handle.
use Rattle.std.specs.Prelude.{◌≡◌, ◌⊎◌, ℕ, List, map, Option, Some, None, Result, Ok, Err}
use Rattle.oct_map.specs.Map.{Map}
use Rattle.oct_map.specs.declared.fault.MapFault.{MapFault}
use Rattle.oct_map.specs.declared.fault.MapFault.TheVariants as fault
use Rattle.octofix.specs.Codes.{answer_code, answer_details}
use Rattle.octofix.specs.declared.refusal.Refusal.{Refusal}
use Rattle.octofix.specs.declared.refusal.Refusal.TheVariants as refusal
use Rattle.octofix.specs.declared.types.Details.{Details}

-- what the map of a handle answers, or that there is none
abbrev pub asked : {A : Type 0} → Option Map → (Map → Result A Refusal) → Result A Refusal
asked None answer = Err refusal.Closed
asked (Some m) answer = answer m

-- a list that the map answers, each element as C reads it
abbrev pub told_each : {A B : Type 0} → (A → B) → Result (List A) MapFault → Result (List B) Refusal
told_each told (Ok items) = Ok (map told items)
told_each told (Err fault) = Err (refusal.Map fault)

-- this is the answer, or memory ran out where it may
abbrev pub IsReached : {A : Type 0} → Result A Refusal → Type 0 → Result A Refusal → Type 0
IsReached answer may_run_out reached =
    (reached ≡ answer) ⊎ ((reached ≡ Err (refusal.Map fault.Memory)) × may_run_out)

-- the code and the details of what was reached: the answer, unless memory ran out where it may
pub record IsAnswered {A : Type 0} (answer : Result A Refusal) (may_run_out : Type 0) (code : ℕ)
    (details : Details) : Type 0 where
  pub reached : Result A Refusal
  pub right : IsReached answer may_run_out reached
  pub coded : code ≡ answer_code reached
  pub detailed : details ≡ answer_details reached

-- the same, of a call that tells its code alone
pub record IsCoded {A : Type 0} (answer : Result A Refusal) (may_run_out : Type 0) (code : ℕ)
    : Type 0 where
  pub reached : Result A Refusal
  pub right : IsReached answer may_run_out reached
  pub coded : code ≡ answer_code reached
