-- What is wrong with a file of classes has a refusal, whatever its bytes.
use Rattle.std.proofs.Common.{◌≡◌, ℕ, List, IsSome, Result, Ok, Err, refl}
use Rattle.std.specs.Prelude.{⊤}
use Rattle.oct_bt.specs.declared.fault.BtFault.{BtFault}
use Rattle.oct_bt.specs.declared.fault.BtFault.TheVariants as bt_fault
use Rattle.oct_bt.specs.File.{reading}
use Rattle.oct_bt.proofs.NoWant.{reading_wants_nothing}
use Rattle.oct_script.specs.Replies.{file_refusal}

-- a fault, if it is one, has a refusal
abbrev pub IsTold : {A : Type 0} → Result A BtFault → Type 0
IsTold (Ok x) = ⊤
IsTold (Err fault) = IsSome (file_refusal fault)

-- so it has, unless memory ran out
told_but_memory : {A : Type 0} (r : Result A BtFault) → (Err bt_fault.Memory ≡ r → ⊥) → IsTold r
told_but_memory (Ok x) other = tt
told_but_memory (Err bt_fault.NotOctomap) other = refl
told_but_memory (Err bt_fault.FloatTree) other = refl
told_but_memory (Err bt_fault.WrongId) other = refl
told_but_memory (Err (bt_fault.MissingField word)) other = refl
told_but_memory (Err (bt_fault.BadField word)) other = refl
told_but_memory (Err bt_fault.HeaderTooLong) other = refl
told_but_memory (Err (bt_fault.TooDeep at)) other = refl
told_but_memory (Err (bt_fault.Truncated at)) other = refl
told_but_memory (Err (bt_fault.TrailingBytes at)) other = refl
told_but_memory (Err (bt_fault.SizeMismatch said found)) other = refl
told_but_memory (Err bt_fault.Memory) other = absurd (other refl)

-- the fault of a file, if it has one, has a refusal
pub reading_told : (file : List ℕ) → IsTold (reading file)
reading_told file = told_but_memory (reading file) (reading_wants_nothing file)
