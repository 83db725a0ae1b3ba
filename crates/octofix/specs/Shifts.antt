-- What a merge of a moved map does to the map of a handle.
use Rattle.std.specs.Prelude.{◌≡◌, ℕ, ℤ, ⊤, ◌⊎◌, Option, Some, None, Result, Ok, Err, IsOk}
use Rattle.oct_key.specs.Boxes.{Window}
use Rattle.oct_map.specs.Map.{Map}
use Rattle.oct_map.specs.Merges.{IsKnownBox}
use Rattle.oct_map.specs.Shifts.{HasNoMemory, IsShiftMerged, shift_answer}
use Rattle.oct_map.specs.declared.fault.MapFault.{MapFault}
use Rattle.oct_merge.specs.declared.rule.Rule.{Rule}
use Rattle.oct_shift.specs.declared.shift.Shift.{Shift}
use Rattle.octofix.specs.Codes.{answer_code, answer_details, of_map}
use Rattle.octofix.specs.HandleLends.{open_with}
use Rattle.octofix.specs.Handles.{Handle}
use Rattle.octofix.specs.Merges.{alike_answer, rule_of}
use Rattle.octofix.specs.declared.refusal.Refusal.{Refusal}
use Rattle.octofix.specs.declared.refusal.Refusal.TheVariants as refusal
use Rattle.octofix.specs.declared.types.Details.{Details}

-- the shift by these numbers of voxels
abbrev pub shift_of : ℤ → ℤ → ℤ → Shift
shift_of dx dy dz = record { x = dx; y = dy; z = dz }

-- What a merge of the map o, moved, makes of a map: all that the map says of it.
pub record IsMapShiftMerge (rule : Rule) (s : Shift) (m o n : Map) (done : Result ⊤ MapFault)
    : Type 0 where
  pub faulty : (extent : Option Window) → IsKnownBox o extent → (fault : MapFault)
      → shift_answer m extent s o ≡ Err fault → (done ≡ Err fault) × (n ≡ m)
  pub merged : (extent : Option Window) → IsKnownBox o extent → IsOk (shift_answer m extent s o)
      → HasNoMemory s m o n done ⊎ IsShiftMerged rule s m o n done

-- two maps are refused, and the first one stays, or else the second one is merged into it
abbrev pub ShiftMergeBy : Result ⊤ Refusal → Rule → Shift → Map → Map → Map → Result ⊤ Refusal
    → Type 0
ShiftMergeBy (Err refused) rule s m o n answer = (answer ≡ Err refused) × (n ≡ m)
ShiftMergeBy (Ok alike) rule s m o n answer =
    (done : Result ⊤ MapFault) × IsMapShiftMerge rule s m o n done × (answer ≡ of_map done)

-- the same by the two maps
abbrev pub IsShiftMerge : Rule → Shift → Map → Map → Map → Result ⊤ Refusal → Type 0
IsShiftMerge rule s m o = ShiftMergeBy (alike_answer m o) rule s m o

-- a rule is refused, and the map stays, or else the other one is merged into it
abbrev pub ShiftRuledBy : Result Rule Refusal → Shift → Map → Map → Map → Result ⊤ Refusal → Type 0
ShiftRuledBy (Err refused) s m o n answer = (answer ≡ Err refused) × (n ≡ m)
ShiftRuledBy (Ok rule) s m o n answer = IsShiftMerge rule s m o n answer

-- one of two handles has no map, and the first one stays, or else it is the same but for its map,
-- of which this is so
abbrev pub IntoFrom : Option Map → Option Map → Handle → Handle
    → (Map → Map → Map → Result ⊤ Refusal → Type 0) → Result ⊤ Refusal → Type 0
IntoFrom None other h n R answer = (n ≡ h) × (answer ≡ Err refusal.Closed)
IntoFrom (Some m) None h n R answer = (n ≡ h) × (answer ≡ Err refusal.Closed)
IntoFrom (Some m) (Some o) h n R answer = (u : Map) × (n ≡ open_with h u) × R m o u answer

-- what a merge of the moved map of another handle by the rule of this number makes of a handle
abbrev pub AreShiftMerged : ℕ → Shift → Handle → Handle → Handle → Result ⊤ Refusal → Type 0
AreShiftMerged rule s h g n answer =
    IntoFrom h.slot.map g.slot.map h n (ShiftRuledBy (rule_of rule) s) answer

-- the same, of an answer that is told by its code and its details
pub record AreShiftMergedTold (rule : ℕ) (s : Shift) (h g n : Handle) (code : ℕ)
    (details : Details) : Type 0 where
  pub answer : Result ⊤ Refusal
  pub done : AreShiftMerged rule s h g n answer
  pub coded : code ≡ answer_code answer
  pub detailed : details ≡ answer_details answer
