-- The code of each refusal, and the two numbers that it names.
use Rattle.std.specs.Prelude.{ℕ, ◌-◌, ◌^◌, min, unsigned_abs, Result, Ok, Err}
use Rattle.oct_bt.specs.declared.fault.BtFault.{BtFault}
use Rattle.oct_bt.specs.declared.fault.BtFault.TheVariants as bt
use Rattle.oct_bt.specs.declared.fault.HeaderWord.{HeaderWord}
use Rattle.oct_bt.specs.declared.fault.HeaderWord.TheVariants as word
use Rattle.oct_map.specs.declared.fault.MapFault.{MapFault}
use Rattle.oct_map.specs.declared.fault.MapFault.TheVariants as fault
use Rattle.oct_odds.specs.declared.model.OddsField.{OddsField}
use Rattle.oct_odds.specs.declared.model.OddsField.TheVariants as field
use Rattle.octofix.specs.Numbers as code
use Rattle.octofix.specs.declared.refusal.Refusal.{Refusal}
use Rattle.octofix.specs.declared.refusal.Refusal.TheVariants as refusal
use Rattle.octofix.specs.declared.types.Details.{Details}

-- what refusals of the map answer
abbrev pub map_code : MapFault → ℕ
map_code fault.OriginOutside = 6
map_code (fault.PointOutside index) = 7
map_code (fault.TooManyCells index cells) = 8
map_code (fault.TooManyBlocks count) = 9
map_code (fault.Truncated at) = 17
map_code (fault.TrailingBytes at) = 18
map_code fault.BadMagic = 20
map_code (fault.BadSnapshot at) = 21
map_code fault.Stale = 22
map_code (fault.Full groups need) = 23
map_code (fault.Outside point) = 24
map_code fault.BadDepth = 25
map_code fault.BadBox = 26
map_code (fault.WideWhileTracked count) = 27
map_code fault.NotTracked = 28
map_code (fault.OtherResolution file map) = 35
map_code fault.Memory = code.memory

-- what faults of a file answer
abbrev pub file_code : BtFault → ℕ
file_code bt.NotOctomap = 10
file_code bt.FloatTree = 11
file_code bt.WrongId = 12
file_code (bt.MissingField word) = 13
file_code (bt.BadField word) = 14
file_code bt.HeaderTooLong = 15
file_code (bt.TooDeep at) = 16
file_code (bt.Truncated at) = 17
file_code (bt.TrailingBytes at) = 18
file_code (bt.SizeMismatch said found) = 19
file_code bt.Memory = code.memory

-- what each refusal answers
abbrev pub refusal_code : Refusal → ℕ
refusal_code refusal.Closed = code.closed
refusal_code refusal.Open = code.open_already
refusal_code (refusal.BadArgument index) = code.bad_argument
refusal_code refusal.BadResolution = 3
refusal_code (refusal.BadModel which) = 4
refusal_code refusal.ZeroQuaternion = 5
refusal_code refusal.OtherOdds = code.other_odds
refusal_code (refusal.WideGrid count) = 38
refusal_code (refusal.Map fault) = map_code fault
refusal_code (refusal.File fault) = file_code fault

-- two numbers that a refusal names
abbrev pub details : ℕ → ℕ → Details
details first second = record { first = first; second = second }

-- what a refusal names that names nothing
abbrev pub no_details : Details
no_details = details 0 0

-- the number, or the greatest one of 64 bits where it is greater
abbrev pub in_64_bits : ℕ → ℕ
in_64_bits n = min n (2 ^ 64 - 1)

-- what refusals of the map name
abbrev pub map_details : MapFault → Details
map_details (fault.PointOutside index) = details index 0
map_details (fault.TooManyCells index cells) = details index cells
map_details (fault.TooManyBlocks count) = details count 0
map_details (fault.Truncated at) = details at 0
map_details (fault.TrailingBytes at) = details at 0
map_details (fault.BadSnapshot at) = details at 0
map_details (fault.Full groups need) = details groups (in_64_bits need)
map_details (fault.Outside point) = details point 0
map_details (fault.WideWhileTracked count) = details count 0
map_details (fault.OtherResolution file map) = details (unsigned_abs file) (unsigned_abs map)
map_details fault.OriginOutside = no_details
map_details fault.BadMagic = no_details
map_details fault.Stale = no_details
map_details fault.BadDepth = no_details
map_details fault.BadBox = no_details
map_details fault.NotTracked = no_details
map_details fault.Memory = no_details

-- the number of a line of a header
abbrev pub word_number : HeaderWord → ℕ
word_number word.Id = 0
word_number word.Res = 1
word_number word.Size = 2
word_number word.Data = 3

-- the number of one of the five log-odds
abbrev pub field_number : OddsField → ℕ
field_number field.Hit = 0
field_number field.Miss = 1
field_number field.Min = 2
field_number field.Max = 3
field_number field.Thr = 4

-- what faults of a file name
abbrev pub file_details : BtFault → Details
file_details (bt.MissingField word) = details (word_number word) 0
file_details (bt.BadField word) = details (word_number word) 0
file_details (bt.TooDeep at) = details at 0
file_details (bt.Truncated at) = details at 0
file_details (bt.TrailingBytes at) = details at 0
file_details (bt.SizeMismatch said found) = details said found
file_details bt.NotOctomap = no_details
file_details bt.FloatTree = no_details
file_details bt.WrongId = no_details
file_details bt.HeaderTooLong = no_details
file_details bt.Memory = no_details

-- what each refusal names
abbrev pub refusal_details : Refusal → Details
refusal_details (refusal.BadArgument index) = details index 0
refusal_details (refusal.BadModel which) = details (field_number which) 0
refusal_details (refusal.WideGrid count) = details count 0
refusal_details (refusal.Map fault) = map_details fault
refusal_details (refusal.File fault) = file_details fault
refusal_details refusal.Closed = no_details
refusal_details refusal.Open = no_details
refusal_details refusal.BadResolution = no_details
refusal_details refusal.ZeroQuaternion = no_details
refusal_details refusal.OtherOdds = no_details

-- the same, of the element of an array that has this index
abbrev pub refusal_at : ℕ → Refusal → Refusal
refusal_at index (refusal.BadArgument _) = refusal.BadArgument index
refusal_at index other = other

-- the code of an answer: 0 exactly where it is no refusal
abbrev pub answer_code : {A : Type 0} → Result A Refusal → ℕ
answer_code (Ok value) = code.done
answer_code (Err refusal) = refusal_code refusal

-- what it names
abbrev pub answer_details : {A : Type 0} → Result A Refusal → Details
answer_details (Ok value) = no_details
answer_details (Err refusal) = refusal_details refusal

-- what stands in the place for a value afterwards
abbrev pub answer_value : {A : Type 0} → A → Result A Refusal → A
answer_value old (Ok value) = value
answer_value old (Err refusal) = old

-- an answer of the map, as that of a call
abbrev pub of_map : {A : Type 0} → Result A MapFault → Result A Refusal
of_map (Ok answer) = Ok answer
of_map (Err fault) = Err (refusal.Map fault)
