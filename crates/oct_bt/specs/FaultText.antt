-- The text of what is wrong with a file, as a refusal names it.
use Rattle.std.specs.Prelude.{ℕ, List, [], ◌++◌, codes, decimal}
use Rattle.oct_bt.specs.declared.fault.HeaderWord.{HeaderWord}
use Rattle.oct_bt.specs.declared.fault.HeaderWord.TheVariants.{Id, Res, Size, Data}
use Rattle.oct_bt.specs.declared.fault.BtFault.{BtFault}
use Rattle.oct_bt.specs.declared.fault.BtFault.TheVariants.{NotOctomap, FloatTree, WrongId}
use Rattle.oct_bt.specs.declared.fault.BtFault.TheVariants.{MissingField, BadField, HeaderTooLong}
use Rattle.oct_bt.specs.declared.fault.BtFault.TheVariants.{TooDeep, Truncated, TrailingBytes}
use Rattle.oct_bt.specs.declared.fault.BtFault.TheVariants.{SizeMismatch, Memory}

-- the word of a header's line
abbrev pub word_text : HeaderWord → List ℕ
word_text Id = codes "id"
word_text Res = codes "res"
word_text Size = codes "size"
word_text Data = codes "data"

-- a fault: its number, its name and its fields; out of memory isn't a fault of the file, and has
-- none
abbrev pub fault_text : BtFault → List ℕ
fault_text NotOctomap = codes "10 NotOctomap"
fault_text FloatTree = codes "11 FloatTree"
fault_text WrongId = codes "12 WrongId"
fault_text (MissingField word) = codes "13 MissingField " ++ word_text word
fault_text (BadField word) = codes "14 BadField " ++ word_text word
fault_text HeaderTooLong = codes "15 HeaderTooLong"
fault_text (TooDeep at) = codes "16 TooDeep at " ++ decimal at
fault_text (Truncated at) = codes "17 Truncated at " ++ decimal at
fault_text (TrailingBytes at) = codes "18 TrailingBytes at " ++ decimal at
fault_text (SizeMismatch said found) =
    (codes "19 SizeMismatch said " ++ decimal said) ++ (codes " found " ++ decimal found)
fault_text Memory = []
