-- The texts of replies.
use Rattle.std.specs.Prelude.{ℕ, ℤ, int_lt, List, [], ◌++◌, codes, decimal, length, Bool, true}
use Rattle.std.specs.Prelude.{false, Option, Some, None, if◌then◌else◌}
use Rattle.std.specs.List.{flat_map}
use Rattle.std.specs.Fmt.{signed_decimal}
use Rattle.oct_bt.specs.FaultText.{fault_text}
use Rattle.oct_bt.specs.declared.fault.BtFault.{BtFault}
use Rattle.oct_bt.specs.declared.fault.BtFault.TheVariants as bt_fault
use Rattle.oct_cast.specs.declared.outcome.Cast.{Cast}
use Rattle.oct_cast.specs.declared.outcome.Cast.TheVariants as cast
use Rattle.oct_change.specs.declared.kind.Change.{Change}
use Rattle.oct_change.specs.declared.kind.Kind.{Kind}
use Rattle.oct_change.specs.declared.kind.Kind.TheVariants as kind
use Rattle.oct_key.specs.Voxel.{Voxel}
use Rattle.oct_odds.specs.declared.event.Class.{Class}
use Rattle.oct_odds.specs.declared.event.Class.TheVariants as class
use Rattle.oct_query.specs.Shown.{Shown}
use Rattle.oct_query.specs.declared.totals.Counts.{Counts}
use Rattle.oct_script.specs.declared.reply.Refusal.{Refusal}
use Rattle.oct_script.specs.declared.reply.Refusal.TheVariants.{ZeroQuaternion, OriginOutside}
use Rattle.oct_script.specs.declared.reply.Refusal.TheVariants.{PointOutside, TooManyCells, Stale}
use Rattle.oct_script.specs.declared.reply.Refusal.TheVariants.{TooManyBlocks, BadBox, Full}
use Rattle.oct_script.specs.declared.reply.Refusal.TheVariants.{Outside, BadDepth, Syntax, LongLine}
use Rattle.oct_script.specs.declared.reply.Refusal.TheVariants.{OpenScan, TooManyPoints, NotOctomap}
use Rattle.oct_script.specs.declared.reply.Refusal.TheVariants.{FloatTree, WrongId, MissingField}
use Rattle.oct_script.specs.declared.reply.Refusal.TheVariants.{BadField, HeaderTooLong, TooDeep}
use Rattle.oct_script.specs.declared.reply.Refusal.TheVariants.{Truncated, TrailingBytes}
use Rattle.oct_script.specs.declared.reply.Refusal.TheVariants.{SizeMismatch, BadMagic, BadSnapshot}
use Rattle.oct_script.specs.declared.reply.Refusal.TheVariants.{WideWhileTracked, NotTracked}
use Rattle.oct_script.specs.declared.reply.Refusal.TheVariants.{NoFile, FileTooLarge}
use Rattle.oct_script.specs.declared.reply.Refusal.TheVariants.{OtherResolution}
use Rattle.oct_script.specs.declared.reply.ScanDone.{ScanDone}
use Rattle.oct_script.specs.declared.reply.Reply.{Reply}
use Rattle.oct_script.specs.declared.reply.Reply.TheVariants.{Ok, Known, Unknown, Scanned, Counted}
use Rattle.oct_script.specs.declared.reply.Reply.TheVariants.{Casted, Saved, Loaded, Restored}
use Rattle.oct_script.specs.declared.reply.Reply.TheVariants.{Refused, Blocks, Changed}

-- the name of a class
abbrev pub class_name : Class → List ℕ
class_name class.Unknown = codes "unknown"
class_name class.Free = codes "free"
class_name class.Occupied = codes "occupied"

-- a refusal: its number, its name and its fields
abbrev pub refusal_text : Refusal → List ℕ
refusal_text ZeroQuaternion = codes "5 ZeroQuaternion"
refusal_text OriginOutside = codes "6 OriginOutside"
refusal_text (PointOutside index) = codes "7 PointOutside index " ++ decimal index
refusal_text (TooManyCells index cells) =
    (codes "8 TooManyCells index " ++ decimal index) ++ (codes " cells " ++ decimal cells)
refusal_text (TooManyBlocks count) = codes "9 TooManyBlocks count " ++ decimal count
refusal_text NotOctomap = fault_text bt_fault.NotOctomap
refusal_text FloatTree = fault_text bt_fault.FloatTree
refusal_text WrongId = fault_text bt_fault.WrongId
refusal_text (MissingField word) = fault_text (bt_fault.MissingField word)
refusal_text (BadField word) = fault_text (bt_fault.BadField word)
refusal_text HeaderTooLong = fault_text bt_fault.HeaderTooLong
refusal_text (TooDeep at) = fault_text (bt_fault.TooDeep at)
refusal_text (Truncated at) = fault_text (bt_fault.Truncated at)
refusal_text (TrailingBytes at) = fault_text (bt_fault.TrailingBytes at)
refusal_text (SizeMismatch said found) = fault_text (bt_fault.SizeMismatch said found)
refusal_text BadMagic = codes "20 BadMagic"
refusal_text (BadSnapshot at) = codes "21 BadSnapshot at " ++ decimal at
refusal_text Stale = codes "22 Stale"
refusal_text (Full groups need) =
    (codes "23 Full groups " ++ decimal groups) ++ (codes " need " ++ decimal need)
refusal_text (Outside point) = codes "24 Outside point " ++ decimal point
refusal_text BadDepth = codes "25 BadDepth"
refusal_text BadBox = codes "26 BadBox"
refusal_text (WideWhileTracked count) = codes "27 WideWhileTracked count " ++ decimal count
refusal_text NotTracked = codes "28 NotTracked"
refusal_text (Syntax line column) =
    (codes "29 Syntax line " ++ decimal line) ++ (codes " column " ++ decimal column)
refusal_text (LongLine line) = codes "30 LongLine line " ++ decimal line
refusal_text (OpenScan line) = codes "31 OpenScan line " ++ decimal line
refusal_text (TooManyPoints line) = codes "32 TooManyPoints line " ++ decimal line
refusal_text NoFile = codes "33 NoFile"
refusal_text FileTooLarge = codes "34 FileTooLarge"
refusal_text (OtherResolution file session) =
    (codes "35 OtherResolution file " ++ signed_decimal file)
    ++ (codes " session " ++ signed_decimal session)

-- what is wrong with a file of classes, as a reply says it; out of memory a session ends without
-- one
abbrev pub file_refusal : BtFault → Option Refusal
file_refusal bt_fault.NotOctomap = Some NotOctomap
file_refusal bt_fault.FloatTree = Some FloatTree
file_refusal bt_fault.WrongId = Some WrongId
file_refusal (bt_fault.MissingField word) = Some (MissingField word)
file_refusal (bt_fault.BadField word) = Some (BadField word)
file_refusal bt_fault.HeaderTooLong = Some HeaderTooLong
file_refusal (bt_fault.TooDeep at) = Some (TooDeep at)
file_refusal (bt_fault.Truncated at) = Some (Truncated at)
file_refusal (bt_fault.TrailingBytes at) = Some (TrailingBytes at)
file_refusal (bt_fault.SizeMismatch said found) = Some (SizeMismatch said found)
file_refusal bt_fault.Memory = None

-- how many voxels a scan hit and freed
abbrev pub scan_text : ScanDone → List ℕ
scan_text done = (codes "ok hits " ++ decimal done.hits) ++ (codes " frees " ++ decimal done.frees)

-- how many groups and nodes there are
abbrev pub counts_text : Counts → List ℕ
counts_text counts =
    (codes "groups " ++ decimal counts.groups) ++ (codes " nodes " ++ decimal counts.nodes)

-- the numbers of a voxel
abbrev pub voxel_text : Voxel → List ℕ
voxel_text k = decimal k.x ++ ((codes " " ++ decimal k.y) ++ (codes " " ++ decimal k.z))

-- the voxel that stops a cast, if one does
abbrev pub cast_text : Cast → List ℕ
cast_text (cast.Hit k) = codes "cast hit " ++ voxel_text k
cast_text (cast.Unknown k) = codes "cast unknown " ++ voxel_text k
cast_text cast.Clear = codes "cast clear"

-- the class that a known value shows, where values from a threshold on are occupied
abbrev pub class_shown : ℤ → ℤ → Class
class_shown threshold value = if int_lt value threshold then class.Free else class.Occupied

-- a value and its class
abbrev pub value_text : ℤ → Class → List ℕ
value_text value class = codes " " ++ signed_decimal value ++ (codes " " ++ class_name class)

-- the line of a block with its value
abbrev pub block_text : ℤ → Shown → List ℕ
block_text threshold shown =
    (codes "block "
    ++ voxel_text (record { x = shown.block.x; y = shown.block.y; z = shown.block.z }))
    ++ value_text shown.value (class_shown threshold shown.value) ++ codes "\n"

-- how a voxel changed
abbrev pub kind_name : Kind → List ℕ
kind_name kind.New = codes "new"
kind_name kind.Lost = codes "lost"
kind_name kind.Occupied = codes "occupied"
kind_name kind.Freed = codes "freed"

-- the line of a voxel that changed
abbrev pub change_text : Change → List ℕ
change_text change =
    kind_name change.kind ++ (codes " " ++ voxel_text change.key) ++ codes "\n"

-- the line after a list of this many lines
abbrev pub end_text : ℕ → List ℕ
end_text count = (codes "end " ++ decimal count) ++ codes "\n"

-- a line for each block, and how many there are
abbrev pub blocks_text : ℤ → List Shown → List ℕ
blocks_text threshold blocks = flat_map (block_text threshold) blocks ++ end_text (length blocks)

-- a line for each change, and how many there are
abbrev pub changes_text : List Change → List ℕ
changes_text changes = flat_map change_text changes ++ end_text (length changes)

-- the line of a reply, with its line feed, or its lines
abbrev pub reply_text : Reply → List ℕ
reply_text Ok = codes "ok\n"
reply_text (Known value class) =
    codes "known " ++ signed_decimal value ++ codes " " ++ class_name class ++ codes "\n"
reply_text Unknown = codes "unknown\n"
reply_text (Scanned done) = scan_text done ++ codes "\n"
reply_text (Counted counts) = counts_text counts ++ codes "\n"
reply_text (Blocks blocks threshold) = blocks_text threshold blocks
reply_text (Changed changes) = changes_text changes
reply_text (Casted found) = cast_text found ++ codes "\n"
reply_text (Saved bytes) = (codes "saved " ++ decimal bytes) ++ codes "\n"
reply_text (Loaded nodes) = (codes "loaded " ++ decimal nodes) ++ codes "\n"
reply_text (Restored groups) = (codes "restored groups " ++ decimal groups) ++ codes "\n"
reply_text (Refused refusal) = codes "refused " ++ refusal_text refusal ++ codes "\n"

-- what is written for a line, which may need no reply
abbrev pub text_of : Option Reply → List ℕ
text_of None = []
text_of (Some reply) = reply_text reply

-- a refusal
abbrev pub is_refusal : Option Reply → Bool
is_refusal (Some (Refused refusal)) = true
is_refusal _ = false
