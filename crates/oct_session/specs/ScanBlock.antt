-- The block of a scan: its head, the lines inside it, and its one reply.
use Rattle.std.specs.Prelude.{◌≡◌, ℕ, pos, [], ◌∷◌, ◌++◌, length, nat_le, if◌then◌else◌, Bool, true}
use Rattle.std.specs.Prelude.{false, ◌&&◌, Option, Some, None, Result, Ok, Err}
use Rattle.std.specs.Ordering.{int_eq}
use Rattle.oct_map.specs.Answers.{scan_answer}
use Rattle.oct_map.specs.declared.fault.MapFault.{MapFault}
use Rattle.oct_map.specs.declared.done.ScanDone as map_done
use Rattle.oct_key.specs.declared.point.Point.{Point}
use Rattle.oct_script.specs.declared.command.Command.{Command}
use Rattle.oct_script.specs.declared.command.ScanHead.{ScanHead}
use Rattle.oct_script.specs.declared.reply.Refusal.{Refusal}
use Rattle.oct_script.specs.declared.reply.Refusal.TheVariants as refusal
use Rattle.oct_script.specs.declared.reply.Reply.{Reply}
use Rattle.oct_script.specs.declared.reply.Reply.TheVariants as reply_of
use Rattle.oct_script.specs.Commands.{opens_scan}
use Rattle.oct_script.specs.Lines.{Line, Text, Long}
use Rattle.oct_session.specs.Refusals.{fault_reply}
use Rattle.oct_session.specs.History.{History, State, Scanned}
use Rattle.oct_session.specs.ScanSoFar.{ScanSoFar, begun, sighting_so_far}
use Rattle.oct_session.specs.Kinds.{Kind, kind_of, Nothing, Opens, Adds, Closes, Orders, Asks}
use Rattle.oct_session.specs.Kinds.{Names}
use Rattle.oct_session.specs.declared.scan_block.ScanBlock.{ScanBlock}
use Rattle.oct_session.specs.declared.scan_block.ScanBlock.TheVariants.{Scanning, Spoilt}

-- a line that opens a block, whatever its other words are; a long line opens none
abbrev pub opens_block : Line → Bool
opens_block (Text text) = opens_scan text
opens_block Long = false

-- the block that what does a command opens outside a block
abbrev pub kind_opened : ℕ → Kind → Option ScanBlock
kind_opened number (Opens head) = Some (Scanning (begun number head))
kind_opened number Nothing = None
kind_opened number (Adds p) = None
kind_opened number Closes = None
kind_opened number (Orders order) = None
kind_opened number (Asks question) = None
kind_opened number (Names verb name) = None

-- the block that a line outside a block opens, if it opens one: a head begins its scan, and a
-- faulty head spoils its block
abbrev pub opened : ℕ → Line → Result Command Refusal → Option ScanBlock
opened number line (Ok command) = kind_opened number (kind_of command)
opened number line (Err refusal) = if opens_block line then Some (Spoilt refusal) else None

-- the scan with one point more
abbrev pub extended : Point → ScanSoFar → ScanSoFar
extended p scan = record { line = scan.line; head = scan.head; points = scan.points ++ p ∷ [] }

-- the block with one point more, which is on the line of this number; a scan has at most 1,000,000
-- points
abbrev pub with_point : ℕ → Point → ScanSoFar → ScanBlock
with_point number p scan =
    if nat_le 1000000 (length scan.points)
    then Spoilt (refusal.TooManyPoints number)
    else Scanning (extended p scan)

-- the scan of the block that was open has one point more
pub record GainsPoint (old new : Option ScanBlock) : Type 0 where
  pub scan : ScanSoFar
  pub point : Point
  pub before : old ≡ Some (Scanning scan)
  pub after : new ≡ Some (Scanning (extended point scan))

-- the block with what this does, unless it closes the block: a point is added to it, and nothing
-- else has a part in it
abbrev pub with_kind : ℕ → Kind → ScanSoFar → ScanBlock
with_kind number (Adds p) scan = with_point number p scan
with_kind number Nothing scan = Scanning scan
with_kind number (Opens head) scan = Scanning scan
with_kind number Closes scan = Scanning scan
with_kind number (Orders order) scan = Scanning scan
with_kind number (Asks question) scan = Scanning scan
with_kind number (Names verb name) scan = Scanning scan

-- the same, where some line may have been wrong, which stays so
abbrev pub block_with : ℕ → Kind → ScanBlock → ScanBlock
block_with number kind (Spoilt first) = Spoilt first
block_with number kind (Scanning scan) = with_kind number kind scan

-- the block with one line more, which is the line of this number and doesn't end it: the first
-- fault spoils it, and stays
abbrev pub with_line : ℕ → Result Command Refusal → ScanBlock → ScanBlock
with_line number command (Spoilt first) = Spoilt first
with_line number (Err refusal) (Scanning scan) = Spoilt refusal
with_line number (Ok command) (Scanning scan) = with_kind number (kind_of command) scan

-- the block that is open after a line that isn't in the grammar: the one that was open, or the one
-- that the line opens, if it opens one
abbrev pub spoilt_by : ℕ → Bool → Refusal → Option ScanBlock → Option ScanBlock
spoilt_by number opens refusal None = if opens then Some (Spoilt refusal) else None
spoilt_by number opens refusal (Some block) = Some (with_line number (Err refusal) block)

-- the reply to such a line, which has none where a block is open after it
abbrev pub spoilt_reply : Refusal → Option ScanBlock → Option Reply
spoilt_reply refusal None = Some (reply_of.Refused refusal)
spoilt_reply refusal (Some block) = None

-- what closes a block
abbrev pub does_close : Kind → Bool
does_close Closes = true
does_close Nothing = false
does_close (Opens head) = false
does_close (Adds p) = false
does_close (Orders order) = false
does_close (Asks question) = false
does_close (Names verb name) = false

-- the line that closes it
abbrev pub is_end : Result Command Refusal → Bool
is_end (Ok command) = does_close (kind_of command)
is_end (Err refusal) = false

-- all four numbers of a head's quaternion are 0
abbrev pub is_zero : ScanHead → Bool
is_zero head =
    int_eq head.w (pos 0) && int_eq head.x (pos 0) && int_eq head.y (pos 0) && int_eq head.z (pos 0)

-- the reply to a scan, by the map's answer
abbrev pub scan_reply : Result map_done.ScanDone MapFault → Option Reply
scan_reply (Ok done) = Some (reply_of.Scanned (record { hits = done.hits; frees = done.frees }))
scan_reply (Err fault) = fault_reply fault

-- the reply to a block that its `end` closes in a state, by the map's answer in that state
abbrev pub block_reply : State → ScanBlock → Option Reply
block_reply s (Spoilt refusal) = Some (reply_of.Refused refusal)
block_reply s (Scanning scan) =
    if is_zero scan.head
    then Some (reply_of.Refused refusal.ZeroQuaternion)
    else scan_reply (scan_answer s.base s.values (sighting_so_far scan))

-- what a block does, if it does anything
abbrev pub block_action : ScanBlock → History
block_action (Spoilt refusal) = []
block_action (Scanning scan) = Scanned (sighting_so_far scan) scan.head.lazy ∷ []

-- why a block is refused that is open at the end of the script
abbrev pub end_refusal : ScanBlock → Refusal
end_refusal (Spoilt refusal) = refusal
end_refusal (Scanning scan) = refusal.OpenScan scan.line

-- the reply at the end of the script, if a block is open there
abbrev pub end_reply : Option ScanBlock → Option Reply
end_reply None = None
end_reply (Some block) = Some (reply_of.Refused (end_refusal block))
