-- The block of a scan within a script: it has one reply, and the first of its faults decides which.
use Rattle.std.specs.Prelude.{◌≡◌, IsSome, ℕ, ◌+◌, List, [], ◌∷◌, ◌++◌, length, nat_le, ⊤}
use Rattle.std.specs.Prelude.{true, false, if◌then◌else◌, Option, Some, None, Result, Ok, Err, ◌||◌}
use Rattle.std.specs.Option.{option_or}
use Rattle.oct_key.specs.declared.point.Point.{Point}
use Rattle.oct_script.specs.Lines.{Line}
use Rattle.oct_script.specs.Replies.{text_of, is_refusal}
use Rattle.oct_script.specs.declared.command.Command.{Command}
use Rattle.oct_script.specs.declared.command.Command.TheVariants.{Scan, Beam}
use Rattle.oct_script.specs.declared.command.ScanHead.{ScanHead}
use Rattle.oct_script.specs.declared.reply.Refusal.{Refusal}
use Rattle.oct_script.specs.declared.reply.Refusal.TheVariants.{TooManyPoints}
use Rattle.oct_script.specs.declared.reply.Reply.{Reply}
use Rattle.oct_script.specs.declared.reply.Reply.TheVariants.{Refused}
use Rattle.oct_session.specs.Commands.{command_on, accepted}
use Rattle.oct_session.specs.History.{History, State, Scanned, state_after}
use Rattle.oct_session.specs.ScanBlock.{opens_block, is_end, block_reply}
use Rattle.oct_session.specs.ScanSoFar.{ScanSoFar, sighting_so_far}
use Rattle.oct_session.specs.Session.{Progress, after_lines, next_command}
use Rattle.oct_session.specs.Setup.{Setup}
use Rattle.oct_session.specs.Tally.{counted}
use Rattle.oct_session.specs.declared.scan_block.ScanBlock.TheVariants.{Scanning}

-- ---- the lines of a block

-- a line that begins a block: the head of a scan, or a line that isn't in the grammar and whose
-- first word is `scan`
abbrev pub BeginsBlock : Result Command Refusal → Line → Type 0
BeginsBlock (Ok (Scan head)) line = ⊤
BeginsBlock (Ok other) line = ⊥
BeginsBlock (Err refusal) line = opens_block line ≡ true

-- no line of these, of which the first has this number, is an `end`
unfoldable pub NoneEnds : ℕ → List Line → Type 0
NoneEnds number [] = ⊤
NoneEnds number (line ∷ lines) =
    (is_end (command_on true number line) ≡ false) × NoneEnds (number + 1) lines

-- a line that begins a block, lines inside it, and the `end` that closes it, in a session that goes
-- on and has no block open
pub record IsBlock (p : Progress) (head : Line) (inside : List Line) (last : Line) : Type 0 where
  pub running : p.has_quit ≡ false
  pub outside : p.block ≡ None
  pub begins : BeginsBlock (next_command p head) head
  pub inner : NoneEnds (p.line_count + 1 + 1) inside
  pub ends : is_end (command_on true (p.line_count + 1 + length inside + 1) last) ≡ true

-- ---- what they come to

-- the points that a line inside a block gives: one, or none
abbrev pub points_of : Result Command Refusal → List Point
points_of (Ok (Beam p)) = p ∷ []
points_of _ = []

-- the points of the lines inside a block, of which the first has this number
unfoldable pub points_in : ℕ → List Line → List Point
points_in number [] = []
points_in number (line ∷ lines) =
    points_of (command_on true number line) ++ points_in (number + 1) lines

-- what is wrong with a line inside a block, behind so many points: it isn't in the grammar there,
-- or is long, or its point is the 1,000,001st
abbrev pub line_fault : ℕ → ℕ → Result Command Refusal → Option Refusal
line_fault number count (Err refusal) = Some refusal
line_fault number count (Ok (Beam p)) =
    if nat_le 1000000 count then Some (TooManyPoints number) else None
line_fault number count (Ok other) = None

-- the first fault of lines inside a block, of which the first has this number and stands behind so
-- many points
unfoldable pub first_fault : ℕ → ℕ → List Line → Option Refusal
first_fault number count [] = None
first_fault number count (line ∷ lines) =
    option_or (line_fault number count (command_on true number line))
    (first_fault (number + 1) (count + length (points_of (command_on true number line))) lines)

-- the reply to the scan of a block in a state, unless a line inside is at fault
abbrev pub reply_unless : Option Refusal → State → ScanSoFar → Option Reply
reply_unless (Some refusal) s scan = Some (Refused refusal)
reply_unless None s scan = block_reply s (Scanning scan)

-- the scan of a block whose head is on the line of this number, with the points of the lines inside
abbrev pub scan_in : ℕ → ScanHead → List Line → ScanSoFar
scan_in number head inside =
    record { line = number; head = head; points = points_in (number + 1) inside }

-- the reply to a block in a state, by the command of its first line, which has this number, and the
-- lines inside: the first line's own fault, else the first fault of a line inside, else what the
-- scan of all points comes to
abbrev pub reply_to_block : State → ℕ → Result Command Refusal → List Line → Option Reply
reply_to_block s number (Err refusal) inside = Some (Refused refusal)
reply_to_block s number (Ok (Scan head)) inside =
    reply_unless (first_fault (number + 1) 0 inside) s (scan_in number head inside)
reply_to_block s number (Ok other) inside = None

-- the scan of all points of a block
abbrev pub scan_of_block : ℕ → Result Command Refusal → List Line → History
scan_of_block number (Ok (Scan head)) inside =
    Scanned (sighting_so_far (scan_in number head inside)) head.lazy ∷ []
scan_of_block number other inside = []

-- what is done for a block in a state: that scan, unless the reply is a refusal
abbrev pub done_for_block : State → ℕ → Result Command Refusal → List Line → History
done_for_block s number command inside =
    accepted (reply_to_block s number command inside) (scan_of_block number command inside)

-- a block of so many lines has one reply, this one, which alone counts for its session, has done
-- this, is closed behind them, leaves the files as they were, and asks the store for none
pub record HasOneReply (p q : Progress) (count : ℕ) (reply : Option Reply) (actions : History)
    : Type 0 where
  pub one : IsSome reply
  pub text : q.text ≡ p.text ++ text_of reply
  pub refused : q.refused ≡ (p.refused || is_refusal reply)
  pub tally : q.tally ≡ counted p.tally reply
  pub history : q.history ≡ p.history ++ actions
  pub files : q.files ≡ p.files
  pub asks : q.asks ≡ p.asks
  pub closed : q.block ≡ None
  pub running : q.has_quit ≡ false
  pub lines : q.line_count ≡ p.line_count + count

-- what a session says of a block, and does for it
abbrev pub RepliesOnce : Setup → Progress → Line → List Line → Line → Type 0
RepliesOnce o p head inside last =
    HasOneReply p (after_lines o p (head ∷ inside ++ last ∷ [])) (length inside + 2)
    (reply_to_block (state_after o p.history) (p.line_count + 1) (next_command p head) inside)
    (done_for_block (state_after o p.history) (p.line_count + 1) (next_command p head) inside)
