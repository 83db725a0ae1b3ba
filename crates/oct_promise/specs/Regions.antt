-- One map by many machines: each runs the whole script with its scans limited to a box, and has
-- what the map of one session has there. What their files are merged to stands in RegionFiles.antt.
use Rattle.std.specs.Prelude.{◌≡◌, ◌≢◌, ℕ, List, ◌∷◌, All, Bool, true, false, Option, Some, None}
use Rattle.std.specs.Prelude.{if◌then◌else◌, IfOk, IsSome, Ok, ⊤}
use Rattle.std.specs.List.{list_any}
use Rattle.oct_io.specs.Files.{Files}
use Rattle.oct_key.specs.Boxes.{Window, IsBox, IsInBox, is_in_box}
use Rattle.oct_key.specs.Values.{Values}
use Rattle.oct_key.specs.Voxel.{Voxel, IsInMap, key_at}
use Rattle.oct_key.specs.declared.point.Point.{Point}
use Rattle.oct_odds.specs.declared.event.Class.TheVariants.{Unknown}
use Rattle.oct_script.specs.Lines.{Line}
use Rattle.oct_script.specs.declared.command.Command.{Command}
use Rattle.oct_script.specs.declared.command.Command.TheVariants as command
use Rattle.oct_script.specs.declared.reply.Refusal.TheVariants.{Full}
use Rattle.oct_script.specs.declared.reply.Reply.{Reply}
use Rattle.oct_script.specs.declared.reply.Reply.TheVariants.{Refused}
use Rattle.oct_session.specs.Commands.{command_on}
use Rattle.oct_session.specs.History.{State}
use Rattle.oct_session.specs.Session.{start}
use Rattle.oct_session.specs.Setup.{Setup}
use Rattle.oct_values.specs.Classes.{Classes}
use Rattle.oct_promise.specs.Sums.{replies_to}

-- ---- regions

-- whether a voxel lies in one of these boxes, which may overlap
abbrev pub is_in_some : List Window → Voxel → Bool
is_in_some boxes k = list_any (λ (b : Window). is_in_box b.lo b.hi k) boxes

-- these values within the boxes, and nothing known outside
abbrev pub values_within : List Window → Values → Values
values_within boxes values k = if is_in_some boxes k then values k else None

-- these classes within the boxes, and unknown outside
abbrev pub classes_within : List Window → Classes → Classes
classes_within boxes classes k = if is_in_some boxes k then classes k else Unknown

-- the boxes leave out no known voxel of the map
abbrev pub Cover : List Window → Classes → Type 0
Cover boxes classes =
    (k : Voxel) → IsInMap k → classes k ≢ Unknown → is_in_some boxes k ≡ true

-- the same where a voxel has a value
abbrev pub CoverValues : List Window → Values → Type 0
CoverValues boxes values =
    (k : Voxel) → IsInMap k → IsSome (values k) → is_in_some boxes k ≡ true

-- ---- the script of a region

-- The script may have any command but those that would do in a region what they do outside it, or
-- know more than it has: edits of points and boxes, loads, restores, and the box of scans itself.
abbrev pub IsShared : Command → Type 0
IsShared (command.Edit p e lazy) = ⊥
IsShared (command.Box lo hi e) = ⊥
IsShared (command.Limit lo hi) = ⊥
IsShared command.NoLimit = ⊥
IsShared (command.Load name) = ⊥
IsShared (command.Restore name) = ⊥
IsShared _ = ⊤

-- a line that is none of these outside the block of a scan
abbrev pub IsSharedLine : Line → Type 0
IsSharedLine line = IfOk (command_on false 0 line) IsShared

-- a script that begins with this line has its scans limited to the box
pub record IsLimitTo (o : Setup) (box : Window) (line : Line) : Type 0 where
  pub lo : Point
  pub hi : Point
  pub reads : command_on false 1 line ≡ Ok (command.Limit lo hi)
  pub low : key_at o.res lo ≡ Some box.lo
  pub high : key_at o.res hi ≡ Some box.hi
  pub ordered : IsBox box.lo box.hi

-- the reply isn't that the map is full
abbrev pub IsNotFull : Option Reply → Type 0
IsNotFull reply = (groups need : ℕ) → reply ≢ Some (Refused (Full groups need))

-- a session over these lines, and one over the same lines behind a limit to a box, each with files
-- of its own, where neither map is ever full; scans may be refused for other causes
pub record IsRegion (o : Setup) (files more : Option Files) (box : Window) (limit : Line)
    (lines : List Line) : Type 0 where
  pub limits : IsLimitTo o box limit
  pub shared : All IsSharedLine lines
  pub room : All IsNotFull (replies_to o (start files) lines)
  pub room_there : All IsNotFull (replies_to o (start more) (limit ∷ lines))

-- the map of a region has the values of the whole one within the box, knows nothing outside, and
-- goes by the same log-odds
pub record HoldsPart (box : Window) (whole part : State) : Type 0 where
  pub inside : (k : Voxel) → IsInBox box.lo box.hi k → part.values k ≡ whole.values k
  pub outside : (k : Voxel) → ¬ IsInBox box.lo box.hi k → part.values k ≡ None
  pub odds : part.base.odds ≡ whole.base.odds
