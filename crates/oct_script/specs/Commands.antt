-- The command of a line.
use Rattle.std.specs.Prelude.{◌≡◌, ℕ, ◌+◌, ◌^◌, ◌<◌, ℤ, pos, neg_ℤ, ◌≤ℤ◌, ◌<ℤ◌, List, [], ◌∷◌}
use Rattle.std.specs.Prelude.{length, nat_eq, slice_index, if◌then◌else◌, Bool, Option, Some, None}
use Rattle.std.specs.Prelude.{Result, Ok, Err, IfSome, ⊤, codes, bytes_eq}
use Rattle.std.specs.List.{filter_map}
use Rattle.std.specs.Option.{ok_or}
use Rattle.oct_odds.specs.Odds.{IsSmall}
use Rattle.oct_pose.specs.Reach.{IsInReach}
use Rattle.oct_script.specs.Grammar.{Form, Ends, behind, forms_of}
use Rattle.oct_script.specs.Words.{Word, PlacedWord, placed_words, first_text}
use Rattle.oct_script.specs.declared.command.ScanOdds.{ScanOdds}
use Rattle.oct_script.specs.declared.command.Syntax.{Syntax}
use Rattle.oct_script.specs.declared.command.Edit.{Edit}
use Rattle.oct_script.specs.declared.command.Edit.TheVariants.{Hit, Miss, Add, Set, Forget}
use Rattle.oct_script.specs.declared.command.Command.{Command}
use Rattle.oct_script.specs.declared.command.Command.TheVariants as command
use Rattle.oct_script.specs.declared.command.Command.TheVariants.{Blank, Get, Scan, Beam}

-- the fault at a column
abbrev pub fault : ℕ → Syntax
fault column = record { column = column }

-- what may stand after a word, where these forms may stand before it
abbrev pub all_behind : Word → List Form → List Form
all_behind word forms = filter_map (behind word) forms

-- the command of a line that ends here, if one of these forms ends
abbrev pub ended_command : List Form → Option Command
ended_command [] = None
ended_command (Ends command ∷ forms) = Some command
ended_command (_ ∷ forms) = ended_command forms

-- one answer where a form is left, and another where none is
abbrev pub if_any : List Form → Result Command Syntax → Result Command Syntax
    → Result Command Syntax
if_any [] some none = none
if_any (form ∷ forms) some none = some

-- the command of these words where these forms may stand, or the fault: at the first word that no
-- form takes there, or, where a word is missing, at the end of the line
unfoldable pub command_by : List Form → ℕ → List PlacedWord → Result Command Syntax
command_by forms end [] = ok_or (ended_command forms) (fault end)
command_by forms end (word ∷ words) =
    let forms = all_behind word.text forms in
    if_any forms (command_by forms end words) (Err (fault word.column))

-- a comment
abbrev pub is_comment : Word → Bool
is_comment first = nat_eq (slice_index first 0) 35

-- the command of a line's words, where the line ends before a column, inside the block of a scan or
-- outside: a line that needs no reply is blank, and any other has one of the forms that may stand
-- there, or a fault
unfoldable pub command_in : Bool → ℕ → List PlacedWord → Result Command Syntax
command_in inside end [] = Ok Blank
command_in inside end (first ∷ words) =
    if is_comment first.text then Ok Blank else command_by (forms_of inside) end (first ∷ words)

-- the command of a line that isn't long, inside the block of a scan or outside, or the column where
-- it leaves the grammar
unfoldable pub command_of : Bool → List ℕ → Result Command Syntax
command_of inside line = command_in inside (length line + 1) (placed_words line)

-- a command stands in its place that is what these words come to, or it is their fault
abbrev pub IsRead : Result ⊤ Syntax → Command → Result Command Syntax → Type 0
IsRead (Ok done) command read = read ≡ Ok command
IsRead (Err fault) command read = read ≡ Err fault

-- a line that opens the block of a scan, whatever its other words are
abbrev pub opens_scan : List ℕ → Bool
opens_scan line = bytes_eq (first_text (placed_words line)) (codes "scan")

-- the number in the edit, if any, has a magnitude of at most a million
abbrev pub IsSmallEdit : Edit → Type 0
IsSmallEdit Hit = ⊤
IsSmallEdit Miss = ⊤
IsSmallEdit (Add n) = IsSmall n
IsSmallEdit (Set n) = IsSmall n
IsSmallEdit Forget = ⊤

-- a range, if there is one, is from 0 and below ten thousand kilometres, in nanometres
abbrev pub IsRange : Option ℤ → Type 0
IsRange range = IfSome range (λ r. (pos 0 ≤ℤ r) × (r <ℤ pos (10 ^ 16)))

-- what a hit of one scan may add: from 1 to a million
abbrev pub IsHitOdds : ℤ → Type 0
IsHitOdds n = (pos 1 ≤ℤ n) × (n ≤ℤ pos 1000000)

-- what a miss of one scan may add: from minus a million to minus 1
abbrev pub IsMissOdds : ℤ → Type 0
IsMissOdds n = (neg_ℤ (pos 1000000) ≤ℤ n) × (n ≤ℤ neg_ℤ (pos 1))

-- what the hits and misses of one scan may add
pub record IsOwnOdds (odds : ScanOdds) : Type 0 where
  pub hit : IsHitOdds odds.hit
  pub miss : IsMissOdds odds.miss

-- the numbers in a command are small: that of an edit has a magnitude of at most a million, a depth
-- has at most seven digits, the points of a scan and its range stay below ten thousand kilometres,
-- and its own log-odds are such as it may have
abbrev pub IsSmallCommand : Command → Type 0
IsSmallCommand (command.Edit p e lazy) = IsSmallEdit e
IsSmallCommand (command.Box lo hi e) = IsSmallEdit e
IsSmallCommand (Get p depth) = depth < 10000000
IsSmallCommand (command.List lo hi depth) = depth < 10000000
IsSmallCommand (Scan head) = IsInReach head.t × IsRange head.range × IfSome head.odds IsOwnOdds
IsSmallCommand (Beam p) = IsInReach p
IsSmallCommand _ = ⊤
