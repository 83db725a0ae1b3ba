-- A drill: a session over a script that a number makes, and four lines about it.
use Rattle.std.specs.Prelude.{◌≡◌, ℕ, ◌^◌, ◌++◌, List, codes, decimal, length, nat_lt, Some}
use Rattle.oct_gen.specs.Script.{script_of}
use Rattle.oct_io.specs.Answer.{Answer}
use Rattle.oct_io.specs.Files.{no_files}
use Rattle.oct_map.specs.Files.{file_of}
use Rattle.oct_map.specs.Map.{values_of}
use Rattle.oct_odds.specs.Odds.{default_odds}
use Rattle.oct_values.specs.Counts.{group_count, node_count}
use Rattle.oct_session.specs.FileCommands.{classes_file}
use Rattle.oct_session.specs.History.{State, state_after}
use Rattle.oct_session.specs.Leaving.{StandsFor}
use Rattle.oct_session.specs.Session.{Progress, closed, last_progress, status_at_end}
use Rattle.oct_session.specs.Setup.{Setup}
use Rattle.oct_session.specs.declared.drilling.Leavings.{Leavings}
use Rattle.oct_session.specs.declared.tally.Tally.{Tally}

-- what a drill is set up with: voxels of 0.05 m, and the default of each option
abbrev pub drill_setup : Setup
drill_setup = record {
  res = 50000000;
  odds = default_odds;
  max_groups = 2 ^ 24;
  max_cells = 2 ^ 26;
  max_bytes = 2 ^ 40;
}

-- after the session over the script of these numbers, with no files
unfoldable pub drilled : ℕ → ℕ → ℕ → Progress
drilled seed scans points =
    closed (last_progress drill_setup (Some no_files) (script_of seed scans points))

-- the state that it leaves
abbrev pub drilled_state : ℕ → ℕ → ℕ → State
drilled_state seed scans points = state_after drill_setup (drilled seed scans points).history

-- a line of two words, each with its number
abbrev pub line_of_two : List ℕ → ℕ → List ℕ → ℕ → List ℕ
line_of_two word n other m = word ++ decimal n ++ other ++ decimal m ++ codes "\n"

-- four lines: how many scans there were and how many were refused, the sums of hits and frees over
-- those that were done, the groups and nodes of the map, and the length of its file
unfoldable pub summary : ℕ → Tally → ℕ → ℕ → ℕ → List ℕ
summary scans tally groups nodes bytes =
    line_of_two (codes "scans ") scans (codes " refused ") tally.refused
    ++ line_of_two (codes "hits ") tally.hits (codes " frees ") tally.frees
    ++ line_of_two (codes "groups ") groups (codes " nodes ") nodes
    ++ (codes "bt " ++ decimal bytes ++ codes "\n")

-- the lines about what a script has left
abbrev pub lines_about : ℕ → Leavings → List ℕ
lines_about scans left =
    summary scans left.tally (group_count (values_of left.map)) (node_count (values_of left.map))
    (length (file_of left.map))

-- the script of these numbers has left this
pub record HasLeft (seed scans points : ℕ) (left : Leavings) : Type 0 where
  pub tally : left.tally ≡ (drilled seed scans points).tally
  pub stands : StandsFor left.map (drilled_state seed scans points)

-- the lines about a state and what the replies on the way to it come to
abbrev pub summary_of : ℕ → Tally → State → List ℕ
summary_of scans tally s =
    summary scans tally (group_count s.values) (node_count s.values) (length (classes_file s))

-- the answer of a drill
abbrev pub drill : ℕ → ℕ → ℕ → Answer
drill seed scans points = record {
  text = summary_of scans (drilled seed scans points).tally (drilled_state seed scans points);
  status = status_at_end (nat_lt 0 (drilled seed scans points).tally.refused);
}
