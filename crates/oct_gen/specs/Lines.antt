-- What is still to come of a script.
use Rattle.std.specs.Prelude.{ℕ, ◌*◌, List, [], ◌++◌, codes}
use Rattle.oct_gen.specs.Draws.{state_after}
use Rattle.oct_gen.specs.Script.{points_text, scans_text, script_of}
use Rattle.oct_gen.specs.declared.lines.Stage.{Stage}
use Rattle.oct_gen.specs.declared.lines.Stage.TheVariants.{Header, Scans, Points, Over}
use Rattle.oct_gen.specs.declared.lines.ScriptLines.{ScriptLines}

-- this many scans, drawn from this state on, and the last line
unfoldable pub scans_to_quit : ℕ → ℕ → ℕ → List ℕ
scans_to_quit state scans points = scans_text state scans points ++ codes "quit\n"

-- what a stage leaves to come, with this many scans that haven't begun, drawn from this state on
unfoldable pub text_from : Stage → ℕ → ℕ → ℕ → List ℕ
text_from Header state scans points = script_of state scans points
text_from Scans state scans points = scans_to_quit state scans points
text_from (Points left) state scans points =
    points_text state 0 left
    ++ (codes "end\n" ++ scans_to_quit (state_after state (3 * left)) scans points)
text_from Over state scans points = []

-- the text of the lines that are still to come
abbrev pub to_come : ScriptLines → List ℕ
to_come lines = text_from lines.stage lines.draws.state lines.scans_left lines.points
