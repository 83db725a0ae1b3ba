-- How the parser reads the words of a line, one after another. No public clause rests on this.
use Rattle.std.specs.Prelude.{ℕ, ℤ, Bool, true, false, if◌then◌else◌, List, [], ◌∷◌}
use Rattle.std.specs.Prelude.{Option, Some, None, Result, Ok, Err, codes, bytes_eq}
use Rattle.std.specs.List.{find}
use Rattle.oct_key.specs.declared.point.Point.{Point}
use Rattle.oct_script.specs.Commands.{fault, if_any, command_by, is_comment}
use Rattle.oct_script.specs.Grammar.{length_of, number_of, depth_of, component_of, range_of, hit_of}
use Rattle.oct_script.specs.Grammar.{miss_of, Form, Row, alone, edit, number_edit, query, cast}
use Rattle.oct_script.specs.Grammar.{scan, beam, box, file, listing, limit, rows_of}
use Rattle.oct_script.specs.Names.{name_of}
use Rattle.oct_script.specs.Words.{Word, PlacedWord}
use Rattle.oct_script.specs.declared.command.Syntax.{Syntax}
use Rattle.oct_script.specs.declared.command.Edit.{Edit}
use Rattle.oct_script.specs.declared.command.Edit.TheVariants as an_edit
use Rattle.oct_script.specs.declared.command.ScanOdds.{ScanOdds}
use Rattle.oct_script.specs.declared.command.Command.{Command}
use Rattle.oct_script.specs.declared.command.Command.TheVariants as command
use Rattle.oct_script.specs.declared.verbs.Verb.{Verb}
use Rattle.oct_script.specs.declared.verbs.Verb.TheVariants as verb
use Rattle.oct_script.specs.declared.verbs.Verb.TheVariants.{Hit, Miss, Add, Set, Forget, Get, Scan}
use Rattle.oct_script.specs.declared.verbs.Verb.TheVariants.{Beam, Cast, Alone, Box, Limit, File}
use Rattle.oct_script.specs.declared.verbs.FileVerb.{FileVerb}
use Rattle.oct_script.specs.declared.verbs.FileVerb.TheVariants as file_verb
use Rattle.oct_script.specs.declared.verbs.Single.{Single}
use Rattle.oct_script.specs.declared.verbs.Single.TheVariants as single
use Rattle.oct_script.specs.declared.verbs.FirstWord.{FirstWord}

-- the words of a line that are still to be read, and the column after the line
pub record Unread : Type 0 where
  pub words : List PlacedWord
  pub end : ℕ

infixl 10 ◌>>=◌
-- what comes of a reading, and of the next one, which goes on from it
abbrev pub ◌>>=◌ : {A B : Type 0} → Result A Syntax → (A → Result B Syntax) → Result B Syntax
Ok a >>= next = next a
Err s >>= next = Err s

-- what a word spells and the words after it, or, where it spells nothing, the fault at a column
abbrev pub number_or : {A : Type 0} → ℕ → List PlacedWord → Option A
    → Result (A × List PlacedWord) Syntax
number_or column words None = Err (fault column)
number_or column words (Some n) = Ok (n, words)

-- what the next word spells, and the words after it
unfoldable pub number_in : {A : Type 0} → (Word → Option A) → ℕ → List PlacedWord
    → Result (A × List PlacedWord) Syntax
number_in read end [] = Err (fault end)
number_in read end (word ∷ words) = number_or word.column words (read word.text)

-- the point that the next three words spell, and the words after them
unfoldable pub point_in : ℕ → List PlacedWord → Result (Point × List PlacedWord) Syntax
point_in end words = do
  x ← number_in length_of end words
  y ← number_in length_of end x.1
  z ← number_in length_of end y.1
  Ok (record { x = x.0; y = y.0; z = z.0 }, z.1)

-- the fault of a word where the line should have ended
unfoldable pub excess : List PlacedWord → Option Syntax
excess [] = None
excess (word ∷ words) = Some (fault word.column)

-- this answer, unless there is a fault
abbrev pub unless_fault : {A : Type 0} → A → Option Syntax → Result A Syntax
unless_fault a None = Ok a
unless_fault a (Some s) = Err s

-- no word more
abbrev pub end_in : {A : Type 0} → A → List PlacedWord → Result A Syntax
end_in a words = unless_fault a (excess words)

-- nothing, or this word: whether it's there
unfoldable pub flag_in : Word → List PlacedWord → Result Bool Syntax
flag_in flag [] = Ok false
flag_in flag (word ∷ words) =
    if bytes_eq word.text flag then end_in true words else Err (fault word.column)

-- [lazy], after an edit of a point
unfoldable pub edit_end_in : Point → Edit → List PlacedWord → Result Command Syntax
edit_end_in p e words = do
  lazy ← flag_in (codes "lazy") words
  Ok (command.Edit p e lazy)

-- X Y Z [lazy]
unfoldable pub edit_in : Edit → ℕ → List PlacedWord → Result Command Syntax
edit_in e end words = do
  p ← point_in end words
  edit_end_in p.0 e p.1

-- X Y Z X Y Z
unfoldable pub points_in : ℕ → List PlacedWord → Result (Point × Point × List PlacedWord) Syntax
points_in end words = do
  p ← point_in end words
  q ← point_in end p.1
  Ok (p.0, q.0, q.1)

-- X Y Z N
unfoldable pub point_number_in : ℕ → List PlacedWord → Result (Point × ℤ × List PlacedWord) Syntax
point_number_in end words = do
  p ← point_in end words
  n ← number_in number_of end p.1
  Ok (p.0, n.0, n.1)

-- X Y Z N [lazy]
unfoldable pub number_edit_in : (ℤ → Edit) → ℕ → List PlacedWord → Result Command Syntax
number_edit_in edit end words = do
  r ← point_number_in end words
  edit_end_in r.0 (edit r.1) r.2

-- N, and no word more, after the word of an edit
unfoldable pub edit_number_in : (ℤ → Edit) → ℕ → List PlacedWord → Result Edit Syntax
edit_number_in edit end words = do
  n ← number_in number_of end words
  end_in (edit n.0) n.1

-- what stands after the word of an edit, or the fault of a word that is none
abbrev pub behind_edit_word : PlacedWord → ℕ → List PlacedWord → Result Edit Syntax
behind_edit_word word end words =
    if bytes_eq word.text (codes "hit") then end_in an_edit.Hit words
    else if bytes_eq word.text (codes "miss") then end_in an_edit.Miss words
    else if bytes_eq word.text (codes "forget") then end_in an_edit.Forget words
    else if bytes_eq word.text (codes "add") then edit_number_in an_edit.Add end words
    else if bytes_eq word.text (codes "set") then edit_number_in an_edit.Set end words
    else Err (fault word.column)

-- an edit, and no word more
unfoldable pub edit_word_in : ℕ → List PlacedWord → Result Edit Syntax
edit_word_in end [] = Err (fault end)
edit_word_in end (word ∷ words) = behind_edit_word word end words

-- X Y Z X Y Z and an edit
unfoldable pub box_in : ℕ → List PlacedWord → Result Command Syntax
box_in end words = do
  r ← points_in end words
  e ← edit_word_in end r.2
  Ok (command.Box r.0 r.1 e)

-- X Y Z D
unfoldable pub query_in : ℕ → List PlacedWord → Result Command Syntax
query_in end words = do
  p ← point_in end words
  d ← number_in depth_of end p.1
  end_in (command.Get p.0 d.0) d.1

-- X Y Z X Y Z D
unfoldable pub listing_in : ℕ → List PlacedWord → Result Command Syntax
listing_in end words = do
  r ← points_in end words
  d ← number_in depth_of end r.2
  end_in (command.List r.0 r.1 d.0) d.1

-- X Y Z X Y Z
unfoldable pub limit_in : ℕ → List PlacedWord → Result Command Syntax
limit_in end words = do
  r ← points_in end words
  end_in (command.Limit r.0 r.1) r.2

-- X Y Z X Y Z [ignore]
unfoldable pub cast_in : ℕ → List PlacedWord → Result Command Syntax
cast_in end words = do
  r ← points_in end words
  ignore ← flag_in (codes "ignore") r.2
  Ok (command.Cast r.0 r.1 ignore)

-- Q Q Q Q
unfoldable pub rotation_in : ℕ → List PlacedWord → Result (ℤ × ℤ × ℤ × ℤ × List PlacedWord) Syntax
rotation_in end words = do
  w ← number_in component_of end words
  x ← number_in component_of end w.1
  y ← number_in component_of end x.1
  z ← number_in component_of end y.1
  Ok (w.0, x.0, y.0, z.0, z.1)

-- MISS [lazy], after a HIT
unfoldable pub miss_in : ℤ → ℕ → List PlacedWord → Result (Option ScanOdds × Bool) Syntax
miss_in hit end words = do
  miss ← number_in miss_of end words
  lazy ← flag_in (codes "lazy") miss.1
  Ok (Some (record { hit = hit; miss = miss.0 }), lazy)

-- [HIT MISS] [lazy]
unfoldable pub head_end_in : ℕ → List PlacedWord → Result (Option ScanOdds × Bool) Syntax
head_end_in end [] = Ok (None, false)
head_end_in end (word ∷ words) =
    if bytes_eq word.text (codes "lazy") then end_in (None, true) words
    else (number_or word.column words (hit_of word.text) >>= λ hit. miss_in hit.0 end hit.1)

-- X Y Z Q Q Q Q RANGE [HIT MISS] [lazy]
unfoldable pub scan_in : ℕ → List PlacedWord → Result Command Syntax
scan_in end words = do
  t ← point_in end words
  q ← rotation_in end t.1
  range ← number_in range_of end q.4
  r ← head_end_in end range.1
  Ok (command.Scan (record {
    t = t.0;
    w = q.0;
    x = q.1;
    y = q.2;
    z = q.3;
    range = range.0;
    odds = r.0;
    lazy = r.1;
  }))

-- X Y Z, in the block of a scan
unfoldable pub beam_in : ℕ → List PlacedWord → Result Command Syntax
beam_in end words = do
  p ← point_in end words
  end_in (command.Beam p.0) p.1

-- the command of a file's verb and its name
abbrev pub file_command : FileVerb → Word → Command
file_command file_verb.Save name = command.Save name
file_command file_verb.Load name = command.Load name
file_command file_verb.Snapshot name = command.Snapshot name
file_command file_verb.Restore name = command.Restore name

-- NAME, and no word more, after the verb of a file
unfoldable pub file_in : FileVerb → ℕ → List PlacedWord → Result Command Syntax
file_in verb end words = do
  name ← number_in name_of end words
  end_in (file_command verb name.0) name.1

-- the command that is one word
abbrev pub single_command : Single → Command
single_command single.Counts = command.Counts
single_command single.Refresh = command.Refresh
single_command single.Prune = command.Prune
single_command single.Clear = command.Clear
single_command single.MaxLik = command.MaxLik
single_command single.Track = command.Track
single_command single.Untrack = command.Untrack
single_command single.Changes = command.Changes
single_command single.NoLimit = command.NoLimit
single_command single.Quit = command.Quit
single_command single.End = command.End

-- what stands after a first word
unfoldable pub behind_verb : Verb → ℕ → List PlacedWord → Result Command Syntax
behind_verb Hit end words = edit_in an_edit.Hit end words
behind_verb Miss end words = edit_in an_edit.Miss end words
behind_verb Forget end words = edit_in an_edit.Forget end words
behind_verb Add end words = number_edit_in an_edit.Add end words
behind_verb Set end words = number_edit_in an_edit.Set end words
behind_verb Get end words = query_in end words
behind_verb verb.List end words = listing_in end words
behind_verb Limit end words = limit_in end words
behind_verb Cast end words = cast_in end words
behind_verb Box end words = box_in end words
behind_verb Scan end words = scan_in end words
behind_verb Beam end words = beam_in end words
behind_verb (File verb) end words = file_in verb end words
behind_verb (Alone single) end words = end_in (single_command single) words

-- the forms of what stands after a first word
abbrev pub forms_behind : Verb → List Form
forms_behind Hit = edit an_edit.Hit
forms_behind Miss = edit an_edit.Miss
forms_behind Forget = edit an_edit.Forget
forms_behind Add = number_edit an_edit.Add
forms_behind Set = number_edit an_edit.Set
forms_behind Get = query
forms_behind verb.List = listing
forms_behind Limit = limit
forms_behind Cast = cast
forms_behind Box = box
forms_behind Scan = scan
forms_behind Beam = beam
forms_behind (File verb) = file (file_command verb)
forms_behind (Alone single) = alone (single_command single)

-- the forms after a first word, and none where there is none
abbrev pub forms_of_verb : Option Verb → List Form
forms_of_verb None = []
forms_of_verb (Some v) = forms_behind v

-- a row of the parser's table as one of the grammar
abbrev pub row_seen : FirstWord → Row
row_seen first = record { word = first.word.now; forms = forms_behind first.verb }

-- the forms of a row, and none where there is none
abbrev pub forms_of_row : Option Row → List Form
forms_of_row None = []
forms_of_row (Some row) = row.forms

-- what may stand after a word, by the first row that has it
abbrev pub forms_at : Word → List Row → List Form
forms_at word rows = forms_of_row (find (λ (row : Row). bytes_eq word row.word) rows)

-- the words after a first one at a column, by the forms that may stand there
abbrev pub by_forms : List Form → ℕ → ℕ → List PlacedWord → Result Command Syntax
by_forms forms column end words = if_any forms (command_by forms end words) (Err (fault column))

-- the words after a first one at a column
unfoldable pub behind_first : Bool → PlacedWord → ℕ → List PlacedWord → Result Command Syntax
behind_first inside first end words =
    by_forms (forms_at first.text (rows_of inside)) first.column end words

-- a line
unfoldable pub line_in : Bool → ℕ → List PlacedWord → Result Command Syntax
line_in inside end [] = Ok command.Blank
line_in inside end (first ∷ words) =
    if is_comment first.text then Ok command.Blank else behind_first inside first end words
