-- The grammar's law, said of whole lines: what a line in it means, and where any other leaves it.
use Rattle.std.specs.Prelude.{◌≡◌, ◌≢◌, ℕ, List, [], ◌∷◌, ◌++◌, map, true, false, ◌⊎◌, Option, Some}
use Rattle.std.specs.Prelude.{None, option_and_then}
use Rattle.std.specs.List.{filter_map}
use Rattle.oct_script.specs.Commands.{ended_command, is_comment}
use Rattle.oct_script.specs.Grammar.{Form, behind}
use Rattle.oct_script.specs.Words.{Word, PlacedWord}
use Rattle.oct_script.specs.declared.command.Command.{Command}
use Rattle.oct_script.specs.declared.command.Command.TheVariants.{Blank}

-- the bytes of words
abbrev pub texts : List PlacedWord → List Word
texts words = map (λ word. word.text) words

-- what may stand after words that begin this form, or none where they don't begin it
abbrev pub behind_all : List Word → Form → Option Form
behind_all [] form = Some form
behind_all (word ∷ words) form = option_and_then (behind_all words) (behind word form)

-- what may stand after words, by each of the forms that they begin
abbrev pub possible : List Form → List PlacedWord → List Form
possible forms words = filter_map (behind_all (texts words)) forms

-- no form ends with the words of `front`, after which nothing is left of the line, or none is
-- begun by them and the next word
abbrev pub IsStuck : List Form → ℕ → List PlacedWord → List PlacedWord → ℕ → Type 0
IsStuck forms end front [] column = (ended_command (possible forms front) ≡ None) × (column ≡ end)
IsStuck forms end front (word ∷ words) column =
    (possible forms (front ++ word ∷ []) ≡ []) × (column ≡ word.column)

-- words that end before a column leave the forms at a column: after the longest front of them that
-- begins a form
pub record LeavesAt (forms : List Form) (end : ℕ) (words : List PlacedWord) (column : ℕ) :
    Type 0 where
  pub front : List PlacedWord
  pub rest : List PlacedWord
  pub split : words ≡ front ++ rest
  pub begins : possible forms front ≢ []
  pub stuck : IsStuck forms end front rest column

-- the words of a line mean a command: none or a comment, or all the words of a form
abbrev pub IsMeant : List Form → List PlacedWord → Command → Type 0
IsMeant forms [] command = command ≡ Blank
IsMeant forms (first ∷ words) command =
    ((is_comment first.text ≡ true) × (command ≡ Blank))
    ⊎ ((is_comment first.text ≡ false)
    × (ended_command (possible forms (first ∷ words)) ≡ Some command))
