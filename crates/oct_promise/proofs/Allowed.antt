-- What each command has that some forms of lines allow.
use Rattle.std.proofs.Common.{ℕ, ℤ, ◌+◌, List, [], ◌∷◌, length, Bool, true, false, cond}
use Rattle.std.proofs.Common.{bytes_eq, Option, Some, None, option_map, Result, Ok, Err}
use Rattle.std.specs.List.{cons_option}
use Rattle.std.specs.Option.{ok_or}
use Rattle.oct_script.specs.Commands.{all_behind, ended_command, if_any, command_by, command_in}
use Rattle.oct_script.specs.Commands.{command_of, fault, is_comment}
use Rattle.oct_script.specs.Grammar.{Form, Ends, Exactly, Metres, Number, Depth, Component, Range}
use Rattle.oct_script.specs.Grammar.{HitOdds, MissOdds, FileName, behind, forms_of, length_of}
use Rattle.oct_script.specs.Grammar.{number_of, depth_of, component_of, range_of, hit_of, miss_of}
use Rattle.oct_script.specs.Lines.{Line, Text, Long}
use Rattle.oct_script.specs.Names.{name_of}
use Rattle.oct_script.specs.Words.{Word, PlacedWord, placed_words}
use Rattle.oct_script.specs.declared.command.Command.{Command}
use Rattle.oct_script.specs.declared.command.Command.TheVariants.{Blank}
use Rattle.oct_script.specs.declared.command.Syntax.{Syntax}
use Rattle.oct_script.specs.declared.reply.Refusal.{Refusal}
use Rattle.oct_session.specs.Commands.{command_on, numbered}

-- each command that this form allows has P
abbrev pub Allows : (Command → Type 0) → Form → Type 0
Allows P (Ends c) = P c
Allows P (Exactly word form) = Allows P form
Allows P (Metres f) = (z : ℤ) → Allows P (f z)
Allows P (Number f) = (z : ℤ) → Allows P (f z)
Allows P (Depth f) = (n : ℕ) → Allows P (f n)
Allows P (Component f) = (z : ℤ) → Allows P (f z)
Allows P (Range f) = (z : Option ℤ) → Allows P (f z)
Allows P (HitOdds f) = (z : ℤ) → Allows P (f z)
Allows P (MissOdds f) = (z : ℤ) → Allows P (f z)
Allows P (FileName f) = (name : Word) → Allows P (f name)

abbrev pub AllAllow : (Command → Type 0) → List Form → Type 0
AllAllow P [] = Unit {0}
AllAllow P (form ∷ forms) = Allows P form × AllAllow P forms

abbrev MaybeAllows : (Command → Type 0) → Option Form → Type 0
MaybeAllows P None = Unit {0}
MaybeAllows P (Some form) = Allows P form

maybe_map : {A : Type 0} (P : Command → Type 0) (f : A → Form) → ((a : A) → Allows P (f a))
    → (r : Option A) → MaybeAllows P (option_map f r)
maybe_map P f all None = tt
maybe_map P f all (Some a) = all a

behind_allows : (P : Command → Type 0) (word : Word) (form : Form) → Allows P form
    → MaybeAllows P (behind word form)
behind_allows P word (Ends c) all = tt
behind_allows P word (Exactly literal form) all =
    elim (bytes_eq word literal) as (λ b. MaybeAllows P (cond b (Some form) None))
    [ true ↦ all | false ↦ tt ]
behind_allows P word (Metres f) all = maybe_map P f all (length_of word)
behind_allows P word (Number f) all = maybe_map P f all (number_of word)
behind_allows P word (Depth f) all = maybe_map P f all (depth_of word)
behind_allows P word (Component f) all = maybe_map P f all (component_of word)
behind_allows P word (Range f) all = maybe_map P f all (range_of word)
behind_allows P word (HitOdds f) all = maybe_map P f all (hit_of word)
behind_allows P word (MissOdds f) all = maybe_map P f all (miss_of word)
behind_allows P word (FileName f) all = maybe_map P f all (name_of word)

cons_allow : (P : Command → Type 0) (r : Option Form) (forms : List Form) → MaybeAllows P r
    → AllAllow P forms → AllAllow P (cons_option r forms)
cons_allow P None forms first all = all
cons_allow P (Some form) forms first all = (first, all)

behind_all_allow : (P : Command → Type 0) (word : Word) (forms : List Form) → AllAllow P forms
    → AllAllow P (all_behind word forms)
behind_all_allow P word [] all = tt
behind_all_allow P word (form ∷ forms) all =
    cons_allow P (behind word form) (all_behind word forms) (behind_allows P word form all.0)
    (behind_all_allow P word forms all.1)

-- a command that was read has P
abbrev Reads : (Command → Type 0) → Result Command Syntax → Type 0
Reads P (Ok c) = P c
Reads P (Err f) = Unit {0}

ended_reads : (P : Command → Type 0) (forms : List Form) → AllAllow P forms → (f : Syntax)
    → Reads P (ok_or (ended_command forms) f)
ended_reads P [] all f = tt
ended_reads P (Ends c ∷ forms) all f = all.0
ended_reads P (Exactly w g ∷ forms) all f = ended_reads P forms all.1 f
ended_reads P (Metres g ∷ forms) all f = ended_reads P forms all.1 f
ended_reads P (Number g ∷ forms) all f = ended_reads P forms all.1 f
ended_reads P (Depth g ∷ forms) all f = ended_reads P forms all.1 f
ended_reads P (Component g ∷ forms) all f = ended_reads P forms all.1 f
ended_reads P (Range g ∷ forms) all f = ended_reads P forms all.1 f
ended_reads P (HitOdds g ∷ forms) all f = ended_reads P forms all.1 f
ended_reads P (MissOdds g ∷ forms) all f = ended_reads P forms all.1 f
ended_reads P (FileName g ∷ forms) all f = ended_reads P forms all.1 f

any_reads : (P : Command → Type 0) (forms : List Form) (x : Result Command Syntax) (f : Syntax)
    → Reads P x → Reads P (if_any forms x (Err f))
any_reads P [] x f some = tt
any_reads P (form ∷ forms) x f some = some

-- where all forms allow such commands alone, a line of these words is one
pub by_reads : (P : Command → Type 0) (forms : List Form) → AllAllow P forms → (end : ℕ)
    (words : List PlacedWord) → Reads P (command_by forms end words)
unfolding command_by
by_reads P forms all end [] = ended_reads P forms all (fault end)
by_reads P forms all end (word ∷ words) =
    any_reads P (all_behind word.text forms)
    (command_by (all_behind word.text forms) end words) (fault word.column)
    (by_reads P (all_behind word.text forms) (behind_all_allow P word.text forms all) end words)

in_reads : (P : Command → Type 0) → P Blank → (inside : Bool) → AllAllow P (forms_of inside)
    → (end : ℕ) (words : List PlacedWord) → Reads P (command_in inside end words)
unfolding command_in
in_reads P blank inside all end [] = blank
in_reads P blank inside all end (first ∷ words) =
    elim (is_comment first.text) as
    (λ x. Reads P (cond x (Ok Blank) (command_by (forms_of inside) end (first ∷ words)))) [
      | true ↦ blank
      | false ↦ by_reads P (forms_of inside) all end (first ∷ words)
    ]

of_reads : (P : Command → Type 0) → P Blank → (inside : Bool) → AllAllow P (forms_of inside)
    → (line : List ℕ) → Reads P (command_of inside line)
unfolding command_of
of_reads P blank inside all line =
    in_reads P blank inside all (length line + 1) (placed_words line)

-- a command on a line has P
abbrev pub Has : (Command → Type 0) → Result Command Refusal → Type 0
Has P (Ok c) = P c
Has P (Err refusal) = Unit {0}

numbered_has : (P : Command → Type 0) (number : ℕ) (r : Result Command Syntax) → Reads P r
    → Has P (numbered number r)
numbered_has P number (Ok c) read = read
numbered_has P number (Err f) read = tt

-- the command of each line has what all forms of such lines allow
pub line_has : (P : Command → Type 0) → P Blank → (inside : Bool) → AllAllow P (forms_of inside)
    → (number : ℕ) (line : Line) → Has P (command_on inside number line)
line_has P blank inside all number (Text text) =
    numbered_has P number (command_of inside text) (of_reads P blank inside all text)
line_has P blank inside all number Long = tt
