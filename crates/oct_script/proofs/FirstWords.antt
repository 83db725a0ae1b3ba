-- The forms that a first word begins are those of its row.
use Rattle.std.proofs.Common.{◌≡◌, List, [], ◌∷◌, ◌++◌, map, Bool, true, false, not, ◌&&◌, cond}
use Rattle.std.proofs.Common.{bytes_eq, refl, ap, ◌∙◌, append-nil, Option, Some, None, option_map}
use Rattle.std.proofs.lemmas.Bool.{and_parts, or_parts, not-true}
use Rattle.std.proofs.lemmas.Slice.Eq.{bytes_eq-Decides}
use Rattle.std.proofs.lemmas.List.Elements.{filter_map-append}
use Rattle.std.specs.List.{cons_option, list_any, find}
use Rattle.oct_script.specs.Commands.{all_behind}
use Rattle.oct_script.specs.Grammar.{Form, Exactly, Row, behind, grammar, block_grammar, rows_of}
use Rattle.oct_script.specs.Grammar.{forms_in, forms_of}
use Rattle.oct_script.specs.Reading.{forms_of_row, forms_at, forms_of_verb, row_seen}
use Rattle.oct_script.specs.declared.verbs.Verb.{Verb}
use Rattle.oct_script.specs.declared.verbs.FirstWord.{FirstWord}
use Rattle.oct_script.specs.Words.{Word}

-- a row of this word
abbrev has_word : Word → List Row → Bool
has_word word rows = list_any (λ (row : Row). bytes_eq word row.word) rows

-- no word has two rows
abbrev are_apart : List Row → Bool
are_apart [] = true
are_apart (first ∷ rows) = not (has_word first.word rows) && are_apart rows

-- a word before forms that all begin with one word
behind_exactly : (word literal : Word) (forms : List Form)
    → all_behind word (map (Exactly literal) forms) ≡ cond (bytes_eq word literal) forms []
behind_exactly word literal [] =
    elim (bytes_eq word literal) as (λ b. ◌≡◌ {A = List Form} [] (cond b [] [])) [
      | true ↦ refl
      | false ↦ refl
    ]
behind_exactly word literal (form ∷ forms) =
    ap (λ xs. cons_option (cond (bytes_eq word literal) (Some form) None) xs)
    (behind_exactly word literal forms)
    ∙ (elim (bytes_eq word literal) as (λ b. cons_option (cond b (Some form) None) (cond b forms [])
    ≡ cond b (form ∷ forms) []) [ true ↦ refl | false ↦ refl ])

-- a word before the forms of a row and of more rows
behind_row : (word : Word) (first : Row) (rows : List Row) →
    all_behind word (forms_in (first ∷ rows))
    ≡ cond (bytes_eq word first.word) first.forms [] ++ all_behind word (forms_in rows)
behind_row word first rows =
    filter_map-append (behind word) (map (Exactly first.word) first.forms) (forms_in rows)
    ∙ ap (λ forms. forms ++ all_behind word (forms_in rows))
    (behind_exactly word first.word first.forms)

-- a word that has no row
behind_none : (word : Word) (rows : List Row) → has_word word rows ≡ false
    → all_behind word (forms_in rows) ≡ []
behind_none word [] none = refl
behind_none word (first ∷ rows) none =
    let parts = or_parts (bytes_eq word first.word) (has_word word rows) none in
    behind_row word first rows ∙ rw parts.0 (behind_none word rows parts.1)

-- the first row that has a word, and the rows after it
step : (word : Word) (first : Row) (rows : List Row) (b : Bool) → bytes_eq word first.word ≡ b
    → has_word first.word rows ≡ false →
    all_behind word (forms_in rows) ≡ forms_at word rows →
    cond b first.forms [] ++ all_behind word (forms_in rows)
    ≡ forms_of_row (cond b (Some first) (find (λ (row : Row). bytes_eq word row.word) rows))
step word first rows true same none later =
    let is : word ≡ first.word = (bytes_eq-Decides word first.word).0 same in
    let empty : all_behind word (forms_in rows) ≡ [] =
    behind_none word rows (ap (λ w. has_word w rows) is ∙ none) in
    ap (λ forms. first.forms ++ forms) empty ∙ append-nil first.forms
step word first rows false same none later = later

-- where no word has two rows, a word begins the forms of its row
pub forms_first : (word : Word) (rows : List Row) → are_apart rows ≡ true
    → all_behind word (forms_in rows) ≡ forms_at word rows
forms_first word [] apart = refl
forms_first word (first ∷ rows) apart =
    let parts = and_parts (not (has_word first.word rows)) (are_apart rows) apart in
    behind_row word first rows
    ∙ step word first rows (bytes_eq word first.word) refl
    (not-true (has_word first.word rows) parts.0) (forms_first word rows parts.1)

-- a word begins the forms of its row, inside the block of a scan and outside
pub first_word : (inside : Bool) (word : Word)
    → all_behind word (forms_of inside) ≡ forms_at word (rows_of inside)
first_word true word = forms_first word block_grammar refl
first_word false word = forms_first word grammar refl

-- ---- the parser's table

-- a word's row in the parser's table has the forms of its row in the grammar
at_seen : (word : Word) (firsts : List FirstWord) →
    forms_of_verb
    (option_map (λ (first : FirstWord). first.verb)
    (find (λ (first : FirstWord). bytes_eq word first.word.now) firsts))
    ≡ forms_at word (map row_seen firsts)
at_seen word [] = refl
at_seen word (first ∷ firsts) = elim (bytes_eq word first.word.now) as (λ b.
    forms_of_verb
    (option_map (λ (first : FirstWord). first.verb)
    (cond b (Some first)
    (find (λ (first : FirstWord). bytes_eq word first.word.now) firsts)))
    ≡ forms_of_row
    (cond b (Some (row_seen first))
    (find (λ (row : Row). bytes_eq word row.word) (map row_seen firsts))))
    [ true ↦ refl | false ↦ at_seen word firsts ]

-- what was found of a word
pub found : (word : Word) (firsts : List FirstWord) (rows : List Row) (r : Option FirstWord)
    (verb : Option Verb)
    → map row_seen firsts ≡ rows →
    r ≡ find (λ (first : FirstWord). bytes_eq word first.word.now) firsts
    → verb ≡ option_map (λ (first : FirstWord). first.verb) r →
    forms_of_verb verb ≡ forms_at word rows
found word firsts rows r verb seen is same =
    ap forms_of_verb (same ∙ ap (option_map (λ (first : FirstWord). first.verb)) is)
    ∙ at_seen word firsts ∙ ap (forms_at word) seen
