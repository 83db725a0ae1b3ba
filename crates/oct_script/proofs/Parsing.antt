-- The parser reads a line as the grammar's forms have it.
use Rattle.std.proofs.Common.{◌≡◌, ℕ, ℤ, List, [], ◌∷◌, Bool, true, false, cond, Option, Some}
use Rattle.std.proofs.Common.{None, Result, Ok, Err, option_map, map, codes, bytes_eq, refl, sym}
use Rattle.std.proofs.Common.{ap, ◌∙◌}
use Rattle.std.proofs.lemmas.Slice.Eq.{bytes_eq-Decides}
use Rattle.std.specs.List.{cons_option}
use Rattle.std.specs.Option.{ok_or}
use Rattle.oct_num.specs.Whole as whole
use Rattle.oct_key.specs.declared.point.Point.{Point}
use Rattle.oct_script.specs.Commands.{fault, all_behind, ended_command, if_any, command_by}
use Rattle.oct_script.specs.Commands.{is_comment, command_in}
use Rattle.oct_script.specs.Grammar.{Form, Ends, Exactly, Metres, Number, Depth, Component, Range}
use Rattle.oct_script.specs.Grammar.{FileName, MissOdds, length_of, number_of, depth_of}
use Rattle.oct_script.specs.Grammar.{component_of, range_of, hit_of, miss_of, behind, point}
use Rattle.oct_script.specs.Grammar.{two_points, lazy, own_odds, cast, listing, limit, scan}
use Rattle.oct_script.specs.Grammar.{rows_of, box, file, forms_in, Row, row, alone}
use Rattle.oct_script.specs.Reading.{◌>>=◌, number_or, number_in, point_in, excess, unless_fault}
use Rattle.oct_script.specs.Reading.{end_in, flag_in, edit_end_in, edit_in, points_in}
use Rattle.oct_script.specs.Reading.{point_number_in, number_edit_in, query_in, cast_in}
use Rattle.oct_script.specs.Reading.{rotation_in, scan_in, beam_in, file_in, behind_verb}
use Rattle.oct_script.specs.Reading.{forms_behind, single_command, file_command}
use Rattle.oct_script.specs.Reading.{forms_of_verb, forms_at}
use Rattle.oct_script.specs.Reading.{by_forms, behind_first, line_in, edit_number_in, edit_word_in}
use Rattle.oct_script.specs.Reading.{box_in, listing_in, limit_in, miss_in, head_end_in}
use Rattle.oct_script.specs.Reading.{forms_of_row}
use Rattle.oct_script.proofs.FirstWords.{first_word, forms_first}
use Rattle.oct_script.specs.Names.{name_of}
use Rattle.oct_script.specs.Words.{Word, PlacedWord}
use Rattle.oct_script.specs.declared.command.Syntax.{Syntax}
use Rattle.oct_script.specs.declared.command.Edit.{Edit}
use Rattle.oct_script.specs.declared.command.Edit.TheVariants as an_edit
use Rattle.oct_script.specs.declared.command.ScanHead.{ScanHead}
use Rattle.oct_script.specs.declared.command.ScanOdds.{ScanOdds}
use Rattle.oct_script.specs.declared.command.Command.{Command}
use Rattle.oct_script.specs.declared.command.Command.TheVariants as command
use Rattle.oct_script.specs.declared.verbs.Verb.{Verb}
use Rattle.oct_script.specs.declared.verbs.Verb.TheVariants as verb
use Rattle.oct_script.specs.declared.verbs.Verb.TheVariants.{Hit, Miss, Add, Set, Forget, Get, Cast}
use Rattle.oct_script.specs.declared.verbs.Verb.TheVariants.{Scan, Beam, Alone, Box, Limit, File}
use Rattle.oct_script.specs.declared.verbs.FileVerb.{FileVerb}

-- no word may stand any more
ends : (c : Command) (end : ℕ) (words : List PlacedWord)
    → command_by (Ends c ∷ []) end words ≡ end_in c words
unfolding command_by excess
ends c end [] = refl
ends c end (word ∷ words) = refl

-- no word more, and then an answer
ends_then : {A B : Type 0} (a : A) (words : List PlacedWord) (f : A → B)
    → end_in (f a) words ≡ (end_in a words >>= λ x. Ok (f x))
ends_then a words f =
    elim (excess words) as (λ o. unless_fault (f a) o ≡ (unless_fault a o >>= λ x. Ok (f x))) [
      | None ↦ refl
      | Some s ↦ refl
    ]

-- a word may stand, or none
ends_flag : (flag : Word) (make : Bool → Command) (end : ℕ) (words : List PlacedWord) →
    command_by (Ends (make false) ∷ Exactly flag (Ends (make true)) ∷ []) end words
    ≡ (flag_in flag words >>= λ there. Ok (make there))
unfolding command_by flag_in
ends_flag flag make end [] = refl
ends_flag flag make end (word ∷ words) =
    elim (bytes_eq word.text flag) as
    (λ b. if_any (cons_option (cond b (Some (Ends (make true))) None) [])
    (command_by (cons_option (cond b (Some (Ends (make true))) None) []) end words)
    (Err (fault word.column))
    ≡ (cond b (end_in true words) (Err (fault word.column)) >>= λ there. Ok (make there))) [
      | true ↦ ends (make true) end words ∙ ends_then true words make
      | false ↦ refl
    ]

ends_edit : (p : Point) (e : Edit) (end : ℕ) (words : List PlacedWord) →
    command_by (Ends (command.Edit p e false) ∷ lazy (command.Edit p e true) ∷ []) end words
    ≡ edit_end_in p e words
unfolding edit_end_in
ends_edit p e end words = ends_flag (codes "lazy") (λ lazy. command.Edit p e lazy) end words

-- the words that fit at a place of a form, by the numbers that they spell
record IsPlace {A : Type 0} (place : (A → Form) → Form) (read : Word → Option A) : Type 0 where
  takes : (f : A → Form) (word : Word) → behind word (place f) ≡ option_map f (read word)
  goes_on : (f : A → Form) (forms : List Form)
      → ended_command (place f ∷ forms) ≡ ended_command forms

length_place : IsPlace Metres length_of
length_place = record { takes = λ f word. refl; goes_on = λ f forms. refl }

number_place : IsPlace Number number_of
number_place = record { takes = λ f word. refl; goes_on = λ f forms. refl }

component_place : IsPlace Component component_of
component_place = record { takes = λ f word. refl; goes_on = λ f forms. refl }

range_place : IsPlace Range range_of
range_place = record { takes = λ f word. refl; goes_on = λ f forms. refl }

name_place : IsPlace FileName name_of
name_place = record { takes = λ f word. refl; goes_on = λ f forms. refl }

depth_place : IsPlace Depth depth_of
depth_place = record { takes = λ f word. refl; goes_on = λ f forms. refl }

-- what forms go on as after a word that spells this, and none where it spells nothing
abbrev taken : {A : Type 0} → Option A → List (A → Form) → List Form
taken None forms = []
taken (Some n) forms = map (λ form. form n) forms

taken_first : {A : Type 0} (o : Option A) (form : A → Form) (forms : List (A → Form))
    → cons_option (option_map form o) (taken o forms) ≡ taken o (form ∷ forms)
taken_first None form forms = refl
taken_first (Some n) form forms = refl

-- a word before forms that all go on with one kind of number
taken_all : {A : Type 0} (place : (A → Form) → Form) (read : Word → Option A) → IsPlace place read
    → (word : Word) (forms : List (A → Form)) →
    all_behind word (map place forms) ≡ taken (read word) forms
taken_all place read is word [] =
    elim (read word) as (λ o. ◌≡◌ {A = List Form} [] (taken o [])) [ None ↦ refl | Some n ↦ refl ]
taken_all place read is word (form ∷ forms) =
    ap (λ o. cons_option o (all_behind word (map place forms))) (is.takes form word)
    ∙ ap (λ xs. cons_option (option_map form (read word)) xs) (taken_all place read is word forms)
    ∙ taken_first (read word) form forms

ends_nowhere : {A : Type 0} (place : (A → Form) → Form) (read : Word → Option A)
    → IsPlace place read → (forms : List (A → Form)) → ended_command (map place forms) ≡ None
ends_nowhere place read is [] = refl
ends_nowhere place read is (form ∷ forms) =
    is.goes_on form (map place forms) ∙ ends_nowhere place read is forms

-- a number may stand, in some forms
place_all : {A : Type 0} (place : (A → Form) → Form) (read : Word → Option A) → IsPlace place read
    → (f : A → Form) (forms : List (A → Form)) (end : ℕ) (words : List PlacedWord) →
    command_by (map place (f ∷ forms)) end words
    ≡ (number_in read end words >>= λ n. command_by (map (λ form. form n.0) (f ∷ forms)) end
    n.1)
unfolding command_by number_in
place_all place read is f forms end [] =
    ap (λ c. ok_or c (fault end)) (ends_nowhere place read is (f ∷ forms))
place_all place read is f forms end (word ∷ words) =
    ap (λ xs. if_any xs (command_by xs end words) (Err (fault word.column)))
    (taken_all place read is word.text (f ∷ forms))
    ∙ (elim (read word.text) as (λ o. if_any (taken o (f ∷ forms))
    (command_by (taken o (f ∷ forms)) end words) (Err (fault word.column))
    ≡ (number_or word.column words o >>= λ n. command_by
    (map (λ form. form n.0) (f ∷ forms)) end n.1))
    [ None ↦ refl | Some n ↦ refl ])

-- in one form
place_one : {A : Type 0} (place : (A → Form) → Form) (read : Word → Option A) → IsPlace place read
    → (f : A → Form) (end : ℕ) (words : List PlacedWord) →
    command_by (place f ∷ []) end words
    ≡ (number_in read end words >>= λ n. command_by (f n.0 ∷ []) end n.1)
place_one place read is f end words = place_all place read is f [] end words

-- in two forms
place_two : {A : Type 0} (place : (A → Form) → Form) (read : Word → Option A) → IsPlace place read
    → (f g : A → Form) (end : ℕ) (words : List PlacedWord) →
    command_by (place f ∷ place g ∷ []) end words
    ≡ (number_in read end words >>= λ n. command_by (f n.0 ∷ g n.0 ∷ []) end n.1)
place_two place read is f g end words = place_all place read is f (g ∷ []) end words

-- readings one after another, grouped to the left and to the right
then_then : {A B C : Type 0} (r : Result A Syntax) (f : A → Result B Syntax)
    (g : B → Result C Syntax) (h : A → Result C Syntax)
    →
    ((a : A) → h a ≡ (f a >>= g)) → (r >>= h) ≡ ((r >>= f) >>= g)
then_then (Ok a) f g h e = e a
then_then (Err s) f g h e = refl

-- readings that go on alike
then_same : {A B : Type 0} (r : Result A Syntax) (f g : A → Result B Syntax) → ((a : A) → f a ≡ g a)
    → (r >>= f) ≡ (r >>= g)
then_same (Ok a) f g e = e a
then_same (Err s) f g e = refl

-- a point may stand, in two forms
point_two : (f g : Point → Form) (end : ℕ) (words : List PlacedWord) →
    command_by (point f ∷ point g ∷ []) end words
    ≡ (point_in end words >>= λ p. command_by (f p.0 ∷ g p.0 ∷ []) end p.1)
unfolding point_in
point_two f g end words =
    place_two Metres length_of length_place _ _ end words
    ∙ then_then (number_in length_of end words) _ _ _ (λ x.
    place_two Metres length_of length_place _ _ end x.1
    ∙ then_then (number_in length_of end x.1) _ _ _ (λ y.
    place_two Metres length_of length_place _ _ end y.1
    ∙ then_then (number_in length_of end y.1) _ _ _ (λ z. refl)))

-- a point may stand, in one form
point_one : (f : Point → Form) (end : ℕ) (words : List PlacedWord) →
    command_by (point f ∷ []) end words
    ≡ (point_in end words >>= λ p. command_by (f p.0 ∷ []) end p.1)
unfolding point_in
point_one f end words =
    place_one Metres length_of length_place _ end words
    ∙ then_then (number_in length_of end words) _ _ _ (λ x.
    place_one Metres length_of length_place _ end x.1
    ∙ then_then (number_in length_of end x.1) _ _ _ (λ y.
    place_one Metres length_of length_place _ end y.1
    ∙ then_then (number_in length_of end y.1) _ _ _ (λ z. refl)))

edits : (e : Edit) (end : ℕ) (words : List PlacedWord) →
    command_by
    (point (λ p. Ends (command.Edit p e false)) ∷ point (λ p. lazy (command.Edit p e true))
    ∷ [])
    end words
    ≡ edit_in e end words
unfolding edit_in
edits e end words =
    point_two _ _ end words ∙ then_same (point_in end words) _ _ (λ p. ends_edit p.0 e end p.1)

-- two points may stand, in two forms
points_two : (f g : Point → Point → Form) (end : ℕ) (words : List PlacedWord) →
    command_by (two_points f ∷ two_points g ∷ []) end words
    ≡ (points_in end words >>= λ r. command_by (f r.0 r.1 ∷ g r.0 r.1 ∷ []) end r.2)
unfolding points_in
points_two f g end words =
    point_two (λ p. point (λ q. f p q)) (λ p. point (λ q. g p q)) end words
    ∙ then_then (point_in end words) _ _ _ (λ p.
    point_two (λ q. f p.0 q) (λ q. g p.0 q) end p.1
    ∙ then_then (point_in end p.1) _ _ _ (λ q. refl))

-- in one form
points_one : (f : Point → Point → Form) (end : ℕ) (words : List PlacedWord) →
    command_by (two_points f ∷ []) end words
    ≡ (points_in end words >>= λ r. command_by (f r.0 r.1 ∷ []) end r.2)
unfolding points_in
points_one f end words =
    point_one (λ p. point (λ q. f p q)) end words ∙ then_then (point_in end words) _ _ _ (λ p.
    point_one (λ q. f p.0 q) end p.1 ∙ then_then (point_in end p.1) _ _ _ (λ q. refl))

listings : (end : ℕ) (words : List PlacedWord) → command_by listing end words ≡ listing_in end words
unfolding listing_in
listings end words =
    points_one (λ lo hi. Depth (λ depth. Ends (command.List lo hi depth))) end words
    ∙ then_same (points_in end words) _ _ (λ r.
    place_one Depth depth_of depth_place _ end r.2
    ∙ then_same (number_in depth_of end r.2) _ _
    (λ d. ends (command.List r.0 r.1 d.0) end d.1))

limits : (end : ℕ) (words : List PlacedWord) → command_by limit end words ≡ limit_in end words
unfolding limit_in
limits end words =
    points_one (λ lo hi. Ends (command.Limit lo hi)) end words
    ∙ then_same (points_in end words) _ _ (λ r. ends (command.Limit r.0 r.1) end r.2)

casts : (end : ℕ) (words : List PlacedWord) → command_by cast end words ≡ cast_in end words
unfolding cast_in
casts end words =
    points_two (λ o e. Ends (command.Cast o e false))
    (λ o e. Exactly (codes "ignore") (Ends (command.Cast o e true))) end words
    ∙ then_same (points_in end words) _ _
    (λ r. ends_flag (codes "ignore") (λ ignore. command.Cast r.0 r.1 ignore) end r.2)

number_edits : (make : ℤ → Edit) (end : ℕ) (words : List PlacedWord) →
    command_by
    (point (λ p. Number (λ n. Ends (command.Edit p (make n) false)))
    ∷ point (λ p. Number (λ n. lazy (command.Edit p (make n) true))) ∷ [])
    end words
    ≡ number_edit_in make end words
unfolding number_edit_in point_number_in
number_edits make end words =
    point_two (λ p. Number (λ n. Ends (command.Edit p (make n) false)))
    (λ p. Number (λ n. lazy (command.Edit p (make n) true))) end words
    ∙ then_then (point_in end words) _ _ _ (λ p.
    place_two Number number_of number_place _ _ end p.1
    ∙ then_then (number_in number_of end p.1) _ _ _ (λ n. ends_edit p.0 (make n.0) end n.1))

queries : (end : ℕ) (words : List PlacedWord)
    → command_by (point (λ p. Depth (λ depth. Ends (command.Get p depth))) ∷ []) end words
    ≡ query_in end words
unfolding query_in
queries end words =
    point_one (λ p. Depth (λ depth. Ends (command.Get p depth))) end words
    ∙ then_same (point_in end words) _ _ (λ p.
    place_one Depth depth_of depth_place _ end p.1
    ∙ then_same (number_in depth_of end p.1) _ _ (λ d. ends (command.Get p.0 d.0) end d.1))

-- in five forms
place_five : {A : Type 0} (place : (A → Form) → Form) (read : Word → Option A) → IsPlace place read
    → (f g h i j : A → Form) (end : ℕ) (words : List PlacedWord) →
    command_by (place f ∷ place g ∷ place h ∷ place i ∷ place j ∷ []) end words
    ≡ (number_in read end words >>= λ n. command_by (f n.0 ∷ g n.0 ∷ h n.0 ∷ i n.0 ∷ j n.0 ∷ [])
    end n.1)
place_five place read is f g h i j end words =
    place_all place read is f (g ∷ h ∷ i ∷ j ∷ []) end words

point_five : (f g h i j : Point → Form) (end : ℕ) (words : List PlacedWord) →
    command_by (point f ∷ point g ∷ point h ∷ point i ∷ point j ∷ []) end words
    ≡ (point_in end words >>= λ p. command_by (f p.0 ∷ g p.0 ∷ h p.0 ∷ i p.0 ∷ j p.0 ∷ []) end
    p.1)
unfolding point_in
point_five f g h i j end words =
    place_five Metres length_of length_place _ _ _ _ _ end words
    ∙ then_then (number_in length_of end words) _ _ _ (λ x.
    place_five Metres length_of length_place _ _ _ _ _ end x.1
    ∙ then_then (number_in length_of end x.1) _ _ _ (λ y.
    place_five Metres length_of length_place _ _ _ _ _ end y.1
    ∙ then_then (number_in length_of end y.1) _ _ _ (λ z. refl)))

-- in five forms
points_five : (f g h i j : Point → Point → Form) (end : ℕ) (words : List PlacedWord) →
    command_by (two_points f ∷ two_points g ∷ two_points h ∷ two_points i ∷ two_points j ∷ []) end
    words
    ≡ (points_in end words >>= λ r. command_by (f r.0 r.1 ∷ g r.0 r.1 ∷ h r.0 r.1 ∷ i r.0 r.1 ∷ j
    r.0 r.1 ∷ []) end r.2)
unfolding points_in
points_five f g h i j end words =
    point_five (λ lo. point (f lo)) (λ lo. point (g lo)) (λ lo. point (h lo))
    (λ lo. point (i lo)) (λ lo. point (j lo)) end words
    ∙ then_then (point_in end words) _ _ _ (λ lo.
    point_five (f lo.0) (g lo.0) (h lo.0) (i lo.0) (j lo.0) end lo.1
    ∙ then_then (point_in end lo.1) _ _ _ (λ hi. refl))

-- the words after the word of an edit, by the row that has it, if one does
abbrev by_row : Option Row → ℕ → ℕ → List PlacedWord → Result Command Syntax
by_row r column end words =
    if_any (forms_of_row r) (command_by (forms_of_row r) end words) (Err (fault column))

-- the words of edits, and what may stand after them
abbrev edit_rows : (Edit → Command) → List Row
edit_rows make =
    row (codes "hit") (alone (make an_edit.Hit))
    ∷ row (codes "miss") (alone (make an_edit.Miss))
    ∷ row (codes "forget") (alone (make an_edit.Forget))
    ∷ row (codes "add") (Number (λ n. Ends (make (an_edit.Add n))) ∷ [])
    ∷ row (codes "set") (Number (λ n. Ends (make (an_edit.Set n))) ∷ [])
    ∷ []

-- one row, or those after it
row_or : (b : Bool) (first : Row) (later : Option Row) (here there : Result Edit Syntax)
    (make : Edit → Command) (column end : ℕ) (words : List PlacedWord)
    →
    by_row (Some first) column end words ≡ (here >>= λ e. Ok (make e))
    → by_row later column end words ≡ (there >>= λ e. Ok (make e)) →
    by_row (cond b (Some first) later) column end words ≡ (cond b here there >>= λ e. Ok (make e))
row_or true first later here there make column end words now then = now
row_or false first later here there make column end words now then = then

-- after an edit that is one word, and after one that has an N
plain_edit : (word : Word) (e : Edit) (make : Edit → Command) (column end : ℕ)
    (words : List PlacedWord)
    →
    by_row (Some (row word (alone (make e)))) column end words
    ≡ (end_in e words >>= λ e. Ok (make e))
plain_edit word e make column end words = ends (make e) end words ∙ ends_then e words make

counted_edit : (word : Word) (e : ℤ → Edit) (make : Edit → Command) (column end : ℕ)
    (words : List PlacedWord)
    →
    by_row (Some (row word (Number (λ n. Ends (make (e n))) ∷ []))) column end words
    ≡ (edit_number_in e end words >>= λ e. Ok (make e))
unfolding edit_number_in
counted_edit word e make column end words =
    place_one Number number_of number_place (λ n. Ends (make (e n))) end words
    ∙ then_then (number_in number_of end words) _ _ _ (λ n.
    ends (make (e n.0)) end n.1 ∙ ends_then (e n.0) n.1 make)

edit_words : (make : Edit → Command) (end : ℕ) (words : List PlacedWord)
    → command_by (forms_in (edit_rows make)) end words
    ≡ (edit_word_in end words >>= λ e. Ok (make e))
unfolding command_by edit_word_in
edit_words make end [] = refl
edit_words make end (word ∷ words) =
    ap (λ forms. if_any forms (command_by forms end words) (Err (fault word.column)))
    (forms_first word.text (edit_rows make) refl)
    ∙ row_or (bytes_eq word.text (codes "hit")) _ _ _ _ make word.column end words
    (plain_edit (codes "hit") an_edit.Hit make word.column end words)
    (row_or (bytes_eq word.text (codes "miss")) _ _ _ _ make word.column end words
    (plain_edit (codes "miss") an_edit.Miss make word.column end words)
    (row_or (bytes_eq word.text (codes "forget")) _ _ _ _ make word.column end words
    (plain_edit (codes "forget") an_edit.Forget make word.column end words)
    (row_or (bytes_eq word.text (codes "add")) _ _ _ _ make word.column end words
    (counted_edit (codes "add") an_edit.Add make word.column end words)
    (row_or (bytes_eq word.text (codes "set")) _ _ _ _ make word.column end words
    (counted_edit (codes "set") an_edit.Set make word.column end words) refl))))

boxes : (end : ℕ) (words : List PlacedWord) → command_by box end words ≡ box_in end words
unfolding box_in
boxes end words =
    points_five _ _ _ _ _ end words
    ∙ then_same (points_in end words) _ _ (λ r. edit_words (λ e. command.Box r.0 r.1 e) end r.2)

-- in four forms
place_four : {A : Type 0} (place : (A → Form) → Form) (read : Word → Option A) → IsPlace place read
    → (f g h i : A → Form) (end : ℕ) (words : List PlacedWord) →
    command_by (place f ∷ place g ∷ place h ∷ place i ∷ []) end words
    ≡ (number_in read end words >>= λ n. command_by (f n.0 ∷ g n.0 ∷ h n.0 ∷ i n.0 ∷ []) end
    n.1)
place_four place read is f g h i end words = place_all place read is f (g ∷ h ∷ i ∷ []) end words

point_four : (f g h i : Point → Form) (end : ℕ) (words : List PlacedWord) →
    command_by (point f ∷ point g ∷ point h ∷ point i ∷ []) end words
    ≡ (point_in end words >>= λ p. command_by (f p.0 ∷ g p.0 ∷ h p.0 ∷ i p.0 ∷ []) end p.1)
unfolding point_in
point_four f g h i end words =
    place_four Metres length_of length_place _ _ _ _ end words
    ∙ then_then (number_in length_of end words) _ _ _ (λ x.
    place_four Metres length_of length_place _ _ _ _ end x.1
    ∙ then_then (number_in length_of end x.1) _ _ _ (λ y.
    place_four Metres length_of length_place _ _ _ _ end y.1
    ∙ then_then (number_in length_of end y.1) _ _ _ (λ z. refl)))

-- a quaternion
abbrev rotation : (ℤ → ℤ → ℤ → ℤ → Form) → Form
rotation f = Component (λ w. Component (λ x. Component (λ y. Component (λ z. f w x y z))))

-- a quaternion may stand, in four forms
rotation_four : (f g h i : ℤ → ℤ → ℤ → ℤ → Form) (end : ℕ) (words : List PlacedWord) →
    command_by (rotation f ∷ rotation g ∷ rotation h ∷ rotation i ∷ []) end words
    ≡ (rotation_in end words >>= λ q. command_by (f q.0 q.1 q.2 q.3 ∷ g q.0 q.1 q.2 q.3 ∷ h q.0 q.1
    q.2 q.3 ∷ i q.0 q.1 q.2 q.3 ∷ []) end q.4)
unfolding rotation_in
rotation_four f g h i end words =
    place_four Component component_of component_place _ _ _ _ end words
    ∙ then_then (number_in component_of end words) _ _ _ (λ w.
    place_four Component component_of component_place _ _ _ _ end w.1
    ∙ then_then (number_in component_of end w.1) _ _ _ (λ x.
    place_four Component component_of component_place _ _ _ _ end x.1
    ∙ then_then (number_in component_of end x.1) _ _ _ (λ y.
    place_four Component component_of component_place _ _ _ _ end y.1
    ∙ then_then (number_in component_of end y.1) _ _ _ (λ z. refl))))

-- after the pose of a scan
abbrev behind_pose : ((Option ScanOdds → Bool → ScanHead) → Form) → Point → ℤ → ℤ → ℤ → ℤ → Form
behind_pose form t w x y z = Range (λ range. form (λ odds lazy. record {
  t = t;
  w = w;
  x = x;
  y = y;
  z = z;
  range = range;
  odds = odds;
  lazy = lazy;
}))

abbrev behind_point : ((Option ScanOdds → Bool → ScanHead) → Form) → Point → Form
behind_point form t = rotation (λ w x y z. behind_pose form t w x y z)

-- what may end the head of a scan: nothing, `lazy`, and the two after HIT and MISS
abbrev at_once : (Option ScanOdds → Bool → Command) → Form
at_once make = Ends (make None false)

abbrev lazily : (Option ScanOdds → Bool → Command) → Form
lazily make = lazy (make None true)

abbrev trusted : (Option ScanOdds → Bool → Command) → Form
trusted make = own_odds (λ odds. Ends (make odds false))

abbrev trusted_lazily : (Option ScanOdds → Bool → Command) → Form
trusted_lazily make = own_odds (λ odds. lazy (make odds true))

miss_place : IsPlace MissOdds miss_of
miss_place = record { takes = λ f word. refl; goes_on = λ f forms. refl }

-- the odds of these two numbers
abbrev odds_of : ℤ → ℤ → Option ScanOdds
odds_of hit miss = Some (record { hit = hit; miss = miss })

-- after a HIT
misses : (make : Option ScanOdds → Bool → Command) (hit : ℤ) (end : ℕ) (words : List PlacedWord) →
    command_by
    (MissOdds (λ miss. Ends (make (odds_of hit miss) false))
    ∷ MissOdds (λ miss. lazy (make (odds_of hit miss) true)) ∷ [])
    end words
    ≡ (miss_in hit end words >>= λ r. Ok (make r.0 r.1))
unfolding miss_in
misses make hit end words =
    place_two MissOdds miss_of miss_place _ _ end words
    ∙ then_then (number_in miss_of end words) _ _ _ (λ miss.
    ends_flag (codes "lazy") (λ lazy. make (odds_of hit miss.0) lazy) end miss.1
    ∙ then_then (flag_in (codes "lazy") miss.1) _ _ _ (λ lazy. refl))

-- `lazy` is no number
lazy_is_no_hit : (word : Word) → bytes_eq word (codes "lazy") ≡ true → hit_of word ≡ None
unfolding whole.whole_of whole.natural_of
lazy_is_no_hit word is = ap hit_of ((bytes_eq-Decides word (codes "lazy")).0 is)

-- what may stand after a RANGE, by whether the word is `lazy` and what it spells as a HIT
abbrev behind_range : (Option ScanOdds → Bool → Command) → Bool → Option ℤ → List Form
behind_range make is_lazy hit =
    cons_option (cond is_lazy (Some (Ends (make None true))) None)
    (cons_option (option_map (λ hit. MissOdds (λ miss. Ends (make (odds_of hit miss) false))) hit)
    (cons_option (option_map (λ hit. MissOdds (λ miss. lazy (make (odds_of hit miss) true))) hit)
    []))

range_behind : (make : Option ScanOdds → Bool → Command) (word : PlacedWord) (is_lazy : Bool)
    (hit : Option ℤ)
    → (is_lazy ≡ true → hit ≡ None) → (end : ℕ) (words : List PlacedWord) →
    if_any (behind_range make is_lazy hit) (command_by (behind_range make is_lazy hit) end words)
    (Err (fault word.column))
    ≡ (cond is_lazy (end_in (None, true) words) (number_or word.column words hit >>= λ h.
    miss_in h.0 end h.1) >>= λ r. Ok (make r.0 r.1))
range_behind make word true None no_hit end words =
    ends (make None true) end words ∙ ends_then (None, true) words (λ r. make r.0 r.1)
range_behind make word true (Some hit) no_hit end words =
    let none : Some hit ≡ None = no_hit refl in cc
range_behind make word false None no_hit end words = refl
range_behind make word false (Some hit) no_hit end words = misses make hit end words

head_ends : (make : Option ScanOdds → Bool → Command) (end : ℕ) (words : List PlacedWord) →
    command_by (at_once make ∷ lazily make ∷ trusted make ∷ trusted_lazily make ∷ []) end words
    ≡ (head_end_in end words >>= λ r. Ok (make r.0 r.1))
unfolding command_by head_end_in
head_ends make end [] = refl
head_ends make end (word ∷ words) =
    range_behind make word (bytes_eq word.text (codes "lazy")) (hit_of word.text)
    (lazy_is_no_hit word.text) end words

scans : (end : ℕ) (words : List PlacedWord) → command_by scan end words ≡ scan_in end words
unfolding scan_in
scans end words =
    point_four (behind_point (λ of_scan. at_once (λ odds lazy. command.Scan (of_scan odds lazy))))
    (behind_point (λ of_scan. lazily (λ odds lazy. command.Scan (of_scan odds lazy))))
    (behind_point (λ of_scan. trusted (λ odds lazy. command.Scan (of_scan odds lazy))))
    (behind_point (λ of_scan. trusted_lazily (λ odds lazy. command.Scan (of_scan odds lazy)))) end
    words
    ∙ then_same (point_in end words) _ _ (λ t.
    rotation_four _ _ _ _ end t.1 ∙ then_same (rotation_in end t.1) _ _ (λ q.
    place_four Range range_of range_place _ _ _ _ end q.4
    ∙ then_same (number_in range_of end q.4) _ _ (λ range.
    head_ends
    (λ odds lazy. command.Scan (record {
      t = t.0;
      w = q.0;
      x = q.1;
      y = q.2;
      z = q.3;
      range = range.0;
      odds = odds;
      lazy = lazy;
    }))
    end range.1)))

beams : (end : ℕ) (words : List PlacedWord)
    → command_by (point (λ p. Ends (command.Beam p)) ∷ []) end words ≡ beam_in end words
unfolding beam_in
beams end words =
    point_one (λ p. Ends (command.Beam p)) end words
    ∙ then_same (point_in end words) _ _ (λ p. ends (command.Beam p.0) end p.1)

files : (verb : FileVerb) (end : ℕ) (words : List PlacedWord)
    → command_by (file (file_command verb)) end words ≡ file_in verb end words
unfolding file_in
files verb end words =
    place_one FileName name_of name_place (λ name. Ends (file_command verb name)) end words
    ∙ then_same (number_in name_of end words) _ _ (λ name.
    ends (file_command verb name.0) end name.1)

-- what stands after a first word, as the forms have it
pub behind_any : (verb : Verb) (end : ℕ) (words : List PlacedWord) (none : Result Command Syntax) →
    if_any (forms_behind verb) (command_by (forms_behind verb) end words) none
    ≡ behind_verb verb end words
unfolding behind_verb
behind_any Hit end words none = edits an_edit.Hit end words
behind_any Miss end words none = edits an_edit.Miss end words
behind_any Forget end words none = edits an_edit.Forget end words
behind_any Add end words none = number_edits an_edit.Add end words
behind_any Set end words none = number_edits an_edit.Set end words
behind_any Get end words none = queries end words
behind_any verb.List end words none = listings end words
behind_any Limit end words none = limits end words
behind_any Cast end words none = casts end words
behind_any Box end words none = boxes end words
behind_any Scan end words none = scans end words
behind_any Beam end words none = beams end words
behind_any (File verb) end words none = files verb end words
behind_any (Alone single) end words none = ends (single_command single) end words

-- a first word that may stand here
pub stands_here : (inside : Bool) (first : PlacedWord) (end : ℕ) (words : List PlacedWord)
    (here : Option Verb) (verb : Verb)
    → here ≡ Some verb →
    forms_of_verb here ≡ forms_at first.text (rows_of inside)
    → behind_verb verb end words ≡ behind_first inside first end words
unfolding behind_first
stands_here inside first end words here verb is same =
    sym (behind_any verb end words (Err (fault first.column)))
    ∙ ap (λ forms. by_forms forms first.column end words) (ap forms_of_verb (sym is) ∙ same)

-- one that may not
pub stands_away : (s : Syntax) (inside : Bool) (first : PlacedWord) (end : ℕ)
    (words : List PlacedWord) (here : Option Verb)
    → s.column ≡ first.column → here ≡ None →
    forms_of_verb here ≡ forms_at first.text (rows_of inside)
    → ◌≡◌ {A = Result Command Syntax} (Err s) (behind_first inside first end words)
unfolding behind_first
stands_away s inside first end words here at is same =
    ap (λ k. let r : Result Command Syntax = Err (fault k) in r) at
    ∙ ap (λ forms. by_forms forms first.column end words) (ap forms_of_verb (sym is) ∙ same)

-- a line, as the parser reads it, is what the grammar says
pub line_is : (inside : Bool) (end : ℕ) (words : List PlacedWord)
    → line_in inside end words ≡ command_in inside end words
unfolding line_in command_in behind_first command_by
line_is inside end [] = refl
line_is inside end (first ∷ words) =
    ap (λ r. cond (is_comment first.text) (Ok command.Blank) r)
    (sym (ap (λ forms. by_forms forms first.column end words) (first_word inside first.text)))
