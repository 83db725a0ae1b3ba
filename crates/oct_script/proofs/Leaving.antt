-- Where words leave the forms that they begin.
use Rattle.std.specs.Prelude.{⊤}
use Rattle.std.proofs.Common.{◌≡◌, ◌≢◌, ℕ, List, [], ◌∷◌, ◌++◌, Bool, true, false, cond, inl, inr}
use Rattle.std.proofs.Common.{Option, Some, None, option_and_then, Result, Ok, Err, OnOk, IfErr}
use Rattle.std.proofs.Common.{refl, sym, ap, subst, ◌∙◌, append_assoc, append-nil}
use Rattle.std.specs.List.{filter_map, cons_option}
use Rattle.std.specs.Option.{ok_or}
use Rattle.oct_script.specs.Commands.{fault, all_behind, ended_command, if_any, command_by}
use Rattle.oct_script.specs.Commands.{is_comment, command_in, IsRead}
use Rattle.oct_script.specs.Faults.{texts, behind_all, possible, LeavesAt, IsMeant}
use Rattle.oct_script.specs.Grammar.{Form, behind, forms_of}
use Rattle.oct_script.specs.Words.{Word, PlacedWord}
use Rattle.oct_script.specs.declared.command.Syntax.{Syntax}
use Rattle.oct_script.specs.declared.command.Command.{Command}
use Rattle.oct_script.specs.declared.command.Command.TheVariants.{Blank}

kept_or : {X Y : Type 0} (g : X → Option Y) (o : Option X) (xs : List X)
    → filter_map g (cons_option o xs) ≡ cons_option (option_and_then g o) (filter_map g xs)
kept_or g None xs = refl
kept_or g (Some x) xs = refl

-- what is kept of what was kept
kept_twice : {X Y Z : Type 0} (g : Y → Option Z) (f : X → Option Y) (h : X → Option Z)
    → ((x : X) → option_and_then g (f x) ≡ h x) → (xs : List X) →
    filter_map g (filter_map f xs) ≡ filter_map h xs
kept_twice g f h same [] = refl
kept_twice g f h same (x ∷ xs) =
    kept_or g (f x) (filter_map f xs)
    ∙ ap (λ o. cons_option o (filter_map g (filter_map f xs))) (same x)
    ∙ ap (λ ys. cons_option (h x) ys) (kept_twice g f h same xs)

and_more : (o : Option Form) → o ≡ option_and_then (behind_all []) o
and_more None = refl
and_more (Some form) = refl

-- what may stand after one word more
behind_more : (words : List Word) (word : Word) (form : Form)
    → option_and_then (behind word) (behind_all words form) ≡ behind_all (words ++ word ∷ []) form
behind_more [] word form = and_more (behind word form)
behind_more (first ∷ words) word form =
    elim (behind first form) as
    (λ o. option_and_then (behind word) (option_and_then (behind_all words) o)
    ≡ option_and_then (behind_all (words ++ word ∷ [])) o) [
      | None ↦ refl
      | Some left ↦ behind_more words word left
    ]

texts_more : (front : List PlacedWord) (word : PlacedWord)
    → texts (front ++ word ∷ []) ≡ texts front ++ word.text ∷ []
texts_more [] word = refl
texts_more (first ∷ front) word = ap (λ words. first.text ∷ words) (texts_more front word)

possible_more : (forms : List Form) (front : List PlacedWord) (word : PlacedWord)
    → all_behind word.text (possible forms front) ≡ possible forms (front ++ word ∷ [])
possible_more forms front word =
    kept_twice (behind word.text) (behind_all (texts front))
    (behind_all (texts front ++ word.text ∷ [])) (behind_more (texts front) word.text) forms
    ∙ ap (λ words. filter_map (behind_all words) forms) (sym (texts_more front word))

one_behind : (front words : List PlacedWord) (word : PlacedWord)
    → front ++ (word ∷ words) ≡ (front ++ word ∷ []) ++ words
one_behind front words word = sym (append_assoc front (word ∷ []) words)

-- no word is left
ends_at : (o : Option Command) (end : ℕ) (s : Syntax) → ok_or o (fault end) ≡ Err s
    → (o ≡ None) × (s.column ≡ end)
ends_at None end s e = let f : fault end ≡ s = cc in (refl, ap (λ (x : Syntax). x.column) (sym f))
ends_at (Some c) end s e = cc

stops_at : (column : ℕ) (s : Syntax) → ◌≡◌ {A = Result Command Syntax} (Err (fault column)) (Err s)
    → s.column ≡ column
stops_at column s e = let f : fault column ≡ s = cc in ap (λ (x : Syntax). x.column) (sym f)

-- one word more
leaves_next : (forms : List Form) (end : ℕ) (all front words : List PlacedWord) (word : PlacedWord)
    (s : Syntax) (next : List Form)
    →
    next ≡ possible forms (front ++ word ∷ [])
    → if_any next (command_by next end words) (Err (fault word.column)) ≡ Err s
    → all ≡ front ++ (word ∷ words) →
    possible forms front ≢ [] →
    ((further : List PlacedWord) → command_by (possible forms further) end words ≡ Err s
    → all ≡ further ++ words → possible forms further ≢ []
    → LeavesAt forms end all s.column)
    →
    LeavesAt forms end all s.column
leaves_next forms end all front words word s [] m e split begins goes_on =
    record {
      front = front;
      rest = word ∷ words;
      split = split;
      begins = begins;
      stuck = (sym m, stops_at word.column s e);
    }
leaves_next forms end all front words word s (form ∷ next) m e split begins goes_on =
    goes_on (front ++ word ∷ []) (subst (λ x. command_by x end words ≡ Err s) m e)
    (split ∙ one_behind front words word)
    (λ none. let bad : ◌≡◌ {A = List Form} (form ∷ next) [] = m ∙ none in cc)

leaves : (forms : List Form) (end : ℕ) (all front words : List PlacedWord) (s : Syntax)
    → command_by (possible forms front) end words ≡ Err s →
    all ≡ front ++ words → possible forms front ≢ [] → LeavesAt forms end all s.column
unfolding command_by
leaves forms end all front [] s e split begins =
    record {
      front = front;
      rest = [];
      split = split;
      begins = begins;
      stuck = ends_at (ended_command (possible forms front)) end s e;
    }
leaves forms end all front (word ∷ words) s e split begins =
    leaves_next forms end all front words word s (all_behind word.text (possible forms front))
    (possible_more forms front word) e split begins
    (λ further e split begins. leaves forms end all further words s e split begins)

means_end : (o : Option Command) (end : ℕ) (c : Command) → ok_or o (fault end) ≡ Ok c → o ≡ Some c
means_end None end c e = cc
means_end (Some d) end c e = let f : d ≡ c = cc in ap Some f

means_next : (forms : List Form) (end : ℕ) (front words : List PlacedWord) (word : PlacedWord)
    (c : Command) (next : List Form)
    → next ≡ possible forms (front ++ word ∷ []) →
    if_any next (command_by next end words) (Err (fault word.column)) ≡ Ok c →
    (command_by (possible forms (front ++ word ∷ [])) end words ≡ Ok c
    → ended_command (possible forms ((front ++ word ∷ []) ++ words)) ≡ Some c)
    →
    ended_command (possible forms (front ++ (word ∷ words))) ≡ Some c
means_next forms end front words word c [] m e goes_on = cc
means_next forms end front words word c (form ∷ next) m e goes_on =
    ap (λ x. ended_command (possible forms x)) (one_behind front words word)
    ∙ goes_on (subst (λ x. command_by x end words ≡ Ok c) m e)

means : (forms : List Form) (end : ℕ) (front words : List PlacedWord) (c : Command)
    → command_by (possible forms front) end words ≡ Ok c →
    ended_command (possible forms (front ++ words)) ≡ Some c
unfolding command_by
means forms end front [] c e =
    ap (λ x. ended_command (possible forms x)) (append-nil front)
    ∙ means_end (ended_command (possible forms front)) end c e
means forms end front (word ∷ words) c e =
    means_next forms end front words word c (all_behind word.text (possible forms front))
    (possible_more forms front word) e (means forms end (front ++ word ∷ []) words c)

-- before the first word each form is possible
possible_none : (forms : List Form) → forms ≡ possible forms []
possible_none [] = refl
possible_none (form ∷ forms) = ap (λ xs. form ∷ xs) (possible_none forms)

-- some form stands inside the block of a scan, and some outside
some_form : (inside : Bool) → possible (forms_of inside) [] ≢ []
some_form true none = cc
some_form false none = cc

-- a line in the grammar
pub line_means : (inside : Bool) (end : ℕ) (words : List PlacedWord) (c : Command)
    → command_in inside end words ≡ Ok c → IsMeant (forms_of inside) words c
unfolding command_in
line_means inside end [] c e = let f : c ≡ Blank = cc in f
line_means inside end (first ∷ words) c e = elim (is_comment first.text)
    as
    (λ b. is_comment first.text ≡ b
    → cond b (Ok Blank) (command_by (forms_of inside) end (first ∷ words)) ≡ Ok c
    → IsMeant (forms_of inside) (first ∷ words) c) [
      | true ↦ λ comment e. let f : c ≡ Blank = cc in inl (comment, f)
      | false ↦ λ plain e.
          inr (
            plain,
            means (forms_of inside) end [] (first ∷ words) c
                (subst (λ forms. command_by forms end (first ∷ words) ≡ Ok c)
                (possible_none (forms_of inside)) e),
          )
    ] refl e

-- a line that leaves the grammar
pub line_leaves : (inside : Bool) (end : ℕ) (words : List PlacedWord) (s : Syntax)
    → command_in inside end words ≡ Err s → LeavesAt (forms_of inside) end words s.column
unfolding command_in
line_leaves inside end [] s e = cc
line_leaves inside end (first ∷ words) s e = elim (is_comment first.text)
    as
    (λ b. cond b (Ok Blank) (command_by (forms_of inside) end (first ∷ words)) ≡ Err s
    → LeavesAt (forms_of inside) end (first ∷ words) s.column) [
      | true ↦ λ e. cc
      | false ↦ λ e. leaves (forms_of inside) end (first ∷ words) [] (first ∷ words) s
          (subst (λ forms. command_by forms end (first ∷ words) ≡ Err s)
          (possible_none (forms_of inside)) e)
          refl (some_form inside)
    ] e

-- what was read is what the words come to, which is the same
pub same_read : (r : Result ⊤ Syntax) (c : Command) (x y : Result Command Syntax) → x ≡ y
    → IsRead r c x → IsRead r c y
same_read (Ok done) c x y same read = sym same ∙ read
same_read (Err s) c x y same read = sym same ∙ read

-- a line that was read has a form, and one that was refused leaves them all at its column
pub means_read : (r : Result ⊤ Syntax) (c : Command) (inside : Bool) (end : ℕ)
    (words : List PlacedWord)
    → IsRead r c (command_in inside end words) → OnOk r (IsMeant (forms_of inside) words c)
means_read (Ok done) c inside end words read = line_means inside end words c read
means_read (Err s) c inside end words read = tt

pub leaves_read : (r : Result ⊤ Syntax) (c : Command) (inside : Bool) (end : ℕ)
    (words : List PlacedWord)
    → IsRead r c (command_in inside end words) →
    IfErr r (λ s. LeavesAt (forms_of inside) end words s.column)
leaves_read (Ok done) c inside end words read = tt
leaves_read (Err s) c inside end words read = line_leaves inside end words s read
