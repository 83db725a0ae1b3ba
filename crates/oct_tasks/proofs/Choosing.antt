-- What the options choose.
use Rattle.std.proofs.Common.{◌≡◌, ℤ, ◌<◌, List, [], ◌∷◌, length, String, Option, Some, None}
use Rattle.std.proofs.Common.{option_map, Result, Ok, Err, IfOk, IfErr, nat_eq, codes, refl, sym}
use Rattle.std.proofs.Common.{ap, ◌∙◌, arith}
use mir.Val.{SFits, to_z, of_z}
use mir.Syntax.{w32}
use Rattle.std.proofs.lemmas.Int.{ints, to_z-of_z}
use Rattle.std.specs.Result.{result_ok}
use Rattle.std.specs.declared.alloc.Global.{Global}
use Rattle.oct_odds.specs.Odds.{Odds, odds, odds_of, default_odds, first_bad_field, IsSmall}
use Rattle.oct_odds.specs.declared.model.BadModel.{BadModel}
use Rattle.oct_odds.specs.declared.model.OddsModel.{OddsModel}
use Rattle.oct_tasks.specs.Task.{chosen_number, sound_odds, odds_from, chosen_model, table_asked}
use Rattle.oct_script.specs.Words.{Word}
use Rattle.oct_tasks.specs.Words.{bytes_of, value_of, are_options}

-- no pair is left, so no value
pub value_of_none : (name : Word) (words : List (String Global)) → length words < 2
    → value_of name (bytes_of words) ≡ None
unfolding value_of
value_of_none name [] few = refl
value_of_none name (word ∷ []) few = refl
value_of_none name (word ∷ next ∷ words) few = absurd (omega (arith, few))

-- no pair is left, and no word may be left over
pub are_options_end : (words : List (String Global)) → length words < 2
    → are_options (bytes_of words) ≡ nat_eq (length words) 0
unfolding are_options
are_options_end [] few = refl
are_options_end (word ∷ []) few = refl
are_options_end (word ∷ next ∷ words) few = absurd (omega (arith, few))

-- too few words for two names
pub table_none : (words : List (String Global)) → length words < 2
    → None ≡ table_asked (bytes_of words)
table_none [] few = refl
table_none (word ∷ []) few = refl
table_none (word ∷ next ∷ words) few = absurd (omega (arith, few))

-- five numbers in place of five that are equal to them
odds_alike : (hit miss min max thr hit' miss' min' max' thr' : Option ℤ) → hit ≡ hit' → miss ≡ miss'
    → min ≡ min' → max ≡ max' → thr ≡ thr' →
    odds_from hit miss min max thr ≡ odds_from hit' miss' min' max' thr'
odds_alike hit miss min max thr hit' miss' min' max' thr' a b c d e =
    ap (λ x. odds_from x miss min max thr) a ∙ ap (λ x. odds_from hit' x min max thr) b
    ∙ ap (λ x. odds_from hit' miss' x max thr) c ∙ ap (λ x. odds_from hit' miss' min' x thr) d
    ∙ ap (λ x. odds_from hit' miss' min' max' x) e

-- a number as the code passes it on
abbrev passed : ℤ → ℤ
passed n = to_z w32 (of_z w32 n)

chosen_from : List Word → Odds → Option Odds
chosen_from words d = odds_from (chosen_number words (codes "--hit") (passed d.hit))
    (chosen_number words (codes "--miss") (passed d.miss))
    (chosen_number words (codes "--min") (passed d.min))
    (chosen_number words (codes "--max") (passed d.max))
    (chosen_number words (codes "--thr") (passed d.thr))

-- the model of numbers that were read
model_sound : (r : Result OddsModel BadModel) (m : Option OddsModel) (o : Odds)
    → IfOk r (λ model. odds_of model ≡ o) → IfOk r (λ _. first_bad_field o ≡ None) →
    IfErr r (λ e. first_bad_field o ≡ Some e.which) → m ≡ result_ok r
    → option_map odds_of m ≡ sound_odds o (first_bad_field o)
model_sound (Ok model) m o is good bad same = ap (option_map odds_of) same ∙ ap Some is
    ∙ ap (sound_odds o) (sym good)
model_sound (Err e) m o is good bad same = ap (option_map odds_of) same
    ∙ ap (sound_odds o) (sym bad)

passed_small : (n : ℤ) → IsSmall n → passed n ≡ n
passed_small n small = let fits : SFits w32 n = omega (arith, ints, small) in to_z-of_z w32 n fits

odds_passed : (hit miss min max thr : ℤ) → IsSmall hit → IsSmall miss → IsSmall min → IsSmall max
    → IsSmall thr →
    odds (passed hit) (passed miss) (passed min) (passed max) (passed thr)
    ≡ odds hit miss min max thr
odds_passed hit miss min max thr a b c d e =
    ap (λ x. odds x (passed miss) (passed min) (passed max) (passed thr)) (passed_small hit a)
    ∙ ap (λ x. odds hit x (passed min) (passed max) (passed thr)) (passed_small miss b)
    ∙ ap (λ x. odds hit miss x (passed max) (passed thr)) (passed_small min c)
    ∙ ap (λ x. odds hit miss min x (passed thr)) (passed_small max d)
    ∙ ap (λ x. odds hit miss min max x) (passed_small thr e)

-- a number that an option chooses, and that its magnitude is at most a million
pub record IsChosen (words : List Word) (name : Word) (default n : ℤ) : Type 0 where
  pub exact : Some n ≡ chosen_number words name (passed default)
  pub small : IsSmall n

-- the model of the numbers that the options choose
pub chosen_model_read : (r : Result OddsModel BadModel) (m : Option OddsModel) (words : List Word)
    (d : Odds) (hit miss min max thr : ℤ) → d ≡ default_odds →
    IsChosen words (codes "--hit") d.hit hit → IsChosen words (codes "--miss") d.miss miss
    → IsChosen words (codes "--min") d.min min →
    IsChosen words (codes "--max") d.max max → IsChosen words (codes "--thr") d.thr thr →
    IfOk r (λ model. odds_of model
    ≡ odds (passed hit) (passed miss) (passed min) (passed max) (passed thr)) →
    IfOk r (λ _. first_bad_field
    (odds (passed hit) (passed miss) (passed min) (passed max) (passed thr)) ≡ None) →
    IfErr r (λ e. first_bad_field
    (odds (passed hit) (passed miss) (passed min) (passed max) (passed thr)) ≡ Some e.which)
    → m ≡ result_ok r → option_map odds_of m ≡ chosen_model words
unfolding chosen_model chosen_from
chosen_model_read r m words d hit miss min max thr same h i j k l is good bad read =
    model_sound r m (odds (passed hit) (passed miss) (passed min) (passed max) (passed thr)) is good
    bad read
    ∙ ap (λ o. sound_odds o (first_bad_field o))
    (odds_passed hit miss min max thr h.small i.small j.small k.small l.small)
    ∙ odds_alike (Some hit) (Some miss) (Some min) (Some max) (Some thr) _ _ _ _ _ h.exact i.exact
    j.exact k.exact l.exact
    ∙ ap (chosen_from words) same
