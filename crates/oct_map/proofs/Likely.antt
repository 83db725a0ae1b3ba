-- An event that makes values as sure as they can be changes no class.
use Rattle.std.proofs.Common.{◌≡◌, ℤ, ◌≤ℤ◌, ◌<ℤ◌, Bool, true, false, Some, None, refl, sym, ap}
use Rattle.std.proofs.Common.{subst, ◌∙◌, arith}
use Rattle.std.specs.Prelude.{int_lt}
use Rattle.std.proofs.lemmas.Int.{ints}
use Rattle.oct_key.specs.Voxel.{Voxel, IsInMap}
use Rattle.oct_key.specs.Values.{SameValues}
use Rattle.oct_odds.specs.Odds.{Odds, odds_of}
use Rattle.oct_odds.specs.Update.{Value, applied, class_of}
use Rattle.oct_odds.specs.declared.model.OddsModel.{OddsModel}
use Rattle.oct_odds.specs.declared.event.Event.TheVariants.{Likely}
use Rattle.oct_values.specs.Events.{updated}
use Rattle.oct_map.specs.Map.{Map, values_of}
use Rattle.oct_map.specs.Marks.{classes_in, KeepsMark}
use Rattle.oct_map.proofs.Edits.{same_noted}
use Rattle.oct_map.proofs.Marks.{marked_kept}

below : (a b : ℤ) → a <ℤ b → int_lt a b ≡ true
below a b h = grind (arith, ints)

not_below : (a b : ℤ) → b ≤ℤ a → int_lt a b ≡ false
not_below a b h = grind (arith, ints)

likely_class : (o : Odds) (v : Value) → o.min <ℤ o.thr → o.thr ≤ℤ o.max
    → class_of o (applied o Likely v) ≡ class_of o v
likely_class o None low high = refl
likely_class o (Some v) low high = by_test (int_lt v o.thr) refl
  where
    by_test : (test : Bool) → int_lt v o.thr ≡ test
        → class_of o (applied o Likely (Some v)) ≡ class_of o (Some v)
    by_test true e = (let free : int_lt o.min o.thr ≡ true = below o.min o.thr low in
        rw e (rw free refl))
    by_test false e = (let occupied : int_lt o.max o.thr ≡ false = not_below o.max o.thr high in
        rw e (rw occupied refl))

-- so that the mark stays
pub likely_mark : (m n : Map) (model : OddsModel) → odds_of model ≡ m.tree.odds → n.mark ≡ m.mark
    → n.tree.odds ≡ m.tree.odds
    → SameValues (updated m.tree.odds (λ _. Some Likely) (values_of m)) (values_of n)
    → KeepsMark m n
likely_mark m n model is mark odds values =
    marked_kept m.mark n.mark (classes_in m) (classes_in n) (same_noted m.mark n.mark mark) kept
  where
    low : m.tree.odds.min <ℤ m.tree.odds.thr
    low = subst (λ (o : Odds). o.min <ℤ o.thr) is model.thr_above

    high : m.tree.odds.thr ≤ℤ m.tree.odds.max
    high = subst (λ (o : Odds). o.thr ≤ℤ o.max) is model.thr_below

    kept : (k : Voxel) → IsInMap k → classes_in n k ≡ classes_in m k
    kept k v = ap (λ (o : Odds). class_of o (values_of n k)) odds
        ∙ ap (class_of m.tree.odds) (sym (values k v))
        ∙ likely_class m.tree.odds (values_of m k) low high
