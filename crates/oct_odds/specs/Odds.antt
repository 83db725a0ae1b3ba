-- The numbers of a log-odds model, and the conditions on them.
use Rattle.std.specs.Prelude.{ℤ, pos, neg_ℤ, ◌≤ℤ◌, ◌<ℤ◌, Bool, not, ◌&&◌, nat_le, int_le, int_lt}
use Rattle.std.specs.Prelude.{unsigned_abs, Option, [], ◌∷◌}
use Rattle.std.specs.List.{find}
use Rattle.oct_odds.specs.declared.model.OddsModel.{OddsModel}
use Rattle.oct_odds.specs.declared.model.OddsField.{OddsField}
use Rattle.oct_odds.specs.declared.model.OddsField.TheVariants.{Hit, Miss, Min, Max, Thr}

-- the numbers of a log-odds model, in thousandths, whether or not they are in range
pub record Odds : Type 0 where
  pub hit : ℤ
  pub miss : ℤ
  pub min : ℤ
  pub max : ℤ
  pub thr : ℤ

-- the odds of these five numbers
abbrev pub odds : ℤ → ℤ → ℤ → ℤ → ℤ → Odds
odds hit miss min max thr = record { hit = hit; miss = miss; min = min; max = max; thr = thr }

-- the numbers that a model holds
abbrev pub odds_of : OddsModel → Odds
odds_of model = odds model.hit model.miss model.min model.max model.thr

-- the numbers that a model has where none are chosen
abbrev pub default_odds : Odds
default_odds = odds (pos 850) (neg_ℤ (pos 400)) (neg_ℤ (pos 2000)) (pos 3500) (pos 0)

-- the magnitude is at most a million
abbrev pub IsSmall : ℤ → Type 0
IsSmall n = (neg_ℤ (pos 1000000) ≤ℤ n) × (n ≤ℤ pos 1000000)

-- the conditions on the numbers of a model
pub record IsSound (o : Odds) : Type 0 where
  pub hit_positive : pos 0 <ℤ o.hit
  pub miss_negative : o.miss <ℤ pos 0
  pub zero_within : (o.min ≤ℤ pos 0) × (pos 0 ≤ℤ o.max)
  pub thr_within : (o.min <ℤ o.thr) × (o.thr ≤ℤ o.max)
  pub small : IsSmall o.hit × IsSmall o.miss × IsSmall o.min × IsSmall o.max × IsSmall o.thr

-- whether the magnitude is at most a million
unfoldable pub is_small : ℤ → Bool
is_small n = nat_le (unsigned_abs n) 1000000

-- whether the condition on one field holds
abbrev pub is_good : Odds → OddsField → Bool
is_good o Hit = is_small o.hit && int_lt (pos 0) o.hit
is_good o Miss = is_small o.miss && int_lt o.miss (pos 0)
is_good o Min = is_small o.min && int_le o.min (pos 0)
is_good o Max = is_small o.max && int_le (pos 0) o.max
is_good o Thr = is_small o.thr && int_lt o.min o.thr && int_le o.thr o.max

-- the first field whose own condition fails, or none
abbrev pub first_bad_field : Odds → Option OddsField
first_bad_field o = find (λ field. not (is_good o field)) (Hit ∷ Miss ∷ Min ∷ Max ∷ Thr ∷ [])
