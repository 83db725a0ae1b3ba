use Rattle.std.proofs.Common.{rules, ◌≡◌, pos, true, false, ◌&&◌}
use Rattle.std.specs.Prelude.{int_lt, int_le}
use Rattle.oct_odds.specs.Odds.{odds, is_small}
use Rattle.oct_odds.proofs.Soundness.{max_found, thr_found, none_found}
use Rattle.oct_odds.proofs.conditions.first_bad_field.Goals as goal

pub returns-then-max-lt0 : goal.returns-then-max-lt0
returns-then-max-lt0 c =
    let hit : (is_small c.args.hit && int_lt (pos 0) c.args.hit) ≡ true = search rules in
    let miss : (is_small c.args.miss && int_lt c.args.miss (pos 0)) ≡ true = search rules in
    let min : (is_small c.args.min && int_le c.args.min (pos 0)) ≡ true = search rules in
    let max : (is_small c.args.max && int_le (pos 0) c.args.max) ≡ false = search rules in
    max_found (odds c.args.hit c.args.miss c.args.min c.args.max c.args.thr) hit miss min max

pub returns-then-thr-max : goal.returns-then-thr-max
returns-then-thr-max c =
    let hit : (is_small c.args.hit && int_lt (pos 0) c.args.hit) ≡ true = search rules in
    let miss : (is_small c.args.miss && int_lt c.args.miss (pos 0)) ≡ true = search rules in
    let min : (is_small c.args.min && int_le c.args.min (pos 0)) ≡ true = search rules in
    let max : (is_small c.args.max && int_le (pos 0) c.args.max) ≡ true = search rules in
    let thr : (is_small c.args.thr && int_lt c.args.min c.args.thr && int_le c.args.thr c.args.max)
    ≡ false =
    search rules in
    thr_found (odds c.args.hit c.args.miss c.args.min c.args.max c.args.thr) hit miss min max thr

pub returns-else-thr-max : goal.returns-else-thr-max
returns-else-thr-max c =
    let hit : (is_small c.args.hit && int_lt (pos 0) c.args.hit) ≡ true = search rules in
    let miss : (is_small c.args.miss && int_lt c.args.miss (pos 0)) ≡ true = search rules in
    let min : (is_small c.args.min && int_le c.args.min (pos 0)) ≡ true = search rules in
    let max : (is_small c.args.max && int_le (pos 0) c.args.max) ≡ true = search rules in
    let thr : (is_small c.args.thr && int_lt c.args.min c.args.thr && int_le c.args.thr c.args.max)
    ≡ true =
    search rules in
    none_found (odds c.args.hit c.args.miss c.args.min c.args.max c.args.thr) hit miss min max thr
