use Rattle.std.proofs.Common.{rules, ℤ, pos, ◌+ℤ◌, ◌*ℤ◌, ◌≤ℤ◌, ◌^◌, ◌≤◌, SFits, to_z-of_z, arith}
use Rattle.std.proofs.lemmas.Int.{ints}
use Rattle.std.specs.Prelude.{unsigned_abs}
use mir.Syntax.{w128}
use Rattle.oct_num.proofs.Nearest.{IsNearest-half_up}
use Rattle.oct_num.proofs.rounding.round_half_up.Goals as goal

double_fits : (n : ℤ) → unsigned_abs n ≤ 2 ^ 120 → SFits w128 (pos 2 *ℤ n)
double_fits n h = omega (arith, ints)

sum_fits : (n d : ℤ) → pos 1 ≤ℤ d → d ≤ℤ pos (2 ^ 60) → unsigned_abs n ≤ 2 ^ 120
    → SFits w128 (pos 2 *ℤ n +ℤ d)
sum_fits n d positive small h = omega (arith, ints)

pub returns-clause-exact : goal.returns-clause-exact
returns-clause-exact c =
    let n : SFits w128 c.args.n = c.ranges.n in
    let d : SFits w128 c.args.d = c.ranges.d in
    let floor : SFits w128 c.floor_div.result = search rules in
    let double : SFits w128 (pos 2 *ℤ c.args.n) = double_fits c.args.n c.requires.reach in
    let sum : SFits w128 (pos 2 *ℤ c.args.n +ℤ c.args.d) =
    sum_fits c.args.n c.args.d c.requires.positive c.requires.divisor c.requires.reach in
    let divisor : SFits w128 (pos 2 *ℤ c.args.d) = omega (arith, ints) in
    simp to_z-of_z (simp to_z-of_z at c.floor_div.ensures.exact)

pub returns-clause-nearest : goal.returns-clause-nearest
returns-clause-nearest c =
    rw (returns-clause-exact c) (IsNearest-half_up c.args.n c.args.d c.requires.positive)
