use Rattle.std.proofs.Common.{◌≡◌, true, false, None, sym, ◌∙◌, subst, rules}
use Rattle.std.specs.Prelude.{Option, is_some}
use Rattle.oct_key.specs.Boxes.{Window}
use Rattle.oct_shift.specs.Shifted.{target}
use Rattle.oct_map.specs.Map.{Map}
use Rattle.oct_map.specs.Merges.{IsKnownBox}
use Rattle.oct_map.proofs.Merges.{one_extent}
use Rattle.oct_map.proofs.Landings.{lands_none, lower_leaves, upper_leaves, both_land}
use Rattle.oct_map.proofs.map.OccMap.check_landing.Goals as goal
use Rattle.oct_map.proofs.map.OccMap.check_landing.Goals.{After-bounds}

-- what was found is the least box
found : (c : After-bounds) (extent : Option Window) → IsKnownBox c.args.self.now extent
    → c.bounds.result ≡ extent
found c extent is =
    one_extent _ c.bounds.result extent
    (subst (λ (m : Map). IsKnownBox m c.bounds.result) c.self.view_is
    c.bounds.ensures.exact) is

pub returns-in_default-clause-answer : goal.returns-in_default-clause-answer
returns-in_default-clause-answer c extent is =
    let none : c.bounds.result ≡ None = search rules in
    lands_none c.args.shift extent
    (sym (found (goal.at.returns-in_default-clause-answer c).After-bounds extent is) ∙ none)

pub returns-then-not-stays_within-clause-answer : goal.returns-then-not-stays_within-clause-answer
returns-then-not-stays_within-clause-answer c extent is =
    let b = (goal.at.returns-then-not-stays_within-clause-answer c).After-bounds in
    lower_leaves c.args.shift c.in-Some.window extent (sym (found b extent is) ∙ c.in-Some.is)
    (let low : is_some (target c.args.shift c.in-Some.window.lo) ≡ false = search rules in low)

pub returns-then-not-stays_within-2-clause-answer : goal.returns-then-not-stays_within-2-clause-answer
returns-then-not-stays_within-2-clause-answer c extent is =
    let b = (goal.at.returns-then-not-stays_within-2-clause-answer c).After-bounds in
    upper_leaves c.args.shift c.in-Some.window extent (sym (found b extent is) ∙ c.in-Some.is)
    (let low : is_some (target c.args.shift c.in-Some.window.lo) ≡ true = search rules in low)
    (let high : is_some (target c.args.shift c.in-Some.window.hi) ≡ false = search rules in high)

pub returns-clause-answer : goal.returns-clause-answer
returns-clause-answer c extent is =
    let b = (goal.at.returns-clause-answer c).After-bounds in
    both_land c.args.shift c.in-Some.window extent (sym (found b extent is) ∙ c.in-Some.is)
    (let low : is_some (target c.args.shift c.in-Some.window.lo) ≡ true = search rules in low)
    (let high : is_some (target c.args.shift c.in-Some.window.hi) ≡ true = search rules in high)
