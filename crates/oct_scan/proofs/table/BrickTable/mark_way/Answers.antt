use Rattle.std.proofs.Common.{◌≡◌, ◌++◌, ◌∙◌, List, length, take, ap, arith, sym, subst, All}
use Rattle.std.specs.Prelude.{drop}
use Rattle.oct_brick.specs.declared.brick.Brick.{Brick}
use Rattle.oct_scan.specs.Gathered.{IsCurrent}
use Rattle.oct_scan.specs.Piled.{filled}
use Rattle.oct_scan.proofs.Marked.{kept_items, way_tabled}
use Rattle.oct_scan.proofs.table.BrickTable.mark_way.Goals as goal
use Rattle.oct_scan.proofs.table.BrickTable.mark_way.Goals.{After-mark_steps}

items : (c : After-mark_steps) → take c.self.inside.places.len
    (c.mark_steps.new.places ++ drop (length c.mark_steps.new.places) c.self.inside.places.items)
    ≡ c.mark_steps.new.places
items c = kept_items c.self.inside.places.len c.mark_steps.new.places _
    (omega (arith, c.mark_steps.ensures.table.full, c.if-len-ne-PLACES.false, c.len.ensures))

pub invariant_of-self : goal.invariant_of-self
invariant_of-self c =
    subst (All IsCurrent) (sym (items (goal.at.invariant_of-self c).After-mark_steps))
    c.mark_steps.ensures.table.current

pub invariant_of-self-2 : goal.invariant_of-self-2
invariant_of-self-2 c =
    subst (All IsCurrent) (sym (items (goal.at.invariant_of-self-2 c).After-mark_steps))
    c.mark_steps.ensures.table.current

pub returns-clause-added : goal.returns-clause-added
returns-clause-added c = λ _ end on_map ends.
    way_tabled c.args.walk c.args.self.now c.self.inside.pile c.mark_steps.new.pile
    c.as_mut_slice.result.now c.mark_steps.new.places _ end
    (ap (λ (ps : List Brick). c.self.inside.pile ++ filled ps) c.as_mut_slice.ensures.value
    ∙ c.self.view_is) (items (goal.at.returns-clause-added c).After-mark_steps)
    (c.in_ok-mark_steps.ensures.added end on_map ends)
