use Rattle.std.proofs.Common.{false, subst, ap, arith}
use Rattle.oct_key.specs.Boxes.{Window}
use Rattle.oct_edit.specs.Areas.{area_events}
use Rattle.oct_edit.specs.Edits.{IsEdited, IsEagerEdit}
use Rattle.oct_edit.proofs.AreaWalks.{box_splits}
use Rattle.oct_edit.proofs.area.touch_box.Goals as goal

pub touch_area-requires-clause-room : goal.touch_area-requires-clause-room
touch_area-requires-clause-room c =
    let few =
    box_splits c.args.tree.now (record { window = c.of.result; outside = false }) c.args.event
    c.args.lo c.args.hi (ap (λ (w : Window). w.lo) c.of.ensures)
    (ap (λ (w : Window). w.hi) c.of.ensures) in
    let room = c.requires.room in
    omega (arith, few, room)

pub returns-clause-edited : goal.returns-clause-edited
returns-clause-edited c =
    subst (λ w. IsEdited c.args.tree.now c.touch_area.new.tree
    (area_events (record { window = w; outside = false }) c.args.event))
    c.of.ensures c.touch_area.ensures.edited

pub returns-clause-eager : goal.returns-clause-eager
returns-clause-eager c =
    subst (λ w. IsEagerEdit c.args.tree.now c.touch_area.new.tree
    (area_events (record { window = w; outside = false }) c.args.event))
    c.of.ensures c.touch_area.ensures.eager

pub returns-clause-groups : goal.returns-clause-groups
returns-clause-groups c =
    let few =
    box_splits c.args.tree.now (record { window = c.of.result; outside = false }) c.args.event
    c.args.lo c.args.hi (ap (λ (w : Window). w.lo) c.of.ensures)
    (ap (λ (w : Window). w.hi) c.of.ensures) in
    let groups = c.touch_area.ensures.groups in
    omega (arith, few, groups)
