use Rattle.std.proofs.Common.{rules, ◌≡◌, sym, subst, ◌∙◌, to_z-of_z, SFits, w32}
use Rattle.oct_cast.specs.Way.{IsFloor}
use Rattle.oct_cast.proofs.Ways.{asked_first}
use Rattle.oct_cast.proofs.ray.cast_below.Goals as goal

pub go_on-requires : goal.go_on-requires
go_on-requires c =
    let fits : SFits w32 c.floor_of.result = search rules in
    let floor : c.new-node.result.0.floor ≡ c.floor_of.result =
    simp to_z-of_z at c.new-node.ensures.floor in
    let asked = asked_first c.args.tree.now c.args.ignore_unknown c.in-Some.code c.args.walk
    c.next_code.new.self c.new-node.result.0 c.new-node.result.1 c.value.result c.stop_at.result
    c.in-Some.ensures.next
    (subst (IsFloor c.args.tree.now c.args.ignore_unknown) (sym floor) c.floor_of.ensures)
    c.new-node.ensures.leads c.new-node.ensures.node c.value.ensures.exact c.stop_at.ensures in
    asked.passes c.in-None.is

pub returns-in-Some-stop_at : goal.returns-in-Some-stop_at
returns-in-Some-stop_at c =
    let fits : SFits w32 c.floor_of.result = search rules in
    let floor : c.new-node.result.0.floor ≡ c.floor_of.result =
    simp to_z-of_z at c.new-node.ensures.floor in
    let asked = asked_first c.args.tree.now c.args.ignore_unknown c.in-Some.code c.args.walk
    c.next_code.new.self c.new-node.result.0 c.new-node.result.1 c.value.result c.stop_at.result
    c.in-Some.ensures.next
    (subst (IsFloor c.args.tree.now c.args.ignore_unknown) (sym floor) c.floor_of.ensures)
    c.new-node.ensures.leads c.new-node.ensures.node c.value.ensures.exact c.stop_at.ensures in
    asked.stops c.in-Some-stop_at.found c.in-Some-stop_at.is

pub returns-in-None : goal.returns-in-None
returns-in-None c =
    let fits : SFits w32 c.floor_of.result = search rules in
    let floor : c.new-node.result.0.floor ≡ c.floor_of.result =
    simp to_z-of_z at c.new-node.ensures.floor in
    let asked = asked_first c.args.tree.now c.args.ignore_unknown c.in-Some.code c.args.walk
    c.next_code.new.self c.new-node.result.0 c.new-node.result.1 c.value.result c.stop_at.result
    c.in-Some.ensures.next
    (subst (IsFloor c.args.tree.now c.args.ignore_unknown) (sym floor) c.floor_of.ensures)
    c.new-node.ensures.leads c.new-node.ensures.node c.value.ensures.exact c.stop_at.ensures in
    c.go_on.ensures ∙ asked.left c.in-None.is
