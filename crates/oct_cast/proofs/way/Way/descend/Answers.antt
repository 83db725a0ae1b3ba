use Rattle.std.proofs.Common.{rules, ◌+◌, refl, sym, subst, ◌∙◌, arith, to_z-of_z}
use Rattle.std.proofs.Common.{SFits, w32}
use Rattle.std.proofs.lemmas.List.{length-set}
use Rattle.oct_cast.specs.Way.{IsLast}
use Rattle.oct_cast.proofs.Ways.{start_live, under_start, under_linked, under_live, under_step}
use Rattle.oct_cast.proofs.Ways.{under_leads, under_node}
use Rattle.oct_cast.proofs.way.Way.descend.Goals as goal

pub node-node-requires-clause-live : goal.node-node-requires-clause-live
node-node-requires-clause-live c =
    start_live c.args.tree.now c.requires.linked.0 _ c.args.self.now.groups c.args.code
    c.args.self.now.depth _ c.arena-arena.ensures.linked
    c.arena-arena.ensures.exact c.requires.linked.1 c.requires.depth c.requires.linked.2

pub loop-id-init : goal.loop-id-init
loop-id-init c = (
  under_start c.args.tree.now c.requires.linked.0 _ c.args.self.now.groups c.args.code
      c.args.self.now.depth _ _ _
      c.arena-arena.ensures.exact c.requires.linked.1 c.requires.depth c.requires.linked.2
      (c.step.ensures.child c.args.self.now.depth c.args.code c.requires.depth c.new-way.ensures)
      c.node-node.ensures.exact,
  search rules,
  c.step.ensures.onward c.args.self.now.depth c.args.code c.new-way.ensures,
  refl,
)

pub bounds-self-depth-in-Some : goal.bounds-self-depth-in-Some
bounds-self-depth-in-Some c =
    let deep = under_linked c.args.tree.now _ _ _ _ c.in-Some.id.number
    c.arena-arena.ensures.linked c.loop-id.invariant.0 c.in-Some.ensures.on in
    omega (arith, deep)

pub listed-in-Some : goal.listed-in-Some
listed-in-Some c =
    let deep = under_linked c.args.tree.now _ _ _ _ c.in-Some.id.number
    c.arena-arena.ensures.linked c.loop-id.invariant.0 c.in-Some.ensures.on in
    let sixteen = c.loop-id.invariant.1 in
    omega (arith, deep, sixteen)

pub node-node-requires-in-Some-clause-live : goal.node-node-requires-in-Some-clause-live
node-node-requires-in-Some-clause-live c =
    under_live c.args.tree.now _ _ _ _ _ c.in-Some.id.number c.arena-arena.ensures.linked
    c.arena-arena.ensures.exact c.loop-id.invariant.0 c.in-Some.ensures.on

pub loop-id-preserved : goal.loop-id-preserved
loop-id-preserved c =
    let (under, sixteen, way, floor) = c.loop-id.invariant in
    let deep = under_linked c.args.tree.now _ _ _ _ c.in-Some.id.number
    c.arena-arena.ensures.linked under c.in-Some.ensures.on in (
      under_step c.args.tree.now _ c.loop-id.self.groups c.args.code c.loop-id.depth _
          c.in-Some.id _ _ c.arena-arena.ensures.linked c.arena-arena.ensures.exact under
          c.in-Some.ensures.on sixteen
          (c.step-in-Some.ensures.child (c.loop-id.depth + 1) c.args.code deep way)
          c.node-node-in-Some.ensures.exact,
      length-set c.loop-id.self.groups (c.loop-id.depth + 1) c.in-Some.id ∙ sixteen,
      c.step-in-Some.ensures.onward (c.loop-id.depth + 1) c.args.code way,
      floor,
    )

pub returns : goal.returns
returns c =
    let (under, sixteen, way, floor) = c.loop-id.invariant in
    let old_fits : SFits w32 c.args.self.now.floor = search rules in
    let fits : SFits w32 c.loop-id.self.floor = subst (SFits w32) (sym floor) old_fits in
    let last : IsLast c.loop-id.self.floor c.loop-id.node =
    simp to_z-of_z at c.in_default.ensures.ends in
    record {
      leads = λ k coded. under_leads c.args.tree.now _ _ c.args.code c.loop-id.depth _ under last
          refl refl refl refl k coded;
      node = λ k coded. under_node c.args.tree.now _ c.args.code c.loop-id.depth _ _ under refl k
          coded;
      floor = floor;
    }
