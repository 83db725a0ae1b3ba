use Rattle.std.proofs.Common.{rules, ◌≡◌, ◌∙◌, sym, ap, arith}
use Rattle.oct_key.specs.Voxel.{IsInMap}
use Rattle.oct_key.specs.Morton.{morton_of}
use Rattle.oct_key.proofs.Interleavings.{digit_of_morton}
use Rattle.oct_arena.specs.Nodes.{link_of, value_of}
use Rattle.oct_tree.specs.Descents.{digits_from}
use Rattle.oct_edit.specs.Way.{IsWholeWay}
use Rattle.oct_edit.proofs.Ways.{way_first, way_further, below_live, below_node, below_low}
use Rattle.oct_edit.proofs.Ways.{not_linked, below_value}
use Rattle.oct_edit.proofs.way.Way.descend.Goals as goal

pub loop-next-init : goal.loop-next-init
loop-next-init c =
    let v : IsInMap c.args.k = search rules in
    let begun : c.new-steps.result ≡ digits_from 0 (morton_of c.args.k) =
    c.new-steps.ensures ∙ ap (digits_from 0) c.morton.ensures.exact in
    record {
      below =
          way_first c.args.tree.now c.args.k c.args.self.now.groups c.args.first _
          c.arena-arena.ensures.linked v c.requires.root c.requires.groups
          (c.step-i.ensures.child 0 (morton_of c.args.k) (omega arith) begun
          ∙ digit_of_morton 0 c.args.k (omega arith));
      few = c.step-i.ensures.few;
      steps = c.step-i.ensures.onward 0 (morton_of c.args.k) begun;
    }

pub link-requires-clause-live : goal.link-requires-clause-live
link-requires-clause-live c =
    below_live c.args.tree.now _ c.args.k c.loop-next.self.groups c.loop-next.depth
    c.loop-next.id c.loop-next.i c.arena-arena.ensures.exact c.loop-next.invariant.below

pub link-requires-clause-index : goal.link-requires-clause-index
link-requires-clause-index c = c.loop-next.invariant.few

pub node-requires-clause-index : goal.node-requires-clause-index
node-requires-clause-index c = c.loop-next.invariant.few

pub node-requires-clause-live : goal.node-requires-clause-live
node-requires-clause-live c =
    below_live c.args.tree.now _ c.args.k c.loop-next.self.groups c.loop-next.depth
    c.loop-next.id c.loop-next.i c.arena-arena.ensures.exact c.loop-next.invariant.below

pub bounds-self-depth : goal.bounds-self-depth
bounds-self-depth c =
    let low =
    below_low c.args.tree.now _ c.args.k c.loop-next.self.groups c.loop-next.depth c.loop-next.id
    c.loop-next.i c.in-Some.next.number c.arena-arena.ensures.linked c.arena-arena.ensures.exact
    c.loop-next.invariant.below (sym c.in-Some.ensures.exact) in
    omega (arith, low)

pub overflow_add-depth : goal.overflow_add-depth
overflow_add-depth c =
    let low =
    below_low c.args.tree.now _ c.args.k c.loop-next.self.groups c.loop-next.depth c.loop-next.id
    c.loop-next.i c.in-Some.next.number c.arena-arena.ensures.linked c.arena-arena.ensures.exact
    c.loop-next.invariant.below (sym c.in-Some.ensures.exact) in
    omega (arith, low)

pub loop-next-smaller : goal.loop-next-smaller
loop-next-smaller c =
    let low =
    below_low c.args.tree.now _ c.args.k c.loop-next.self.groups c.loop-next.depth c.loop-next.id
    c.loop-next.i c.in-Some.next.number c.arena-arena.ensures.linked c.arena-arena.ensures.exact
    c.loop-next.invariant.below (sym c.in-Some.ensures.exact) in
    omega (arith, low)

pub listed : goal.listed
listed c =
    let low =
    below_low c.args.tree.now _ c.args.k c.loop-next.self.groups c.loop-next.depth c.loop-next.id
    c.loop-next.i c.in-Some.next.number c.arena-arena.ensures.linked c.arena-arena.ensures.exact
    c.loop-next.invariant.below (sym c.in-Some.ensures.exact) in
    let long = c.loop-next.invariant.below.way.long in
    omega (arith, low, long)

pub loop-next-preserved : goal.loop-next-preserved
loop-next-preserved c =
    let b = c.loop-next.invariant.below in
    let low =
    below_low c.args.tree.now _ c.args.k c.loop-next.self.groups c.loop-next.depth c.loop-next.id
    c.loop-next.i c.in-Some.next.number c.arena-arena.ensures.linked c.arena-arena.ensures.exact b
    (sym c.in-Some.ensures.exact) in
    record {
      below =
          way_further c.args.tree.now _ c.args.k c.loop-next.self.groups c.loop-next.depth
          c.loop-next.id c.in-Some.next c.loop-next.i _ c.arena-arena.ensures.linked
          c.arena-arena.ensures.exact b (sym c.in-Some.ensures.exact)
          (c.step-i-in-Some.ensures.child c.loop-next.depth (morton_of c.args.k) low
          c.loop-next.invariant.steps ∙ digit_of_morton c.loop-next.depth c.args.k low);
      few = c.step-i-in-Some.ensures.few;
      steps =
          c.step-i-in-Some.ensures.onward c.loop-next.depth (morton_of c.args.k)
          c.loop-next.invariant.steps;
    }

pub returns : goal.returns
returns c =
    let v : IsInMap c.args.k = search rules in
    let b = c.loop-next.invariant.below in
    let node =
    below_node c.args.tree.now _ c.args.k c.loop-next.self.groups c.loop-next.depth c.loop-next.id
    c.loop-next.i c.arena-arena.ensures.exact b in
    let whole : IsWholeWay c.args.tree.now c.args.k c.loop-next.self.groups c.loop-next.depth =
    record {
      way = b.way;
      ends = ap link_of (sym node) ∙ not_linked _ _ c.in_default.not-Some c.link.ensures.exact;
    } in
    record {
      way = whole;
      node = c.node.ensures.exact ∙ node;
      value = ap value_of (c.node.ensures.exact ∙ node)
          ∙ below_value c.args.tree.now c.args.k c.loop-next.self.groups c.loop-next.depth
          c.arena-arena.ensures.linked v whole;
    }
