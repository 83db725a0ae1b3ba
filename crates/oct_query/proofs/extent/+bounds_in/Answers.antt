use Rattle.std.proofs.Common.{◌≡◌, None, sym, ap, ◌∙◌, arith}
use Rattle.oct_key.specs.CubeOf.{cube_of}
use Rattle.oct_key.proofs.Blocks.{block_in_map}
use Rattle.oct_key.proofs.Held.{held_in_map}
use Rattle.oct_odds.specs.Update.{class_of}
use Rattle.oct_arena.specs.Nodes.{link_of}
use Rattle.oct_tree.specs.Classes.{classes_in}
use Rattle.oct_tree.proofs.Paths.{not_inner}
use Rattle.oct_query.proofs.Above.{above, child_slot}
use Rattle.oct_query.proofs.Extents.{extent_of_block, extent_next, extent_whole}
use Rattle.oct_query.proofs.extent.+bounds_in.Goals as goal

pub returns-in_default : goal.returns-in_default
returns-in_default t c =
    let none : link_of c.node-node.result ≡ None =
    not_inner c.node-node.result c.in_default.not-Inner in
    let ok = block_in_map c.args.block in
    record {
      exact = extent_of_block (classes_in c.args.tree.now) c.args.sought (cube_of c.args.block)
          c.class.result c.is_sought.result c.bounds_of.result ok
          (λ k held. ap (class_of c.args.tree.now.odds)
          (c.node-node.ensures.values (cube_of c.args.block) c.requires.block none k
          (held_in_map (cube_of c.args.block) k ok held) held ∙ sym c.value.ensures.exact)
          ∙ sym (c.class.ensures ∙ ap (λ o. class_of o c.value.result) c.odds.ensures))
          c.is_sought.ensures c.bounds_of.ensures.none c.bounds_of.ensures.some;
      linked = c.node-node.ensures.linked;
    }

pub child-requires-clause-depth : goal.child-requires-clause-depth
child-requires-clause-depth t c =
    let low = (above c.args.tree.now c.args.p c.in-Inner.id (cube_of c.args.block)
    c.in-Inner.ensures.linked c.requires.place (ap link_of (sym c.in-Inner.ensures.exact))
    c.requires.block).low in
    omega (arith, low)

pub bounds_in-part-requires : goal.bounds_in-part-requires
bounds_in-part-requires t c =
    let (less, here, at) = child_slot c.args.tree.now c.args.p c.in-Inner.id
    (cube_of c.args.block) (cube_of c.child.result) c.loop-i.i c.in-Inner.ensures.linked
    c.requires.place (ap link_of (sym c.in-Inner.ensures.exact)) c.requires.block
    c.child.ensures.exact (omega arith) in
    (omega (arith, less), (here, at))

pub loop-i-preserved : goal.loop-i-preserved
loop-i-preserved t c = record {
  exact = extent_next (classes_in c.args.tree.now) c.args.sought (cube_of c.args.block)
      (cube_of c.child.result) c.loop-i.i c.loop-i.bounds c.bounds_in-part.result
      c.joined-bounds.result c.loop-i.invariant.exact c.bounds_in-part.ensures.exact
      c.child.ensures.exact c.joined-bounds.ensures;
}

pub returns-clause-exact : goal.returns-clause-exact
returns-clause-exact t c =
    let low = (above c.args.tree.now c.args.p c.in-Inner.id (cube_of c.args.block)
    c.in-Inner.ensures.linked c.requires.place (ap link_of (sym c.in-Inner.ensures.exact))
    c.requires.block).low in
    extent_whole (classes_in c.args.tree.now) c.args.sought (cube_of c.args.block) c.loop-i.i
    c.loop-i.bounds low (omega arith) c.loop-i.invariant.exact
