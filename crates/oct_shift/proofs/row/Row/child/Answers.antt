use Rattle.std.proofs.Common.{◌≡◌, ◌∙◌, ap, sym, arith, rules, length}
use Rattle.std.proofs.lemmas.List.{length-set}
use Rattle.oct_arena.specs.declared.node.Node.TheVariants.{Absent}
use Rattle.oct_arena.specs.Nodes.{link_of}
use Rattle.oct_tree.specs.Tree.{step}
use Rattle.oct_shift.specs.Moving.{from_child, from_node, node_of_row}
use Rattle.oct_shift.proofs.Puts.{put_next}
use Rattle.oct_shift.proofs.Rows.{from_node_few, node_live, read_row}
use Rattle.oct_shift.proofs.row.Row.child.Goals as goal

pub child_node-requires-clause-live : goal.child_node-requires-clause-live
child_node-requires-clause-live c = λ id link.
    (let node = from_node c.args.way c.args.i c.loop-j.j in
    let few = from_node_few c.args.way c.args.i c.loop-j.j c.requires.way in
    let long : 8 ≡ length c.args.self.now.nodes = search rules in
    let is = read_row c.args.self.now c.from.result node c.index-self-from.result long
    (c.from.ensures ∙ c.source-node.ensures.node) few c.index-self-from.is in
    node_live c.args.tree.now (node_of_row c.args.self.now node) c.requires.linked
    (c.requires.nodes node few) id
    (ap link_of (sym is ∙ c.index-self-from.is) ∙ link))

pub loop-j-preserved : goal.loop-j-preserved
loop-j-preserved c =
    let long = c.loop-j.invariant.long in
    let test = c.loop-j-test.true in
    let few = from_node_few c.args.way c.args.i c.loop-j.j c.requires.way in
    let row : 8 ≡ length c.args.self.now.nodes = search rules in
    let read = read_row c.args.self.now c.from.result
    (from_node c.args.way c.args.i c.loop-j.j) c.index-self-from.result row
    (c.from.ensures ∙ c.source-node.ensures.node) few c.index-self-from.is in
    let is : c.child_node.result ≡ step c.args.tree.now.groups
    (node_of_row c.args.self.now (from_node c.args.way c.args.i c.loop-j.j))
    (from_child c.args.way c.args.i c.loop-j.j) =
    c.child_node.ensures
    ∙ ap (λ n. step c.args.tree.now.groups n c.source-node.result.1)
    (sym c.index-self-from.is ∙ read)
    ∙ ap (step c.args.tree.now.groups
    (node_of_row c.args.self.now (from_node c.args.way c.args.i c.loop-j.j)))
    c.source-node.ensures.child in
    record {
      done = put_next (λ i n. n ≡ step c.args.tree.now.groups
          (node_of_row c.args.self.now (from_node c.args.way c.args.i i))
          (from_child c.args.way c.args.i i)) c.loop-j.nodes c.loop-j.j c.from-in-loop-j.result
          c.child_node.result Absent c.from-in-loop-j.ensures (omega (arith, long, test))
          c.loop-j.invariant.done is;
      long = length-set c.loop-j.nodes c.from-in-loop-j.result c.child_node.result ∙ long;
    }
