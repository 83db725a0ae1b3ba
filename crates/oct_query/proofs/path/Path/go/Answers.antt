use Rattle.std.proofs.Common.{rules, ◌+◌, ◌∙◌, sym, ap, arith}
use Rattle.std.proofs.lemmas.List.{length-set}
use Rattle.oct_arena.specs.Nodes.{link_of}
use Rattle.oct_tree.specs.Tree.{reach, step}
use Rattle.oct_tree.proofs.Paths.{reach_suc, step_live}
use Rattle.oct_query.proofs.Ways.{path_shared, path_step}
use Rattle.oct_query.proofs.path.Path.go.Goals as goal

pub loop-level-init : goal.loop-level-init
loop-level-init c =
    let shared = path_shared c.args.tree.now c.args.self.now c.args.k c.shared-from.result
    c.requires.path c.shared-from.ensures.few c.shared-from.ensures.same in
    record {
      room = search rules;
      nodes = shared;
      node = shared c.shared-from.result _ (omega arith);
    }

pub child_node-node-requires-clause-live : goal.child_node-node-requires-clause-live
child_node-node-requires-clause-live c id link =
    step_live c.args.tree.now c.args.k c.requires.path.linked c.loop-level.level id
    (sym (ap link_of c.loop-level.invariant.node) ∙ link)

pub loop-level-preserved : goal.loop-level-preserved
loop-level-preserved c =
    let room = c.loop-level.invariant.room in
    let next = c.child_node-node.ensures
    ∙ ap (λ n. step c.args.tree.now.groups n c.child_index.result) c.loop-level.invariant.node
    ∙ ap (step c.args.tree.now.groups (reach c.args.tree.now c.loop-level.level c.args.k))
    c.child_index.ensures.exact in
    let nodes = path_step c.args.tree.now c.loop-level.self.nodes c.args.k c.loop-level.level
    c.child_node-node.result (omega (arith, room, c.requires.depth)) c.loop-level.invariant.nodes
    next in
    record {
      room = length-set c.loop-level.self.nodes (c.loop-level.level + 1) c.child_node-node.result
          ∙ room;
      nodes = nodes;
      node = next ∙ sym (reach_suc c.args.tree.now c.loop-level.level c.args.k);
    }
