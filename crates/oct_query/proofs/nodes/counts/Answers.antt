use Rattle.std.proofs.Common.{◌≡◌, ◌≤◌, sym, ◌∙◌, ap, subst}
use Rattle.oct_values.specs.Counts.{group_count, node_count}
use Rattle.oct_arena.specs.Entries.{live}
use Rattle.oct_tree.specs.Tree.{value_at}
use Rattle.oct_query.specs.Nodes.{nodes_of}
use Rattle.oct_query.proofs.Under.{under_root}
use Rattle.oct_query.proofs.Needed.{groups_needed, pruned_groups, groups_pruned}
use Rattle.oct_query.proofs.Present.{nodes_needed, pruned_nodes}
use Rattle.oct_query.proofs.nodes.counts.Goals as goal

pub returns-clause-nodes : goal.returns-clause-nodes
returns-clause-nodes c =
    c.nodes_under.ensures.exact ∙ under_root c.args.tree.now c.arena.ensures.linked

pub returns-clause-least_groups : goal.returns-clause-least_groups
returns-clause-least_groups c =
    let groups : c.live.result ≡ live c.args.tree.now.groups =
    c.live.ensures.exact ∙ ap live c.arena.ensures.exact in
    subst (λ n. group_count (value_at c.args.tree.now) ≤ n) (sym groups)
    (groups_needed c.args.tree.now c.arena.ensures.linked)

pub returns-clause-least_nodes : goal.returns-clause-least_nodes
returns-clause-least_nodes c =
    let nodes : c.nodes_under.result ≡ nodes_of c.args.tree.now.groups c.args.tree.now.root =
    c.nodes_under.ensures.exact
    ∙ under_root c.args.tree.now c.arena.ensures.linked in
    subst (λ n. node_count (value_at c.args.tree.now) ≤ n) (sym nodes)
    (nodes_needed c.args.tree.now c.arena.ensures.linked)

pub returns-clause-pruned_groups : goal.returns-clause-pruned_groups
returns-clause-pruned_groups c =
    let groups : c.live.result ≡ live c.args.tree.now.groups =
    c.live.ensures.exact ∙ ap live c.arena.ensures.exact in (
      λ same. groups_pruned c.args.tree.now c.arena.ensures.linked (sym same ∙ groups),
      λ pruned. groups ∙ sym (pruned_groups c.args.tree.now c.arena.ensures.linked pruned),
    )

pub returns-clause-pruned_nodes : goal.returns-clause-pruned_nodes
returns-clause-pruned_nodes c =
    λ formed pruned. c.nodes_under.ensures.exact ∙ under_root c.args.tree.now c.arena.ensures.linked
    ∙ sym (pruned_nodes c.args.tree.now formed pruned)
