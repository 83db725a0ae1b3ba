use Rattle.oct_query.proofs.Needed.{least_groups}
use Rattle.oct_query.proofs.Present.{least_nodes}
use Rattle.oct_query.proofs.laws.pruned_is_least.Goals as goal

pub returns-clause-groups : goal.returns-clause-groups
returns-clause-groups c =
    least_groups c.args.pruned.now c.args.other.now c.root.ensures.linked c.root-2.ensures.linked
    c.requires.pruned c.requires.values

pub returns-clause-nodes : goal.returns-clause-nodes
returns-clause-nodes c =
    λ formed. least_nodes c.args.pruned.now c.args.other.now formed c.root-2.ensures.linked
    c.requires.pruned c.requires.values
