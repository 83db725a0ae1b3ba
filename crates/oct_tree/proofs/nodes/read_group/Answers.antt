use Rattle.oct_tree.proofs.Surveys.{uncollapsible_known}
use Rattle.oct_tree.proofs.nodes.read_group.Goals as goal

pub greatest-requires-clause-known : goal.greatest-requires-clause-known
greatest-requires-clause-known c =
    uncollapsible_known c.args.arena.now c.args.id.number c.in-None.ensures.none
