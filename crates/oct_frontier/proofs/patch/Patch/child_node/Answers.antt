use Rattle.oct_key.proofs.Blocks.{block_in_map}
use Rattle.oct_frontier.proofs.Steps.{live_x}
use Rattle.oct_frontier.proofs.patch.Patch.child_node.Goals as goal

pub child_node-requires-clause-live : goal.child_node-requires-clause-live
child_node-requires-clause-live c =
    (live_x _ _ _ _ _ _ (block_in_map c.args.self.now.block) c.requires.patch).here
