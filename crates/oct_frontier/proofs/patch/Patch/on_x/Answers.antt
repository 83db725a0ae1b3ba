use Rattle.oct_key.proofs.Blocks.{block_in_map}
use Rattle.oct_frontier.proofs.Steps.{live_x}
use Rattle.oct_frontier.proofs.patch.Patch.on_x.Goals as goal

pub sides_of_child-requires-clause-here : goal.sides_of_child-requires-clause-here
sides_of_child-requires-clause-here c =
    (live_x _ _ _ _ _ _ (block_in_map c.args.self.now.block) c.requires.patch).here

pub sides_of_child-requires-clause-low : goal.sides_of_child-requires-clause-low
sides_of_child-requires-clause-low c =
    (live_x _ _ _ _ _ _ (block_in_map c.args.self.now.block) c.requires.patch).low

pub sides_of_child-requires-clause-high : goal.sides_of_child-requires-clause-high
sides_of_child-requires-clause-high c =
    (live_x _ _ _ _ _ _ (block_in_map c.args.self.now.block) c.requires.patch).high
