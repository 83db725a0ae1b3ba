-- What the calls of an arena and of a tree leave, by the lemmas of their crates.
use Rattle.oct_arena.proofs.Callers.{live_taken, live_apart, taken_apart, live_past_take}
use Rattle.oct_arena.proofs.Callers.{live_past_give, live_past_set_node}
use Rattle.oct_tree.proofs.Callers.{root_above, live_under_root}

pub ruleset arena_callers = (
  live_taken,
  live_apart,
  taken_apart,
  live_past_take,
  live_past_give,
  live_past_set_node,
)

pub ruleset tree_callers = (root_above, live_under_root)
