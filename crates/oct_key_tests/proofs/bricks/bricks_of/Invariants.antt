use Rattle.std.specs.List.{All}
use Rattle.oct_brick.specs.Bricks.{IsBrick}
use Rattle.oct_key_tests.proofs.bricks.bricks_of.Given as goal

abbrev pub invariant-loop-change : goal.invariant-loop-change
invariant-loop-change l = All IsBrick l.bricks.items
