use Rattle.oct_brick.proofs.Keyed.{bricks_of}
use Rattle.oct_brick.proofs.Merging.{HasTaken}
use Rattle.oct_brick.proofs.merge.merge_by_keys.Given as goal

abbrev pub invariant-loop-key : goal.invariant-loop-key
invariant-loop-key l = HasTaken l.key-index (bricks_of l.bricks l.keys) l.merged.items
