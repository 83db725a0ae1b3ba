use Rattle.std.proofs.Common.{◌-◌}
use Rattle.oct_key.specs.CubeOf.{cube_of}
use Rattle.oct_merge.proofs.Copies.{IsCopying}
use Rattle.oct_merge.proofs.merging.+copy_part.Given as goal

abbrev pub decreases-copy_part : goal.decreases-copy_part
decreases-copy_part l = 16 - l.block.depth

abbrev pub invariant-loop-i : goal.invariant-loop-i
invariant-loop-i l =
    IsCopying l.fn.tree l.initial.tree l.tree l.other l.fn.p (cube_of l.fn.block) l.id
    l.fn.node l.fn.rule l.i
