use Rattle.std.proofs.Common.{◌-◌}
use Rattle.oct_key.specs.CubeOf.{cube_of}
use Rattle.oct_merge.proofs.Parts.{IsMerging}
use Rattle.oct_merge.proofs.merging.+merge_part.Given as goal

abbrev pub decreases-merge_part : goal.decreases-merge_part
decreases-merge_part l = 16 - l.block.depth

abbrev pub invariant-loop-i : goal.invariant-loop-i
invariant-loop-i l =
    IsMerging l.fn.tree l.initial.tree l.tree l.other l.fn.p (cube_of l.fn.block) l.fn.rule l.i
