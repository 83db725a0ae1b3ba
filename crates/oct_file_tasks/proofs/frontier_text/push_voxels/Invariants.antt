use Rattle.std.proofs.Common.{◌≡◌, ◌++◌, take}
use Rattle.std.specs.List.{flat_map}
use Rattle.oct_file_tasks.specs.Frontiers.{voxel_line}
use Rattle.oct_file_tasks.proofs.frontier_text.push_voxels.Given as goal

abbrev pub invariant-loop-key : goal.invariant-loop-key
invariant-loop-key l = l.text.items
    ≡ l.initial.text.items ++ flat_map voxel_line (take l.key-index l.keys)
