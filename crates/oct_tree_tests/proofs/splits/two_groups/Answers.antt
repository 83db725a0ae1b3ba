use Rattle.std.proofs.Common.{◌≡◌, Some, refl, ◌∙◌, arith}
use Rattle.oct_key.specs.Block.{root_block}
use Rattle.oct_arena.specs.Entries.{home_at}
use Rattle.oct_tree.proofs.Formed.{child_depth}
use Rattle.oct_tree.proofs.Paths.{homed_entry}
use Rattle.oct_tree_tests.proofs.splits.two_groups.Goals as goal

pub split-under-requires-clause-place : goal.split-under-requires-clause-place
split-under-requires-clause-place c =
    let home : home_at c.set_place.new.self.groups c.split-id.result.number ≡ Some root_block =
    c.set_place.ensures.written.homes _ ∙ c.split-id.ensures.split.home in
    (homed_entry _ root_block home, omega arith)

pub split-under-requires-clause-depth : goal.split-under-requires-clause-depth
split-under-requires-clause-depth c b e =
    let home : home_at c.set_place.new.self.groups c.split-id.result.number ≡ Some root_block =
    c.set_place.ensures.written.homes _ ∙ c.split-id.ensures.split.home in
    let deep =
    child_depth c.set_place.new.self c.split-id.result.number 2 0 root_block home refl b e in
    omega (arith, deep)
