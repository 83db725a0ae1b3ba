use Rattle.std.proofs.Common.{◌+◌, ◌≤◌}
use Rattle.std.specs.List.{All}
use Rattle.oct_arena.specs.Entries.{IsLive, spare}
use Rattle.oct_arena.specs.declared.node.GroupId.{GroupId}
use Rattle.oct_tree_tests.proofs.arenas.keeps_three_thousand_homes.Given as goal

abbrev pub invariant-take : goal.invariant-take
invariant-take g l =
    (3000 ≤ spare l.arena + l.x) × All (λ (id : GroupId). IsLive l.arena id.number) l.ids.items
