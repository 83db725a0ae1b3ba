use Rattle.std.proofs.Common.{◌≡◌, arith, rules, Some}
use Rattle.oct_arena.specs.Entries.{home_at}
use Rattle.oct_tree.proofs.Paths.{homed_entry, place_block}
use Rattle.oct_tree.proofs.Formed.{child_depth}
use Rattle.oct_tree_tests.proofs.passes.+put.Goals as goal

pub put-requires : goal.put-requires
put-requires t c =
    let (b, e) = place_block c.args.tree.now c.args.p c.requires.place in
    let home : home_at c.enter.new.tree.groups c.in-Some-enter.id.number ≡ Some b =
    c.in-Some-enter.ensures.home b e in
    let depth = c.requires.depth b e in (
      search rules,
      (
        c.enter.ensures.formed,
        (
          (homed_entry _ b home, omega arith),
          (
            child_depth c.enter.new.tree c.in-Some-enter.id.number c.in-Some.i.now c.args.depth b
                home depth,
            search rules,
          ),
        ),
      ),
    )
