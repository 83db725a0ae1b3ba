use Rattle.std.proofs.Common.{◌≡◌, map, take}
use Rattle.octofix.specs.Buffers.{fronted}
use Rattle.oct_query.specs.Shown.{shown_as}
use Rattle.octofix.specs.Lists.{block_told}
use Rattle.octofix.proofs.lists.put_blocks.Given as goal

abbrev pub invariant-loop-i : goal.invariant-loop-i
invariant-loop-i l = l.blocks
    ≡ fronted l.initial.blocks (map (λ f. block_told (shown_as f)) (take l.i l.found))
