use Rattle.std.proofs.Common.{◌≡◌, ◌++◌, map, take}
use Rattle.std.specs.List.{flat_map}
use Rattle.oct_query.specs.Shown.{shown_as}
use Rattle.oct_script.specs.Replies.{block_text}
use Rattle.oct_script.proofs.reply.append_found.Given as goal

abbrev pub invariant-loop-found : goal.invariant-loop-found
invariant-loop-found l =
    l.out.items
    ≡ l.initial.out.items
    ++ flat_map (block_text l.threshold) (map shown_as (take l.found-index l.blocks))
