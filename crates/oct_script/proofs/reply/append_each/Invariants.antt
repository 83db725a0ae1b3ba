use Rattle.std.proofs.Common.{◌≡◌, ◌++◌, take}
use Rattle.std.specs.List.{flat_map}
use Rattle.oct_script.specs.Replies.{change_text}
use Rattle.oct_script.proofs.reply.append_each.Given as goal

abbrev pub invariant-loop-change : goal.invariant-loop-change
invariant-loop-change l =
    l.out.items ≡ l.initial.out.items ++ flat_map change_text (take l.change-index l.changes)
