use Rattle.std.proofs.Common.{◌≡◌}
use Rattle.octofix.proofs.Chains.{LeadsTo}
use Rattle.octofix.proofs.edits.edit_each.Given as goal

abbrev pub invariant-loop-index : goal.invariant-loop-index
invariant-loop-index l =
    LeadsTo l.edits l.lazy l.initial.map l.index l.map × (l.done ≡ l.index)
