use Rattle.std.proofs.Common.{◌+◌, ap, ◌∙◌}
use Rattle.oct_io.specs.Failing.{is_to_fail}
use Rattle.oct_io.proofs.Calling.{call_rose, call_stays}
use Rattle.oct_io.proofs.calls.Calls.next_fails.Goals as goal

pub returns-clause-rises : goal.returns-clause-rises
returns-clause-rises c =
    λ yes. call_rose c.args.self.now.fails c.args.self.now.count c.contains.result
    (c.contains.ensures.value
    ∙ ap (λ fails. is_to_fail fails (c.args.self.now.count + 1)) c.as_slice.ensures) yes

pub returns-clause-stays : goal.returns-clause-stays
returns-clause-stays c =
    λ none. call_stays c.args.self.now.fails c.args.self.now.count c.contains.result
    (c.contains.ensures.value
    ∙ ap (λ fails. is_to_fail fails (c.args.self.now.count + 1)) c.as_slice.ensures) none
