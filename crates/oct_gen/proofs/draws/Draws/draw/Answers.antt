use Rattle.std.proofs.Common.{◌/◌, ◌^◌, ap}
use Rattle.oct_gen.proofs.Numbers.{step_wraps}
use Rattle.oct_gen.proofs.draws.Draws.draw.Goals as goal

pub returns-clause-value : goal.returns-clause-value
returns-clause-value c = ap (λ state. state / 2 ^ 33) (step_wraps c.args.self.now.state)

pub returns-clause-state : goal.returns-clause-state
returns-clause-state c = step_wraps c.args.self.now.state
