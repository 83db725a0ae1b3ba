use Rattle.std.proofs.Common.{ap, ◌∙◌}
use Rattle.oct_script.specs.Lines.{LineSoFar}
use Rattle.oct_session.specs.Moments.{seen, stop_in}
use Rattle.oct_session.proofs.Moves.{fed}
use Rattle.oct_session.proofs.session.Session.respond_fed.Goals as goal

pub returns-clause-does : goal.returns-clause-does
returns-clause-does g c =
    fed (seen g.K.Sink g.F.Store c.args.context.now c.args.self.now)
    (seen g.K.Sink g.F.Store c.respond.new.context c.respond.new.self) _ c.read.result
    (stop_in c.respond.result)
    (c.read.ensures ∙ ap (λ (l : LineSoFar). l.line) c.replace-line.ensures.value)
    c.respond.ensures.does
