use Rattle.oct_session.specs.Moments.{seen}
use Rattle.oct_session.proofs.Moves.{makes_on}
use Rattle.oct_session.proofs.PieceMoves.{ends_quit, ends_closed, ends_unclosed, ends_rest}
use Rattle.oct_session.proofs.session.Session.end.Goals as goal

pub returns-then-self : goal.returns-then-self
returns-then-self g c = ends_quit _ _ c.if-self.true c.in_ok-respond_last.ensures

pub returns : goal.returns
returns g c =
    ends_closed g.K.Sink _ (seen g.K.Sink g.F.Store c.respond_last.new.context
    c.respond_last.new.self)
    _ _ c.respond_last.new.self _ _ c.in_ok-respond_last.ensures c.in_ok-close.ensures

pub returns-in_err-close : goal.returns-in_err-close
returns-in_err-close g c =
    makes_on c.from_residual-in_err-close.result _ _ _ _ c.from_residual-in_err-close.ensures.1
    (ends_unclosed g.K.Sink _
    (seen g.K.Sink g.F.Store c.respond_last.new.context c.respond_last.new.self)
    _ _ c.respond_last.new.self _ _ c.in_ok-respond_last.ensures c.in_err-close.ensures)

pub returns-in_err-respond_last : goal.returns-in_err-respond_last
returns-in_err-respond_last g c =
    makes_on c.from_residual.result _ _ _ _ c.from_residual.ensures.1
    (ends_rest _ _ _ c.in_err-respond_last.ensures)
