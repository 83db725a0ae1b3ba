use Rattle.std.proofs.Common.{refl}
use Rattle.oct_session.specs.Moments.{seen}
use Rattle.oct_session.proofs.Moves.{makes_on}
use Rattle.oct_session.proofs.PieceMoves.{rests_none, rests_answered, rests_halt}
use Rattle.oct_session.proofs.PieceMoves.{line_unflushed}
use Rattle.oct_session.proofs.session.Session.respond_last.Goals as goal

pub returns-then-not-has_rest : goal.returns-then-not-has_rest
returns-then-not-has_rest g c =
    rests_none (seen g.K.Sink g.F.Store c.args.context.now c.args.self.now) c.has_rest.result
    c.requires.ready.running c.if-not-has_rest.true c.requires.empty c.has_rest.ensures.last

pub returns : goal.returns
returns g c =
    rests_answered g.K.Sink (seen g.K.Sink g.F.Store c.args.context.now c.args.self.now)
    (seen g.K.Sink g.F.Store c.respond_fed.new.context c.respond_fed.new.self) _ _
    c.respond_fed.new.self _ c.has_rest.result _ c.requires.ready.running
    c.if-not-has_rest.false c.requires.empty c.has_rest.ensures.last
    c.in_ok-respond_fed.ensures.does c.in_ok-flush.ensures.passes
    (record { counted = refl; block = refl; refused = refl; has_quit = refl; tally = refl })
    c.flush.ensures.empty

pub returns-in_err-respond_fed : goal.returns-in_err-respond_fed
returns-in_err-respond_fed g c =
    makes_on c.from_residual.result _ _ _ _ c.from_residual.ensures.1
    (rests_halt (seen g.K.Sink g.F.Store c.args.context.now c.args.self.now) _ c.has_rest.result _
    c.requires.ready.running c.if-not-has_rest.false c.requires.empty c.has_rest.ensures.last
    c.in_err-respond_fed.ensures.does)

pub returns-in_err-flush : goal.returns-in_err-flush
returns-in_err-flush g c =
    makes_on c.from_residual-in_err-flush.result _ _ _ _ c.from_residual-in_err-flush.ensures.1
    (rests_halt (seen g.K.Sink g.F.Store c.args.context.now c.args.self.now) _ c.has_rest.result _
    c.requires.ready.running c.if-not-has_rest.false c.requires.empty c.has_rest.ensures.last
    (line_unflushed g.K.Sink (seen g.K.Sink g.F.Store c.args.context.now c.args.self.now)
    (seen g.K.Sink g.F.Store c.respond_fed.new.context c.respond_fed.new.self) _ _
    c.respond_fed.new.self _ _ _ c.in_ok-respond_fed.ensures.does c.in_err-flush.ensures.passes))
