use Rattle.std.proofs.Common.{◌+◌, refl}
use Rattle.oct_session.specs.Moments.{seen}
use Rattle.oct_session.proofs.Holding.{clear_next}
use Rattle.oct_session.proofs.Effects.{parsed_next, read_next}
use Rattle.oct_session.proofs.Moves.{makes_on, line_unwritten, line_held, line_unheld, line_failed}
use Rattle.oct_session.proofs.Moves.{failed_unwritten}
use Rattle.oct_session.proofs.session.Session.respond.Goals as goal

pub returns-in_err-flush_before_change-clause-does :
    goal.returns-in_err-flush_before_change-clause-does
returns-in_err-flush_before_change-clause-does g c =
    makes_on c.from_residual.result _ _ _ _ c.from_residual.ensures.1
    (line_unwritten g.K.Sink (seen g.K.Sink g.F.Store c.args.context.now c.args.self.now) _ _
    c.args.self.now _ c.args.line.now _ c.in_err-flush_before_change.ensures.passes)

pub returns-in_ok-flush_if_full-in-Ok-clause-does :
    goal.returns-in_ok-flush_if_full-in-Ok-clause-does
returns-in_ok-flush_if_full-in-Ok-clause-does g c =
    line_held g.K.Sink (seen g.K.Sink g.F.Store c.args.context.now c.args.self.now)
    (seen g.K.Sink g.F.Store c.answer.new.context c.answer.new.self) _ _ _ _ c.args.self.now _
    c.answer.new.self _ c.args.line.now _ _ c.requires.running
    (record { counted = refl; block = refl; refused = refl; has_quit = refl; tally = refl })
    (record { counted = refl; block = refl; refused = refl; has_quit = refl; tally = refl })
    c.in_ok-flush_before_change.ensures.passes
    (clear_next c.flush_before_change.new.text.items c.args.self.now.block
    (c.args.self.now.line_count + 1) c.args.line.now _ (read_next _ _ _ _ _ c.read.ensures.exact
    c.is_some.ensures) c.in_ok-flush_before_change.ensures.clear)
    (c.in-Ok.ensures c.args.line.now (parsed_next _ _ _ _ c.requires.running c.read.ensures.numbered
    c.read.ensures.exact c.is_some.ensures c.read.ensures.opens))
    c.in_ok-flush_if_full-in-Ok.ensures.passes c.in_ok-flush_if_full-in-Ok.ensures.few

pub returns-in_err-flush_if_full-in-Ok-clause-does :
    goal.returns-in_err-flush_if_full-in-Ok-clause-does
returns-in_err-flush_if_full-in-Ok-clause-does g c =
    makes_on c.from_residual-in_err-flush_if_full-in-Ok.result _ _ _ _
    c.from_residual-in_err-flush_if_full-in-Ok.ensures.1
    (line_unheld g.K.Sink (seen g.K.Sink g.F.Store c.args.context.now c.args.self.now)
    (seen g.K.Sink g.F.Store c.answer.new.context c.answer.new.self) _ _ _ _ c.args.self.now _
    c.answer.new.self _ c.args.line.now _ _ c.requires.running
    (record { counted = refl; block = refl; refused = refl; has_quit = refl; tally = refl })
    c.in_ok-flush_before_change.ensures.passes
    (clear_next c.flush_before_change.new.text.items c.args.self.now.block
    (c.args.self.now.line_count + 1) c.args.line.now _ (read_next _ _ _ _ _ c.read.ensures.exact
    c.is_some.ensures) c.in_ok-flush_before_change.ensures.clear)
    (c.in-Ok.ensures c.args.line.now (parsed_next _ _ _ _ c.requires.running c.read.ensures.numbered
    c.read.ensures.exact c.is_some.ensures c.read.ensures.opens))
    c.in_err-flush_if_full-in-Ok.ensures.passes)

pub returns-in_err-flush-in-Err-clause-does : goal.returns-in_err-flush-in-Err-clause-does
returns-in_err-flush-in-Err-clause-does g c =
    makes_on c.from_residual-in_err-flush-in-Err.result _ _ _ _
    c.from_residual-in_err-flush-in-Err.ensures.1
    (failed_unwritten g.K.Sink (seen g.K.Sink g.F.Store c.args.context.now c.args.self.now)
    (seen g.K.Sink g.F.Store c.answer.new.context c.answer.new.self) _ _ _ _ c.args.self.now _
    c.answer.new.self _ c.args.line.now _ _ _ c.requires.running
    (record { counted = refl; block = refl; refused = refl; has_quit = refl; tally = refl })
    c.in_ok-flush_before_change.ensures.passes
    (clear_next c.flush_before_change.new.text.items c.args.self.now.block
    (c.args.self.now.line_count + 1) c.args.line.now _ (read_next _ _ _ _ _ c.read.ensures.exact
    c.is_some.ensures) c.in_ok-flush_before_change.ensures.clear)
    (c.in-Err.ensures c.args.line.now
    (parsed_next _ _ _ _ c.requires.running c.read.ensures.numbered
    c.read.ensures.exact c.is_some.ensures c.read.ensures.opens))
    c.in_err-flush-in-Err.ensures.passes)

pub returns-in_ok-flush-in-Err-clause-does : goal.returns-in_ok-flush-in-Err-clause-does
returns-in_ok-flush-in-Err-clause-does g c =
    line_failed g.K.Sink (seen g.K.Sink g.F.Store c.args.context.now c.args.self.now)
    (seen g.K.Sink g.F.Store c.answer.new.context c.answer.new.self) _ _ _ _ c.args.self.now _
    c.answer.new.self _ c.args.line.now _ _ _ c.from.result c.from.ensures c.requires.running
    (record { counted = refl; block = refl; refused = refl; has_quit = refl; tally = refl })
    c.in_ok-flush_before_change.ensures.passes (c.in-Err.ensures c.args.line.now
    (parsed_next _ _ _ _ c.requires.running c.read.ensures.numbered
    c.read.ensures.exact c.is_some.ensures c.read.ensures.opens))
    c.in_ok-flush-in-Err.ensures.passes
    c.flush.ensures.empty
