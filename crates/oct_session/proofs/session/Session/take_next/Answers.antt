use Rattle.std.proofs.Common.{arith}
use Rattle.oct_session.proofs.EditMoves.{ready_behind, takes_then}
use Rattle.oct_session.proofs.session.Session.take_next.Goals as goal

pub advance-requires-clause-ready : goal.advance-requires-clause-ready
advance-requires-clause-ready g c =
    ready_behind c.args.piece.now c.in_ok-taken.taken _ _ (omega (arith, c.if-taken-gt0.false))
    c.requires.some.1 c.requires.room c.in_ok-taken.ensures.running c.in_ok-taken.ensures.does

pub returns-clause-does : goal.returns-clause-does
returns-clause-does g c =
    takes_then c.advance.result c.args.piece.now c.in_ok-taken.taken _ _ _
    (omega (arith, c.if-taken-gt0.false)) c.in_ok-taken.ensures.does c.advance.ensures.does
