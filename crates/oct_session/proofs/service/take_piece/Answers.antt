use Rattle.std.proofs.Common.{arith}
use Rattle.oct_session.proofs.Turns.{piece_on, piece_whole, piece_front, piece_long, piece_stop}
use Rattle.oct_session.proofs.service.take_piece.Goals as goal

pub returns-then-piece-room : goal.returns-then-piece-room
returns-then-piece-room g c =
    piece_whole c.take.result c.args.piece.now c.args.room _ _ c.requires.small
    c.if-piece-room.true c.requires.rests c.take.ensures.empty c.take.ensures.does

pub returns-then-session : goal.returns-then-session
returns-then-session g c =
    piece_front c.args.piece.now _ c.args.room _ _ c.requires.small c.split_at.ensures.front
    c.requires.rests c.in_ok-take.ensures.empty c.if-session.true c.in_ok-take.ensures.does

pub returns-else-session : goal.returns-else-session
returns-else-session g c =
    piece_long c.args.piece.now _ c.args.room _ _ (omega (arith, c.if-piece-room.false))
    c.split_at.ensures.front c.requires.rests.empty c.in_ok-take.ensures.empty c.if-session.false
    c.in_ok-take.ensures.does

pub returns-in_err-take : goal.returns-in_err-take
returns-in_err-take g c =
    piece_on c.from_residual.result _ c.args.piece.now c.args.room _ _ c.from_residual.ensures.1
    (piece_stop c.args.piece.now _ c.args.room _ _ _ c.split_at.ensures.front
    c.requires.rests.empty c.in_err-take.ensures.does)
