use Rattle.std.proofs.Common.{◌+◌, ◌<◌, ◌^◌, length, take, refl, sym, subst, rules}
use Rattle.oct_session.specs.Ahead.{AreEdits}
use Rattle.oct_session.specs.Moments.{seen}
use Rattle.oct_session.proofs.EditMoves.{room_edits, takes_behind, not_open}
use Rattle.oct_session.proofs.Moves.{takes_on}
use Rattle.oct_session.proofs.PieceMoves.{takes_none, takes_part, takes_flushed, takes_unflushed}
use Rattle.oct_session.proofs.session.Session.take_edits.Goals as goal

pub returns-in_err-flush-clause-does : goal.returns-in_err-flush-clause-does
returns-in_err-flush-clause-does g c =
    let before = seen g.K.Sink g.F.Store c.args.context.now c.args.self.now in
    takes_on c.from_residual.result _ _ _ _ c.from_residual.ensures.1
    (takes_part c.args.piece.now 0 _ _ _
    (takes_unflushed g.K.Sink _ _ before _ _ c.args.self.now _ _
    (takes_none before c.args.piece.now) c.in_err-flush.ensures.passes))

pub answer_edits-requires-clause-room : goal.answer_edits-requires-clause-room
answer_edits-requires-clause-room g c =
    subst (λ l. c.args.self.now.line_count + length l < 2 ^ 63) (sym c.deref.ensures.0)
    (room_edits c.args.piece.now c.read.new.self.taken c.read.new.self.edits.items c.args.self.now
    c.requires.room c.read.ensures.within c.read.ensures.edits)

pub returns-in_err-answer_edits-clause-does : goal.returns-in_err-answer_edits-clause-does
returns-in_err-answer_edits-clause-does g c =
    let before = seen g.K.Sink g.F.Store c.args.context.now c.args.self.now in
    let piece = c.args.piece.now in
    let front = take c.read.new.self.taken piece in
    let some : 0 < length c.read.new.self.edits.items = search rules in
    takes_on c.from_residual-in_err-answer_edits.result _ _ _ _
    c.from_residual-in_err-answer_edits.ensures.1
    (takes_part piece c.read.new.self.taken _ _ _
    (takes_behind front piece _ _ _ _
    (takes_flushed g.K.Sink (take 0 piece) before before _ _ c.args.self.now _ _
    (takes_none before piece) c.in_ok-flush.ensures.passes
    (record { counted = refl; block = refl; refused = refl; has_quit = refl; tally = refl })
    refl c.flush.ensures.empty)
    (c.in_err-answer_edits.ensures.answers front (record {
      running = c.requires.running;
      closed = not_open c.args.self.now.block c.is_some.result c.is_some.ensures c.if-is_some.false;
      empty = c.flush.ensures.empty;
      line = (c.read.ensures.sure some).1;
    }) (subst (AreEdits front) (sym c.deref.ensures.0) c.read.ensures.edits))))

pub returns-clause-does : goal.returns-clause-does
returns-clause-does g c =
    let before = seen g.K.Sink g.F.Store c.args.context.now c.args.self.now in
    let piece = c.args.piece.now in
    let front = take c.read.new.self.taken piece in
    let some : 0 < length c.read.new.self.edits.items = search rules in
    takes_behind front piece _ _ _ _
    (takes_flushed g.K.Sink (take 0 piece) before before _ _ c.args.self.now _ _
    (takes_none before piece) c.in_ok-flush.ensures.passes
    (record { counted = refl; block = refl; refused = refl; has_quit = refl; tally = refl })
    refl c.flush.ensures.empty)
    (c.in_ok-answer_edits.ensures.answers front (record {
      running = c.requires.running;
      closed = not_open c.args.self.now.block c.is_some.result c.is_some.ensures c.if-is_some.false;
      empty = c.flush.ensures.empty;
      line = (c.read.ensures.sure some).1;
    }) (subst (AreEdits front) (sym c.deref.ensures.0) c.read.ensures.edits))
