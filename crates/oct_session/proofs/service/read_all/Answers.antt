use Rattle.std.proofs.Common.{arith, refl, rules, ap, ◌∙◌, ◌-◌}
use Rattle.oct_session.specs.Moments.{seen}
use Rattle.oct_session.proofs.Endings.{IsRead}
use Rattle.oct_session.proofs.Moves.{done_none, done_join}
use Rattle.oct_session.proofs.Turns.{turn_unread, turn_taken, turn_stopped, turn_fits}
use Rattle.oct_session.proofs.Turns.{turn_end, reads_on, reads_stopped, reads_quit, reads_more}
use Rattle.oct_session.proofs.Turns.{reads_end}
use Rattle.oct_session.proofs.service.read_all.Given.{Over}
use Rattle.oct_session.proofs.service.read_all.Goals.{After-take_piece}
use Rattle.oct_session.proofs.service.read_all.Goals as goal

-- what a read gave
read : (g : Over) (c : After-take_piece g)
    → IsRead c.args.options.now c.read_piece.new.buffer c.split_at.result.0.now
    (g.S.Source.left c.reading.source) (g.S.Source.left c.read_piece.new.source) c.reading.taken
    c.in_ok-count.count (c.max_bytes.result - c.reading.taken)
read g c = record {
  few = c.reading.invariant.waits.few;
  size = ap (λ most. most - c.reading.taken) c.max_bytes.ensures.exact;
  most = c.in_ok-count.ensures.few;
  at_once = search rules;
  moved = c.in_ok-count.ensures.moved;
  same = c.in_ok-count.ensures.bytes;
  enough = c.in_ok-count.ensures.enough;
  is = c.split_at.ensures.front;
  len = c.split_at.ensures.front_len;
}

pub returns-in_err-count-clause-reads : goal.returns-in_err-count-clause-reads
returns-in_err-count-clause-reads g c =
    reads_on c.from_residual.result _ c.args.options.now _ _ _ _ c.from_residual.ensures.1
    (reads_stopped c.args.options.now _ _ _ c.reading.taken _ _ _ _ c.reading.invariant.done
    c.reading.invariant.at
    (turn_unread c.args.options.now _ _ c.reading.taken _ c.in_err-count.ensures.err
    c.reading.invariant.waits))

pub returns-in_err-take_piece-clause-reads : goal.returns-in_err-take_piece-clause-reads
returns-in_err-take_piece-clause-reads g c =
    reads_on c.from_residual-in_err-take_piece.result _ c.args.options.now _ _ _ _
    c.from_residual-in_err-take_piece.ensures.1
    (reads_stopped c.args.options.now _ _ _ c.reading.taken _ _ _ _ c.reading.invariant.done
    c.reading.invariant.at
    (turn_stopped c.args.options.now _ _ _ _ c.reading.taken _ _ _ _ _
    (read g (goal.at.returns-in_err-take_piece-clause-reads g c).After-take_piece)
    c.in_err-take_piece.ensures))

pub returns-then-session-clause-reads : goal.returns-then-session-clause-reads
returns-then-session-clause-reads g c =
    reads_quit c.args.options.now _ _ _ c.reading.taken _ _ _ _ c.reading.invariant.done
    c.reading.invariant.at
    (turn_taken c.args.options.now _ _ _ _ c.reading.taken _ _ _ _ c.reading.invariant.waits
    (read g (goal.at.returns-then-session-clause-reads g c).After-take_piece)
    c.in_ok-take_piece.ensures) c.if-session.true

pub returns-then-count-eq0-clause-reads : goal.returns-then-count-eq0-clause-reads
returns-then-count-eq0-clause-reads g c =
    let gave = read g (goal.at.returns-then-count-eq0-clause-reads g c).After-take_piece in
    reads_end c.end.result c.args.options.now _ _ _ _
    (seen g.K.Sink g.F.Store c.take_piece.new.context c.take_piece.new.session) _
    (turn_fits c.args.options.now _ _ _ _ _ _ _ gave
    (c.in_ok-take_piece.ensures.to.1 c.if-session.false))
    (turn_end c.args.options.now _ _ _ _ _ _ _ gave c.if-count-eq0.true
    (c.in_ok-count.ensures.end c.if-count-eq0.true))
    (done_join _ _ _ _ c.reading.invariant.done c.in_ok-take_piece.ensures.done)
    (reads_more c.args.options.now _ _ _ c.reading.taken _
    (seen g.K.Sink g.F.Store c.args.context.now c.args.session.now) _ _ c.reading.invariant.at
    (turn_taken c.args.options.now _ _ _ _ c.reading.taken _ _ _ _ c.reading.invariant.waits gave
    c.in_ok-take_piece.ensures) c.if-session.false)
    c.end.ensures

pub reading-init : goal.reading-init
reading-init g c = record {
  waits = c.requires;
  done = done_none _;
  at = λ first files bytes w at. at;
  ends = refl;
  read = refl;
}

pub reading-preserved : goal.reading-preserved
reading-preserved g c =
    let gave = read g (goal.at.reading-preserved g c).After-take_piece in
    let turn = turn_taken c.args.options.now _ _ _ _ c.reading.taken _ _
    (seen g.K.Sink g.F.Store c.reading.context c.reading.session)
    (seen g.K.Sink g.F.Store c.take_piece.new.context c.take_piece.new.session)
    c.reading.invariant.waits gave c.in_ok-take_piece.ensures in
    record {
      waits = record {
        running = c.if-session.false;
        rests = turn.to.0;
        few = turn_fits c.args.options.now _ _ _ _ _ _ _ gave
            (c.in_ok-take_piece.ensures.to.1 c.if-session.false);
      };
      done = done_join _ _ _ _ c.reading.invariant.done turn.done;
      at = reads_more c.args.options.now _ _ _ c.reading.taken _
          (seen g.K.Sink g.F.Store c.args.context.now c.args.session.now) _ _
          c.reading.invariant.at turn c.if-session.false;
      ends = c.in_ok-count.ensures.ends.before (omega (arith, c.if-count-eq0.false))
          ∙ c.reading.invariant.ends;
      read = c.in_ok-count.ensures.counts.stays ∙ c.reading.invariant.read;
    }
