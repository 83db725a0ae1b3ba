use Rattle.std.proofs.Common.{arith, refl}
use Rattle.oct_session.proofs.session.Session.take.Goals.{then-loop-taken-test+else-not-self}
use Rattle.oct_session.proofs.session.Session.take.Goals.{else-loop-taken-test}
use Rattle.oct_session.specs.Moments.{seen}
use Rattle.oct_session.proofs.Moves.{makes_on}
use Rattle.oct_session.proofs.PieceMoves.{takes_none, takes_roomy, takes_next, takes_within}
use Rattle.oct_session.proofs.PieceMoves.{takes_flushed, takes_unflushed, takes_part, takes_quit}
use Rattle.oct_session.proofs.PieceMoves.{takes_whole}
use Rattle.oct_session.proofs.session.Session.take.Goals as goal

pub loop-taken-init : goal.loop-taken-init
loop-taken-init g c = record {
  within = omega arith;
  takes = takes_none _ c.args.piece.now;
}

pub take_next-requires-clause-room : goal.take_next-requires-clause-room
take_next-requires-clause-room g c =
    takes_roomy c.args.piece.now _ c.loop-taken.taken _ _ c.loop-taken-test.true
    c.split_at.ensures.back c.requires.room c.loop-taken.invariant.takes

pub loop-taken-preserved : goal.loop-taken-preserved
loop-taken-preserved g c = record {
  within = omega (arith, c.in_ok-taken.ensures.within.1, c.split_at.ensures);
  takes = takes_next c.args.piece.now _ _ _ _ _ _ c.split_at.ensures.back
      c.loop-taken.invariant.takes c.in_ok-taken.ensures.does;
}

pub returns-in_err-taken-clause-does : goal.returns-in_err-taken-clause-does
returns-in_err-taken-clause-does g c =
    makes_on c.from_residual.result _ _ _ _ c.from_residual.ensures.1
    (takes_within c.args.piece.now _ _ _ _ _ _ c.split_at.ensures.back
    c.loop-taken.invariant.takes c.in_err-taken.ensures.does)

pub returns-clause-does : goal.returns-clause-does
returns-clause-does g c =
    let here = takes_flushed g.K.Sink _ _
    (seen g.K.Sink g.F.Store c.loop-taken.context c.loop-taken.self) _ _ c.loop-taken.self _ _
    c.loop-taken.invariant.takes c.in_ok-flush.ensures.passes
    (record { counted = refl; block = refl; refused = refl; has_quit = refl; tally = refl })
    refl c.flush.ensures.empty in
    elim c.loop-taken-test.branch [
      | then-loop-taken-test+else-not-self x ↦ takes_quit c.args.piece.now c.loop-taken.taken _ _
          c.loop-taken.invariant.within x.if-not-self.false c.flush.ensures.empty here
      | else-loop-taken-test x ↦ takes_whole c.args.piece.now c.loop-taken.taken _ _
          x.loop-taken-test.false here
    ]

pub returns-in_err-flush-clause-does : goal.returns-in_err-flush-clause-does
returns-in_err-flush-clause-does g c =
    makes_on c.from_residual-in_err-flush.result _ _ _ _ c.from_residual-in_err-flush.ensures.1
    (takes_part c.args.piece.now c.loop-taken.taken _ _ _
    (takes_unflushed g.K.Sink _ _
    (seen g.K.Sink g.F.Store c.loop-taken.context c.loop-taken.self) _ _ c.loop-taken.self _ _
    c.loop-taken.invariant.takes c.in_err-flush.ensures.passes))
