use Rattle.std.proofs.Common.{refl, arith, ◌∙◌}
use Rattle.std.proofs.lemmas.Bool.{not-false, not-true}
use Rattle.oct_session.proofs.HeldPieces.{ended_line, whole_read}
use Rattle.oct_session.proofs.Moves.{takes_on}
use Rattle.oct_session.proofs.PieceMoves.{takes_line, takes_halt, takes_joined, takes_some}
use Rattle.oct_session.proofs.session.Session.advance.Goals as goal

pub returns-in_err-respond-clause-does : goal.returns-in_err-respond-clause-does
returns-in_err-respond-clause-does g c =
    takes_on c.from_residual.result _ _ _ _ c.from_residual.ensures.1
    (takes_halt _ _ c.args.self.now (ended_line c.new-line.result) c.args.piece.now _ _
    c.requires.ready.running
    (whole_read _ _ _ c.new-line.result c.new-line.ensures c.in-Some.ensures.ends)
    (record {
      beside =
          record { counted = refl; block = refl; refused = refl; has_quit = refl; tally = refl };
      text = refl;
    })
    c.in_err-respond.ensures.does)

pub returns-in-Some-clause-does : goal.returns-in-Some-clause-does
returns-in-Some-clause-does g c =
    takes_line _ _ c.args.self.now (ended_line c.new-line.result) c.args.piece.now _
    c.requires.ready.running (omega (arith, c.in-Some.ensures.taken)) c.in-Some.ensures.within
    (whole_read _ _ _ c.new-line.result c.new-line.ensures c.in-Some.ensures.ends)
    (record {
      beside =
          record { counted = refl; block = refl; refused = refl; has_quit = refl; tally = refl };
      text = refl;
    })
    (c.respond.ensures.line ∙ c.in-Some.ensures.unread) c.in_ok-respond.ensures.does

pub returns-then-not-fed-clause-does : goal.returns-then-not-fed-clause-does
returns-then-not-fed-clause-does g c =
    takes_joined _ _ _ c.requires.ready.running
    (c.feed-fed.ensures.joins (not-true _ c.if-not-fed.true))
    (record {
      beside =
          record { counted = refl; block = refl; refused = refl; has_quit = refl; tally = refl };
      text = refl;
    })
    (c.feed-fed.ensures.same ∙ not-true _ c.if-not-fed.true)

pub returns-in_err-respond_fed-clause-does : goal.returns-in_err-respond_fed-clause-does
returns-in_err-respond_fed-clause-does g c =
    takes_on c.from_residual-in_err-respond_fed.result _ _ _ _
    c.from_residual-in_err-respond_fed.ensures.1
    (takes_halt _ _ _ _ c.args.piece.now _ _ c.requires.ready.running
    (c.feed-fed.ensures.ends (not-false _ c.if-not-fed.false))
    (record {
      beside =
          record { counted = refl; block = refl; refused = refl; has_quit = refl; tally = refl };
      text = refl;
    })
    c.in_err-respond_fed.ensures.does)

pub returns-clause-does : goal.returns-clause-does
returns-clause-does g c =
    takes_line _ _ _ _ c.args.piece.now _ c.requires.ready.running
    (takes_some _ _ _ c.feed-fed.ensures.taken (not-false _ c.if-not-fed.false))
    c.feed-fed.ensures.within
    (c.feed-fed.ensures.ends (not-false _ c.if-not-fed.false))
    (record {
      beside =
          record { counted = refl; block = refl; refused = refl; has_quit = refl; tally = refl };
      text = refl;
    })
    c.respond_fed.ensures.line c.in_ok-respond_fed.ensures.does
