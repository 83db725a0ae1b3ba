use Rattle.std.proofs.Common.{◌+◌, length, refl, ap, subst, arith}
use Rattle.oct_session.specs.Ahead.{HasEdited}
use Rattle.oct_session.specs.Moments.{seen}
use Rattle.oct_session.specs.Standing.{desk_of}
use Rattle.oct_session.proofs.EditMoves.{edits_answered}
use Rattle.oct_session.proofs.EditRuns.{oks_length}
use Rattle.oct_session.proofs.session.Session.answer_edits.Goals as goal

pub begun-requires : goal.begun-requires
begun-requires g c =
    omega (
      arith,
      c.write_counted-written.ensures.within,
      ap length c.oks.ensures,
      oks_length (length c.args.edits.now),
    )

pub returns-clause-answers : goal.returns-clause-answers
returns-clause-answers g c =
    let before = seen g.K.Sink g.F.Store c.args.context.now c.args.self.now in
    edits_answered g.K.Sink before
    (record before {
      map = c.do_edits.new.map;
      desk = desk_of g.F.Store.files g.F.Store.calls c.do_edits.new.map
          c.args.context.now.store.now;
    })
    c.args.context.now.sink.now c.write_counted-written.new.sink c.args.self.now _
    c.args.edits.now c.oks.result.now c.write_counted-written.new.told c.begun.result
    c.write_counted-written.result c.oks.ensures c.write_counted-written.ensures c.begun.ensures
    (record {
      map_name = refl;
      store_name = refl;
      sink_name = refl;
      from = λ first. refl;
      to = λ first. refl;
      store = λ first. refl;
      store_faults = refl;
      edited = subst (HasEdited c.args.context.now.map.now c.do_edits.new.map)
          c.split_at.ensures.front c.do_edits.ensures;
    })
    (record {
      counted = ap (λ l. c.args.self.now.line_count + length l) c.split_at.ensures.front;
      block = refl;
      refused = refl;
      has_quit = refl;
      tally = refl;
      text = refl;
      line = refl;
    })
