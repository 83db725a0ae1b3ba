use Rattle.std.proofs.Common.{◌+◌, refl, subst, arith}
use Rattle.oct_map.specs.Edits.{IsSureOf}
use Rattle.oct_session.proofs.EditRuns.{run_next}
use Rattle.oct_session.proofs.ahead.Run.read_next.Goals as goal

pub returns-clause-run : goal.returns-clause-run
returns-clause-run c =
    run_next c.args.map.now c.args.line.now c.args.piece.now _ c.in-Some.whole.text.now
    c.args.self.now _ c.in-Some-read_edit.edit c.in-Some.whole.taken c.requires.run
    c.split_at.ensures.back c.in-Some.ensures.within (omega (arith, c.in-Some.ensures.taken))
    c.in-Some.ensures.unread c.in-Some.ensures.ends c.in-Some-read_edit.ensures.says
    c.in-Some-read_edit.ensures.placed
    (subst (λ n. IsSureOf c.args.map.now (n + 1)) c.len.ensures.value
    (c.is_sure_of.ensures.sure c.if-not-is_sure_of.false))
    c.push.ensures.items refl
