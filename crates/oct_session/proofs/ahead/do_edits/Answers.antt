use Rattle.std.proofs.Common.{◌≡◌, ◌+◌, ◌-◌, length, take, sym, subst, ◌∙◌, arith}
use Rattle.std.proofs.lemmas.List.{take_more}
use Rattle.oct_map.specs.Edits.{IsSureOf}
use Rattle.oct_session.specs.Ahead.{HasEdited}
use Rattle.oct_session.proofs.EditRuns.{edited_push}
use Rattle.oct_session.proofs.ahead.do_edits.Goals as goal

pub loop-edit-preserved : goal.loop-edit-preserved
loop-edit-preserved c =
    let edits = c.args.edits.now in
    let i = c.loop-edit.edit-index in
    let left : length edits - i ≡ (length edits - (i + 1)) + 1 =
    omega (arith, c.loop-edit-test.true) in
    record {
      edited = subst (HasEdited c.args.map.now c.edit_surely.new.map)
          (sym (take_more edits i _ c.loop-edit-test.true))
          (edited_push c.args.map.now c.loop-edit.map c.edit_surely.new.map (take i edits) _
          c.loop-edit.invariant.edited c.edit_surely.ensures.done);
      sure = c.edit_surely.ensures.sure (length edits - (i + 1))
          (subst (IsSureOf c.loop-edit.map) left c.loop-edit.invariant.sure);
      res = c.edit_surely.ensures.res ∙ c.loop-edit.invariant.res;
    }
