use Rattle.std.proofs.Common.{Some, IfOk, refl, sym, subst}
use Rattle.oct_session.specs.Commands.{Puts}
use Rattle.oct_session.specs.Moments.{IsFileOf}
use Rattle.oct_session.specs.Standing.{with_reply}
use Rattle.oct_session.proofs.Effects.{counted_done, counted_on, failed_for}
use Rattle.oct_session.proofs.Loading.{save_done, save_failed, save_unasked}
use Rattle.oct_session.proofs.files.save.Goals as goal

pub returns-in_err-file-clause-saves : goal.returns-in_err-file-clause-saves
returns-in_err-file-clause-saves g c file is =
    save_unasked g.F.Store file c.args.name.now c.args.context.now _ c.args.reply.now
    c.from_residual.ensures.1

pub returns-in_err-save-clause-saves : goal.returns-in_err-save-clause-saves
returns-in_err-save-clause-saves g c file is = record {
  took = save_failed (Some (Puts c.args.name.now file))
      (with_reply c.from_residual-in_err-save.result c.args.reply.now) _ c.args.context.now.map.now
      _ _ c.as_str.result.now c.args.name.now file refl refl c.as_str.ensures
      (failed_for _ c.args.reply.now _ c.from_residual-in_err-save.ensures.1)
      c.in_err-save.ensures.others c.in_err-save.ensures.unsaved;
  stands = λ o some. some;
  asks = record { unasked = λ none. cc; few = c.save.ensures.called };
  counts = counted_on _ _ _ _ c.from_residual-in_err-save.ensures.1 c.in_err-save.ensures.counts;
  map_name = refl;
  store_name = refl;
  sink_name = refl;
  sink = refl;
}

pub returns-clause-saves : goal.returns-clause-saves
returns-clause-saves g c file is = record {
  took = save_done (Some (Puts c.args.name.now file)) c.args.context.now.map.now _ _
      c.as_str.result.now c.args.name.now c.as_slice-bytes.result.now _ file c.as_str.ensures
      (subst (IsFileOf c.args.context.now.map.now file) (sym c.as_slice-bytes.ensures.value)
      (subst (λ made. IfOk made (λ bytes. IsFileOf c.args.context.now.map.now file bytes.items))
      c.in_ok-file.was is)) refl c.in_ok-save.ensures.saved;
  stands = λ o some. some;
  asks = record { unasked = λ none. cc; few = c.save.ensures.called };
  counts = counted_done _ _ _ _ c.in_ok-save.ensures.counts;
  map_name = refl;
  store_name = refl;
  sink_name = refl;
  sink = refl;
}
