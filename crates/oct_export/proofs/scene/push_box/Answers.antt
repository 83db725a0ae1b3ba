use Rattle.std.proofs.Common.{◌++◌, List, subst, ◌∙◌}
use Rattle.oct_num.proofs.Results.{on_any_err}
use Rattle.oct_io.specs.Taken.{IsCutOff}
use Rattle.oct_export.proofs.Pushes.{pushed_piece, pushed_as}
use Rattle.oct_export.proofs.scene.push_box.Goals as goal

pub returns-in_err-push-clause-cut : goal.returns-in_err-push-clause-cut
returns-in_err-push-clause-cut g c = on_any_err c.from_residual.result _
    (subst (λ (t : List _). IsCutOff (g.K.Sink.written c.args.sink.now)
    (g.K.Sink.written c.push.new.sink) (c.args.gather.now ++ t))
    (c.as_bytes.ensures.value ∙ c.deref.ensures.0 ∙ c.line_of-line.ensures)
    c.in_err-push.ensures.cut)

pub returns-clause-pushed : goal.returns-clause-pushed
returns-clause-pushed g c =
    pushed_as _ _ _ _ _ _
    (pushed_piece c.as_bytes.result.now c.args.gather.now _ _ _ _ c.in_ok-push.ensures.handed
    c.in_ok-push.ensures.held)
    (c.as_bytes.ensures.value ∙ c.deref.ensures.0 ∙ c.line_of-line.ensures)
