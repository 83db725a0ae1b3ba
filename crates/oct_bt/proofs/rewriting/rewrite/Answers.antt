use Rattle.std.proofs.Common.{refl, ◌∙◌}
use Rattle.std.proofs.lemmas.Result.{on_err_weaker, on_ok_weaker}
use Rattle.oct_num.proofs.Results.{on_any_err}
use Rattle.oct_bt.specs.File.{file_text}
use Rattle.oct_io.specs.Taken.{IsGathered}
use Rattle.oct_io.proofs.Gathering.{gathered_whole, gathered_cut}
use Rattle.oct_bt.proofs.Rewrites.{text_parts, two_pushed}
use Rattle.oct_bt.proofs.Rewrites.{one_refused, two_refused}
use Rattle.oct_bt.proofs.rewriting.rewrite.Goals as goal

pub returns-clause-written : goal.returns-clause-written
returns-clause-written g c =
    on_ok_weaker c.flush.result (λ wrote. gathered_whole _ _ _ _ _ all wrote) c.flush.ensures.ok
  where
    all : IsGathered (file_text c.args.file.now) (g.K.Sink.written c.args.sink.now)
        (g.K.Sink.written c.push-2.new.sink) c.push-2.new.self
    all = two_pushed _ c.as_bytes.result.now c.as_slice.result.now _ _ _ _ _ _ _ _
        (text_parts c.args.file.now _ _ c.nodes.result c.res.result (c.as_bytes.ensures.value
        ∙ c.deref.ensures.0 ∙ c.header_of-header.ensures)
        c.nodes.ensures c.res.ensures (c.as_slice.ensures ∙ c.codes.ensures.codes))
        c.new-gather.ensures c.in_ok-push.ensures.handed c.in_ok-push.ensures.held
        c.in_ok-push-2.ensures.handed c.in_ok-push-2.ensures.held

pub returns-clause-cut : goal.returns-clause-cut
returns-clause-cut g c =
    on_err_weaker c.flush.result (λ cut. gathered_cut _ _ _ _ _ all cut) c.flush.ensures.err
  where
    all : IsGathered (file_text c.args.file.now) (g.K.Sink.written c.args.sink.now)
        (g.K.Sink.written c.push-2.new.sink) c.push-2.new.self
    all = two_pushed _ c.as_bytes.result.now c.as_slice.result.now _ _ _ _ _ _ _ _
        (text_parts c.args.file.now _ _ c.nodes.result c.res.result (c.as_bytes.ensures.value
        ∙ c.deref.ensures.0 ∙ c.header_of-header.ensures)
        c.nodes.ensures c.res.ensures (c.as_slice.ensures ∙ c.codes.ensures.codes))
        c.new-gather.ensures c.in_ok-push.ensures.handed c.in_ok-push.ensures.held
        c.in_ok-push-2.ensures.handed c.in_ok-push-2.ensures.held

pub returns-in_err-push-clause-cut : goal.returns-in_err-push-clause-cut
returns-in_err-push-clause-cut g c = on_any_err c.from_residual.result _
    (one_refused _ c.as_bytes.result.now c.args.file.now.codes _ _ _
    (text_parts c.args.file.now _ _ c.nodes.result c.res.result (c.as_bytes.ensures.value
    ∙ c.deref.ensures.0 ∙ c.header_of-header.ensures)
    c.nodes.ensures c.res.ensures refl)
    c.new-gather.ensures c.in_err-push.ensures.refused)

pub returns-in_err-push-2-clause-cut : goal.returns-in_err-push-2-clause-cut
returns-in_err-push-2-clause-cut g c = on_any_err c.from_residual-in_err-push-2.result _
    (two_refused _ c.as_bytes.result.now c.as_slice.result.now _ _ _ _ _
    (text_parts c.args.file.now _ _ c.nodes.result c.res.result (c.as_bytes.ensures.value
    ∙ c.deref.ensures.0 ∙ c.header_of-header.ensures)
    c.nodes.ensures c.res.ensures (c.as_slice.ensures ∙ c.codes.ensures.codes))
    c.new-gather.ensures c.in_ok-push.ensures.taken c.in_err-push-2.ensures.refused)
