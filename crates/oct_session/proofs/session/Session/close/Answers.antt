use Rattle.std.proofs.Common.{[], ◌++◌, ◌||◌, ◌∙◌, ap, refl}
use Rattle.oct_io.proofs.Appending.{appended_nil}
use Rattle.oct_io.specs.declared.sink.SinkFault.{SinkFault}
use Rattle.oct_io.specs.declared.sink.SinkFault.TheVariants.{Memory}
use Rattle.oct_script.specs.Replies.{text_of}
use Rattle.oct_session.specs.ScanBlock.{end_reply}
use Rattle.oct_session.proofs.Halting.{closing_told, closing_untold, closing_cut}
use Rattle.oct_session.proofs.Moves.{all_written}
use Rattle.oct_session.proofs.PieceMoves.{closes_on, counts_written, counts_unwritten}
use Rattle.oct_session.proofs.Moves.{ran_short}
use Rattle.oct_session.proofs.session.Session.close.Goals as goal

pub returns-in_err-append_reply : goal.returns-in_err-append_reply
returns-in_err-append_reply g c =
    closes_on g.K.Sink c.from_residual.result _ _ _ _ _ c.from_residual.ensures.1 (record {
      to = closing_untold _ Memory _ c.args.self.now c.end_reply-reply.result c.requires.running
          (c.end_reply-reply.ensures ∙ ap end_reply c.take.ensures.value)
          c.in_err-append_reply.ensures.err;
      adds = ([], appended_nil _);
      counts = counts_unwritten _ _;
    })

pub returns-in_err-flush : goal.returns-in_err-flush
returns-in_err-flush g c =
    let fault : SinkFault = c.in_err-flush.field-0.0 in
    closes_on g.K.Sink c.from_residual-in_err-flush.result _ _ _ _ _
    c.from_residual-in_err-flush.ensures.1 (record {
      to = closing_cut fault _ _ c.args.self.now c.end_reply-reply.result
          c.append_reply.new.text.items _
          (ran_short g.K.Sink _ _ _ _ fault c.in_err-flush.ensures.passes) c.requires.running
          (c.end_reply-reply.ensures ∙ ap end_reply c.take.ensures.value)
          (c.in_ok-append_reply.ensures.ok ∙ ap (λ x. x ++ text_of c.end_reply-reply.result)
          c.requires.empty)
          c.in_err-flush.ensures.passes.cut.1 c.in_err-flush.ensures.passes.cut.2;
      adds = c.in_err-flush.ensures.passes.adds;
      counts = counts_written _ _ _ _ _ c.in_err-flush.ensures.passes.counts;
    })

pub returns : goal.returns
returns g c = record {
  to = (
    c.flush.ensures.empty,
    λ w p at before.
        closing_told w _ _ c.args.self.now _ p c.end_reply-reply.result
        c.append_reply.new.text.items
        c.requires.running at before
        (c.end_reply-reply.ensures ∙ ap end_reply c.take.ensures.value)
        (c.in_ok-append_reply.ensures.ok ∙ ap (λ x. x ++ text_of c.end_reply-reply.result)
        c.requires.empty)
        (all_written _ _ _ _ c.in_ok-flush.ensures.passes.moved c.flush.ensures.empty) refl
        c.take.ensures.after (ap (λ b. c.args.self.now.refused || b) c.is_refused.ensures) refl
        c.count.ensures,
  );
  adds = c.in_ok-flush.ensures.passes.adds;
  counts = counts_written _ _ _ _ _ c.in_ok-flush.ensures.passes.counts;
}
