use Rattle.std.proofs.Common.{◌∙◌}
use Rattle.oct_num.proofs.Results.{on_any_err}
use Rattle.oct_io.proofs.Gathering.{gathered_whole, gathered_cut}
use Rattle.oct_tree.specs.Classes.{classes_in}
use Rattle.oct_bt.proofs.Encodings.{sent_file, cut_header, cut_data}
use Rattle.oct_bt.proofs.Injective.{data_tells_classes}
use Rattle.oct_bt.proofs.encoding.write.Goals as goal

pub returns-in_err-push-clause-cut : goal.returns-in_err-push-clause-cut
returns-in_err-push-clause-cut g c = on_any_err c.from_residual.result _
    (cut_header c.args.tree.now.res (classes_in c.args.tree.now) _ _ _ c.as_bytes.result.now
    c.new-gather.ensures
    (c.as_bytes.ensures.value ∙ c.deref.ensures.0 ∙ c.plan_file-plan.ensures.header)
    c.in_err-push.ensures.refused)

pub returns-in_err-write_data-clause-cut : goal.returns-in_err-write_data-clause-cut
returns-in_err-write_data-clause-cut g c = on_any_err c.from_residual-in_err-write_data.result _
    (cut_data c.args.tree.now.res (classes_in c.args.tree.now) _ _ _ _ _ c.as_bytes.result.now
    c.new-gather.ensures
    (c.as_bytes.ensures.value ∙ c.deref.ensures.0 ∙ c.plan_file-plan.ensures.header)
    c.in_ok-push.ensures.taken
    c.in_err-write_data.ensures.cut)

pub returns-in_err-flush-clause-cut : goal.returns-in_err-flush-clause-cut
returns-in_err-flush-clause-cut g c = on_any_err c.from_residual-in_err-flush.result _
    (gathered_cut _ _ _ _ _
    (sent_file c.args.tree.now.res (classes_in c.args.tree.now) _ _ _ _ _ _ c.as_bytes.result.now
    c.new-gather.ensures
    (c.as_bytes.ensures.value ∙ c.deref.ensures.0 ∙ c.plan_file-plan.ensures.header)
    c.in_ok-push.ensures.taken
    c.in_ok-write_data.ensures.written) c.in_err-flush.ensures.err)

pub returns-clause-written : goal.returns-clause-written
returns-clause-written g c =
    gathered_whole _ _ _ _ _
    (sent_file c.args.tree.now.res (classes_in c.args.tree.now) _ _ _ _ _ _ c.as_bytes.result.now
    c.new-gather.ensures
    (c.as_bytes.ensures.value ∙ c.deref.ensures.0 ∙ c.plan_file-plan.ensures.header)
    c.in_ok-push.ensures.taken
    c.in_ok-write_data.ensures.written) c.in_ok-flush.ensures.ok

pub returns-in_err-push-clause-tells : goal.returns-in_err-push-clause-tells
returns-in_err-push-clause-tells g c = λ classes.
    data_tells_classes classes (classes_in c.args.tree.now)

pub returns-in_err-write_data-clause-tells : goal.returns-in_err-write_data-clause-tells
returns-in_err-write_data-clause-tells g c = λ classes.
    data_tells_classes classes (classes_in c.args.tree.now)

pub returns-in_err-flush-clause-tells : goal.returns-in_err-flush-clause-tells
returns-in_err-flush-clause-tells g c = λ classes.
    data_tells_classes classes (classes_in c.args.tree.now)

pub returns-clause-tells : goal.returns-clause-tells
returns-clause-tells g c = λ classes.
    data_tells_classes classes (classes_in c.args.tree.now)
