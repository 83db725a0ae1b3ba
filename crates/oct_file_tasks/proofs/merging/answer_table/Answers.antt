use Rattle.std.proofs.Common.{refl, sym, ap, ◌∙◌}
use Rattle.oct_file_tasks.specs.OverStore.{table_text}
use Rattle.oct_file_tasks.specs.Refusals.{box_between}
use Rattle.oct_io.specs.declared.status.Status.TheVariants.{Done}
use Rattle.oct_file_tasks.proofs.PairTexts.{some_table}
use Rattle.oct_file_tasks.proofs.merging.answer_table.Goals as goal

pub returns-in-Ok-clause-ends : goal.returns-in-Ok-clause-ends
returns-in-Ok-clause-ends g c =
    rw (sym (c.in-Ok.ensures ∙ ap (λ res. box_between res c.args.lo c.args.hi) c.res.ensures))
    (c.send.ensures.ends
    (record { text = table_text c.args.pair.now c.in-Ok.window; status = Done })
    c.table_of.ensures (some_table c.args.pair.now c.in-Ok.window) refl)

pub returns-in-Err-clause-ends : goal.returns-in-Err-clause-ends
returns-in-Err-clause-ends g c =
    rw (sym c.res.ensures, sym c.in-Err.ensures) c.send_refusal.ensures.ends
