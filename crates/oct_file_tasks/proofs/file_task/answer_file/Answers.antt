use Rattle.std.proofs.Common.{inl, refl}
use Rattle.oct_io.specs.declared.status.Status.TheVariants.{Done}
use Rattle.oct_file_tasks.specs.Answers.{canonical_text, done_with, report}
use Rattle.oct_file_tasks.proofs.Canonicals.{some_report}
use Rattle.oct_file_tasks.proofs.OverFile.{sent_ends}
use Rattle.oct_file_tasks.proofs.file_task.answer_file.Goals as goal

pub returns-in-Convert-clause-ends : goal.returns-in-Convert-clause-ends
returns-in-Convert-clause-ends g c = rw c.in-Convert.is
    (sent_ends c.write_canonical.result _ (canonical_text c.args.file.now) Done _ _ _ (inl refl)
    refl refl c.status_written.ensures c.write_canonical.ensures.sends)

pub returns-in-Inspect-clause-ends : goal.returns-in-Inspect-clause-ends
returns-in-Inspect-clause-ends g c = rw c.in-Inspect.is
    (c.send.ensures.ends (done_with report c.args.file.now) c.report.ensures
    (some_report c.args.file.now) refl)

pub returns-in-Frontier-clause-ends : goal.returns-in-Frontier-clause-ends
returns-in-Frontier-clause-ends g c = rw c.in-Frontier.is c.list_frontier.ensures.ends

pub returns-in-Project-clause-ends : goal.returns-in-Project-clause-ends
returns-in-Project-clause-ends g c = rw c.in-Project.is c.project.ensures.ends

pub returns-in-Vrml-clause-ends : goal.returns-in-Vrml-clause-ends
returns-in-Vrml-clause-ends g c = rw c.in-Vrml.is c.draw_boxes.ensures.ends
