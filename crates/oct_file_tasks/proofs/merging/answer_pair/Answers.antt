use Rattle.std.proofs.Common.{inl, refl}
use Rattle.oct_file_tasks.specs.OverStore.{merged_text}
use Rattle.oct_io.specs.declared.status.Status.TheVariants.{Done}
use Rattle.oct_file_tasks.proofs.OverFile.{sent_ends}
use Rattle.oct_file_tasks.proofs.merging.answer_pair.Goals as goal

pub returns-in-Merge-clause-ends : goal.returns-in-Merge-clause-ends
returns-in-Merge-clause-ends g c = rw c.in-Merge.is
    (sent_ends c.write_merged.result _ (merged_text c.in-Merge.rule c.args.pair.now) Done _ _ _
    (inl refl) refl refl c.status_written.ensures c.write_merged.ensures.sends)

pub returns-in-Table-clause-ends : goal.returns-in-Table-clause-ends
returns-in-Table-clause-ends g c = rw c.in-Table.is c.answer_table.ensures.ends
