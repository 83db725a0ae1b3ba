use Rattle.std.proofs.Common.{◌≡◌, ◌+◌, ◌≤◌, ℕ, List, length, ◌∙◌, subst}
use Rattle.std.specs.Prelude.{IfOk, vec_capacity}
use Rattle.oct_bt.specs.Canonical.{canonical_data}
use Rattle.oct_bt.specs.DataClasses.{data_classes}
use Rattle.oct_join.specs.Merged.{merged_classes}
use Rattle.oct_join.proofs.joining.join_codes.Goals as goal

pub returns-clause-codes : goal.returns-clause-codes
returns-clause-codes c =
    subst (λ (t : List ℕ). IfOk c.join_records.result (λ records. records.items ≡ canonical_data
    (merged_classes c.args.rule (data_classes c.args.first.now.codes) (data_classes t))))
    (c.as_slice-second.ensures ∙ c.codes-2.ensures.codes)
    (subst (λ (t : List ℕ). IfOk c.join_records.result (λ records. records.items ≡ canonical_data
    (merged_classes c.args.rule (data_classes t) (data_classes c.as_slice-second.result.now))))
    (c.as_slice-first.ensures ∙ c.codes.ensures.codes) c.join_records.ensures.codes)

pub returns-clause-room : goal.returns-clause-room
returns-clause-room c =
    subst (λ (t : List ℕ). IfOk c.join_records.result (λ records. vec_capacity records
    ≤ length c.args.first.now.codes + length t))
    (c.as_slice-second.ensures ∙ c.codes-2.ensures.codes)
    (subst (λ (t : List ℕ). IfOk c.join_records.result (λ records. vec_capacity records
    ≤ length t + length c.as_slice-second.result.now))
    (c.as_slice-first.ensures ∙ c.codes.ensures.codes) c.join_records.ensures.room)
