-- The counts of a source at the end of its input.
use Rattle.std.specs.Prelude.{◌⊎◌}
use Rattle.std.proofs.Common.{◌≡◌, ℕ, ◌+◌, ◌≤◌, List, Result, Ok, Err}
use Rattle.std.proofs.Common.{IsErrAnd, inl, inr, refl, sym, ◌∙◌, ap, subst}
use Rattle.oct_bt.specs.declared.fault.BtFault.{BtFault}
use Rattle.oct_bt.specs.declared.fault.BtFault.TheVariants as fault
use Rattle.oct_bt.specs.File.{reading}
use Rattle.oct_bt.proofs.NoWant.{reading_wants_nothing}
use Rattle.oct_file_tasks.specs.declared.input.NoFile.{NoFile}
use Rattle.oct_file_tasks.specs.declared.input.NoFile.TheVariants.{Memory}
use Rattle.oct_file_tasks.specs.Counts.{IsFileCounted}
use Rattle.oct_file_tasks.specs.Input.{IsBadFile, by_fault}

-- a reader's fault is out of memory, or that of a file
fault_kind : (e : BtFault) → (e ≡ fault.Memory) ⊎ IsBadFile (by_fault e)
fault_kind fault.Memory = inl refl
fault_kind fault.NotOctomap = inr tt
fault_kind fault.FloatTree = inr tt
fault_kind fault.WrongId = inr tt
fault_kind (fault.MissingField word) = inr tt
fault_kind (fault.BadField word) = inr tt
fault_kind fault.HeaderTooLong = inr tt
fault_kind (fault.TooDeep at) = inr tt
fault_kind (fault.Truncated at) = inr tt
fault_kind (fault.TrailingBytes at) = inr tt
fault_kind (fault.SizeMismatch said found) = inr tt

abbrev reason_of : {T : Type 0} → Result T NoFile → NoFile
reason_of (Ok x) = Memory
reason_of (Err reason) = reason

-- the counts where the reader refused what was read, which is never because memory ran out
pub end_counts : (T : Type 0) (r : Result T NoFile) (e : BtFault) (file : List ℕ)
    (failures failures_after ends ends_after : ℕ) → IsErrAnd r (λ stop. stop ≡ by_fault e)
    → Err e ≡ reading file → failures_after ≡ failures → ends_after ≤ ends + 1
    → IsFileCounted r failures failures_after ends ends_after
end_counts T (Ok x) e file failures failures_after ends ends_after is told same few = absurd is
end_counts T (Err stop) e file failures failures_after ends ends_after is told same few =
    by (fault_kind e)
  where
    by : (e ≡ fault.Memory) ⊎ IsBadFile (by_fault e)
        → IsFileCounted {T = T} (Err stop) failures failures_after ends ends_after
    by (inl want) = absurd (reading_wants_nothing file
        (subst (λ (e : BtFault). Err e ≡ reading file) want told))
    by (inr bad) = record {
      read_fault = λ faulty. absurd (subst IsBadFile (sym is ∙ ap reason_of faulty) bad);
      no_read_fault = λ other. same;
      few_ends = few;
      unended = λ want. absurd (subst IsBadFile (sym is ∙ ap reason_of want) bad);
    }
