-- How a reply ends, by what was written of it, and a task over a file that ends by one.
use Rattle.std.proofs.Common.{◌≡◌, ℕ, List, Option, Result, Ok, Err, OnOk, OnErr}
use Rattle.std.proofs.Common.{inl, inr, sym, ◌∙◌, ap, subst}
use Rattle.oct_io.specs.declared.sink.SinkFault.{SinkFault}
use Rattle.oct_io.specs.declared.sink.SinkFault.TheVariants as sink
use Rattle.oct_io.specs.Taken.{IsCutOff}
use Rattle.oct_io.specs.Told.{appended}
use Rattle.oct_file_tasks.specs.Ending.{EndsOverFile, Sends}
use Rattle.oct_file_tasks.specs.Input.{IsReadToEnd}
use Rattle.oct_io.specs.Stops.{status_written}
use Rattle.oct_io.specs.declared.status.Status.{Status}
use Rattle.oct_io.specs.declared.status.Status.TheVariants.{Done, Refused, Usage, BadFile}
use Rattle.oct_io.specs.declared.status.Status.TheVariants.{TooLong, ReadFault, WriteFault}
use Rattle.oct_io.specs.declared.status.Status.TheVariants.{Memory, StoreFault}
use Rattle.oct_io.specs.Answer.{Answer, EndsUnread}
use Rattle.oct_file_tasks.specs.OverFile.{IsSettled}

-- a reply whose text was written, or not whole
pub reply_ends : {T : Type 0} (r : Result T SinkFault) (whole : Answer) (text : List ℕ)
    (status end : Status) (old new : Option (List ℕ)) → IsSettled status → text ≡ whole.text
    → status ≡ whole.status → end ≡ status_written status r → OnOk r (new ≡ appended old text)
    → OnErr r (IsCutOff old new text) → EndsUnread whole old new end
reply_ends (Ok t) whole text status end old new (inl done) is same ends ok err =
    rw (ends ∙ done) (record { written = ok ∙ ap (appended old) is; same_status = sym same ∙ done })
reply_ends (Ok t) whole text status end old new (inr refused) is same ends ok err =
    rw (ends ∙ refused)
    (record { written = ok ∙ ap (appended old) is; same_status = sym same ∙ refused })
reply_ends (Err sink.Failed) whole text status end old new settled is same ends ok err =
    rw ends (subst (IsCutOff old new) is err)
reply_ends (Err sink.Memory) whole text status end old new settled is same ends ok err =
    rw ends (subst (IsCutOff old new) is err)

-- the same, in one clause of what was sent
pub sent_ends : {T : Type 0} (r : Result T SinkFault) (whole : Answer) (text : List ℕ)
    (status end : Status) (old new : Option (List ℕ)) → IsSettled status → text ≡ whole.text
    → status ≡ whole.status → end ≡ status_written status r → Sends text old new r
    → EndsUnread whole old new end
sent_ends (Ok t) whole text status end old new settled is same ends sends =
    reply_ends (Ok t) whole text status end old new settled is same ends sends tt
sent_ends {T = T} (Err fault) whole text status end old new settled is same ends sends =
    reply_ends {T = T} (Err fault) whole text status end old new settled is same ends tt sends

-- the end of a task whose input was read to its end
pub over_file : (whole : Answer) (most : ℕ) (bytes : List ℕ) (left old new : Option (List ℕ))
    (end : Status) → EndsUnread whole old new end → IsReadToEnd most bytes left
    → EndsOverFile whole most bytes left old new end
over_file whole most bytes left old new Done ends to_end = (ends, to_end)
over_file whole most bytes left old new Refused ends to_end = (ends, to_end)
over_file whole most bytes left old new Usage ends to_end = ends
over_file whole most bytes left old new BadFile ends to_end = absurd ends
over_file whole most bytes left old new TooLong ends to_end = absurd ends
over_file whole most bytes left old new ReadFault ends to_end = absurd ends
over_file whole most bytes left old new WriteFault ends to_end =
    record { cut = ends; input = to_end }
over_file whole most bytes left old new Memory ends to_end =
    inr (record { cut = ends; input = to_end })
over_file whole most bytes left old new StoreFault ends to_end = ends
