-- How a task over a file ends where there is none, and what was written of a text.
use Rattle.std.proofs.Common.{◌≡◌, ℕ, ◌+◌, ◌<◌, ◌≤◌, List, [], length, take, Option, Some}
use Rattle.std.proofs.Common.{None, IfSome, Result, Ok, Err, OnOk, OnErr, IsErr, inr, refl}
use Rattle.std.proofs.Common.{sym, ◌∙◌, ap, subst, arith}
use Rattle.std.proofs.lemmas.Bool.{lt-ltb, le-ltb, false≢true}
use Rattle.oct_io.specs.Answer.{Answer}
use Rattle.oct_io.specs.Stops.{status_written}
use Rattle.oct_io.specs.declared.status.Status.{Status}
use Rattle.oct_io.specs.declared.status.Status.TheVariants as status
use Rattle.oct_io.specs.declared.sink.SinkFault.{SinkFault}
use Rattle.oct_io.specs.declared.sink.SinkFault.TheVariants as sink
use Rattle.oct_io.specs.Taken.{HasTaken, IsCutOff}
use Rattle.oct_io.specs.Told.{appended}
use Rattle.oct_io.proofs.Appending.{appended_nil}
use Rattle.oct_bt.specs.declared.fault.BtFault.{BtFault}
use Rattle.oct_bt.specs.File.{FileRead, reading}
use Rattle.oct_file_tasks.specs.declared.input.NoFile.{NoFile}
use Rattle.oct_file_tasks.specs.declared.input.NoFile.TheVariants.{BadFile, TooLong}
use Rattle.oct_file_tasks.specs.Answers.{answer_to, task_answer, refusal_line}
use Rattle.oct_file_tasks.specs.Ending.{EndsOverFile, Sends}
use Rattle.oct_file_tasks.specs.Input.{MayRead, IsReadToEnd}

-- the answer to an input that isn't too long
pub answer_short : (of_file : FileRead → Answer) (most : ℕ) (bytes : List ℕ) → length bytes ≤ most
    → task_answer of_file most bytes ≡ answer_to of_file (reading bytes)
unfolding task_answer
answer_short of_file most bytes few = rw (le-ltb most (length bytes) few) refl

answer_long : (of_file : FileRead → Answer) (most : ℕ) (bytes : List ℕ) → most < length bytes
    → task_answer of_file most bytes ≡ record { text = []; status = status.TooLong }
unfolding task_answer
answer_long of_file most bytes more = rw (lt-ltb most (length bytes) more) refl

-- the line of a refusal that was written, or not whole, where the whole answer is that line
refused : {T : Type 0} (r : Result T SinkFault) (whole : Answer) (text : List ℕ)
    (most : ℕ) (bytes : List ℕ) (left old new : Option (List ℕ))
    → whole ≡ record { text = text; status = status.BadFile }
    → IsReadToEnd most bytes left → Sends text old new r
    → EndsOverFile whole most bytes left old new (status_written status.BadFile r)
refused (Ok t) whole text most bytes left old new is to_end sends = (
  record {
    written = sends ∙ ap (λ (a : Answer). appended old a.text) (sym is);
    same_status = ap (λ (a : Answer). a.status) is;
  },
  to_end,
)
refused (Err sink.Failed) whole text most bytes left old new is to_end sends =
    record {
      cut = subst (IsCutOff old new) (ap (λ (a : Answer). a.text) (sym is)) sends;
      input = to_end;
    }
refused (Err sink.Memory) whole text most bytes left old new is to_end sends =
    inr (record {
      cut = subst (IsCutOff old new) (ap (λ (a : Answer). a.text) (sym is)) sends;
      input = to_end;
    })

-- a task whose input isn't a file
pub fault_ends : {T : Type 0} (r : Result T SinkFault) (of_file : FileRead → Answer)
    (reason : NoFile) (fault : BtFault) (most : ℕ) (bytes : List ℕ)
    (left old new : Option (List ℕ)) (end : Status) → reason ≡ BadFile fault
    → end ≡ status_written status.BadFile r → MayRead most bytes left (Err reason)
    → Sends (refusal_line fault) old new r
    → EndsOverFile (task_answer of_file most bytes) most bytes left old new end
fault_ends r of_file reason fault most bytes left old new end is ends read sends =
    let (faulty, to_end) : MayRead most bytes left (Err (BadFile fault)) =
    subst (λ reason. MayRead most bytes left (Err reason)) is read in
    subst (EndsOverFile (task_answer of_file most bytes) most bytes left old new) (sym ends)
    (refused r (task_answer of_file most bytes) (refusal_line fault) most bytes left old new
    (answer_short of_file most bytes to_end.few ∙ ap (answer_to of_file) faulty) to_end sends)

-- a task whose input is too long
pub long_ends : (of_file : FileRead → Answer) (reason : NoFile) (most : ℕ) (bytes : List ℕ)
    (left old : Option (List ℕ)) → reason ≡ TooLong
    → MayRead most bytes left (Err reason)
    → EndsOverFile (task_answer of_file most bytes) most bytes left old old status.TooLong
long_ends of_file reason most bytes left old reason_is read =
    let taken : HasTaken (most + 1) bytes left =
    subst (λ reason. MayRead most bytes left (Err reason)) reason_is read in
    let within = taken.within in
    let is = answer_long of_file most bytes (omega (arith, within)) in (
      record {
        written = appended_nil old ∙ ap (λ (a : Answer). appended old a.text) (sym is);
        same_status =
            ap (λ (a : Answer). a.status) is;
      },
      refl,
      taken,
    )

-- what a task answers to a reason for which there is no file
pub reason_ends : (first left old new : Option (List ℕ)) (reason : NoFile)
    (of_file : FileRead → Answer) (most : ℕ) (end : Status)
    → ((bytes : List ℕ) → MayRead most bytes left (Err reason)
    → EndsOverFile (task_answer of_file most bytes) most bytes left old new end)
    → IfSome first (λ bytes. MayRead most bytes left (Err reason))
    → IfSome first (λ bytes. EndsOverFile (task_answer of_file most bytes) most bytes left old new
    end)
reason_ends None left old new reason of_file most end by read = tt
reason_ends (Some bytes) left old new reason of_file most end by read = by bytes read

-- ---- writing

-- of a text that isn't empty nothing was written
pub cut_none : (text : List ℕ) (old : Option (List ℕ)) → 0 < length text → IsCutOff old old text
cut_none text old some = (0, some, appended_nil old)

-- an error before anything of it was
pub sends_none : {T : Type 0} (r : Result T SinkFault) (text : List ℕ) (old : Option (List ℕ))
    → IsErr r → 0 < length text → Sends text old old r
sends_none (Ok t) text old err some = absurd (false≢true err)
sends_none (Err fault) text old err some = cut_none text old some

-- a whole piece that was written, or its first bytes
pub sends_piece : {T : Type 0} (r : Result T SinkFault) (text piece : List ℕ)
    (old new : Option (List ℕ)) → piece ≡ text
    → OnOk r (new ≡ appended old piece)
    → OnErr r ((n : ℕ) × (n < length piece) × (new ≡ appended old (take n piece)))
    → Sends text old new r
sends_piece (Ok t) text piece old new is done part = done ∙ ap (appended old) is
sends_piece (Err fault) text piece old new is done part = subst (IsCutOff old new) is part

-- an error after the first bytes of a text
pub sends_part : {T : Type 0} (r : Result T SinkFault) (text piece : List ℕ)
    (old new : Option (List ℕ)) → IsErr r → piece ≡ text → IsCutOff old new piece
    → Sends text old new r
sends_part (Ok t) text piece old new err is cut = absurd (false≢true err)
sends_part (Err fault) text piece old new err is cut = subst (IsCutOff old new) is cut
