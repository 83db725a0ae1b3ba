-- That what a session has written is a prefix of its answer, however it ends.
use Rattle.std.proofs.Common.{ℕ, List, [], Option, sym, append-nil}
use Rattle.oct_io.specs.Answer.{Answer, IsAnswered, answer_of}
use Rattle.oct_io.specs.declared.status.Status.{Status}
use Rattle.oct_io.specs.declared.status.Status.TheVariants.{Done, Refused, Usage, BadFile}
use Rattle.oct_io.specs.declared.status.Status.TheVariants.{TooLong, ReadFault, WriteFault}
use Rattle.oct_io.specs.declared.status.Status.TheVariants.{Memory, StoreFault}
use Rattle.oct_io.specs.Files.{Files}
use Rattle.oct_io.specs.Taken.{IsBegun}
use Rattle.oct_session.specs.Ending.{MayEnd}
use Rattle.oct_session.specs.Session.{session}
use Rattle.oct_session.specs.Setup.{Setup}

-- the whole answer is a prefix of itself
whole_begun : (whole : Answer) (old new : Option (List ℕ)) (status : Status)
    → IsAnswered whole old new status → IsBegun whole.text old new
whole_begun whole old new status is = record {
  done = whole.text;
  rest = [];
  written = is.written;
  split = sym (append-nil whole.text);
}

pub begun : (o : Setup) (files : Option Files) (bytes : List ℕ) (left old new : Option (List ℕ))
    (status : Status) → MayEnd o files bytes left old new status
    → IsBegun (session o files bytes).text old new
begun o files bytes left old new Done ends =
    whole_begun (answer_of (session o files bytes)) old new Done ends.0
begun o files bytes left old new Refused ends =
    whole_begun (answer_of (session o files bytes)) old new Refused ends.0
begun o files bytes left old new Usage ends = absurd ends
begun o files bytes left old new BadFile ends = absurd ends
begun o files bytes left old new TooLong ends =
    whole_begun (answer_of (session o files bytes)) old new TooLong ends.0
begun o files bytes left old new ReadFault ends = ends.0
begun o files bytes left old new WriteFault ends = ends.0
begun o files bytes left old new Memory ends = ends.0
begun o files bytes left old new StoreFault ends = ends.0
