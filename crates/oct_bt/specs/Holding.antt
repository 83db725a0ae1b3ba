-- What a reader's state says.
use Rattle.oct_bt.specs.declared.reader.State.{State}
use Rattle.oct_bt.specs.declared.reader.State.TheVariants.{InHead, AtFault, InBody, OutOfMemory}
use Rattle.oct_bt.specs.Reading.{FileProgress, Heading, Refused, Body, Spent}

-- what the reading of a file has come to
abbrev pub progress_of : State → FileProgress
progress_of (InHead head) = Heading head
progress_of (AtFault fault) = Refused fault
progress_of (InBody header nodes) =
    Body (record { res = header.res; size = nodes.size; start = nodes.start }) nodes.progress
progress_of OutOfMemory = Spent
