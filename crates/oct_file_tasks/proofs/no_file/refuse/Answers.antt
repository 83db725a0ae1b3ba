use Rattle.oct_file_tasks.proofs.Ends.{fault_ends, long_ends}
use Rattle.oct_file_tasks.proofs.no_file.refuse.Goals as goal

pub returns-in-BadFile-clause-ends : goal.returns-in-BadFile-clause-ends
returns-in-BadFile-clause-ends g c = λ of_file most bytes left read.
    fault_ends c.write_refusal.result of_file c.args.reason c.in-BadFile.fault most bytes left _ _ _
    c.in-BadFile.is c.status_written.ensures read c.write_refusal.ensures.sends

pub returns-in-TooLong-clause-ends : goal.returns-in-TooLong-clause-ends
returns-in-TooLong-clause-ends g c =
    λ of_file most bytes left read.
    long_ends of_file c.args.reason most bytes left _ c.in-TooLong.is read
