use Rattle.oct_promise.proofs.ScansDone.{scan_counts, scan_lists}
use Rattle.oct_promise.proofs.laws.scans_are_counted.Goals as goal

pub returns-clause-listed : goal.returns-clause-listed
returns-clause-listed c = scan_lists _ c.keep.ensures.set_up

pub returns-clause-counted : goal.returns-clause-counted
returns-clause-counted c = scan_counts _ c.keep.ensures.set_up
