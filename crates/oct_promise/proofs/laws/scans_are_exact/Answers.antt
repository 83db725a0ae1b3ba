use Rattle.oct_promise.proofs.ScansDone.{scan_ends}
use Rattle.oct_promise.proofs.laws.scans_are_exact.Goals as goal

pub returns : goal.returns
returns c = scan_ends _ c.keep.ensures.set_up
