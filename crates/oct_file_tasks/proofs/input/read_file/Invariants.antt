use Rattle.std.proofs.Common.{◌≡◌, ◌-◌, ◌≤◌}
use Rattle.oct_file_tasks.specs.Input.{HasFed}
use Rattle.oct_file_tasks.proofs.input.read_file.Given as goal

abbrev pub invariant-reading : goal.invariant-reading
invariant-reading g l = record {
  few : l.taken ≤ l.max_bytes;
  fed : HasFed l.reader l.taken (g.S.Source.left l.fn.source) (g.S.Source.left l.source);
  read : g.S.Source.faults l.source ≡ g.S.Source.faults l.fn.source;
  ends : g.S.Source.ends l.source ≡ g.S.Source.ends l.fn.source;
}

abbrev pub decreases-reading : goal.decreases-reading
decreases-reading g l = l.max_bytes - l.taken
