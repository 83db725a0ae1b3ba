use Rattle.std.proofs.Common.{◌≡◌, ◌-◌, length, take}
use Rattle.oct_map.specs.Edits.{IsSureOf}
use Rattle.oct_session.specs.Ahead.{HasEdited}
use Rattle.oct_session.proofs.ahead.do_edits.Given as goal

abbrev pub invariant-loop-edit : goal.invariant-loop-edit
invariant-loop-edit l = record {
  edited : HasEdited l.fn.map l.map (take l.edit-index l.edits);
  sure : IsSureOf l.map (length l.edits - l.edit-index);
  res : l.map.tree.res ≡ l.fn.map.tree.res;
}
