use Rattle.oct_export.proofs.Orders.{boxes_rise}
use Rattle.oct_export.proofs.laws.boxes_rise.Goals as goal

pub returns : goal.returns
returns c = boxes_rise
