use Rattle.std.proofs.Common.{◌-◌}
use Rattle.std.specs.Vec.{vec_len}
use Rattle.oct_scan.proofs.Tabled.{none_dense}
use Rattle.oct_scan.proofs.table.BrickTable.dense.Goals as goal

pub returns : goal.returns
returns c =
    none_dense c.new.result c.new-places.result.items c.resize.new.self.items 131072
    (131072 - vec_len c.new-places.result) c.around.result
    c.new.ensures c.new-places.ensures.items c.in_ok-resize.ensures.items c.around.ensures.scanned
