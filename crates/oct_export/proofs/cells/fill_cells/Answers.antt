use Rattle.std.proofs.Common.{◌+◌, refl, arith}
use Rattle.oct_tree.specs.Classes.{classes_in}
use Rattle.oct_export.proofs.GridRows.{row_put, rows_begun, rows_full}
use Rattle.oct_export.proofs.cells.fill_cells.Goals as goal

pub loop-n-init : goal.loop-n-init
loop-n-init c = record {
  long = c.requires.room;
  front = rows_begun (classes_in c.args.tree.now) c.args.lo c.args.hi 0 _ c.args.cells.now refl;
}

pub loop-n-preserved : goal.loop-n-preserved
loop-n-preserved c =
    let ox = c.requires.order.x in let oy = c.requires.order.y in
    let width = c.from-width.ensures in let height = c.from-height.ensures in
    let below = c.loop-n-test.true in
    let step = row_put (classes_in c.args.tree.now) c.args.lo c.args.hi c.loop-n.n
    (c.from-width.result + 1) c.loop-n.cells c.fill_row.new.row (omega (arith, ox, width))
    (omega (arith, oy, height, below)) c.loop-n.invariant.long c.fill_row.ensures
    c.loop-n.invariant.front in
    record { long = step.0; front = step.1 }

pub returns : goal.returns
returns c =
    rows_full (classes_in c.args.tree.now) c.args.lo c.args.hi c.loop-n.n c.loop-n.cells
    c.loop-n.invariant.long (omega arith) c.loop-n.invariant.front
