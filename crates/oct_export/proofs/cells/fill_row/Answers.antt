use Rattle.std.proofs.Common.{rules, ◌≡◌, ◌+◌, ◌-◌, ◌≤◌, ◌∙◌, SFits, w8, to_z, of_z, arith}
use Rattle.std.proofs.lemmas.Int.{to_z-of_z}
use Rattle.oct_tree.specs.Classes.{classes_in}
use Rattle.oct_export.proofs.GridRows.{row_begun, row_filled, row_full, run_length}
use Rattle.oct_export.proofs.cells.fill_row.Goals as goal

pub loop-x-init : goal.loop-x-init
loop-x-init c = record {
  low = search rules;
  high = search rules;
  long = c.requires.room;
  front = row_begun (classes_in c.args.tree.now) c.args.lo c.args.hi c.args.y _ c.args.row.now
      (omega arith);
}

pub loop-x-preserved : goal.loop-x-preserved
loop-x-preserved c =
    let fits : SFits w8 c.cell_of.result = search rules in
    record {
      low = search rules;
      high = search rules;
      long = run_length (c.loop-x.x - c.from-first.result)
          (c.from-next.result + 1 - c.from-first.result - (c.loop-x.x - c.from-first.result))
          c.loop-x.row c.fill.new.self (to_z w8 (of_z w8 c.cell_of.result)) (search rules)
          (c.fill.ensures.after (λ y is. is)) ∙ c.loop-x.invariant.long;
      front = row_filled (classes_in c.args.tree.now) c.args.lo c.args.hi c.args.y c.loop-x.x
          (c.from-next.result + 1) c.from-first.result c.loop-x.row c.fill.new.self
          (to_z w8 (of_z w8 c.cell_of.result)) c.strip_at-strip.result.class
          c.loop-x.invariant.low (search rules) (search rules) c.from-first.ensures
          c.loop-x.invariant.long (c.fill.ensures.after (λ y is. is))
          (to_z-of_z w8 c.cell_of.result fits ∙ c.cell_of.ensures)
          (λ m low high. c.strip_at-strip.ensures.class m low (search rules))
          c.loop-x.invariant.front;
    }

pub returns : goal.returns
returns c =
    row_full (classes_in c.args.tree.now) c.args.lo c.args.hi c.args.y (c.loop-x.x - c.args.lo.x)
    c.loop-x.row c.loop-x.invariant.long (omega arith) c.loop-x.invariant.front
