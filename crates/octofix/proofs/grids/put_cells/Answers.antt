use Rattle.std.proofs.Common.{◌≡◌, ◌∙◌, nat_lt, true, length, refl, sym, arith}
use Rattle.std.proofs.lemmas.Bool.{lt-ltb}
use Rattle.oct_export.specs.Grids.{cells_of}
use Rattle.oct_export.proofs.GridRows.{cells_length}
use Rattle.oct_tree.specs.Classes.{classes_in}
use Rattle.octofix.proofs.grids.put_cells.Goals as goal

pub returns-then-cells-total-clause-count : goal.returns-then-cells-total-clause-count
returns-then-cells-total-clause-count c =
    c.column_count-total.ensures
    ∙ sym (cells_length (classes_in c.args.tree.now) c.args.low c.args.high)

pub returns-then-cells-total-clause-code : goal.returns-then-cells-total-clause-code
returns-then-cells-total-clause-code c =
    let cells = cells_of (classes_in c.args.tree.now) c.args.low c.args.high in
    let many = cells_length (classes_in c.args.tree.now) c.args.low c.args.high in
    let total = c.column_count-total.ensures in
    let short = c.if-cells-total.true in
    let full : nat_lt (length c.args.cells.now) (length cells) ≡ true =
    lt-ltb (length c.args.cells.now) (length cells) (omega (arith, many, total, short)) in
    sym (rw full refl)

pub returns-then-cells-total-clause-cells : goal.returns-then-cells-total-clause-cells
returns-then-cells-total-clause-cells c =
    let cells = cells_of (classes_in c.args.tree.now) c.args.low c.args.high in
    let many = cells_length (classes_in c.args.tree.now) c.args.low c.args.high in
    let total = c.column_count-total.ensures in
    let short = c.if-cells-total.true in
    let full : nat_lt (length c.args.cells.now) (length cells) ≡ true =
    lt-ltb (length c.args.cells.now) (length cells) (omega (arith, many, total, short)) in
    sym (rw full refl)
