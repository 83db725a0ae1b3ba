use Rattle.std.proofs.Common.{◌+◌, ◌-◌, ◌*◌, ◌++◌, [], ℕ, ap, ◌∙◌, arith, append-nil}
use Rattle.oct_num.proofs.Results.{on_any_err}
use Rattle.oct_tree.specs.Classes.{classes_in}
use Rattle.oct_export.specs.Grids.{rows_of}
use Rattle.oct_export.proofs.Pushes.{pushed_piece, pushed_more, second_cut, first_cut}
use Rattle.oct_export.proofs.Pushes.{cut_of_none, pushed_whole, pushed_cut}
use Rattle.oct_export.proofs.Rows.{pgm_parts, pgm_length, head_as}
use Rattle.oct_export.proofs.grid.pgm.Goals as goal

pub returns-in_err-push-clause-cut : goal.returns-in_err-push-clause-cut
returns-in_err-push-clause-cut g c =
    let ox = c.requires.order.x in let oy = c.requires.order.y in
    on_any_err c.from_residual.result _ (cut_of_none _ _ _ _ c.new-gather.ensures
    (first_cut c.as_bytes.result.now
    (rows_of (classes_in c.args.tree.now) c.args.lo c.args.hi (c.args.hi.y + 1 - c.args.lo.y)) _
    _ _ _ c.in_err-push.ensures.cut
    (pgm_parts (classes_in c.args.tree.now) c.args.lo c.args.hi c.as_bytes.result.now _ _
    (c.as_bytes.ensures.value ∙ c.deref.ensures.0 ∙ c.head_of-head.ensures)
    (omega (arith, ox)) (omega (arith, oy)))))

pub returns-in_err-push_rows-clause-cut : goal.returns-in_err-push_rows-clause-cut
returns-in_err-push_rows-clause-cut g c =
    let ox = c.requires.order.x in let oy = c.requires.order.y in
    on_any_err c.from_residual-in_err-push_rows.result _ (cut_of_none _ _ _ _ c.new-gather.ensures
    (second_cut c.as_bytes.result.now
    (rows_of (classes_in c.args.tree.now) c.args.lo c.args.hi (c.args.hi.y + 1 - c.args.lo.y))
    [] _ _ _ _ _ _
    (pushed_piece c.as_bytes.result.now c.new-gather.result _ _ _ _ c.in_ok-push.ensures.handed
    c.in_ok-push.ensures.held) c.in_err-push_rows.ensures.cut
    (ap (λ l. c.as_bytes.result.now ++ l)
    (append-nil (rows_of (classes_in c.args.tree.now) c.args.lo c.args.hi
    (c.args.hi.y + 1 - c.args.lo.y)))
    ∙ pgm_parts (classes_in c.args.tree.now) c.args.lo c.args.hi c.as_bytes.result.now _ _
    (c.as_bytes.ensures.value ∙ c.deref.ensures.0 ∙ c.head_of-head.ensures)
    (omega (arith, ox)) (omega (arith, oy)))))

pub returns-in_err-flush-clause-cut : goal.returns-in_err-flush-clause-cut
returns-in_err-flush-clause-cut g c =
    let ox = c.requires.order.x in let oy = c.requires.order.y in
    on_any_err c.from_residual-in_err-flush.result _ (pushed_cut _ _ _ _ _ _
    (pushed_more c.as_bytes.result.now
    (rows_of (classes_in c.args.tree.now) c.args.lo c.args.hi (c.args.hi.y + 1 - c.args.lo.y)) _
    _ _ _ _ _ _
    (pushed_piece c.as_bytes.result.now c.new-gather.result _ _ _ _ c.in_ok-push.ensures.handed
    c.in_ok-push.ensures.held) c.in_ok-push_rows.ensures.pushed
    (pgm_parts (classes_in c.args.tree.now) c.args.lo c.args.hi c.as_bytes.result.now _ _
    (c.as_bytes.ensures.value ∙ c.deref.ensures.0 ∙ c.head_of-head.ensures)
    (omega (arith, ox)) (omega (arith, oy)))) c.new-gather.ensures
    c.in_err-flush.ensures.err)

pub returns-clause-written : goal.returns-clause-written
returns-clause-written g c =
    let ox = c.requires.order.x in let oy = c.requires.order.y in
    pushed_whole _ _ _ _ _ _
    (pushed_more c.as_bytes.result.now
    (rows_of (classes_in c.args.tree.now) c.args.lo c.args.hi (c.args.hi.y + 1 - c.args.lo.y)) _
    _ _ _ _ _ _
    (pushed_piece c.as_bytes.result.now c.new-gather.result _ _ _ _ c.in_ok-push.ensures.handed
    c.in_ok-push.ensures.held) c.in_ok-push_rows.ensures.pushed
    (pgm_parts (classes_in c.args.tree.now) c.args.lo c.args.hi c.as_bytes.result.now _ _
    (c.as_bytes.ensures.value ∙ c.deref.ensures.0 ∙ c.head_of-head.ensures)
    (omega (arith, ox)) (omega (arith, oy)))) c.new-gather.ensures c.in_ok-flush.ensures.ok

pub returns-clause-length : goal.returns-clause-length
returns-clause-length g c =
    let ox = c.requires.order.x in let oy = c.requires.order.y in
    ap (λ (n : ℕ). n + c.from.result * c.from-2.result) c.len.ensures.value
    ∙ pgm_length (classes_in c.args.tree.now) c.args.lo c.args.hi c.head_of-head.result.bytes
    c.from.result c.from-2.result
    (head_as c.head_of-head.result.bytes _ _ c.from.result c.from-2.result c.head_of-head.ensures
    c.from.ensures c.from-2.ensures)
    (omega (arith, ox)) (omega (arith, oy))
