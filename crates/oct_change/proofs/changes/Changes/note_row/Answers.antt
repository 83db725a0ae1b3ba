use Rattle.std.proofs.Common.{refl, ◌∙◌, arith}
use Rattle.oct_change.proofs.Boxes.{below_start, row_step}
use Rattle.oct_change.proofs.changes.Changes.note_row.Goals as goal

pub loop-z-init : goal.loop-z-init
loop-z-init c = (
  below_start _ _ c.args.low c.from-z.result 1 _ _ c.from-z.ensures
      (λ k (ex, ey, from, to). (let start = c.from-z.ensures in omega (arith, start))),
  (let start = c.from-z.ensures in omega (arith, start, c.requires.order)),
  refl,
)

pub loop-z-preserved : goal.loop-z-preserved
loop-z-preserved c =
    let test = c.loop-z-test.true in
    let end = c.from-z-end.ensures in (
      row_step _ c.args.x c.args.y c.args.low c.loop-z.z _ _ _ _ _ _ c.loop-z.invariant.0
          c.note_class.ensures.noted c.note_class.ensures.spare,
      omega (arith, test, end),
      c.note_class.ensures.room ∙ c.loop-z.invariant.2,
    )
