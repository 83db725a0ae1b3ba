use Rattle.std.proofs.Common.{refl, ◌∙◌, arith}
use Rattle.oct_change.proofs.Boxes.{below_start, plane_step}
use Rattle.oct_change.proofs.changes.Changes.note_plane.Goals as goal

pub loop-y-init : goal.loop-y-init
loop-y-init c = (
  below_start _ _ c.args.lo.y c.from-y.result _ _ _ c.from-y.ensures
      (λ k (ex, from, to, low, high). (let start = c.from-y.ensures in omega (arith, start))),
  (let order = c.requires.order.y in let start = c.from-y.ensures in omega (arith, start, order)),
  refl,
)

pub loop-y-preserved : goal.loop-y-preserved
loop-y-preserved c =
    let test = c.loop-y-test.true in
    let end = c.from-y-end.ensures in (
      plane_step _ c.args.x c.loop-y.y _ c.args.lo c.args.hi _ _ _ _ _ _ c.loop-y.invariant.0
          c.note_row.ensures.noted c.note_row.ensures.spare,
      omega (arith, test, end),
      c.note_row.ensures.room ∙ c.loop-y.invariant.2,
    )
