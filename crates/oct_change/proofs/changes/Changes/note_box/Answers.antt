use Rattle.std.proofs.Common.{refl, ◌∙◌, arith}
use Rattle.oct_change.proofs.Boxes.{below_start, box_step}
use Rattle.oct_change.proofs.changes.Changes.note_box.Goals as goal

pub loop-x-init : goal.loop-x-init
loop-x-init c = (
  below_start _ _ c.args.lo.x c.from-x.result _ _ _ c.from-x.ensures
      (λ k (inside, to). (let low = inside.x.0 in let start = c.from-x.ensures in omega
      (arith, low, to, start))),
  (let order = c.requires.order.x in let start = c.from-x.ensures in
      omega (arith, start, order)),
  refl,
)

pub loop-x-preserved : goal.loop-x-preserved
loop-x-preserved c =
    let test = c.loop-x-test.true in
    let end = c.from-x-end.ensures in (
      box_step _ c.loop-x.x _ c.args.lo c.args.hi _ _ _ _ _ _ (omega (arith, test, end))
          c.loop-x.invariant.0 c.note_plane.ensures.noted c.note_plane.ensures.spare,
      omega (arith, test, end),
      c.note_plane.ensures.room ∙ c.loop-x.invariant.2,
    )
