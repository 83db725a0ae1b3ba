use Rattle.std.proofs.Common.{refl, ◌∙◌}
use Rattle.oct_change.proofs.Masks.{first_start, first_step, hits_room, frees_room, first_end}
use Rattle.oct_change.proofs.changes.Changes.note_bricks.Goals as goal

pub returns-clause-room : goal.returns-clause-room
returns-clause-room c = c.loop-brick.invariant.1

pub loop-brick-init : goal.loop-brick-init
loop-brick-init c = (first_start _ _ _ _, refl)

pub loop-brick-preserved : goal.loop-brick-preserved
loop-brick-preserved c = (
  first_step _ c.args.bricks.now c.loop-brick.brick-index _ _ _ _ _ _ _ _ _ _
      c.loop-brick-test.true c.frees.ensures.exact c.loop-brick.invariant.0
      c.note_mask.ensures.noted c.note_mask.ensures.spare c.note_mask-in-loop-brick.ensures.noted
      c.note_mask-in-loop-brick.ensures.spare,
  c.note_mask-in-loop-brick.ensures.room ∙ c.note_mask.ensures.room ∙ c.loop-brick.invariant.1,
)

pub returns-clause-noted : goal.returns-clause-noted
returns-clause-noted c =
    (first_end _ _ _ _ _ _ _ c.loop-brick-test.false c.loop-brick.invariant.0).0

pub returns-clause-spare : goal.returns-clause-spare
returns-clause-spare c =
    (first_end _ _ _ _ _ _ _ c.loop-brick-test.false c.loop-brick.invariant.0).1

pub note_mask-requires-clause-room : goal.note_mask-requires-clause-room
note_mask-requires-clause-room c =
    hits_room c.args.bricks.now c.loop-brick.brick-index _ _ _ c.loop-brick-test.true
    c.loop-brick.invariant.0.room c.requires.room

pub note_mask-requires-in-loop-brick-clause-room : goal.note_mask-requires-in-loop-brick-clause-room
note_mask-requires-in-loop-brick-clause-room c =
    frees_room c.args.bricks.now c.loop-brick.brick-index _ _ _ _ _ c.loop-brick-test.true
    c.loop-brick.invariant.0.room c.requires.room c.note_mask.ensures.spare c.frees.ensures.exact
