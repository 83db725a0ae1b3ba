use Rattle.std.proofs.Common.{refl, ◌∙◌}
use Rattle.std.proofs.lemmas.Result.{IfOk-weaker, on_err_weaker, on_ok_weaker}
use Rattle.oct_export.proofs.Pushes.{pushed_start, pushed_as, cut_as}
use Rattle.oct_key.specs.CubeOf.{cube_of}
use Rattle.oct_export.specs.BoxTexts.{box_line}
use Rattle.oct_export.proofs.Walks.{due_is, due_none}
use Rattle.oct_export.proofs.scene.push_due.Goals as goal

pub returns-then-is_box-clause-bytes : goal.returns-then-is_box-clause-bytes
returns-then-is_box-clause-bytes g c =
    IfOk-weaker c.push_box.result _ _ (λ x p. p ∙ rw c.if-is_box.true refl) c.push_box.ensures.bytes

pub returns-then-is_box-clause-pushed : goal.returns-then-is_box-clause-pushed
returns-then-is_box-clause-pushed g c =
    on_ok_weaker c.push_box.result
    (λ p. pushed_as _ _ _ _ _ _ p
    (due_is c.args.is_box (box_line c.args.res (cube_of c.args.block)) c.if-is_box.true))
    c.push_box.ensures.pushed

pub returns-then-is_box-clause-cut : goal.returns-then-is_box-clause-cut
returns-then-is_box-clause-cut g c =
    on_err_weaker c.push_box.result
    (λ p. cut_as _ _ _ _ _ p
    (due_is c.args.is_box (box_line c.args.res (cube_of c.args.block)) c.if-is_box.true))
    c.push_box.ensures.cut

pub returns-else-is_box-clause-bytes : goal.returns-else-is_box-clause-bytes
returns-else-is_box-clause-bytes g c = rw c.if-is_box.false refl

pub returns-else-is_box-clause-pushed : goal.returns-else-is_box-clause-pushed
returns-else-is_box-clause-pushed g c =
    pushed_start _ _ _
    (due_none c.args.is_box (box_line c.args.res (cube_of c.args.block)) c.if-is_box.false)
