use Rattle.std.proofs.Common.{refl, ◌∙◌}
use Rattle.oct_num.proofs.Results.{on_any_err}
use Rattle.oct_key.specs.CubeOf.{cube_of}
use Rattle.oct_export.specs.Boxes.{blocks_before}
use Rattle.oct_export.proofs.Pushes.{pushed_start, pushed_as, cut_as}
use Rattle.oct_export.proofs.Walks.{leaf_waits, leaf_tells}
use Rattle.oct_export.proofs.scene.push_leaf.Goals as goal

pub returns-then-full-clause-bytes : goal.returns-then-full-clause-bytes
returns-then-full-clause-bytes g c = rw c.if-full.true refl

pub returns-then-full-clause-pushed : goal.returns-then-full-clause-pushed
returns-then-full-clause-pushed g c =
    pushed_start _ _ _
    (leaf_waits c.args.res c.args.full (blocks_before c.args.levels (cube_of c.args.block))
    c.if-full.true)

pub returns-in_err-bytes-clause-cut : goal.returns-in_err-bytes-clause-cut
returns-in_err-bytes-clause-cut g c =
    on_any_err c.from_residual.result _
    (cut_as _ _ _ _ _ c.in_err-bytes.ensures.cut
    (leaf_tells c.args.res c.args.full (blocks_before c.args.levels (cube_of c.args.block))
    c.if-full.false))

pub returns-clause-bytes : goal.returns-clause-bytes
returns-clause-bytes g c = c.in_ok-bytes.ensures.bytes ∙ rw c.if-full.false refl

pub returns-clause-pushed : goal.returns-clause-pushed
returns-clause-pushed g c =
    pushed_as _ _ _ _ _ _ c.in_ok-bytes.ensures.pushed
    (leaf_tells c.args.res c.args.full (blocks_before c.args.levels (cube_of c.args.block))
    c.if-full.false)
