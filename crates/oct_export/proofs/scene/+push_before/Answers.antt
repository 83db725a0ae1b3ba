use Rattle.std.proofs.Common.{rules, ◌%◌, ◌^◌, ◌++◌, ℕ, List, length, refl, sym, ap, ◌∙◌}
use Rattle.oct_num.proofs.Results.{on_any_err}
use Rattle.oct_key.specs.Block.{Cube, parent_of}
use Rattle.oct_key.specs.CubeOf.{cube_of}
use Rattle.oct_export.specs.BoxTexts.{box_line}
use Rattle.oct_export.proofs.Pushes.{pushed_start, pushed_more, second_cut, pushed_as, first_cut}
use Rattle.oct_export.proofs.Walks.{before_none, before_child_of, before_start, before_next}
use Rattle.oct_export.proofs.Walks.{before_whole, above_cut, before_cut, bytes_more}
use Rattle.oct_export.proofs.scene.+push_before.Goals as goal

pub returns-then-levels-eq0-clause-bytes : goal.returns-then-levels-eq0-clause-bytes
returns-then-levels-eq0-clause-bytes g t c =
    sym (ap (λ (l : List ℕ). length l % 2 ^ 64)
    (before_none c.args.res c.args.levels (cube_of c.args.block) (search rules)))

pub returns-then-levels-eq0-clause-pushed : goal.returns-then-levels-eq0-clause-pushed
returns-then-levels-eq0-clause-pushed g t c =
    pushed_start _ _ _ (before_none c.args.res c.args.levels (cube_of c.args.block) (search rules))

pub push_before-requires : goal.push_before-requires
unfolding parent_of
push_before-requires g t c κs within =
    let deep = ap (λ (b : Cube). b.depth) c.parent-parent.ensures.exact in
    (search rules, (within, search rules))

pub returns-in_err-bytes-clause-cut : goal.returns-in_err-bytes-clause-cut
returns-in_err-bytes-clause-cut g t c =
    let (rest, is) = above_cut c.args.res c.args.levels (cube_of c.args.block)
    (cube_of c.parent-parent.result) (search rules) c.parent-parent.ensures.exact in
    on_any_err c.from_residual.result _ (first_cut _ rest _ _ _ _ c.in_err-bytes.ensures.cut is)

pub loop-i-init : goal.loop-i-init
loop-i-init g t c = record {
  bytes = c.in_ok-bytes.ensures.bytes ∙ ap (λ (l : List ℕ). length l % 2 ^ 64)
      (before_start c.args.res c.args.levels (cube_of c.parent-parent.result) 0 refl);
  pushed = pushed_as _ _ _ _ _ _ c.in_ok-bytes.ensures.pushed
      (before_start c.args.res c.args.levels (cube_of c.parent-parent.result) 0 refl);
  faults = c.in_ok-bytes.ensures.counts.stays.0;
  shortages = c.in_ok-bytes.ensures.counts.stays.1;
}

pub child-requires-clause-depth : goal.child-requires-clause-depth
unfolding parent_of
child-requires-clause-depth g t c =
    let deep = ap (λ (b : Cube). b.depth) c.parent-parent.ensures.exact in
    search rules

pub returns-in_err-line-clause-cut : goal.returns-in_err-line-clause-cut
returns-in_err-line-clause-cut g t c =
    let (rest, is) = before_cut c.args.res c.args.levels (cube_of c.args.block)
    (cube_of c.parent-parent.result) c.loop-i.i (search rules) c.parent-parent.ensures.exact
    (search rules) in
    on_any_err c.from_residual-in_err-line.result _
    (second_cut
    (before_child_of c.args.res c.args.levels (cube_of c.parent-parent.result) c.loop-i.i)
    (box_line c.args.res (cube_of c.child.result)) rest _ _ _ _ _ _
    c.loop-i.invariant.pushed c.in_err-line.ensures.cut
    (ap (λ (b : Cube). before_child_of c.args.res c.args.levels (cube_of c.parent-parent.result)
    c.loop-i.i ++ (box_line c.args.res b ++ rest)) c.child.ensures.exact ∙ is))

pub loop-i-preserved : goal.loop-i-preserved
loop-i-preserved g t c =
    let next = ap
    (λ (b : Cube). before_child_of c.args.res c.args.levels (cube_of c.parent-parent.result)
    c.loop-i.i ++ box_line c.args.res b) c.child.ensures.exact
    ∙ before_next c.args.res c.args.levels (cube_of c.parent-parent.result) c.loop-i.i in
    record {
      bytes = bytes_more
          (before_child_of c.args.res c.args.levels (cube_of c.parent-parent.result) c.loop-i.i)
          (box_line c.args.res (cube_of c.child.result)) _ _ _
          c.loop-i.invariant.bytes c.in_ok-line.ensures.bytes next;
      pushed = pushed_more
          (before_child_of c.args.res c.args.levels (cube_of c.parent-parent.result) c.loop-i.i)
          (box_line c.args.res (cube_of c.child.result)) _ _ _ _ _ _ _
          c.loop-i.invariant.pushed c.in_ok-line.ensures.pushed next;
      faults = c.in_ok-line.ensures.counts.stays.0 ∙ c.loop-i.invariant.faults;
      shortages = c.in_ok-line.ensures.counts.stays.1 ∙ c.loop-i.invariant.shortages;
    }

pub returns-clause-bytes : goal.returns-clause-bytes
returns-clause-bytes g t c = c.loop-i.invariant.bytes ∙ ap (λ (l : List ℕ). length l % 2 ^ 64)
    (before_whole c.args.res c.args.levels (cube_of c.args.block)
    (cube_of c.parent-parent.result) c.loop-i.i (search rules) c.parent-parent.ensures.exact
    (search rules))

pub returns-clause-pushed : goal.returns-clause-pushed
returns-clause-pushed g t c = pushed_as _ _ _ _ _ _ c.loop-i.invariant.pushed
    (before_whole c.args.res c.args.levels (cube_of c.args.block)
    (cube_of c.parent-parent.result) c.loop-i.i (search rules) c.parent-parent.ensures.exact
    (search rules))
