use Rattle.std.proofs.Common.{rules, arith}
use Rattle.oct_key.specs.CubeOf.{cube_of}
use Rattle.oct_tree.specs.Classes.{classes_in}
use Rattle.oct_export.proofs.Columns.{shown_start, held_right, held_top, strip_more, strip_occupied}
use Rattle.oct_export.proofs.Columns.{strip_whole}
use Rattle.oct_export.proofs.strip.strip_at.Goals as goal

pub loop-z-init : goal.loop-z-init
loop-z-init c = record {
  low = search rules;
  high = search rules;
  reach = search rules;
  class = λ n low high. shown_start (classes_in c.args.tree.now) n c.args.y c.args.lo _
      (omega arith);
}

pub returns-then-is_occupied : goal.returns-then-is_occupied
returns-then-is_occupied c = record {
  reach = held_right (cube_of c.patch_at-patch.result.block) c.args.x c.args.y c.loop-z.z
      c.last_number-right.result c.patch_at-patch.ensures.holds c.last_number-right.ensures;
  class = strip_occupied (classes_in c.args.tree.now)
      (cube_of c.patch_at-patch.result.block) c.args.lo c.args.hi c.args.x c.args.y c.loop-z.z
      c.last_number-right.result
      c.patch_at-patch.result.class c.patch_at-patch.ensures.holds c.patch_at-patch.ensures.class
      (c.is_occupied.ensures.0 c.if-is_occupied.true)
      c.last_number-right.ensures c.loop-z.invariant.low (search rules);
}

pub loop-z-preserved : goal.loop-z-preserved
loop-z-preserved c =
    let right = held_right (cube_of c.patch_at-patch.result.block) c.args.x c.args.y c.loop-z.z
    c.last_number-right.result c.patch_at-patch.ensures.holds c.last_number-right.ensures in
    let top = held_top (cube_of c.patch_at-patch.result.block) c.args.x c.args.y c.loop-z.z
    c.last_number-top.result c.patch_at-patch.ensures.holds c.last_number-top.ensures in
    record {
      low = search rules;
      high = search rules;
      reach = search rules;
      class = λ n low high. strip_more (classes_in c.args.tree.now)
          (cube_of c.patch_at-patch.result.block) c.args.lo c.args.hi c.args.x c.args.y c.loop-z.z
          c.last_number-right.result c.last_number-top.result _ c.loop-z.last c.loop-z.class
          c.patch_at-patch.result.class c.stronger-class.result
          c.patch_at-patch.ensures.holds c.patch_at-patch.ensures.class c.last_number-right.ensures
          c.last_number-top.ensures
          c.loop-z.invariant.low (search rules) (search rules)
          (search rules) c.stronger-class.ensures c.loop-z.invariant.class n low (search rules)
          (search rules);
    }

pub returns : goal.returns
returns c = record {
  reach = c.loop-z.invariant.reach;
  class = strip_whole (classes_in c.args.tree.now) c.args.lo c.args.hi c.args.x c.args.y c.loop-z.z
      c.loop-z.last c.loop-z.class (omega arith) c.loop-z.invariant.class;
}
