use Rattle.std.proofs.Common.{length, refl, ap, rules, arith}
use Rattle.oct_key.specs.Block.{Cube}
use Rattle.oct_key.specs.CubeOf.{cube_of}
use Rattle.oct_key.proofs.Blocks.{depth_child_of}
use Rattle.oct_frontier.proofs.Walks.{count_start, count_step, count_over, count_end}
use Rattle.oct_frontier.proofs.walk.+count_under.Goals as goal
use Rattle.oct_frontier.proofs.walk.+count_under.Goals.{in-Pass, in-Take+in_ok-left-in-Take}
use Rattle.oct_frontier.proofs.walk.+count_under.Goals.{in-Enter+in_ok-left-in-Enter}

pub loop-i-init : goal.loop-i-init
loop-i-init t c = count_start c.args.tree.now c.args.lo c.args.hi (cube_of c.args.patch.now.block)
    c.args.room

pub returns-in_err-left-in-Take-clause-more : goal.returns-in_err-left-in-Take-clause-more
returns-in_err-left-in-Take-clause-more t c = λ _.
    let one = ap length c.in-Take.ensures in
    let none = c.in_err-left-in-Take.ensures in
    count_over c.args.tree.now c.args.lo c.args.hi (cube_of c.args.patch.now.block) _ c.loop-i.i
    c.args.room c.loop-i.left
    c.requires.depth (omega arith) c.loop-i.invariant refl (omega (arith, one, none))

pub count_under-requires : goal.count_under-requires
count_under-requires t c =
    let same = ap (λ (b : Cube). b.depth) c.child.ensures.block in
    let deep = depth_child_of (cube_of c.args.patch.now.block) c.loop-i.i in
    let low = c.in-Enter.ensures in
    let d = c.decreases in
    (search rules, (c.child.ensures.patch, (omega (arith, same, low), c.requires.order)))

pub returns-in_err-left-in-Enter-clause-more : goal.returns-in_err-left-in-Enter-clause-more
returns-in_err-left-in-Enter-clause-more t c = λ _.
    count_over c.args.tree.now c.args.lo c.args.hi (cube_of c.args.patch.now.block)
    (cube_of c.child.result.block)
    c.loop-i.i c.args.room c.loop-i.left c.requires.depth (omega arith) c.loop-i.invariant
    c.child.ensures.block (c.in_err-left-in-Enter.ensures.more refl)

pub loop-i-preserved : goal.loop-i-preserved
loop-i-preserved t c = elim c.match-look_at.branch [
  | in-Pass w ↦ (let none = ap length w.in-Pass.ensures in
      let left = w.left-is in
      count_step c.args.tree.now c.args.lo c.args.hi (cube_of c.args.patch.now.block) _ c.loop-i.i
      c.args.room
      c.loop-i.left c.match-look_at.left c.loop-i.invariant refl (omega (arith, none, left)))
  | in-Take+in_ok-left-in-Take w ↦ (let one = ap length w.in-Take.ensures in
      let less = w.in_ok-left-in-Take.ensures in
      let left = w.left-is in
      count_step c.args.tree.now c.args.lo c.args.hi (cube_of c.args.patch.now.block) _ c.loop-i.i
      c.args.room
      c.loop-i.left c.match-look_at.left c.loop-i.invariant refl (omega (arith, one, less, left)))
  | in-Enter+in_ok-left-in-Enter w ↦ (let counted = w.in_ok-left-in-Enter.ensures.counted in
      let left = w.left-is in
      count_step c.args.tree.now c.args.lo c.args.hi (cube_of c.args.patch.now.block)
      (cube_of w.child.result.block)
      c.loop-i.i c.args.room c.loop-i.left c.match-look_at.left c.loop-i.invariant
      w.child.ensures.block
      (omega (arith, counted, left)))
]

pub returns-clause-counted : goal.returns-clause-counted
returns-clause-counted t c =
    count_end c.args.tree.now c.args.lo c.args.hi (cube_of c.args.patch.now.block) c.loop-i.i
    c.args.room c.loop-i.left
    c.requires.depth (omega (arith, c.loop-i-test.false, c.loop-i.auto.i-end)) c.loop-i.invariant
