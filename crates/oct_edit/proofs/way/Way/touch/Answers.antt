use Rattle.std.proofs.Common.{rules, ◌≡◌, ◌∙◌, ◌+◌, ◌-◌, sym, ap, subst, arith, Some}
use Rattle.std.specs.Prelude.{IsSome}
use Rattle.oct_key.specs.Voxel.{IsInMap}
use Rattle.oct_key.specs.Block.{block_of}
use Rattle.oct_key.proofs.Nested.{lies_in_self}
use Rattle.oct_arena.specs.Nodes.{link_of}
use Rattle.oct_tree.specs.Tree.{IsPlace, node_in, block_in}
use Rattle.oct_values.specs.Events.{event_at}
use Rattle.oct_edit.specs.Steps.{IsTouched}
use Rattle.oct_edit.specs.Way.{place_on, KeepsGreatest}
use Rattle.oct_edit.proofs.Frames.{place_after}
use Rattle.oct_edit.proofs.Ways.{back_above, climbed_above, kept_above, done_above}
use Rattle.oct_edit.proofs.way.Way.touch.Goals as goal

pub touch_under-requires-clause-end : goal.touch_under-requires-clause-end
touch_under-requires-clause-end c =
    let at = c.requires.way.way.at c.args.self.now.depth (omega arith) in
    record {
      place = subst (IsPlace c.args.tree.now) (sym c.place-p.ensures) at.0;
      block = ap (block_in c.args.tree.now) c.place-p.ensures ∙ at.1;
      node = c.requires.node ∙ ap (node_in c.args.tree.now) (sym c.place-p.ensures);
      plain =
          ap (λ p. link_of (node_in c.args.tree.now p)) c.place-p.ensures ∙ c.requires.way.ends;
      depth = c.requires.way.way.few;
    }

pub node-now-requires : goal.node-now-requires
node-now-requires c =
    let d = c.args.self.now.depth in
    let (ok, e) = c.requires.way.way.at d (omega arith) in
    subst (IsPlace c.touch_under.new.tree) (sym c.place-p.ensures)
    (place_after c.args.tree.now c.touch_under.new.tree
    (place_on c.args.edit.k c.args.self.now.groups d)
    (block_of d c.args.edit.k) (block_of d c.args.edit.k) c.requires.linked ok e
    c.touch_under.ensures.touched.apart.outside (lies_in_self (block_of d c.args.edit.k))).0

pub node-over-requires : goal.node-over-requires
node-over-requires c =
    subst (IsPlace c.loop-depth.tree) (sym c.place-q.ensures)
    (back_above c.args.tree.now c.loop-depth.tree c.args.edit.k c.args.self.now.groups
    c.args.self.now.depth c.loop-depth.depth c.args.edit.event c.args.edit.lazy
    c.requires.linked c.requires.way.way
    c.loop-depth-test.true c.loop-depth.invariant.low c.loop-depth.invariant.touched).place

pub close_over-now-requires-clause-place : goal.close_over-now-requires-clause-place
close_over-now-requires-clause-place c =
    subst (IsPlace c.loop-depth.tree) (sym c.place-q.ensures)
    (back_above c.args.tree.now c.loop-depth.tree c.args.edit.k c.args.self.now.groups
    c.args.self.now.depth c.loop-depth.depth c.args.edit.event c.args.edit.lazy
    c.requires.linked c.requires.way.way
    c.loop-depth-test.true c.loop-depth.invariant.low c.loop-depth.invariant.touched).place

pub close_over-now-requires-clause-inner : goal.close_over-now-requires-clause-inner
close_over-now-requires-clause-inner c =
    subst (λ q. IsSome (link_of (node_in c.loop-depth.tree q))) (sym c.place-q.ensures)
    (back_above c.args.tree.now c.loop-depth.tree c.args.edit.k c.args.self.now.groups
    c.args.self.now.depth c.loop-depth.depth c.args.edit.event c.args.edit.lazy
    c.requires.linked c.requires.way.way
    c.loop-depth-test.true c.loop-depth.invariant.low c.loop-depth.invariant.touched).inner

pub close_over-now-requires-clause-block : goal.close_over-now-requires-clause-block
close_over-now-requires-clause-block c =
    let b =
    back_above c.args.tree.now c.loop-depth.tree c.args.edit.k c.args.self.now.groups
    c.args.self.now.depth c.loop-depth.depth c.args.edit.event c.args.edit.lazy
    c.requires.linked c.requires.way.way
    c.loop-depth-test.true c.loop-depth.invariant.low c.loop-depth.invariant.touched in (
      block_of (c.loop-depth.depth - 1) c.args.edit.k,
      ap (block_in c.loop-depth.tree) c.place-q.ensures ∙ b.block,
    )

pub loop-depth-preserved : goal.loop-depth-preserved
loop-depth-preserved c =
    let v : IsInMap c.args.edit.k = search rules in
    let w = c.requires.way.way in
    let b =
    back_above c.args.tree.now c.loop-depth.tree c.args.edit.k c.args.self.now.groups
    c.args.self.now.depth c.loop-depth.depth c.args.edit.event c.args.edit.lazy
    c.requires.linked w
    c.loop-depth-test.true c.loop-depth.invariant.low c.loop-depth.invariant.touched in
    let f =
    c.close_over-now.ensures.closed (block_of (c.loop-depth.depth - 1) c.args.edit.k)
    (ap (block_in c.loop-depth.tree) c.place-q.ensures ∙ b.block) in
    record {
      low = (let low = c.loop-depth.invariant.low in omega arith);
      touched =
          climbed_above c.args.tree.now c.loop-depth.tree c.close_over-now.new.tree c.args.edit.k
          c.args.self.now.groups c.args.self.now.depth c.loop-depth.depth c.args.edit.event
          c.args.edit.lazy
          c.requires.linked v w c.loop-depth-test.true c.loop-depth.invariant.low
          c.requires.taken.takes
          c.loop-depth.invariant.touched f;
      before = c.node-over.ensures.exact ∙ ap (node_in c.loop-depth.tree) c.place-q.ensures
          ∙ b.node;
      now = c.close_over-now.ensures.node
          ∙ ap (node_in c.close_over-now.new.tree) c.place-q.ensures;
      spare = (let before = c.loop-depth.invariant.spare in let after = f.spare in omega arith);
    }

pub returns-then-keeps_greatest-clause-touched : goal.returns-then-keeps_greatest-clause-touched
returns-then-keeps_greatest-clause-touched c =
    let v : IsInMap c.args.edit.k = search rules in
    let known = c.requires.tidy c.if-tidy-2.true in
    let w = c.requires.way.way in
    let low = c.loop-depth.invariant.low in
    let some = c.loop-depth-test.true in
    let more : (c.loop-depth.depth - 1) + 1 ≡ c.loop-depth.depth = omega arith in
    let b =
    back_above c.args.tree.now c.loop-depth.tree c.args.edit.k c.args.self.now.groups
    c.args.self.now.depth c.loop-depth.depth c.args.edit.event c.args.edit.lazy
    c.requires.linked w
    c.loop-depth-test.true c.loop-depth.invariant.low c.loop-depth.invariant.touched in
    let over : c.node-over.result
    ≡ node_in c.args.tree.now (place_on c.args.edit.k c.args.self.now.groups (c.loop-depth.depth -
    1)) =
    c.node-over.ensures.exact ∙ ap (node_in c.loop-depth.tree) c.place-q.ensures ∙ b.node in
    let keeps = c.keeps_greatest.ensures c.if-keeps_greatest.true in
    done_above c.args.tree.now c.loop-depth.tree c.args.edit.k c.args.self.now.groups
    c.args.self.now.depth (c.loop-depth.depth - 1) c.args.edit.event c.args.edit.lazy known.0
    known.1 v w
    (omega arith) c.requires.taken.takes
    (subst (λ n. IsTouched c.args.tree.now c.loop-depth.tree (block_of n c.args.edit.k)
    (event_at (Some c.args.edit.k) c.args.edit.event) c.args.edit.lazy) (sym more)
    c.loop-depth.invariant.touched)
    (subst (λ n. KeepsGreatest
    (node_in c.args.tree.now (place_on c.args.edit.k c.args.self.now.groups (c.loop-depth.depth -
    1)))
    (node_in c.args.tree.now (place_on c.args.edit.k c.args.self.now.groups n))
    (node_in c.loop-depth.tree (place_on c.args.edit.k c.args.self.now.groups n))) (sym more)
    (subst (λ n. KeepsGreatest
    (node_in c.args.tree.now (place_on c.args.edit.k c.args.self.now.groups (c.loop-depth.depth -
    1)))
    (node_in c.args.tree.now (place_on c.args.edit.k c.args.self.now.groups c.loop-depth.depth)) n)
    c.loop-depth.invariant.now
    (subst (λ n. KeepsGreatest
    (node_in c.args.tree.now (place_on c.args.edit.k c.args.self.now.groups (c.loop-depth.depth -
    1))) n
    c.loop-depth.now)
    c.loop-depth.invariant.before
    (subst (λ n. KeepsGreatest n c.loop-depth.before c.loop-depth.now) over keeps))))

pub returns-then-is_same-clause-touched : goal.returns-then-is_same-clause-touched
returns-then-is_same-clause-touched c =
    let v : IsInMap c.args.edit.k = search rules in
    let known = c.requires.tidy c.if-tidy.true in
    kept_above c.args.tree.now c.loop-depth.tree c.args.edit.k c.args.self.now.groups
    c.args.self.now.depth c.loop-depth.depth c.args.edit.event c.args.edit.lazy known.0 known.1 v
    c.requires.way.way c.loop-depth.invariant.low c.requires.taken.takes
    c.loop-depth.invariant.touched
    (sym c.loop-depth.invariant.now ∙ sym (c.is_same.ensures c.if-is_same.true)
    ∙ c.loop-depth.invariant.before)

pub loop-depth-init : goal.loop-depth-init
loop-depth-init c = record {
  low = omega arith;
  touched = c.touch_under.ensures.touched;
  before = c.requires.node;
  now = c.node-now.ensures.exact ∙ ap (node_in c.touch_under.new.tree) c.place-p.ensures;
  spare = (let before = c.touch_under.ensures.spare in omega arith);
}
