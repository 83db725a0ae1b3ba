use Rattle.std.proofs.Common.{rules, ◌≡◌, ◌-◌, ◌+◌, ◌%◌, ◌^◌, ℕ, List, None, Some, length, refl}
use Rattle.std.proofs.Common.{sym, ap, ◌∙◌, arith}
use Rattle.std.proofs.lemmas.Result.{IfOk-weaker, on_err_weaker, on_ok_weaker}
use Rattle.oct_num.proofs.Results.{on_any_err}
use Rattle.oct_key.specs.Block.{Cube}
use Rattle.oct_key.specs.CubeOf.{cube_of}
use Rattle.oct_key.proofs.Blocks.{block_in_map, depth_child_of}
use Rattle.oct_arena.specs.Nodes.{link_of, value_of}
use Rattle.oct_tree.proofs.Paths.{not_inner, slot_place, slot_block}
use Rattle.oct_tree.specs.Classes.{classes_in}
use Rattle.oct_export.specs.Boxes.{is_full}
use Rattle.oct_export.specs.BoxTexts.{box_lines}
use Rattle.oct_export.proofs.Places.{linked_above}
use Rattle.oct_export.proofs.Boxes.{leaf_full, first_full}
use Rattle.oct_export.proofs.Counts.{leaf_class, full_next, full_of_all}
use Rattle.oct_export.proofs.Pushes.{pushed_start, pushed_more, pushed_three, second_cut}
use Rattle.oct_export.proofs.Pushes.{pushed_as, cut_as}
use Rattle.oct_export.proofs.Walks.{found_before, found_none, found_whole, bytes_next, leaf_text}
use Rattle.oct_export.proofs.Walks.{walk_next, walk_cut, walk_due}
use Rattle.oct_export.proofs.scene.+push_boxes.Goals as goal

pub returns-in_default-clause-full : goal.returns-in_default-clause-full
returns-in_default-clause-full g t c =
    let none : link_of c.node-node.result ≡ None =
    not_inner c.node-node.result c.in_default.not-Inner in
    let ok = block_in_map c.args.block in
    IfOk-weaker c.push_leaf.result _ _ (λ w p. p ∙ leaf_full (classes_in c.args.tree.now)
    (cube_of c.args.block) c.class_of_node.result c.is_occupied-full.result ok
    (leaf_class c.args.tree.now (cube_of c.args.block)
    (value_of c.node-node.result) c.class_of_node.result ok
    (c.node-node.ensures.values (cube_of c.args.block) c.requires.block none)
    (c.class_of_node.ensures none))
    c.is_occupied-full.ensures.0 c.is_occupied-full.ensures.1) c.push_leaf.ensures.full

pub returns-in_default-clause-bytes : goal.returns-in_default-clause-bytes
returns-in_default-clause-bytes g t c =
    let none : link_of c.node-node.result ≡ None =
    not_inner c.node-node.result c.in_default.not-Inner in
    let ok = block_in_map c.args.block in
    IfOk-weaker c.push_leaf.result _ _ (λ w p. p ∙ ap (λ (l : List ℕ). length l % 2 ^ 64)
    (leaf_text (classes_in c.args.tree.now) _ _ c.args.levels (cube_of c.args.block)
    c.class_of_node.result c.is_occupied-full.result ok
    (leaf_class c.args.tree.now (cube_of c.args.block)
    (value_of c.node-node.result) c.class_of_node.result ok
    (c.node-node.ensures.values (cube_of c.args.block) c.requires.block none)
    (c.class_of_node.ensures none))
    c.is_occupied-full.ensures.0 c.is_occupied-full.ensures.1 c.res.ensures))
    c.push_leaf.ensures.bytes

pub returns-in_default-clause-pushed : goal.returns-in_default-clause-pushed
returns-in_default-clause-pushed g t c =
    let none : link_of c.node-node.result ≡ None =
    not_inner c.node-node.result c.in_default.not-Inner in
    let ok = block_in_map c.args.block in
    on_ok_weaker c.push_leaf.result
    (λ p. pushed_as _ _ _ _ _ _ p
    (leaf_text (classes_in c.args.tree.now) _ _ c.args.levels (cube_of c.args.block)
    c.class_of_node.result c.is_occupied-full.result ok
    (leaf_class c.args.tree.now (cube_of c.args.block)
    (value_of c.node-node.result) c.class_of_node.result ok
    (c.node-node.ensures.values (cube_of c.args.block) c.requires.block none)
    (c.class_of_node.ensures none))
    c.is_occupied-full.ensures.0 c.is_occupied-full.ensures.1 c.res.ensures))
    c.push_leaf.ensures.pushed

pub returns-in_default-clause-cut : goal.returns-in_default-clause-cut
returns-in_default-clause-cut g t c =
    let none : link_of c.node-node.result ≡ None =
    not_inner c.node-node.result c.in_default.not-Inner in
    let ok = block_in_map c.args.block in
    on_err_weaker c.push_leaf.result
    (λ p. cut_as _ _ _ _ _ p
    (leaf_text (classes_in c.args.tree.now) _ _ c.args.levels (cube_of c.args.block)
    c.class_of_node.result c.is_occupied-full.result ok
    (leaf_class c.args.tree.now (cube_of c.args.block)
    (value_of c.node-node.result) c.class_of_node.result ok
    (c.node-node.ensures.values (cube_of c.args.block) c.requires.block none)
    (c.class_of_node.ensures none))
    c.is_occupied-full.ensures.0 c.is_occupied-full.ensures.1 c.res.ensures))
    c.push_leaf.ensures.cut

pub loop-i-init : goal.loop-i-init
unfolding first_full
loop-i-init g t c = record {
  full = refl;
  bytes = ap (λ (l : List ℕ). length l % 2 ^ 64)
      (sym (found_none (classes_in c.args.tree.now) c.args.tree.now.res _ c.args.levels
      (cube_of c.args.block) 0 refl));
  pushed = pushed_start _ _ _
      (found_none (classes_in c.args.tree.now) c.args.tree.now.res _ c.args.levels
      (cube_of c.args.block) 0 refl);
  faults = refl;
  shortages = refl;
}

pub child-child-requires-clause-depth : goal.child-child-requires-clause-depth
child-child-requires-clause-depth g t c =
    let low = (linked_above c.args.tree.now c.args.p c.in-Inner.id (cube_of c.args.block)
    c.in-Inner.ensures.linked c.requires.place (ap link_of (sym c.in-Inner.ensures.exact))
    c.requires.block).low in
    omega (arith, low)

pub waited-above-requires : goal.waited-above-requires
waited-above-requires g t c =
    let low = (linked_above c.args.tree.now c.args.p c.in-Inner.id (cube_of c.args.block)
    c.in-Inner.ensures.linked c.requires.place (ap link_of (sym c.in-Inner.ensures.exact))
    c.requires.block).low in
    omega (arith, low, c.requires.levels)

pub push_boxes-requires : goal.push_boxes-requires
push_boxes-requires g t c κs within =
    let link = ap link_of (sym c.in-Inner.ensures.exact) in
    let low = (linked_above c.args.tree.now c.args.p c.in-Inner.id (cube_of c.args.block)
    c.in-Inner.ensures.linked c.requires.place link c.requires.block).low in
    let deep = ap (λ (b : Cube). b.depth) c.child-child.ensures.exact
    ∙ depth_child_of (cube_of c.args.block) c.loop-i.i in (
      omega (arith, low, deep),
      (
        within,
        (
          slot_place c.args.tree.now c.in-Inner.ensures.linked c.args.p c.requires.place
              c.in-Inner.id c.loop-i.i link (omega arith),
          (
            slot_block c.args.tree.now c.in-Inner.ensures.linked c.args.p c.in-Inner.id c.loop-i.i
                (cube_of c.args.block) link c.requires.block
                ∙ ap Some (sym c.child-child.ensures.exact),
            search rules,
          ),
        ),
      ),
    )

pub returns-in_err-found-clause-cut : goal.returns-in_err-found-clause-cut
returns-in_err-found-clause-cut g t c =
    let a = linked_above c.args.tree.now c.args.p c.in-Inner.id (cube_of c.args.block)
    c.in-Inner.ensures.linked c.requires.place (ap link_of (sym c.in-Inner.ensures.exact))
    c.requires.block in
    let (rest, is) =
    walk_cut (classes_in c.args.tree.now) c.args.tree.now.res (16 - (c.args.block.depth + 1))
    c.args.levels (cube_of c.args.block) (cube_of c.child-child.result) c.loop-i.i
    c.waited-above.result c.loop-i.full a.ok a.low a.next (omega arith) a.child
    c.loop-i.invariant.full c.child-child.ensures.exact c.waited-above.ensures in
    on_any_err c.from_residual.result _
    (second_cut
    (box_lines c.args.tree.now.res (found_before (classes_in c.args.tree.now)
    (16 - (c.args.block.depth + 1)) c.args.levels (cube_of c.args.block) c.loop-i.i)) _ rest _ _
    _ _ _ _
    c.loop-i.invariant.pushed c.in_err-found.ensures.cut is)

pub returns-in_err-line-clause-cut : goal.returns-in_err-line-clause-cut
returns-in_err-line-clause-cut g t c =
    let a = linked_above c.args.tree.now c.args.p c.in-Inner.id (cube_of c.args.block)
    c.in-Inner.ensures.linked c.requires.place (ap link_of (sym c.in-Inner.ensures.exact))
    c.requires.block in
    let (rest, is) =
    walk_due (classes_in c.args.tree.now) c.args.tree.now.res (16 - (c.args.block.depth + 1))
    c.args.levels (cube_of c.args.block) (cube_of c.child-child.result) c.loop-i.i
    c.waited-above.result _ c.loop-i.full c.in_ok-found.found.full c.is_due.result a.ok a.low a.next
    (omega arith) a.child c.loop-i.invariant.full c.in_ok-found.ensures.full
    c.child-child.ensures.exact
    c.waited-above.ensures c.is_due.ensures c.res-in-loop-i.ensures in
    on_any_err c.from_residual-in_err-line.result _
    (second_cut _ _ rest _ _ _ _ _ _
    (pushed_more
    (box_lines c.args.tree.now.res (found_before (classes_in c.args.tree.now)
    (16 - (c.args.block.depth + 1)) c.args.levels (cube_of c.args.block) c.loop-i.i)) _ _ _ _ _
    _ _ _
    c.loop-i.invariant.pushed c.in_ok-found.ensures.pushed refl) c.in_err-line.ensures.cut is)

pub loop-i-preserved : goal.loop-i-preserved
loop-i-preserved g t c =
    let a = linked_above c.args.tree.now c.args.p c.in-Inner.id (cube_of c.args.block)
    c.in-Inner.ensures.linked c.requires.place (ap link_of (sym c.in-Inner.ensures.exact))
    c.requires.block in
    let next = walk_next (classes_in c.args.tree.now) c.args.tree.now.res
    (16 - (c.args.block.depth + 1)) c.args.levels (cube_of c.args.block)
    (cube_of c.child-child.result) c.loop-i.i
    c.waited-above.result _ c.loop-i.full c.in_ok-found.found.full c.is_due.result (omega arith)
    (a.child c.loop-i.i) c.loop-i.invariant.full c.in_ok-found.ensures.full
    c.child-child.ensures.exact
    c.waited-above.ensures c.is_due.ensures c.res-in-loop-i.ensures in
    record {
      full = full_next (classes_in c.args.tree.now)
          (cube_of c.args.block) c.loop-i.i c.loop-i.full c.in_ok-found.found.full
          c.are_both-full.result
          c.loop-i.invariant.full (c.in_ok-found.ensures.full
          ∙ ap (is_full (classes_in c.args.tree.now)) c.child-child.ensures.exact)
          c.are_both-full.ensures;
      bytes = bytes_next _ _ _ _ _ _ _ c.loop-i.invariant.bytes c.in_ok-found.ensures.bytes
          c.in_ok-line.ensures.bytes next;
      pushed = pushed_three _ _ _ _ _ _ _ _ _ _ _ _ next c.loop-i.invariant.pushed
          c.in_ok-found.ensures.pushed c.in_ok-line.ensures.pushed;
      faults = c.in_ok-line.ensures.counts.stays.0 ∙ c.in_ok-found.ensures.counts.stays.0
          ∙ c.loop-i.invariant.faults;
      shortages = c.in_ok-line.ensures.counts.stays.1 ∙ c.in_ok-found.ensures.counts.stays.1
          ∙ c.loop-i.invariant.shortages;
    }

pub returns-clause-full : goal.returns-clause-full
returns-clause-full g t c =
    full_of_all (classes_in c.args.tree.now) (cube_of c.args.block) c.loop-i.i c.loop-i.full
    (linked_above c.args.tree.now c.args.p c.in-Inner.id (cube_of c.args.block)
    c.in-Inner.ensures.linked
    c.requires.place (ap link_of (sym c.in-Inner.ensures.exact)) c.requires.block)
    (omega arith) c.loop-i.invariant.full

pub returns-clause-bytes : goal.returns-clause-bytes
returns-clause-bytes g t c =
    let a = linked_above c.args.tree.now c.args.p c.in-Inner.id (cube_of c.args.block)
    c.in-Inner.ensures.linked c.requires.place (ap link_of (sym c.in-Inner.ensures.exact))
    c.requires.block in
    c.loop-i.invariant.bytes ∙ ap (λ (l : List ℕ). length l % 2 ^ 64)
    (found_whole (classes_in c.args.tree.now) c.args.tree.now.res (16 - (c.args.block.depth + 1))
    c.args.levels (cube_of c.args.block) c.loop-i.i a.ok a.low a.next (omega arith))

pub returns-clause-pushed : goal.returns-clause-pushed
returns-clause-pushed g t c =
    let a = linked_above c.args.tree.now c.args.p c.in-Inner.id (cube_of c.args.block)
    c.in-Inner.ensures.linked c.requires.place (ap link_of (sym c.in-Inner.ensures.exact))
    c.requires.block in
    pushed_as _ _ _ _ _ _ c.loop-i.invariant.pushed
    (found_whole (classes_in c.args.tree.now) c.args.tree.now.res (16 - (c.args.block.depth + 1))
    c.args.levels (cube_of c.args.block) c.loop-i.i a.ok a.low a.next (omega arith))
