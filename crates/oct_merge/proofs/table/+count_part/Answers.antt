use Rattle.std.proofs.Common.{◌≡◌, ◌+◌, ◌^◌, ◌<◌, ◌≤◌, ◌∙◌, sym, subst, ap, arith, rules, refl}
use Rattle.std.proofs.Common.{slice_index_or}
use Rattle.oct_key.specs.Block.{Cube, child_of}
use Rattle.oct_key.specs.CubeOf.{cube_of}
use Rattle.oct_key.proofs.Blocks.{block_in_map, depth_child_of}
use Rattle.oct_values.specs.Classes.{classes_of}
use Rattle.oct_tree.specs.Tree.{value_at}
use Rattle.oct_merge.specs.Pairs.{pairs_in}
use Rattle.oct_edit.proofs.NodesOver.{over_live, over_next}
use Rattle.oct_merge.proofs.Tables.{both_low, counted_none, counted_plain, counted_room, child_room}
use Rattle.oct_merge.proofs.Tables.{child_first, child_next, child_last}
use Rattle.oct_merge.proofs.table.+count_part.Goals as goal

pub returns-then-voxels-eq0-clause-counted : goal.returns-then-voxels-eq0-clause-counted
returns-then-voxels-eq0-clause-counted t c n l =
    counted_none c.args.window.lo c.args.window.hi
    (classes_of c.args.a.now.odds (value_at c.args.a.now))
    (classes_of c.args.b.now.odds (value_at c.args.b.now)) n (cube_of c.args.block)
    c.shared_with-voxels.result _ (block_in_map c.args.block) c.shared_with-voxels.ensures
    (search rules)

pub add-requires-clause-room : goal.add-requires-clause-room
add-requires-clause-room t c =
    let plain = c.are_plain.ensures.0 c.if-are_plain.true in
    counted_room _ c.shared_with-voxels.result c.place_of-place.result _
    (counted_plain c.args.window.lo c.args.window.hi c.args.a.now c.args.b.now
    c.place_of-place.result (cube_of c.args.block) c.args.first c.args.second c.class_under.result
    c.class_under-then-are_plain.result c.place_of-place.result c.shared_with-voxels.result
    (block_in_map c.args.block) c.requires.first c.requires.second plain.0 plain.1
    c.class_under.ensures c.class_under-then-are_plain.ensures c.place_of-place.ensures.exact
    c.shared_with-voxels.ensures)
    (c.requires.room c.place_of-place.result c.place_of-place.ensures.few)

pub returns-then-are_plain-clause-counted : goal.returns-then-are_plain-clause-counted
returns-then-are_plain-clause-counted t c n l =
    let plain = c.are_plain.ensures.0 c.if-are_plain.true in
    c.add.ensures.counted n l
    ∙ ap (λ m. slice_index_or c.args.table.now.counts n 0 + m)
    (sym (counted_plain c.args.window.lo c.args.window.hi c.args.a.now c.args.b.now n
    (cube_of c.args.block) c.args.first c.args.second c.class_under.result
    c.class_under-then-are_plain.result c.place_of-place.result c.shared_with-voxels.result
    (block_in_map c.args.block) c.requires.first c.requires.second plain.0 plain.1
    c.class_under.ensures c.class_under-then-are_plain.ensures c.place_of-place.ensures.exact
    c.shared_with-voxels.ensures))

pub loop-i-init : goal.loop-i-init
loop-i-init t c = record {
  counted =
      λ n l. child_first
      (λ j. pairs_in c.args.window.lo c.args.window.hi
      (classes_of c.args.a.now.odds (value_at c.args.a.now))
      (classes_of c.args.b.now.odds (value_at c.args.b.now)) n
      (child_of (cube_of c.args.block) j))
      _;
  long = refl;
}

pub child_node-child-requires-clause-live : goal.child_node-child-requires-clause-live
child_node-child-requires-clause-live t c =
    over_live c.args.a.now (cube_of c.args.block) c.args.first c.requires.a
    (block_in_map c.args.block) c.requires.first

pub child_node-other-requires-clause-live : goal.child_node-other-requires-clause-live
child_node-other-requires-clause-live t c =
    over_live c.args.b.now (cube_of c.args.block) c.args.second c.requires.b
    (block_in_map c.args.block) c.requires.second

pub child-requires-clause-depth : goal.child-requires-clause-depth
child-requires-clause-depth t c =
    let low : c.args.block.depth ≤ 15 =
    both_low c.args.a.now c.args.b.now (cube_of c.args.block) c.args.first c.args.second
    c.are_plain.result c.requires.a c.requires.b (block_in_map c.args.block)
    c.requires.first c.requires.second c.if-are_plain.false c.are_plain.ensures in
    low

pub count_part-requires : goal.count_part-requires
count_part-requires t c =
    let low : c.args.block.depth ≤ 15 =
    both_low c.args.a.now c.args.b.now (cube_of c.args.block) c.args.first c.args.second
    c.are_plain.result c.requires.a c.requires.b (block_in_map c.args.block)
    c.requires.first c.requires.second c.if-are_plain.false c.are_plain.ensures in
    let few : c.loop-i.i < 8 = omega arith in
    let child = c.child.ensures.exact in
    let level : c.child.result.depth ≡ c.args.block.depth + 1 =
    ap (λ (a : Cube). a.depth) child ∙ depth_child_of (cube_of c.args.block) c.loop-i.i in
    let mine =
    over_next c.args.a.now (cube_of c.args.block) (cube_of c.child.result) c.args.first
    c.child_node-child.result c.loop-i.i low few child c.child_node-child.ensures
    c.requires.first in
    let theirs =
    over_next c.args.b.now (cube_of c.args.block) (cube_of c.child.result) c.args.second
    c.child_node-other.result c.loop-i.i low few child c.child_node-other.ensures
    c.requires.second in
    let d = c.decreases in (
      search rules,
      (
        c.requires.a,
        (
          c.requires.b,
          (
            mine,
            (
              theirs,
              λ n l. subst (λ a. slice_index_or c.loop-i.table.counts n 0 + pairs_in
                  c.args.window.lo
                  c.args.window.hi (classes_of c.args.a.now.odds (value_at c.args.a.now))
                  (classes_of c.args.b.now.odds (value_at c.args.b.now)) n a < 2 ^ 64)
                  (sym child)
                  (child_room c.args.window.lo c.args.window.hi
                  (classes_of c.args.a.now.odds (value_at c.args.a.now))
                  (classes_of c.args.b.now.odds (value_at c.args.b.now)) n c.loop-i.i
                  (cube_of c.args.block) _ _ low few (c.requires.room n l)
                  (c.loop-i.invariant.counted n l)),
            ),
          ),
        ),
      ),
    )

pub loop-i-preserved : goal.loop-i-preserved
loop-i-preserved t c = record {
  counted =
      λ n l. child_next
      (λ j. pairs_in c.args.window.lo c.args.window.hi
      (classes_of c.args.a.now.odds (value_at c.args.a.now))
      (classes_of c.args.b.now.odds (value_at c.args.b.now)) n
      (child_of (cube_of c.args.block) j))
      _ _ _ c.loop-i.i (c.loop-i.invariant.counted n l)
      (c.count_part.ensures.counted n l
      ∙ ap (λ a. slice_index_or c.loop-i.table.counts n 0 + pairs_in c.args.window.lo
      c.args.window.hi (classes_of c.args.a.now.odds (value_at c.args.a.now))
      (classes_of c.args.b.now.odds (value_at c.args.b.now)) n a)
      c.child.ensures.exact);
  long = c.count_part.ensures.long ∙ c.loop-i.invariant.long;
}

pub returns-clause-counted : goal.returns-clause-counted
returns-clause-counted t c n l =
    let low : c.args.block.depth ≤ 15 =
    both_low c.args.a.now c.args.b.now (cube_of c.args.block) c.args.first c.args.second
    c.are_plain.result c.requires.a c.requires.b (block_in_map c.args.block)
    c.requires.first c.requires.second c.if-are_plain.false c.are_plain.ensures in
    let last : c.loop-i.i ≡ 8 = omega arith in
    child_last c.args.window.lo c.args.window.hi (classes_of c.args.a.now.odds
    (value_at c.args.a.now))
    (classes_of c.args.b.now.odds (value_at c.args.b.now)) n c.loop-i.i (cube_of c.args.block) _
    _ low last (c.loop-i.invariant.counted n l)
