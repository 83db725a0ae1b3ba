use Rattle.std.proofs.Common.{◌≡◌, ◌+◌, ◌<◌, ◌≤◌, refl, sym, subst, ◌∙◌, ap, arith, rules}
use Rattle.std.proofs.Common.{Some, false}
use Rattle.std.proofs.lemmas.Bool.{false≢true}
use Rattle.oct_key.specs.Block.{Cube, child_of}
use Rattle.oct_key.specs.CubeOf.{cube_of}
use Rattle.oct_key.proofs.Blocks.{block_in_map, child_in_map, depth_child_of}
use Rattle.oct_arena.specs.Entries.{spare}
use Rattle.oct_arena.specs.Nodes.{link_of, value_of}
use Rattle.oct_tree.specs.declared.place.Place.TheVariants.{Slot}
use Rattle.oct_tree.proofs.Paths.{some_injective}
use Rattle.oct_edit.specs.Steps.{IsTouched}
use Rattle.oct_edit.proofs.Joins.{unfolded}
use Rattle.oct_odds.specs.Update.{IsWithin}
use Rattle.oct_odds.specs.Odds.{Odds}
use Rattle.oct_merge.specs.Walk.{need_in}
use Rattle.oct_edit.proofs.NodesOver.{over_live, over_next}
use Rattle.oct_merge.proofs.Parts.{events_of, part_done, part_event, part_known, part_within}
use Rattle.oct_merge.proofs.Parts.{part_low, part_room, part_entered, merging_start, merging_place}
use Rattle.oct_merge.proofs.Parts.{merging_odds, merging_room, merging_step, merging_back}
use Rattle.oct_merge.proofs.Parts.{merging_end, merging_spared}
use Rattle.oct_merge.proofs.merging.+merge_part.Goals as goal

pub copy_part-requires-clause-absent : goal.copy_part-requires-clause-absent
copy_part-requires-clause-absent t c = c.can_copy.ensures.absent c.if-can_copy.true

pub copy_part-requires-clause-other : goal.copy_part-requires-clause-other
copy_part-requires-clause-other t c = c.can_copy.ensures.fresh c.if-can_copy.true

pub copy_part-requires-clause-pruned : goal.copy_part-requires-clause-pruned
copy_part-requires-clause-pruned t c = c.can_copy.ensures.pruned c.if-can_copy.true

pub copy_part-requires-clause-inner : goal.copy_part-requires-clause-inner
copy_part-requires-clause-inner t c =
    c.requires.parted (ap link_of (c.can_copy.ensures.absent c.if-can_copy.true))

pub enter-id-requires-clause-depth : goal.enter-id-requires-clause-depth
enter-id-requires-clause-depth t c b e =
    let deep : c.args.block.depth ≤ 15 =
    part_low c.args.tree.now c.args.other.now c.args.p (cube_of c.args.block) c.args.node
    c.requires.linked c.requires.other.linked c.requires.block (block_in_map c.args.block)
    c.requires.over c.requires.parted in
    subst (λ (a : Cube). a.depth ≤ 15) (some_injective (sym c.requires.block ∙ e)) deep

pub enter-id-requires-clause-room : goal.enter-id-requires-clause-room
enter-id-requires-clause-room t c none =
    let deep : c.args.block.depth ≤ 15 =
    part_low c.args.tree.now c.args.other.now c.args.p (cube_of c.args.block) c.args.node
    c.requires.linked c.requires.other.linked c.requires.block (block_in_map c.args.block)
    c.requires.over c.requires.parted in
    part_room c.args.tree.now c.args.other.now c.args.p (cube_of c.args.block) c.args.node
    c.requires.linked c.requires.place c.requires.block (block_in_map c.args.block)
    c.requires.over c.requires.parted deep c.requires.room none

pub loop-i-init : goal.loop-i-init
loop-i-init t c =
    merging_start c.args.tree.now c.enter-id.new.tree c.args.other.now c.args.p
    (cube_of c.args.block) c.enter-id.result c.args.rule
    (unfolded c.args.tree.now c.enter-id.new.tree c.args.p (cube_of c.args.block)
    c.enter-id.result false (c.enter-id.ensures (cube_of c.args.block) c.requires.block))

pub child_node-child-requires-clause-live : goal.child_node-child-requires-clause-live
child_node-child-requires-clause-live t c =
    over_live c.args.other.now (cube_of c.args.block) c.args.node c.requires.other.linked
    (block_in_map c.args.block) c.requires.over

pub is_done-requires : goal.is_done-requires
is_done-requires t c =
    let few : c.loop-i.i < 8 = omega arith in
    let entered = c.enter-id.ensures (cube_of c.args.block) c.requires.block in
    let begun =
    unfolded c.args.tree.now c.enter-id.new.tree c.args.p (cube_of c.args.block) c.enter-id.result
    false entered in
    let place =
    merging_place c.args.tree.now c.enter-id.new.tree c.loop-i.tree c.args.other.now c.args.p
    (cube_of c.args.block) c.enter-id.result c.loop-i.i c.args.rule few begun
    c.loop-i.invariant in
    place.0

-- a child of which each voxel stays as it is
pub loop-i-preserved-then-is_done : goal.loop-i-preserved-then-is_done
loop-i-preserved-then-is_done t c =
    let deep : c.args.block.depth ≤ 15 =
    part_low c.args.tree.now c.args.other.now c.args.p (cube_of c.args.block) c.args.node
    c.requires.linked c.requires.other.linked c.requires.block (block_in_map c.args.block)
    c.requires.over c.requires.parted in
    let few : c.loop-i.i < 8 = omega arith in
    let entered = c.enter-id.ensures (cube_of c.args.block) c.requires.block in
    let begun =
    unfolded c.args.tree.now c.enter-id.new.tree c.args.p (cube_of c.args.block) c.enter-id.result
    false entered in
    let place =
    merging_place c.args.tree.now c.enter-id.new.tree c.loop-i.tree c.args.other.now c.args.p
    (cube_of c.args.block) c.enter-id.result c.loop-i.i c.args.rule few begun
    c.loop-i.invariant in
    let odds =
    merging_odds c.args.tree.now c.enter-id.new.tree c.loop-i.tree c.args.other.now c.args.p
    (cube_of c.args.block) c.enter-id.result c.loop-i.i c.args.rule begun
    c.loop-i.invariant c.requires.odds in
    let child = child_of (cube_of c.args.block) c.loop-i.i in
    let over =
    over_next c.args.other.now (cube_of c.args.block) child c.args.node
    c.child_node-child.result c.loop-i.i deep few refl c.child_node-child.ensures
    c.requires.over in
    let in_map =
    child_in_map (cube_of c.args.block) c.loop-i.i (block_in_map c.args.block)
    (omega (arith, deep)) in
    merging_step c.args.tree.now c.enter-id.new.tree c.loop-i.tree c.loop-i.tree c.args.other.now
    c.args.p (cube_of c.args.block) c.enter-id.result c.loop-i.i c.args.rule c.requires.linked
    (block_in_map c.args.block) deep few begun c.loop-i.invariant
    (part_done c.loop-i.tree c.args.other.now (Slot c.enter-id.result c.loop-i.i) child
    c.child_node-child.result c.args.rule c.loop-i.invariant.done.linked c.requires.other.linked
    place.0 place.1 in_map over odds (c.is_done.ensures.done c.if-is_done.true))
    (omega arith)

pub are_plain-requires : goal.are_plain-requires
are_plain-requires t c =
    let few : c.loop-i.i < 8 = omega arith in
    let entered = c.enter-id.ensures (cube_of c.args.block) c.requires.block in
    let begun =
    unfolded c.args.tree.now c.enter-id.new.tree c.args.p (cube_of c.args.block) c.enter-id.result
    false entered in
    let place =
    merging_place c.args.tree.now c.enter-id.new.tree c.loop-i.tree c.args.other.now c.args.p
    (cube_of c.args.block) c.enter-id.result c.loop-i.i c.args.rule few begun
    c.loop-i.invariant in
    place.0

pub write_leaf-requires-clause-linked : goal.write_leaf-requires-clause-linked
write_leaf-requires-clause-linked t c =
    c.loop-i.invariant.done.linked

pub write_leaf-requires-clause-place : goal.write_leaf-requires-clause-place
write_leaf-requires-clause-place t c =
    let few : c.loop-i.i < 8 = omega arith in
    let entered = c.enter-id.ensures (cube_of c.args.block) c.requires.block in
    let begun =
    unfolded c.args.tree.now c.enter-id.new.tree c.args.p (cube_of c.args.block) c.enter-id.result
    false entered in
    let place =
    merging_place c.args.tree.now c.enter-id.new.tree c.loop-i.tree c.args.other.now c.args.p
    (cube_of c.args.block) c.enter-id.result c.loop-i.i c.args.rule few begun
    c.loop-i.invariant in
    place.0

pub write_leaf-requires-clause-plain : goal.write_leaf-requires-clause-plain
write_leaf-requires-clause-plain t c =
    (c.are_plain.ensures.0 c.if-are_plain.true).0

pub write_leaf-requires-clause-leaf : goal.write_leaf-requires-clause-leaf
write_leaf-requires-clause-leaf t c =
    part_known c.child_node-child.result (c.is_done.ensures.known c.if-is_done.false)
    (c.are_plain.ensures.0 c.if-are_plain.true).1

pub write_leaf-requires-clause-within : goal.write_leaf-requires-clause-within
write_leaf-requires-clause-within t c =
    let deep : c.args.block.depth ≤ 15 =
    part_low c.args.tree.now c.args.other.now c.args.p (cube_of c.args.block) c.args.node
    c.requires.linked c.requires.other.linked c.requires.block (block_in_map c.args.block)
    c.requires.over c.requires.parted in
    let few : c.loop-i.i < 8 = omega arith in
    let entered = c.enter-id.ensures (cube_of c.args.block) c.requires.block in
    let begun =
    unfolded c.args.tree.now c.enter-id.new.tree c.args.p (cube_of c.args.block) c.enter-id.result
    false entered in
    let odds =
    merging_odds c.args.tree.now c.enter-id.new.tree c.loop-i.tree c.args.other.now c.args.p
    (cube_of c.args.block) c.enter-id.result c.loop-i.i c.args.rule begun
    c.loop-i.invariant c.requires.odds in
    let child = child_of (cube_of c.args.block) c.loop-i.i in
    let over =
    over_next c.args.other.now (cube_of c.args.block) child c.args.node
    c.child_node-child.result c.loop-i.i deep few refl c.child_node-child.ensures
    c.requires.over in
    let in_map =
    child_in_map (cube_of c.args.block) c.loop-i.i (block_in_map c.args.block)
    (omega (arith, deep)) in
    subst (λ (o : Odds). IsWithin o (value_of c.child_node-child.result)) (sym odds)
    (part_within c.args.other.now child c.child_node-child.result c.requires.other.linked in_map
    over
    (c.are_plain.ensures.0 c.if-are_plain.true).1)

-- a child that is one leaf, or absent, in the first tree, and one leaf in the second
pub loop-i-preserved-then-are_plain : goal.loop-i-preserved-then-are_plain
loop-i-preserved-then-are_plain t c =
    let deep : c.args.block.depth ≤ 15 =
    part_low c.args.tree.now c.args.other.now c.args.p (cube_of c.args.block) c.args.node
    c.requires.linked c.requires.other.linked c.requires.block (block_in_map c.args.block)
    c.requires.over c.requires.parted in
    let few : c.loop-i.i < 8 = omega arith in
    let entered = c.enter-id.ensures (cube_of c.args.block) c.requires.block in
    let begun =
    unfolded c.args.tree.now c.enter-id.new.tree c.args.p (cube_of c.args.block) c.enter-id.result
    false entered in
    let place =
    merging_place c.args.tree.now c.enter-id.new.tree c.loop-i.tree c.args.other.now c.args.p
    (cube_of c.args.block) c.enter-id.result c.loop-i.i c.args.rule few begun
    c.loop-i.invariant in
    let child = child_of (cube_of c.args.block) c.loop-i.i in
    let over =
    over_next c.args.other.now (cube_of c.args.block) child c.args.node
    c.child_node-child.result c.loop-i.i deep few refl c.child_node-child.ensures
    c.requires.over in
    let in_map =
    child_in_map (cube_of c.args.block) c.loop-i.i (block_in_map c.args.block)
    (omega (arith, deep)) in
    let plain = c.are_plain.ensures.0 c.if-are_plain.true in
    let same = c.write_leaf.ensures.spare in
    merging_step c.args.tree.now c.enter-id.new.tree c.loop-i.tree c.write_leaf.new.tree
    c.args.other.now
    c.args.p (cube_of c.args.block) c.enter-id.result c.loop-i.i c.args.rule c.requires.linked
    (block_in_map c.args.block) deep few begun c.loop-i.invariant
    (c.write_leaf.ensures.touched child (events_of c.args.rule c.loop-i.tree c.args.other.now)
    in_map place.1
    (part_event c.loop-i.tree c.args.other.now (Slot c.enter-id.result c.loop-i.i) child
    c.child_node-child.result c.args.rule c.loop-i.invariant.done.linked place.0 place.1 in_map
    over plain.0 plain.1))
    (omega (arith, same))

pub child-requires-clause-depth : goal.child-requires-clause-depth
child-requires-clause-depth t c =
    let deep : c.args.block.depth ≤ 15 =
    part_low c.args.tree.now c.args.other.now c.args.p (cube_of c.args.block) c.args.node
    c.requires.linked c.requires.other.linked c.requires.block (block_in_map c.args.block)
    c.requires.over c.requires.parted in
    deep

pub merge_part-requires : goal.merge_part-requires
merge_part-requires t c =
    let deep : c.args.block.depth ≤ 15 =
    part_low c.args.tree.now c.args.other.now c.args.p (cube_of c.args.block) c.args.node
    c.requires.linked c.requires.other.linked c.requires.block (block_in_map c.args.block)
    c.requires.over c.requires.parted in
    let few : c.loop-i.i < 8 = omega arith in
    let entered = c.enter-id.ensures (cube_of c.args.block) c.requires.block in
    let begun =
    unfolded c.args.tree.now c.enter-id.new.tree c.args.p (cube_of c.args.block) c.enter-id.result
    false entered in
    let taken =
    part_entered c.args.tree.now c.enter-id.new.tree c.args.other.now c.args.p (cube_of
    c.args.block)
    c.enter-id.result c.args.node c.requires.linked c.requires.place c.requires.block
    (block_in_map c.args.block) c.requires.over c.requires.parted entered in
    let place =
    merging_place c.args.tree.now c.enter-id.new.tree c.loop-i.tree c.args.other.now c.args.p
    (cube_of c.args.block) c.enter-id.result c.loop-i.i c.args.rule few begun
    c.loop-i.invariant in
    let room =
    merging_room c.args.tree.now c.enter-id.new.tree c.loop-i.tree c.args.other.now c.args.p
    (cube_of c.args.block) c.enter-id.result c.loop-i.i c.args.rule c.requires.linked
    (block_in_map c.args.block) deep few c.requires.room taken begun c.loop-i.invariant in
    let odds =
    merging_odds c.args.tree.now c.enter-id.new.tree c.loop-i.tree c.args.other.now c.args.p
    (cube_of c.args.block) c.enter-id.result c.loop-i.i c.args.rule begun
    c.loop-i.invariant c.requires.odds in
    let child = c.child.ensures.exact in
    let level : c.child.result.depth ≡ c.args.block.depth + 1 =
    ap (λ (a : Cube). a.depth) child ∙ depth_child_of (cube_of c.args.block) c.loop-i.i in
    let over =
    over_next c.args.other.now (cube_of c.args.block) (cube_of c.child.result) c.args.node
    c.child_node-child.result c.loop-i.i deep few child c.child_node-child.ensures
    c.requires.over in
    let d = c.decreases in (
      search rules,
      (
        c.loop-i.invariant.done.linked,
        (
          place.0,
          (
            place.1 ∙ ap Some (sym child),
            (
              c.requires.other,
              (
                over,
                (
                  c.is_done.ensures.known c.if-is_done.false,
                  (
                    λ here there.
                        false≢true (sym c.if-are_plain.false ∙ c.are_plain.ensures.1 (here, there)),
                    (
                      odds,
                      subst (λ a. need_in c.loop-i.tree c.args.other.now a
                          ≤ spare c.loop-i.tree.groups)
                          (sym child) room,
                    ),
                  ),
                ),
              ),
            ),
          ),
        ),
      ),
    )

pub loop-i-preserved : goal.loop-i-preserved
loop-i-preserved t c =
    let deep : c.args.block.depth ≤ 15 =
    part_low c.args.tree.now c.args.other.now c.args.p (cube_of c.args.block) c.args.node
    c.requires.linked c.requires.other.linked c.requires.block (block_in_map c.args.block)
    c.requires.over c.requires.parted in
    let few : c.loop-i.i < 8 = omega arith in
    let entered = c.enter-id.ensures (cube_of c.args.block) c.requires.block in
    let begun =
    unfolded c.args.tree.now c.enter-id.new.tree c.args.p (cube_of c.args.block) c.enter-id.result
    false entered in
    let child = c.child.ensures.exact in
    merging_step c.args.tree.now c.enter-id.new.tree c.loop-i.tree c.merge_part.new.tree
    c.args.other.now
    c.args.p (cube_of c.args.block) c.enter-id.result c.loop-i.i c.args.rule c.requires.linked
    (block_in_map c.args.block) deep few begun c.loop-i.invariant
    (subst (λ a. IsTouched c.loop-i.tree c.merge_part.new.tree a
    (events_of c.args.rule c.loop-i.tree c.args.other.now) false)
    child c.merge_part.ensures.touched)
    (subst (λ a. spare c.loop-i.tree.groups ≤ spare c.merge_part.new.tree.groups + need_in
    c.loop-i.tree c.args.other.now a)
    child c.merge_part.ensures.room)

pub close-requires-clause-linked : goal.close-requires-clause-linked
close-requires-clause-linked t c =
    c.loop-i.invariant.done.linked

pub close-requires-clause-place : goal.close-requires-clause-place
close-requires-clause-place t c =
    c.loop-i.invariant.done.place

pub close-requires-clause-inner : goal.close-requires-clause-inner
close-requires-clause-inner t c =
    merging_back c.args.tree.now c.enter-id.new.tree c.loop-i.tree c.args.other.now c.args.p
    (cube_of c.args.block) c.enter-id.result c.loop-i.i c.args.rule
    (unfolded c.args.tree.now c.enter-id.new.tree c.args.p (cube_of c.args.block)
    c.enter-id.result false (c.enter-id.ensures (cube_of c.args.block) c.requires.block))
    c.loop-i.invariant

pub returns-clause-touched : goal.returns-clause-touched
returns-clause-touched t c =
    let deep : c.args.block.depth ≤ 15 =
    part_low c.args.tree.now c.args.other.now c.args.p (cube_of c.args.block) c.args.node
    c.requires.linked c.requires.other.linked c.requires.block (block_in_map c.args.block)
    c.requires.over c.requires.parted in
    let last : c.loop-i.i ≡ 8 = omega arith in
    merging_end c.args.tree.now c.enter-id.new.tree c.loop-i.tree c.close.new.tree c.args.other.now
    c.args.p (cube_of c.args.block) c.enter-id.result c.args.node c.loop-i.i c.args.rule last
    c.requires.linked c.requires.other (block_in_map c.args.block) deep c.requires.over
    c.requires.known (c.enter-id.ensures (cube_of c.args.block) c.requires.block) c.loop-i.invariant
    (c.close.ensures (cube_of c.args.block) c.loop-i.invariant.done.block)

pub returns-clause-room : goal.returns-clause-room
returns-clause-room t c =
    let deep : c.args.block.depth ≤ 15 =
    part_low c.args.tree.now c.args.other.now c.args.p (cube_of c.args.block) c.args.node
    c.requires.linked c.requires.other.linked c.requires.block (block_in_map c.args.block)
    c.requires.over c.requires.parted in
    let last : c.loop-i.i ≡ 8 = omega arith in
    let entered = c.enter-id.ensures (cube_of c.args.block) c.requires.block in
    let taken =
    part_entered c.args.tree.now c.enter-id.new.tree c.args.other.now c.args.p (cube_of
    c.args.block)
    c.enter-id.result c.args.node c.requires.linked c.requires.place c.requires.block
    (block_in_map c.args.block) c.requires.over c.requires.parted entered in
    merging_spared c.args.tree.now c.enter-id.new.tree c.loop-i.tree c.close.new.tree
    c.args.other.now c.args.p (cube_of c.args.block) c.loop-i.i c.args.rule last deep taken
    c.loop-i.invariant (c.close.ensures (cube_of c.args.block) c.loop-i.invariant.done.block)
