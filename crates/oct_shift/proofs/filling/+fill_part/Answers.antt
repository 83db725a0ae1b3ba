use Rattle.std.proofs.Common.{◌≡◌, ◌+◌, ◌-◌, ◌<◌, ◌≤◌, ◌∙◌, ap, sym, subst, arith, rules, refl}
use Rattle.std.proofs.Common.{Some}
use Rattle.std.specs.Prelude.{is_some}
use Rattle.oct_key.specs.Block.{Cube, child_of}
use Rattle.oct_key.specs.CubeOf.{cube_of}
use Rattle.oct_key.proofs.Blocks.{block_in_map, depth_child_of}
use Rattle.oct_key.proofs.Held.{held_in_map}
use Rattle.oct_odds.specs.Update.{IsWithin}
use Rattle.oct_values.proofs.Axes.{sum_below}
use Rattle.oct_values.proofs.Uniform.{uniform_of}
use Rattle.oct_arena.specs.Entries.{spare}
use Rattle.oct_arena.specs.Nodes.{value_of}
use Rattle.oct_tree.specs.Filled.{IsFilledWith, IsFillingWith}
use Rattle.oct_tree.proofs.Paths.{some_injective}
use Rattle.oct_tree.proofs.Within.{place_by_block}
use Rattle.oct_tree.proofs.Fillings.{filling_first, filling_next, filling_all, put_filled}
use Rattle.oct_tree.proofs.Fillings.{slot_asked}
use Rattle.oct_shift.specs.Moving.{groups_in, moved_values, node_of_row}
use Rattle.oct_shift.proofs.Counts.{groups_uniform, child_room, room_first, room_next}
use Rattle.oct_shift.proofs.Rows.{child_row, row_value, row_low, node_within}
use Rattle.oct_shift.proofs.Settled.{filled_same, settled_room}
use Rattle.oct_shift.proofs.filling.+fill_part.Goals as goal

pub set_place-requires-clause-within : goal.set_place-requires-clause-within
set_place-requires-clause-within t c =
    let (plain, all) = c.in-Some.ensures.some in
    subst (λ o. IsWithin o (value_of c.in-Some.node)) (sym c.requires.odds)
    (subst (λ n. IsWithin c.args.tree.now.odds (value_of n)) (all 0 (omega arith))
    (node_within c.args.tree.now (node_of_row c.args.row.now 0) c.requires.tree
    (c.requires.row.nodes 0 (omega arith))))

pub returns-in-Some-clause-filled : goal.returns-in-Some-clause-filled
returns-in-Some-clause-filled t c =
    let b = cube_of c.args.block in
    let ok = block_in_map c.args.block in
    let (plain, all) = c.in-Some.ensures.some in
    filled_same c.args.moved.now c.set_place.new.self b (λ k. value_of c.in-Some.node)
    (moved_values c.args.tree.now c.args.offset)
    (put_filled c.args.moved.now c.set_place.new.self c.args.p c.in-Some.node b
    (value_of c.in-Some.node) c.requires.linked c.set_place.ensures.linked c.requires.place
    c.requires.block plain (c.set_place.ensures.values b c.requires.block)
    (c.set_place.ensures.outside b c.requires.block) c.set_place.ensures.written)
    (λ k inmap held. sym (row_value c.args.tree.now c.args.offset b c.args.row.now c.in-Some.node
    ok.depth c.requires.row plain all k inmap held))

pub returns-in-Some-clause-room : goal.returns-in-Some-clause-room
returns-in-Some-clause-room t c =
    let b = cube_of c.args.block in
    let ok = block_in_map c.args.block in
    let (plain, all) = c.in-Some.ensures.some in
    let none = groups_uniform (moved_values c.args.tree.now c.args.offset) b ok
    (uniform_of (moved_values c.args.tree.now c.args.offset) b (value_of c.in-Some.node) ok
    (λ k held. row_value c.args.tree.now c.args.offset b c.args.row.now c.in-Some.node ok.depth
    c.requires.row plain all k (held_in_map b k ok held) held)) in
    let kept = c.set_place.ensures.written.spare in
    omega (arith, none, kept)

pub new-way-requires : goal.new-way-requires
new-way-requires t c =
    let low = row_low c.args.tree.now c.args.offset (cube_of c.args.block) c.args.row.now
    c.requires.tree (block_in_map c.args.block) c.requires.row c.in_default.ensures.none in
    omega (arith, low)

pub split-id-requires-clause-depth : goal.split-id-requires-clause-depth
split-id-requires-clause-depth t c = λ b at.
    (
    let low = row_low c.args.tree.now c.args.offset (cube_of c.args.block) c.args.row.now
    c.requires.tree (block_in_map c.args.block) c.requires.row c.in_default.ensures.none in
    subst (λ (a : Cube). a.depth ≤ 15) (some_injective (sym c.requires.block ∙ at)) low)

pub split-id-requires-clause-room : goal.split-id-requires-clause-room
split-id-requires-clause-room t c =
    let low = row_low c.args.tree.now c.args.offset (cube_of c.args.block) c.args.row.now
    c.requires.tree (block_in_map c.args.block) c.requires.row c.in_default.ensures.none in
    let room = c.requires.room in
    omega (arith, low, room)

pub loop-i-init : goal.loop-i-init
loop-i-init t c =
    let v = moved_values c.args.tree.now c.args.offset in
    let b = cube_of c.args.block in
    let split = c.split-id.ensures.split in
    record {
      part = filling_first c.args.moved.now c.split-id.new.self c.args.p c.split-id.result _ b v
          c.split-id.ensures.linked split c.requires.absent c.requires.block;
      room = room_first (λ j. groups_in v (child_of b j)) (spare c.args.moved.now.groups)
          (spare c.split-id.new.self.groups) split.spare;
      odds = split.odds;
    }

pub child-requires-clause-depth : goal.child-requires-clause-depth
child-requires-clause-depth t c =
    let low = row_low c.args.tree.now c.args.offset (cube_of c.args.block) c.args.row.now
    c.requires.tree (block_in_map c.args.block) c.requires.row c.in_default.ensures.none in
    low

pub fill_part-requires : goal.fill_part-requires
fill_part-requires t c =
    let v = moved_values c.args.tree.now c.args.offset in
    let b = cube_of c.args.block in
    let low = row_low c.args.tree.now c.args.offset (cube_of c.args.block) c.args.row.now
    c.requires.tree (block_in_map c.args.block) c.requires.row c.in_default.ensures.none in
    let less : c.loop-i.i < 8 = omega arith in
    let child = c.child.ensures.exact in
    let level : c.child.result.depth ≡ c.args.block.depth + 1 =
    ap (λ (a : Cube). a.depth) child ∙ depth_child_of (cube_of c.args.block) c.loop-i.i in
    let row = child_row c.args.tree.now c.args.offset b (cube_of c.child.result) c.loop-i.i
    c.new-way.result c.args.row.now c.child-child.result c.requires.tree low less child
    c.new-way.ensures c.requires.row c.child-child.ensures in
    let s = c.loop-i.invariant.part in
    let a = slot_asked c.args.moved.now c.loop-i.moved c.args.p c.split-id.result b
    c.args.block.depth c.loop-i.i v refl less c.requires.place s in
    let room = child_room v b c.child.result.depth (spare c.args.moved.now.groups)
    (spare c.loop-i.moved.groups) c.loop-i.i low less level c.requires.room
    c.loop-i.invariant.room in
    let d = c.decreases in (
      search rules,
      (
        s.linked,
        (
          a.place,
          (
            a.block ∙ ap Some (sym child),
            (
              a.absent,
              (
                c.requires.tree,
                (
                  c.loop-i.invariant.odds ∙ c.requires.odds,
                  (
                    row,
                    subst (λ a. groups_in v a + (16 - c.child.result.depth)
                        ≤ spare c.loop-i.moved.groups) (sym child) room,
                  ),
                ),
              ),
            ),
          ),
        ),
      ),
    )

pub loop-i-preserved : goal.loop-i-preserved
loop-i-preserved t c =
    let v = moved_values c.args.tree.now c.args.offset in
    let b = cube_of c.args.block in
    let low = row_low c.args.tree.now c.args.offset (cube_of c.args.block) c.args.row.now
    c.requires.tree (block_in_map c.args.block) c.requires.row c.in_default.ensures.none in
    let less : c.loop-i.i < 8 = omega arith in
    let child = c.child.ensures.exact in
    let filled = subst (λ a. IsFilledWith c.loop-i.moved c.fill_part.new.moved a v) child
    c.fill_part.ensures.filled in
    record {
      part = filling_next c.args.moved.now c.loop-i.moved c.fill_part.new.moved c.args.p
          c.split-id.result b c.loop-i.i v v low less c.requires.linked c.loop-i.invariant.part
          c.fill_part.ensures.linked filled (λ k inmap held. refl);
      room = room_next (λ j. groups_in v (child_of b j)) (spare c.args.moved.now.groups)
          (spare c.loop-i.moved.groups) (spare c.fill_part.new.moved.groups)
          (groups_in v (cube_of c.child.result)) c.loop-i.i c.loop-i.invariant.room
          c.fill_part.ensures.room (ap (groups_in v) child);
      odds = filled.outside.odds ∙ c.loop-i.invariant.odds;
    }

pub settle-requires-clause-place : goal.settle-requires-clause-place
settle-requires-clause-place t c =
    place_by_block c.args.moved.now c.loop-i.moved c.args.p (cube_of c.args.block)
    c.requires.place c.loop-i.invariant.part.block

pub settle-requires-clause-inner : goal.settle-requires-clause-inner
settle-requires-clause-inner t c = ap is_some c.loop-i.invariant.part.link

pub returns-clause-filled : goal.returns-clause-filled
returns-clause-filled t c =
    let v = moved_values c.args.tree.now c.args.offset in
    let b = cube_of c.args.block in
    let low = row_low c.args.tree.now c.args.offset (cube_of c.args.block) c.args.row.now
    c.requires.tree (block_in_map c.args.block) c.requires.row c.in_default.ensures.none in
    let end : c.loop-i.i ≡ 8 = omega arith in
    let s = subst (λ n. IsFillingWith c.args.moved.now c.loop-i.moved c.args.p c.split-id.result b n
    v) end c.loop-i.invariant.part in
    (filling_all c.args.moved.now c.loop-i.moved c.settle.new.self c.args.p c.split-id.result b v
    c.settle.result low c.requires.linked c.requires.place s c.settle.ensures.linked
    c.settle.ensures.values c.settle.ensures.outside c.settle.ensures.when
    c.settle.ensures.collapsed c.settle.ensures.renewed).0

pub returns-clause-room : goal.returns-clause-room
returns-clause-room t c =
    let v = moved_values c.args.tree.now c.args.offset in
    let b = cube_of c.args.block in
    let low = row_low c.args.tree.now c.args.offset (cube_of c.args.block) c.args.row.now
    c.requires.tree (block_in_map c.args.block) c.requires.row c.in_default.ensures.none in
    let end : c.loop-i.i ≡ 8 = omega arith in
    let s = subst (λ n. IsFillingWith c.args.moved.now c.loop-i.moved c.args.p c.split-id.result b n
    v) end c.loop-i.invariant.part in
    let filled = (filling_all c.args.moved.now c.loop-i.moved c.settle.new.self c.args.p
    c.split-id.result b v
    c.settle.result low c.requires.linked c.requires.place s c.settle.ensures.linked
    c.settle.ensures.values c.settle.ensures.outside c.settle.ensures.when
    c.settle.ensures.collapsed c.settle.ensures.renewed).0 in
    settled_room c.loop-i.moved c.settle.new.self c.args.moved.now c.args.p c.split-id.result b v
    c.settle.result (spare c.args.moved.now.groups) low s.linked c.settle.ensures.linked
    (place_by_block c.args.moved.now c.loop-i.moved c.args.p b c.requires.place s.block)
    (block_in_map c.args.block) s.link s.block filled c.settle.ensures.when
    c.settle.ensures.collapsed c.settle.ensures.renewed
    (subst (λ n. spare c.args.moved.now.groups ≡ spare c.loop-i.moved.groups + 1
    + sum_below (λ j. groups_in v (child_of b j)) n) end c.loop-i.invariant.room)
