use Rattle.std.proofs.Common.{◌≡◌, ℕ, ◌+◌, ◌<◌, [], ◌∷◌, Some, refl, sym, subst, ◌∙◌, ap, arith}
use Rattle.std.specs.Int.{bit_not, w64}
use Rattle.oct_key.specs.Block.{Cube, child_of}
use Rattle.oct_key.proofs.Blocks.{depth_child_of}
use Rattle.oct_arena.specs.Nodes.{link_of}
use Rattle.oct_tree.specs.declared.place.Place.TheVariants.{Slot}
use Rattle.oct_tree.specs.Tree.{block_in}
use Rattle.oct_tree.proofs.Paths.{place_block}
use Rattle.oct_odds.specs.Update.{IsSmallEvent}
use Rattle.oct_edit.specs.Listed.{update_of}
use Rattle.oct_edit.specs.Bricks.{listed_one, event_of_bit, IsApplied}
use Rattle.oct_edit.proofs.Needs.{place_in_map}
use Rattle.oct_edit.proofs.UpdateEnds.{one_plain, rest_touched}
use Rattle.oct_edit.proofs.BrickRounds.{rest_of_brick, rest_within, rest_less, none_left}
use Rattle.oct_edit.proofs.BrickWays.{part_of, voxel_index, voxel_at, voxel_masked, voxel_inside}
use Rattle.oct_edit.proofs.BrickWays.{voxel_step, IsAtVoxel, bit_of}
use Rattle.oct_edit.proofs.Updates.{way_start, way_place, way_back, way_end, way_spared, need_some}
use Rattle.oct_edit.proofs.scan.touch_octet.Goals.{In-loop-rest}
use Rattle.oct_edit.proofs.scan.touch_octet.Goals as goal

pub returns-in-Some : goal.returns-in-Some
returns-in-Some c =
    subst (IsApplied c.args.tree.now c.plant_octet.new.tree c.args.p c.args.update)
    (sym c.in-Some.ensures.eager) c.plant_octet.ensures

pub returns-then-is_at_rest : goal.returns-then-is_at_rest
returns-then-is_at_rest c = record {
  touched = λ b e.
      let deep = c.requires.depth b e in
      rest_touched c.args.tree.now c.args.p b (listed_one c.args.update) c.args.lazy
      c.requires.linked c.requires.place e (omega (arith, deep)) (c.requires.inside b e)
      c.if-is_at_rest.ensures.bounds (c.if-is_at_rest.ensures.rests refl);
  room = λ b e. omega arith;
}

pub enter-id-requires-clause-room : goal.enter-id-requires-clause-room
enter-id-requires-clause-room c none =
    let (b, e) = place_block c.args.tree.now c.args.p c.requires.place in
    let deep = c.requires.depth b e in
    need_some c.args.tree.now c.args.p b (listed_one c.args.update) c.requires.linked e
    (omega (arith, deep)) (c.requires.inside b e) (c.requires.room b e)

pub loop-rest-init : goal.loop-rest-init
loop-rest-init c = record {
  way =
      λ b e. way_start c.args.tree.now c.enter-id.new.tree c.args.p b c.enter-id.result _
      c.args.lazy (c.enter-id.ensures b e) (c.requires.inside b e);
  rest = rest_of_brick c.args.update.brick c.requires.brick;
}

-- the first voxel of what is left
first : (c : In-loop-rest) (b : Cube) → block_in c.args.tree.now c.args.p ≡ Some b
    → IsAtVoxel c.enter-id.new.tree c.loop-rest.tree c.args.p b (listed_one c.args.update)
    c.args.update.brick c.loop-rest.rest.brick c.loop-rest.rest.hit c.loop-rest.rest.miss
    (bit_of c.loop-rest.rest.brick) c.args.lazy
first c b e =
    voxel_at c.enter-id.new.tree c.loop-rest.tree c.args.p b (listed_one c.args.update)
    c.args.update.brick c.loop-rest.rest.brick c.loop-rest.rest.hit c.loop-rest.rest.miss
    c.args.lazy (c.requires.depth b e) c.requires.brick c.loop-rest.invariant.rest
    c.loop-rest-test.true (c.loop-rest.invariant.way b e) (c.requires.inside b e)

pub apply_bit-requires-clause-linked : goal.apply_bit-requires-clause-linked
apply_bit-requires-clause-linked c =
    (let (b, e) = place_block c.args.tree.now c.args.p c.requires.place in
    let way = c.loop-rest.invariant.way b e in
    way.done.linked)

pub apply_bit-requires-clause-place : goal.apply_bit-requires-clause-place
apply_bit-requires-clause-place c =
    let (b, e) = place_block c.args.tree.now c.args.p c.requires.place in
    let few : voxel_index c.loop-rest.rest.brick < 8 = omega arith in
    (way_place c.args.tree.now c.enter-id.new.tree c.loop-rest.tree c.args.p b c.enter-id.result
    (voxel_index c.loop-rest.rest.brick) (listed_one c.args.update) (listed_one c.loop-rest.rest)
    c.args.lazy few (c.enter-id.ensures b e) (c.loop-rest.invariant.way b e)).0

pub apply_bit-requires-clause-plain : goal.apply_bit-requires-clause-plain
apply_bit-requires-clause-plain c =
    let (b, e) = place_block c.args.tree.now c.args.p c.requires.place in
    let r = c.loop-rest.rest.brick in
    let h = first (goal.at.apply_bit-requires-clause-plain c).In-loop-rest b e in
    let x = bit_of r in
    let deep = c.requires.depth b e in
    let few : voxel_index r < 8 = omega arith in
    let place =
    way_place c.args.tree.now c.enter-id.new.tree c.loop-rest.tree c.args.p b c.enter-id.result
    (voxel_index r) (listed_one c.args.update) (listed_one c.loop-rest.rest) c.args.lazy few
    (c.enter-id.ensures b e) h.way in
    one_plain c.loop-rest.tree (Slot c.enter-id.result (voxel_index r)) (child_of b (voxel_index r))
    (update_of (part_of r x ∷ []) c.loop-rest.rest.hit c.loop-rest.rest.miss) h.way.done.linked
    place.1 (depth_child_of b (voxel_index r) ∙ ap (λ (d : ℕ). d + 1) deep)
    (voxel_inside c.enter-id.new.tree c.loop-rest.tree c.args.p b (listed_one c.args.update)
    c.args.update.brick r c.loop-rest.rest.hit c.loop-rest.rest.miss x c.args.lazy h)

pub apply_bit-requires-clause-hit : goal.apply_bit-requires-clause-hit
apply_bit-requires-clause-hit c =
    let (b, e) = place_block c.args.tree.now c.args.p c.requires.place in
    let way = c.loop-rest.invariant.way b e in subst IsSmallEvent (sym way.hit) c.requires.hit

pub apply_bit-requires-clause-miss : goal.apply_bit-requires-clause-miss
apply_bit-requires-clause-miss c =
    let (b, e) = place_block c.args.tree.now c.args.p c.requires.place in
    let way = c.loop-rest.invariant.way b e in subst IsSmallEvent (sym way.miss) c.requires.miss

pub loop-rest-smaller : goal.loop-rest-smaller
loop-rest-smaller c =
    let (b, e) = place_block c.args.tree.now c.args.p c.requires.place in
    let r = c.loop-rest.rest.brick in
    let x = bit_of r in
    let h = first (goal.at.loop-rest-smaller c).In-loop-rest b e in
    rest_less b (voxel_index r) r c.within-rest.result.brick c.args.update.brick x (bit_not w64 x)
    c.loop-rest.invariant.rest h.some
    (voxel_masked c.enter-id.new.tree c.loop-rest.tree c.args.p b (listed_one c.args.update)
    c.args.update.brick r c.loop-rest.rest.hit c.loop-rest.rest.miss x c.args.lazy h)
    refl c.within-rest.ensures.brick

pub loop-rest-preserved : goal.loop-rest-preserved
loop-rest-preserved c = record {
  way = λ b e.
      let r = c.loop-rest.rest.brick in
      let x = bit_of r in
      let entered = c.enter-id.ensures b e in
      voxel_step c.enter-id.new.tree c.loop-rest.tree c.apply_bit.new.tree c.args.p
      b c.enter-id.result (listed_one c.args.update) c.args.update.brick r
      c.within-rest.result.brick c.loop-rest.rest.hit c.loop-rest.rest.miss c.within-rest.result.hit
      c.within-rest.result.miss (event_of_bit c.loop-rest.rest x) x c.args.lazy entered.linked
      (place_in_map c.args.tree.now c.args.p b c.requires.linked e)
      (ap link_of entered.link.1)
      (first (goal.at.loop-rest-preserved c).In-loop-rest b e)
      c.within-rest.ensures.brick c.within-rest.ensures.hit c.within-rest.ensures.miss refl
      c.apply_bit.ensures.spare c.apply_bit.ensures.touched;
  rest =
      rest_within c.loop-rest.rest.brick c.within-rest.result.brick c.args.update.brick
      (bit_not w64 (bit_of c.loop-rest.rest.brick))
      c.loop-rest.invariant.rest c.within-rest.ensures.brick;
}

pub close-requires-clause-linked : goal.close-requires-clause-linked
close-requires-clause-linked c =
    (let (b, e) = place_block c.args.tree.now c.args.p c.requires.place in
    let way = c.loop-rest.invariant.way b e in
    way.done.linked)

pub close-requires-clause-place : goal.close-requires-clause-place
close-requires-clause-place c =
    (let (b, e) = place_block c.args.tree.now c.args.p c.requires.place in
    let way = c.loop-rest.invariant.way b e in
    way.done.place)

pub close-requires-clause-inner : goal.close-requires-clause-inner
close-requires-clause-inner c =
    let (b, e) = place_block c.args.tree.now c.args.p c.requires.place in
    (way_back c.args.tree.now c.enter-id.new.tree c.loop-rest.tree c.args.p b c.enter-id.result
    (listed_one c.args.update) (listed_one c.loop-rest.rest) c.args.lazy
    (c.enter-id.ensures b e) (c.loop-rest.invariant.way b e)).2

pub returns : goal.returns
returns c = record {
  touched = λ b e.
      let deep : b.depth ≡ 15 = c.requires.depth b e in
      let way = c.loop-rest.invariant.way b e in
      let none =
      none_left c.args.update.brick c.loop-rest.rest.brick c.loop-rest.rest.hit
      c.loop-rest.rest.miss c.loop-rest.invariant.rest c.loop-rest-test.false in
      way_end c.args.tree.now c.enter-id.new.tree c.loop-rest.tree c.close.new.tree c.args.p b
      c.enter-id.result (listed_one c.args.update) (listed_one c.loop-rest.rest) c.args.lazy
      c.requires.linked c.requires.place e (omega (arith, deep)) (c.requires.inside b e)
      c.if-is_at_rest.ensures.takes (c.enter-id.ensures b e) way none.0 none.1
      (c.close.ensures b way.done.block);
  room = λ b e.
      let deep : b.depth ≡ 15 = c.requires.depth b e in
      let way = c.loop-rest.invariant.way b e in
      way_spared c.args.tree.now c.enter-id.new.tree c.loop-rest.tree c.close.new.tree c.args.p b
      c.enter-id.result (listed_one c.args.update) (listed_one c.loop-rest.rest) c.args.lazy
      (place_in_map c.args.tree.now c.args.p b c.requires.linked e) (omega (arith, deep))
      (c.requires.inside b e) (c.enter-id.ensures b e) way (c.close.ensures b way.done.block);
}

pub is_at_rest-requires-clause-apart : goal.is_at_rest-requires-clause-apart
is_at_rest-requires-clause-apart c =
    let (b, e) = place_block c.args.tree.now c.args.p c.requires.place in
    let inside = c.requires.inside b e in
    inside.apart

pub is_at_rest-requires-clause-some : goal.is_at_rest-requires-clause-some
is_at_rest-requires-clause-some c =
    let (b, e) = place_block c.args.tree.now c.args.p c.requires.place in
    let some = (c.requires.inside b e).some in
    (some.voxel, some.in_map, some.event)
