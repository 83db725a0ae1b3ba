use Rattle.std.proofs.Common.{◌≡◌, ◌+◌, ◌<◌, ◌≤◌, [], refl, sym, subst, ◌∙◌, ap, arith, rules}
use Rattle.std.specs.List.{All}
use Rattle.std.specs.Prelude.{IsSome}
use Rattle.std.proofs.lemmas.List.Elements.{All-head}
use mir.Syntax.{w32}
use mir.Val.{SFits}
use Rattle.oct_key.specs.Voxel.{Voxel, IsInMap}
use Rattle.oct_key.specs.Block.{child_of}
use Rattle.oct_key.proofs.Blocks.{depth_child_of}
use Rattle.oct_tree.specs.declared.place.Place.TheVariants.{Slot}
use Rattle.oct_tree.proofs.Paths.{place_block}
use Rattle.oct_odds.specs.Update.{IsSmallEvent}
use Rattle.oct_odds.specs.declared.event.Event.TheVariants.{Add}
use Rattle.oct_arena.specs.Entries.{spare}
use Rattle.oct_arena.specs.Nodes.{value_of}
use Rattle.oct_tree.specs.Tree.{node_in}
use Rattle.oct_brick.specs.Bricks.{IsBrick, frees_of}
use Rattle.oct_brick.specs.Voxels.{hit_voxels, freed_voxels}
use Rattle.oct_edit.specs.Steps.{IsTouched}
use Rattle.oct_edit.specs.Scan.{events_of}
use Rattle.oct_edit.specs.Parts.{IsAtRest, IsUpdateIn, IsFirstChild, need_in}
use Rattle.oct_edit.specs.Bricks.{listed, listed_one, AreAlike, AreCut}
use Rattle.oct_edit.proofs.BrickRest.{same_update}
use Rattle.oct_edit.proofs.Expansions.{TakesSome}
use Rattle.oct_edit.proofs.Needs.{place_in_map}
use Rattle.oct_edit.proofs.UpdateEnds.{rest_touched}
use Rattle.oct_edit.proofs.BrickParts.{cut_parted}
use Rattle.oct_edit.proofs.BrickCuts.{order_of, part_bricks, later_bricks, part_apart, later_apart}
use Rattle.oct_edit.proofs.BrickCuts.{part_alike, later_alike, cut_shorter, one_brick}
use Rattle.oct_edit.proofs.BrickCuts.{one_listed}
use Rattle.oct_edit.proofs.Updates.{way_start, way_place, way_part, way_room, way_step, way_back}
use Rattle.oct_edit.proofs.Updates.{way_end, way_spared, at_block, need_some}
use Rattle.oct_edit.proofs.scan.+touch_within.Goals as goal

pub touch_brick-requires : goal.touch_brick-requires
touch_brick-requires t c =
    let same : listed c.args.update ≡ listed_one c.of_brick.result =
    one_listed c.args.update.bricks.now c.in-Some.brick c.of_brick.result.brick
    (Add c.args.update.hit) (Add c.args.update.miss) c.of_brick.result.hit c.of_brick.result.miss
    (sym c.first.ensures.value ∙ sym c.copied.ensures ∙ c.in-Some.is) c.requires.ascend
    (subst (λ d. AreAlike d c.args.update.bricks.now) c.if-depth-eq-BRICK_DEPTH.true
    c.requires.alike)
    c.of_brick.ensures.brick c.of_brick.ensures.hit c.of_brick.ensures.miss in
    record {
      linked = c.requires.linked;
      place = c.requires.place;
      depth = λ b e. c.requires.depth b e ∙ c.if-depth-eq-BRICK_DEPTH.true;
      brick =
          subst IsBrick (sym c.of_brick.ensures.brick)
          (All-head IsBrick c.in-Some.brick []
          (subst (All IsBrick)
          (one_brick c.args.update.bricks.now c.in-Some.brick
          (sym c.first.ensures.value ∙ sym c.copied.ensures ∙ c.in-Some.is) c.requires.ascend
          (subst (λ d. AreAlike d c.args.update.bricks.now) c.if-depth-eq-BRICK_DEPTH.true
          c.requires.alike))
          c.requires.bricks));
      inside = λ b e. subst (IsUpdateIn b) same (c.requires.inside b e);
      room =
          λ b e. subst (λ u. need_in (events_of u) b ≤ spare c.args.tree.now.groups) same
          (c.requires.room b e);
      hit = subst IsSmallEvent (sym c.of_brick.ensures.hit) c.requires.hit;
      miss = subst IsSmallEvent (sym c.of_brick.ensures.miss) c.requires.miss;
    }

pub returns-in-Some-clause-touched : goal.returns-in-Some-clause-touched
returns-in-Some-clause-touched t c b e =
    let same : listed c.args.update ≡ listed_one c.of_brick.result =
    one_listed c.args.update.bricks.now c.in-Some.brick c.of_brick.result.brick
    (Add c.args.update.hit) (Add c.args.update.miss) c.of_brick.result.hit c.of_brick.result.miss
    (sym c.first.ensures.value ∙ sym c.copied.ensures ∙ c.in-Some.is) c.requires.ascend
    (subst (λ d. AreAlike d c.args.update.bricks.now) c.if-depth-eq-BRICK_DEPTH.true
    c.requires.alike)
    c.of_brick.ensures.brick c.of_brick.ensures.hit c.of_brick.ensures.miss in
    subst (λ u. IsTouched c.args.tree.now c.touch_brick.new.tree b (events_of u) c.args.lazy)
    (sym same) (c.touch_brick.ensures.touched b e)

pub returns-in-Some-clause-room : goal.returns-in-Some-clause-room
returns-in-Some-clause-room t c b e =
    let same : listed c.args.update ≡ listed_one c.of_brick.result =
    one_listed c.args.update.bricks.now c.in-Some.brick c.of_brick.result.brick
    (Add c.args.update.hit) (Add c.args.update.miss) c.of_brick.result.hit c.of_brick.result.miss
    (sym c.first.ensures.value ∙ sym c.copied.ensures ∙ c.in-Some.is) c.requires.ascend
    (subst (λ d. AreAlike d c.args.update.bricks.now) c.if-depth-eq-BRICK_DEPTH.true
    c.requires.alike)
    c.of_brick.ensures.brick c.of_brick.ensures.hit c.of_brick.ensures.miss in
    subst (λ u. spare c.args.tree.now.groups
    ≤ spare c.touch_brick.new.tree.groups + need_in (events_of u) b)
    (sym same) (c.touch_brick.ensures.room b e)

pub is_at_rest-requires-clause-some : goal.is_at_rest-requires-clause-some
is_at_rest-requires-clause-some t c =
    let (b, e) = place_block c.args.tree.now c.args.p c.requires.place in
    let some = (c.requires.inside b e).some in
    let hit : SFits w32 c.args.update.hit = search rules in
    let miss : SFits w32 c.args.update.miss = search rules in
    subst (λ u. (k : Voxel) × IsInMap k × IsSome (events_of u k))
    (sym (same_update c.args.update.bricks.now c.args.update.hit c.args.update.miss hit miss))
    (some.voxel, some.in_map, some.event)

pub returns-then-is_at_rest-clause-touched : goal.returns-then-is_at_rest-clause-touched
returns-then-is_at_rest-clause-touched t c b e =
    let deep = c.requires.depth b e in
    let hit : SFits w32 c.args.update.hit = search rules in
    let miss : SFits w32 c.args.update.miss = search rules in
    rest_touched c.args.tree.now c.args.p b (listed c.args.update) c.args.lazy c.requires.linked
    c.requires.place e (omega (arith, deep, c.requires.deep)) (c.requires.inside b e)
    c.if-is_at_rest.ensures.bounds
    (subst (λ u. IsAtRest c.args.tree.now.odds u (value_of (node_in c.args.tree.now c.args.p)))
    (same_update c.args.update.bricks.now c.args.update.hit c.args.update.miss hit miss)
    (c.if-is_at_rest.ensures.rests refl))

pub enter-id-requires-clause-room : goal.enter-id-requires-clause-room
enter-id-requires-clause-room t c none =
    let (b, e) = place_block c.args.tree.now c.args.p c.requires.place in
    let deep = c.requires.depth b e in
    need_some c.args.tree.now c.args.p b (listed c.args.update) c.requires.linked e
    (omega (arith, deep, c.requires.deep, c.if-depth-eq-BRICK_DEPTH.false)) (c.requires.inside b e)
    (c.requires.room b e)

pub loop-i-init : goal.loop-i-init
loop-i-init t c = record {
  way =
      λ b e. way_start c.args.tree.now c.enter-id.new.tree c.args.p b c.enter-id.result
      (listed c.args.update) c.args.lazy (c.enter-id.ensures b e) (c.requires.inside b e);
  bricks = c.requires.bricks;
  ascend = c.requires.ascend;
  alike = c.requires.alike;
}

pub first_child-requires-clause-order : goal.first_child-requires-clause-order
first_child-requires-clause-order t c =
    order_of c.args.depth c.loop-i.rest.bricks.now
    (omega (arith, c.requires.deep, c.if-depth-eq-BRICK_DEPTH.false)) c.loop-i.invariant.ascend
    c.loop-i.invariant.alike

pub touch_within-requires : goal.touch_within-requires
touch_within-requires t c =
    let (b, e) = place_block c.args.tree.now c.args.p c.requires.place in
    let deep : b.depth ≡ c.args.depth = c.requires.depth b e in
    let low : b.depth ≤ 15 = omega (arith, deep, c.requires.deep) in
    let deeper : b.depth ≤ 13 = omega
    (arith, deep, c.requires.deep, c.if-depth-eq-BRICK_DEPTH.false) in
    let cut : AreCut b.depth c.in-Some-first_child.i c.loop-i.rest.bricks.now
    c.split.result.0.bricks.now c.split.result.1.bricks.now =
    subst (λ d. AreCut d c.in-Some-first_child.i c.loop-i.rest.bricks.now
    c.split.result.0.bricks.now c.split.result.1.bricks.now)
    (sym deep) c.split.ensures.cut in
    let entered = c.enter-id.ensures b e in
    let way = c.loop-i.invariant.way b e in
    let first : IsFirstChild b.depth (hit_voxels c.loop-i.rest.bricks.now)
    (freed_voxels c.loop-i.rest.bricks.now) c.in-Some-first_child.i =
    subst (λ d. IsFirstChild d (hit_voxels c.loop-i.rest.bricks.now)
    (freed_voxels c.loop-i.rest.bricks.now) c.in-Some-first_child.i)
    (sym deep) c.in-Some-first_child.ensures.some in
    let hits =
    cut_parted (λ b. b.hits) b c.in-Some-first_child.i c.loop-i.rest.bricks.now
    c.split.result.0.bricks.now c.split.result.1.bricks.now deeper c.loop-i.invariant.bricks
    c.loop-i.invariant.ascend
    (part_apart c.args.depth c.in-Some-first_child.i c.loop-i.rest.bricks.now
    c.split.result.0.bricks.now c.split.result.1.bricks.now c.split.ensures.cut
    c.loop-i.invariant.ascend)
    (later_apart c.args.depth c.in-Some-first_child.i c.loop-i.rest.bricks.now
    c.split.result.0.bricks.now c.split.result.1.bricks.now c.split.ensures.cut
    c.loop-i.invariant.ascend)
    way.hits.inside cut in
    let frees =
    cut_parted frees_of b c.in-Some-first_child.i c.loop-i.rest.bricks.now
    c.split.result.0.bricks.now c.split.result.1.bricks.now deeper c.loop-i.invariant.bricks
    c.loop-i.invariant.ascend
    (part_apart c.args.depth c.in-Some-first_child.i c.loop-i.rest.bricks.now
    c.split.result.0.bricks.now c.split.result.1.bricks.now c.split.ensures.cut
    c.loop-i.invariant.ascend)
    (later_apart c.args.depth c.in-Some-first_child.i c.loop-i.rest.bricks.now
    c.split.result.0.bricks.now c.split.result.1.bricks.now c.split.ensures.cut
    c.loop-i.invariant.ascend)
    way.frees.inside cut in
    let few : c.in-Some-first_child.i < 8 = (let l = first.few in omega (arith, l)) in
    let place =
    way_place c.args.tree.now c.enter-id.new.tree c.loop-i.tree c.args.p b c.enter-id.result
    c.in-Some-first_child.i (listed c.args.update) (listed c.loop-i.rest) c.args.lazy few
    entered way in
    let part =
    way_part c.enter-id.new.tree c.loop-i.tree c.args.p b c.in-Some-first_child.i
    (listed c.args.update) (listed c.loop-i.rest) (listed c.split.result.0)
    (listed c.split.result.1) c.args.lazy low (c.requires.inside b e).apart way first hits frees in
    let room =
    way_room c.args.tree.now c.enter-id.new.tree c.loop-i.tree c.args.p b c.enter-id.result
    c.in-Some-first_child.i (listed c.args.update) (listed c.loop-i.rest)
    (listed c.split.result.0) (listed c.split.result.1) c.args.lazy
    (place_in_map c.args.tree.now c.args.p b c.requires.linked e) low
    (c.requires.inside b e) (c.requires.room b e) entered way first hits frees
    (ap Add c.split.ensures.hit.0) (ap Add c.split.ensures.miss.0) in
    let level : (child_of b c.in-Some-first_child.i).depth ≡ c.args.depth + 1 =
    (let next = depth_child_of b c.in-Some-first_child.i in omega (arith, next, deep)) in
    let part_all =
    part_bricks c.args.depth c.in-Some-first_child.i c.loop-i.rest.bricks.now
    c.split.result.0.bricks.now c.split.result.1.bricks.now c.split.ensures.cut
    c.loop-i.invariant.bricks in
    let part_rise =
    part_apart c.args.depth c.in-Some-first_child.i c.loop-i.rest.bricks.now
    c.split.result.0.bricks.now c.split.result.1.bricks.now c.split.ensures.cut
    c.loop-i.invariant.ascend in
    let part_same =
    part_alike c.args.depth c.in-Some-first_child.i c.loop-i.rest.bricks.now
    c.split.result.0.bricks.now c.split.result.1.bricks.now (omega (arith, deep, deeper))
    c.split.ensures.cut c.in-Some-first_child.ensures.brick c.loop-i.invariant.alike in (
      search rules,
      (
        way.done.linked,
        (
          place.0,
          (
            at_block (λ a. a.depth ≡ c.args.depth + 1) c.loop-i.tree
                (Slot c.enter-id.result c.in-Some-first_child.i)
                (child_of b c.in-Some-first_child.i) place.1 level,
            (
              omega (arith, deeper, deep),
              (
                part_all,
                (
                  part_rise,
                  (
                    part_same,
                    (
                      at_block (λ a. IsUpdateIn a (listed c.split.result.0)) c.loop-i.tree
                          (Slot c.enter-id.result c.in-Some-first_child.i)
                          (child_of b c.in-Some-first_child.i) place.1 part,
                      (
                        at_block
                            (λ a. need_in (events_of (listed c.split.result.0)) a
                            ≤ spare c.loop-i.tree.groups)
                            c.loop-i.tree (Slot c.enter-id.result c.in-Some-first_child.i)
                            (child_of b c.in-Some-first_child.i) place.1 room,
                        (search rules, search rules),
                      ),
                    ),
                  ),
                ),
              ),
            ),
          ),
        ),
      ),
    )

pub loop-i-smaller : goal.loop-i-smaller
loop-i-smaller t c =
    cut_shorter c.args.depth c.in-Some-first_child.i c.loop-i.rest.bricks.now
    c.split.result.0.bricks.now c.split.result.1.bricks.now c.split.ensures.cut
    c.in-Some-first_child.ensures.brick

pub loop-i-preserved : goal.loop-i-preserved
loop-i-preserved t c = record {
  way = λ b e.
      let deep : b.depth ≡ c.args.depth = c.requires.depth b e in
      let low : b.depth ≤ 15 = omega (arith, deep, c.requires.deep) in
      let deeper : b.depth ≤ 13 =
      omega (arith, deep, c.requires.deep, c.if-depth-eq-BRICK_DEPTH.false) in
      let cut : AreCut b.depth c.in-Some-first_child.i c.loop-i.rest.bricks.now
      c.split.result.0.bricks.now c.split.result.1.bricks.now =
      subst (λ d. AreCut d c.in-Some-first_child.i c.loop-i.rest.bricks.now
      c.split.result.0.bricks.now c.split.result.1.bricks.now)
      (sym deep) c.split.ensures.cut in
      let entered = c.enter-id.ensures b e in
      let way = c.loop-i.invariant.way b e in
      let first : IsFirstChild b.depth (hit_voxels c.loop-i.rest.bricks.now)
      (freed_voxels c.loop-i.rest.bricks.now) c.in-Some-first_child.i =
      subst (λ d. IsFirstChild d (hit_voxels c.loop-i.rest.bricks.now)
      (freed_voxels c.loop-i.rest.bricks.now) c.in-Some-first_child.i)
      (sym deep) c.in-Some-first_child.ensures.some in
      let hits =
      cut_parted (λ b. b.hits) b c.in-Some-first_child.i c.loop-i.rest.bricks.now
      c.split.result.0.bricks.now c.split.result.1.bricks.now deeper
      c.loop-i.invariant.bricks c.loop-i.invariant.ascend
      (part_apart c.args.depth c.in-Some-first_child.i c.loop-i.rest.bricks.now
      c.split.result.0.bricks.now c.split.result.1.bricks.now c.split.ensures.cut
      c.loop-i.invariant.ascend)
      (later_apart c.args.depth c.in-Some-first_child.i c.loop-i.rest.bricks.now
      c.split.result.0.bricks.now c.split.result.1.bricks.now c.split.ensures.cut
      c.loop-i.invariant.ascend)
      way.hits.inside cut in
      let frees =
      cut_parted frees_of b c.in-Some-first_child.i c.loop-i.rest.bricks.now
      c.split.result.0.bricks.now c.split.result.1.bricks.now deeper
      c.loop-i.invariant.bricks c.loop-i.invariant.ascend
      (part_apart c.args.depth c.in-Some-first_child.i c.loop-i.rest.bricks.now
      c.split.result.0.bricks.now c.split.result.1.bricks.now c.split.ensures.cut
      c.loop-i.invariant.ascend)
      (later_apart c.args.depth c.in-Some-first_child.i c.loop-i.rest.bricks.now
      c.split.result.0.bricks.now c.split.result.1.bricks.now c.split.ensures.cut
      c.loop-i.invariant.ascend)
      way.frees.inside cut in
      let few : c.in-Some-first_child.i < 8 = (let l = first.few in omega (arith, l)) in
      let place =
      way_place c.args.tree.now c.enter-id.new.tree c.loop-i.tree c.args.p b c.enter-id.result
      c.in-Some-first_child.i (listed c.args.update) (listed c.loop-i.rest) c.args.lazy few
      entered way in
      way_step c.enter-id.new.tree c.loop-i.tree c.touch_within.new.tree c.args.p b
      c.in-Some-first_child.i (listed c.args.update) (listed c.loop-i.rest)
      (listed c.split.result.0) (listed c.split.result.1) c.args.lazy entered.linked
      (place_in_map c.args.tree.now c.args.p b c.requires.linked e) low (c.requires.inside b e)
      way first hits frees (ap Add c.split.ensures.hit.0) (ap Add c.split.ensures.miss.0)
      (ap Add c.split.ensures.hit.1)
      (ap Add c.split.ensures.miss.1)
      (c.touch_within.ensures.touched (child_of b c.in-Some-first_child.i) place.1)
      (c.touch_within.ensures.room (child_of b c.in-Some-first_child.i) place.1);
  bricks =
      later_bricks c.args.depth c.in-Some-first_child.i c.loop-i.rest.bricks.now
      c.split.result.0.bricks.now c.split.result.1.bricks.now c.split.ensures.cut
      c.loop-i.invariant.bricks;
  ascend =
      later_apart c.args.depth c.in-Some-first_child.i c.loop-i.rest.bricks.now
      c.split.result.0.bricks.now c.split.result.1.bricks.now c.split.ensures.cut
      c.loop-i.invariant.ascend;
  alike =
      later_alike c.args.depth c.in-Some-first_child.i c.loop-i.rest.bricks.now
      c.split.result.0.bricks.now c.split.result.1.bricks.now c.split.ensures.cut
      c.loop-i.invariant.alike;
}

pub close-requires-clause-linked : goal.close-requires-clause-linked
close-requires-clause-linked t c =
    (let (b, e) = place_block c.args.tree.now c.args.p c.requires.place in
    let way = c.loop-i.invariant.way b e in
    way.done.linked)

pub close-requires-clause-place : goal.close-requires-clause-place
close-requires-clause-place t c =
    (let (b, e) = place_block c.args.tree.now c.args.p c.requires.place in
    let way = c.loop-i.invariant.way b e in
    way.done.place)

pub close-requires-clause-inner : goal.close-requires-clause-inner
close-requires-clause-inner t c =
    let (b, e) = place_block c.args.tree.now c.args.p c.requires.place in
    (way_back c.args.tree.now c.enter-id.new.tree c.loop-i.tree c.args.p b c.enter-id.result
    (listed c.args.update) (listed c.loop-i.rest) c.args.lazy (c.enter-id.ensures b e)
    (c.loop-i.invariant.way b e)).2

pub returns-clause-touched : goal.returns-clause-touched
returns-clause-touched t c b e =
    let deep : b.depth ≡ c.args.depth = c.requires.depth b e in
    let hit : SFits w32 c.args.update.hit = search rules in
    let miss : SFits w32 c.args.update.miss = search rules in
    let way = c.loop-i.invariant.way b e in
    way_end c.args.tree.now c.enter-id.new.tree c.loop-i.tree c.close.new.tree c.args.p b
    c.enter-id.result (listed c.args.update) (listed c.loop-i.rest) c.args.lazy c.requires.linked
    c.requires.place e (omega (arith, deep, c.requires.deep, c.if-depth-eq-BRICK_DEPTH.false))
    (c.requires.inside b e)
    (subst (λ u. TakesSome c.args.tree.now.odds u (value_of (node_in c.args.tree.now c.args.p)))
    (same_update c.args.update.bricks.now c.args.update.hit c.args.update.miss hit miss)
    c.if-is_at_rest.ensures.takes) (c.enter-id.ensures b e) way
    (ap hit_voxels c.in_default-first_child.ensures.none)
    (ap freed_voxels c.in_default-first_child.ensures.none) (c.close.ensures b way.done.block)

pub returns-clause-room : goal.returns-clause-room
returns-clause-room t c b e =
    let deep : b.depth ≡ c.args.depth = c.requires.depth b e in
    let way = c.loop-i.invariant.way b e in
    way_spared c.args.tree.now c.enter-id.new.tree c.loop-i.tree c.close.new.tree c.args.p b
    c.enter-id.result (listed c.args.update) (listed c.loop-i.rest) c.args.lazy
    (place_in_map c.args.tree.now c.args.p b c.requires.linked e)
    (omega (arith, deep, c.requires.deep, c.if-depth-eq-BRICK_DEPTH.false)) (c.requires.inside b e)
    (c.enter-id.ensures b e) way (c.close.ensures b way.done.block)

pub is_at_rest-requires-clause-apart : goal.is_at_rest-requires-clause-apart
is_at_rest-requires-clause-apart t c =
    let (b, e) = place_block c.args.tree.now c.args.p c.requires.place in
    let inside = c.requires.inside b e in
    inside.apart
