use Rattle.std.proofs.Common.{◌≡◌, Some, refl, sym, subst, ap, arith, rules}
use Rattle.std.specs.Int.{bit_not, w64}
use Rattle.oct_key.specs.Block.{Cube}
use Rattle.oct_arena.specs.Nodes.{link_of}
use Rattle.oct_tree.specs.Tree.{block_in}
use Rattle.oct_tree.proofs.Paths.{place_block}
use Rattle.oct_edit.specs.Bricks.{listed_one, IsApplied}
use Rattle.oct_edit.proofs.Needs.{place_in_map, entered_spare}
use Rattle.oct_edit.proofs.UpdateEnds.{rest_touched}
use Rattle.oct_edit.proofs.BrickRounds.{rest_of_brick, rest_within, rest_less, none_left}
use Rattle.oct_edit.proofs.BrickWays.{octet_index, octet_at, octet_few, octet_masked}
use Rattle.oct_edit.proofs.BrickOctets.{IsNext, octet_can, octet_done}
use Rattle.oct_edit.proofs.Updates.{way_start, way_back, way_end, way_spared, need_some}
use Rattle.oct_edit.proofs.scan.touch_brick.Goals.{After-within}
use Rattle.oct_edit.proofs.scan.touch_brick.Goals as goal

pub returns-in-Some : goal.returns-in-Some
returns-in-Some c =
    subst (IsApplied c.args.tree.now c.plant_brick.new.tree c.args.p c.args.update)
    (sym c.in-Some.ensures.eager) c.plant_brick.ensures

pub returns-then-is_at_rest : goal.returns-then-is_at_rest
returns-then-is_at_rest c = record {
  touched = λ b e.
      let deep = c.requires.depth b e in
      rest_touched c.args.tree.now c.args.p b (listed_one c.args.update) c.args.lazy
      c.requires.linked c.requires.place e (omega (arith, deep)) (c.requires.inside b e)
      c.if-is_at_rest.ensures.bounds (c.if-is_at_rest.ensures.rests refl);
  room = λ b e. omega arith;
}

pub enter-id-requires-clause-room : goal.enter-id-requires-clause-room
enter-id-requires-clause-room c none =
    let (b, e) = place_block c.args.tree.now c.args.p c.requires.place in
    let deep = c.requires.depth b e in
    need_some c.args.tree.now c.args.p b (listed_one c.args.update) c.requires.linked e
    (omega (arith, deep)) (c.requires.inside b e) (c.requires.room b e)

pub loop-rest-init : goal.loop-rest-init
loop-rest-init c = record {
  way =
      λ b e. way_start c.args.tree.now c.enter-id.new.tree c.args.p b c.enter-id.result _
      c.args.lazy (c.enter-id.ensures b e) (c.requires.inside b e);
  rest = rest_of_brick c.args.update.brick c.requires.brick;
}

pub octet_bits-octet-requires : goal.octet_bits-octet-requires
octet_bits-octet-requires c =
    octet_few c.loop-rest.rest.brick c.args.update.brick c.loop-rest.invariant.rest
    c.loop-rest-test.true

-- the octet that is next
next : (c : After-within) (b : Cube) → block_in c.args.tree.now c.args.p ≡ Some b
    → IsNext c.enter-id.new.tree c.loop-rest.tree c.args.p b c.args.update c.loop-rest.rest
    c.octet_bits-octet.result c.args.lazy
next c b e =
    octet_at c.enter-id.new.tree c.loop-rest.tree c.args.p b (listed_one c.args.update)
    c.args.update.brick c.loop-rest.rest.brick c.loop-rest.rest.hit c.loop-rest.rest.miss
    c.octet_bits-octet.result c.args.lazy (c.requires.depth b e) c.requires.brick
    c.loop-rest.invariant.rest c.loop-rest-test.true (c.loop-rest.invariant.way b e)
    (c.requires.inside b e) c.octet_bits-octet.ensures (search rules)

pub touch_octet-requires : goal.touch_octet-requires
touch_octet-requires c =
    let (b, e) = place_block c.args.tree.now c.args.p c.requires.place in
    let entered = c.enter-id.ensures b e in
    octet_can c.args.tree.now c.enter-id.new.tree c.loop-rest.tree c.args.p b c.enter-id.result
    c.args.update c.loop-rest.rest c.within.result c.octet_bits-octet.result c.args.lazy
    c.requires e (ap link_of entered.link.1)
    (entered_spare c.args.tree.now c.enter-id.new.tree c.args.p b c.enter-id.result entered)
    (next c b e) c.within.ensures

pub loop-rest-smaller : goal.loop-rest-smaller
loop-rest-smaller c =
    let (b, e) = place_block c.args.tree.now c.args.p c.requires.place in
    let at = next (goal.at.loop-rest-smaller c).After-within b e in
    rest_less b (octet_index c.loop-rest.rest.brick) c.loop-rest.rest.brick
    c.within-rest.result.brick c.args.update.brick c.octet_bits-octet.result
    (bit_not w64 c.octet_bits-octet.result) c.loop-rest.invariant.rest at.some
    (octet_masked c.enter-id.new.tree c.loop-rest.tree c.args.p b (listed_one c.args.update)
    c.args.update.brick c.loop-rest.rest.brick c.loop-rest.rest.hit c.loop-rest.rest.miss
    c.octet_bits-octet.result c.args.lazy at)
    refl c.within-rest.ensures.brick

pub loop-rest-preserved : goal.loop-rest-preserved
loop-rest-preserved c = record {
  way = λ b e.
      let entered = c.enter-id.ensures b e in
      octet_done c.args.tree.now c.enter-id.new.tree c.loop-rest.tree c.touch_octet.new.tree
      c.args.p b c.enter-id.result c.args.update c.loop-rest.rest c.within.result
      c.within-rest.result c.octet_bits-octet.result c.args.lazy c.requires e entered.linked
      (ap link_of entered.link.1)
      (next (goal.at.loop-rest-preserved c).After-within b e) c.within.ensures
      c.within-rest.ensures c.touch_octet.ensures;
  rest =
      rest_within c.loop-rest.rest.brick c.within-rest.result.brick c.args.update.brick
      (bit_not w64 c.octet_bits-octet.result) c.loop-rest.invariant.rest
      c.within-rest.ensures.brick;
}

pub close-requires-clause-linked : goal.close-requires-clause-linked
close-requires-clause-linked c =
    (let (b, e) = place_block c.args.tree.now c.args.p c.requires.place in
    let way = c.loop-rest.invariant.way b e in
    way.done.linked)

pub close-requires-clause-place : goal.close-requires-clause-place
close-requires-clause-place c =
    (let (b, e) = place_block c.args.tree.now c.args.p c.requires.place in
    let way = c.loop-rest.invariant.way b e in
    way.done.place)

pub close-requires-clause-inner : goal.close-requires-clause-inner
close-requires-clause-inner c =
    let (b, e) = place_block c.args.tree.now c.args.p c.requires.place in
    (way_back c.args.tree.now c.enter-id.new.tree c.loop-rest.tree c.args.p b c.enter-id.result
    (listed_one c.args.update) (listed_one c.loop-rest.rest) c.args.lazy
    (c.enter-id.ensures b e) (c.loop-rest.invariant.way b e)).2

pub returns : goal.returns
returns c = record {
  touched = λ b e.
      let deep : b.depth ≡ 14 = c.requires.depth b e in
      let way = c.loop-rest.invariant.way b e in
      let none =
      none_left c.args.update.brick c.loop-rest.rest.brick c.loop-rest.rest.hit
      c.loop-rest.rest.miss c.loop-rest.invariant.rest c.loop-rest-test.false in
      way_end c.args.tree.now c.enter-id.new.tree c.loop-rest.tree c.close.new.tree c.args.p b
      c.enter-id.result (listed_one c.args.update) (listed_one c.loop-rest.rest) c.args.lazy
      c.requires.linked c.requires.place e (omega (arith, deep)) (c.requires.inside b e)
      c.if-is_at_rest.ensures.takes (c.enter-id.ensures b e) way none.0 none.1
      (c.close.ensures b way.done.block);
  room = λ b e.
      let deep : b.depth ≡ 14 = c.requires.depth b e in
      let way = c.loop-rest.invariant.way b e in
      way_spared c.args.tree.now c.enter-id.new.tree c.loop-rest.tree c.close.new.tree c.args.p b
      c.enter-id.result (listed_one c.args.update) (listed_one c.loop-rest.rest) c.args.lazy
      (place_in_map c.args.tree.now c.args.p b c.requires.linked e) (omega (arith, deep))
      (c.requires.inside b e) (c.enter-id.ensures b e) way (c.close.ensures b way.done.block);
}

pub is_at_rest-requires-clause-apart : goal.is_at_rest-requires-clause-apart
is_at_rest-requires-clause-apart c =
    let (b, e) = place_block c.args.tree.now c.args.p c.requires.place in
    let inside = c.requires.inside b e in
    inside.apart

pub is_at_rest-requires-clause-some : goal.is_at_rest-requires-clause-some
is_at_rest-requires-clause-some c =
    let (b, e) = place_block c.args.tree.now c.args.p c.requires.place in
    let some = (c.requires.inside b e).some in
    (some.voxel, some.in_map, some.event)
