use Rattle.std.proofs.Common.{◌≡◌, refl, sym, subst, ap, arith, rules, Some, false}
use Rattle.std.proofs.Common.{SFits, w32, to_z, of_z, to_z-of_z}
use Rattle.std.specs.Int.{bit_not, w64}
use Rattle.oct_key.specs.Block.{Cube}
use Rattle.oct_arena.specs.Nodes.{link_of}
use Rattle.oct_tree.specs.Tree.{block_in}
use Rattle.oct_tree.specs.Changes.{IsSplit}
use Rattle.oct_tree.proofs.Paths.{place_block}
use Rattle.oct_edit.specs.Bricks.{listed_one, IsPlain}
use Rattle.oct_edit.proofs.Needs.{place_in_map}
use Rattle.oct_edit.proofs.BrickRounds.{rest_of_brick, rest_within, rest_less, none_left}
use Rattle.oct_edit.proofs.BrickWays.{octet_index, octet_at, octet_few, octet_masked}
use Rattle.oct_edit.proofs.BrickOctets.{IsNext, octet_can, octet_done, octet_plain}
use Rattle.oct_edit.proofs.Planting.{planted_start, planted_spared}
use Rattle.oct_edit.proofs.PlantedBricks.{planted_brick}
use Rattle.oct_edit.proofs.PlantedVoxels.{no_hits, still_freed}
use Rattle.oct_edit.proofs.Updates.{need_some}
use Rattle.oct_edit.proofs.scan.plant_brick.Goals.{After-within}
use Rattle.oct_edit.proofs.scan.plant_brick.Goals as goal

pub split_to-id-requires-clause-place : goal.split_to-id-requires-clause-place
split_to-id-requires-clause-place c = c.requires.can.place

pub split_to-id-requires-clause-node : goal.split_to-id-requires-clause-node
split_to-id-requires-clause-node c = ap link_of c.requires.plain.absent

pub split_to-id-requires-clause-depth : goal.split_to-id-requires-clause-depth
split_to-id-requires-clause-depth c b e = (let d = c.requires.can.depth b e in omega (arith, d))

pub split_to-id-requires-clause-room : goal.split_to-id-requires-clause-room
split_to-id-requires-clause-room c =
    let (b, e) = place_block c.args.tree.now c.args.p c.requires.can.place in
    let deep = c.requires.can.depth b e in
    need_some c.args.tree.now c.args.p b (listed_one c.args.update) c.requires.can.linked e
    (omega (arith, deep)) (c.requires.can.inside b e) (c.requires.can.room b e)

pub loop-rest-init : goal.loop-rest-init
loop-rest-init c = record {
  way =
      λ b e. planted_start c.args.tree.now c.split_to-id.new.self c.args.p b
      (listed_one c.args.update) c.requires.can.linked c.split_to-id.ensures.linked
      c.requires.can.place e (c.split_to-id.ensures.outside b e) (c.requires.can.inside b e);
  rest = rest_of_brick c.args.update.brick c.requires.can.brick;
  freed = c.requires.plain.freed;
}

pub octet_bits-octet-requires : goal.octet_bits-octet-requires
octet_bits-octet-requires c =
    octet_few c.loop-rest.rest.brick c.args.update.brick c.loop-rest.invariant.rest
    c.loop-rest-test.true

-- the octet that is next
next : (c : After-within) (b : Cube) → block_in c.args.tree.now c.args.p ≡ Some b
    → IsNext c.split_to-id.new.self c.loop-rest.tree c.args.p b c.args.update c.loop-rest.rest
    c.octet_bits-octet.result false
next c b e =
    octet_at c.split_to-id.new.self c.loop-rest.tree c.args.p b (listed_one c.args.update)
    c.args.update.brick c.loop-rest.rest.brick c.loop-rest.rest.hit c.loop-rest.rest.miss
    c.octet_bits-octet.result false (c.requires.can.depth b e) c.requires.can.brick
    c.loop-rest.invariant.rest c.loop-rest-test.true (c.loop-rest.invariant.way b e)
    (c.requires.can.inside b e) c.octet_bits-octet.ensures (search rules)

pub plant_octet-requires-clause-can : goal.plant_octet-requires-clause-can
plant_octet-requires-clause-can c =
    let (b, e) = place_block c.args.tree.now c.args.p c.requires.can.place in
    let one = c.split_to-id.ensures.split.spare in
    octet_can c.args.tree.now c.split_to-id.new.self c.loop-rest.tree c.args.p b
    c.split_to-id.result c.args.update c.loop-rest.rest c.within.result c.octet_bits-octet.result
    false c.requires.can e (ap link_of c.split_to-id.ensures.split.link) (omega (arith, one))
    (next c b e) c.within.ensures

pub plant_octet-requires-clause-plain : goal.plant_octet-requires-clause-plain
plant_octet-requires-clause-plain c =
    let (b, e) = place_block c.args.tree.now c.args.p c.requires.can.place in
    let fits : SFits w32 c.args.value = search rules in
    let same : to_z w32 (of_z w32 c.args.value) ≡ c.args.value = to_z-of_z fits in
    subst (IsPlain c.loop-rest.tree _ c.within.result) (sym same)
    (octet_plain c.args.tree.now c.split_to-id.new.self c.loop-rest.tree c.args.p b
    c.split_to-id.result c.args.update c.loop-rest.rest c.within.result c.octet_bits-octet.result
    c.args.value c.requires.can e c.split_to-id.ensures.linked
    (subst (IsSplit c.args.tree.now c.split_to-id.new.self c.args.p c.split_to-id.result) same
    c.split_to-id.ensures.split)
    (c.split_to-id.ensures.outside b e) (next c b e) c.within.ensures c.requires.plain
    c.loop-rest.invariant.freed)

pub loop-rest-smaller : goal.loop-rest-smaller
loop-rest-smaller c =
    let (b, e) = place_block c.args.tree.now c.args.p c.requires.can.place in
    let at = next (goal.at.loop-rest-smaller c).After-within b e in
    rest_less b (octet_index c.loop-rest.rest.brick) c.loop-rest.rest.brick
    c.within-rest.result.brick c.args.update.brick c.octet_bits-octet.result
    (bit_not w64 c.octet_bits-octet.result) c.loop-rest.invariant.rest at.some
    (octet_masked c.split_to-id.new.self c.loop-rest.tree c.args.p b (listed_one c.args.update)
    c.args.update.brick c.loop-rest.rest.brick c.loop-rest.rest.hit c.loop-rest.rest.miss
    c.octet_bits-octet.result false at)
    refl c.within-rest.ensures.brick

pub loop-rest-preserved : goal.loop-rest-preserved
loop-rest-preserved c = record {
  way = λ b e.
      octet_done c.args.tree.now c.split_to-id.new.self c.loop-rest.tree c.plant_octet.new.tree
      c.args.p b c.split_to-id.result c.args.update c.loop-rest.rest c.within.result
      c.within-rest.result c.octet_bits-octet.result false c.requires.can e
      c.split_to-id.ensures.linked (ap link_of c.split_to-id.ensures.split.link)
      (next (goal.at.loop-rest-preserved c).After-within b e) c.within.ensures
      c.within-rest.ensures c.plant_octet.ensures;
  rest =
      rest_within c.loop-rest.rest.brick c.within-rest.result.brick c.args.update.brick
      (bit_not w64 c.octet_bits-octet.result) c.loop-rest.invariant.rest
      c.within-rest.ensures.brick;
  freed =
      still_freed c.loop-rest.rest.brick.hits c.within-rest.result.brick.hits _
      c.within-rest.ensures.brick.hits c.loop-rest.invariant.freed;
}

pub returns : goal.returns
returns c = record {
  touched = λ b e.
      let deep = c.requires.can.depth b e in
      let none =
      none_left c.args.update.brick c.loop-rest.rest.brick c.loop-rest.rest.hit
      c.loop-rest.rest.miss c.loop-rest.invariant.rest c.loop-rest-test.false in
      let fits : SFits w32 c.args.value = search rules in
      let same : to_z w32 (of_z w32 c.args.value) ≡ c.args.value = to_z-of_z fits in
      planted_brick c.args.tree.now c.split_to-id.new.self c.loop-rest.tree c.args.p b
      c.split_to-id.result c.args.value (listed_one c.args.update) (listed_one c.loop-rest.rest)
      c.requires.can.linked c.split_to-id.ensures.linked c.requires.can.place e
      (place_in_map c.args.tree.now c.args.p b c.requires.can.linked e) deep
      c.requires.plain.absent
      (subst (IsSplit c.args.tree.now c.split_to-id.new.self c.args.p c.split_to-id.result) same
      c.split_to-id.ensures.split)
      c.split_to-id.ensures.values (c.split_to-id.ensures.outside b e)
      (c.requires.can.inside b e) (no_hits c.args.update.brick c.requires.plain.freed)
      c.requires.plain.value (c.requires.gap b deep (c.requires.can.inside b e))
      (c.loop-rest.invariant.way b e) none.0 none.1;
  room = λ b e.
      let deep = c.requires.can.depth b e in
      planted_spared c.args.tree.now c.split_to-id.new.self c.loop-rest.tree c.args.p b
      c.split_to-id.result _ (listed_one c.args.update) (listed_one c.loop-rest.rest)
      (place_in_map c.args.tree.now c.args.p b c.requires.can.linked e) (omega (arith, deep))
      (c.requires.can.inside b e) c.split_to-id.ensures.split (c.loop-rest.invariant.way b e);
}
