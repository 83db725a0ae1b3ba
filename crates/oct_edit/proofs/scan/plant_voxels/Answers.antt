use Rattle.std.proofs.Common.{◌≡◌, ℕ, ◌+◌, ◌<◌, [], ◌∷◌, refl, sym, subst, ◌∙◌, ap}
use Rattle.std.proofs.Common.{arith, rules, false, Some, SFits, w32, to_z, of_z, to_z-of_z}
use Rattle.std.specs.Int.{bit_not, w64}
use Rattle.oct_key.specs.Block.{Cube, child_of}
use Rattle.oct_key.proofs.Blocks.{depth_child_of}
use Rattle.oct_odds.specs.Update.{IsWithin as IsValueWithin}
use Rattle.oct_arena.specs.declared.node.Node.TheVariants.{Leaf}
use Rattle.oct_arena.specs.Nodes.{link_of}
use Rattle.oct_tree.specs.Tree.{block_in, value_at}
use Rattle.oct_tree.specs.Changes.{IsSplit, IsWritten, SetsBlock}
use Rattle.oct_tree.specs.declared.place.Place.TheVariants.{Slot}
use Rattle.oct_tree.proofs.Paths.{place_block}
use Rattle.oct_edit.specs.Listed.{update_of}
use Rattle.oct_edit.specs.Bricks.{listed_one}
use Rattle.oct_edit.proofs.Needs.{place_in_map}
use Rattle.oct_edit.proofs.UpdateEnds.{one_plain}
use Rattle.oct_edit.proofs.BrickRounds.{rest_of_brick, rest_within, rest_less, none_left}
use Rattle.oct_edit.proofs.BrickWays.{part_of, voxel_index, voxel_at, voxel_masked, voxel_inside}
use Rattle.oct_edit.proofs.BrickWays.{voxel_step, IsAtVoxel, bit_of}
use Rattle.oct_edit.proofs.Updates.{way_slot, need_some}
use Rattle.oct_edit.proofs.Planting.{planted_start, planted_octet, planted_spared}
use Rattle.oct_edit.proofs.PlantedVoxels.{voxel_planted, no_hits, still_freed, freed_event}
use Rattle.oct_edit.proofs.PlantedVoxels.{within_after}
use Rattle.oct_edit.proofs.scan.plant_voxels.Goals.{In-loop-rest}
use Rattle.oct_edit.proofs.scan.plant_voxels.Goals as goal

pub split_to-id-requires-clause-place : goal.split_to-id-requires-clause-place
split_to-id-requires-clause-place c = c.requires.can.place

pub split_to-id-requires-clause-node : goal.split_to-id-requires-clause-node
split_to-id-requires-clause-node c = ap link_of c.requires.plain.absent

pub split_to-id-requires-clause-depth : goal.split_to-id-requires-clause-depth
split_to-id-requires-clause-depth c b e = (let d = c.requires.can.depth b e in omega (arith, d))

pub split_to-id-requires-clause-room : goal.split_to-id-requires-clause-room
split_to-id-requires-clause-room c =
    let (b, e) = place_block c.args.tree.now c.args.p c.requires.can.place in
    let deep = c.requires.can.depth b e in
    need_some c.args.tree.now c.args.p b (listed_one c.args.update) c.requires.can.linked e
    (omega (arith, deep)) (c.requires.can.inside b e) (c.requires.can.room b e)

pub loop-rest-init : goal.loop-rest-init
loop-rest-init c = record {
  way =
      λ b e. planted_start c.args.tree.now c.split_to-id.new.self c.args.p b
      (listed_one c.args.update) c.requires.can.linked c.split_to-id.ensures.linked
      c.requires.can.place e (c.split_to-id.ensures.outside b e) (c.requires.can.inside b e);
  rest = rest_of_brick c.args.update.brick c.requires.can.brick;
  freed = c.requires.plain.freed;
}

-- the first voxel of what is left
first : (c : In-loop-rest) (b : Cube) → block_in c.args.tree.now c.args.p ≡ Some b
    → IsAtVoxel c.split_to-id.new.self c.loop-rest.tree c.args.p b (listed_one c.args.update)
    c.args.update.brick c.loop-rest.rest.brick c.loop-rest.rest.hit c.loop-rest.rest.miss
    (bit_of c.loop-rest.rest.brick) false
first c b e =
    voxel_at c.split_to-id.new.self c.loop-rest.tree c.args.p b (listed_one c.args.update)
    c.args.update.brick c.loop-rest.rest.brick c.loop-rest.rest.hit c.loop-rest.rest.miss
    false (c.requires.can.depth b e) c.requires.can.brick c.loop-rest.invariant.rest
    c.loop-rest-test.true (c.loop-rest.invariant.way b e) (c.requires.can.inside b e)

pub set_place-requires-clause-place : goal.set_place-requires-clause-place
set_place-requires-clause-place c =
    let (b, e) = place_block c.args.tree.now c.args.p c.requires.can.place in
    let few : voxel_index c.loop-rest.rest.brick < 8 = omega arith in
    (way_slot c.split_to-id.new.self c.loop-rest.tree c.args.p b c.split_to-id.result
    (voxel_index c.loop-rest.rest.brick) (listed_one c.args.update) (listed_one c.loop-rest.rest)
    false few (ap link_of c.split_to-id.ensures.split.link) (c.loop-rest.invariant.way b e)).0

pub set_place-requires-clause-before : goal.set_place-requires-clause-before
set_place-requires-clause-before c =
    let (b, e) = place_block c.args.tree.now c.args.p c.requires.can.place in
    let r = c.loop-rest.rest.brick in
    let h = first (goal.at.set_place-requires-clause-before c).In-loop-rest b e in
    let x = bit_of r in
    let deep = c.requires.can.depth b e in
    let few : voxel_index r < 8 = omega arith in
    let place =
    way_slot c.split_to-id.new.self c.loop-rest.tree c.args.p b c.split_to-id.result
    (voxel_index r) (listed_one c.args.update) (listed_one c.loop-rest.rest) false few
    (ap link_of c.split_to-id.ensures.split.link) h.way in
    one_plain c.loop-rest.tree (Slot c.split_to-id.result (voxel_index r))
    (child_of b (voxel_index r))
    (update_of (part_of r x ∷ []) c.loop-rest.rest.hit c.loop-rest.rest.miss) h.way.done.linked
    place.1 (depth_child_of b (voxel_index r) ∙ ap (λ (d : ℕ). d + 1) deep)
    (voxel_inside c.split_to-id.new.self c.loop-rest.tree c.args.p b (listed_one c.args.update)
    c.args.update.brick r c.loop-rest.rest.hit c.loop-rest.rest.miss x false h)

pub set_place-requires-clause-within : goal.set_place-requires-clause-within
set_place-requires-clause-within c =
    let (b, e) = place_block c.args.tree.now c.args.p c.requires.can.place in
    let way = c.loop-rest.invariant.way b e in
    let fits : SFits w32 c.args.value = search rules in
    let same : to_z w32 (of_z w32 c.args.value) ≡ c.args.value = to_z-of_z fits in
    subst (λ v. IsValueWithin c.loop-rest.tree.odds (Some v)) (sym same)
    (within_after _ _ c.args.value
    (way.done.apart.outside.odds ∙ c.split_to-id.ensures.split.odds) c.requires.plain.within)

pub loop-rest-smaller : goal.loop-rest-smaller
loop-rest-smaller c =
    let (b, e) = place_block c.args.tree.now c.args.p c.requires.can.place in
    let r = c.loop-rest.rest.brick in
    let x = bit_of r in
    let h = first (goal.at.loop-rest-smaller c).In-loop-rest b e in
    rest_less b (voxel_index r) r c.within-rest.result.brick c.args.update.brick x (bit_not w64 x)
    c.loop-rest.invariant.rest h.some
    (voxel_masked c.split_to-id.new.self c.loop-rest.tree c.args.p b (listed_one c.args.update)
    c.args.update.brick r c.loop-rest.rest.hit c.loop-rest.rest.miss x false h)
    refl c.within-rest.ensures.brick

pub loop-rest-preserved : goal.loop-rest-preserved
loop-rest-preserved c = record {
  way = λ b e.
      let r = c.loop-rest.rest.brick in
      let x = bit_of r in
      let fits : SFits w32 c.args.value = search rules in
      let same : to_z w32 (of_z w32 c.args.value) ≡ c.args.value = to_z-of_z fits in
      let ok = place_in_map c.args.tree.now c.args.p b c.requires.can.linked e in
      let h = first (goal.at.loop-rest-preserved c).In-loop-rest b e in
      let slot = Slot c.split_to-id.result (voxel_index r) in
      voxel_step c.split_to-id.new.self c.loop-rest.tree c.set_place.new.self c.args.p
      b c.split_to-id.result (listed_one c.args.update) c.args.update.brick r
      c.within-rest.result.brick c.loop-rest.rest.hit c.loop-rest.rest.miss c.within-rest.result.hit
      c.within-rest.result.miss c.loop-rest.rest.miss x false c.split_to-id.ensures.linked ok
      (ap link_of c.split_to-id.ensures.split.link) h c.within-rest.ensures.brick
      c.within-rest.ensures.hit c.within-rest.ensures.miss
      (freed_event r x c.loop-rest.rest.hit c.loop-rest.rest.miss c.loop-rest.invariant.freed)
      c.set_place.ensures.written.spare
      (voxel_planted c.args.tree.now c.split_to-id.new.self c.loop-rest.tree c.set_place.new.self
      c.args.p b c.split_to-id.result c.args.value (listed_one c.args.update) c.args.update.brick r
      c.loop-rest.rest.hit c.loop-rest.rest.miss x c.split_to-id.ensures.linked
      c.requires.can.linked c.requires.can.place e (c.split_to-id.ensures.outside b e) ok
      (subst (IsSplit c.args.tree.now c.split_to-id.new.self c.args.p c.split_to-id.result) same
      c.split_to-id.ensures.split)
      c.requires.plain.absent c.requires.plain.value h c.set_place.ensures.linked
      (subst (λ v. IsWritten c.loop-rest.tree c.set_place.new.self slot (Leaf v)) same
      c.set_place.ensures.written)
      (λ a at. subst (λ v. SetsBlock (value_at c.loop-rest.tree) (value_at c.set_place.new.self) a
      (Some v)) same (c.set_place.ensures.values a at))
      c.set_place.ensures.outside);
  rest =
      rest_within c.loop-rest.rest.brick c.within-rest.result.brick c.args.update.brick
      (bit_not w64 (bit_of c.loop-rest.rest.brick))
      c.loop-rest.invariant.rest c.within-rest.ensures.brick;
  freed =
      still_freed c.loop-rest.rest.brick.hits c.within-rest.result.brick.hits _
      c.within-rest.ensures.brick.hits c.loop-rest.invariant.freed;
}

pub returns : goal.returns
returns c = record {
  touched = λ b e.
      let deep = c.requires.can.depth b e in
      let none =
      none_left c.args.update.brick c.loop-rest.rest.brick c.loop-rest.rest.hit
      c.loop-rest.rest.miss c.loop-rest.invariant.rest c.loop-rest-test.false in
      let fits : SFits w32 c.args.value = search rules in
      let same : to_z w32 (of_z w32 c.args.value) ≡ c.args.value = to_z-of_z fits in
      let (k, on_map, held, left) = c.requires.gap b deep (c.requires.can.inside b e) in
      planted_octet c.args.tree.now c.split_to-id.new.self c.loop-rest.tree c.args.p b
      c.split_to-id.result c.args.value (listed_one c.args.update) (listed_one c.loop-rest.rest) k
      c.requires.can.linked c.split_to-id.ensures.linked c.requires.can.place e
      (place_in_map c.args.tree.now c.args.p b c.requires.can.linked e) deep
      c.requires.plain.absent
      (subst (IsSplit c.args.tree.now c.split_to-id.new.self c.args.p c.split_to-id.result) same
      c.split_to-id.ensures.split)
      c.split_to-id.ensures.values
      (c.split_to-id.ensures.outside b e) (c.requires.can.inside b e)
      (no_hits c.args.update.brick c.requires.plain.freed) c.requires.plain.value on_map held left
      (c.loop-rest.invariant.way b e) none.0 none.1;
  room = λ b e.
      let deep = c.requires.can.depth b e in
      planted_spared c.args.tree.now c.split_to-id.new.self c.loop-rest.tree c.args.p b
      c.split_to-id.result _ (listed_one c.args.update) (listed_one c.loop-rest.rest)
      (place_in_map c.args.tree.now c.args.p b c.requires.can.linked e) (omega (arith, deep))
      (c.requires.can.inside b e) c.split_to-id.ensures.split (c.loop-rest.invariant.way b e);
}
