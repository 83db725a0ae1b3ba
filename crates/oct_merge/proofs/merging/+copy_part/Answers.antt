use Rattle.std.proofs.Common.{◌≡◌, ℕ, ◌+◌, ◌<◌, ◌≤◌, refl, sym, subst, ◌∙◌, ap, arith, rules}
use Rattle.std.proofs.Common.{Some, None, false, inl, cond, SFits, w32, to_z, of_z, to_z-of_z}
use Rattle.std.proofs.lemmas.Bool.{false≢true}
use Rattle.oct_key.specs.Block.{Cube, child_of}
use Rattle.oct_key.specs.CubeOf.{cube_of}
use Rattle.oct_key.proofs.Blocks.{block_in_map, child_in_map, depth_child_of}
use Rattle.oct_arena.specs.Entries.{spare}
use Rattle.oct_arena.specs.Nodes.{link_of, stored_in, value_of}
use Rattle.oct_tree.specs.declared.place.Place.TheVariants.{Slot}
use Rattle.oct_tree.specs.Tree.{node_in}
use Rattle.oct_tree.specs.Changes.{IsSplit}
use Rattle.oct_tree.proofs.Paths.{some_injective, some_not_none}
use Rattle.oct_edit.specs.Steps.{IsTouched}
use Rattle.oct_edit.proofs.Joins.{unfolded_split}
use Rattle.oct_odds.specs.Update.{IsWithin}
use Rattle.oct_odds.specs.Odds.{Odds}
use Rattle.oct_merge.specs.Walk.{is_needed, need_in}
use Rattle.oct_merge.proofs.Copies.{IsCopying, copying_start, copying_step, copying_fresh}
use Rattle.oct_merge.proofs.Copies.{leaf_copied, like_same, copied_lean, copied_best, copied_end}
use Rattle.oct_merge.proofs.Copies.{copied_spared, copied_node, stored_is}
use Rattle.oct_edit.proofs.NodesOver.{over_live, over_next}
use Rattle.oct_merge.proofs.Parts.{events_of, part_done, part_event, part_known, part_within}
use Rattle.oct_merge.proofs.Parts.{part_low, part_needed, part_room, merging_place, merging_odds}
use Rattle.oct_merge.proofs.Parts.{merging_room}
use Rattle.oct_merge.proofs.merging.+copy_part.Goals as goal

pub split_to-id-requires-clause-node : goal.split_to-id-requires-clause-node
split_to-id-requires-clause-node t c =
    ap link_of c.requires.absent

pub split_to-id-requires-clause-depth : goal.split_to-id-requires-clause-depth
split_to-id-requires-clause-depth t c b e =
    let deep : c.args.block.depth ≤ 15 =
    part_low c.args.tree.now c.args.other.now c.args.p (cube_of c.args.block) c.args.node
    c.requires.linked c.requires.other.formed.linked c.requires.block (block_in_map c.args.block)
    c.requires.over (λ _. c.requires.inner) in
    subst (λ (a : Cube). a.depth ≤ 15) (some_injective (sym c.requires.block ∙ e)) deep

pub split_to-id-requires-clause-room : goal.split_to-id-requires-clause-room
split_to-id-requires-clause-room t c =
    let deep : c.args.block.depth ≤ 15 =
    part_low c.args.tree.now c.args.other.now c.args.p (cube_of c.args.block) c.args.node
    c.requires.linked c.requires.other.formed.linked c.requires.block (block_in_map c.args.block)
    c.requires.over (λ _. c.requires.inner) in
    part_room c.args.tree.now c.args.other.now c.args.p (cube_of c.args.block) c.args.node
    c.requires.linked c.requires.place c.requires.block (block_in_map c.args.block)
    c.requires.over (λ _. c.requires.inner) deep c.requires.room (ap link_of c.requires.absent)

pub loop-i-init : goal.loop-i-init
loop-i-init t c =
    let plain : link_of (node_in c.args.tree.now c.args.p) ≡ None = ap link_of c.requires.absent in
    let entered =
    unfolded_split c.args.tree.now c.split_to-id.new.self c.args.p (cube_of c.args.block)
    c.split_to-id.result _ false
    c.requires.linked c.requires.place c.requires.block plain c.split_to-id.ensures.split
    c.split_to-id.ensures.values
    (c.split_to-id.ensures.outside (cube_of c.args.block) c.requires.block)
    c.split_to-id.ensures.linked (λ lazy. absurd (false≢true lazy)) in
    copying_start c.args.tree.now c.split_to-id.new.self c.args.other.now c.args.p
    (cube_of c.args.block) c.split_to-id.result c.args.node c.args.rule entered

pub child_node-child-requires-clause-live : goal.child_node-child-requires-clause-live
child_node-child-requires-clause-live t c =
    over_live c.args.other.now (cube_of c.args.block) c.args.node c.requires.other.formed.linked
    (block_in_map c.args.block) c.requires.over

-- a child that is absent in the second tree
pub loop-i-preserved-then-is_absent : goal.loop-i-preserved-then-is_absent
loop-i-preserved-then-is_absent t c =
    let deep : c.args.block.depth ≤ 15 =
    part_low c.args.tree.now c.args.other.now c.args.p (cube_of c.args.block) c.args.node
    c.requires.linked c.requires.other.formed.linked c.requires.block (block_in_map c.args.block)
    c.requires.over (λ _. c.requires.inner) in
    let plain : link_of (node_in c.args.tree.now c.args.p) ≡ None = ap link_of c.requires.absent in
    let entered =
    unfolded_split c.args.tree.now c.split_to-id.new.self c.args.p (cube_of c.args.block)
    c.split_to-id.result _ false
    c.requires.linked c.requires.place c.requires.block plain c.split_to-id.ensures.split
    c.split_to-id.ensures.values
    (c.split_to-id.ensures.outside (cube_of c.args.block) c.requires.block)
    c.split_to-id.ensures.linked (λ lazy. absurd (false≢true lazy)) in
    let few : c.loop-i.i < 8 = omega arith in
    let way = c.loop-i.invariant in
    let place =
    merging_place c.args.tree.now c.split_to-id.new.self c.loop-i.tree c.args.other.now c.args.p
    (cube_of c.args.block) c.split_to-id.result c.loop-i.i c.args.rule few entered
    way.merging in
    let fresh =
    copying_fresh c.args.tree.now c.split_to-id.new.self c.loop-i.tree c.args.other.now c.args.p
    (cube_of c.args.block) c.split_to-id.result c.args.node c.loop-i.i c.args.rule _
    (block_in_map c.args.block) deep few c.requires.absent c.split_to-id.ensures.split entered way
    in
    let odds =
    merging_odds c.args.tree.now c.split_to-id.new.self c.loop-i.tree c.args.other.now c.args.p
    (cube_of c.args.block) c.split_to-id.result c.loop-i.i c.args.rule entered
    way.merging c.requires.odds in
    let child = child_of (cube_of c.args.block) c.loop-i.i in
    let over =
    over_next c.args.other.now (cube_of c.args.block) child c.args.node
    c.child_node-child.result c.loop-i.i deep few refl c.child_node-child.ensures
    c.requires.over in
    let in_map =
    child_in_map (cube_of c.args.block) c.loop-i.i (block_in_map c.args.block)
    (omega (arith, deep)) in
    copying_step c.args.tree.now c.split_to-id.new.self c.loop-i.tree c.loop-i.tree c.args.other.now
    c.args.p (cube_of c.args.block) c.split_to-id.result c.args.node c.loop-i.i c.args.rule
    c.requires.linked (block_in_map c.args.block) deep few entered way
    (part_done c.loop-i.tree c.args.other.now (Slot c.split_to-id.result c.loop-i.i) child
    c.child_node-child.result c.args.rule way.merging.done.linked c.requires.other.formed.linked
    place.0 place.1 in_map over odds (inl (c.is_absent.ensures.0 c.if-is_absent.true)))
    (omega arith)
    (like_same _ _
    (fresh ∙ sym (c.is_absent.ensures.0 c.if-is_absent.true) ∙ c.child_node-child.ensures))

pub set_place-requires-clause-place : goal.set_place-requires-clause-place
set_place-requires-clause-place t c =
    let plain : link_of (node_in c.args.tree.now c.args.p) ≡ None = ap link_of c.requires.absent in
    let entered =
    unfolded_split c.args.tree.now c.split_to-id.new.self c.args.p (cube_of c.args.block)
    c.split_to-id.result _ false
    c.requires.linked c.requires.place c.requires.block plain c.split_to-id.ensures.split
    c.split_to-id.ensures.values
    (c.split_to-id.ensures.outside (cube_of c.args.block) c.requires.block)
    c.split_to-id.ensures.linked (λ lazy. absurd (false≢true lazy)) in
    let few : c.loop-i.i < 8 = omega arith in
    let way = c.loop-i.invariant in
    let place =
    merging_place c.args.tree.now c.split_to-id.new.self c.loop-i.tree c.args.other.now c.args.p
    (cube_of c.args.block) c.split_to-id.result c.loop-i.i c.args.rule few entered
    way.merging in
    place.0

pub set_place-requires-clause-before : goal.set_place-requires-clause-before
set_place-requires-clause-before t c =
    let deep : c.args.block.depth ≤ 15 =
    part_low c.args.tree.now c.args.other.now c.args.p (cube_of c.args.block) c.args.node
    c.requires.linked c.requires.other.formed.linked c.requires.block (block_in_map c.args.block)
    c.requires.over (λ _. c.requires.inner) in
    let plain : link_of (node_in c.args.tree.now c.args.p) ≡ None = ap link_of c.requires.absent in
    let entered =
    unfolded_split c.args.tree.now c.split_to-id.new.self c.args.p (cube_of c.args.block)
    c.split_to-id.result _ false
    c.requires.linked c.requires.place c.requires.block plain c.split_to-id.ensures.split
    c.split_to-id.ensures.values
    (c.split_to-id.ensures.outside (cube_of c.args.block) c.requires.block)
    c.split_to-id.ensures.linked (λ lazy. absurd (false≢true lazy)) in
    let few : c.loop-i.i < 8 = omega arith in
    let way = c.loop-i.invariant in
    let fresh =
    copying_fresh c.args.tree.now c.split_to-id.new.self c.loop-i.tree c.args.other.now c.args.p
    (cube_of c.args.block) c.split_to-id.result c.args.node c.loop-i.i c.args.rule _
    (block_in_map c.args.block) deep few c.requires.absent c.split_to-id.ensures.split entered way
    in
    ap link_of fresh

pub set_place-requires-clause-node : goal.set_place-requires-clause-node
set_place-requires-clause-node t c =
    c.is_plain.ensures.0 c.if-is_plain.true

pub set_place-requires-clause-within : goal.set_place-requires-clause-within
set_place-requires-clause-within t c =
    let deep : c.args.block.depth ≤ 15 =
    part_low c.args.tree.now c.args.other.now c.args.p (cube_of c.args.block) c.args.node
    c.requires.linked c.requires.other.formed.linked c.requires.block (block_in_map c.args.block)
    c.requires.over (λ _. c.requires.inner) in
    let plain : link_of (node_in c.args.tree.now c.args.p) ≡ None = ap link_of c.requires.absent in
    let entered =
    unfolded_split c.args.tree.now c.split_to-id.new.self c.args.p (cube_of c.args.block)
    c.split_to-id.result _ false
    c.requires.linked c.requires.place c.requires.block plain c.split_to-id.ensures.split
    c.split_to-id.ensures.values
    (c.split_to-id.ensures.outside (cube_of c.args.block) c.requires.block)
    c.split_to-id.ensures.linked (λ lazy. absurd (false≢true lazy)) in
    let few : c.loop-i.i < 8 = omega arith in
    let way = c.loop-i.invariant in
    let odds =
    merging_odds c.args.tree.now c.split_to-id.new.self c.loop-i.tree c.args.other.now c.args.p
    (cube_of c.args.block) c.split_to-id.result c.loop-i.i c.args.rule entered
    way.merging c.requires.odds in
    let child = child_of (cube_of c.args.block) c.loop-i.i in
    let over =
    over_next c.args.other.now (cube_of c.args.block) child c.args.node
    c.child_node-child.result c.loop-i.i deep few refl c.child_node-child.ensures
    c.requires.over in
    let in_map =
    child_in_map (cube_of c.args.block) c.loop-i.i (block_in_map c.args.block)
    (omega (arith, deep)) in
    (subst (λ (o : Odds). IsWithin o (value_of c.child_node-child.result)) (sym odds)
    (part_within c.args.other.now child c.child_node-child.result c.requires.other.formed.linked
    in_map over
    (c.is_plain.ensures.0 c.if-is_plain.true)))

-- one that is a leaf there
pub loop-i-preserved-then-is_plain : goal.loop-i-preserved-then-is_plain
loop-i-preserved-then-is_plain t c =
    let deep : c.args.block.depth ≤ 15 =
    part_low c.args.tree.now c.args.other.now c.args.p (cube_of c.args.block) c.args.node
    c.requires.linked c.requires.other.formed.linked c.requires.block (block_in_map c.args.block)
    c.requires.over (λ _. c.requires.inner) in
    let plain : link_of (node_in c.args.tree.now c.args.p) ≡ None = ap link_of c.requires.absent in
    let entered =
    unfolded_split c.args.tree.now c.split_to-id.new.self c.args.p (cube_of c.args.block)
    c.split_to-id.result _ false
    c.requires.linked c.requires.place c.requires.block plain c.split_to-id.ensures.split
    c.split_to-id.ensures.values
    (c.split_to-id.ensures.outside (cube_of c.args.block) c.requires.block)
    c.split_to-id.ensures.linked (λ lazy. absurd (false≢true lazy)) in
    let few : c.loop-i.i < 8 = omega arith in
    let way = c.loop-i.invariant in
    let place =
    merging_place c.args.tree.now c.split_to-id.new.self c.loop-i.tree c.args.other.now c.args.p
    (cube_of c.args.block) c.split_to-id.result c.loop-i.i c.args.rule few entered
    way.merging in
    let fresh =
    copying_fresh c.args.tree.now c.split_to-id.new.self c.loop-i.tree c.args.other.now c.args.p
    (cube_of c.args.block) c.split_to-id.result c.args.node c.loop-i.i c.args.rule _
    (block_in_map c.args.block) deep few c.requires.absent c.split_to-id.ensures.split entered way
    in
    let odds =
    merging_odds c.args.tree.now c.split_to-id.new.self c.loop-i.tree c.args.other.now c.args.p
    (cube_of c.args.block) c.split_to-id.result c.loop-i.i c.args.rule entered
    way.merging c.requires.odds in
    let child = child_of (cube_of c.args.block) c.loop-i.i in
    let over =
    over_next c.args.other.now (cube_of c.args.block) child c.args.node
    c.child_node-child.result c.loop-i.i deep few refl c.child_node-child.ensures
    c.requires.over in
    let in_map =
    child_in_map (cube_of c.args.block) c.loop-i.i (block_in_map c.args.block)
    (omega (arith, deep)) in
    let bare = c.is_plain.ensures.0 c.if-is_plain.true in
    let written = c.set_place.ensures.written in
    let same = written.spare in
    copying_step c.args.tree.now c.split_to-id.new.self c.loop-i.tree c.set_place.new.self
    c.args.other.now
    c.args.p (cube_of c.args.block) c.split_to-id.result c.args.node c.loop-i.i c.args.rule
    c.requires.linked (block_in_map c.args.block) deep few entered way
    (leaf_copied c.loop-i.tree c.set_place.new.self (Slot c.split_to-id.result c.loop-i.i) child
    c.child_node-child.result c.args.rule (events_of c.args.rule c.loop-i.tree c.args.other.now)
    way.merging.done.linked place.0 place.1 in_map fresh c.set_place.ensures.linked bare written
    (c.set_place.ensures.values child place.1) (c.set_place.ensures.outside child place.1)
    (part_known c.child_node-child.result
    (λ h. false≢true (sym c.if-is_absent.false ∙ c.is_absent.ensures.1 h)) bare)
    (subst (λ (o : Odds). IsWithin o (value_of c.child_node-child.result)) (sym odds)
    (part_within c.args.other.now child c.child_node-child.result c.requires.other.formed.linked
    in_map over
    (c.is_plain.ensures.0 c.if-is_plain.true)))
    (part_event c.loop-i.tree c.args.other.now (Slot c.split_to-id.result c.loop-i.i) child
    c.child_node-child.result c.args.rule way.merging.done.linked place.0 place.1 in_map
    over (ap link_of fresh) bare))
    (omega (arith, same))
    (like_same _ _ (written.there ∙ c.child_node-child.ensures))

pub child-requires-clause-depth : goal.child-requires-clause-depth
child-requires-clause-depth t c =
    let deep : c.args.block.depth ≤ 15 =
    part_low c.args.tree.now c.args.other.now c.args.p (cube_of c.args.block) c.args.node
    c.requires.linked c.requires.other.formed.linked c.requires.block (block_in_map c.args.block)
    c.requires.over (λ _. c.requires.inner) in
    deep

pub copy_part-requires : goal.copy_part-requires
copy_part-requires t c =
    let deep : c.args.block.depth ≤ 15 =
    part_low c.args.tree.now c.args.other.now c.args.p (cube_of c.args.block) c.args.node
    c.requires.linked c.requires.other.formed.linked c.requires.block (block_in_map c.args.block)
    c.requires.over (λ _. c.requires.inner) in
    let plain : link_of (node_in c.args.tree.now c.args.p) ≡ None = ap link_of c.requires.absent in
    let entered =
    unfolded_split c.args.tree.now c.split_to-id.new.self c.args.p (cube_of c.args.block)
    c.split_to-id.result _ false
    c.requires.linked c.requires.place c.requires.block plain c.split_to-id.ensures.split
    c.split_to-id.ensures.values
    (c.split_to-id.ensures.outside (cube_of c.args.block) c.requires.block)
    c.split_to-id.ensures.linked (λ lazy. absurd (false≢true lazy)) in
    let few : c.loop-i.i < 8 = omega arith in
    let way = c.loop-i.invariant in
    let one =
    part_needed c.args.tree.now c.args.other.now c.args.p (cube_of c.args.block) c.args.node
    c.requires.linked c.requires.place c.requires.block (block_in_map c.args.block)
    c.requires.over (λ _. c.requires.inner) plain in
    let spared = c.split_to-id.ensures.split.spare in
    let taken : spare c.args.tree.now.groups ≤ spare c.split_to-id.new.self.groups
    + cond {A = ℕ} (is_needed c.args.tree.now c.args.other.now (cube_of c.args.block)) 1 0 =
    omega (arith, one, spared) in
    let place =
    merging_place c.args.tree.now c.split_to-id.new.self c.loop-i.tree c.args.other.now c.args.p
    (cube_of c.args.block) c.split_to-id.result c.loop-i.i c.args.rule few entered
    way.merging in
    let fresh =
    copying_fresh c.args.tree.now c.split_to-id.new.self c.loop-i.tree c.args.other.now c.args.p
    (cube_of c.args.block) c.split_to-id.result c.args.node c.loop-i.i c.args.rule _
    (block_in_map c.args.block) deep few c.requires.absent c.split_to-id.ensures.split entered way
    in
    let odds =
    merging_odds c.args.tree.now c.split_to-id.new.self c.loop-i.tree c.args.other.now c.args.p
    (cube_of c.args.block) c.split_to-id.result c.loop-i.i c.args.rule entered
    way.merging c.requires.odds in
    let room =
    merging_room c.args.tree.now c.split_to-id.new.self c.loop-i.tree c.args.other.now c.args.p
    (cube_of c.args.block) c.split_to-id.result c.loop-i.i c.args.rule c.requires.linked
    (block_in_map c.args.block) deep few c.requires.room taken entered way.merging in
    let child = c.child.ensures.exact in
    let level : c.child.result.depth ≡ c.args.block.depth + 1 =
    ap (λ (a : Cube). a.depth) child ∙ depth_child_of (cube_of c.args.block) c.loop-i.i in
    let over =
    over_next c.args.other.now (cube_of c.args.block) (cube_of c.child.result) c.args.node
    c.child_node-child.result c.loop-i.i deep few child c.child_node-child.ensures
    c.requires.over in
    let d = c.decreases in (
      search rules,
      (
        way.merging.done.linked,
        (
          place.0,
          (
            place.1 ∙ ap Some (sym child),
            (
              fresh,
              (
                c.requires.other,
                (
                  c.requires.pruned,
                  (
                    over,
                    (
                      λ bare. false≢true (sym c.if-is_plain.false ∙ c.is_plain.ensures.1 bare),
                      (
                        odds,
                        subst (λ a. need_in c.loop-i.tree c.args.other.now a ≤ spare
                            c.loop-i.tree.groups)
                            (sym child) room,
                      ),
                    ),
                  ),
                ),
              ),
            ),
          ),
        ),
      ),
    )

pub loop-i-preserved : goal.loop-i-preserved
loop-i-preserved t c =
    let deep : c.args.block.depth ≤ 15 =
    part_low c.args.tree.now c.args.other.now c.args.p (cube_of c.args.block) c.args.node
    c.requires.linked c.requires.other.formed.linked c.requires.block (block_in_map c.args.block)
    c.requires.over (λ _. c.requires.inner) in
    let plain : link_of (node_in c.args.tree.now c.args.p) ≡ None = ap link_of c.requires.absent in
    let entered =
    unfolded_split c.args.tree.now c.split_to-id.new.self c.args.p (cube_of c.args.block)
    c.split_to-id.result _ false
    c.requires.linked c.requires.place c.requires.block plain c.split_to-id.ensures.split
    c.split_to-id.ensures.values
    (c.split_to-id.ensures.outside (cube_of c.args.block) c.requires.block)
    c.split_to-id.ensures.linked (λ lazy. absurd (false≢true lazy)) in
    let few : c.loop-i.i < 8 = omega arith in
    let way = c.loop-i.invariant in
    let child = c.child.ensures.exact in
    copying_step c.args.tree.now c.split_to-id.new.self c.loop-i.tree c.copy_part.new.tree
    c.args.other.now
    c.args.p (cube_of c.args.block) c.split_to-id.result c.args.node c.loop-i.i c.args.rule
    c.requires.linked (block_in_map c.args.block) deep few entered way
    (subst (λ a. IsTouched c.loop-i.tree c.copy_part.new.tree a (events_of c.args.rule c.loop-i.tree
    c.args.other.now) false)
    child c.copy_part.ensures.touched)
    (subst (λ a. spare c.loop-i.tree.groups ≤ spare c.copy_part.new.tree.groups + need_in
    c.loop-i.tree c.args.other.now a)
    child c.copy_part.ensures.room)
    (record {
      stored = c.copy_part.ensures.stored ∙ ap stored_in c.child_node-child.ensures;
      plain = λ none. absurd (c.copy_part.ensures.inner none);
    })

pub returns-clause-touched : goal.returns-clause-touched
returns-clause-touched t c =
    let deep : c.args.block.depth ≤ 15 =
    part_low c.args.tree.now c.args.other.now c.args.p (cube_of c.args.block) c.args.node
    c.requires.linked c.requires.other.formed.linked c.requires.block (block_in_map c.args.block)
    c.requires.over (λ _. c.requires.inner) in
    let last : c.loop-i.i ≡ 8 = omega arith in
    let way =
    subst (λ n. IsCopying c.args.tree.now c.split_to-id.new.self c.loop-i.tree c.args.other.now
    c.args.p
    (cube_of c.args.block) c.split_to-id.result c.args.node c.args.rule n) last c.loop-i.invariant
    in
    let fits : SFits w32 c.value_in-value.result = search rules in
    let same : to_z w32 (of_z w32 c.value_in-value.result) ≡ c.value_in-value.result = to_z-of_z
    fits in
    let split =
    subst (IsSplit c.args.tree.now c.split_to-id.new.self c.args.p c.split_to-id.result) same
    c.split_to-id.ensures.split in
    let stored = stored_is c.args.node c.value_in-value.result c.requires.inner
    c.value_in-value.ensures in
    copied_end c.args.tree.now c.split_to-id.new.self c.loop-i.tree c.args.other.now c.args.p
    (cube_of c.args.block) c.split_to-id.result c.args.node c.args.rule c.value_in-value.result
    c.requires.linked c.split_to-id.ensures.linked c.requires.place c.requires.block
    (block_in_map c.args.block) deep c.requires.absent split c.split_to-id.ensures.values
    (c.split_to-id.ensures.outside (cube_of c.args.block) c.requires.block)
    c.requires.other.formed c.requires.over c.requires.inner way
    (copied_best c.args.tree.now c.split_to-id.new.self c.loop-i.tree c.args.other.now c.args.p
    (cube_of c.args.block) c.split_to-id.result c.args.node c.args.rule c.value_in-value.result
    c.requires.other c.requires.over c.requires.inner stored way)
    (copied_lean c.args.tree.now c.split_to-id.new.self c.loop-i.tree c.args.other.now c.args.p
    (cube_of c.args.block) c.split_to-id.result c.args.node c.args.rule
    (over_live c.args.other.now (cube_of c.args.block) c.args.node c.requires.other.formed.linked
    (block_in_map c.args.block) c.requires.over)
    c.requires.inner c.requires.pruned way)

pub returns-clause-room : goal.returns-clause-room
returns-clause-room t c =
    let deep : c.args.block.depth ≤ 15 =
    part_low c.args.tree.now c.args.other.now c.args.p (cube_of c.args.block) c.args.node
    c.requires.linked c.requires.other.formed.linked c.requires.block (block_in_map c.args.block)
    c.requires.over (λ _. c.requires.inner) in
    let last : c.loop-i.i ≡ 8 = omega arith in
    let way =
    subst (λ n. IsCopying c.args.tree.now c.split_to-id.new.self c.loop-i.tree c.args.other.now
    c.args.p
    (cube_of c.args.block) c.split_to-id.result c.args.node c.args.rule n) last c.loop-i.invariant
    in
    copied_spared c.args.tree.now c.split_to-id.new.self c.loop-i.tree c.args.other.now c.args.p
    (cube_of c.args.block) c.split_to-id.result c.args.node c.args.rule _ c.requires.linked
    c.requires.place c.requires.block (block_in_map c.args.block) deep c.requires.over
    c.requires.absent c.requires.inner c.split_to-id.ensures.split way

pub returns-clause-stored : goal.returns-clause-stored
returns-clause-stored t c =
    let last : c.loop-i.i ≡ 8 = omega arith in
    let way =
    subst (λ n. IsCopying c.args.tree.now c.split_to-id.new.self c.loop-i.tree c.args.other.now
    c.args.p
    (cube_of c.args.block) c.split_to-id.result c.args.node c.args.rule n) last c.loop-i.invariant
    in
    let fits : SFits w32 c.value_in-value.result = search rules in
    let same : to_z w32 (of_z w32 c.value_in-value.result) ≡ c.value_in-value.result = to_z-of_z
    fits in
    let split =
    subst (IsSplit c.args.tree.now c.split_to-id.new.self c.args.p c.split_to-id.result) same
    c.split_to-id.ensures.split in
    let stored = stored_is c.args.node c.value_in-value.result c.requires.inner
    c.value_in-value.ensures in
    ap stored_in
    (copied_node c.args.tree.now c.split_to-id.new.self c.loop-i.tree c.args.other.now c.args.p
    (cube_of c.args.block) c.split_to-id.result c.args.node c.args.rule c.value_in-value.result
    split way)
    ∙ sym stored

pub returns-clause-inner : goal.returns-clause-inner
returns-clause-inner t c none =
    let last : c.loop-i.i ≡ 8 = omega arith in
    let way =
    subst (λ n. IsCopying c.args.tree.now c.split_to-id.new.self c.loop-i.tree c.args.other.now
    c.args.p
    (cube_of c.args.block) c.split_to-id.result c.args.node c.args.rule n) last c.loop-i.invariant
    in
    some_not_none
    (ap link_of
    (copied_node c.args.tree.now c.split_to-id.new.self c.loop-i.tree c.args.other.now c.args.p
    (cube_of c.args.block) c.split_to-id.result c.args.node c.args.rule _
    c.split_to-id.ensures.split way))
    none
