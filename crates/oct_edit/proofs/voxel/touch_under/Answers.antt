use Rattle.std.proofs.Common.{◌∙◌, subst, sym, ap, arith, refl, rules}
use Rattle.std.proofs.lemmas.Bool.{true≢false}
use Rattle.std.proofs.lemmas.Int.{to_z-of_z}
use mir.Syntax.{w32}
use mir.Val.{SFits, to_z, of_z}
use Rattle.oct_key.specs.Block.{block_of, child_of}
use Rattle.oct_key.proofs.Blocks.{block_step}
use Rattle.oct_odds.specs.Odds.{odds_of}
use Rattle.oct_odds.specs.Update.{IsWithin}
use Rattle.oct_arena.specs.Nodes.{link_of, value_of}
use Rattle.oct_tree.specs.Tree.{node_in}
use Rattle.oct_edit.specs.Steps.{IsGreaterOf, LeavesBlock, inherited_from}
use Rattle.oct_edit.proofs.Chains.{IsLast, chain_begun, chain_more, chain_ended, leaf_last}
use Rattle.oct_edit.proofs.Chains.{plain_inherited, made_of}
use Rattle.oct_edit.proofs.Descents.{depth_of_place}
use Rattle.oct_edit.proofs.Leaves.{leaf_kept}
use Rattle.oct_edit.proofs.Rooms.{room_here}
use Rattle.oct_edit.proofs.voxel.touch_under.Goals as goal

pub value_over-over-requires : goal.value_over-over-requires
value_over-over-requires c =
    λ eager same. c.if-leaves_block.ensures.only
    (sym same, λ is. absurd (true≢false (sym is ∙ eager)))

pub loop-level-init : goal.loop-level-init
loop-level-init c = record {
  low = omega arith;
  high = c.requires.end.depth;
  chain = chain_begun c.args.tree.now c.args.edit.k c.args.edit.event c.args.edit.lazy
      (node_in c.args.tree.now c.args.end.p) _ c.args.end.depth c.args.end.p c.requires.linked
      c.requires.end.place c.requires.end.block refl;
}

pub split_to-id-requires-clause-place : goal.split_to-id-requires-clause-place
split_to-id-requires-clause-place c = c.loop-level.invariant.chain.place

pub split_to-id-requires-clause-node : goal.split_to-id-requires-clause-node
split_to-id-requires-clause-node c =
    ap link_of c.loop-level.invariant.chain.node ∙ c.requires.end.plain

pub split_to-id-requires-clause-depth : goal.split_to-id-requires-clause-depth
split_to-id-requires-clause-depth c b e =
    let deep =
    depth_of_place c.loop-level.tree c.loop-level.q c.loop-level.level c.args.edit.k b
    c.loop-level.invariant.chain.block e in
    omega (arith, deep, c.loop-level-test.true)

pub split_to-id-requires-clause-room : goal.split_to-id-requires-clause-room
split_to-id-requires-clause-room c =
    let low = c.loop-level.invariant.low in
    let here =
    room_here c.args.tree.now c.args.end.p c.args.end.depth c.args.edit.k c.requires.linked
    c.requires.end.place
    c.requires.end.block (omega (arith, low, c.loop-level-test.true)) c.requires.taken.voxel
    c.requires.room
    c.requires.end.plain in
    let count = c.loop-level.invariant.chain.spare in
    omega (arith, here, count, c.loop-level-test.true)

pub loop-level-preserved : goal.loop-level-preserved
loop-level-preserved c =
    let fits : SFits w32 c.value_over-over.result = search rules in
    let low = c.loop-level.invariant.low in
    record {
      low = omega (arith, low);
      high = omega (arith, c.loop-level-test.true);
      chain = chain_more c.args.tree.now c.loop-level.tree c.split_to-id.new.self c.args.edit.k
          c.args.edit.event c.args.edit.lazy (node_in c.args.tree.now c.args.end.p) _
          c.args.end.depth
          c.loop-level.q c.loop-level.level c.child_of_code.result c.split_to-id.result
          c.loop-level.invariant.chain (omega (arith, c.loop-level-test.true))
          c.requires.taken.voxel
          c.requires.end.plain
          (λ is. to_z-of_z w32 c.value_over-over.result fits ∙ c.value_over-over.ensures.lazily is
          ∙ ap inherited_from (c.value-value.ensures.exact ∙ ap value_of c.requires.end.node)
          ∙ plain_inherited (node_in c.args.tree.now c.args.end.p) c.requires.end.plain)
          c.requires.taken.takes (omega (arith, c.child_of_code.ensures.few))
          (block_step c.loop-level.level c.args.edit.k c.loop-level-test.true
          ∙ ap (child_of (block_of c.loop-level.level c.args.edit.k)) (sym
          (c.child_of_code.ensures.exact
          ∙ c.morton-code.ensures.child c.loop-level.level
          (omega (arith, c.loop-level-test.true)))))
          c.split_to-id.ensures.split c.split_to-id.ensures.values
          (c.split_to-id.ensures.outside (block_of c.loop-level.level c.args.edit.k)
          c.loop-level.invariant.chain.block)
          c.split_to-id.ensures.linked;
    }

pub set_place-requires-clause-place : goal.set_place-requires-clause-place
set_place-requires-clause-place c = c.loop-level.invariant.chain.place

pub set_place-requires-clause-before : goal.set_place-requires-clause-before
set_place-requires-clause-before c =
    ap link_of c.loop-level.invariant.chain.node ∙ c.requires.end.plain

pub set_place-requires-clause-within : goal.set_place-requires-clause-within
set_place-requires-clause-within c =
    subst (λ o. IsWithin o (value_of c.leaf.result))
    (c.odds.ensures ∙ sym c.loop-level.invariant.chain.odds)
    (subst (IsWithin (odds_of c.odds.result)) (sym c.leaf.ensures.value) c.apply-new.ensures.within)

-- the last group needs no more
last : (c : goal.After-set_place)
    → IsLast (node_in c.args.tree.now c.args.end.p) c.leaf.result
    (to_z w32 (of_z w32 c.value_over-over.result)) c.args.edit.lazy
last c =
    let fits : SFits w32 c.value_over-over.result = search rules in
    let read = c.value-value.ensures.exact ∙ ap value_of c.requires.end.node in
    subst (λ v. IsLast (node_in c.args.tree.now c.args.end.p) c.leaf.result v c.args.edit.lazy)
    (sym (to_z-of_z w32 c.value_over-over.result fits))
    (leaf_last (node_in c.args.tree.now c.args.end.p) c.leaf.result c.value_over-over.result
    c.args.edit.lazy
    c.requires.end.plain c.leaf.ensures.plain
    (λ left. c.if-leaves_block.ensures.only
    (subst (λ a. LeavesBlock a c.apply-new.result c.args.edit.lazy) (sym read)
    (subst (λ a. LeavesBlock (value_of (node_in c.args.tree.now c.args.end.p)) a c.args.edit.lazy)
    c.leaf.ensures.value left)))
    (λ eager. subst (λ a. IsGreaterOf a (value_of c.leaf.result) c.value_over-over.result) read
    (subst (λ a. IsGreaterOf c.value-value.result a c.value_over-over.result)
    (sym c.leaf.ensures.value) (c.value_over-over.ensures.eager eager))))

pub returns-clause-touched : goal.returns-clause-touched
returns-clause-touched c =
    let high = c.loop-level.invariant.high in
    chain_ended c.args.tree.now c.loop-level.tree c.set_place.new.self c.args.edit.k
    c.args.edit.event
    c.args.edit.lazy (node_in c.args.tree.now c.args.end.p) _ c.args.end.depth c.loop-level.q
    c.loop-level.level c.leaf.result c.loop-level.invariant.chain
    (omega (arith, high, c.loop-level-test.false)) c.requires.taken.voxel c.set_place.ensures.linked
    c.leaf.ensures.plain c.set_place.ensures.written c.set_place.ensures.values
    c.set_place.ensures.outside (c.leaf.ensures.value
    ∙ made_of _ c.args.tree.now.odds c.args.edit.event c.value-value.result c.apply-new.result
    (node_in c.args.tree.now c.args.end.p) c.apply-new.ensures.exact c.odds.ensures
    (c.value-value.ensures.exact ∙ ap value_of c.requires.end.node)) (last c)

pub returns-clause-spare : goal.returns-clause-spare
returns-clause-spare c =
    let high = c.loop-level.invariant.high in
    let count = c.loop-level.invariant.chain.spare in
    let same = c.set_place.ensures.written.spare in
    omega (arith, high, count, same)

pub returns-then-leaves_block-clause-touched : goal.returns-then-leaves_block-clause-touched
returns-then-leaves_block-clause-touched c =
    leaf_kept c.args.tree.now c.args.end.p c.args.end.depth c.args.edit.k c.args.edit.event
    c.args.edit.lazy
    c.requires.linked c.requires.end.place c.requires.end.block c.requires.end.depth
    c.requires.taken.voxel
    c.requires.end.plain
    (sym (made_of _ c.args.tree.now.odds c.args.edit.event c.value-value.result c.apply-new.result
    (node_in c.args.tree.now c.args.end.p) c.apply-new.ensures.exact c.odds.ensures
    (c.value-value.ensures.exact ∙ ap value_of c.requires.end.node))
    ∙ c.if-leaves_block.ensures.when.0
    ∙ c.value-value.ensures.exact ∙ ap value_of c.requires.end.node)
    (λ is. sym (c.value-value.ensures.exact ∙ ap value_of c.requires.end.node) ∙
    c.if-leaves_block.ensures.when.1 is)
