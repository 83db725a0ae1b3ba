use Rattle.std.proofs.Common.{◌≡◌, ℕ, ◌++◌, ◌-◌, ◌+◌, None, refl, sym, subst, ap, ◌∙◌, arith}
use Rattle.std.proofs.Common.{append-nil, rules, SFits, w32, to_z, of_z, to_z-of_z}
use Rattle.std.specs.Prelude.{is_some}
use Rattle.oct_num.proofs.Results.{on_any_err}
use Rattle.oct_key.specs.Block.{Cube, HoldsVoxel, child_of}
use Rattle.oct_key.specs.CubeOf.{cube_of}
use Rattle.oct_key.proofs.Blocks.{block_in_map}
use Rattle.oct_arena.specs.Nodes.{link_of, value_of}
use Rattle.oct_tree.specs.Tree.{value_at}
use Rattle.oct_tree.specs.declared.place.Place.TheVariants.{Slot}
use Rattle.oct_tree.proofs.Links.{place_in_map}
use Rattle.oct_tree.proofs.Paths.{not_inner}
use Rattle.oct_query.specs.Leaves.{those_sought}
use Rattle.oct_query.proofs.Above.{above, child_slot}
use Rattle.oct_query.proofs.LeafWalks.{all_of_node, first_leaves, sought_choice, pushed_one}
use Rattle.oct_query.proofs.LeafWalks.{chosen_of_several, listed_none, listed_next, some_in_child}
use Rattle.oct_query.proofs.LeafWalks.{listed_leaf, listed_unknown, some_leaf}
use Rattle.oct_query.proofs.LeafBoxes.{none_sought}
use Rattle.oct_query.proofs.leaf_list.+push_leaves.Goals as goal
use Rattle.oct_query.proofs.leaf_list.+push_leaves.Goals.{in-Absent}
use Rattle.oct_query.proofs.leaf_list.+push_leaves.Goals.{in-Leaf+in_ok-push_block-in-Leaf}
use Rattle.oct_query.proofs.leaf_list.+push_leaves.Goals.{in-Inner-node+in_ok-push_leaves-in-Inner-node}

pub returns-then-holds_none-clause-listed : goal.returns-then-holds_none-clause-listed
returns-then-holds_none-clause-listed t c =
    sym (append-nil c.args.found.now)
    ∙ ap (λ l. c.args.found.now ++ l)
    (sym (none_sought (value_at c.args.tree.now) c.args.tree.now.odds c.args.sought
    (cube_of c.args.block) (block_in_map c.args.block)
    (c.holds_none.ensures.none c.if-holds_none.true)))

pub returns-in_default : goal.returns-in_default
returns-in_default t c =
    let none : link_of c.node-node.result ≡ None =
    not_inner c.node-node.result c.in_default.not-Inner in
    let ok = block_in_map c.args.block in
    let all = all_of_node (value_at c.args.tree.now) (cube_of c.args.block)
    (value_of c.node-node.result) c.value.result ok
    (c.node-node.ensures.values (cube_of c.args.block) c.requires.block none)
    c.value.ensures.exact in
    let (listed, memory) = pushed_one (value_at c.args.tree.now) c.args.tree.now.odds c.args.sought
    (cube_of c.args.block) c.value.result c.args.found.now _ c.push_block.result ok all
    c.push_block.ensures.listed c.push_block.ensures.memory in
    record { listed = listed; memory = memory; linked = c.node-node.ensures.linked }

pub returns-in-Some-clause-listed : goal.returns-in-Some-clause-listed
returns-in-Some-clause-listed t c =
    (pushed_one (value_at c.args.tree.now) c.args.tree.now.odds c.args.sought
    (cube_of c.args.block) c.in-Some.value c.args.found.now _ c.push_block-in-Some.result
    (block_in_map c.args.block)
    c.in-Some.ensures.exact c.push_block-in-Some.ensures.listed
    c.push_block-in-Some.ensures.memory).0

pub returns-in-Some-clause-memory : goal.returns-in-Some-clause-memory
returns-in-Some-clause-memory t c =
    (pushed_one (value_at c.args.tree.now) c.args.tree.now.odds c.args.sought
    (cube_of c.args.block) c.in-Some.value c.args.found.now _ c.push_block-in-Some.result
    (block_in_map c.args.block)
    c.in-Some.ensures.exact c.push_block-in-Some.ensures.listed
    c.push_block-in-Some.ensures.memory).1

pub loop-i-init : goal.loop-i-init
loop-i-init t c = record {
  listed = listed_none (value_at c.args.tree.now)
      (those_sought c.args.tree.now.odds c.args.sought)
      (sought_choice c.args.tree.now.odds c.args.sought)
      (16 - (c.args.block.depth + 1)) (cube_of c.args.block) c.args.found.now;
}

pub push_leaves-requires : goal.push_leaves-requires
push_leaves-requires t c =
    let (less, here, at) = child_slot c.args.tree.now c.args.p c.in-Inner.id
    (cube_of c.args.block) (cube_of c.child-in-Inner-node.result) c.loop-i.i
    c.in-Inner.ensures.linked c.requires.place (ap link_of (sym c.in-Inner.ensures.exact))
    c.requires.block c.child-in-Inner-node.ensures.exact (omega arith) in
    (omega (arith, less), (here, at))

pub returns-in_err-push_leaves-in-Inner-node-clause-memory : goal.returns-in_err-push_leaves-in-Inner-node-clause-memory
returns-in_err-push_leaves-in-Inner-node-clause-memory t c =
    let a = above c.args.tree.now c.args.p c.in-Inner.id (cube_of c.args.block)
    c.in-Inner.ensures.linked c.requires.place (ap link_of (sym c.in-Inner.ensures.exact))
    c.requires.block in
    on_any_err c.from_residual-in_err-push_leaves-in-Inner-node.result _
    (λ none. some_in_child (value_at c.args.tree.now)
    (those_sought c.args.tree.now.odds c.args.sought)
    (sought_choice c.args.tree.now.odds c.args.sought)
    (16 - (c.args.block.depth + 1)) (16 - c.child-in-Inner-node.result.depth) (cube_of c.args.block)
    (cube_of c.child-in-Inner-node.result) c.loop-i.i c.child-in-Inner-node.ensures.exact
    (ap (λ (b : Cube). 16 - b.depth) c.child-in-Inner-node.ensures.exact ∙ a.child c.loop-i.i)
    c.in_err-push_leaves-in-Inner-node.ensures.memory 8 (omega arith)
    (sym (chosen_of_several (value_at c.args.tree.now)
    (those_sought c.args.tree.now.odds c.args.sought)
    (16 - (c.args.block.depth + 1)) (cube_of c.args.block) a.ok a.next
    c.in_default-shared_value.ensures.exact) ∙ none))

pub returns-in_err-push_block-in-Leaf-clause-memory : goal.returns-in_err-push_block-in-Leaf-clause-memory
returns-in_err-push_block-in-Leaf-clause-memory t c =
    let a = above c.args.tree.now c.args.p c.in-Inner.id (cube_of c.args.block)
    c.in-Inner.ensures.linked c.requires.place (ap link_of (sym c.in-Inner.ensures.exact))
    c.requires.block in
    let child = child_of (cube_of c.args.block) c.loop-i.i in
    let (less, here, at) = child_slot c.args.tree.now c.args.p c.in-Inner.id
    (cube_of c.args.block) child c.loop-i.i c.in-Inner.ensures.linked c.requires.place
    (ap link_of (sym c.in-Inner.ensures.exact)) c.requires.block refl (omega arith) in
    on_any_err c.from_residual.result _
    (λ none. some_in_child (value_at c.args.tree.now)
    (those_sought c.args.tree.now.odds c.args.sought)
    (sought_choice c.args.tree.now.odds c.args.sought)
    (16 - (c.args.block.depth + 1)) (16 - c.child.result.depth) (cube_of c.args.block)
    (cube_of c.child.result) c.loop-i.i c.child.ensures.exact
    (ap (λ (b : Cube). 16 - b.depth) c.child.ensures.exact ∙ a.child c.loop-i.i)
    (some_leaf (value_at c.args.tree.now) c.args.tree.now.odds c.args.sought
    (16 - c.child.result.depth) (cube_of c.child.result) c.in-Leaf.value
    (to_z w32 (of_z w32 c.in-Leaf.value)) (block_in_map c.child.result)
    (let fits : SFits w32 c.in-Leaf.value = search rules in to_z-of_z fits)
    (λ k inside held. c.in-Leaf.ensures.values child at refl k inside
    (subst (λ (d : Cube). HoldsVoxel d k) c.child.ensures.exact held))
    c.in_err-push_block-in-Leaf.ensures.memory) 8 (omega arith)
    (sym (chosen_of_several (value_at c.args.tree.now)
    (those_sought c.args.tree.now.odds c.args.sought)
    (16 - (c.args.block.depth + 1)) (cube_of c.args.block) a.ok a.next
    c.in_default-shared_value.ensures.exact) ∙ none))

pub loop-i-preserved : goal.loop-i-preserved
loop-i-preserved t c =
    let a = above c.args.tree.now c.args.p c.in-Inner.id (cube_of c.args.block)
    c.in-Inner.ensures.linked c.requires.place (ap link_of (sym c.in-Inner.ensures.exact))
    c.requires.block in
    let child = child_of (cube_of c.args.block) c.loop-i.i in
    let (less, here, at) = child_slot c.args.tree.now c.args.p c.in-Inner.id
    (cube_of c.args.block) child c.loop-i.i c.in-Inner.ensures.linked c.requires.place
    (ap link_of (sym c.in-Inner.ensures.exact)) c.requires.block refl (omega arith) in
    elim c.match-node-2.branch [
      | in-Absent w ↦ record {
        listed = w.found-is ∙ listed_unknown (value_at c.args.tree.now)
            (those_sought c.args.tree.now.odds c.args.sought)
            (sought_choice c.args.tree.now.odds c.args.sought)
            (16 - (c.args.block.depth + 1)) (cube_of c.args.block) c.loop-i.i c.args.found.now
            c.loop-i.found c.loop-i.invariant.listed
            (place_in_map c.args.tree.now c.in-Inner.ensures.linked
            (Slot c.in-Inner.id c.loop-i.i) child here at)
            (w.in-Absent.ensures.values child at refl);
      }
      | in-Leaf+in_ok-push_block-in-Leaf w ↦ record {
        listed = w.found-is ∙ listed_leaf (value_at c.args.tree.now) c.args.tree.now.odds
            c.args.sought
            (16 - (c.args.block.depth + 1)) (16 - w.child.result.depth) (cube_of c.args.block)
            (cube_of w.child.result) c.loop-i.i w.in-Leaf.value
            (to_z w32 (of_z w32 w.in-Leaf.value)) c.args.found.now c.loop-i.found _
            (block_in_map w.child.result)
            (let fits : SFits w32 w.in-Leaf.value = search rules in
            to_z-of_z fits)
            (λ k inside held. w.in-Leaf.ensures.values child at refl k inside
            (subst (λ (d : Cube). HoldsVoxel d k) w.child.ensures.exact held))
            c.loop-i.invariant.listed w.in_ok-push_block-in-Leaf.ensures.listed
            w.child.ensures.exact
            (ap (λ (b : Cube). 16 - b.depth) w.child.ensures.exact ∙ a.child c.loop-i.i);
      }
      | in-Inner-node+in_ok-push_leaves-in-Inner-node w ↦ record {
        listed = w.found-is ∙ listed_next (value_at c.args.tree.now)
            (those_sought c.args.tree.now.odds c.args.sought)
            (sought_choice c.args.tree.now.odds c.args.sought)
            (16 - (c.args.block.depth + 1)) (16 - w.child-in-Inner-node.result.depth)
            (cube_of c.args.block) (cube_of w.child-in-Inner-node.result) c.loop-i.i
            c.args.found.now c.loop-i.found _ c.loop-i.invariant.listed
            w.in_ok-push_leaves-in-Inner-node.ensures.listed w.child-in-Inner-node.ensures.exact
            (ap (λ (b : Cube). 16 - b.depth) w.child-in-Inner-node.ensures.exact
            ∙ a.child c.loop-i.i);
      }
    ]

pub returns-clause-listed : goal.returns-clause-listed
returns-clause-listed t c =
    let a = above c.args.tree.now c.args.p c.in-Inner.id (cube_of c.args.block)
    c.in-Inner.ensures.linked c.requires.place (ap link_of (sym c.in-Inner.ensures.exact))
    c.requires.block in
    let end : c.loop-i.i ≡ 8 = omega arith in
    c.loop-i.invariant.listed
    ∙ ap (λ (n : ℕ). c.args.found.now ++ those_sought c.args.tree.now.odds c.args.sought
    (first_leaves (value_at c.args.tree.now) (16 - (c.args.block.depth + 1))
    (cube_of c.args.block) n)) end
    ∙ ap (λ l. c.args.found.now ++ l)
    (sym (chosen_of_several (value_at c.args.tree.now)
    (those_sought c.args.tree.now.odds c.args.sought)
    (16 - (c.args.block.depth + 1)) (cube_of c.args.block) a.ok a.next
    c.in_default-shared_value.ensures.exact))

pub shared_value-requires-clause-inner : goal.shared_value-requires-clause-inner
shared_value-requires-clause-inner t c =
    ap (λ n. is_some (link_of n)) (sym c.in-Inner.ensures.exact)
