use Rattle.std.proofs.Common.{rules, ◌≡◌, ◌<◌, ◌-◌, ◌+◌, ◌*◌, ℕ, Some, None, sym, ap, ◌∙◌, arith}
use Rattle.std.proofs.Common.{subst}
use Rattle.oct_key.specs.Block.{child_of}
use Rattle.oct_arena.specs.Nodes.{link_of, value_of}
use Rattle.oct_tree.proofs.Paths.{not_inner, place_block, slot_block}
use Rattle.oct_bt.specs.Mixtures.{IsFirstOther}
use Rattle.oct_tree.specs.Classes.{classes_in}
use Rattle.oct_bt.proofs.Mixtures.{class_of_leaf, pure_next, child_asked, linked_above}
use Rattle.oct_bt.proofs.Mixtures.{searched_all}
use Rattle.oct_bt.proofs.Mixtures.{searched_pure, searched_other, first_mixed, way_fits}
use Rattle.oct_bt.proofs.mixture.+mixture_at.Goals as goal

pub returns-in_default : goal.returns-in_default
returns-in_default t c =
    let none : link_of c.node-node.result ≡ None =
    not_inner c.node-node.result c.in_default.not-Inner in
    record {
      mixture = λ b at. class_of_leaf c.args.tree.now c.args.p b (value_of c.node-node.result)
          c.node-node.ensures.linked
          c.requires.place at (c.node-node.ensures.values b at none)
          ∙ ap Some (sym (c.leaf_class.ensures none));
      linked = c.node-node.ensures.linked;
    }

pub mixture_at-requires : goal.mixture_at-requires
mixture_at-requires t c =
    let (place, block, levels) =
    child_asked c.args.tree.now c.args.p c.args.depth 0 c.in-Inner.id c.in-Inner.ensures.linked
    c.requires.place c.requires.block
    (ap link_of (sym c.in-Inner.ensures.exact)) (omega arith) in
    (search rules, (place, (block, levels)))

pub overflow_mul-result : goal.overflow_mul-result
overflow_mul-result t c =
    let (b, at) = place_block c.args.tree.now c.args.p c.requires.place in
    let is = c.in-Mixed.ensures.mixture (child_of b 0)
    (slot_block c.args.tree.now c.in-Inner.ensures.linked c.args.p c.in-Inner.id 0 b
    (ap link_of (sym c.in-Inner.ensures.exact)) at) in
    let few = way_fits c.args.depth 0 c.in-Mixed.way (omega arith) is.1.short in
    let fits : 8 * c.in-Mixed.way < 18446744073709551616 = omega (arith, few) in
    search rules

pub returns-in-Mixed-clause-mixture : goal.returns-in-Mixed-clause-mixture
returns-in-Mixed-clause-mixture t c = λ b at.
    first_mixed (classes_in c.args.tree.now) c.in-Mixed.first c.args.depth b c.in-Mixed.way
    (linked_above c.args.tree.now c.args.p c.args.depth c.in-Inner.id b c.in-Inner.ensures.linked
    c.requires.place c.requires.block
    (ap link_of (sym c.in-Inner.ensures.exact)) at)
    (c.in-Mixed.ensures.mixture (child_of b 0)
    (slot_block c.args.tree.now c.in-Inner.ensures.linked c.args.p c.in-Inner.id 0 b
    (ap link_of (sym c.in-Inner.ensures.exact)) at))

pub loop-i-init : goal.loop-i-init
loop-i-init t c =
    λ b at. pure_next (classes_in c.args.tree.now) b c.in-Pure.first 0
    (λ i less. absurd (omega arith))
    (c.in-Pure.ensures.mixture (child_of b 0)
    (slot_block c.args.tree.now c.in-Inner.ensures.linked c.args.p c.in-Inner.id 0 b
    (ap link_of (sym c.in-Inner.ensures.exact)) at))

pub first_other-requires-clause-place : goal.first_other-requires-clause-place
first_other-requires-clause-place t c =
    (child_asked c.args.tree.now c.args.p c.args.depth c.loop-i.i c.in-Inner.id
    c.in-Inner.ensures.linked c.requires.place c.requires.block
    (ap link_of (sym c.in-Inner.ensures.exact)) (omega arith)).0

pub first_other-requires-clause-block : goal.first_other-requires-clause-block
first_other-requires-clause-block t c =
    (child_asked c.args.tree.now c.args.p c.args.depth c.loop-i.i c.in-Inner.id
    c.in-Inner.ensures.linked c.requires.place c.requires.block
    (ap link_of (sym c.in-Inner.ensures.exact)) (omega arith)).1

pub first_other-requires-clause-levels : goal.first_other-requires-clause-levels
first_other-requires-clause-levels t c =
    (child_asked c.args.tree.now c.args.p c.args.depth c.loop-i.i c.in-Inner.id
    c.in-Inner.ensures.linked c.requires.place c.requires.block
    (ap link_of (sym c.in-Inner.ensures.exact)) (omega arith)).2

pub loop-i-preserved : goal.loop-i-preserved
loop-i-preserved t c = λ b at.
    searched_pure (classes_in c.args.tree.now) c.in-Pure.first (16 - (c.args.depth + 1)) b
    c.loop-i.i c.first_other.result
    (c.loop-i.invariant b at)
    (c.first_other.ensures.searched (child_of b c.loop-i.i)
    (slot_block c.args.tree.now c.in-Inner.ensures.linked c.args.p c.in-Inner.id c.loop-i.i b
    (ap link_of (sym c.in-Inner.ensures.exact)) at))
    c.in_default-first_other.not-Some

pub overflow_mul-result-in-Some : goal.overflow_mul-result-in-Some
overflow_mul-result-in-Some t c =
    let (b, at) = place_block c.args.tree.now c.args.p c.requires.place in
    let is = c.in-Some.ensures.searched (child_of b c.loop-i.i)
    (slot_block c.args.tree.now c.in-Inner.ensures.linked c.args.p c.in-Inner.id c.loop-i.i b
    (ap link_of (sym c.in-Inner.ensures.exact)) at) in
    let few = way_fits c.args.depth 0 c.in-Some.way (omega arith) is.short in
    let fits : 8 * c.in-Some.way < 18446744073709551616 = omega (arith, few) in
    search rules

pub overflow_add-result : goal.overflow_add-result
overflow_add-result t c =
    let (b, at) = place_block c.args.tree.now c.args.p c.requires.place in
    let is = c.in-Some.ensures.searched (child_of b c.loop-i.i)
    (slot_block c.args.tree.now c.in-Inner.ensures.linked c.args.p c.in-Inner.id c.loop-i.i b
    (ap link_of (sym c.in-Inner.ensures.exact)) at) in
    let few = way_fits c.args.depth c.loop-i.i c.in-Some.way (omega arith) is.short in
    let index = c.from.ensures in
    let fits : c.from.result + 8 * c.in-Some.way < 18446744073709551616 = omega (arith, few, index)
    in
    search rules

pub returns-in-Some-clause-mixture : goal.returns-in-Some-clause-mixture
returns-in-Some-clause-mixture t c = λ b at. (
  let index = c.from.ensures in let first = c.loop-i.auto.i in omega (arith, index, first),
  subst (λ (i : ℕ). IsFirstOther (classes_in c.args.tree.now) c.in-Pure.first (16 - c.args.depth) b
      (i + 8 * c.in-Some.way))
      (sym c.from.ensures)
      (searched_other (classes_in c.args.tree.now) c.in-Pure.first c.args.depth b c.loop-i.i
      c.in-Some.way
      (linked_above c.args.tree.now c.args.p c.args.depth c.in-Inner.id b c.in-Inner.ensures.linked
      c.requires.place c.requires.block
      (ap link_of (sym c.in-Inner.ensures.exact)) at) (omega arith) (c.loop-i.invariant b at)
      (c.in-Some.ensures.searched (child_of b c.loop-i.i)
      (slot_block c.args.tree.now c.in-Inner.ensures.linked c.args.p c.in-Inner.id c.loop-i.i b
      (ap link_of (sym c.in-Inner.ensures.exact)) at))),
)

pub returns-clause-mixture : goal.returns-clause-mixture
returns-clause-mixture t c = λ b at.
    searched_all (classes_in c.args.tree.now) c.in-Pure.first c.args.depth b c.loop-i.i
    (linked_above c.args.tree.now c.args.p c.args.depth c.in-Inner.id b c.in-Inner.ensures.linked
    c.requires.place c.requires.block
    (ap link_of (sym c.in-Inner.ensures.exact)) at) (omega arith) (c.loop-i.invariant b at)
