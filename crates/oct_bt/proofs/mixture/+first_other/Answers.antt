use Rattle.std.proofs.Common.{rules, ◌≡◌, ◌<◌, ◌-◌, ◌+◌, ◌*◌, ℕ, Some, None, sym, ap, ◌∙◌, arith}
use Rattle.std.proofs.Common.{subst}
use Rattle.std.proofs.lemmas.Bool.{false≢true}
use Rattle.oct_key.specs.Block.{child_of}
use Rattle.oct_arena.specs.Nodes.{link_of, value_of}
use Rattle.oct_tree.proofs.Paths.{not_inner, place_block, slot_block}
use Rattle.oct_tree.proofs.Links.{place_in_map}
use Rattle.oct_bt.specs.Mixtures.{IsFirstOther}
use Rattle.oct_tree.specs.Classes.{classes_in}
use Rattle.oct_bt.proofs.Mixtures.{class_of_leaf, other_leaf, child_asked, linked_above}
use Rattle.oct_bt.proofs.Mixtures.{searched_all}
use Rattle.oct_bt.proofs.Mixtures.{searched_pure, searched_other, way_fits}
use Rattle.oct_bt.proofs.mixture.+first_other.Goals as goal

pub returns-then-is_same : goal.returns-then-is_same
returns-then-is_same t c =
    let none : link_of c.node-node.result ≡ None =
    not_inner c.node-node.result c.in_default.not-Inner in
    let same = c.is_same.ensures.0 c.if-is_same.true in
    record {
      searched = λ b at. class_of_leaf c.args.tree.now c.args.p b (value_of c.node-node.result)
          c.node-node.ensures.linked
          c.requires.place at (c.node-node.ensures.values b at none)
          ∙ ap Some (sym (c.leaf_class.ensures none) ∙ same);
      linked = c.node-node.ensures.linked;
    }

pub returns-in_default : goal.returns-in_default
returns-in_default t c =
    let none : link_of c.node-node.result ≡ None =
    not_inner c.node-node.result c.in_default.not-Inner in
    record {
      searched = λ b at. (let deep = c.requires.block b at in
          let low = c.requires.levels in
          other_leaf (classes_in c.args.tree.now) c.args.class c.leaf_class.result
          (16 - c.args.depth) b (omega (arith, deep, low))
          (place_in_map c.args.tree.now c.node-node.ensures.linked c.args.p b c.requires.place at)
          (class_of_leaf c.args.tree.now c.args.p b (value_of c.node-node.result)
          c.node-node.ensures.linked c.requires.place at
          (c.node-node.ensures.values b at none) ∙ ap Some (sym (c.leaf_class.ensures none)))
          (λ same. false≢true (sym c.if-is_same.false ∙ c.is_same.ensures.1 same)));
      linked = c.node-node.ensures.linked;
    }

pub first_other-requires : goal.first_other-requires
first_other-requires t c =
    let (place, block, levels) =
    child_asked c.args.tree.now c.args.p c.args.depth c.loop-i.i c.in-Inner.id
    c.in-Inner.ensures.linked c.requires.place c.requires.block
    (ap link_of (sym c.in-Inner.ensures.exact)) (omega arith) in
    (search rules, (place, (block, levels)))

pub loop-i-preserved : goal.loop-i-preserved
loop-i-preserved t c = λ b at.
    searched_pure (classes_in c.args.tree.now) c.args.class (16 - (c.args.depth + 1)) b c.loop-i.i
    c.first_other.result
    (c.loop-i.invariant b at)
    (c.first_other.ensures.searched (child_of b c.loop-i.i)
    (slot_block c.args.tree.now c.in-Inner.ensures.linked c.args.p c.in-Inner.id c.loop-i.i b
    (ap link_of (sym c.in-Inner.ensures.exact)) at))
    c.in_default-first_other.not-Some

pub overflow_mul-result : goal.overflow_mul-result
overflow_mul-result t c =
    let (b, at) = place_block c.args.tree.now c.args.p c.requires.place in
    let is = c.in-Some.ensures.searched (child_of b c.loop-i.i)
    (slot_block c.args.tree.now c.in-Inner.ensures.linked c.args.p c.in-Inner.id c.loop-i.i b
    (ap link_of (sym c.in-Inner.ensures.exact)) at) in
    let few = way_fits c.args.depth 0 c.in-Some.way (omega arith) is.short in
    let fits : 8 * c.in-Some.way < 18446744073709551616 = omega (arith, few) in
    search rules

pub overflow_add-result : goal.overflow_add-result
overflow_add-result t c =
    let (b, at) = place_block c.args.tree.now c.args.p c.requires.place in
    let is = c.in-Some.ensures.searched (child_of b c.loop-i.i)
    (slot_block c.args.tree.now c.in-Inner.ensures.linked c.args.p c.in-Inner.id c.loop-i.i b
    (ap link_of (sym c.in-Inner.ensures.exact)) at) in
    let few = way_fits c.args.depth c.loop-i.i c.in-Some.way (omega arith) is.short in
    let index = c.from.ensures in
    let fits : c.from.result + 8 * c.in-Some.way < 18446744073709551616 = omega (arith, few, index)
    in
    search rules

pub returns-in-Some-clause-searched : goal.returns-in-Some-clause-searched
returns-in-Some-clause-searched t c = λ b at.
    subst (λ (i : ℕ). IsFirstOther (classes_in c.args.tree.now) c.args.class (16 - c.args.depth) b
    (i + 8 * c.in-Some.way))
    (sym c.from.ensures)
    (searched_other (classes_in c.args.tree.now) c.args.class c.args.depth b c.loop-i.i
    c.in-Some.way
    (linked_above c.args.tree.now c.args.p c.args.depth c.in-Inner.id b c.in-Inner.ensures.linked
    c.requires.place c.requires.block
    (ap link_of (sym c.in-Inner.ensures.exact)) at) (omega arith) (c.loop-i.invariant b at)
    (c.in-Some.ensures.searched (child_of b c.loop-i.i)
    (slot_block c.args.tree.now c.in-Inner.ensures.linked c.args.p c.in-Inner.id c.loop-i.i b
    (ap link_of (sym c.in-Inner.ensures.exact)) at)))

pub returns-clause-searched : goal.returns-clause-searched
returns-clause-searched t c = λ b at.
    searched_all (classes_in c.args.tree.now) c.args.class c.args.depth b c.loop-i.i
    (linked_above c.args.tree.now c.args.p c.args.depth c.in-Inner.id b c.in-Inner.ensures.linked
    c.requires.place c.requires.block
    (ap link_of (sym c.in-Inner.ensures.exact)) at) (omega arith) (c.loop-i.invariant b at)
