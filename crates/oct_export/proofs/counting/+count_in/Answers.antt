use Rattle.std.proofs.Common.{rules, ◌≡◌, ◌<◌, ◌+◌, None, refl, sym, ap, ◌∙◌, arith}
use Rattle.oct_key.specs.Block.{child_of}
use Rattle.oct_arena.specs.Nodes.{link_of, value_of}
use Rattle.oct_tree.proofs.Links.{place_in_map}
use Rattle.oct_tree.proofs.Paths.{not_inner, place_block, slot_block}
use Rattle.oct_tree.specs.Classes.{classes_in}
use Rattle.oct_export.proofs.Places.{linked_above, child_asked}
use Rattle.oct_export.proofs.Boxes.{leaf_full, first_full, first_boxes}
use Rattle.oct_export.proofs.Counts.{leaf_class, leaf_count, full_next, count_next, count_fits}
use Rattle.oct_export.proofs.Counts.{full_of_all, one_box, count_of_all}
use Rattle.oct_export.proofs.counting.+count_in.Goals as goal

pub returns-in_default : goal.returns-in_default
returns-in_default t c =
    let none : link_of c.node-node.result ≡ None =
    not_inner c.node-node.result c.in_default.not-Inner in
    record {
      full = λ b at. (let ok =
          place_in_map c.args.tree.now c.node-node.ensures.linked c.args.p b c.requires.place at in
          leaf_full (classes_in c.args.tree.now) b c.class_of_node.result c.is_occupied-full.result
          ok
          (leaf_class c.args.tree.now b (value_of c.node-node.result) c.class_of_node.result ok
          (c.node-node.ensures.values b at none) (c.class_of_node.ensures none))
          c.is_occupied-full.ensures.0 c.is_occupied-full.ensures.1);
      boxes = λ b at. (let ok =
          place_in_map c.args.tree.now c.node-node.ensures.linked c.args.p b c.requires.place at in
          leaf_count (classes_in c.args.tree.now) b c.class_of_node.result c.is_occupied-full.result
          c.from.result ok
          (leaf_class c.args.tree.now b (value_of c.node-node.result) c.class_of_node.result ok
          (c.node-node.ensures.values b at none) (c.class_of_node.ensures none))
          c.is_occupied-full.ensures.0 c.is_occupied-full.ensures.1 (search rules));
      linked = c.node-node.ensures.linked;
    }

pub loop-i-init : goal.loop-i-init
unfolding first_full first_boxes
loop-i-init t c = record {
  full = λ b at. refl;
  boxes = λ b at. refl;
}

pub count_in-child-requires : goal.count_in-child-requires
count_in-child-requires t c =
    let (place, block, levels) =
    child_asked c.args.tree.now c.args.p c.args.depth c.loop-i.i c.in-Inner.id
    c.in-Inner.ensures.linked
    c.requires.place c.requires.block (ap link_of (sym c.in-Inner.ensures.exact)) (omega arith) in
    (search rules, (place, (block, levels)))

pub overflow_add-boxes : goal.overflow_add-boxes
overflow_add-boxes t c =
    let (b, at) = place_block c.args.tree.now c.args.p c.requires.place in
    let link = ap link_of (sym c.in-Inner.ensures.exact) in
    let a = linked_above c.args.tree.now c.args.p c.in-Inner.id b c.in-Inner.ensures.linked
    c.requires.place link at in
    let fits : c.loop-i.boxes + c.count_in-child.result.boxes < 18446744073709551616 =
    count_fits (classes_in c.args.tree.now) b (c.loop-i.i + 1)
    (c.loop-i.boxes + c.count_in-child.result.boxes) (omega arith)
    (count_next (classes_in c.args.tree.now) b c.loop-i.i c.loop-i.boxes
    c.count_in-child.result.boxes a (c.loop-i.invariant.boxes b at)
    (c.count_in-child.ensures.boxes (child_of b c.loop-i.i)
    (slot_block c.args.tree.now c.in-Inner.ensures.linked c.args.p c.in-Inner.id c.loop-i.i b
    link at))) in
    search rules

pub loop-i-preserved : goal.loop-i-preserved
loop-i-preserved t c =
    let link = ap link_of (sym c.in-Inner.ensures.exact) in
    record {
      full = λ b at. full_next (classes_in c.args.tree.now) b c.loop-i.i c.loop-i.full
          c.count_in-child.result.full c.are_both-full.result
          (c.loop-i.invariant.full b at)
          (c.count_in-child.ensures.full (child_of b c.loop-i.i)
          (slot_block c.args.tree.now c.in-Inner.ensures.linked c.args.p c.in-Inner.id
          c.loop-i.i b link at))
          c.are_both-full.ensures;
      boxes = λ b at. count_next (classes_in c.args.tree.now) b c.loop-i.i c.loop-i.boxes
          c.count_in-child.result.boxes
          (linked_above c.args.tree.now c.args.p c.in-Inner.id b c.in-Inner.ensures.linked
          c.requires.place
          link at) (c.loop-i.invariant.boxes b at)
          (c.count_in-child.ensures.boxes (child_of b c.loop-i.i)
          (slot_block c.args.tree.now c.in-Inner.ensures.linked c.args.p c.in-Inner.id
          c.loop-i.i b link at));
    }

pub returns-then-full : goal.returns-then-full
returns-then-full t c =
    let link = ap link_of (sym c.in-Inner.ensures.exact) in
    record {
      full = λ b at. full_of_all (classes_in c.args.tree.now) b c.loop-i.i c.loop-i.full
          (linked_above c.args.tree.now c.args.p c.in-Inner.id b c.in-Inner.ensures.linked
          c.requires.place
          link at) (omega arith) (c.loop-i.invariant.full b at);
      boxes = λ b at. one_box (classes_in c.args.tree.now) b
          (sym (full_of_all (classes_in c.args.tree.now) b c.loop-i.i c.loop-i.full
          (linked_above c.args.tree.now c.args.p c.in-Inner.id b c.in-Inner.ensures.linked
          c.requires.place
          link at) (omega arith) (c.loop-i.invariant.full b at)) ∙ c.if-full.true);
      linked = c.in-Inner.ensures.linked;
    }

pub returns : goal.returns
returns t c =
    let link = ap link_of (sym c.in-Inner.ensures.exact) in
    record {
      full = λ b at. full_of_all (classes_in c.args.tree.now) b c.loop-i.i c.loop-i.full
          (linked_above c.args.tree.now c.args.p c.in-Inner.id b c.in-Inner.ensures.linked
          c.requires.place
          link at) (omega arith) (c.loop-i.invariant.full b at);
      boxes = λ b at. count_of_all (classes_in c.args.tree.now) b c.loop-i.i c.loop-i.boxes
          (linked_above c.args.tree.now c.args.p c.in-Inner.id b c.in-Inner.ensures.linked
          c.requires.place
          link at) (omega arith)
          (sym (full_of_all (classes_in c.args.tree.now) b c.loop-i.i c.loop-i.full
          (linked_above c.args.tree.now c.args.p c.in-Inner.id b c.in-Inner.ensures.linked
          c.requires.place
          link at) (omega arith) (c.loop-i.invariant.full b at)) ∙ c.if-full.false)
          (c.loop-i.invariant.boxes b at);
      linked = c.in-Inner.ensures.linked;
    }
