use Rattle.std.proofs.Common.{◌≡◌, ◌∙◌, None, sym, subst, ap, refl}
use Rattle.oct_key.specs.Block.{root_block}
use Rattle.oct_arena.specs.Nodes.{link_of}
use Rattle.oct_tree.specs.Tree.{value_at}
use Rattle.oct_tree.specs.declared.place.Place.TheVariants.{Root}
use Rattle.oct_tree.proofs.Paths.{not_inner}
use Rattle.oct_query.specs.Least.{IsPart}
use Rattle.oct_query.specs.declared.least.Part.{Part}
use Rattle.oct_query.proofs.LeastParts.{least_of_part, part_of_root}
use Rattle.oct_query.proofs.least.least_tree.Goals as goal
use Rattle.oct_query.proofs.least.least_tree.Goals.{in-Inner, in_default}

pub part_under-whole-requires : goal.part_under-whole-requires
part_under-whole-requires c = record {
  home = (
    root_block,
    c.in-Inner.ensures.linked.links Root c.in-Inner.id.number
        (ap link_of (sym c.in-Inner.ensures.exact)),
    refl,
  );
}

pub returns : goal.returns
returns c =
    let part : IsPart (value_at c.args.tree.now) root_block c.match-node.whole.value
    c.match-node.whole.groups c.match-node.whole.leaves =
    elim c.match-node.branch [
      | in-Inner w ↦ subst (λ (part : Part). IsPart (value_at c.args.tree.now) root_block part.value
          part.groups part.leaves) (sym w.whole-is)
          (w.part_under-whole.ensures.part root_block
          (w.in-Inner.ensures.linked.links Root w.in-Inner.id.number
          (ap link_of (sym w.in-Inner.ensures.exact))))
      | in_default w ↦ subst (λ (part : Part). IsPart (value_at c.args.tree.now) root_block
          part.value part.groups part.leaves) (sym w.whole-is)
          (let none : link_of c.node-node.result ≡ None =
          not_inner c.node-node.result w.in_default.not-Inner in
          part_of_root c.args.tree.now w.value.result w.of-whole.result.value
          w.of-whole.result.groups w.of-whole.result.leaves
          (λ k inside held. c.node-node.ensures.values root_block refl none k inside held
          ∙ sym w.value.ensures.exact) w.of-whole.ensures.value w.of-whole.ensures.groups
          w.of-whole.ensures.leaves)
    ] in
    let (groups, nodes, leaves) = least_of_part (value_at c.args.tree.now) c.match-node.whole.value
    c.match-node.whole.groups c.match-node.whole.leaves part in
    record { groups = groups; nodes = nodes; leaves = leaves; linked = c.node-node.ensures.linked }
