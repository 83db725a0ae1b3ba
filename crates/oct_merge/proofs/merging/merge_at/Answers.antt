use Rattle.std.proofs.Common.{◌∙◌, sym, subst}
use Rattle.std.proofs.lemmas.Bool.{false≢true}
use Rattle.oct_key.specs.CubeOf.{cube_of}
use Rattle.oct_key.proofs.Blocks.{block_in_map}
use Rattle.oct_arena.specs.Nodes.{value_of}
use Rattle.oct_odds.specs.Odds.{Odds}
use Rattle.oct_odds.specs.Update.{IsWithin}
use Rattle.oct_merge.proofs.Parts.{events_of, part_done, part_event, part_known, part_within}
use Rattle.oct_merge.proofs.merging.merge_at.Goals as goal

pub returns-then-is_done-clause-touched : goal.returns-then-is_done-clause-touched
returns-then-is_done-clause-touched c =
    part_done c.args.tree.now c.args.other.now c.args.p (cube_of c.args.block) c.args.node
    c.args.rule
    c.requires.linked c.requires.other.linked c.requires.place c.requires.block
    (block_in_map c.args.block) c.requires.over c.requires.odds
    (c.is_done.ensures.done c.if-is_done.true)

pub write_leaf-requires-clause-plain : goal.write_leaf-requires-clause-plain
write_leaf-requires-clause-plain c =
    (c.are_plain.ensures.0 c.if-are_plain.true).0

pub write_leaf-requires-clause-leaf : goal.write_leaf-requires-clause-leaf
write_leaf-requires-clause-leaf c =
    part_known c.args.node (c.is_done.ensures.known c.if-is_done.false)
    (c.are_plain.ensures.0 c.if-are_plain.true).1

pub write_leaf-requires-clause-within : goal.write_leaf-requires-clause-within
write_leaf-requires-clause-within c =
    subst (λ (o : Odds). IsWithin o (value_of c.args.node)) (sym c.requires.odds)
    (part_within c.args.other.now (cube_of c.args.block) c.args.node c.requires.other.linked
    (block_in_map c.args.block) c.requires.over (c.are_plain.ensures.0 c.if-are_plain.true).1)

pub returns-then-are_plain-clause-touched : goal.returns-then-are_plain-clause-touched
returns-then-are_plain-clause-touched c =
    let plain = c.are_plain.ensures.0 c.if-are_plain.true in
    c.write_leaf.ensures.touched (cube_of c.args.block)
    (events_of c.args.rule c.args.tree.now c.args.other.now)
    (block_in_map c.args.block) c.requires.block
    (part_event c.args.tree.now c.args.other.now c.args.p (cube_of c.args.block) c.args.node
    c.args.rule c.requires.linked c.requires.place c.requires.block (block_in_map c.args.block)
    c.requires.over plain.0 plain.1)

pub merge_part-requires-clause-parted : goal.merge_part-requires-clause-parted
merge_part-requires-clause-parted c here there =
    false≢true (sym c.if-are_plain.false ∙ c.are_plain.ensures.1 (here, there))
