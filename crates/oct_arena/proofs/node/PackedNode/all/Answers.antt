use Rattle.std.proofs.Common.{rules, ◌≡◌, length}
use Rattle.oct_arena.proofs.Packings.{eight, read}
use Rattle.oct_arena.proofs.node.PackedNode.all.Goals as goal

pub returns : goal.returns
returns c =
    let xs = c.args.nodes.now in
    let n : length xs ≡ 8 = search rules in
    eight xs n c.new.result c.new-2.result c.new-3.result c.new-4.result c.new-5.result
    c.new-6.result c.new-7.result c.new-8.result
    (read xs 0 c.index-nodes-0.result c.new.result c.index-nodes-0.is c.new.ensures)
    (read xs 1 c.index-nodes-1.result c.new-2.result c.index-nodes-1.is c.new-2.ensures)
    (read xs 2 c.index-nodes-2.result c.new-3.result c.index-nodes-2.is c.new-3.ensures)
    (read xs 3 c.index-nodes-3.result c.new-4.result c.index-nodes-3.is c.new-4.ensures)
    (read xs 4 c.index-nodes-4.result c.new-5.result c.index-nodes-4.is c.new-5.ensures)
    (read xs 5 c.index-nodes-5.result c.new-6.result c.index-nodes-5.is c.new-6.ensures)
    (read xs 6 c.index-nodes-6.result c.new-7.result c.index-nodes-6.is c.new-7.ensures)
    (read xs 7 c.index-nodes-7.result c.new-8.result c.index-nodes-7.is c.new-8.ensures)
