use Rattle.std.proofs.Common.{Ok}
use Rattle.oct_map.specs.Map.{values_of}
use Rattle.oct_query.specs.Leaves.{leaves_of}
use Rattle.octofix.proofs.Tellings.{list_told, some_told}
use Rattle.octofix.specs.Buffers.{IsSomeList}
use Rattle.octofix.specs.Lists.{block_told, leaves_told}
use Rattle.octofix.proofs.lists.leaves.Goals as goal

pub returns : goal.returns
returns c =
    let leaves = leaves_of (values_of c.args.map.now) in
    list_told block_told (Ok leaves) c.leaves.result (IsSomeList (leaves_told c.args.map.now))
    c.tell_blocks.result c.args.blocks.now c.tell_blocks.new.blocks c.args.count.now
    c.tell_blocks.new.count c.leaves.ensures.answer
    (λ is. some_told block_told leaves (c.leaves.ensures.memory is))
    c.tell_blocks.ensures.code c.tell_blocks.ensures.blocks c.tell_blocks.ensures.count
