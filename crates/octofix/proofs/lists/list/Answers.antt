use Rattle.std.proofs.Common.{◌∙◌}
use Rattle.octofix.proofs.Tellings.{details_told, list_told, some_answered}
use Rattle.octofix.specs.Asked.{told_each}
use Rattle.octofix.specs.Buffers.{IsSomeList}
use Rattle.octofix.specs.Lists.{block_told, listed}
use Rattle.octofix.proofs.lists.list.Goals as goal

pub returns-clause-told : goal.returns-clause-told
returns-clause-told c =
    let answer = (listed c.args.low.now c.args.high.now c.args.depth c.args.map.now) in
    list_told block_told answer c.blocks_between-found.result
    (IsSomeList (told_each block_told answer))
    c.tell_blocks.result c.args.blocks.now c.tell_blocks.new.blocks c.args.count.now
    c.tell_blocks.new.count c.blocks_between-found.ensures.answer
    (λ is. let m = c.blocks_between-found.ensures.memory is in
    some_answered block_told answer m.0 m.1)
    c.tell_blocks.ensures.code c.tell_blocks.ensures.blocks c.tell_blocks.ensures.count

pub returns-clause-details : goal.returns-clause-details
returns-clause-details c =
    c.details_of_list.ensures
    ∙ details_told block_told
    (listed c.args.low.now c.args.high.now c.args.depth c.args.map.now)
    c.blocks_between-found.result
    c.blocks_between-found.ensures.answer (λ is. (c.blocks_between-found.ensures.memory is).0)
