use Rattle.std.proofs.Common.{◌≡◌, ◌∙◌, ap, sym, subst, Some, None, Ok}
use Rattle.oct_map.specs.Map.{values_of}
use Rattle.oct_query.specs.Leaves.{leaves_of, those_sought}
use Rattle.octofix.proofs.Tellings.{list_told, refused_told, some_told}
use Rattle.octofix.specs.Bounds.{sought_numbered}
use Rattle.octofix.specs.Buffers.{IsListTold, IsSomeList}
use Rattle.octofix.specs.Lists.{block_told, sought_told}
use Rattle.octofix.specs.declared.refusal.Refusal.TheVariants.{BadArgument}
use Rattle.octofix.proofs.lists.leaves_of.Goals as goal

pub returns-in-Some : goal.returns-in-Some
returns-in-Some c =
    let m = c.args.map.now in
    let leaves = those_sought m.tree.odds c.in-Some.sought (leaves_of (values_of m)) in
    let meant : sought_numbered c.args.sought ≡ Some c.in-Some.sought =
    sym c.sought_numbered.ensures ∙ c.in-Some.is in
    subst (λ s. IsListTold (sought_told s m) (IsSomeList (sought_told s m)) c.tell_blocks.result
    c.args.blocks.now c.tell_blocks.new.blocks c.args.count.now c.tell_blocks.new.count) (sym meant)
    (list_told block_told (Ok leaves) c.leaves_of.result
    (IsSomeList (sought_told (Some c.in-Some.sought) m))
    c.tell_blocks.result c.args.blocks.now c.tell_blocks.new.blocks c.args.count.now
    c.tell_blocks.new.count c.leaves_of.ensures.answer
    (λ is. some_told block_told leaves (c.leaves_of.ensures.memory is))
    c.tell_blocks.ensures.code c.tell_blocks.ensures.blocks c.tell_blocks.ensures.count)

pub returns-in-None : goal.returns-in-None
returns-in-None c =
    let m = c.args.map.now in
    let meant : sought_numbered c.args.sought ≡ None =
    sym c.sought_numbered.ensures ∙ c.in-None.is in
    refused_told (sought_told (sought_numbered c.args.sought) m)
    (IsSomeList (sought_told (sought_numbered c.args.sought) m)) (BadArgument 0) c.code.result
    c.args.blocks.now c.args.count.now (ap (λ s. sought_told s m) meant) c.code.ensures.code
