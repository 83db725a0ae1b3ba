use Rattle.std.proofs.Common.{◌≡◌, ◌∙◌, ap, sym, subst, Some, None}
use Rattle.octofix.proofs.Tellings.{details_told, list_told, refused_told, some_answered}
use Rattle.octofix.specs.Bounds.{sought_numbered}
use Rattle.octofix.specs.Buffers.{IsListTold, IsSomeList}
use Rattle.octofix.specs.Codes.{answer_details}
use Rattle.octofix.specs.Lists.{block_told, sought_listed, sought_told_in}
use Rattle.octofix.specs.declared.refusal.Refusal.TheVariants.{BadArgument}
use Rattle.octofix.proofs.lists.leaves_of_in.Goals as goal

pub returns-in-Some-clause-told : goal.returns-in-Some-clause-told
returns-in-Some-clause-told c =
    let m = c.args.map.now in
    let low = c.args.low.now in
    let high = c.args.high.now in
    let answer = sought_listed c.in-Some.sought low high m in
    let meant : sought_numbered c.args.sought ≡ Some c.in-Some.sought =
    sym c.sought_numbered.ensures ∙ c.in-Some.is in
    subst (λ s. IsListTold (sought_told_in s low high m) (IsSomeList (sought_told_in s low high m))
    c.tell_blocks.result c.args.blocks.now c.tell_blocks.new.blocks c.args.count.now
    c.tell_blocks.new.count) (sym meant)
    (list_told block_told answer c.sought_between-found.result
    (IsSomeList (sought_told_in (Some c.in-Some.sought) low high m))
    c.tell_blocks.result c.args.blocks.now c.tell_blocks.new.blocks c.args.count.now
    c.tell_blocks.new.count c.sought_between-found.ensures.answer
    (λ is. let out = c.sought_between-found.ensures.memory is in
    some_answered block_told answer out.0 out.1)
    c.tell_blocks.ensures.code c.tell_blocks.ensures.blocks c.tell_blocks.ensures.count)

pub returns-in-Some-clause-details : goal.returns-in-Some-clause-details
returns-in-Some-clause-details c =
    let m = c.args.map.now in
    let low = c.args.low.now in
    let high = c.args.high.now in
    c.details_of_list.ensures
    ∙ details_told block_told (sought_listed c.in-Some.sought low high m)
    c.sought_between-found.result c.sought_between-found.ensures.answer
    (λ is. (c.sought_between-found.ensures.memory is).0)
    ∙ ap (λ s. answer_details (sought_told_in s low high m))
    (sym (sym c.sought_numbered.ensures ∙ c.in-Some.is))

pub returns-in-None-clause-told : goal.returns-in-None-clause-told
returns-in-None-clause-told c =
    let m = c.args.map.now in
    let low = c.args.low.now in
    let high = c.args.high.now in
    let meant : sought_numbered c.args.sought ≡ None =
    sym c.sought_numbered.ensures ∙ c.in-None.is in
    refused_told (sought_told_in (sought_numbered c.args.sought) low high m)
    (IsSomeList (sought_told_in (sought_numbered c.args.sought) low high m)) (BadArgument 0)
    c.tell.result c.args.blocks.now c.args.count.now (ap (λ s. sought_told_in s low high m) meant)
    c.tell.ensures.code

pub returns-in-None-clause-details : goal.returns-in-None-clause-details
returns-in-None-clause-details c =
    c.tell.ensures.details
    ∙ ap (λ s. answer_details (sought_told_in s c.args.low.now c.args.high.now c.args.map.now))
    (sym (sym c.sought_numbered.ensures ∙ c.in-None.is))
