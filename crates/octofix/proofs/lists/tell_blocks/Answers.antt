use Rattle.std.proofs.Common.{ap, ◌∙◌, sym, length, map}
use Rattle.std.proofs.lemmas.List.{length-map}
use Rattle.octofix.specs.Asked.{told_each}
use Rattle.oct_query.specs.Shown.{shown_as}
use Rattle.octofix.specs.Buffers.{count_left, filled, list_code, list_left, room_code}
use Rattle.octofix.specs.Lists.{block_told}
use Rattle.octofix.proofs.lists.tell_blocks.Goals as goal

pub returns-in-Ok-clause-code : goal.returns-in-Ok-clause-code
returns-in-Ok-clause-code c =
    let found = c.as_slice.result.now in
    let old = c.args.blocks.now in
    c.put_blocks.ensures.code ∙ ap (room_code (length old)) (sym (length-map found shown_as))
    ∙ ap (λ shown. room_code (length old) (length shown)) c.as_slice.ensures
    ∙ ap (room_code (length old)) (sym (length-map c.in-Ok.list block_told))
    ∙ ap (λ a. list_code (length old) (told_each block_told a)) (sym c.in-Ok.is)

pub returns-in-Ok-clause-blocks : goal.returns-in-Ok-clause-blocks
returns-in-Ok-clause-blocks c =
    let old = c.args.blocks.now in
    c.put_blocks.ensures.blocks
    ∙ ap (λ shown. filled old (map block_told shown)) c.as_slice.ensures
    ∙ ap (λ a. list_left old (told_each block_told a)) (sym c.in-Ok.is)

pub returns-in-Ok-clause-count : goal.returns-in-Ok-clause-count
returns-in-Ok-clause-count c =
    let found = c.as_slice.result.now in
    c.put_blocks.ensures.count ∙ sym (length-map found shown_as) ∙ ap length c.as_slice.ensures
    ∙ sym (length-map c.in-Ok.list block_told)
    ∙ ap (λ a. count_left c.args.count.now (told_each block_told a)) (sym c.in-Ok.is)
