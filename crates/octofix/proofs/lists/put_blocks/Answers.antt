use Rattle.std.proofs.Common.{ap, ◌∙◌, sym}
use Rattle.std.proofs.lemmas.Simd.{map-map}
use Rattle.octofix.proofs.Fronts.{front_more, front_whole}
use Rattle.oct_query.specs.Shown.{shown_as}
use Rattle.octofix.specs.Buffers.{filled}
use Rattle.octofix.specs.Lists.{block_told}
use Rattle.octofix.proofs.lists.put_blocks.Goals as goal

pub loop-i-preserved : goal.loop-i-preserved
loop-i-preserved c = front_more (λ f. block_told (shown_as f)) c.args.found.now c.args.blocks.now
    c.loop-i.blocks c.loop-i.i c.index-found-i.result c.of.result c.loop-i-test.true
    c.if-blocks-found.false c.loop-i.invariant
    (c.of.ensures ∙ ap (λ f. block_told (shown_as f)) c.index-found-i.is)

pub returns-clause-blocks : goal.returns-clause-blocks
returns-clause-blocks c =
    front_whole (λ f. block_told (shown_as f)) c.args.found.now c.args.blocks.now c.loop-i.blocks
    c.loop-i.i c.loop-i-test.false c.if-blocks-found.false c.loop-i.invariant
    ∙ ap (filled c.args.blocks.now) (sym (map-map block_told shown_as c.args.found.now))
