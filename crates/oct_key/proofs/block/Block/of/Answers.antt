use Rattle.std.proofs.Common.{rules, ◌≡◌, ◌-◌, ◌/◌, ◌^◌, ◌<◌, ◌∙◌}
use Rattle.oct_key.specs.Block.{Cube, block_of}
use Rattle.oct_key.proofs.Blocks.{only_block, quotient_below}
use Rattle.oct_key.proofs.block.Block.of.Goals as goal

pub invariant_of-result-clause-levels : goal.invariant_of-result-clause-levels
invariant_of-result-clause-levels c = c.requires

pub invariant_of-result-clause-on_x : goal.invariant_of-result-clause-on_x
invariant_of-result-clause-on_x c =
    let below : c.from.result < 65536 = search rules in
    quotient_below c.args.depth c.from.result c.requires below

pub invariant_of-result-clause-on_y : goal.invariant_of-result-clause-on_y
invariant_of-result-clause-on_y c =
    let below : c.from-2.result < 65536 = search rules in
    quotient_below c.args.depth c.from-2.result c.requires below

pub invariant_of-result-clause-on_z : goal.invariant_of-result-clause-on_z
invariant_of-result-clause-on_z c =
    let below : c.from-3.result < 65536 = search rules in
    quotient_below c.args.depth c.from-3.result c.requires below

pub returns-clause-only : goal.returns-clause-only
unfolding block_of
returns-clause-only c =
    let is : ◌≡◌ {A = Cube} (block_of c.args.depth c.args.k)
    (record {
      depth = c.args.depth;
      x = c.from.result / 2 ^ (16 - c.args.depth);
      y = c.from-2.result / 2 ^ (16 - c.args.depth);
      z = c.from-3.result / 2 ^ (16 - c.args.depth);
    }) =
    search rules in
    λ b d h. only_block c.args.depth c.args.k b d h ∙ is
