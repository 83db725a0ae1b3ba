use Rattle.std.proofs.Common.{ap, sym, ◌∙◌, arith}
use Rattle.oct_key.specs.Block.{block_of, child_of}
use Rattle.oct_key.proofs.Blocks.{block_step, index_of_bits}
use Rattle.oct_key.proofs.block.child_index.Goals as goal

pub returns-clause-step : goal.returns-clause-step
returns-clause-step c =
    block_step c.args.depth c.args.k (omega (arith, c.requires))
    ∙ ap (child_of (block_of c.args.depth c.args.k)) (sym (index_of_bits c.args.depth c.args.k))
