use Rattle.oct_key.proofs.Interleavings.{morton_of_gathered, gathered_in_map, morton_injective}
use Rattle.std.proofs.Common.{sym, ◌∙◌}
use Rattle.oct_key.proofs.morton_code.from_morton.Goals as goal

pub returns-clause-exact : goal.returns-clause-exact
returns-clause-exact c =
    morton_of_gathered c.args.m _ _ _ c.requires c.gather_bits.ensures c.gather_bits-2.ensures
    c.gather_bits-3.ensures

pub returns-clause-only : goal.returns-clause-only
returns-clause-only c =
    λ k on_k e. morton_injective k _ on_k
    (gathered_in_map _ _ _ _ _ _ c.gather_bits.ensures c.gather_bits-2.ensures
    c.gather_bits-3.ensures)
    (e ∙ sym (returns-clause-exact c))
