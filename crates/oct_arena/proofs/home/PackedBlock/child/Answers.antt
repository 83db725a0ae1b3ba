use Rattle.std.proofs.Common.{◌∙◌, ◌≤◌, ap, subst, sym}
use Rattle.oct_key.specs.Block.{Cube, child_of}
use Rattle.oct_arena.proofs.Homes.{child_bits, child_is_block}
use Rattle.oct_arena.proofs.home.PackedBlock.child.Goals as goal

pub invariant_of-result : goal.invariant_of-result
invariant_of-result c =
    child_is_block c.self.inside.bits c.args.i c.half_of.result c.self.invariant
    (subst (λ (b : Cube). b.depth ≤ 15) (sym c.self.view_is) c.requires.depth) c.half_of.ensures

pub returns : goal.returns
returns c =
    child_bits c.self.inside.bits c.args.i c.half_of.result c.self.invariant
    (subst (λ (b : Cube). b.depth ≤ 15) (sym c.self.view_is) c.requires.depth) c.half_of.ensures
    ∙ ap (λ b. child_of b c.args.i) c.self.view_is
