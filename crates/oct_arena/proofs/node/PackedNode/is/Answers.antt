use Rattle.std.proofs.Common.{◌∙◌, sym, ap}
use Rattle.std.proofs.lemmas.Bool.{eqb-true, eq-eqb}
use Rattle.oct_arena.specs.Packing.{node_of_bits}
use Rattle.oct_arena.proofs.Packings.{same_bits}
use Rattle.oct_arena.proofs.node.PackedNode.is.Goals as goal

pub returns : goal.returns
returns c = (
  λ same. sym c.self.view_is ∙ ap node_of_bits (eqb-true _ _ same) ∙ c.other.view_is,
  λ same. eq-eqb _ _ (same_bits c.self.inside c.other.inside c.self.invariant c.other.invariant
      (c.self.view_is ∙ same ∙ sym c.other.view_is)),
)
