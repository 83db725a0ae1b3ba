use Rattle.std.proofs.Common.{rules, ◌≡◌, ◌∙◌, sym, ◌/◌, ◌^◌, w32, ◌%◌, to_z, of_z}
use Rattle.std.specs.Int.{cast_signed}
use Rattle.oct_arena.proofs.Packings.{is_inner}
use Rattle.oct_arena.proofs.node.PackedNode.node.Goals as goal

pub returns-in_default : goal.returns-in_default
returns-in_default c =
    let bits = c.self.inside.bits in
    let link : bits / 2 ^ 32 ≡ c.new.result.number = search rules in
    let value : to_z w32 (of_z w32 c.lower_half-value.result) ≡ cast_signed w32 (bits % 2 ^ 32) =
    search rules in
    sym (is_inner bits c.new.result _ link value) ∙ c.self.view_is
