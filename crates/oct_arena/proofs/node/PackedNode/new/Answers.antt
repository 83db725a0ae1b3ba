use Rattle.std.proofs.Common.{rules, ◌≡◌, ◌∙◌, sym, ◌/◌, ◌%◌, ◌^◌, w32}
use Rattle.std.specs.Int.{cast_signed}
use Rattle.oct_arena.proofs.Packings.{is_inner}
use Rattle.oct_arena.proofs.node.PackedNode.new.Goals as goal

pub returns-in-Inner : goal.returns-in-Inner
returns-in-Inner c =
    let bits = c.packed-in-Inner.result in
    let link : bits / 2 ^ 32 ≡ c.in-Inner.id.number = search rules in
    let value : c.in-Inner.value ≡ cast_signed w32 (bits % 2 ^ 32) = search rules in
    is_inner bits c.in-Inner.id c.in-Inner.value link value ∙ sym c.in-Inner.is
