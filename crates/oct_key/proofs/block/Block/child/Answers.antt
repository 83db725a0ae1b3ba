use Rattle.std.proofs.Common.{rules, ◌≡◌, ◌<◌, ◌/◌, bit_and, arith}
use Rattle.oct_key.specs.CubeOf.{cube_of}
use Rattle.oct_key.proofs.Blocks.{holds_as_child, child_of_bits}
use Rattle.oct_key.proofs.block.Block.child.Goals as goal

pub returns-clause-holds : goal.returns-clause-holds
returns-clause-holds c =
    let x : c.from.result ≡ bit_and c.args.i 1 = search rules in
    let y : c.from-2.result ≡ bit_and (c.args.i / 2) 1 = search rules in
    let z : c.from-3.result ≡ bit_and (c.args.i / 4) 1 = search rules in
    let depth : c.args.self.now.depth < 16 = omega (arith, c.requires.depth) in
    let index : c.args.i < 8 = omega (arith, c.requires.index) in
    λ k in_map. holds_as_child (cube_of c.args.self.now) _ c.args.i k depth index
    (child_of_bits (cube_of c.args.self.now) c.args.i _ _ _ x y z)
