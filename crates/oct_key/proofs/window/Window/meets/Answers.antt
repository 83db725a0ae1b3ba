use Rattle.std.proofs.Common.{subst, sym}
use Rattle.std.specs.Prelude.{IsTrue, ◌↔◌}
use Rattle.oct_key.specs.Boxes.{MeetsBox, Window}
use Rattle.oct_key.specs.CubeOf.{cube_of}
use Rattle.oct_key.proofs.BoxBlocks.{meets_each}
use Rattle.oct_key.proofs.window.Window.meets.Goals as goal

pub returns : goal.returns
returns c =
    subst (λ (w : Window). IsTrue c.on_each.result ↔ MeetsBox w.lo w.hi (cube_of c.args.block))
    c.self.view_is
    (subst (λ r. IsTrue r ↔ MeetsBox c.self.inside.lo c.self.inside.hi (cube_of c.args.block))
    (sym c.on_each.ensures)
    (meets_each c.self.inside.lo c.self.inside.hi (cube_of c.args.block) c.meets_across-x.result
    c.meets_across-y.result c.meets_across-z.result c.self.invariant c.meets_across-x.ensures
    c.meets_across-y.ensures c.meets_across-z.ensures))
