use Rattle.std.proofs.Common.{subst, sym}
use Rattle.std.specs.Prelude.{IsTrue, ◌↔◌}
use Rattle.oct_key.specs.Boxes.{LiesInBox, Window}
use Rattle.oct_key.specs.CubeOf.{cube_of}
use Rattle.oct_key.proofs.BoxBlocks.{lies_each}
use Rattle.oct_key.proofs.window.Window.covers.Goals as goal

pub returns : goal.returns
returns c =
    subst (λ (w : Window). IsTrue c.on_each.result ↔ LiesInBox w.lo w.hi (cube_of c.args.block))
    c.self.view_is
    (subst (λ r. IsTrue r ↔ LiesInBox c.self.inside.lo c.self.inside.hi (cube_of c.args.block))
    (sym c.on_each.ensures)
    (lies_each c.self.inside.lo c.self.inside.hi (cube_of c.args.block) c.covers_across-x.result
    c.covers_across-y.result c.covers_across-z.result c.covers_across-x.ensures
    c.covers_across-y.ensures c.covers_across-z.ensures))
