use Rattle.std.proofs.Common.{◌/◌, ◌≤◌, ap, ◌∙◌, arith}
use Rattle.oct_cast.proofs.Ways.{still_deep, prefix_up}
use Rattle.oct_cast.proofs.way.Way.ascend.Goals as goal

pub up-preserved : goal.up-preserved
up-preserved c =
    let (before, below, block) = c.requires.block in
    let some : 1 ≤ c.up.self.depth =
    still_deep c.up.self.depth c.up.here c.up.self.block c.args.code before c.up-test.true
    c.up.invariant.here (c.up.invariant.before before block) c.requires.code below in
    let high = c.up.invariant.depth in
    let deep : c.up.self.depth ≤ 16 = omega (arith, high, c.requires.depth) in
    record {
      depth = omega (arith, high);
      here = ap (λ n. n / 8) c.up.invariant.here ∙ prefix_up c.up.self.depth c.args.code some deep;
      before = λ b is. ap (λ n. n / 8) (c.up.invariant.before b is)
          ∙ prefix_up c.up.self.depth b some deep;
      groups = c.up.invariant.groups;
      floor = c.up.invariant.floor;
    }
