use Rattle.std.proofs.Common.{◌*◌, ◌-◌, ◌/◌, ◌^◌, ◌∙◌}
use Rattle.std.proofs.lemmas.Nat.{and_mask}
use Rattle.oct_brick.proofs.Places.{brick_child}
use Rattle.oct_brick.proofs.brick.Brick.child_index.Goals as goal

pub returns-clause-child : goal.returns-clause-child
returns-clause-child c = λ k e.
    and_mask (c.args.self.now.code / 2 ^ (3 * (13 - c.args.depth))) 3
    ∙ brick_child c.args.depth c.args.self.now.code k c.requires e
