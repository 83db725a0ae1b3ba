use Rattle.oct_ray.proofs.PlacedBits.{has_counted}
use Rattle.oct_ray.proofs.placed.PlacedNumber.step.Goals as goal

pub invariant_of-self : goal.invariant_of-self
invariant_of-self c =
    (has_counted c.args.now c.self.inside c.args.self.now c.self.invariant c.self.view_is
    c.requires.now c.requires.up c.requires.down).placed

pub returns : goal.returns
returns c =
    (has_counted c.args.now c.self.inside c.args.self.now c.self.invariant c.self.view_is
    c.requires.now c.requires.up c.requires.down).counted
