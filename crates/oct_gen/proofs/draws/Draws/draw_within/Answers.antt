use Rattle.oct_gen.proofs.Numbers.{drawn_is}
use Rattle.oct_gen.proofs.draws.Draws.draw_within.Goals as goal

pub returns-clause-value : goal.returns-clause-value
returns-clause-value c =
    drawn_is c.args.reach _ _ c.args.self.now.state c.draw.ensures.value c.from-reach.ensures
    c.ranges.reach.fits
