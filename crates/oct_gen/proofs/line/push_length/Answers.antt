use Rattle.std.proofs.Common.{◌++◌, ap, ◌∙◌}
use Rattle.oct_num.specs.MetresText.{metres_text}
use Rattle.oct_gen.specs.Script.{length_text}
use Rattle.oct_gen.proofs.Numbers.{nanometres_kept}
use Rattle.oct_gen.proofs.line.push_length.Goals as goal

pub returns-clause-text : goal.returns-clause-text
unfolding length_text
returns-clause-text c =
    c.push_str.ensures.bytes ∙ ap (λ t. c.args.line.now.bytes ++ t)
    (c.as_str.ensures.value ∙ c.metres_text.ensures.exact ∙ ap metres_text
    (nanometres_kept _ _ c.args.reach c.draw_within-millimetres.ensures.reach c.ranges.reach.fits
    c.draw_within-millimetres.ensures.value))
