use Rattle.oct_gen.proofs.Texts.{point_built}
use Rattle.oct_gen.proofs.line.push_point.Goals as goal

pub returns-clause-text : goal.returns-clause-text
returns-clause-text c =
    point_built c.args.reach c.args.draws.now.state _ _ _ _ _ _ _ _ c.push_length.ensures.state
    c.push_length-2.ensures.state
    c.push_length.ensures.text c.push_str.ensures.bytes c.push_length-2.ensures.text
    c.push_str-2.ensures.bytes c.push_length-3.ensures.text
