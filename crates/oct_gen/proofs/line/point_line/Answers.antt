use Rattle.oct_gen.proofs.Texts.{point_line_built}
use Rattle.oct_gen.proofs.line.point_line.Goals as goal

pub returns-clause-text : goal.returns-clause-text
returns-clause-text c =
    point_line_built c.args.draws.now.state _ _ _ _ c.new-line.ensures c.push_str.ensures.bytes
    c.push_point.ensures.text c.push_str-2.ensures.bytes
