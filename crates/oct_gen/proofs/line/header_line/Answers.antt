use Rattle.oct_gen.proofs.Texts.{header_built}
use Rattle.oct_gen.proofs.line.header_line.Goals as goal

pub returns : goal.returns
returns c =
    header_built c.args.seed c.args.scans c.args.points _ _ _ _ _ _ _ _ c.format.result.now
    c.format-2.result.now c.format-3.result.now c.new-line.ensures
    c.push_str.ensures.bytes c.push_str-2.ensures.bytes c.push_str-3.ensures.bytes
    c.push_str-4.ensures.bytes c.push_str-5.ensures.bytes
    c.push_str-6.ensures.bytes c.push_str-7.ensures.bytes c.format.ensures.text
    c.format-2.ensures.text c.format-3.ensures.text
