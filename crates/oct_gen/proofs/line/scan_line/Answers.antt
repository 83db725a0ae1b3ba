use Rattle.std.proofs.Common.{ap, ◌∙◌, arith}
use Rattle.std.specs.Fmt.{signed_decimal}
use Rattle.oct_gen.proofs.Numbers.{small_kept}
use Rattle.oct_gen.proofs.Texts.{scan_line_built}
use Rattle.oct_gen.proofs.line.scan_line.Goals as goal

pub returns-clause-text : goal.returns-clause-text
returns-clause-text c =
    scan_line_built c.args.draws.now.state _ _ _ _ _ _ _ c.format.result.now
    c.push_point.ensures.state c.new-line.ensures
    c.push_str.ensures.bytes c.push_point.ensures.text c.push_str-2.ensures.bytes
    c.push_str-3.ensures.bytes c.push_str-4.ensures.bytes
    (c.format.ensures.text
    ∙ ap signed_decimal
    (small_kept _ _ 2 c.draw_within.ensures.reach (omega arith) c.draw_within.ensures.value))
