use Rattle.std.proofs.Common.{rules, ◌∙◌, ap}
use Rattle.oct_num.specs.MetresText.{metres_text}
use Rattle.oct_export.proofs.Lines.{size_fits}
use Rattle.oct_export.proofs.line.size_of.Goals as goal

pub overflow_mul-nm : goal.overflow_mul-nm
overflow_mul-nm c =
    let few = size_fits c.args.depth c.args.edge c.requires.edge in
    search rules

pub overflow_cast-nm : goal.overflow_cast-nm
overflow_cast-nm c =
    let few = size_fits c.args.depth c.args.edge c.requires.edge in
    search rules

pub returns : goal.returns
returns c =
    let few = size_fits c.args.depth c.args.edge c.requires.edge in
    c.metres_text.ensures.exact ∙ ap metres_text (search rules)
