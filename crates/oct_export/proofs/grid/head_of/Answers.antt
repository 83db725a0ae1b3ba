use Rattle.std.proofs.Common.{refl}
use Rattle.oct_export.proofs.Rows.{head_built, head_pieces}
use Rattle.oct_export.proofs.grid.head_of.Goals as goal

pub returns : goal.returns
returns c =
    head_built _ _ _ _ _ _ _ _ _ c.format.result.now c.format-2.result.now c.args.width
    c.args.height c.new-text.ensures
    c.push_str.ensures.bytes c.push_str-2.ensures.bytes c.push_str-3.ensures.bytes
    c.push_str-4.ensures.bytes c.push_str-5.ensures.bytes
    (head_pieces _ _ _ c.format.result.now c.format-2.result.now c.args.width c.args.height refl
    refl refl c.format.ensures.text c.format-2.ensures.text)
