use Rattle.std.proofs.Common.{◌∙◌, sym, ap}
use Rattle.oct_arena.specs.Nodes.{link_of}
use Rattle.oct_edit.proofs.area.is_whole.Goals as goal

pub returns-then-is_plain : goal.returns-then-is_plain
returns-then-is_plain c = (
  λ h. (
    ap link_of (sym c.node.ensures.exact) ∙ c.is_plain.ensures.0 c.if-is_plain.true,
    c.covers.ensures.0 h,
  ),
  λ h. c.covers.ensures.1 h.1,
)
