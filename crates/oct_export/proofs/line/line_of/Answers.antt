use Rattle.std.proofs.Common.{ℕ, refl, ap, ◌∙◌}
use Rattle.oct_key.specs.CubeOf.{cube_of}
use Rattle.oct_export.specs.BoxTexts.{middle_text, size_text}
use Rattle.oct_export.proofs.Lines.{line_built, line_pieces}
use Rattle.oct_export.proofs.line.line_of.Goals as goal

pub returns : goal.returns
returns c =
    line_built _ _ _ _ _ _ _ _ _ _ _ _ _ _ _ _ _ _ c.as_str.result.now c.as_str-2.result.now
    c.as_str-3.result.now
    c.as_str-4.result.now c.as_str-5.result.now c.as_str-6.result.now
    c.middle_of.result.bytes c.middle_of-2.result.bytes c.middle_of-3.result.bytes
    c.size_of-size.result.bytes _ c.new-text.ensures
    c.push_str.ensures.bytes c.push_str-2.ensures.bytes c.push_str-3.ensures.bytes
    c.push_str-4.ensures.bytes c.push_str-5.ensures.bytes
    c.push_str-6.ensures.bytes c.push_str-7.ensures.bytes c.push_str-8.ensures.bytes
    c.push_str-9.ensures.bytes c.push_str-10.ensures.bytes
    c.push_str-11.ensures.bytes c.push_str-12.ensures.bytes c.push_str-13.ensures.bytes
    c.as_str.ensures.value c.as_str-2.ensures.value c.as_str-3.ensures.value
    c.as_str-4.ensures.value c.as_str-5.ensures.value c.as_str-6.ensures.value
    (line_pieces c.args.res (cube_of c.args.block) _ _ _ _ _ _ _ _ refl refl refl refl
    (c.middle_of.ensures
    ∙ ap (λ (e : ℕ). middle_text e c.args.block.depth c.args.block.x)
    c.edge_of-edge.ensures.value)
    (c.middle_of-2.ensures
    ∙ ap (λ (e : ℕ). middle_text e c.args.block.depth c.args.block.y)
    c.edge_of-edge.ensures.value)
    (c.middle_of-3.ensures
    ∙ ap (λ (e : ℕ). middle_text e c.args.block.depth c.args.block.z)
    c.edge_of-edge.ensures.value)
    (c.size_of-size.ensures
    ∙ ap (λ (e : ℕ). size_text e c.args.block.depth) c.edge_of-edge.ensures.value))
