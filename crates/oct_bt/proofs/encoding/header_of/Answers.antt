use Rattle.std.proofs.Common.{rules, refl, ap, ◌∙◌}
use Rattle.std.proofs.lemmas.Int.{to_z-of_z}
use mir.Val.{SFits}
use mir.Syntax.{w64}
use Rattle.oct_num.specs.MetresText.{metres_text}
use Rattle.oct_bt.proofs.Encodings.{header_built, header_pieces}
use Rattle.oct_bt.proofs.encoding.header_of.Goals as goal

pub returns : goal.returns
returns c =
    let fits : SFits w64 c.nm.result = search rules in
    header_built c.args.nodes c.args.res _ _ _ _ _ _ _ _ _ c.format.result.now c.as_str.result.now
    c.new-text.ensures
    c.push_str.ensures.bytes c.push_str-2.ensures.bytes c.push_str-3.ensures.bytes
    c.push_str-4.ensures.bytes c.push_str-5.ensures.bytes
    (header_pieces c.args.nodes c.args.res _ _ _ c.format.result.now c.as_str.result.now refl refl
    refl c.format.ensures.text
    (c.as_str.ensures.value ∙ c.metres_text.ensures.exact
    ∙ ap metres_text (to_z-of_z w64 c.nm.result fits ∙ c.nm.ensures.value)))
