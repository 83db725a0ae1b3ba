use Rattle.std.proofs.Common.{rules, ◌<◌, ◌^◌, ◌++◌, ◌∙◌, ap, length, arith, length-append}
use Rattle.oct_export.proofs.Lines.{whole_short, fine_built}
use Rattle.oct_export.proofs.line.push_fine.Goals as goal

pub push_str-requires-2 : goal.push_str-requires-2
push_str-requires-2 c =
    let small : c.args.n < 2 ^ 64 = search rules in
    omega (
      arith,
      ap length c.push_str.ensures.bytes,
      length-append c.args.text.now.bytes c.format.result.now,
      ap length c.format.ensures.text,
      whole_short c.args.n small,
      ap length c.as_str.ensures.value,
      c.fraction_text.ensures.short,
      c.requires,
    )

pub returns : goal.returns
returns c = fine_built c.args.text.now.bytes _ c.format.result.now _ c.args.n
    c.push_str.ensures.bytes c.format.ensures.text
    (c.push_str-2.ensures.bytes
    ∙ ap (λ text. c.push_str.new.self.bytes ++ text)
    (c.as_str.ensures.value ∙ c.fraction_text.ensures.exact))
