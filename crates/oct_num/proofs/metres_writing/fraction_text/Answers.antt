use Rattle.std.proofs.Common.{◌≡◌, ◌++◌, [], ◌∷◌, length, sym, ap, ◌∙◌, arith}
use Rattle.oct_num.specs.MetresText.{leading_digits}
use Rattle.oct_num.proofs.MetresWriting.{fraction_some, fraction_none, leading_few}
use Rattle.oct_num.proofs.metres_writing.fraction_text.Goals as goal

pub returns-then-n-gt0 : goal.returns-then-n-gt0
returns-then-n-gt0 c =
    let text : c.push_digits.new.text.bytes ≡ 46 ∷ leading_digits c.args.places c.args.n =
    c.push_digits.ensures.appended
    ∙ ap (λ front. front ++ leading_digits c.args.places c.args.n)
    (c.push.ensures.ascii (omega arith)
    ∙ ap (λ front. front ++ 46 ∷ []) c.new-text.ensures) in
    let few = leading_few c.args.places c.args.n in
    record {
      exact =
          text ∙ sym (fraction_some c.args.places c.args.n c.if-n-gt0.true c.requires.few);
      short = omega (arith, ap length text, few);
    }

pub returns-else-n-gt0 : goal.returns-else-n-gt0
returns-else-n-gt0 c =
    let none : c.args.n ≡ 0 = omega (arith, c.if-n-gt0.false) in
    record {
      exact = c.new-text.ensures ∙ sym (fraction_none c.args.places c.args.n none);
      short = omega (arith, ap length c.new-text.ensures);
    }
