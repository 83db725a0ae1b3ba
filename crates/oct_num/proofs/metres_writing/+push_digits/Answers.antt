use Rattle.std.proofs.Common.{rules, ◌≡◌, ◌-◌, ◌%◌, ◌++◌, [], ◌∷◌, length, sym, ap, ◌∙◌, arith}
use Rattle.std.proofs.lemmas.Str.{encode_ascii}
use Rattle.std.proofs.lemmas.List.{append_assoc, append-nil}
use Rattle.std.proofs.lemmas.List.{length-append}
use Rattle.std.proofs.Math.Utf8.{encode}
use Rattle.oct_num.specs.MetresText.{leading_digits}
use Rattle.oct_num.proofs.MetresWriting.{digit_step, leading_none}
use Rattle.oct_num.proofs.metres_writing.+push_digits.Goals as goal

pub nonzero_div-n : goal.nonzero_div-n
nonzero_div-n t c = (digit_step _ _ _ c.if-n-gt0.true c.requires.few c.pow-unit.ensures).some

pub overflow_cast-n : goal.overflow_cast-n
overflow_cast-n t c =
    let step = digit_step _ _ _ c.if-n-gt0.true c.requires.few c.pow-unit.ensures in search rules

pub overflow_add-n : goal.overflow_add-n
overflow_add-n t c =
    let step = digit_step _ _ _ c.if-n-gt0.true c.requires.few c.pow-unit.ensures in search rules

pub push-requires : goal.push-requires
push-requires t c =
    let step = digit_step _ _ _ c.if-n-gt0.true c.requires.few c.pow-unit.ensures in
    let byte : length (encode c.from.result) ≡ 1 =
    ap length (encode_ascii c.from.result (omega (arith, c.from.ensures, step.digit))) in
    omega (arith, byte, step.left, c.requires.room)

pub nonzero_rem-n : goal.nonzero_rem-n
nonzero_rem-n t c = (digit_step _ _ _ c.if-n-gt0.true c.requires.few c.pow-unit.ensures).some

pub push_digits-requires : goal.push_digits-requires
push_digits-requires t c =
    let step = digit_step _ _ _ c.if-n-gt0.true c.requires.few c.pow-unit.ensures in
    let longer = ap length (c.push.ensures.ascii (omega (arith, c.from.ensures, step.digit))) in (
      omega (arith, c.decreases, step.left),
      (
        omega (arith, c.requires.most),
        (
          step.rest,
          omega (
            arith,
            longer,
            length-append c.args.text.now.bytes (c.from.result ∷ []),
            c.requires.room,
            step.left,
          ),
        ),
      ),
    )

pub returns-then-n-gt0 : goal.returns-then-n-gt0
returns-then-n-gt0 t c =
    let step = digit_step _ _ _ c.if-n-gt0.true c.requires.few c.pow-unit.ensures in
    record {
      appended =
          c.push_digits.ensures.appended
          ∙ ap (λ front. front ++ leading_digits (c.args.places - 1) (c.args.n % c.pow-unit.result))
          (c.push.ensures.ascii (omega (arith, c.from.ensures, step.digit)))
          ∙ append_assoc c.args.text.now.bytes (c.from.result ∷ [])
          (leading_digits (c.args.places - 1) (c.args.n % c.pow-unit.result))
          ∙ ap (λ text. c.args.text.now.bytes ++ text)
          (ap (λ digit. digit ∷ leading_digits (c.args.places - 1)
          (c.args.n % c.pow-unit.result))
          c.from.ensures
          ∙ sym step.text);
    }

pub returns-else-n-gt0 : goal.returns-else-n-gt0
returns-else-n-gt0 t c =
    let none : c.args.n ≡ 0 = omega (arith, c.if-n-gt0.false) in
    record {
      appended =
          sym (ap (λ text. c.args.text.now.bytes ++ text) (ap (leading_digits c.args.places) none
          ∙ leading_none c.args.places) ∙ append-nil c.args.text.now.bytes);
    }
