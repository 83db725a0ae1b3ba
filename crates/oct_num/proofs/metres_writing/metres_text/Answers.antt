use Rattle.std.proofs.Common.{◌≡◌, ◌/◌, ◌^◌, ◌++◌, length, ap, ◌∙◌, arith, rules, unsigned_abs, w64}
use Rattle.std.proofs.Common.{to_z, of_z, ◌<◌}
use Rattle.std.proofs.lemmas.Int.{to_z-of_z}
use Rattle.std.proofs.lemmas.List.{append_assoc, length-append}
use Rattle.std.specs.Fmt.{decimal}
use Rattle.std.specs.Int.{is_negative}
use Rattle.oct_num.specs.Sign.{sign_text}
use Rattle.oct_num.specs.MetresText.{metres_text, magnitude_text}
use Rattle.oct_num.proofs.MetresWriting.{front_few, text_reads, text_shortest}
use Rattle.oct_num.proofs.metres_writing.metres_text.Goals as goal

pub push_str-requires-2 : goal.push_str-requires-2
push_str-requires-2 c =
    let kept : to_z w64 (of_z w64 c.args.nm) ≡ c.args.nm = to_z-of_z w64 c.args.nm c.ranges.nm in
    let sign : c.sign_text-text.result.bytes ≡ sign_text (is_negative c.args.nm) =
    c.sign_text-text.ensures ∙ ap (λ z. sign_text (is_negative z)) kept in
    let small : c.unsigned_abs-magnitude.result < 2 ^ 64 = search rules in
    omega (
      arith,
      ap length c.push_str.ensures.bytes,
      length-append c.sign_text-text.result.bytes c.format.result.now,
      ap length sign,
      ap length c.format.ensures.text,
      front_few (is_negative c.args.nm) c.unsigned_abs-magnitude.result small,
      ap length c.as_str.ensures.value,
      c.fraction_text.ensures.short,
    )

pub returns-clause-exact : goal.returns-clause-exact
unfolding metres_text
returns-clause-exact c =
    let kept : to_z w64 (of_z w64 c.args.nm) ≡ c.args.nm = to_z-of_z w64 c.args.nm c.ranges.nm in
    let sign : c.sign_text-text.result.bytes ≡ sign_text (is_negative c.args.nm) =
    c.sign_text-text.ensures ∙ ap (λ z. sign_text (is_negative z)) kept in
    let magnitude : c.unsigned_abs-magnitude.result ≡ unsigned_abs c.args.nm =
    c.unsigned_abs-magnitude.ensures.value ∙ ap unsigned_abs kept in
    c.push_str-2.ensures.bytes
    ∙ ap (λ front. front ++ c.as_str.result.now) c.push_str.ensures.bytes
    ∙ append_assoc c.sign_text-text.result.bytes c.format.result.now c.as_str.result.now
    ∙ ap (λ front. front ++ (c.format.result.now ++ c.as_str.result.now)) sign
    ∙ ap (λ digits. sign_text (is_negative c.args.nm) ++ (digits ++ c.as_str.result.now))
    c.format.ensures.text
    ∙ ap (λ text. sign_text (is_negative c.args.nm)
    ++ (decimal (c.unsigned_abs-magnitude.result / 10 ^ 9) ++ text))
    (c.as_str.ensures.value ∙ c.fraction_text.ensures.exact)
    ∙ ap (λ m. sign_text (is_negative c.args.nm) ++ magnitude_text m) magnitude

pub returns-clause-read : goal.returns-clause-read
returns-clause-read c = text_reads c.args.nm _ (returns-clause-exact c)

pub returns-clause-shortest : goal.returns-clause-shortest
returns-clause-shortest c =
    let magnitude : c.unsigned_abs-magnitude.result ≡ unsigned_abs c.args.nm =
    c.unsigned_abs-magnitude.ensures.value
    ∙ ap unsigned_abs (to_z-of_z w64 c.args.nm c.ranges.nm) in
    let small : c.unsigned_abs-magnitude.result < 2 ^ 64 = search rules in
    text_shortest c.args.nm _ (returns-clause-exact c) (omega (arith, magnitude, small))
