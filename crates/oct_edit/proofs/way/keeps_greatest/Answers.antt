use Rattle.std.proofs.Common.{rules, ◌≡◌, ◌∙◌, sym, ap, arith, inl, inr, Some}
use Rattle.std.specs.Prelude.{◌≤ℤ◌, Bool, IsTrue, true, false}
use Rattle.std.proofs.lemmas.Bool.{false≢true}
use Rattle.std.proofs.lemmas.Int.{ints, to_z-of_z}
use mir.Syntax.{w32}
use mir.Val.{SFits, to_z}
use Rattle.oct_edit.proofs.way.keeps_greatest.Goals as goal

pub returns-then-value-most : goal.returns-then-value-most
returns-then-value-most c _ =
    let i = c.in-Inner-Inner in
    let fits : SFits w32 c.in-Inner-Inner.value = search rules in
    let fits_too : SFits w32 c.in-Inner-Inner.most = search rules in
    let same : c.in-Inner-Inner.value ≡ c.in-Inner-Inner.most =
    sym (to_z-of_z w32 c.in-Inner-Inner.value fits) ∙ ap (to_z w32) c.if-value-most.true
    ∙ to_z-of_z w32 c.in-Inner-Inner.most fits_too in
    let low : c.in-Inner-Inner.value ≤ℤ c.in-Inner-Inner.most = grind (arith, ints, same) in
    record {
      most = i.most;
      group = i.field-1-0;
      over_is = i.is-0;
      value = i.value;
      link = i.field-1-1;
      now_is = i.is-1;
      most_yet = low;
      there = inl same;
    }

not_both : (b : Bool) → IsTrue b → IsTrue (mathlib.Core.Bool.not b) → ⊥
not_both true is other = false≢true other
not_both false is other = false≢true is

pub returns-then-value-most-2 : goal.returns-then-value-most-2
returns-then-value-most-2 c differs =
    let i = c.in-Inner-Inner in
    let fits : SFits w32 c.in-Inner-Inner.value = search rules in
    let fits_too : SFits w32 c.in-Inner-Inner.most = search rules in
    let s = rw (to_z-of_z w32 c.in-Inner-Inner.value fits) at c.if-value-most-2.true in
    let t = rw (to_z-of_z w32 c.in-Inner-Inner.most fits_too) at s in
    let low : c.in-Inner-Inner.value ≤ℤ c.in-Inner-Inner.most = grind (arith, ints, t) in
    record {
      most = i.most;
      group = i.field-1-0;
      over_is = i.is-0;
      value = i.value;
      link = i.field-1-1;
      now_is = i.is-1;
      most_yet = low;
      there =
          inr (λ is. not_both c.is_same_value.result
          (c.is_same_value.ensures.1 (c.stored.ensures.exact ∙ is
          ∙ ap Some (sym (to_z-of_z w32 c.in-Inner-Inner.most fits_too)))) differs);
    }
