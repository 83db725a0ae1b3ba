use Rattle.std.proofs.Common.{rules, refl, Some, ap, ◌∙◌, arith}
use Rattle.std.proofs.lemmas.Int.{to_z-of_z}
use mir.Val.{SFits}
use mir.Syntax.{w32}
use Rattle.oct_odds.specs.Odds.{Odds}
use Rattle.oct_bt.proofs.Fillings.{put_low, put_high, left_absent}
use Rattle.oct_bt.proofs.filling.fill_leaf.Goals as goal

pub returns-then-code-eq1-clause-filled : goal.returns-then-code-eq1-clause-filled
returns-then-code-eq1-clause-filled c = λ b k at is.
    put_low c.args.tree.now c.set_place.new.self c.args.p _ b k _ c.requires.linked
    c.set_place.ensures.linked c.requires.place at refl
    (is ∙ c.if-code-eq1.true)
    (let fits : SFits w32 c.odds-low.result.min = search rules in
    ap Some (to_z-of_z w32 c.odds-low.result.min fits
    ∙ ap (λ (o : Odds). o.min) c.odds-low.ensures))
    (c.set_place.ensures.values b at) (c.set_place.ensures.outside b at) c.set_place.ensures.written

pub returns-then-code-eq2-clause-filled : goal.returns-then-code-eq2-clause-filled
returns-then-code-eq2-clause-filled c = λ b k at is.
    put_high c.args.tree.now c.set_place-then-code-eq2.new.self c.args.p _ b k _ c.requires.linked
    c.set_place-then-code-eq2.ensures.linked c.requires.place at refl (is ∙ c.if-code-eq2.true)
    (let fits : SFits w32 c.odds-high.result.max = search rules in
    ap Some (to_z-of_z w32 c.odds-high.result.max fits
    ∙ ap (λ (o : Odds). o.max) c.odds-high.ensures))
    (c.set_place-then-code-eq2.ensures.values b at) (c.set_place-then-code-eq2.ensures.outside b at)
    c.set_place-then-code-eq2.ensures.written

pub returns-else-code-eq2-clause-filled : goal.returns-else-code-eq2-clause-filled
returns-else-code-eq2-clause-filled c = λ b k at is.
    left_absent c.args.tree.now c.args.p b k c.requires.linked c.requires.place at c.requires.absent
    (let small = c.requires.small in let one = c.if-code-eq1.false in let two = c.if-code-eq2.false
    in grind (arith, is, small, one, two))
