use Rattle.std.proofs.Common.{rules, ◌∙◌}
use Rattle.std.proofs.lemmas.Int.{to_z-of_z}
use mir.Val.{SFits}
use mir.Syntax.{w32}
use Rattle.oct_snap.proofs.Fields.{odds_are, odds_ok, odds_bad}
use Rattle.oct_snap.proofs.head.odds_at.Goals as goal

pub returns-clause-ok : goal.returns-clause-ok
returns-clause-ok c =
    let hit : SFits w32 c.number_at.result = search rules in
    let miss : SFits w32 c.number_at-2.result = search rules in
    let min : SFits w32 c.number_at-3.result = search rules in
    let max : SFits w32 c.number_at-4.result = search rules in
    let thr : SFits w32 c.number_at-5.result = search rules in
    odds_ok c.new.result _ _ (odds_are _ _ _ _ _ c.args.bytes.now
    (to_z-of_z w32 c.number_at.result hit ∙ c.number_at.ensures)
    (to_z-of_z w32 c.number_at-2.result miss ∙ c.number_at-2.ensures)
    (to_z-of_z w32 c.number_at-3.result min ∙ c.number_at-3.ensures)
    (to_z-of_z w32 c.number_at-4.result max ∙ c.number_at-4.ensures)
    (to_z-of_z w32 c.number_at-5.result thr ∙ c.number_at-5.ensures)) c.new.ensures.ok
    c.new.ensures.none_bad

pub returns-clause-bad : goal.returns-clause-bad
returns-clause-bad c =
    let hit : SFits w32 c.number_at.result = search rules in
    let miss : SFits w32 c.number_at-2.result = search rules in
    let min : SFits w32 c.number_at-3.result = search rules in
    let max : SFits w32 c.number_at-4.result = search rules in
    let thr : SFits w32 c.number_at-5.result = search rules in
    odds_bad c.new.result _ _ (odds_are _ _ _ _ _ c.args.bytes.now
    (to_z-of_z w32 c.number_at.result hit ∙ c.number_at.ensures)
    (to_z-of_z w32 c.number_at-2.result miss ∙ c.number_at-2.ensures)
    (to_z-of_z w32 c.number_at-3.result min ∙ c.number_at-3.ensures)
    (to_z-of_z w32 c.number_at-4.result max ∙ c.number_at-4.ensures)
    (to_z-of_z w32 c.number_at-5.result thr ∙ c.number_at-5.ensures)) c.new.ensures.first_bad
