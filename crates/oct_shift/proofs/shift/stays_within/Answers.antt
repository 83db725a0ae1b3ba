use Rattle.std.proofs.Common.{rules, sym, ◌∙◌}
use Rattle.std.proofs.lemmas.Int.{to_z-of_z}
use mir.Val.{SFits}
use mir.Syntax.{w32}
use Rattle.oct_shift.proofs.Landings.{passed, all_land, one_leaves, two_leave}
use Rattle.oct_shift.proofs.shift.stays_within.Goals as goal
use Rattle.oct_shift.proofs.shift.stays_within.Goals.{then-lands, else-lands}

pub returns-then-lands-2 : goal.returns-then-lands-2
returns-then-lands-2 c =
    let fx : SFits w32 c.args.shift.x = search rules in
    let fy : SFits w32 c.args.shift.y = search rules in
    let fz : SFits w32 c.args.shift.z = search rules in
    let z = passed _ c.args.shift.z c.args.k.z _ (to_z-of_z w32 c.args.shift.z fz)
    c.lands-then-lands-2.ensures in
    let x = passed _ c.args.shift.x c.args.k.x _ (to_z-of_z w32 c.args.shift.x fx)
    c.lands.ensures in
    elim c.if-lands.branch [
      | then-lands w ↦
          (let y = passed _ c.args.shift.y c.args.k.y _ (to_z-of_z w32 c.args.shift.y fy)
          w.lands-then-lands.ensures in
          all_land _ _ _ _ (sym x ∙ w.if-lands.true)
          (sym y ∙ sym w.value-is ∙ c.if-lands-2.true) z)
      | else-lands w ↦ cc
    ]

pub returns-else-lands-2 : goal.returns-else-lands-2
returns-else-lands-2 c =
    let fx : SFits w32 c.args.shift.x = search rules in
    let fy : SFits w32 c.args.shift.y = search rules in
    let x = passed _ c.args.shift.x c.args.k.x _ (to_z-of_z w32 c.args.shift.x fx)
    c.lands.ensures in
    elim c.if-lands.branch [
      | then-lands w ↦
          (let y = passed _ c.args.shift.y c.args.k.y _ (to_z-of_z w32 c.args.shift.y fy)
          w.lands-then-lands.ensures in
          two_leave _ _ _ _ (sym x ∙ w.if-lands.true) (sym y ∙ sym w.value-is ∙ c.if-lands-2.false)
          c.if-lands-2.false)
      | else-lands w ↦ one_leaves _ _ _ _ (sym x ∙ w.if-lands.false) c.if-lands-2.false
    ]
