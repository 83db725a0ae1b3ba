use Rattle.std.proofs.Common.{◌≡◌, ap, sym, subst, refl, ◌∙◌, All, true, false, Ok, Err}
use Rattle.std.proofs.Common.{SFits, w16, w32, to_z-of_z, rules}
use Rattle.oct_pose.specs.Reach.{IsInReach, IsZero}
use Rattle.octofix.proofs.Sights.{read_all, read_begun, read_mistrust, read_refused, read_short}
use Rattle.octofix.proofs.Sights.{read_zero, seen_is, seen_with, turning_pose, zero_pose}
use Rattle.octofix.specs.Sightings.{sighting_from, trust_from}
use Rattle.octofix.specs.declared.refusal.Refusal.TheVariants.{ZeroQuaternion}
use Rattle.octofix.proofs.scans.scan_of.Goals as goal

pub returns-in_err-pose : goal.returns-in_err-pose
returns-in_err-pose c =
    let w : SFits w16 c.args.pose.w = search rules in
    let x : SFits w16 c.args.pose.x = search rules in
    let y : SFits w16 c.args.pose.y = search rules in
    let z : SFits w16 c.args.pose.z = search rules in
    let zero : IsZero c.args.pose.w c.args.pose.x c.args.pose.y c.args.pose.z =
    simp to_z-of_z at (c.in_err-pose.ensures.refused.0 refl) in
    read_refused (sighting_from c.args.pose c.args.points.now c.args.options)
    c.args.points.now c.from_residual-in_err-pose.result ZeroQuaternion
    c.from_residual-in_err-pose.ensures.1
    ((read_begun c.args.pose c.args.points.now c.args.options c.in_ok-range.range
    c.point-origin.result c.is_in_reach.result c.range_of.result c.point-origin.ensures
    c.is_in_reach.ensures.exact c.if-not-is_in_reach.false c.in_ok-test_points.ensures.near.0
    c.range_of.ensures.exact c.in_ok-range.was (search rules))
    ∙ read_zero c.args.pose c.args.points.now c.args.options c.in_ok-range.range
    (zero_pose c.args.pose zero))

pub returns-in_err-odds : goal.returns-in_err-odds
returns-in_err-odds c =
    let w : SFits w16 c.args.pose.w = search rules in
    let x : SFits w16 c.args.pose.x = search rules in
    let y : SFits w16 c.args.pose.y = search rules in
    let z : SFits w16 c.args.pose.z = search rules in
    let hit : SFits w32 c.args.options.hit = search rules in
    let miss : SFits w32 c.args.options.miss = search rules in
    let zero : IsZero c.args.pose.w c.args.pose.x c.args.pose.y c.args.pose.z → false ≡ true =
    simp to_z-of_z at c.in_ok-pose.ensures.refused.1 in
    let turns = turning_pose c.args.pose (λ is. let e = zero is in cc) in
    let wrong : trust_from c.args.options.hit c.args.options.miss ≡ Err c.in_err-odds.field-0.0 =
    simp to_z-of_z at (sym c.in_err-odds.ensures.exact) in
    read_refused (sighting_from c.args.pose c.args.points.now c.args.options)
    c.args.points.now c.from_residual-in_err-odds.result c.in_err-odds.field-0.0
    c.from_residual-in_err-odds.ensures.1
    ((read_begun c.args.pose c.args.points.now c.args.options c.in_ok-range.range
    c.point-origin.result c.is_in_reach.result c.range_of.result c.point-origin.ensures
    c.is_in_reach.ensures.exact c.if-not-is_in_reach.false c.in_ok-test_points.ensures.near.0
    c.range_of.ensures.exact c.in_ok-range.was (search rules))
    ∙ read_mistrust c.args.pose c.args.points.now c.args.options c.in_ok-range.range
    c.in_err-odds.field-0.0 turns wrong)

pub returns-in_err-points : goal.returns-in_err-points
returns-in_err-points c =
    let w : SFits w16 c.args.pose.w = search rules in
    let x : SFits w16 c.args.pose.x = search rules in
    let y : SFits w16 c.args.pose.y = search rules in
    let z : SFits w16 c.args.pose.z = search rules in
    let hit : SFits w32 c.args.options.hit = search rules in
    let miss : SFits w32 c.args.options.miss = search rules in
    let zero : IsZero c.args.pose.w c.args.pose.x c.args.pose.y c.args.pose.z → false ≡ true =
    simp to_z-of_z at c.in_ok-pose.ensures.refused.1 in
    let turns = turning_pose c.args.pose (λ is. let e = zero is in cc) in
    let right : trust_from c.args.options.hit c.args.options.miss ≡ Ok c.in_ok-odds.odds =
    simp to_z-of_z at (sym c.in_ok-odds.ensures.exact) in
    read_short (sighting_from c.args.pose c.args.points.now c.args.options)
    c.args.points.now c.from_residual-in_err-points.result
    (seen_with c.args.pose c.args.points.now c.in_ok-range.range c.in_ok-odds.odds)
    c.from_residual-in_err-points.ensures.1 c.in_err-points.ensures.memory
    ((read_begun c.args.pose c.args.points.now c.args.options c.in_ok-range.range
    c.point-origin.result c.is_in_reach.result c.range_of.result c.point-origin.ensures
    c.is_in_reach.ensures.exact c.if-not-is_in_reach.false c.in_ok-test_points.ensures.near.0
    c.range_of.ensures.exact c.in_ok-range.was (search rules))
    ∙ read_all c.args.pose c.args.points.now c.args.options c.in_ok-range.range
    c.in_ok-odds.odds turns right)

pub returns : goal.returns
returns c =
    let w : SFits w16 c.args.pose.w = search rules in
    let x : SFits w16 c.args.pose.x = search rules in
    let y : SFits w16 c.args.pose.y = search rules in
    let z : SFits w16 c.args.pose.z = search rules in
    let hit : SFits w32 c.args.options.hit = search rules in
    let miss : SFits w32 c.args.options.miss = search rules in
    let zero : IsZero c.args.pose.w c.args.pose.x c.args.pose.y c.args.pose.z → false ≡ true =
    simp to_z-of_z at c.in_ok-pose.ensures.refused.1 in
    let turns = turning_pose c.args.pose (λ is. let e = zero is in cc) in
    let right : trust_from c.args.options.hit c.args.options.miss ≡ Ok c.in_ok-odds.odds =
    simp to_z-of_z at (sym c.in_ok-odds.ensures.exact) in
    let q = c.in_ok-pose.ensures.quaternion in
    let same = seen_is c.args.pose c.args.points.now (record {
      pose = c.in_ok-pose.pose;
      points = c.in_ok-points.points;
      range = c.in_ok-range.range;
      odds = c.in_ok-odds.odds;
    }) (c.in_ok-pose.ensures.translation ∙ c.point-origin.ensures)
    (simp to_z-of_z at (ap (λ v. v.w) q)) (simp to_z-of_z at (ap (λ v. v.x) q))
    (simp to_z-of_z at (ap (λ v. v.y) q)) (simp to_z-of_z at (ap (λ v. v.z) q))
    c.in_ok-points.ensures.exact in (
      (read_begun c.args.pose c.args.points.now c.args.options c.in_ok-range.range
          c.point-origin.result c.is_in_reach.result c.range_of.result c.point-origin.ensures
          c.is_in_reach.ensures.exact c.if-not-is_in_reach.false c.in_ok-test_points.ensures.near.0
          c.range_of.ensures.exact c.in_ok-range.was (search rules))
          ∙ read_all c.args.pose c.args.points.now c.args.options c.in_ok-range.range
          c.in_ok-odds.odds turns right ∙ ap Ok same,
      record {
        points = subst (All IsInReach) (sym c.in_ok-points.ensures.exact)
            c.in_ok-test_points.ensures.near.1;
        range = c.in_ok-range.ensures.bounds;
        odds = c.in_ok-odds.ensures.trust;
      },
    )
