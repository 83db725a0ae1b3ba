use Rattle.std.proofs.Common.{◌≡◌, ap, sym, refl, ◌∙◌, true, false, SFits, w16, to_z-of_z, rules}
use Rattle.oct_pose.specs.Reach.{IsZero}
use Rattle.octofix.proofs.Poses.{places_done, places_refused, places_zero}
use Rattle.octofix.proofs.Sights.{turning_pose, zero_pose}
use Rattle.octofix.specs.Places.{places_by}
use Rattle.octofix.specs.Sightings.{is_in_reach}
use Rattle.octofix.specs.declared.refusal.Refusal.TheVariants.{ZeroQuaternion}
use Rattle.octofix.proofs.places.pose_for.Goals as goal

pub returns-in_err-by-clause-refused : goal.returns-in_err-by-clause-refused
returns-in_err-by-clause-refused c =
    let w : SFits w16 c.args.pose.w = search rules in
    let x : SFits w16 c.args.pose.x = search rules in
    let y : SFits w16 c.args.pose.y = search rules in
    let z : SFits w16 c.args.pose.z = search rules in
    let zero : IsZero c.args.pose.w c.args.pose.x c.args.pose.y c.args.pose.z =
    simp to_z-of_z at (c.in_err-by.ensures.refused.0 refl) in
    places_refused (places_by c.args.pose c.args.points.now) c.from_residual-in_err-by.result
    ZeroQuaternion c.from_residual-in_err-by.ensures.1
    (places_zero c.args.pose c.args.points.now
    (sym (ap is_in_reach c.point-origin.ensures) ∙ sym c.is_in_reach.ensures.exact
    ∙ c.if-not-is_in_reach.false)
    c.in_ok-test_points.ensures.near.0 (zero_pose c.args.pose zero))

pub returns-clause-places : goal.returns-clause-places
returns-clause-places c =
    let w : SFits w16 c.args.pose.w = search rules in
    let x : SFits w16 c.args.pose.x = search rules in
    let y : SFits w16 c.args.pose.y = search rules in
    let z : SFits w16 c.args.pose.z = search rules in
    let zero : IsZero c.args.pose.w c.args.pose.x c.args.pose.y c.args.pose.z → false ≡ true =
    simp to_z-of_z at c.in_ok-by.ensures.refused.1 in
    let q = c.in_ok-by.ensures.quaternion in
    places_done c.args.pose c.in_ok-by.by c.args.points.now
    (sym (ap is_in_reach c.point-origin.ensures) ∙ sym c.is_in_reach.ensures.exact
    ∙ c.if-not-is_in_reach.false)
    c.in_ok-test_points.ensures.near.0
    (turning_pose c.args.pose (λ is. let e = zero is in cc))
    (c.in_ok-by.ensures.translation ∙ c.point-origin.ensures)
    (simp to_z-of_z at (ap (λ v. v.w) q)) (simp to_z-of_z at (ap (λ v. v.x) q))
    (simp to_z-of_z at (ap (λ v. v.y) q)) (simp to_z-of_z at (ap (λ v. v.z) q))
