use Rattle.std.proofs.Common.{◌≡◌, ◌<◌, ◌≤◌, ◌*◌, ◌^◌, ℤ, ◌+ℤ◌, SFits, w64, to_z-of_z, arith, refl}
use Rattle.std.proofs.Common.{ap, ◌∙◌}
use Rattle.std.proofs.lemmas.Int.{ints}
use Rattle.std.specs.Prelude.{unsigned_abs}
use Rattle.oct_pose.specs.Posed.{quaternion_of}
use Rattle.oct_pose.specs.Rotation.{rotated}
use Rattle.oct_pose.proofs.Nearness.{IsNearestTo-posed}
use Rattle.oct_pose.proofs.pose.Pose.apply.Goals as goal

-- a coordinate in reach and that of a turned point fit, and so does their sum
fits : (a b : ℤ) → unsigned_abs a < 10 ^ 16 → unsigned_abs b ≤ 3 * 10 ^ 16
    → SFits w64 a × SFits w64 b × SFits w64 (a +ℤ b)
fits a b h k = (omega (arith, ints), omega (arith, ints), omega (arith, ints))

pub returns-clause-exact : goal.returns-clause-exact
returns-clause-exact c =
    let t = c.args.self.now.t in
    let turned = c.rotate-turned.result in
    let x = fits t.x turned.x c.args.self.now.in_reach.x c.rotate-turned.ensures.x in
    let y = fits t.y turned.y c.args.self.now.in_reach.y c.rotate-turned.ensures.y in
    let z = fits t.z turned.z c.args.self.now.in_reach.z c.rotate-turned.ensures.z in
    let tx : SFits w64 t.x = x.0 in
    let ty : SFits w64 t.y = y.0 in
    let tz : SFits w64 t.z = z.0 in
    let rx : SFits w64 turned.x = x.1 in
    let ry : SFits w64 turned.y = y.1 in
    let rz : SFits w64 turned.z = z.1 in
    let sx : SFits w64 (t.x +ℤ turned.x) = x.2 in
    let sy : SFits w64 (t.y +ℤ turned.y) = y.2 in
    let sz : SFits w64 (t.z +ℤ turned.z) = z.2 in
    let is : c.rotate-turned.result ≡ rotated (quaternion_of c.args.self.now) c.args.p =
    c.rotate-turned.ensures.exact ∙ ap (λ q. rotated q c.args.p) c.quaternion.ensures in
    simp to_z-of_z (rw is refl)

pub returns-clause-nearest : goal.returns-clause-nearest
returns-clause-nearest c = rw (returns-clause-exact c) (IsNearestTo-posed c.args.self.now c.args.p)
