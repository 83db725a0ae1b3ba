use Rattle.std.proofs.Common.{rules, ◌≡◌, SFits, w64, to_z-of_z}
use Rattle.oct_pose.specs.Rotation.{norm}
use Rattle.oct_pose.proofs.Turns.{norm_positive}
use Rattle.oct_pose.proofs.rotation.Quaternion.rotate_by_rows.Goals as goal

pub coordinate-requires-clause-positive : goal.coordinate-requires-clause-positive
coordinate-requires-clause-positive c =
    let fits : SFits w64 c.norm-norm.result = search rules in
    let is : c.norm-norm.result ≡ norm c.args.self = search rules in
    simp to_z-of_z (rw is (norm_positive c.args.self c.requires.turns))

pub coordinate-requires-2-clause-positive : goal.coordinate-requires-2-clause-positive
coordinate-requires-2-clause-positive c =
    let fits : SFits w64 c.norm-norm.result = search rules in
    let is : c.norm-norm.result ≡ norm c.args.self = search rules in
    simp to_z-of_z (rw is (norm_positive c.args.self c.requires.turns))

pub coordinate-requires-3-clause-positive : goal.coordinate-requires-3-clause-positive
coordinate-requires-3-clause-positive c =
    let fits : SFits w64 c.norm-norm.result = search rules in
    let is : c.norm-norm.result ≡ norm c.args.self = search rules in
    simp to_z-of_z (rw is (norm_positive c.args.self c.requires.turns))
