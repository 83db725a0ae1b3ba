use Rattle.std.proofs.Common.{rules, ◌≡◌}
use Rattle.oct_session.proofs.ZeroQuaternion.{not_zero}
use Rattle.oct_session.proofs.scan_block.PendingScan.into_scan.Goals as goal

pub returns-clause-zero : goal.returns-clause-zero
returns-clause-zero c =
    let w : c.in_ok-pose.pose.w ≡ c.args.self.head.w = search rules in
    let x : c.in_ok-pose.pose.x ≡ c.args.self.head.x = search rules in
    let y : c.in_ok-pose.pose.y ≡ c.args.self.head.y = search rules in
    let z : c.in_ok-pose.pose.z ≡ c.args.self.head.z = search rules in
    not_zero c.args.self.head c.in_ok-pose.pose.w c.in_ok-pose.pose.x c.in_ok-pose.pose.y
    c.in_ok-pose.pose.z c.in_ok-pose.pose.turns w x y z
