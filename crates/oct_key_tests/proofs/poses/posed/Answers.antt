use Rattle.std.proofs.Common.{rules}
use Rattle.oct_key_tests.proofs.poses.posed.Goals as goal

pub apply-requires : goal.apply-requires
apply-requires c = c.is_in_reach-else-not-is_in_reach.ensures.0 (search rules)
