use Rattle.std.proofs.Common.{All, sym, subst}
use Rattle.std.proofs.lemmas.List.Elements.{All-push}
use Rattle.oct_pose.specs.Reach.{IsInReach}
use Rattle.oct_map_tests.proofs.tests.list_of.Goals as goal

pub loop-x-preserved : goal.loop-x-preserved
loop-x-preserved c = subst (All IsInReach) (sym c.in_ok-push.ensures.ok)
    (All-push IsInReach c.loop-x.list c.tenths.result c.loop-x.invariant c.tenths.ensures)
