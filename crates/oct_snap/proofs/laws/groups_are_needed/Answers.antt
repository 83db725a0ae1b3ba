use Rattle.std.proofs.Common.{drop, subst, refl}
use Rattle.oct_snap.specs.Nodes.{Nodes, AreNodes}
use Rattle.oct_snap.specs.Reading.{values_of}
use Rattle.oct_snap.proofs.FoundNodes.{node_one}
use Rattle.oct_snap.proofs.WholeFills.{whole_read}
use Rattle.oct_snap.proofs.GroupCounts.{groups_are}
use Rattle.oct_snap.proofs.laws.groups_are_needed.Goals as goal

pub returns : goal.returns
returns c = λ o bytes s is.
    (let w = whole_read o bytes s is in
    groups_are s.head.odds (values_of s) s.nodes
    (subst (λ (n : Nodes). AreNodes s.head.odds 16 1 n) w.nodes
    (node_one s.head.odds 16 s.head.start (drop s.head.start bytes) w.one w.node))
    (λ k ok. refl))
