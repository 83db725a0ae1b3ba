use Rattle.std.proofs.Common.{inl, inr}
use Rattle.oct_snap.proofs.Again.{read_again, read_as}
use Rattle.oct_snap.proofs.laws.snapshots_are_read_again.Goals as goal

pub returns-clause-same : goal.returns-clause-same
returns-clause-same c = λ o bytes s is. read_again o bytes s is

pub returns-clause-versions : goal.returns-clause-versions
returns-clause-versions c =
    λ o bytes s is. elim (read_as o bytes s is) [
      | inl old ↦ inl (old.fields.version, old.fields.odds, old.fields.window)
      | inr new ↦ inr
          new.fields.version
    ]
