use Rattle.oct_values.proofs.Held.{listed_exactly, listed_once}
use Rattle.oct_values.proofs.laws.voxels_are_listed_once.Goals as goal

pub returns-clause-held : goal.returns-clause-held
returns-clause-held c = λ b k ok. listed_exactly b k ok

pub returns-clause-once : goal.returns-clause-once
returns-clause-once c = λ b k ok held. listed_once b k ok held
