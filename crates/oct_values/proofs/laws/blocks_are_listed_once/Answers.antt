use Rattle.oct_values.proofs.Listed.{all_above_voxels, block_listed_once}
use Rattle.oct_values.proofs.laws.blocks_are_listed_once.Goals as goal

pub returns-clause-held : goal.returns-clause-held
returns-clause-held c = all_above_voxels

pub returns-clause-once : goal.returns-clause-once
returns-clause-once c = λ b ok low. block_listed_once b ok low
