use Rattle.oct_ray.proofs.ComputedAxes.{met_by_walks}
use Rattle.oct_ray.proofs.laws.segments_are_walked.Goals as goal

pub returns : goal.returns
returns c = λ edge o e range key_o key_e. met_by_walks edge o e range key_o key_e
