use Rattle.oct_ray.specs.Met.{met_by}
use Rattle.oct_ray.proofs.ComputedAxes.{met_by_walks}
use Rattle.oct_cast.proofs.Firsts.{right_answer}
use Rattle.oct_cast.proofs.laws.casts_are_right.Goals as goal

pub returns : goal.returns
returns c = λ edge o e ignore classes range key_o key_e.
    right_answer edge o e ignore classes (met_by edge o e)
    (met_by_walks edge o e range key_o key_e)
