use Rattle.oct_values.proofs.Uniform.{same_group_count, same_node_count}
use Rattle.oct_values.proofs.Largest.{same_depth_value}
use Rattle.oct_values.proofs.Reached.{same_need}
use Rattle.oct_values.proofs.laws.answers_are_of_the_map.Goals as goal

pub returns-clause-groups : goal.returns-clause-groups
returns-clause-groups c = λ v w same. same_group_count v w same

pub returns-clause-nodes : goal.returns-clause-nodes
returns-clause-nodes c = λ v w same. same_node_count v w same

pub returns-clause-depths : goal.returns-clause-depths
returns-clause-depths c = λ v w b ok same. same_depth_value v w b ok same

pub returns-clause-needs : goal.returns-clause-needs
returns-clause-needs c = λ d e same. same_need d e same
