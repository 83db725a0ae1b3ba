use Rattle.oct_values.proofs.Kept.{groups_after_events, groups_after_box, groups_after_all}
use Rattle.oct_values.proofs.Around.{groups_after_edit}
use Rattle.oct_values.proofs.laws.events_make_few_groups.Goals as goal

pub returns-clause-events : goal.returns-clause-events
returns-clause-events c odds events values = groups_after_events odds events values

pub returns-clause-voxel : goal.returns-clause-voxel
returns-clause-voxel c odds k event values v = groups_after_edit odds k event values v

pub returns-clause-boxes : goal.returns-clause-boxes
returns-clause-boxes c odds lo hi event values = groups_after_box odds lo hi event values

pub returns-clause-all : goal.returns-clause-all
returns-clause-all c odds event values = groups_after_all odds event values
