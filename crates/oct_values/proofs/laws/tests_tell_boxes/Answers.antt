use Rattle.oct_key.proofs.Boxes.{in_box_exactly}
use Rattle.oct_values.proofs.Boxes.{met_by_voxels, cut_exactly}
use Rattle.oct_values.proofs.laws.tests_tell_boxes.Goals as goal

pub returns-clause-voxel : goal.returns-clause-voxel
returns-clause-voxel c lo hi k = in_box_exactly lo hi k

pub returns-clause-cut : goal.returns-clause-cut
returns-clause-cut c lo hi b ok = cut_exactly lo hi b ok

pub returns-clause-met : goal.returns-clause-met
returns-clause-met c lo hi b ok = met_by_voxels lo hi b ok
