use Rattle.oct_promise.proofs.Shifted.{scan_shifted, maps_shifted}
use Rattle.oct_promise.proofs.laws.shifted_scans_are_shifted.Goals as goal

pub returns-clause-voxels : goal.returns-clause-voxels
returns-clause-voxels c = scan_shifted

pub returns-clause-maps : goal.returns-clause-maps
returns-clause-maps c = maps_shifted
