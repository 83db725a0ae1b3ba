-- What the answers of a map read beside the value of each voxel.
use Rattle.std.specs.Prelude.{ℕ, Option}
use Rattle.oct_key.specs.Boxes.{Window}
use Rattle.oct_odds.specs.Odds.{Odds}

-- the edge of a voxel in nanometres, the log-odds in force, the box to which scans are restricted,
-- where one stands, the most groups that the map may have, and the most voxels that a scan may meet
pub record Ground : Type 0 where
  pub res : ℕ
  pub odds : Odds
  pub update_box : Option Window
  pub max_groups : ℕ
  pub max_cells : ℕ
