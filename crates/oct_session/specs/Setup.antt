-- The numbers that a session is set up with.
use Rattle.std.specs.Prelude.{ℕ, ◌≤◌, ◌^◌, None}
use Rattle.oct_map.specs.Ground.{Ground}
use Rattle.oct_odds.specs.Odds.{Odds}

-- the edge of a voxel in nanometres, the log-odds, the most groups of the map, the most voxels that
-- a scan may meet, and the most bytes of a script
pub record Setup : Type 0 where
  pub res : ℕ
  pub odds : Odds
  pub max_groups : ℕ
  pub max_cells : ℕ
  pub max_bytes : ℕ

-- what the map's answers read beside the values, at first
abbrev pub ground_in : Setup → Ground
ground_in o = record {
  res = o.res;
  odds = o.odds;
  update_box = None;
  max_groups = o.max_groups;
  max_cells = o.max_cells;
}

-- the most groups are within the range that the option has
pub record IsLimited (o : Setup) : Type 0 where
  pub some : 16 ≤ o.max_groups
  pub few : o.max_groups ≤ 2 ^ 26
