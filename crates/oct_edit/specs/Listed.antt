-- Voxels and their events, as a scan's update says them.
use Rattle.std.specs.Prelude.{List}
use Rattle.oct_key.specs.Voxel.{Voxel}
use Rattle.oct_odds.specs.declared.event.Event.{Event}
use Rattle.oct_brick.specs.declared.brick.Brick.{Brick}
use Rattle.oct_brick.specs.Voxels.{hit_voxels, freed_voxels}

-- the voxels that are hit, those that are freed, and the event of each kind
pub record ListedUpdate : Type 0 where
  pub hits : List Voxel
  pub frees : List Voxel
  pub hit : Event
  pub miss : Event

-- the update that bricks stand for
abbrev pub update_of : List Brick → Event → Event → ListedUpdate
update_of bricks hit miss = record {
  hits = hit_voxels bricks;
  frees = freed_voxels bricks;
  hit = hit;
  miss = miss;
}
