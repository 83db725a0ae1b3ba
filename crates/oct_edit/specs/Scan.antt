-- The events of a scan.
use Rattle.std.specs.Prelude.{◌≡◌, true, List}
use Rattle.oct_key.specs.Voxel.{Voxel}
use Rattle.oct_values.specs.Events.{Events, is_listed, scan_events}
use Rattle.oct_edit.specs.Listed.{ListedUpdate}

-- the events of an update: the hit's on the voxels that are hit, the miss's on those that are freed
abbrev pub events_of : ListedUpdate → Events
events_of update = scan_events update.hits update.hit update.frees update.miss

-- no voxel stands in both lists
abbrev pub AreDisjoint : List Voxel → List Voxel → Type 0
AreDisjoint hits frees =
    (k : Voxel) → is_listed hits k ≡ true → is_listed frees k ≡ true → ⊥
