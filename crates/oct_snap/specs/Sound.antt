-- What an accepted snapshot is known to say.
use Rattle.std.specs.Prelude.{IfSome}
use Rattle.oct_key.specs.Boxes.{IsBox}
use Rattle.oct_key.specs.Voxel.{Voxel, IsInMap, IsResolution}
use Rattle.oct_odds.specs.Odds.{IsSound}
use Rattle.oct_odds.specs.Update.{IsWithin}
use Rattle.oct_snap.specs.Reading.{Fields, Snapshot, values_of}

-- The fields say the edge of a voxel, log-odds that meet their conditions, and, where they say a
-- box, one of the map.
pub record AreSound (fields : Fields) : Type 0 where
  pub res : IsResolution fields.res
  pub odds : IsSound fields.odds
  pub window : IfSome fields.window (λ w. IsInMap w.lo × IsInMap w.hi × IsBox w.lo w.hi)

-- its fields are sound, and the value of each voxel lies within its bounds
pub record IsSoundSnapshot (s : Snapshot) : Type 0 where
  pub fields : AreSound s.head
  pub within : (k : Voxel) → IsWithin s.head.odds (values_of s k)
