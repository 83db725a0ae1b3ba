-- What holds between any two lines of a session.
use Rattle.std.specs.Prelude.{IfSome}
use Rattle.oct_key.specs.Boxes.{Window, IsBox}
use Rattle.oct_key.specs.Voxel.{Voxel, IsInMap, IsResolution}
use Rattle.oct_odds.specs.Odds.{IsSound}
use Rattle.oct_odds.specs.Update.{IsWithin}
use Rattle.oct_session.specs.History.{State}
use Rattle.oct_session.specs.Setup.{Setup}

-- two corners of a box of the map
abbrev pub IsMapBox : Window → Type 0
IsMapBox box = IsInMap box.lo × IsInMap box.hi × IsBox box.lo box.hi

-- a state that a session may have: the log-odds in force make a model, the box to which scans are
-- restricted lies in the map, where one stands, and each voxel is unknown or has a value within the
-- bounds
pub record IsState (s : State) : Type 0 where
  pub odds : IsSound s.base.odds
  pub update_box : IfSome s.base.update_box IsMapBox
  pub values : (k : Voxel) → IsInMap k → IsWithin s.base.odds (s.values k)

-- a session is set up with a resolution, and with log-odds that make a model
pub record IsSetUp (o : Setup) : Type 0 where
  pub res : IsResolution o.res
  pub odds : IsSound o.odds
