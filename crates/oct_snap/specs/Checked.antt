-- What the code has read of a node.
use Rattle.std.specs.Prelude.{◌≡◌, ℕ, ◌+◌, ◌<◌, ◌≤◌, List, length, drop, Result, Ok, Err}
use Rattle.oct_snap.specs.declared.fault.SnapFault.{SnapFault}
use Rattle.oct_snap.specs.declared.common.Common.{Common as Shared}
use Rattle.oct_snap.specs.declared.common.Common.TheVariants.{Value as OfValue, Several}
use Rattle.oct_snap.specs.declared.checking.NodeRead.{NodeRead}
use Rattle.oct_snap.specs.Nodes.{Nodes, End, Whole, Parted, group_total}
use Rattle.oct_snap.specs.declared.head.FieldsRead.{FieldsRead}
use Rattle.oct_snap.specs.declared.info.SnapInfo.{SnapInfo}
use Rattle.oct_odds.specs.Odds.{odds_of}
use Rattle.oct_snap.specs.Reading.{Found, Fields, Snapshot}

-- one node, of this value, or of several
abbrev pub IsOneNode : Shared → Nodes → Type 0
IsOneNode (OfValue value) nodes = nodes ≡ Whole value End
IsOneNode Several nodes = (inner : Nodes) × (nodes ≡ Parted inner End)

-- a node was read: the place after it, its groups, and what its voxels have in common
pub record IsRead (bytes : List ℕ) (at : ℕ) (f : Found) (r : NodeRead) : Type 0 where
  pub next : f.at ≡ r.next
  pub rest : f.rest ≡ drop r.next bytes
  pub within : r.next ≤ length bytes
  pub groups : r.groups ≡ group_total f.nodes
  pub few : at + r.groups < r.next
  pub common : IsOneNode r.common f.nodes

-- what was read is the node, or its first fault
abbrev pub IsNodeRead : List ℕ → ℕ → Result Found SnapFault → Result NodeRead SnapFault → Type 0
IsNodeRead bytes at (Ok f) (Ok r) = IsRead bytes at f r
IsNodeRead bytes at (Err fault) (Err seen) = fault ≡ seen
IsNodeRead bytes at _ _ = ⊥

-- the fields were read
pub record IsFieldsRead (bytes : List ℕ) (h : Fields) (f : FieldsRead) : Type 0 where
  pub res : f.res ≡ h.res
  pub version : f.version ≡ h.version
  pub odds : odds_of f.odds ≡ h.odds
  pub window : f.window ≡ h.window
  pub start : f.start ≡ h.start
  pub within : f.start ≤ length bytes

-- what was read are the fields, or the first fault in them
abbrev pub AreFieldsRead : List ℕ → Result Fields SnapFault → Result FieldsRead SnapFault → Type 0
AreFieldsRead bytes (Ok h) (Ok f) = IsFieldsRead bytes h f
AreFieldsRead bytes (Err fault) (Err seen) = fault ≡ seen
AreFieldsRead bytes _ _ = ⊥

-- what a snapshot says of itself
pub record IsInfo (s : Snapshot) (info : SnapInfo) : Type 0 where
  pub res : info.res ≡ s.head.res
  pub groups : info.groups ≡ group_total s.nodes
  pub version : info.version ≡ s.head.version
  pub odds : odds_of info.odds ≡ s.head.odds
  pub window : info.window ≡ s.head.window

-- the answer to a snapshot: what it says of itself, or its first fault
abbrev pub IsChecked : Result Snapshot SnapFault → Result SnapInfo SnapFault → Type 0
IsChecked (Ok s) (Ok info) = IsInfo s info
IsChecked (Err fault) (Err seen) = fault ≡ seen
IsChecked _ _ = ⊥
