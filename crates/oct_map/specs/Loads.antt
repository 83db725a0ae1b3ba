-- What a map answers to a file of classes that is to take its place, and what the file leaves.
use Rattle.std.specs.Prelude.{◌≡◌, ℕ, ◌+◌, ◌≤◌, nat_lt, nat_eq, pos, false, List, None, ⊤, Result}
use Rattle.std.specs.Prelude.{Ok, Err, if◌then◌else◌}
use Rattle.oct_key.specs.Values.{Values, SameValues}
use Rattle.oct_odds.specs.Odds.{Odds}
use Rattle.oct_arena.specs.Entries.{live}
use Rattle.oct_tree.specs.Shape.{IsPruned}
use Rattle.oct_bt.specs.Classes.{value_for}
use Rattle.oct_bt.specs.DataClasses.{data_classes}
use Rattle.oct_bt.specs.Records.{record_total}
use Rattle.oct_map.specs.declared.fault.MapFault.{MapFault}
use Rattle.oct_map.specs.declared.fault.MapFault.TheVariants.{OtherResolution, Full}
use Rattle.oct_map.specs.Ground.{Ground}
use Rattle.oct_map.specs.Map.{Map, values_of}
use Rattle.oct_map.specs.Edits.{entries_of}

-- whether a new map of this many groups is within the limit
abbrev pub fresh_room_answer : ℕ → ℕ → Result ⊤ MapFault
fresh_room_answer max_groups need = if nat_lt max_groups need then Err (Full 0 need) else Ok tt

-- the answer to a file of this resolution and this many records, by the map's resolution and limit
-- alone
abbrev pub load_answer : Ground → ℕ → ℕ → Result ⊤ MapFault
load_answer g res records =
    if nat_eq res g.res then fresh_room_answer g.max_groups records
    else Err (OtherResolution (pos res) (pos g.res))

-- the value of each voxel after the load of these records: the upper bound where the file says
-- occupied, the lower one where it says free, and none elsewhere
abbrev pub loaded_values : Odds → List ℕ → Values
loaded_values odds codes k = value_for odds (data_classes codes k)

-- What an accepted load of these records leaves: the values of the file's classes in a pruned map
-- that isn't stale and has no mark, with no more groups than the file has records, and memory for
-- no more than these and 1,023 entries, or for none where there are no records.
pub record IsMapLoaded (m n : Map) (codes : List ℕ) : Type 0 where
  pub values : SameValues (loaded_values m.tree.odds codes) (values_of n)
  pub stale : n.is_stale ≡ false
  pub mark : n.mark ≡ None
  pub pruned : IsPruned n.tree
  pub groups : live n.tree.groups ≤ record_total codes
  pub reserved : entries_of n ≤ record_total codes + 1023
  pub unreserved : record_total codes ≡ 0 → entries_of n ≡ 0
