-- Files of maps, as bytes.
use Rattle.std.specs.Prelude.{◌≡◌, ℕ, List, [], IfOk, IsSome, ⊤, Option, Result, Ok, Err}
use Rattle.oct_bt.specs.File.{FileRead, reading}
use Rattle.oct_bt.specs.Reading.{KeepsSome, file_progress}
use Rattle.oct_bt.specs.Records.{record_total}
use Rattle.oct_bt.specs.declared.fault.BtFault.{BtFault}
use Rattle.oct_map.specs.Loads.{load_answer, IsMapLoaded}
use Rattle.oct_map.specs.Map.{Map, ground_of}
use Rattle.oct_map.specs.Restores.{restore_answer, IsMapRestored}
use Rattle.oct_snap.specs.Reading.{read_snapshot}
use Rattle.octofix.specs.Codes.{of_map}
use Rattle.octofix.specs.declared.refusal.Refusal.{Refusal}
use Rattle.octofix.specs.declared.refusal.Refusal.TheVariants as refusal

-- the answer to a file that was read, or that wasn't
abbrev pub load_by : Map → Result FileRead BtFault → Result ⊤ Refusal
load_by m (Err fault) = Err (refusal.File fault)
load_by m (Ok file) = of_map (load_answer (ground_of m) file.res (record_total file.codes))

-- the answer to a file of these bytes
abbrev pub loading : List ℕ → Map → Result ⊤ Refusal
loading bytes m = load_by m (reading bytes)

-- memory runs out for a file of these bytes only where there is a map, and a byte that is kept
abbrev pub MayTakeMemory : Option Map → List ℕ → Type 0
MayTakeMemory handle bytes = IsSome handle × KeepsSome (file_progress []) bytes

-- the answer to a snapshot of these bytes: how many groups its values need
abbrev pub restoring : List ℕ → Map → Result ℕ Refusal
restoring bytes m = of_map (restore_answer (ground_of m) (read_snapshot m.tree.odds bytes))

-- what a load of the file of these bytes leaves: each voxel has the value of its class, and what
-- answers read beside the values is as it was
abbrev pub IsLoadedFrom : List ℕ → Map → Map → Type 0
IsLoadedFrom bytes m n =
    IfOk (reading bytes) (λ file. IsMapLoaded m n file.codes) × (ground_of n ≡ ground_of m)

-- what a restore of the snapshot of these bytes leaves
abbrev pub IsRestoredFrom : List ℕ → Map → Map → Type 0
IsRestoredFrom bytes m n = IfOk (read_snapshot m.tree.odds bytes) (IsMapRestored m n)

-- memory runs out for a snapshot only where it is accepted, and its values need some group
abbrev pub NeedsGroups : Result ℕ Refusal → Type 0
NeedsGroups (Ok groups) = groups ≡ 0 → ⊥
NeedsGroups (Err refusal) = ⊥
