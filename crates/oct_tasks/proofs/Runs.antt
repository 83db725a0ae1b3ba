-- How a run ends, by its task.
use Rattle.std.proofs.Common.{◌≡◌, ℕ, ◌+◌, ◌≤◌, List, Option, Some, None, IfSome, false, refl}
use Rattle.std.proofs.Common.{arith}
use Rattle.oct_io.specs.Files.{Files}
use Rattle.oct_map.specs.Map.{Map}
use Rattle.oct_session.specs.Building.{HasBuiltAs}
use Rattle.oct_session.specs.Leaving.{desk, HasEndedAs}
use Rattle.oct_session.specs.Session as session
use Rattle.oct_session.specs.Setup.{Setup}
use Rattle.oct_io.specs.Shelf.{Shelf, shelf}
use Rattle.oct_io.specs.FaultCounts.{IsAsked}
use Rattle.oct_io.specs.declared.status.Status.{Status}
use Rattle.oct_file_tasks.specs.TwoFiles.{loads_of}
use Rattle.oct_file_tasks.specs.declared.store_task.StoreTask.{StoreTask}
use Rattle.oct_tasks.specs.Ending.{MayEnd, LeavesStore}
use Rattle.oct_tasks.specs.Needs.{reads, names_files, ReadsTold}
use Rattle.oct_tasks.specs.Task.{Task, Session, Build, OverFile, OverStore, Gen, Drill}
use Rattle.oct_tasks.proofs.Loads.{some_load}

-- how a run may end whose files are told
abbrev pub Answers : Option Task → Option Files → Option (List ℕ) → Option (List ℕ)
    → Option (List ℕ) → Option (List ℕ) → Status → Type 0
Answers task files left after v u s =
    IfSome left (λ bytes. ReadsTold (reads task) files bytes
    → MayEnd task files bytes after v u s)

-- and what it leaves of the store
abbrev pub StoreLeft : Type 0 → Option Task → Option Files → Option (List ℕ) → Option (List ℕ)
    → Option (List ℕ) → Option (List ℕ) → Shelf → Status → Type 0
StoreLeft short task files left after v u k s =
    IfSome left (λ bytes. ReadsTold (reads task) files bytes
    → LeavesStore task files bytes after v u k short s)

-- how a run ends, and what it leaves of the store
pub record HasRun (short : Type 0) (task : Option Task) (files : Option Files)
    (left after v u : Option (List ℕ)) (k : Shelf) (s : Status) : Type 0 where
  pub answer : Answers task files left after v u s
  pub leaves : StoreLeft short task files left after v u k s

-- ---- a script

-- how a session has ended
abbrev pub SessionEnds : Type 0 → Setup → Option Files → Option (List ℕ) → Option (List ℕ)
    → Option (List ℕ) → Option (List ℕ) → Map → Shelf → Status → Type 0
SessionEnds short o files left after v u m k s =
    IfSome left (λ bytes. session.ReadsTold o files bytes
    → HasEndedAs o files bytes after v u (desk m k) short s)

-- how a build has ended
abbrev pub BuildEnds : Setup → Option Files → Option (List ℕ) → Option (List ℕ)
    → Option (List ℕ) → Option (List ℕ) → Map → Shelf → Status → Type 0
BuildEnds o files left after v u m k s =
    IfSome left (λ bytes. session.ReadsTold o files bytes
    → HasBuiltAs o files bytes after v u (desk m k) s)

-- a run whose task is a session ends as the session does
pub session_run : (short : Type 0) (o : Setup) (files : Option Files)
    (left after v u : Option (List ℕ)) (m : Map) (k : Shelf) (s : Status)
    → SessionEnds short o files left after v u m k s
    → HasRun short (Some (Session o)) files left after v u k s
session_run short o files None after v u m k s ends = record { answer = tt; leaves = tt }
session_run short o files (Some bytes) after v u m k s ends = record {
  answer = λ told. (ends told).answer;
  leaves = λ told. (let at = ends told in
      record { leaves = (m, at.leaves); asked = at.asked; files_told = at.files_told });
}

-- a run whose task is a build ends as the build does
pub build_run : (short : Type 0) (o : Setup) (files : Option Files)
    (left after v u : Option (List ℕ)) (m : Map) (k : Shelf) (s : Status)
    → BuildEnds o files left after v u m k s
    → HasRun short (Some (Build o)) files left after v u k s
build_run short o files None after v u m k s ends = record { answer = tt; leaves = tt }
build_run short o files (Some bytes) after v u m k s ends = record {
  answer = λ told. (ends told).answer;
  leaves = λ told. (let at = ends told in
      record { leaves = (m, at.leaves); asked = at.asked; files_told = at.files_told });
}

-- ---- no files of the store

-- a store that is as it was wasn't asked
asked_none : {F : Type 0} (calls : F → ℕ) (store : F)
    → IsAsked (store ≡ store) (calls store) (calls store) 0
asked_none calls store = record { unasked = λ none. refl; few = omega arith }

-- a task that names no files leaves the store as it is
unnamed_left : {F : Type 0} (files : F → Option Files) (calls : F → ℕ) (store : F)
    (short : Type 0) (task : Option Task) (bytes : List ℕ) (after v u : Option (List ℕ))
    (s : Status) → names_files (reads task) ≡ false
    → LeavesStore task (files store) bytes after v u (shelf files calls store store) short s
unnamed_left files calls store short None bytes after v u s unnamed =
    record { leaves = refl; asked = asked_none calls store; files_told = λ all. refl }
unnamed_left files calls store short (Some (Session o)) bytes after v u s unnamed = cc
unnamed_left files calls store short (Some (Build o)) bytes after v u s unnamed = cc
unnamed_left files calls store short (Some (OverFile asks most)) bytes after v u s unnamed =
    record { leaves = refl; asked = asked_none calls store; files_told = λ all. refl }
unnamed_left files calls store short (Some (OverStore asks)) bytes after v u s unnamed = cc
unnamed_left files calls store short (Some (Gen seed scans points)) bytes after v u s unnamed =
    record { leaves = refl; asked = asked_none calls store; files_told = λ all. refl }
unnamed_left files calls store short (Some (Drill seed scans points)) bytes after v u s unnamed =
    record { leaves = refl; asked = asked_none calls store; files_told = λ all. refl }

pub run_unnamed : {F : Type 0} (files : F → Option Files) (calls : F → ℕ) (store : F)
    (short : Type 0) (task : Option Task) (left after v u : Option (List ℕ)) (s : Status)
    → names_files (reads task) ≡ false
    → StoreLeft short task (files store) left after v u (shelf files calls store store) s
run_unnamed files calls store short task None after v u s unnamed = tt
run_unnamed files calls store short task (Some bytes) after v u s unnamed =
    λ told. unnamed_left files calls store short task bytes after v u s unnamed

-- ---- two files of the store

-- a task over two files leaves them, and asks the store no more often than it may
pub run_over_store : (short : Type 0) (task : StoreTask) (files : Option Files)
    (left after v u : Option (List ℕ)) (k : Shelf) (s : Status) → k.files ≡ files
    → k.calls ≤ k.first_calls + loads_of files task.first
    → StoreLeft short (Some (OverStore task)) files left after v u k s
run_over_store short task files None after v u k s told few = tt
run_over_store short task files (Some bytes) after v u k s told few = λ reads. record {
  leaves = told;
  asked = record {
    unasked = λ none. (let some = some_load files task.first in absurd (omega (arith, none, some)));
    few = few;
  };
  files_told = λ all. told;
}
