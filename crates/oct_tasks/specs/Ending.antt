-- What a run writes, and how it may end.
use Rattle.std.specs.Prelude.{◌≡◌, ◌≢◌, ℕ, List, [], Option, Some, None, false, ⊤}
use Rattle.oct_io.specs.Answer.{Answer, Outcome, with_files, IsAnswered, EndsUnread}
use Rattle.oct_gen.specs.Script.{script_of}
use Rattle.oct_io.specs.Files.{Files}
use Rattle.oct_io.specs.Told.{Rose}
use Rattle.oct_session.specs.Building.{build}
use Rattle.oct_session.specs.Building as building
use Rattle.oct_session.specs.Drill.{drill}
use Rattle.oct_session.specs.Ending as session_ending
use Rattle.oct_map.specs.Map.{Map}
use Rattle.oct_io.specs.Shelf.{Shelf}
use Rattle.oct_io.specs.FaultCounts.{IsSourceCounted, IsSinkCounted, IsStoreCounted, IsAsked}
use Rattle.oct_io.specs.Whole.{IsWhole}
use Rattle.oct_session.specs.Leaving.{desk}
use Rattle.oct_session.specs.Leaving as session_leaving
use Rattle.oct_session.specs.Session.{session}
use Rattle.oct_io.specs.declared.status.Status.{Status}
use Rattle.oct_io.specs.declared.status.Status.TheVariants.{Done, Usage, Memory, StoreFault}
use Rattle.oct_tasks.specs.Task.{Task, Session, Build, OverFile, OverStore, Gen, Drill}
use Rattle.oct_tasks.specs.Needs.{reads, is_script, is_input, names_files, asks_of, takes_memory}
use Rattle.oct_file_tasks.specs.Ending.{EndsOverFile}
use Rattle.oct_file_tasks.specs.FileTasks.{over_file_answer}
use Rattle.oct_file_tasks.specs.OverStore.{told_reply, EndsOverStore}

-- the answer of a task that writes the script of these numbers
abbrev pub script_answer : ℕ → ℕ → ℕ → Answer
script_answer seed scans points = record { text = script_of seed scans points; status = Done }

-- the answer to words that have no task
abbrev pub usage : Answer
usage = record { text = []; status = Usage }

-- what a run of a task, or of words that have none, leaves on these files and this input
abbrev pub answer : Option Task → Option Files → List ℕ → Outcome
answer None files bytes = with_files files usage
answer (Some (Session o)) files bytes = session o files bytes
answer (Some (Build o)) files bytes = build o files bytes
answer (Some (OverFile task max_bytes)) files bytes =
    with_files files (over_file_answer task max_bytes bytes)
answer (Some (OverStore task)) files bytes = with_files files (told_reply task files)
answer (Some (Gen seed scans points)) files bytes =
    with_files files (script_answer seed scans points)
answer (Some (Drill seed scans points)) files bytes =
    with_files files (drill seed scans points)

-- how a run may end whose words have no task, or one that reads no input, whatever its source
-- tells;
-- of others nothing is said here
abbrev pub EndsAlone : Option Task → Option Files → Option (List ℕ) → Option (List ℕ) → Status
    → Type 0
EndsAlone None files old new status = IsAnswered usage old new status
EndsAlone (Some (Session o)) files old new status = ⊤
EndsAlone (Some (Build o)) files old new status = ⊤
EndsAlone (Some (OverFile task max_bytes)) files old new status = ⊤
EndsAlone (Some (OverStore task)) files old new status = EndsOverStore task files old new status
EndsAlone (Some (Gen seed scans points)) files old new status =
    EndsUnread (script_answer seed scans points) old new status
EndsAlone (Some (Drill seed scans points)) files old new status =
    EndsUnread (drill seed scans points) old new status

-- how a run over these bytes may end: as the session or the build may, or as the task over a file;
-- without a task, or with one that reads no input, no byte was taken
abbrev pub MayEnd : Option Task → Option Files → List ℕ → Option (List ℕ) → Option (List ℕ)
    → Option (List ℕ) → Status → Type 0
MayEnd None files bytes left old new status =
    EndsAlone None files old new status × (left ≡ Some bytes)
MayEnd (Some (Session o)) files bytes left old new status =
    session_ending.MayEnd o files bytes left old new status
MayEnd (Some (Build o)) files bytes left old new status =
    building.MayEnd o files bytes left old new status
MayEnd (Some (OverFile task max_bytes)) files bytes left old new status =
    EndsOverFile (over_file_answer task max_bytes bytes) max_bytes bytes left old new status
MayEnd (Some (OverStore task)) files bytes left old new status =
    EndsAlone (Some (OverStore task)) files old new status × (left ≡ Some bytes)
MayEnd (Some (Gen seed scans points)) files bytes left old new status =
    EndsAlone (Some (Gen seed scans points)) files old new status × (left ≡ Some bytes)
MayEnd (Some (Drill seed scans points)) files bytes left old new status =
    EndsAlone (Some (Drill seed scans points)) files old new status × (left ≡ Some bytes)

-- what a run over these bytes and files leaves of the store: a session and a build leave its files
-- as they say of them and their map, by whether the sink ran short of memory; a task over two files
-- leaves what it holds, and any other task the whole store as it is
abbrev pub Leaves : Option Task → Option Files → List ℕ → Option (List ℕ) → Option (List ℕ)
    → Option (List ℕ) → Shelf → Type 0 → Status → Type 0
Leaves None files bytes left old new store short status = store.same
Leaves (Some (Session o)) files bytes left old new store short status =
    (map : Map) × session_leaving.Leaves o files bytes left old new (desk map store) short status
Leaves (Some (Build o)) files bytes left old new store short status =
    (map : Map) × building.Leaves o files bytes left (desk map store) status
Leaves (Some (OverFile task max_bytes)) files bytes left old new store short status = store.same
Leaves (Some (OverStore task)) files bytes left old new store short status = store.files ≡ files
Leaves (Some (Gen seed scans points)) files bytes left old new store short status = store.same
Leaves (Some (Drill seed scans points)) files bytes left old new store short status = store.same

-- what a run over these bytes and files leaves of the store, that it asked it no more often than
-- its task may, and, where the whole answer was given, that the files are those of it
pub record LeavesStore (task : Option Task) (files : Option Files) (bytes : List ℕ)
    (left old new : Option (List ℕ)) (store : Shelf) (short : Type 0) (status : Status)
    : Type 0 where
  pub leaves : Leaves task files bytes left old new store short status
  pub asked : IsAsked store.same store.first_calls store.calls (asks_of (reads task) files bytes)
  pub files_told : IsWhole status → store.files ≡ (answer task files bytes).files

-- what a run has no need of is as it was: the store where no file is named, the input where it
-- isn't read, and the output where the words have no task, or the store fails one without a script
pub record KeepsUnneeded (task : Option Task) (status : Status) (source sink store : Type 0)
    : Type 0 where
  pub unused : names_files (reads task) ≡ false → store
  pub unread : is_input (reads task) ≡ false → source
  pub unwritten : status ≡ Usage → sink
  pub unloaded : is_script (reads task) ≡ false → status ≡ StoreFault → sink

-- a fault is met once and ends the run: its count rises by one exactly where the status names it,
-- and no other count changes; the end of the input is met once at most; memory runs out in the sink
-- alone where the task takes none; and where no count rose the whole answer comes, or memory ran
-- out
pub record IsRunCounted (task : Option Task) (status : Status)
    (read_faults read_faults_after ends ends_after write_faults write_faults_after : ℕ)
    (shortages shortages_after store_faults store_faults_after : ℕ) : Type 0 where
  pub source_counts : IsSourceCounted status read_faults read_faults_after ends ends_after
  pub sink_counts : IsSinkCounted status write_faults write_faults_after shortages shortages_after
  pub store_counts : IsStoreCounted status store_faults store_faults_after
  pub alone : takes_memory task ≡ false → status ≡ Memory → Rose shortages shortages_after
  pub complete : ¬ Rose read_faults read_faults_after → ¬ Rose write_faults write_faults_after
      → ¬ Rose store_faults store_faults_after → status ≢ Memory → IsWhole status
