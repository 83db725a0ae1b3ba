-- What a task needs: what it reads, and whether it takes memory.
use Rattle.std.specs.Prelude.{ℕ, List, Option, Some, None, IsSome, Bool, true, false, ⊤}
use Rattle.oct_io.specs.Files.{Files}
use Rattle.oct_session.specs.Session.{last_progress}
use Rattle.oct_session.specs.Session as session
use Rattle.oct_session.specs.Setup.{Setup}
use Rattle.oct_file_tasks.specs.TwoFiles.{loads_of}
use Rattle.oct_file_tasks.specs.declared.store_task.StoreTask.{StoreTask}
use Rattle.oct_tasks.specs.Task.{Task, Session, Build, OverFile, OverStore, Gen, Drill}

-- what may be read: nothing, a script, for a map that is set up so, whose lines may name files, a
-- file from the input, or two files of the store, which words name
pub data Reads : Type 0 where
  Nothing : Reads
  Script : Setup → Reads
  InputFile : Reads
  StoredFiles : StoreTask → Reads

-- what a task reads; where words have none, nothing is read
abbrev pub reads : Option Task → Reads
reads None = Nothing
reads (Some (Session o)) = Script o
reads (Some (Build o)) = Script o
reads (Some (OverFile task max_bytes)) = InputFile
reads (Some (OverStore task)) = StoredFiles task
reads (Some (Gen seed scans points)) = Nothing
reads (Some (Drill seed scans points)) = Nothing

-- whether it is a script
abbrev pub is_script : Reads → Bool
is_script Nothing = false
is_script (Script o) = true
is_script InputFile = false
is_script (StoredFiles task) = false

-- whether it is read from the input
abbrev pub is_input : Reads → Bool
is_input Nothing = false
is_input (Script o) = true
is_input InputFile = true
is_input (StoredFiles task) = false

-- whether it may name files of the store: by lines of a script, or by words
abbrev pub names_files : Reads → Bool
names_files Nothing = false
names_files (Script o) = true
names_files InputFile = false
names_files (StoredFiles task) = true

-- all files of the store that are read are told
abbrev pub ReadsTold : Reads → Option Files → List ℕ → Type 0
ReadsTold Nothing files bytes = ⊤
ReadsTold (Script o) files bytes = session.ReadsTold o files bytes
ReadsTold InputFile files bytes = ⊤
ReadsTold (StoredFiles task) files bytes = IsSome files

-- how often the store may be asked: once for each line of the script that names a file, or for each
-- file that words name, and for the second of them only where the first is a map
abbrev pub asks_of : Reads → Option Files → List ℕ → ℕ
asks_of Nothing files bytes = 0
asks_of (Script o) files bytes = (last_progress o files bytes).asks
asks_of InputFile files bytes = 0
asks_of (StoredFiles task) files bytes = loads_of files task.first

-- whether a task may take memory beside what its sink takes
abbrev pub takes_memory : Option Task → Bool
takes_memory None = false
takes_memory (Some (Session o)) = true
takes_memory (Some (Build o)) = true
takes_memory (Some (OverFile task max_bytes)) = true
takes_memory (Some (OverStore task)) = true
takes_memory (Some (Gen seed scans points)) = false
takes_memory (Some (Drill seed scans points)) = true
