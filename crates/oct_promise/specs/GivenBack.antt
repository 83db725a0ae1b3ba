-- What a snapshot or a save keeps, and a restore or a load of its name gives back, in one session.
use Rattle.std.specs.Prelude.{◌≡◌, ◌≢◌, ◌≤◌, ◌⊎◌, ◌^◌, ℕ, List, [], ◌∷◌, ◌++◌, length, ⊤, Option}
use Rattle.std.specs.Prelude.{Some, None, option_map, Ok}
use Rattle.oct_bt.specs.Canonical.{canonical_size}
use Rattle.oct_bt.specs.DataClasses.{data_classes}
use Rattle.oct_bt.specs.File.{FileRead, reading}
use Rattle.oct_io.specs.Files.{Files, saved}
use Rattle.oct_io.specs.declared.store.Loaded.TheVariants.{Bytes}
use Rattle.oct_script.specs.Lines.{Line}
use Rattle.oct_script.specs.declared.command.Command.{Command}
use Rattle.oct_script.specs.declared.command.Command.TheVariants.{Snapshot, Restore, Save, Load}
use Rattle.oct_script.specs.declared.reply.Reply.TheVariants.{Restored, Loaded, Saved}
use Rattle.oct_snap.specs.Reading.{Snapshot as SnapshotRead, read_snapshot, values_of}
use Rattle.oct_values.specs.Counts.{group_count}
use Rattle.oct_promise.specs.Lines.{IsLine, Replies, state_behind, classes_in}
use Rattle.oct_promise.specs.Edits.{IsRestored}
use Rattle.oct_promise.specs.Promise.{IsGivenBack, IsLoaded}
use Rattle.oct_session.specs.Commands.{Saving}
use Rattle.oct_session.specs.FileCommands.{snapshot_file, found_in}
use Rattle.oct_session.specs.Session.{Progress, effect_of, after_line, progress}
use Rattle.oct_session.specs.Setup.{Setup}

-- ---- two lines of a script

-- the name of the file that the next line writes, if it writes one
abbrev pub name_written : Setup → Progress → Line → Option (List ℕ)
name_written o p line = option_map (λ (saving : Saving). saving.name) (effect_of o p line).saving

-- none of these lines, one after another, writes the file of this name
unfoldable pub NoneWrites : Setup → List ℕ → Progress → List Line → Type 0
NoneWrites o name p [] = ⊤
NoneWrites o name p (line ∷ lines) =
    (name_written o p line ≢ Some name) × NoneWrites o name (after_line o p line) lines

-- two lines of a script, with the lines before and between them
pub record TwoLines : Type 0 where
  pub before : List Line
  pub first : Line
  pub between : List Line
  pub second : Line

-- the lines before the second one
abbrev pub up_to_second : TwoLines → List Line
up_to_second t = t.before ++ t.first ∷ t.between

-- and those with it
abbrev pub with_second : TwoLines → List Line
with_second t = up_to_second t ++ t.second ∷ []

-- One line of a script is this command, and a later one that command. Between them no line writes
-- the file of this name, by a snapshot or a save.
pub record AreKeptApart (o : Setup) (files : Files) (bytes name : List ℕ) (t : TwoLines)
    (first second : Command) : Type 0 where
  pub writes : IsLine o (Some files) bytes t.before t.first None (Ok first)
  pub kept : NoneWrites o name (progress o (Some files) (t.before ++ t.first ∷ [])) t.between
  pub reads : IsLine o (Some files) bytes (up_to_second t) t.second None (Ok second)

-- ---- one line that writes a file

-- The line writes this file under this name, replies with the number of its bytes, and leaves every
-- other file and the state as they were.
pub record WritesFile (o : Setup) (files : Files) (bytes : List ℕ) (before : List Line)
    (line : Line) (name file : List ℕ) : Type 0 where
  pub told : Replies o (Some files) bytes before (Saved (length file))
  pub written : (progress o (Some files) (before ++ line ∷ [])).files
      ≡ saved (progress o (Some files) before).files name file
  pub state : state_behind o (Some files) (before ++ line ∷ [])
      ≡ state_behind o (Some files) before

-- ---- a snapshot, and a restore of the same name later on

-- One line is a snapshot of this name, and a later one a restore of it. The snapshot has no more
-- bytes than a file may have that is loaded.
pub record AreSnapshotAndRestore (o : Setup) (files : Files) (bytes name : List ℕ) (t : TwoLines)
    : Type 0 where
  pub lines : AreKeptApart o files bytes name t (Snapshot name) (Restore name)
  pub loadable : length (snapshot_file (state_behind o (Some files) t.before)) ≤ 2 ^ 30

-- The restore isn't refused, and replies with the groups that the values need which were there when
-- the snapshot was written. Right behind it all is given back, whatever lines follow.
pub record GivesBack (o : Setup) (files : Files) (bytes : List ℕ) (t : TwoLines) : Type 0 where
  pub told : Replies o (Some files) bytes (up_to_second t)
      (Restored (group_count (state_behind o (Some files) t.before).values))
  pub left : IsGivenBack (state_behind o (Some files) t.before)
      (state_behind o (Some files) (with_second t))

-- ---- a save, and a load of the same name later on

-- one line is a save under this name, and a later one a load of it
abbrev pub AreSaveAndLoad : Setup → Files → List ℕ → List ℕ → TwoLines → Type 0
AreSaveAndLoad o files bytes name t =
    AreKeptApart o files bytes name t (Save name) (Load name)

-- The load isn't refused, and replies with the number of nodes of the file that was saved. Right
-- behind it the classes are those that were saved, whatever lines follow.
pub record LoadsBack (o : Setup) (files : Files) (bytes : List ℕ) (t : TwoLines) : Type 0 where
  pub told : Replies o (Some files) bytes (up_to_second t)
      (Loaded (canonical_size (classes_in (state_behind o (Some files) t.before))))
  pub left : IsLoaded (classes_in (state_behind o (Some files) t.before))
      (state_behind o (Some files) (up_to_second t)) (state_behind o (Some files) (with_second t))

-- ---- a load of any file

-- The line reads a file of classes, whoever wrote it, that stands under this name, and tells the
-- number of its nodes. Right behind it the voxels have its classes.
pub record LoadsFile (o : Setup) (files : Option Files) (before : List Line) (line : Line)
    (name : List ℕ) (nodes : ℕ) : Type 0 where
  pub bytes : List ℕ
  pub found : found_in (progress o files before).files name ≡ Some (Bytes bytes)
  pub file : FileRead
  pub read : reading bytes ≡ Ok file
  pub counted : nodes ≡ file.nodes
  pub left : IsLoaded (data_classes file.codes) (state_behind o files before)
      (state_behind o files (before ++ line ∷ []))

-- ---- a restore of any file

-- The line reads a snapshot of one of the two versions, whoever wrote it, that stands under this
-- name and has the resolution of the session, and tells how many groups its values need. Right
-- behind it the voxels have these.
pub record RestoresFile (o : Setup) (files : Option Files) (before : List Line) (line : Line)
    (name : List ℕ) (groups : ℕ) : Type 0 where
  pub bytes : List ℕ
  pub found : found_in (progress o files before).files name ≡ Some (Bytes bytes)
  pub snapshot : SnapshotRead
  pub read : read_snapshot (state_behind o files before).base.odds bytes ≡ Ok snapshot
  pub version : (snapshot.head.version ≡ 1) ⊎ (snapshot.head.version ≡ 2)
  pub res : snapshot.head.res ≡ o.res
  pub counted : groups ≡ group_count (values_of snapshot)
  pub left : IsRestored snapshot (state_behind o files before)
      (state_behind o files (before ++ line ∷ []))
