-- What a session leaves of the map and the files that it was lent.
use Rattle.std.specs.Prelude.{◌≡◌, ◌≢◌, ◌⊎◌, ℕ, ◌<◌, length, List, [], ◌∷◌, ◌++◌, take, true, false}
use Rattle.std.specs.Prelude.{Option, Some, None, IsSome}
use Rattle.oct_io.specs.Files.{Files, KeepsOthers}
use Rattle.oct_io.specs.Told.{appended, Rose}
use Rattle.oct_map.specs.Map.{Map, ground_of, values_of}
use Rattle.oct_map.specs.Marks.{SameMark, marked_of}
use Rattle.oct_script.specs.Lines.{Line, ended_lines}
use Rattle.oct_key.specs.Values.{SameValues}
use Rattle.oct_tree.specs.Shape.{IsPruned}
use Rattle.oct_session.specs.Commands.{file_saved}
use Rattle.oct_io.specs.FaultCounts.{IsAsked, IsSourceCounted, IsSinkCounted, IsStoreCounted}
use Rattle.oct_io.specs.Shelf.{Shelf}
use Rattle.oct_io.specs.Taken.{HasTaken}
use Rattle.oct_session.specs.History.{History, State, state_after}
use Rattle.oct_session.specs.ScanBlock.{GainsPoint}
use Rattle.oct_session.specs.Session.{Progress, next_command, after_line, progress}
use Rattle.oct_session.specs.Session.{closed, is_too_long, lines_of, last_progress, session}
use Rattle.oct_session.specs.Ending.{MayEnd}
use Rattle.oct_io.specs.Whole.{IsWhole}
use Rattle.oct_session.specs.Setup.{Setup}
use Rattle.oct_io.specs.declared.sink.Sink as sink
use Rattle.oct_io.specs.declared.source.Source as source
use Rattle.oct_io.specs.declared.status.Status.{Status}
use Rattle.oct_io.specs.declared.status.Status.TheVariants.{Done, Refused, TooLong, ReadFault}
use Rattle.oct_io.specs.declared.status.Status.TheVariants.{WriteFault, Memory, StoreFault}
use Rattle.oct_io.specs.declared.status.Status.TheVariants.{Usage, BadFile}
use Rattle.oct_io.specs.declared.store.Store as store

-- the map stands for a state: each voxel has its value there, the map's answers read the same
-- beside the values, it has the same mark, inner values may be out of date exactly where they may
-- be there, and it is pruned where it is there
pub record StandsFor (map : Map) (s : State) : Type 0 where
  pub values : SameValues s.values (values_of map)
  pub base : ground_of map ≡ s.base
  pub marked : SameMark s.marked (marked_of map)
  pub is_stale : map.is_stale ≡ s.is_stale
  pub pruned : s.is_pruned ≡ true → IsPruned map.tree

-- the map stands for the state after some history
abbrev pub StandsForSome : Setup → Map → Type 0
StandsForSome o map = (history : History) × StandsFor map (state_after o history)

-- what a session works on: a map, and a store
pub record Desk : Type 1 where
  pub map : Map
  pub store : Shelf

-- the desk of this map and this store
abbrev pub desk : Map → Shelf → Desk
desk map store = record { map = map; store = store }

-- since it was as at first, the store was asked at most this many times
abbrev pub HasAsked : Desk → ℕ → Type 0
HasAsked d asks = IsAsked d.store.same d.store.first_calls d.store.calls asks

-- the map stands for this state, and the files that are told are these
pub record IsLike (files : Option Files) (s : State) (map : Map) (held : Option Files)
    : Type 0 where
  pub stands : StandsFor map s
  pub told : held ≡ files

-- the files that are told are these, but for the one that was to be saved, if one was, which may be
-- any
abbrev pub KeepsUnsaved : Option (List ℕ) → Option Files → Option Files → Type 0
KeepsUnsaved None files held = held ≡ files
KeepsUnsaved (Some name) files held = KeepsOthers files held name

-- the map stands for this state, and all files but that one are these
pub record IsTorn (saved : Option (List ℕ)) (files : Option Files) (s : State) (map : Map)
    (held : Option Files) : Type 0 where
  pub stands : StandsFor map s
  pub others : KeepsUnsaved saved files held

-- map and files are as they are after these lines
abbrev pub IsLikeAfter : Setup → Progress → Desk → Type 0
IsLikeAfter o p d = IsLike p.files (state_after o p.history) d.map d.store.files

-- they are so but for the file that was to be saved, if one was
abbrev pub IsTornAfter : Setup → Option (List ℕ) → Progress → Desk → Type 0
IsTornAfter o saved p d = IsTorn saved p.files (state_after o p.history) d.map d.store.files

-- what a session leaves that is halted on its way from one state to the next, by the status: on a
-- write fault all is done; on a store fault, which takes a line that names a file, nothing is, but
-- for the file that the line saves, if it saves one; where memory runs out all is done or nothing,
-- and all where something of the reply was told, which takes a sink that ran short of memory
abbrev pub HasLeft : Setup → Option (List ℕ) → Progress → Progress → List ℕ → Desk → Type 0
    → Status → Type 0
HasLeft o saved p q told d short WriteFault = IsLikeAfter o q d
HasLeft o saved p q told d short Memory = (short × IsLikeAfter o q d)
    ⊎ ((told ≡ []) × (IsLikeAfter o q d ⊎ IsLikeAfter o p d))
HasLeft o saved p q told d short StoreFault =
    (told ≡ []) × (p.asks < q.asks) × IsTornAfter o saved p d
HasLeft o saved p q told d short _ = ⊥

-- what was to be written on the way from one state to the next was not written whole, unless the
-- way adds a point to a block, whose lines have no reply
pub record IsCutBetween (p q : Progress) (old new : Option (List ℕ)) : Type 0 where
  pub running : p.has_quit ≡ false
  pub told : List ℕ
  pub untold : List ℕ
  pub reply : q.text ≡ p.text ++ (told ++ untold)
  pub written : new ≡ appended old (p.text ++ told)
  pub more : (0 < length untold) ⊎ GainsPoint p.block q.block

-- the session was halted on its way from one state to the next, by a line that may save a file: map
-- and files are those of one of the two, and the store was asked once at most for each line that
-- named a file
pub record IsHaltedBetween (o : Setup) (saved : Option (List ℕ)) (p q : Progress)
    (old new : Option (List ℕ)) (d : Desk) (short : Type 0) (status : Status) : Type 0 where
  pub cut : IsCutBetween p q old new
  pub has_left : HasLeft o saved p q cut.told d short status
  pub asked : HasAsked d q.asks

-- the session was halted at this line
abbrev pub IsHaltedBy : Setup → Progress → Line → Option (List ℕ) → Option (List ℕ) → Desk → Type 0
    → Status → Type 0
IsHaltedBy o p line old new d short status =
    IsHaltedBetween o (file_saved (next_command p line)) p (after_line o p line) old new d short
    status

-- what was answered so far is known: the files are told, or no line named one
abbrev pub IsKnown : Progress → Type 0
IsKnown p = IsSome p.files ⊎ (p.asks ≡ 0)

-- the session was halted at one of these lines: the replies to all lines before it were written
-- whole, and its own wasn't; map and files are as after the lines before it, or as after it
pub record IsHalted (o : Setup) (files : Option Files) (lines : List Line)
    (old new : Option (List ℕ)) (d : Desk) (short : Type 0) (status : Status) : Type 0 where
  pub before : List Line
  pub line : Line
  pub behind : List Line
  pub split : lines ≡ before ++ line ∷ behind
  pub at : IsHaltedBy o (progress o files before) line old new d short status

-- all these lines were answered, and the session was halted at the end of the script after them,
-- which names no file
abbrev pub IsHaltedAtEnd : Setup → Option Files → List Line → Option (List ℕ)
    → Option (List ℕ) → Desk → Type 0 → Status → Type 0
IsHaltedAtEnd o files lines old new d short status =
    IsHaltedBetween o None (progress o files lines) (closed (progress o files lines)) old new d
    short
    status

-- the session was halted at one of its lines, or at the end of its script, which has one where it
-- isn't too long
abbrev pub IsHaltedIn : Setup → Option Files → List ℕ → Option (List ℕ) → Option (List ℕ) → Desk
    → Type 0 → Status → Type 0
IsHaltedIn o files bytes old new d short status =
    IsHalted o files (lines_of o bytes) old new d short status
    ⊎ ((is_too_long o bytes ≡ false) × IsHaltedAtEnd o files (lines_of o bytes) old new d short
    status)

-- map and files are as they are after the lines that end within the bytes taken
pub record IsLikeTaken (o : Setup) (files : Option Files) (bytes : List ℕ)
    (left : Option (List ℕ)) (d : Desk) : Type 0 where
  pub taken : ℕ
  pub input : HasTaken taken bytes left
  pub like : IsLikeAfter o (progress o files (ended_lines (take taken bytes))) d

-- what a session over these bytes and files leaves, status by status: map and files are as after
-- all lines that were to be answered, as after those that end within the bytes taken, or, where it
-- was halted, as after those whose replies were written whole and at most one more, but for the one
-- file that a store fault leaves open
abbrev pub Leaves : Setup → Option Files → List ℕ → Option (List ℕ) → Option (List ℕ)
    → Option (List ℕ) → Desk → Type 0 → Status → Type 0
Leaves o files bytes left old new d short Done = IsLikeAfter o (last_progress o files bytes) d
Leaves o files bytes left old new d short Refused = IsLikeAfter o (last_progress o files bytes) d
Leaves o files bytes left old new d short TooLong = IsLikeAfter o (last_progress o files bytes) d
Leaves o files bytes left old new d short ReadFault = IsLikeTaken o files bytes left d
Leaves o files bytes left old new d short status = IsHaltedIn o files bytes old new d short status

-- how a session over these bytes and files may end, with this status: what is left of the input and
-- what was written, what map and files then are, that the store was asked once at most for each
-- line that names a file, and, where the whole answer was given, that the files are those of it
pub record HasEndedAs (o : Setup) (files : Option Files) (bytes : List ℕ)
    (left old new : Option (List ℕ)) (d : Desk) (short : Type 0) (status : Status) : Type 0 where
  pub answer : MayEnd o files bytes left old new status
  pub leaves : Leaves o files bytes left old new d short status
  pub asked : HasAsked d (last_progress o files bytes).asks
  pub files_told : IsWhole status → d.store.files ≡ (session o files bytes).files

-- whatever its source, sink and store tell, the map stands for some history, and the status is one
-- that a script has; a fault is met once and ends the script: its count rises by one exactly where
-- the status names it, and no other count changes; the end of the input is met once at most; and
-- where no count rose the whole answer comes, or memory ran out
pub record RunsScript {S K F : Type 0} (sources : source.Ghosts S) (sinks : sink.Ghosts K)
    (stores : store.Ghosts F) (o : Setup) (map : Map) (from from_after : S) (to to_after : K)
    (files files_after : F) (status : Status) : Type 0 where
  pub stands : StandsForSome o map
  pub usage : status ≢ Usage
  pub bad_file : status ≢ BadFile
  pub source_counts : IsSourceCounted status (sources.faults from) (sources.faults from_after)
      (sources.ends from) (sources.ends from_after)
  pub sink_counts : IsSinkCounted status (sinks.faults to) (sinks.faults to_after)
      (sinks.shortages to) (sinks.shortages to_after)
  pub store_counts : IsStoreCounted status (stores.faults files) (stores.faults files_after)
  pub complete : ¬ Rose (sources.faults from) (sources.faults from_after)
      → ¬ Rose (sinks.faults to) (sinks.faults to_after)
      → ¬ Rose (stores.faults files) (stores.faults files_after) → status ≢ Memory
      → IsWhole status
