-- A session at one moment, and what its calls do from one moment to the next.
use Rattle.std.specs.Prelude.{◌≡◌, ℕ, ◌+◌, ◌^◌, ◌<◌, ◌≤◌, ◌⊎◌, List, [], ◌++◌, length, take}
use Rattle.std.specs.Prelude.{is_some}
use Rattle.std.specs.Prelude.{false, ◌≢◌, Option, Some, None, option_map, Result, Ok, Err}
use Rattle.std.specs.Prelude.{OnOk, OnErr}
use Rattle.oct_io.specs.Counts.{IsWriteCounted, IsMakingCounted, IsAskCounted}
use Rattle.oct_io.specs.FaultCounts.{IsAsked}
use Rattle.oct_io.specs.Files.{Files}
use Rattle.oct_io.specs.Stops.{stop_of_sink, stop_of_store, status_of, IsHalt}
use Rattle.oct_io.specs.Taken.{IsCutOff}
use Rattle.oct_io.specs.Told.{Rose, appended}
use Rattle.oct_io.specs.declared.sink.Sink as sink
use Rattle.oct_io.specs.declared.sink.SinkFault.{SinkFault}
use Rattle.oct_io.specs.declared.stop.Stop.{Stop}
use Rattle.oct_io.specs.declared.stop.Stop.TheVariants as stop
use Rattle.oct_io.specs.declared.store.Store as store
use Rattle.oct_io.specs.declared.store.StoreFault.{StoreFault}
use Rattle.oct_map.specs.Map.{Map}
use Rattle.oct_script.specs.Lines.{Line, unread, ended_lines, all_lines}
use Rattle.oct_script.specs.declared.reply.Reply.{Reply}
use Rattle.oct_script.specs.declared.verbs.FileVerb.{FileVerb}
use Rattle.oct_session.specs.Ahead.{AreEdits}
use Rattle.oct_session.specs.Commands.{FileWork, command_on, may_change, named_in, asks_for}
use Rattle.oct_session.specs.Commands.{verb_work, Puts}
use Rattle.oct_session.specs.FileCommands.{save_reply}
use Rattle.oct_session.specs.History.{State}
use Rattle.oct_session.specs.Kinds.{Names}
use Rattle.oct_session.specs.Leaving.{Desk, StandsFor}
use Rattle.oct_session.specs.Parsed.{command_in, TellsOpening}
use Rattle.oct_session.specs.Session.{Progress, Effect, effect_of_kind, replied, closed}
use Rattle.oct_session.specs.Setup.{Setup}
use Rattle.oct_session.specs.Standing.{with_reply, HasEffect}
use Rattle.oct_session.specs.Standing.{Seat, seated, desk_of, KeepsStanding, Adds, HasMoved}
use Rattle.oct_session.specs.Standing.{TakesLine, FailsLine, HoldsLine, HaltsLine, TakesHeld}
use Rattle.oct_session.specs.Standing.{HaltsHeld, Halts, Reaches, HaltsAtEnd, Takes, StopsIn}
use Rattle.oct_session.specs.Standing.{IsInStep, IsCutBy, IsResting, Finishes, Ends}
use Rattle.oct_session.specs.declared.ahead.VoxelEdit.{VoxelEdit}
use Rattle.oct_session.specs.declared.context.Context.{Context}
use Rattle.oct_session.specs.declared.lines.Parsed.{Parsed}
use Rattle.oct_session.specs.declared.scan_block.ScanBlock.{ScanBlock}
use Rattle.oct_session.specs.declared.session.Session.{Session}

-- ---- a moment

-- a session at one moment: where what it works with lies, what that is and tells, and the session
pub record Moment (F : Type 0) : Type 1 where
  pub map_name : ℕ
  pub store_name : ℕ
  pub sink_name : ℕ
  pub map : Map
  pub desk : F → Desk
  pub store_faults : ℕ
  pub written : Option (List ℕ)
  pub sink_faults : ℕ
  pub shortages : ℕ
  pub session : Session

-- the moment of this session, which works with this
abbrev pub seen : {K F : Type 0} → sink.Ghosts K → store.Ghosts F → Context K F → Session → Moment F
seen K F context session = record {
  map_name = context.map.ghost_name;
  store_name = context.store.ghost_name;
  sink_name = context.sink.ghost_name;
  map = context.map.now;
  desk = desk_of F.files F.calls context.map.now context.store.now;
  store_faults = F.faults context.store.now;
  written = K.written context.sink.now;
  sink_faults = K.faults context.sink.now;
  shortages = K.shortages context.sink.now;
  session = session;
}

-- what lies before it
abbrev pub seat_at : {F : Type 0} → Moment F → Seat F
seat_at m = seated m.desk m.written

-- ---- what holds of every call

-- no count of faults rose but that which the stop names: not that of the sink's failures, nor of
-- its shortages of memory, nor of the store's failures
abbrev pub AreCounted : Option Stop → ℕ → ℕ → ℕ → ℕ → ℕ → ℕ → Type 0
AreCounted (Some stop.WriteFault) failures failures_after shortages shortages_after files
    files_after =
    Rose failures failures_after × (shortages_after ≡ shortages) × (files_after ≡ files)
AreCounted (Some stop.Memory) failures failures_after shortages shortages_after files files_after =
    (failures_after ≡ failures) × ((shortages_after ≡ shortages) ⊎ Rose shortages shortages_after)
    × (files_after ≡ files)
AreCounted (Some stop.StoreFault) failures failures_after shortages shortages_after files
    files_after =
    (failures_after ≡ failures) × (shortages_after ≡ shortages) × Rose files files_after
AreCounted how failures failures_after shortages shortages_after files files_after =
    (failures_after ≡ failures) × (shortages_after ≡ shortages) × (files_after ≡ files)

-- so it is from one moment to another
abbrev pub IsCounted : {F : Type 0} → Moment F → Moment F → Option Stop → Type 0
IsCounted a b how = AreCounted how a.sink_faults b.sink_faults a.shortages b.shortages
    a.store_faults b.store_faults

-- all lies where it lay, more was written or nothing, the map stands for some history
-- still, and the counts of faults tell of this stop, or of none
pub record IsDone {F : Type 0} (a b : Moment F) (how : Option Stop) : Type 0 where
  pub map_name : b.map_name ≡ a.map_name
  pub store_name : b.store_name ≡ a.store_name
  pub sink_name : b.sink_name ≡ a.sink_name
  pub adds : Adds a.written b.written
  pub stands : KeepsStanding a.map b.map
  pub counted : IsCounted a b how

-- the stop that a call ended with, if one
abbrev pub stop_in : {T : Type 0} → Result T Stop → Option Stop
stop_in (Ok done) = None
stop_in (Err why) = Some why

-- ---- a line

-- the session has room for so many lines more
pub record HasRoom (session : Session) (lines : ℕ) : Type 0 where
  pub held : length session.text.items < 4096
  pub few : session.line_count + lines < 2 ^ 63

-- it then has room for the others of these lines
abbrev pub KeepsRoom : ℕ → Session → Session → Type 0
KeepsRoom size s t = (more : ℕ) → HasRoom s (size + more) → HasRoom t more

-- the session goes on, and has room for a line
pub record IsReady (session : Session) : Type 0 where
  pub running : session.has_quit ≡ false
  pub room : HasRoom session 1

-- the session goes on, and this was read of its next line
pub record HasParsed (session : Session) (line : Line) (parsed : Parsed) : Type 0 where
  pub running : session.has_quit ≡ false
  pub numbered : parsed.number ≡ session.line_count + 1
  pub read : command_in parsed
      ≡ command_on (is_some session.block) (session.line_count + 1) line
  pub opens : TellsOpening parsed line

-- a call that does a line in a context, where the first block was open before it and the
-- other one is after it: the line had its effect, or it failed; the store was asked once at most
-- where it names a file; the sink wasn't
pub record Works {K F T : Type 0} (ghosts : store.Ghosts F)
    (effect : Option Files → State → Effect) (asked : Option FileWork)
    (before after : Option ScanBlock) (d e : Context K F) (result : Result T StoreFault)
    (reply : Option Reply) : Type 0 where
  pub took : HasEffect effect asked before d.map.now (ghosts.files d.store.now) e.map.now
      (ghosts.files e.store.now) after (with_reply result reply)
  pub stands : KeepsStanding d.map.now e.map.now
  pub asks : IsAsked (e.store.now ≡ d.store.now) (ghosts.calls d.store.now)
      (ghosts.calls e.store.now) (asks_for (named_in asked))
  pub counts : IsAskCounted result (ghosts.faults d.store.now) (ghosts.faults e.store.now)
  pub map_name : e.map.ghost_name ≡ d.map.ghost_name
  pub store_name : e.store.ghost_name ≡ d.store.ghost_name
  pub sink_name : e.sink.ghost_name ≡ d.sink.ghost_name
  pub sink : e.sink.now ≡ d.sink.now

-- a call that does what a verb says with the file of this name
abbrev pub UsesFile : {K F T : Type 0} → store.Ghosts F → FileVerb → List ℕ → Context K F
    → Context K F → Result T StoreFault → Option Reply → Type 0
UsesFile ghosts verb name d e result reply =
    Works ghosts (λ files s. effect_of_kind files s (Names verb name)) (Some (verb_work verb name))
    None None d e result reply

-- the bytes are those of a file of each state for which the map stands
abbrev pub IsFileOf : Map → (State → List ℕ) → List ℕ → Type 0
IsFileOf m file bytes = (s : State) → StandsFor m s → bytes ≡ file s

-- what a command does that puts the file of a state under a name
abbrev pub saving_effect : (State → List ℕ) → List ℕ → State → Effect
saving_effect file name s =
    replied (save_reply (file s)) [] (Some (record { name = name; bytes = file s }))

-- a call that does so
abbrev pub SavesFile : {K F T : Type 0} → store.Ghosts F → (State → List ℕ) → List ℕ → Context K F
    → Context K F → Result T StoreFault → Option Reply → Type 0
SavesFile ghosts file name d e result reply =
    Works ghosts (λ files s. saving_effect file name s) (Some (Puts name file)) None None d e
    result reply

-- the fault that a call ended with, if one
abbrev pub fault_in : {T E : Type 0} → Result T E → Option E
fault_in (Ok done) = None
fault_in (Err fault) = Some fault

-- a line was done, and its reply is held behind the others, or it failed, and they are as they were
abbrev pub AnswersTo : {F : Type 0} → Line → Moment F → Moment F → Option StoreFault → Type 0
AnswersTo line a b None = (b.session.line_count ≡ a.session.line_count + 1)
    × ((o : Setup) → TakesLine o a.desk b.desk a.session b.session line)
AnswersTo line a b (Some fault) = (b.session.text.items ≡ a.session.text.items)
    × ((o : Setup) → FailsLine o a.desk b.desk a.session line fault)

-- a call that answers a line: nothing is written, and the store doesn't fail where nothing may
-- change
pub record Answers {F : Type 0} (line : Line) (a b : Moment F) (fault : Option StoreFault) : Type 0
  where
    pub done : IsDone a b (option_map stop_of_store fault)
    pub unwritten : b.written ≡ a.written
    pub shortages : b.shortages ≡ a.shortages
    pub unasked : may_change (command_on (is_some a.session.block) (a.session.line_count + 1) line)
        ≡ false → b.store_faults ≡ a.store_faults
    pub same : b.session.line ≡ a.session.line
    pub to : AnswersTo line a b fault

-- ---- a move

-- what a session does with its script: it answers a line; it takes bytes; it answers the last line,
-- if that lacks its line feed, where the script has ended; and it ends the script there
pub data Move : Type 0 where
  Answer : Line → Move
  Take : List ℕ → Move
  Rest : Move
  End : Move

-- what holds of the session alone: it has room for more, or holds nothing
abbrev pub GoesOn : Move → Session → Session → Type 0
GoesOn (Answer line) s t = KeepsRoom 1 s t
GoesOn (Take bytes) s t = KeepsRoom (length bytes) s t
    × (s.line.has_ended ≡ false → t.line.has_ended ≡ false)
GoesOn move s t = t.text.items ≡ []

-- wherever the session was, the move was then done
abbrev pub Goes : {F : Type 0} → Move → Moment F → Moment F → Setup → Type 0
Goes (Answer line) a b o = HoldsLine o (seat_at a) (seat_at b) a.session b.session line
Goes (Take bytes) a b o = TakesHeld o (seat_at a) (seat_at b) a.session b.session bytes
Goes Rest a b o = Reaches o (seat_at a) (seat_at b) a.session b.session (λ p. p)
Goes End a b o = Reaches o (seat_at a) (seat_at b) a.session b.session closed

-- wherever it was, it was then halted on the move
abbrev pub Stops : {F : Type 0} → Move → Moment F → Moment F → Setup → Stop → Type 0
Stops (Answer line) a b o why = HaltsLine o (seat_at a) (seat_at b) a.session line
    (Rose a.shortages b.shortages) (status_of why)
Stops (Take bytes) a b o why = HaltsHeld o (seat_at a) (seat_at b) a.session
    (λ before. ended_lines (before ++ bytes)) (Rose a.shortages b.shortages) (status_of why)
Stops Rest a b o why = Halts o (seat_at a) (seat_at b) a.session all_lines
    (Rose a.shortages b.shortages) (status_of why)
Stops End a b o why = HaltsAtEnd o (seat_at a) (seat_at b) a.session
    (Rose a.shortages b.shortages) (status_of why)

-- whatever the setup, the move was done, or the session was halted on it
abbrev pub MovesTo : {F : Type 0} → Move → Moment F → Moment F → Option Stop → Type 0
MovesTo move a b None = GoesOn move a.session b.session × ((o : Setup) → Goes move a b o)
MovesTo move a b (Some why) = IsHalt why × ((o : Setup) → Stops move a b o why)

-- a call that makes a move
pub record Makes {F : Type 0} (move : Move) (a b : Moment F) (how : Option Stop) : Type 0 where
  pub done : IsDone a b how
  pub to : MovesTo move a b how

-- the same, of a session in these contexts, and of a result
abbrev pub Does : {K F T : Type 0} → sink.Ghosts K → store.Ghosts F → Move → Context K F → Session
    → Context K F → Session → Result T Stop → Type 0
Does K F move d s e t result = Makes move (seen K F d s) (seen K F e t) (stop_in result)

-- what of a piece was taken: so many bytes, or it isn't said
abbrev pub taken_of : {T : Type 0} → Result ℕ T → List ℕ → List ℕ
taken_of (Ok n) piece = take n piece
taken_of (Err why) piece = piece

-- wherever the session stood, the end of the script was answered, or that was cut off
abbrev pub ClosesTo : Session → Session → Option (List ℕ) → Option (List ℕ) → Type 0
    → Option SinkFault → Type 0
ClosesTo s t old new short None = (t.text.items ≡ []) × ((w : Option (List ℕ)) (p : Progress)
    → IsInStep s p → old ≡ appended w p.text
    → IsInStep t (closed p) × (new ≡ appended w (closed p).text))
ClosesTo s t old new short (Some fault) = (w : Option (List ℕ)) (p : Progress) → IsInStep s p
    → old ≡ appended w p.text → IsCutBy p (closed p) w new short fault

-- the session stands between two lines, goes on, and holds no reply, with no block open
pub record IsBetweenLines (session : Session) : Type 0 where
  pub running : session.has_quit ≡ false
  pub closed : session.block ≡ None
  pub empty : session.text.items ≡ []
  pub line : session.line ≡ unread

-- a call that answers these edits: wherever lines say them, it takes these
abbrev pub AnswersEdits : {F : Type 0} → List VoxelEdit → Moment F → Moment F → Option SinkFault
    → Type 0
AnswersEdits edits a b fault = (bytes : List ℕ) → IsBetweenLines a.session → AreEdits bytes edits
    → Makes (Take bytes) a b (option_map stop_of_sink fault)

-- a call that closes the script
pub record Closes {K T : Type 0} (ghosts : sink.Ghosts K) (s : Session) (old : K) (t : Session)
    (new : K) (result : Result T SinkFault) : Type 0 where
  pub to : ClosesTo s t (ghosts.written old) (ghosts.written new)
      (Rose (ghosts.shortages old) (ghosts.shortages new)) (fault_in result)
  pub adds : Adds (ghosts.written old) (ghosts.written new)
  pub counts : IsMakingCounted result (ghosts.faults old) (ghosts.faults new)
      (ghosts.shortages old) (ghosts.shortages new)

-- ---- a read

-- replies that were held were written, or are held still, or their writing was cut off
pub record Passes {K T : Type 0} (ghosts : sink.Ghosts K) (old new : K) (held rest : List ℕ)
    (result : Result T SinkFault) : Type 0 where
  pub moved : OnOk result (HasMoved (ghosts.written old) (ghosts.written new) held rest)
  pub cut : OnErr result (IsCutOff (ghosts.written old) (ghosts.written new) held)
  pub adds : Adds (ghosts.written old) (ghosts.written new)
  pub counts : IsWriteCounted result (ghosts.faults old) (ghosts.faults new)
      (ghosts.shortages old) (ghosts.shortages new)

-- a piece of which this many bytes may be taken was taken, with no reply left to be written, or the
-- session was stopped in it
abbrev pub PieceTo : {F : Type 0} → List ℕ → ℕ → Moment F → Moment F → Option Stop → Type 0
PieceTo piece room a b None = IsResting b.session (a.session.line_count + length piece)
    × (b.session.has_quit ≡ false → length piece ≤ room)
    × ((o : Setup) → Takes o (seat_at a) (seat_at b) a.session b.session (take room piece))
PieceTo piece room a b (Some why) = (why ≢ stop.ReadFault)
    × ((o : Setup) → StopsIn o (seat_at a) (seat_at b) a.session b.session piece room
    (Rose a.shortages b.shortages) why)

pub record TakesPiece {F : Type 0} (piece : List ℕ) (room : ℕ) (a b : Moment F)
    (how : Option Stop) : Type 0 where
  pub done : IsDone a b how
  pub to : PieceTo piece room a b how

-- the session goes on, rests, and so many bytes were taken, within the limit
pub record IsWaiting (o : Setup) (session : Session) (taken : ℕ) : Type 0 where
  pub running : session.has_quit ≡ false
  pub rests : IsResting session taken
  pub few : taken ≤ o.max_bytes

-- a whole script: the session is through, or has ended
abbrev pub ReadsTo : {F : Type 0} → Setup → Option (List ℕ) → Option (List ℕ) → Moment F
    → Moment F → Option Stop → Type 0
ReadsTo o left after a b None = Finishes o left after (seat_at a) (seat_at b) a.session b.session 0
ReadsTo o left after a b (Some why) =
    Ends o left after (seat_at a) (seat_at b) a.session 0 (Rose a.shortages b.shortages)
    (status_of why)

pub record Reads {F : Type 0} (o : Setup) (left after : Option (List ℕ)) (a b : Moment F)
    (how : Option Stop) : Type 0 where
  pub done : IsDone a b how
  pub to : ReadsTo o left after a b how
