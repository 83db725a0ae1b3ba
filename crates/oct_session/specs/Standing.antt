-- The desk and the session at work: what they hold for the bytes that were taken.
use Rattle.std.specs.Prelude.{◌≡◌, ℕ, ◌<◌, ◌⊎◌, List, [], ◌∷◌, ◌++◌, length, take, Option, None}
use Rattle.std.specs.Prelude.{Some, ⊤, IsSome, Result, Ok, Err, false, ◌≤◌}
use Rattle.oct_io.specs.Files.{Files}
use Rattle.oct_io.specs.Told.{appended}
use Rattle.oct_io.specs.declared.sink.SinkFault.{SinkFault}
use Rattle.oct_io.specs.declared.sink.SinkFault.TheVariants as sink_fault
use Rattle.oct_io.specs.declared.store.StoreFault.{StoreFault}
use Rattle.oct_io.specs.declared.store.StoreFault.TheVariants as store_fault
use Rattle.oct_map.specs.Answers.{IsAnswerOrMemory}
use Rattle.oct_map.specs.Map.{Map}
use Rattle.oct_map.specs.declared.fault.MapFault.{MapFault}
use Rattle.oct_script.specs.declared.reply.Reply.{Reply}
use Rattle.oct_script.specs.Lines.{Line, ended_lines, all_lines, unread, IsReading}
use Rattle.oct_script.specs.Replies.{text_of}
use Rattle.oct_io.specs.Shelf.{shelf}
use Rattle.oct_io.specs.declared.status.Status.{Status}
use Rattle.oct_io.specs.declared.stop.Stop.{Stop}
use Rattle.oct_io.specs.declared.stop.Stop.TheVariants.{TooLong, ReadFault}
use Rattle.oct_session.specs.Tally.{capped, no_replies}
use Rattle.oct_session.specs.declared.session.Session.{Session}
use Rattle.oct_io.specs.Taken.{HasTaken, IsGathered}
use Rattle.oct_session.specs.Ending.{HasReplied, IsReadToEnd}
use Rattle.oct_session.specs.Leaving.{StandsFor, StandsForSome, Desk, desk, HasAsked, IsLike}
use Rattle.oct_session.specs.Leaving.{IsTorn}
use Rattle.oct_session.specs.Leaving.{IsLikeAfter, IsTornAfter, IsCutBetween, IsKnown}
use Rattle.oct_session.specs.Leaving.{IsHalted}
use Rattle.oct_session.specs.Leaving.{IsHaltedAtEnd, HasEndedAs}
use Rattle.oct_session.specs.History.{History, State, after, after_all}
use Rattle.oct_session.specs.Session.{Progress, Effect, effect_of, next_command}
use Rattle.oct_session.specs.Session.{after_line}
use Rattle.oct_session.specs.Session.{progress, closed}
use Rattle.oct_session.specs.Session.{session, finished, last_progress}
use Rattle.oct_session.specs.Commands.{FileWork, named_in, changed_by, accepted, stored, file_saved}
use Rattle.oct_session.specs.Commands.{order_answer, order_reply, order_action, question_reply}
use Rattle.oct_session.specs.Commands.{question_action}
use Rattle.oct_session.specs.declared.kinds.Order.{Order}
use Rattle.oct_session.specs.declared.kinds.Question.{Question}
use Rattle.oct_session.specs.ScanBlock.{block_reply, block_action, GainsPoint}
use Rattle.oct_session.specs.Setup.{Setup}
use Rattle.oct_io.specs.Stops.{status_of}
use Rattle.oct_session.specs.declared.scan_block.ScanBlock.{ScanBlock}

-- ---- what lies before a session

-- the desk of this map and this store, by the store that it began with
abbrev pub desk_of : {F : Type 0} → (F → Option Files) → (F → ℕ) → Map → F → F → Desk
desk_of files calls map store = λ first. desk map (shelf files calls first store)

-- what lies before a session at one moment: its desk, by the store that it began with, and what was
-- written
pub record Seat (F : Type 0) : Type 1 where
  pub desk : F → Desk
  pub written : Option (List ℕ)

-- the seat of this desk, where this was written
abbrev pub seated : {F : Type 0} → (F → Desk) → Option (List ℕ) → Seat F
seated desk written = record { desk = desk; written = written }

-- ---- what a line does

-- a map that stands for some history stands for some history afterwards
abbrev pub KeepsStanding : Map → Map → Type 0
KeepsStanding old new = (o : Setup) → StandsForSome o old → StandsForSome o new

-- something was answered and done on a map that stood for some state: this is the reply there, and
-- these are the actions, done unless the reply is a refusal
abbrev pub HasAnswered : (State → Option Reply) → (State → History) → Map → Map → Option Reply
    → Type 0
HasAnswered reply actions old new answer = (s : State) → StandsFor old s
    → (answer ≡ reply s) × StandsFor new (after_all s (accepted answer (actions s)))

-- the answer of something whose reply stands in its place, or its fault
abbrev pub with_reply : {A E : Type 0} → Result A E → Option Reply → Result (Option Reply) E
with_reply (Ok done) reply = Ok reply
with_reply (Err fault) reply = Err fault

-- that, or memory ran out, for something that has a reply, and nothing was done
abbrev pub HasDone : {E : Type 0} → (State → Option Reply) → (State → History) → Map → Map
    → Result (Option Reply) E → Type 0
HasDone reply actions old new (Ok answer) = HasAnswered reply actions old new answer
HasDone reply actions old new (Err fault) =
    (s : State) → StandsFor old s → IsSome (reply s) × StandsFor new s

-- the map did what it was to do, or it refused, or memory ran out
abbrev pub HasCarriedOut : Map → Map → Order → Result ⊤ MapFault → Type 0
HasCarriedOut old new order (Ok done) = (s : State) → StandsFor old s
    → (Ok done ≡ order_answer s order) × StandsFor new (after s (order_action order))
HasCarriedOut old new order (Err fault) = (s : State) → StandsFor old s
    → IsAnswerOrMemory (order_answer s order) (Err fault) × IsSome (order_reply s order)
    × StandsFor new s

-- an order was answered and done, or memory ran out
abbrev pub HasObeyed : {E : Type 0} → Map → Map → Order → Result (Option Reply) E → Type 0
HasObeyed old new order result =
    HasDone (λ s. order_reply s order) (λ s. order_action order ∷ []) old new result

-- a question was answered
abbrev pub Tells : Map → Map → Question → Option Reply → Type 0
Tells old new question answer =
    HasAnswered (λ s. question_reply s question) (λ s. question_action question) old new answer

-- that, or memory ran out
abbrev pub HasTold : {E : Type 0} → Map → Map → Question → Result (Option Reply) E → Type 0
HasTold old new question result =
    HasDone (λ s. question_reply s question) (λ s. question_action question) old new result

-- a block that its `end` has closed was answered and done, or memory ran out
abbrev pub HasScanned : {E : Type 0} → Map → Map → ScanBlock → Result (Option Reply) E → Type 0
HasScanned old new block result =
    HasDone (λ s. block_reply s block) (λ s. block_action block) old new result

-- a line takes memory, where this block was open before it: it has a reply, or adds a point
abbrev pub TakesMemory : Option ScanBlock → Effect → Type 0
TakesMemory before effect = IsSome effect.reply ⊎ GainsPoint before effect.block

-- a line inside this block had its effect on a map that stood for some state, or memory ran out,
-- for a line that takes some, and nothing was done
abbrev pub HasWorked : {E : Type 0} → (State → Effect) → ScanBlock → Map → Map → Option ScanBlock
    → Result (Option Reply) E → Type 0
HasWorked effect before old new block (Ok answer) = (s : State) → StandsFor old s
    → (answer ≡ (effect s).reply) × (block ≡ (effect s).block)
    × StandsFor new (after_all s (effect s).added)
HasWorked effect before old new block (Err fault) =
    (s : State) → StandsFor old s → TakesMemory (Some before) (effect s) × StandsFor new s

-- a line names no file, or the files are told
abbrev pub FindsTold : Option (List ℕ) → Option Files → Type 0
FindsTold named files = (named ≡ None) ⊎ IsSome files

-- a line that asks this of the files had its effect on a map and files that were as some state and
-- some files are: this is the reply, and this the block that is open after it
abbrev pub TakesEffect : (Option Files → State → Effect) → Option FileWork → Map → Option Files
    → Map → Option Files → Option ScanBlock → Option Reply → Type 0
TakesEffect effect asked old told new untold block answer =
    (files : Option Files) (s : State) → FindsTold (named_in asked) files → IsLike files s old told
    → (answer ≡ (effect files s).reply) × (block ≡ (effect files s).block)
    × IsLike (stored files (effect files s).saving) (after_all s (effect files s).added) new untold

-- nothing of a line was done, but for the file that it saves where the store failed, which takes a
-- line that names one
abbrev pub HasFailed : Option FileWork → Option Files → State → Map → Option Files → StoreFault
    → Type 0
HasFailed asked files s map told store_fault.Failed =
    IsSome (named_in asked) × IsTorn (changed_by asked) files s map told
HasFailed asked files s map told store_fault.Memory = IsLike files s map told

-- a line had its effect where this block was open before it, or it failed, and takes memory
abbrev pub HasEffect : (Option Files → State → Effect) → Option FileWork → Option ScanBlock → Map
    → Option Files → Map → Option Files → Option ScanBlock → Result (Option Reply) StoreFault
    → Type 0
HasEffect effect asked before old told new untold block (Ok answer) =
    TakesEffect effect asked old told new untold block answer
HasEffect effect asked before old told new untold block (Err fault) =
    (files : Option Files) (s : State) → FindsTold (named_in asked) files → IsLike files s old told
    → TakesMemory before (effect files s) × HasFailed asked files s new untold fault

-- the next line failed, or all of it was done and memory ran out for its reply
abbrev pub StandsBeside : Setup → Desk → Progress → Line → StoreFault → Type 0
StandsBeside o d p line store_fault.Failed = (p.asks < (after_line o p line).asks)
    × IsTornAfter o (file_saved (next_command p line)) p d
StandsBeside o d p line store_fault.Memory =
    IsLikeAfter o (after_line o p line) d ⊎ IsLikeAfter o p d

-- the same, of a line that takes memory; the store was asked once at most for each line that named
-- a file
pub record HasFailedAt (o : Setup) (d : Desk) (p : Progress) (line : Line) (fault : StoreFault)
    : Type 0 where
  pub takes : TakesMemory p.block (effect_of o p line)
  pub beside : StandsBeside o d p line fault
  pub asked : HasAsked d (after_line o p line).asks

-- the session stands between two lines, where that was done so far
pub record IsInStep (session : Session) (p : Progress) : Type 0 where
  pub counted : session.line_count ≡ p.line_count
  pub block : session.block ≡ p.block
  pub refused : session.refused ≡ p.refused
  pub has_quit : session.has_quit ≡ p.has_quit
  pub tally : session.tally ≡ capped p.tally

-- desk and session stand there
pub record IsBetween (o : Setup) (d : Desk) (session : Session) (p : Progress) : Type 0 where
  pub like : IsLikeAfter o p d
  pub asked : HasAsked d p.asks
  pub step : IsInStep session p

-- they stand there, and since `old` the replies so far were written
pub record HasReached (o : Setup) (old new : Option (List ℕ)) (d : Desk) (session : Session)
    (p : Progress) : Type 0 where
  pub between : IsBetween o d session p
  pub written : new ≡ appended old p.text

-- nothing was done on the way from one state to the next, and no file was named
pub record IsIdle (p q : Progress) : Type 0 where
  pub history : q.history ≡ p.history
  pub files : q.files ≡ p.files
  pub asks : q.asks ≡ p.asks

-- of the replies to these lines a front was written that ends in that of one of them, and nothing
-- was done after it
pub record IsUnwritten (o : Setup) (files : Option Files) (lines : List Line) (front : List ℕ)
    : Type 0 where
  pub before : List Line
  pub line : Line
  pub behind : List Line
  pub told : List ℕ
  pub untold : List ℕ
  pub split : lines ≡ before ++ line ∷ behind
  pub running : (progress o files before).has_quit ≡ false
  pub reply : (after_line o (progress o files before) line).text
      ≡ (progress o files before).text ++ (told ++ untold)
  pub written : front ≡ (progress o files before).text ++ told
  pub more : 0 < length untold
  pub idle : IsIdle (after_line o (progress o files before) line) (progress o files lines)

-- of the replies to these lines a front was written, and the rest is held; wherever the writing of
-- it breaks off, nothing was done after the line whose reply ends there
pub record IsHolding (o : Setup) (files : Option Files) (lines : List Line)
    (old new : Option (List ℕ)) (held : List ℕ) : Type 0 where
  pub gathered : IsGathered (progress o files lines).text old new held
  pub cut : (k : ℕ) → k < length held → IsUnwritten o files lines (gathered.front ++ take k held)

-- desk and session stand behind these lines, and the session holds what of the replies isn't
-- written
pub record HasHeld (o : Setup) (files : Option Files) (lines : List Line)
    (old new : Option (List ℕ)) (d : Desk) (session : Session) : Type 0 where
  pub between : IsBetween o d session (progress o files lines)
  pub holding : IsHolding o files lines old new session.text.items

-- wherever desk and session stood between two lines, they then stand behind the next one, if what
-- it reads is known, and hold its reply behind the others
pub record TakesLine {F : Type 0} (o : Setup) (d e : F → Desk) (s t : Session) (line : Line)
    : Type 0 where
  pub between : (first : F) (p : Progress) → IsKnown (after_line o p line)
      → IsBetween o (d first) s p → IsBetween o (e first) t (after_line o p line)
  pub text : (first : F) (p : Progress) → IsKnown (after_line o p line)
      → IsBetween o (d first) s p
      → t.text.items ≡ s.text.items ++ text_of (effect_of o p line).reply

-- wherever they stood there, the next line failed
abbrev pub FailsLine : {F : Type 0} → Setup → (F → Desk) → (F → Desk) → Session → Line
    → StoreFault → Type 0
FailsLine {F} o d e s line fault = (first : F) (p : Progress) → IsKnown (after_line o p line)
    → IsBetween o (d first) s p → HasFailedAt o (e first) p line fault

-- wherever the session held replies, it then holds them behind this line, if it is known
abbrev pub HoldsLine : {F : Type 0} → Setup → Seat F → Seat F → Session → Session → Line → Type 0
HoldsLine {F} o a b s t line = (first : F) (files : Option Files) (lines : List Line)
    (w : Option (List ℕ)) → IsKnown (progress o files (lines ++ line ∷ []))
    → HasHeld o files lines w a.written (a.desk first) s
    → HasHeld o files (lines ++ line ∷ []) w b.written (b.desk first) t

-- wherever the session held replies, it was then halted at this line or one before it
abbrev pub HaltsLine : {F : Type 0} → Setup → Seat F → Seat F → Session → Line → Type 0 → Status
    → Type 0
HaltsLine {F} o a b s line short status = (first : F) (files : Option Files) (lines : List Line)
    (w : Option (List ℕ)) → IsKnown (progress o files (lines ++ line ∷ []))
    → HasHeld o files lines w a.written (a.desk first) s
    → IsHalted o files (lines ++ line ∷ []) w b.written (b.desk first) short status

-- what was held is held still, or was written whole
abbrev pub HasMoved : Option (List ℕ) → Option (List ℕ) → List ℕ → List ℕ → Type 0
HasMoved old new held rest =
    ((new ≡ old) × (rest ≡ held)) ⊎ ((new ≡ appended old held) × (rest ≡ []))

-- more was written, or nothing
abbrev pub Adds : Option (List ℕ) → Option (List ℕ) → Type 0
Adds old new = (more : List ℕ) × (new ≡ appended old more)

-- the session was given these bytes, and holds what of the replies isn't written
pub record IsHeldAt (o : Setup) (files : Option Files) (old new : Option (List ℕ)) (d : Desk)
    (session : Session) (bytes : List ℕ) : Type 0 where
  pub reached : IsKnown (progress o files (ended_lines bytes))
      → HasHeld o files (ended_lines bytes) old new d session
  pub line : session.has_quit ≡ false → IsReading session.line bytes

-- wherever the session was, it was then given this piece more
abbrev pub TakesHeld : {F : Type 0} → Setup → Seat F → Seat F → Session → Session → List ℕ → Type 0
TakesHeld {F} o a b s t piece = (first : F) (files : Option Files) (w : Option (List ℕ))
    (bytes : List ℕ) → IsHeldAt o files w a.written (a.desk first) s bytes
    → IsHeldAt o files w b.written (b.desk first) t (bytes ++ piece)

-- wherever the session was, it was then halted at one of these lines, if they are known
abbrev pub HaltsHeld : {F : Type 0} → Setup → Seat F → Seat F → Session → (List ℕ → List Line)
    → Type 0 → Status → Type 0
HaltsHeld {F} o a b s lines short status = (first : F) (files : Option Files)
    (w : Option (List ℕ)) (bytes : List ℕ)
    → IsHeldAt o files w a.written (a.desk first) s bytes → IsKnown (progress o files (lines bytes))
    → IsHalted o files (lines bytes) w b.written (b.desk first) short status

-- the session stands before its first line: no byte was read, no block is open, there is no reply
pub record IsFresh (session : Session) : Type 0 where
  pub line : session.line ≡ unread
  pub block : session.block ≡ None
  pub counted : session.line_count ≡ 0
  pub refused : session.refused ≡ false
  pub tally : session.tally ≡ no_replies
  pub empty : session.text.items ≡ []
  pub running : session.has_quit ≡ false

-- the session rests between two pieces of its script: it holds no reply, the line that stands
-- hasn't ended, and at most this many lines were taken in
pub record IsResting (session : Session) (lines : ℕ) : Type 0 where
  pub empty : session.text.items ≡ []
  pub unended : session.line.has_ended ≡ false
  pub counted : session.line_count ≤ lines

-- the session was given these bytes: the lines that end within them are answered, and, unless it
-- has ended, the rest is kept
pub record IsAt (o : Setup) (files : Option Files) (old new : Option (List ℕ)) (d : Desk)
    (session : Session) (bytes : List ℕ) : Type 0 where
  pub reached : IsKnown (progress o files (ended_lines bytes))
      → HasReached o old new d session (progress o files (ended_lines bytes))
  pub line : session.has_quit ≡ false → IsReading session.line bytes

-- wherever the session was, it was then given this piece more
abbrev pub Takes : {F : Type 0} → Setup → Seat F → Seat F → Session → Session → List ℕ → Type 0
Takes {F} o a b s t piece = (first : F) (files : Option Files) (w : Option (List ℕ))
    (bytes : List ℕ) → IsAt o files w a.written (a.desk first) s bytes
    → IsAt o files w b.written (b.desk first) t (bytes ++ piece)

-- the session was halted at one of these lines, and the replies to the lines that end within these
-- bytes were written
abbrev pub IsHaltedBehind : Setup → Option Files → List ℕ → List Line → Option (List ℕ)
    → Option (List ℕ) → Desk → Type 0 → Status → Type 0
IsHaltedBehind o files bytes lines old new d short status =
    IsHalted o files lines old new d short status × HasReplied o files bytes old new

-- wherever the session was, it was then halted at one of these lines, if they are known
abbrev pub Halts : {F : Type 0} → Setup → Seat F → Seat F → Session → (List ℕ → List Line)
    → Type 0 → Status → Type 0
Halts {F} o a b s lines short status = (first : F) (files : Option Files) (w : Option (List ℕ))
    (bytes : List ℕ)
    → IsAt o files w a.written (a.desk first) s bytes → IsKnown (progress o files (lines bytes))
    → IsHaltedBehind o files bytes (lines bytes) w b.written (b.desk first) short status

-- wherever the session was where its script ends, it then stands behind its lines, and behind what
-- is done after them
abbrev pub Reaches : {F : Type 0} → Setup → Seat F → Seat F → Session → Session
    → (Progress → Progress) → Type 0
Reaches {F} o a b s t after = (first : F) (files : Option Files) (w : Option (List ℕ))
    (bytes : List ℕ) → IsAt o files w a.written (a.desk first) s bytes
    → IsKnown (progress o files (all_lines bytes))
    → HasReached o w b.written (b.desk first) t (after (progress o files (all_lines bytes)))

-- the session was given the bytes that were taken of its input
pub record HasServed (o : Setup) (files : Option Files) (bytes : List ℕ)
    (left old new : Option (List ℕ)) (d : Desk) (session : Session) (taken : ℕ) : Type 0 where
  pub input : HasTaken taken bytes left
  pub at : IsAt o files old new d session (take taken bytes)

-- the session has answered its script, and has read it to its end
pub record IsThrough (o : Setup) (files : Option Files) (bytes : List ℕ)
    (left old new : Option (List ℕ)) (d : Desk) (s : Session) : Type 0 where
  pub reached : HasReached o old new d s (closed (last_progress o files bytes))
  pub whole : session o files bytes ≡ finished (closed (last_progress o files bytes))
  pub end : IsReadToEnd o files bytes left

-- the session was halted at one of the last lines, or at the end of the script after them, and the
-- replies to the lines that end within these bytes were written
abbrev pub IsHaltedLast : Setup → Option Files → List ℕ → List Line → Option (List ℕ)
    → Option (List ℕ) → Desk → Type 0 → Status → Type 0
IsHaltedLast o files bytes lines old new d short status =
    (IsHalted o files lines old new d short status ⊎ IsHaltedAtEnd o files lines old new d short
    status)
    × HasReplied o files bytes old new

-- wherever the session was where its script ends, it was then halted there
abbrev pub HaltsAtEnd : {F : Type 0} → Setup → Seat F → Seat F → Session → Type 0 → Status → Type 0
HaltsAtEnd {F} o a b s short status = (first : F) (files : Option Files) (w : Option (List ℕ))
    (bytes : List ℕ) → IsAt o files w a.written (a.desk first) s bytes
    → IsKnown (progress o files (all_lines bytes))
    → IsHaltedLast o files bytes (all_lines bytes) w b.written (b.desk first) short status

-- a fault of the sink is out of memory only where the sink ran short of it
abbrev pub IsShort : SinkFault → Type 0 → Type 0
IsShort fault short = fault ≡ sink_fault.Memory → short

-- what was to be written on the way was cut off, by the sink, or before anything of it was written
pub record IsCutBy (p q : Progress) (old new : Option (List ℕ)) (short : Type 0) (fault : SinkFault)
    : Type 0 where
  pub cut : IsCutBetween p q old new
  pub by : (cut.told ≡ []) ⊎ IsShort fault short

-- a session that was given these bytes was stopped in a piece, of which `room` bytes may be taken
abbrev pub IsStoppedIn : Setup → Option Files → Option (List ℕ) → Option (List ℕ) → Desk → Session
    → List ℕ → List ℕ → ℕ → Type 0 → Stop → Type 0
IsStoppedIn o files old new d session bytes piece room short TooLong =
    (room < length piece) × (session.has_quit ≡ false)
    × IsAt o files old new d session (bytes ++ take room piece)
IsStoppedIn o files old new d session bytes piece room short ReadFault = ⊥
IsStoppedIn o files old new d session bytes piece room short stop =
    IsKnown (progress o files (ended_lines (bytes ++ take room piece)))
    → IsHaltedBehind o files bytes (ended_lines (bytes ++ take room piece)) old new d short
    (status_of stop)

-- wherever the session was, it was then stopped in this piece, of which `room` bytes may be taken
abbrev pub StopsIn : {F : Type 0} → Setup → Seat F → Seat F → Session → Session → List ℕ → ℕ
    → Type 0 → Stop → Type 0
StopsIn {F} o a b s t piece room short stop = (first : F) (files : Option Files)
    (w : Option (List ℕ)) (bytes : List ℕ) → IsAt o files w a.written (a.desk first) s bytes
    → IsStoppedIn o files w b.written (b.desk first) t bytes piece room short stop

-- wherever the session was in its input, it was then given more bytes of it
abbrev pub Serves : {F : Type 0} → Setup → Option (List ℕ) → Option (List ℕ) → Seat F → Seat F
    → Session → Session → ℕ → ℕ → Type 0
Serves {F} o left after a b s t taken more = (first : F) (files : Option Files) (bytes : List ℕ)
    (w : Option (List ℕ)) → HasServed o files bytes left w a.written (a.desk first) s taken
    → HasServed o files bytes after w b.written (b.desk first) t more

-- wherever it was there, it was then through, if the whole session is known
abbrev pub Finishes : {F : Type 0} → Setup → Option (List ℕ) → Option (List ℕ) → Seat F → Seat F
    → Session → Session → ℕ → Type 0
Finishes {F} o left after a b s t taken = (first : F) (files : Option Files) (bytes : List ℕ)
    (w : Option (List ℕ)) → HasServed o files bytes left w a.written (a.desk first) s taken
    → IsKnown (last_progress o files bytes)
    → IsThrough o files bytes after w b.written (b.desk first) t

-- wherever it was there, it then ended with this status, if the whole session is known
abbrev pub Ends : {F : Type 0} → Setup → Option (List ℕ) → Option (List ℕ) → Seat F → Seat F
    → Session → ℕ → Type 0 → Status → Type 0
Ends {F} o left after a b s taken short status = (first : F) (files : Option Files)
    (bytes : List ℕ) (w : Option (List ℕ))
    → HasServed o files bytes left w a.written (a.desk first) s taken
    → IsKnown (last_progress o files bytes)
    → HasEndedAs o files bytes after w b.written (b.desk first) short status
