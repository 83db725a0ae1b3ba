-- Edits of single voxels whose replies are written together, before they are done.
use Rattle.std.specs.Prelude.{◌≡◌, ℕ, zero, suc, ◌+◌, ◌*◌, ◌<◌, ◌≤◌, List, [], ◌∷◌, ◌++◌}
use Rattle.std.specs.Prelude.{length, map, take, ⊤, Some, IsSome, Ok, All, false, OnOk, OnErr}
use Rattle.std.specs.Prelude.{Result}
use Rattle.oct_key.specs.Voxel.{key_at}
use Rattle.oct_io.specs.Counts.{IsWriteCounted}
use Rattle.oct_io.specs.Told.{appended}
use Rattle.oct_io.specs.declared.sink.Sink as sink
use Rattle.oct_io.specs.declared.sink.SinkFault.{SinkFault}
use Rattle.oct_map.specs.Edits.{IsSureOf}
use Rattle.oct_map.specs.Map.{Map}
use Rattle.oct_script.specs.Commands.{command_of, IsSmallEdit}
use Rattle.oct_script.specs.Lines.{Line, LineSoFar, Text, Long, ended_lines, unread, IsReading}
use Rattle.oct_script.specs.Replies.{text_of}
use Rattle.oct_script.specs.declared.command.Command.TheVariants as command
use Rattle.oct_script.specs.declared.reply.Reply.TheVariants as reply_of
use Rattle.oct_session.specs.Commands.{order_answer, order_action}
use Rattle.oct_session.specs.History.{History, State, after, after_all}
use Rattle.oct_session.specs.Leaving.{StandsFor}
use Rattle.oct_session.specs.declared.ahead.Run.{Run}
use Rattle.oct_session.specs.declared.ahead.VoxelEdit.{VoxelEdit}
use Rattle.oct_session.specs.declared.kinds.Order.{Order}
use Rattle.oct_session.specs.declared.kinds.Order.TheVariants as order

-- the replies to this many edits that are done
abbrev pub oks : ℕ → List ℕ
oks zero = []
oks (suc count) = text_of (Some reply_of.Ok) ++ oks count

-- what an edit orders the map to do
abbrev pub order_of : VoxelEdit → Order
order_of edit = order.Edit edit.p edit.e edit.lazy

-- what these edits do, one after another
abbrev pub actions_of : List VoxelEdit → History
actions_of edits = map (λ edit. order_action (order_of edit)) edits

-- a line outside a block says this edit
abbrev pub SaysEdit : Line → VoxelEdit → Type 0
SaysEdit (Text text) edit = command_of false text ≡ Ok (command.Edit edit.p edit.e edit.lazy)
SaysEdit Long edit = ⊥

-- these lines say these edits, one by one
abbrev pub SayEdits : List Line → List VoxelEdit → Type 0
SayEdits [] [] = ⊤
SayEdits [] (edit ∷ edits) = ⊥
SayEdits (line ∷ lines) [] = ⊥
SayEdits (line ∷ lines) (edit ∷ edits) = SaysEdit line edit × SayEdits lines edits

-- an edit of a voxel of a map of this edge, with a number as a script may have it
pub record IsPlaced (edge : ℕ) (edit : VoxelEdit) : Type 0 where
  pub small : IsSmallEdit edit.e
  pub inside : IsSome (key_at edge edit.p)

-- where nothing of a line had come, these bytes are these lines
pub record AreLines (bytes : List ℕ) (lines : List Line) : Type 0 where
  pub few : length lines ≤ length bytes
  pub ends : (before : List ℕ) → IsReading unread before
      → (ended_lines (before ++ bytes) ≡ ended_lines before ++ lines)
      × IsReading unread (before ++ bytes)

-- these bytes are lines that say these edits
pub record AreEdits (bytes : List ℕ) (edits : List VoxelEdit) : Type 0 where
  pub lines : List Line
  pub whole : AreLines bytes lines
  pub said : SayEdits lines edits

-- the map takes each of these edits, one after another
abbrev pub AreTaken : State → List VoxelEdit → Type 0
AreTaken s [] = ⊤
AreTaken s (edit ∷ edits) = (order_answer s (order_of edit) ≡ Ok tt)
    × AreTaken (after s (order_action (order_of edit))) edits

-- a map that stood for some state took these edits, and did them
abbrev pub HasEdited : Map → Map → List VoxelEdit → Type 0
HasEdited old new edits = (s : State) → StandsFor old s
    → AreTaken s edits × StandsFor new (after_all s (actions_of edits))

-- a run at the front of a piece, read where this came of a line: lines that say its edits, which
-- the map is sure of
pub record IsRun (m : Map) (line : LineSoFar) (piece : List ℕ) (run : Run) : Type 0 where
  pub within : run.taken ≤ length piece
  pub edits : AreEdits (take run.taken piece) run.edits.items
  pub placed : All (IsPlaced m.tree.res) run.edits.items
  pub sure : 0 < length run.edits.items
      → IsSureOf m (length run.edits.items) × (line ≡ unread)

-- so many bytes of a text were written, and not all of it where that failed
pub record HasWritten {K T : Type 0} (ghosts : sink.Ghosts K) (old new : K) (text : List ℕ)
    (told : ℕ) (result : Result T SinkFault) : Type 0 where
  pub within : told ≤ length text
  pub written : ghosts.written new ≡ appended (ghosts.written old) (take told text)
  pub whole : OnOk result (told ≡ length text)
  pub cut : OnErr result (told < length text)
  pub counts : IsWriteCounted result (ghosts.faults old) (ghosts.faults new)
      (ghosts.shortages old) (ghosts.shortages new)

-- of this many replies, of which so many bytes were written, this many were begun, or were all
pub record AreBegun (told count begun : ℕ) : Type 0 where
  pub within : begun ≤ count
  pub all : told ≡ 3 * count → begun ≡ count
  pub cut : told < 3 * count → (told < 3 * begun) × (3 * begun ≤ told + 3)
