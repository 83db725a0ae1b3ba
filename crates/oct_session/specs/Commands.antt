-- The command of a line, and the reply to it outside the block of a scan.
use Rattle.std.specs.Prelude.{ℕ, ℤ, List, [], ◌∷◌, ⊤, Option, Some, None, is_some, Result, Ok, Err}
use Rattle.std.specs.Prelude.{Bool, true, false, if◌then◌else◌, option_map}
use Rattle.oct_io.specs.Files.{Files, saved}
use Rattle.oct_key.specs.Values.{Values}
use Rattle.oct_odds.specs.Odds.{Odds}
use Rattle.oct_odds.specs.Update.{Value, class_of}
use Rattle.oct_values.specs.Counts.{group_count, node_count}
use Rattle.oct_cast.specs.declared.outcome.Cast.{Cast as Found}
use Rattle.oct_change.specs.declared.kind.Change.{Change}
use Rattle.oct_map.specs.Answers.{edit_answer, get_answer, box_answer, limit_answer}
use Rattle.oct_map.specs.Casts.{cast_answer}
use Rattle.oct_map.specs.Lists.{list_answer}
use Rattle.oct_map.specs.Marks.{changes_answer}
use Rattle.oct_map.specs.declared.fault.MapFault.{MapFault}
use Rattle.oct_query.specs.Shown.{Shown}
use Rattle.oct_script.specs.declared.command.Command.{Command}
use Rattle.oct_script.specs.declared.command.Command.TheVariants.{Quit}
use Rattle.oct_script.specs.declared.command.Syntax.{Syntax}
use Rattle.oct_script.specs.declared.reply.Refusal.{Refusal}
use Rattle.oct_script.specs.declared.reply.Refusal.TheVariants as refusal
use Rattle.oct_script.specs.declared.reply.Reply.{Reply}
use Rattle.oct_script.specs.declared.reply.Reply.TheVariants.{Ok, Known, Unknown, Counted}
use Rattle.oct_script.specs.declared.reply.Reply.TheVariants.{Casted, Refused}
use Rattle.oct_script.specs.declared.reply.Reply.TheVariants.{Blocks, Changed}
use Rattle.oct_script.specs.Commands.{command_of}
use Rattle.oct_script.specs.Lines.{Line, Text, Long}
use Rattle.oct_script.specs.Replies.{is_refusal}
use Rattle.oct_session.specs.FileCommands.{found_in, load_reply, load_action, classes_file}
use Rattle.oct_session.specs.FileCommands.{save_reply, restore_reply, restore_action, snapshot_file}
use Rattle.oct_session.specs.History.{History, State, Action, Edited, Boxed, Refreshed, Pruned}
use Rattle.oct_session.specs.History.{Cleared, Likened, Tracked, Untracked, Limited, Unlimited}
use Rattle.oct_session.specs.Refusals.{fault_reply}
use Rattle.oct_session.specs.declared.kinds.Order.{Order}
use Rattle.oct_session.specs.declared.kinds.Order.TheVariants as order
use Rattle.oct_session.specs.declared.kinds.Question.{Question}
use Rattle.oct_session.specs.declared.kinds.Question.TheVariants as question
use Rattle.oct_script.specs.declared.verbs.FileVerb.{FileVerb}
use Rattle.oct_script.specs.declared.verbs.FileVerb.TheVariants as verb
use Rattle.oct_session.specs.Kinds.{Kind, kind_of, Nothing, Opens, Adds, Closes, Orders, Asks}
use Rattle.oct_session.specs.Kinds.{Names}
use Rattle.oct_values.specs.Classes.{classes_of}

-- the command that was read on the line of this number, or the refusal where the line isn't in the
-- grammar
abbrev pub numbered : ℕ → Result Command Syntax → Result Command Refusal
numbered number (Ok command) = Ok command
numbered number (Err syntax) = Err (refusal.Syntax number syntax.column)

-- the command on the line of this number, inside the block of a scan or outside, or why there is
-- none; a long line isn't read
abbrev pub command_on : Bool → ℕ → Line → Result Command Refusal
command_on inside number (Text text) = numbered number (command_of inside text)
command_on inside number Long = Err (refusal.LongLine number)

-- the command that ends the session
abbrev pub is_quit : Result Command Refusal → Bool
is_quit (Ok Quit) = true
is_quit _ = false

-- the reply to an edit of a voxel or a box, by the map's answer
abbrev pub edit_reply : Result ⊤ MapFault → Option Reply
edit_reply (Ok done) = Some Ok
edit_reply (Err fault) = fault_reply fault

-- the reply that shows a value, with its class
abbrev pub value_reply : Odds → Value → Reply
value_reply odds None = Unknown
value_reply odds (Some value) = Known value (class_of odds (Some value))

-- the reply to a query, by the map's answer
abbrev pub get_reply : Odds → Result Value MapFault → Option Reply
get_reply odds (Ok value) = Some (value_reply odds value)
get_reply odds (Err fault) = fault_reply fault

-- the reply to a cast, by the map's answer
abbrev pub cast_reply : Result Found MapFault → Option Reply
cast_reply (Ok found) = Some (Casted found)
cast_reply (Err fault) = fault_reply fault

-- the reply to a list of blocks, by the map's answer, where values from a threshold on are occupied
abbrev pub list_reply : ℤ → Result (List Shown) MapFault → Option Reply
list_reply threshold (Ok blocks) = Some (Blocks blocks threshold)
list_reply threshold (Err fault) = fault_reply fault

-- the reply that shows what has changed since the mark, by the map's answer
abbrev pub changes_reply : Result (List Change) MapFault → Option Reply
changes_reply (Ok changes) = Some (Changed changes)
changes_reply (Err fault) = fault_reply fault

-- the reply that shows how many groups and nodes these values need
abbrev pub counts_reply : Values → Reply
counts_reply values = Counted (record { groups = group_count values; nodes = node_count values })

-- the map's answer to an order in a state
abbrev pub order_answer : State → Order → Result ⊤ MapFault
order_answer s (order.Edit p edit lazy) = edit_answer s.base s.values p
order_answer s (order.Box lo hi edit) = box_answer s.base (is_some s.marked) s.values lo hi
order_answer s (order.Limit lo hi) = limit_answer s.base lo hi
order_answer s order.NoLimit = Ok tt
order_answer s order.Refresh = Ok tt
order_answer s order.Prune = Ok tt
order_answer s order.Clear = Ok tt
order_answer s order.MaxLik = Ok tt
order_answer s order.Track = Ok tt
order_answer s order.Untrack = Ok tt

-- the reply to it
abbrev pub order_reply : State → Order → Option Reply
order_reply s order = edit_reply (order_answer s order)

-- what it does, where the map doesn't refuse it
abbrev pub order_action : Order → Action
order_action (order.Edit p edit lazy) = Edited p edit lazy
order_action (order.Box lo hi edit) = Boxed lo hi edit
order_action (order.Limit lo hi) = Limited lo hi
order_action order.NoLimit = Unlimited
order_action order.Refresh = Refreshed
order_action order.Prune = Pruned
order_action order.Clear = Cleared
order_action order.MaxLik = Likened
order_action order.Track = Tracked
order_action order.Untrack = Untracked

-- the reply to a question in a state, by the map's answer there
abbrev pub question_reply : State → Question → Option Reply
question_reply s (question.Get p depth) =
    get_reply s.base.odds (get_answer s.base s.is_stale s.values p depth)
question_reply s (question.List lo hi depth) =
    list_reply s.base.odds.thr (list_answer s.base s.is_stale s.values lo hi depth)
question_reply s (question.Cast origin end ignore) =
    cast_reply (cast_answer s.base s.values origin end ignore)
question_reply s question.Counts = Some (counts_reply s.values)
question_reply s question.Changes =
    changes_reply (changes_answer s.marked (classes_of s.base.odds s.values))

-- what a question does that later replies or the map may depend on: to count is to prune first
abbrev pub question_action : Question → History
question_action (question.Get p depth) = []
question_action (question.List lo hi depth) = []
question_action (question.Cast origin end ignore) = []
question_action question.Counts = Pruned ∷ []
question_action question.Changes = []

-- the reply to a verb with the name of a file, over these files and in a state
abbrev pub verb_reply : Option Files → State → FileVerb → List ℕ → Option Reply
verb_reply files s verb.Save name = save_reply (classes_file s)
verb_reply files s verb.Load name = load_reply s.base (found_in files name)
verb_reply files s verb.Snapshot name = save_reply (snapshot_file s)
verb_reply files s verb.Restore name = restore_reply s.base (found_in files name)

-- what it does
abbrev pub verb_action : Option Files → State → FileVerb → List ℕ → History
verb_action files s verb.Save name = []
verb_action files s verb.Load name = load_action (found_in files name)
verb_action files s verb.Snapshot name = []
verb_action files s verb.Restore name = restore_action s.base (found_in files name)

-- the reply to a command, by what does it, over these files and in a state; there is none where
-- there is nothing to do, nor to the head of a scan, whose block has one reply in all
abbrev pub kind_reply : Option Files → State → Kind → Option Reply
kind_reply files s (Names verb name) = verb_reply files s verb name
kind_reply files s (Orders order) = order_reply s order
kind_reply files s (Asks question) = question_reply s question
kind_reply files s Nothing = None
kind_reply files s (Opens head) = None
kind_reply files s (Adds p) = None
kind_reply files s Closes = None

-- what it does
abbrev pub kind_action : Option Files → State → Kind → History
kind_action files s (Names verb name) = verb_action files s verb name
kind_action files s (Orders order) = order_action order ∷ []
kind_action files s (Asks question) = question_action question
kind_action files s Nothing = []
kind_action files s (Opens head) = []
kind_action files s (Adds p) = []
kind_action files s Closes = []

-- the reply to a line's command over these files and in a state, outside the block of a scan
abbrev pub reply : Option Files → State → Result Command Refusal → Option Reply
reply files s (Ok command) = kind_reply files s (kind_of command)
reply files s (Err refusal) = Some (Refused refusal)

-- what a command does, if it does anything
abbrev pub action_of : Option Files → State → Result Command Refusal → History
action_of files s (Ok command) = kind_action files s (kind_of command)
action_of files s (Err refusal) = []

-- what is done where the reply isn't a refusal
abbrev pub accepted : Option Reply → History → History
accepted answer actions = if is_refusal answer then [] else actions

-- what a command asks of the files, if it names one: that what some function makes of the state is
-- put there under this name, or that what stands there under it is read
pub data FileWork : Type 0 where
  Puts : List ℕ → (State → List ℕ) → FileWork
  Reads : List ℕ → FileWork

-- what a verb asks of them
abbrev pub verb_work : FileVerb → List ℕ → FileWork
verb_work verb.Save name = Puts name classes_file
verb_work verb.Load name = Reads name
verb_work verb.Snapshot name = Puts name snapshot_file
verb_work verb.Restore name = Reads name

-- what does any other command asks nothing of them
abbrev pub kind_work : Kind → Option FileWork
kind_work Nothing = None
kind_work (Opens head) = None
kind_work (Adds p) = None
kind_work Closes = None
kind_work (Orders order) = None
kind_work (Asks question) = None
kind_work (Names verb name) = Some (verb_work verb name)

-- the bytes that are put under a name
pub record Saving : Type 0 where
  pub name : List ℕ
  pub bytes : List ℕ

-- what is put there, if something is
abbrev pub saving_by : State → Option FileWork → Option Saving
saving_by s None = None
saving_by s (Some (Puts name text)) = Some (record { name = name; bytes = text s })
saving_by s (Some (Reads name)) = None

-- the name of the file
abbrev pub name_in : FileWork → List ℕ
name_in (Puts name text) = name
name_in (Reads name) = name

-- the file that may change, if one may: to read one changes none
abbrev pub changed_by : Option FileWork → Option (List ℕ)
changed_by None = None
changed_by (Some (Puts name text)) = Some name
changed_by (Some (Reads name)) = None

-- what a line asks of the files; a line that isn't in the grammar asks nothing
abbrev pub asked_of : Result Command Refusal → Option FileWork
asked_of (Ok command) = kind_work (kind_of command)
asked_of (Err refusal) = None

-- what a command saves, if it saves anything
abbrev pub saving_of : State → Result Command Refusal → Option Saving
saving_of s command = saving_by s (asked_of command)

-- the file that is named, if one is
abbrev pub named_in : Option FileWork → Option (List ℕ)
named_in work = option_map name_in work

-- the file that a command names, if it names one
abbrev pub file_named : Result Command Refusal → Option (List ℕ)
file_named command = named_in (asked_of command)

-- the file that a command may change, if it may change one
abbrev pub file_saved : Result Command Refusal → Option (List ℕ)
file_saved command = changed_by (asked_of command)

-- whether a question may change what later replies or the map depend on
abbrev pub question_changes : Question → Bool
question_changes (question.Get p depth) = false
question_changes (question.List lo hi depth) = false
question_changes (question.Cast origin end ignore) = false
question_changes question.Counts = true
question_changes question.Changes = false

-- whether what does a command may change the map, or names a file
abbrev pub kind_changes : Kind → Bool
kind_changes (Orders order) = true
kind_changes (Asks question) = question_changes question
kind_changes (Names verb name) = true
kind_changes Closes = true
kind_changes Nothing = false
kind_changes (Opens head) = false
kind_changes (Adds p) = false

-- whether a line's command may; a line that isn't in the grammar changes nothing
abbrev pub may_change : Result Command Refusal → Bool
may_change (Ok command) = kind_changes (kind_of command)
may_change (Err refusal) = false

-- how often a line asks the store that names this file, or none
abbrev pub asks_for : Option (List ℕ) → ℕ
asks_for None = 0
asks_for (Some name) = 1

-- what is saved where the reply isn't a refusal
abbrev pub accepted_saving : Option Reply → Option Saving → Option Saving
accepted_saving answer saving = if is_refusal answer then None else saving

-- the files, where they are told, after something was saved, or nothing
abbrev pub stored : Option Files → Option Saving → Option Files
stored files None = files
stored files (Some saving) = saved files saving.name saving.bytes
