-- What a load or a restore answers and does, by the file that it finds, and what a save or a
-- snapshot puts there.
use Rattle.std.specs.Prelude.{ℕ, List, [], ◌∷◌, length, ⊤, Option, Some, None, option_map, Result}
use Rattle.std.specs.Prelude.{Ok, Err}
use Rattle.oct_script.specs.Replies.{file_refusal}
use Rattle.oct_bt.specs.declared.fault.BtFault.{BtFault}
use Rattle.oct_bt.specs.DataClasses.{data_classes}
use Rattle.oct_bt.specs.File.{FileRead, bt_text, reading}
use Rattle.oct_bt.specs.Records.{record_total}
use Rattle.oct_io.specs.Files.{Files}
use Rattle.oct_io.specs.Loaded.{loaded_of}
use Rattle.oct_io.specs.declared.store.Loaded.{Loaded}
use Rattle.oct_io.specs.declared.store.Loaded.TheVariants.{Bytes, Missing, TooLarge}
use Rattle.oct_map.specs.declared.fault.MapFault.{MapFault}
use Rattle.oct_map.specs.Ground.{Ground}
use Rattle.oct_map.specs.Loads.{load_answer}
use Rattle.oct_map.specs.Restores.{restore_answer}
use Rattle.oct_script.specs.declared.reply.Refusal.TheVariants.{NoFile, FileTooLarge}
use Rattle.oct_script.specs.declared.reply.Reply.{Reply}
use Rattle.oct_script.specs.declared.reply.Reply.TheVariants as reply_of
use Rattle.oct_script.specs.declared.reply.Reply.TheVariants.{Refused}
use Rattle.oct_session.specs.History.{History, State, Replaced, Restored}
use Rattle.oct_session.specs.Refusals.{fault_reply}
use Rattle.oct_snap.specs.declared.fault.SnapFault.{SnapFault}
use Rattle.oct_snap.specs.Reading.{Snapshot, read_snapshot}
use Rattle.oct_snap.specs.Texts.{snap_text}
use Rattle.oct_values.specs.Classes.{classes_of}

-- what the store answers to the load of a name, where the files are told
abbrev pub found_in : Option Files → List ℕ → Option Loaded
found_in None name = None
found_in (Some files) name = Some (loaded_of (files name))

-- the reply to the load of a file of this many nodes, by the map's answer
abbrev pub nodes_reply : ℕ → Result ⊤ MapFault → Option Reply
nodes_reply nodes (Ok done) = Some (reply_of.Loaded nodes)
nodes_reply nodes (Err fault) = fault_reply fault

-- the reply to the load of what was read of a file
abbrev pub reading_reply : Ground → Result FileRead BtFault → Option Reply
reading_reply g (Err fault) = option_map Refused (file_refusal fault)
reading_reply g (Ok file) =
    nodes_reply file.nodes (load_answer g file.res (record_total file.codes))

-- the reply to a load, by what the store has; nothing is said where it doesn't tell
abbrev pub load_reply : Ground → Option Loaded → Option Reply
load_reply g None = None
load_reply g (Some Missing) = Some (Refused NoFile)
load_reply g (Some TooLarge) = Some (Refused FileTooLarge)
load_reply g (Some (Bytes bytes)) = reading_reply g (reading bytes)

-- what is done with what was read of a file
abbrev pub reading_action : Result FileRead BtFault → History
reading_action (Err fault) = []
reading_action (Ok file) = Replaced (data_classes file.codes) ∷ []

-- what a load does, by what the store has
abbrev pub load_action : Option Loaded → History
load_action (Some (Bytes bytes)) = reading_action (reading bytes)
load_action _ = []

-- the file of the classes that the voxels have in a state
abbrev pub classes_file : State → List ℕ
classes_file s = bt_text s.base.res (classes_of s.base.odds s.values)

-- the reply to a restore, by the map's answer
abbrev pub groups_reply : Result ℕ MapFault → Option Reply
groups_reply (Ok groups) = Some (reply_of.Restored groups)
groups_reply (Err fault) = fault_reply fault

-- the reply to the restore of what a snapshot was read as
abbrev pub snapshot_reply : Ground → Result Snapshot SnapFault → Option Reply
snapshot_reply g read = groups_reply (restore_answer g read)

-- the reply to a restore, by what the store has; nothing is said where it doesn't tell
abbrev pub restore_reply : Ground → Option Loaded → Option Reply
restore_reply g None = None
restore_reply g (Some Missing) = Some (Refused NoFile)
restore_reply g (Some TooLarge) = Some (Refused FileTooLarge)
restore_reply g (Some (Bytes bytes)) = snapshot_reply g (read_snapshot g.odds bytes)

-- what is done with what a snapshot was read as
abbrev pub snapshot_action : Result Snapshot SnapFault → History
snapshot_action (Err fault) = []
snapshot_action (Ok snapshot) = Restored snapshot ∷ []

-- what a restore does, by what the store has
abbrev pub restore_action : Ground → Option Loaded → History
restore_action g (Some (Bytes bytes)) = snapshot_action (read_snapshot g.odds bytes)
restore_action g _ = []

-- the snapshot of a state: the values of the voxels, with the log-odds and the update box
abbrev pub snapshot_file : State → List ℕ
snapshot_file s = snap_text s.base.res s.base.odds s.base.update_box s.values

-- the reply to a save of these bytes
abbrev pub save_reply : List ℕ → Option Reply
save_reply bytes = Some (reply_of.Saved (length bytes))
