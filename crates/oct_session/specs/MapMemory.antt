-- When the map takes memory for what it is ordered or asked, or for a file that it is to take in.
-- Elsewhere it can't run out of it.
use Rattle.std.specs.Prelude.{◌≡◌, ◌⊎◌, ◌<◌, ℕ, List, [], ◌∷◌, ⊤, Result, Ok, IsOk, is_some, false}
use Rattle.oct_bt.specs.File.{FileRead}
use Rattle.oct_bt.specs.Reading.{KeepsSome, file_progress}
use Rattle.oct_bt.specs.Records.{record_total}
use Rattle.oct_io.specs.declared.store.Loaded.{Loaded}
use Rattle.oct_io.specs.declared.store.Loaded.TheVariants.{Bytes}
use Rattle.oct_key.specs.Voxel.{key_at}
use Rattle.oct_query.specs.Shown.{Shown}
use Rattle.oct_scan.specs.Outcome.{TakesMemory}
use Rattle.oct_map.specs.Answers.{edit_answer, edit_need, box_answer}
use Rattle.oct_map.specs.Edits.{LacksEntries}
use Rattle.oct_map.specs.Lists.{list_answer}
use Rattle.oct_map.specs.Loads.{load_answer}
use Rattle.oct_map.specs.Map.{Map, ground_of, values_of}
use Rattle.oct_map.specs.Notes.{notes_of, LacksNotes}
use Rattle.oct_map.specs.Outcome.{corner_need, corner_volume}
use Rattle.oct_map.specs.Restores.{restore_answer}
use Rattle.oct_map.specs.declared.fault.MapFault.{MapFault}
use Rattle.oct_session.specs.ScanBlock.{is_zero}
use Rattle.oct_session.specs.ScanSoFar.{sighting_so_far}
use Rattle.oct_session.specs.declared.kinds.Order.{Order}
use Rattle.oct_session.specs.declared.kinds.Order.TheVariants as order
use Rattle.oct_session.specs.declared.kinds.Question.{Question}
use Rattle.oct_session.specs.declared.kinds.Question.TheVariants as question
use Rattle.oct_session.specs.declared.scan_block.ScanBlock.{ScanBlock}
use Rattle.oct_session.specs.declared.scan_block.ScanBlock.TheVariants.{Scanning, Spoilt}
use Rattle.oct_snap.specs.Reading.{read_snapshot}

-- an order takes memory: an edit that isn't refused, for which entries or notes are lacking
abbrev pub OrderTakesMemory : Map → Order → Type 0
OrderTakesMemory m (order.Edit p edit lazy) = IsOk (edit_answer (ground_of m) (values_of m) p)
    × (LacksEntries m edit_need ⊎ LacksNotes m.mark 1)
OrderTakesMemory m (order.Box lo hi edit) =
    IsOk (box_answer (ground_of m) (is_some m.mark) (values_of m) lo hi)
    × (LacksEntries m (corner_need (key_at m.tree.res lo) (key_at m.tree.res hi))
    ⊎ LacksNotes m.mark (corner_volume (key_at m.tree.res lo) (key_at m.tree.res hi)))
OrderTakesMemory m _ = ⊥

-- a list was answered that has a block
abbrev pub HasBlocks : Result (List Shown) MapFault → Type 0
HasBlocks (Ok (block ∷ blocks)) = ⊤
HasBlocks _ = ⊥

-- a question does: a list that has a block, and the changes where a voxel is noted
abbrev pub QuestionTakesMemory : Map → Question → Type 0
QuestionTakesMemory m (question.List lo hi depth) =
    HasBlocks (list_answer (ground_of m) m.is_stale (values_of m) lo hi depth)
QuestionTakesMemory m question.Changes = notes_of m.mark ≡ [] → ⊥
QuestionTakesMemory m _ = ⊥

-- a block does whose scan has points and isn't refused for a fault of its own
abbrev pub BlockTakesMemory : Map → ScanBlock → Type 0
BlockTakesMemory m (Scanning scan) = (is_zero scan.head ≡ false)
    × TakesMemory m.tree.res (sighting_so_far scan) m.max_cells
BlockTakesMemory m (Spoilt refusal) = ⊥

-- what was read of a file does that isn't refused and has a record
abbrev pub ReadingTakesMemory : Map → FileRead → Type 0
ReadingTakesMemory m file =
    IsOk (load_answer (ground_of m) file.res (record_total file.codes))
    × (0 < record_total file.codes)

-- what a store has does for a load: a file of which a reader keeps some byte
abbrev pub LoadTakesMemory : Loaded → Type 0
LoadTakesMemory (Bytes bytes) = KeepsSome (file_progress []) bytes
LoadTakesMemory _ = ⊥

-- a snapshot is answered that has a group
abbrev pub HasGroups : Result ℕ MapFault → Type 0
HasGroups (Ok groups) = 0 < groups
HasGroups _ = ⊥

-- a snapshot does that isn't refused and has a group
abbrev pub SnapshotTakesMemory : Map → List ℕ → Type 0
SnapshotTakesMemory m bytes =
    HasGroups (restore_answer (ground_of m) (read_snapshot m.tree.odds bytes))

-- what a store has does for a restore: such a snapshot
abbrev pub RestoreTakesMemory : Map → Loaded → Type 0
RestoreTakesMemory m (Bytes bytes) = SnapshotTakesMemory m bytes
RestoreTakesMemory m _ = ⊥
