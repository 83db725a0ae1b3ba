-- What the tasks over two files of the store write, and how they may end.
use Rattle.std.specs.Prelude.{◌≡◌, ℕ, ◌+◌, ◌++◌, List, [], ◌∷◌, codes, decimal, pos, slice_index_or}
use Rattle.std.specs.Prelude.{Option, Some, None, Result, Ok, Err, ⊤}
use Rattle.std.specs.List.{flat_map}
use Rattle.oct_bt.specs.Classes.{value_for}
use Rattle.oct_bt.specs.DataClasses.{data_classes}
use Rattle.oct_bt.specs.File.{FileRead, bt_text}
use Rattle.oct_file_tasks.specs.Answers.{refusal_line}
use Rattle.oct_io.specs.Files.{Files}
use Rattle.oct_key.specs.Block.{root_block}
use Rattle.oct_key.specs.Boxes.{Window}
use Rattle.oct_key.specs.Values.{Values}
use Rattle.oct_merge.specs.declared.rule.Rule.{Rule}
use Rattle.oct_merge.specs.Merged.{merged}
use Rattle.oct_merge.specs.Pairs.{pair_of, pairs_in}
use Rattle.oct_odds.specs.Odds.{default_odds}
use Rattle.oct_odds.specs.declared.event.Class.{Class}
use Rattle.oct_odds.specs.declared.event.Class.TheVariants.{Unknown, Free, Occupied}
use Rattle.oct_script.specs.Replies.{class_name, reply_text}
use Rattle.oct_script.specs.declared.reply.Refusal.{Refusal}
use Rattle.oct_script.specs.declared.reply.Refusal.TheVariants as refusal
use Rattle.oct_script.specs.declared.reply.Reply.TheVariants as script
use Rattle.oct_io.specs.Answer.{Answer, EndsUnread}
use Rattle.oct_io.specs.declared.status.Status.{Status}
use Rattle.oct_io.specs.declared.status.Status.TheVariants.{Done, Refused}
use Rattle.oct_io.specs.declared.status.Status.TheVariants.{StoreFault}
use Rattle.oct_values.specs.Classes.{classes_of}
use Rattle.oct_file_tasks.specs.Refusals.{box_between, refused}
use Rattle.oct_file_tasks.specs.declared.refusal.Refusal as asked
use Rattle.oct_file_tasks.specs.TwoFiles.{pair_in}
use Rattle.oct_file_tasks.specs.declared.store_task.PairTask.{PairTask}
use Rattle.oct_file_tasks.specs.declared.store_task.PairTask.TheVariants.{Merge, Table}
use Rattle.oct_file_tasks.specs.declared.store_task.StoreTask.{StoreTask}
use Rattle.oct_file_tasks.specs.declared.two_files.NoMap.{NoMap}
use Rattle.oct_file_tasks.specs.declared.two_files.NoMap.TheVariants as none
use Rattle.oct_file_tasks.specs.declared.two_files.NoPair.{NoPair}
use Rattle.oct_file_tasks.specs.declared.two_files.NoPair.TheVariants as no
use Rattle.oct_file_tasks.specs.declared.two_files.Pair.{Pair}

-- ---- refusals

-- the line of a refusal
abbrev pub line_of : Refusal → List ℕ
line_of why = reply_text (script.Refused why)

-- the line of why there is no map
abbrev pub map_line : NoMap → List ℕ
map_line none.Missing = line_of refusal.NoFile
map_line none.TooLarge = line_of refusal.FileTooLarge
map_line (none.Bad fault) = refusal_line fault

-- the line of why there are no two: that of one file says which one it is
abbrev pub pair_line : NoPair → List ℕ
pair_line (no.First reason) = codes "first " ++ map_line reason
pair_line (no.Second reason) = codes "second " ++ map_line reason
pair_line (no.OtherResolution first second) =
    line_of (refusal.OtherResolution (pos second) (pos first))

-- ---- a merged map

-- the value of each voxel in a map from a file, by its class
abbrev pub values_in : FileRead → Values
values_in file k = value_for default_odds (data_classes file.codes k)

-- the value of each voxel in the merged map
abbrev pub merged_values : Rule → Pair → Values
merged_values rule pair k = merged rule (values_in pair.first k) (values_in pair.second k)

-- the canonical file of the merged map
unfoldable pub merged_text : Rule → Pair → List ℕ
merged_text rule pair = bt_text pair.first.res (classes_of default_odds (merged_values rule pair))

-- ---- a table of classes

-- the line of two classes, and of how many voxels have them
abbrev pub table_line : Class → Class → ℕ → List ℕ
table_line first second count =
    class_name first ++ codes " " ++ class_name second ++ codes " " ++ decimal count ++ codes "\n"

-- the classes in the order of a table
abbrev pub classes : List Class
classes = Unknown ∷ Free ∷ Occupied ∷ []

-- how many voxels of a box have these classes in two maps
abbrev pub class_count : Pair → Window → Class → Class → ℕ
class_count pair box first second =
    pairs_in box.lo box.hi (data_classes pair.first.codes) (data_classes pair.second.codes)
    (pair_of first second) root_block

-- nine lines: for each class in the first map one for each class in the second
unfoldable pub table_text : Pair → Window → List ℕ
table_text pair box = flat_map (λ first. flat_map
    (λ second. table_line first second (class_count pair box first second)) classes) classes

-- the three lines of a class in the first map, whose counts begin at a place of this list
abbrev pub table_row : Class → ℕ → List ℕ → List ℕ
table_row first place counts =
    table_line first Unknown (slice_index_or counts place 0)
    ++ table_line first Free (slice_index_or counts (place + 1) 0)
    ++ table_line first Occupied (slice_index_or counts (place + 2) 0)

-- the nine lines of these counts
abbrev pub table_rows : List ℕ → List ℕ
table_rows counts = table_row Unknown 0 counts ++ table_row Free 3 counts
    ++ table_row Occupied 6 counts

-- ---- replies

-- the reply that is a table, or the refusal of its points
abbrev pub table_reply : Pair → Result Window asked.Refusal → Answer
table_reply pair (Ok box) = record { text = table_text pair box; status = Done }
table_reply pair (Err why) = refused why

-- the reply that two maps are given
abbrev pub pair_reply : PairTask → Pair → Answer
pair_reply (Merge rule) pair = record { text = merged_text rule pair; status = Done }
pair_reply (Table lo hi) pair = table_reply pair (box_between pair.first.res lo hi)

-- the reply to what was loaded
abbrev pub found_reply : PairTask → Result Pair NoPair → Answer
found_reply asks (Ok pair) = pair_reply asks pair
found_reply asks (Err reason) = record { text = pair_line reason; status = Refused }

-- the reply of a task over these files
abbrev pub store_reply : StoreTask → Files → Answer
store_reply task files = found_reply task.asks (pair_in files task.first task.second)

-- the same, where the files are told; of others this is a filler that no clause reads
abbrev pub told_reply : StoreTask → Option Files → Answer
told_reply task None = record { text = []; status = StoreFault }
told_reply task (Some files) = store_reply task files

-- ---- the end

-- how a task with this answer may end: as one that reads nothing of its input, and nothing was
-- written where the store failed
abbrev pub EndsByReply : Answer → Option (List ℕ) → Option (List ℕ) → Status → Type 0
EndsByReply whole old new StoreFault = new ≡ old
EndsByReply whole old new status = EndsUnread whole old new status

-- how a task over two files of the store may end
abbrev pub EndsOverStore : StoreTask → Option Files → Option (List ℕ) → Option (List ℕ) → Status
    → Type 0
EndsOverStore task None old new status = ⊤
EndsOverStore task (Some files) old new status =
    EndsByReply (store_reply task files) old new status
