-- The texts of tasks over two files: that none is empty, and that nine lines are the table.
use Rattle.std.proofs.Common.{◌≡◌, ℕ, ◌<◌, List, [], ◌++◌, length, Result, Ok, Err, sym, ◌∙◌, ap}
use Rattle.std.proofs.Common.{append_assoc, append-nil, zero-lt-suc}
use Rattle.oct_bt.specs.File.{bt_text, header_text, text_of_lines}
use Rattle.oct_key.specs.Boxes.{Window}
use Rattle.oct_odds.specs.declared.event.Class.{Class}
use Rattle.oct_odds.specs.declared.event.Class.TheVariants.{Unknown, Free, Occupied}
use Rattle.oct_merge.specs.declared.rule.Rule.{Rule}
use Rattle.oct_merge.specs.Pairs.{pair_counts}
use Rattle.oct_bt.specs.DataClasses.{data_classes}
use Rattle.oct_file_tasks.specs.OverStore.{merged_text, table_text, table_line, table_rows}
use Rattle.oct_file_tasks.specs.OverStore.{class_count, pair_line, table_reply, found_reply}
use Rattle.oct_file_tasks.specs.Refusals.{box_between, refused}
use Rattle.oct_file_tasks.specs.declared.refusal.Refusal.{Refusal}
use Rattle.oct_file_tasks.specs.declared.store_task.PairTask.{PairTask}
use Rattle.oct_file_tasks.specs.declared.store_task.PairTask.TheVariants.{Merge, Table}
use Rattle.oct_file_tasks.specs.declared.two_files.NoPair.{NoPair}
use Rattle.oct_file_tasks.specs.declared.two_files.NoPair.TheVariants as no
use Rattle.oct_file_tasks.specs.declared.two_files.Pair.{Pair}

-- ---- no text is empty

pub some_merged : (rule : Rule) (pair : Pair) → 0 < length (merged_text rule pair)
unfolding merged_text bt_text header_text text_of_lines
some_merged rule pair = zero-lt-suc _

pub some_table : (pair : Pair) (box : Window) → 0 < length (table_text pair box)
unfolding table_text
some_table pair box = zero-lt-suc _

pub some_line : (reason : NoPair) → 0 < length (pair_line reason)
some_line (no.First reason) = zero-lt-suc _
some_line (no.Second reason) = zero-lt-suc _
some_line (no.OtherResolution first second) = zero-lt-suc _

pub some_refusal : (why : Refusal) → 0 < length (refused why).text
some_refusal why = zero-lt-suc _

some_table_reply : (pair : Pair) (box : Result Window Refusal)
    → 0 < length (table_reply pair box).text
some_table_reply pair (Ok box) = some_table pair box
some_table_reply pair (Err why) = some_refusal why

pub some_reply : (asks : PairTask) (found : Result Pair NoPair)
    → 0 < length (found_reply asks found).text
some_reply asks (Err reason) = some_line reason
some_reply (Merge rule) (Ok pair) = some_merged rule pair
some_reply (Table lo hi) (Ok pair) = some_table_reply pair (box_between pair.first.res lo hi)

-- ---- nine lines

-- three texts one after another, as a list of them has them
three_joined : (a b c : List ℕ) → a ++ b ++ c ≡ a ++ (b ++ (c ++ []))
three_joined a b c = append_assoc a b c ∙ ap (λ l. a ++ (b ++ l)) (sym (append-nil c))

-- and thrice three
nine_joined : (a b c d e f g h i : List ℕ) → (a ++ b ++ c) ++ (d ++ e ++ f) ++ (g ++ h ++ i)
    ≡ (a ++ (b ++ (c ++ []))) ++ ((d ++ (e ++ (f ++ []))) ++ ((g ++ (h ++ (i ++ []))) ++ []))
nine_joined a b c d e f g h i =
    three_joined (a ++ b ++ c) (d ++ e ++ f) (g ++ h ++ i)
    ∙ ap (λ l. l ++ ((d ++ e ++ f) ++ ((g ++ h ++ i) ++ []))) (three_joined a b c)
    ∙ ap (λ l. (a ++ (b ++ (c ++ []))) ++ (l ++ ((g ++ h ++ i) ++ []))) (three_joined d e f)
    ∙ ap (λ l. (a ++ (b ++ (c ++ []))) ++ ((d ++ (e ++ (f ++ []))) ++ (l ++ [])))
    (three_joined g h i)

-- the nine lines of the counts are the table
pub rows_are_table : (pair : Pair) (box : Window)
    → table_rows (pair_counts box.lo box.hi (data_classes pair.first.codes)
    (data_classes pair.second.codes)) ≡ table_text pair box
unfolding table_text pair_counts
rows_are_table pair box =
    nine_joined (line Unknown Unknown) (line Unknown Free) (line Unknown Occupied)
    (line Free Unknown) (line Free Free) (line Free Occupied)
    (line Occupied Unknown) (line Occupied Free) (line Occupied Occupied)
  where
    line : Class → Class → List ℕ
    line a b = table_line a b (class_count pair box a b)
