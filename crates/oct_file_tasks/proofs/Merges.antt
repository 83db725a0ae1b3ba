-- The merged map of two files, and the table of their classes.
use Rattle.std.proofs.Common.{◌≡◌, ℕ, ◌≤◌, ◌^◌, List, ◌++◌, length}
use Rattle.std.proofs.Common.{Ok, Err, inl, inr, sym, ◌∙◌, ap}
use Rattle.std.proofs.Common.{le_trans}
use Rattle.std.specs.Prelude.{◌⊎◌}
use Rattle.oct_file_tasks.proofs.Canonicals.{same_text}
use Rattle.oct_key.specs.Voxel.{Voxel, IsInMap}
use Rattle.oct_key.specs.Boxes.{Window}
use Rattle.oct_odds.specs.Odds.{Odds, default_odds}
use Rattle.oct_tree.specs.Changes.{IsGrown}
use Rattle.oct_tree.specs.Tree.{Tree, value_at}
use Rattle.oct_values.specs.Classes.{Classes, classes_of}
use Rattle.oct_merge.specs.declared.rule.Rule.{Rule}
use Rattle.oct_join.specs.Merged.{merged_classes}
use Rattle.oct_join.proofs.Classes.{class_merged}
use Rattle.oct_merge.specs.Pairs.{pair_counts}
use Rattle.oct_bt.specs.Canonical.{canonical_data, canonical_size}
use Rattle.oct_bt.specs.Classes.{value_for}
use Rattle.oct_bt.specs.DataClasses.{data_classes}
use Rattle.oct_bt.specs.File.{FileRead, bt_text, file_text, header_text, reading}
use Rattle.oct_bt.specs.declared.fault.BtFault.TheVariants as fault
use Rattle.oct_bt.proofs.Short.{reading_short}
use Rattle.oct_bt.specs.NodeData.{IsAccepted, IsDataOf}
use Rattle.oct_bt.proofs.DataClassed.{data_classed}
use Rattle.oct_bt.proofs.Injective.{same_data}
use Rattle.oct_file_tasks.specs.OverStore.{merged_values, merged_text, values_in, table_rows}
use Rattle.oct_file_tasks.specs.OverStore.{table_text}
use Rattle.oct_file_tasks.proofs.PairTexts.{rows_are_table}
use Rattle.oct_file_tasks.specs.TwoFiles.{IsFit}
use Rattle.oct_file_tasks.specs.declared.two_files.Pair.{Pair}

-- a file that was read of few bytes is small
pub fit_file : (file : FileRead) (bytes : List ℕ)
    → (Ok file ≡ reading bytes) ⊎ (Ok file ≡ Err fault.Memory) → length bytes ≤ 2 ^ 30
    → IsAccepted file.nodes file.codes → IsFit file
fit_file file bytes (inl is) few accepted =
    record { accepted = accepted; few = le_trans (reading_short bytes file (sym is)) few }
fit_file file bytes (inr none) few accepted = absurd (cc)

-- a tree that was filled has the values of the file's classes
pub filled_values : (s t u : Tree) (file : FileRead) → s.odds ≡ default_odds → IsGrown s t
    → IsAccepted file.nodes file.codes
    → ((classes : Classes) → IsDataOf classes file.codes → (k : Voxel) → IsInMap k
    → value_at u k ≡ value_for t.odds (classes k))
    → (k : Voxel) → IsInMap k → value_at u k ≡ values_in file k
filled_values s t u file odds grown accepted values k in_map =
    values (data_classes file.codes) (data_classed file.nodes file.codes accepted) k in_map
    ∙ ap (λ (o : Odds). value_for o (data_classes file.codes k)) (grown.odds ∙ odds)

-- ---- the file

-- the file of the joined records is that of the merged values
pub joined_file : (rule : Rule) (pair : Pair) (file : FileRead) → file.res ≡ pair.first.res
    → file.codes ≡ canonical_data (merged_classes rule (data_classes pair.first.codes)
    (data_classes pair.second.codes))
    → file.nodes ≡ canonical_size (merged_classes rule (data_classes pair.first.codes)
    (data_classes pair.second.codes))
    → file_text file ≡ merged_text rule pair
unfolding merged_text bt_text
joined_file rule pair file res codes nodes =
    let classes : Classes = merged_classes rule (data_classes pair.first.codes)
    (data_classes pair.second.codes) in
    ap (λ (n : ℕ). header_text n file.res ++ file.codes) nodes
    ∙ ap (λ (r : ℕ). header_text (canonical_size classes) r ++ file.codes) res
    ∙ ap (λ (t : List ℕ). header_text (canonical_size classes) pair.first.res ++ t) codes
    ∙ same_text pair.first.res classes (classes_of default_odds (merged_values rule pair))
    (same_data classes (classes_of default_odds (merged_values rule pair))
    (λ k in_map. sym (class_merged rule (data_classes pair.first.codes k)
    (data_classes pair.second.codes k))))

-- ---- the table

-- the lines of what is counted of two files
pub rows_told : (pair : Pair) (box : Window) (lo hi : Voxel) (counts : List ℕ)
    → counts ≡ pair_counts lo hi (data_classes pair.first.codes) (data_classes pair.second.codes)
    → lo ≡ box.lo → hi ≡ box.hi → table_rows counts ≡ table_text pair box
rows_told pair box lo hi counts exact at_lo at_hi =
    ap table_rows (exact
    ∙ ap (λ (l : Voxel). pair_counts l hi (data_classes pair.first.codes)
    (data_classes pair.second.codes)) at_lo
    ∙ ap (λ (h : Voxel). pair_counts box.lo h (data_classes pair.first.codes)
    (data_classes pair.second.codes)) at_hi)
    ∙ rows_are_table pair box
