-- The files that a map is saved as.
use Rattle.std.specs.Prelude.{ℕ, List}
use Rattle.oct_bt.specs.File.{bt_text}
use Rattle.oct_snap.specs.Texts.{snap_text}
use Rattle.oct_tree.specs.Classes.{classes_in}
use Rattle.oct_map.specs.Map.{Map, values_of}

-- the binary file of a map's classes
abbrev pub file_of : Map → List ℕ
file_of m = bt_text m.tree.res (classes_in m.tree)

-- the snapshot of a map's values, with its log-odds and its box
abbrev pub snapshot_of : Map → List ℕ
snapshot_of m = snap_text m.tree.res m.tree.odds m.update_box (values_of m)
