-- What forgetting all that lies outside of a box makes of a map.
use Rattle.std.specs.Prelude.{◌≡◌, ℕ, ◌+◌, nat_lt, Bool, false, ◌&&◌, ◌⊎◌, ⊤, Option, is_some}
use Rattle.std.specs.Prelude.{IsSome, Result, Ok, Err, IsOk, OnOk, IfOk, IfErr, count_by}
use Rattle.std.specs.Prelude.{if◌then◌else◌}
use Rattle.oct_key.specs.Boxes.{Window}
use Rattle.oct_key.specs.Voxel.{Voxel, IsInMap}
use Rattle.oct_key.specs.Block.{Cube, lowest_voxel}
use Rattle.oct_key.specs.Values.{Values}
use Rattle.oct_values.specs.Blocks.{blocks_above_voxels}
use Rattle.oct_values.specs.Boxes.{is_cut_by}
use Rattle.oct_values.specs.Counts.{is_uniform}
use Rattle.oct_arena.specs.Entries.{live}
use Rattle.oct_tree.specs.Shape.{IsPruned}
use Rattle.oct_edit.specs.Edits.{IsTidyAlong}
use Rattle.oct_edit.specs.Keep.{keep_events, keep_need}
use Rattle.oct_inner.specs.Changes.{IsShrunk}
use Rattle.oct_map.specs.declared.fault.MapFault.{MapFault}
use Rattle.oct_map.specs.declared.fault.MapFault.TheVariants.{Memory, WideWhileTracked}
use Rattle.oct_map.specs.Map.{Map, IsMap, HasRoomFor, ground_of, values_of}
use Rattle.oct_map.specs.Answers.{IsAnswerOrMemory, room_answer}
use Rattle.oct_map.specs.Edits.{IsMapEdited, IsMapRefused, KeepsAllElse, LacksEntries}
use Rattle.oct_map.specs.Edits.{ReservesFew}
use Rattle.oct_map.specs.Marks.{KeepsMark}
use Rattle.oct_map.specs.Merges.{IsKnownBox, given_events, given_volume, note_answer, then_answer}
use Rattle.oct_map.specs.Notes.{LacksNotes, NotesFew}

-- whether all voxels of a block are known, with one value
abbrev pub is_known_as_one : Values → Cube → Bool
is_known_as_one v b = is_uniform v b && is_some (v (lowest_voxel b))

-- the groups that values need to be parted at a box: one for each block of depth 0 to 15 that the
-- box cuts, and that is known with one value
unfoldable pub parted_need : Values → Voxel → Voxel → ℕ
parted_need v lo hi = count_by (λ b. is_cut_by lo hi b && is_known_as_one v b) blocks_above_voxels

-- The groups that a map takes for it: those of its tree as it stands, where there is room for them.
-- Else it is pruned first, and takes those that its values need.
abbrev pub kept_need : Map → Voxel → Voxel → ℕ
kept_need m lo hi =
    if nat_lt m.max_groups (live m.tree.groups + keep_need m.tree lo hi)
    then parted_need (values_of m) lo hi else keep_need m.tree lo hi

-- The answer, by whether a mark stands, by the least box around what the map knows, and by its
-- values: too many voxels to be noted, too many groups, or done.
abbrev pub keep_answer : Bool → Option Window → ℕ → Values → Voxel → Voxel → Result ⊤ MapFault
keep_answer has_mark extent max_groups v lo hi =
    then_answer (note_answer has_mark extent) (room_answer max_groups v (parted_need v lo hi))

-- What keeping the box of two corners alone makes of a map. Each voxel in the box has the value
-- that it had, and all others are unknown. Where it is refused, each value stays.
pub record IsKept (m n : Map) (lo hi : Voxel) (done : Result ⊤ MapFault) : Type 0 where
  pub answer : (extent : Option Window) → IsKnownBox m extent → IsAnswerOrMemory
      (keep_answer (is_some m.mark) extent m.max_groups (values_of m) lo hi) done
  pub memory : done ≡ Err Memory
      → IsOk (room_answer m.max_groups (values_of m) (parted_need (values_of m) lo hi))
      × (LacksEntries m (kept_need m lo hi)
      ⊎ ((extent : Option Window) → IsKnownBox m extent
      → LacksNotes m.mark (given_volume extent)))
  pub narrow : done ≡ Err Memory → (extent : Option Window) → IsKnownBox m extent
      → IsOk (note_answer (is_some m.mark) extent)
  pub edited : OnOk done (IsMapEdited m n (keep_events lo hi) (kept_need m lo hi) false)
  pub path : OnOk done ((k : Voxel) → IsInMap k → IsSome (keep_events lo hi k)
      → IsTidyAlong n.tree k)
  pub refused : IfErr done (λ fault. IsMapRefused m n fault (kept_need m lo hi))
  pub wide : (count : ℕ) → done ≡ Err (WideWhileTracked count) → n ≡ m
  pub reserved : ReservesFew m n (kept_need m lo hi)
  pub mark : KeepsMark m n
  pub noted : (extent : Option Window) → IsKnownBox m extent
      → NotesFew m.mark n.mark (given_events extent) (given_volume extent)
  pub setup : ground_of n ≡ ground_of m
  pub map : IsMap n

-- working word: what fitting a map to that leaves of it, with the groups that it takes then
pub record IsFittedToKeep (m u : Map) (lo hi : Voxel) (fits : Result ℕ MapFault) : Type 0 where
  pub done : IfOk fits (λ need. (need ≡ keep_need u.tree lo hi)
      × (need ≡ kept_need m lo hi) × HasRoomFor u need
      × (room_answer m.max_groups (values_of m) (parted_need (values_of m) lo hi) ≡ Ok tt))
  pub full : IfErr fits (λ fault. IsPruned u.tree
      × (room_answer m.max_groups (values_of m) (parted_need (values_of m) lo hi) ≡ Err fault))
  pub own : HasRoomFor m (kept_need m lo hi) → u ≡ m
  pub pruned : (HasRoomFor m (kept_need m lo hi) → ⊥) → IsPruned u.tree
  pub shrunk : IsShrunk m.tree u.tree
  pub keeps : KeepsAllElse m u
  pub map : IsMap u
