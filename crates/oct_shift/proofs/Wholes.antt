-- The tree of the whole moved map.
use Rattle.std.proofs.Common.{◌≡◌, ℕ, ◌+◌, ◌<◌, ◌≤◌, [], refl, sym, ◌∙◌, ap, subst, arith, None}
use Rattle.std.proofs.Common.{Some}
use Rattle.std.specs.Prelude.{max, Option, Result, Ok, Err}
use Rattle.oct_key.specs.Voxel.{Voxel, IsInMap}
use Rattle.oct_key.specs.Values.{Values, SameValues}
use Rattle.oct_key.specs.Block.{root_block, lowest_voxel}
use Rattle.oct_key.proofs.Blocks.{root_holds, root_in_map}
use Rattle.oct_odds.specs.Update.{Value, IsWithin}
use Rattle.oct_values.specs.Counts.{group_count}
use Rattle.oct_values.proofs.Uniform.{same_group_count, value_of_uniform}
use Rattle.oct_arena.specs.declared.node.Node.{Node}
use Rattle.oct_arena.specs.Entries.{live, spare}
use Rattle.oct_arena.specs.Nodes.{link_of, value_of}
use Rattle.oct_arena.proofs.Entries.{live_spare}
use Rattle.oct_tree.specs.declared.place.Place.TheVariants.{Root}
use Rattle.oct_tree.specs.Tree.{Tree, IsLinked, value_at}
use Rattle.oct_tree.specs.Shape.{IsFresh, IsPruned}
use Rattle.oct_tree.specs.Changes.{IsGrown, IsSameOutside, IsWritten, SetsBlock}
use Rattle.oct_tree.specs.Filled.{IsFilledWith}
use Rattle.oct_tree.proofs.Fillings.{put_filled}
use Rattle.oct_tree.proofs.Paths.{value_within}
use Rattle.oct_tree.proofs.Tidy.{tidy_whole}
use Rattle.oct_shift.specs.declared.shift.Shift.{Shift}
use Rattle.oct_shift.specs.declared.offset.Offset.{Offset}
use Rattle.oct_shift.specs.declared.fault.ShiftFault.{ShiftFault}
use Rattle.oct_shift.specs.declared.fault.ShiftFault.TheVariants.{TooMany, Memory}
use Rattle.oct_shift.specs.Shifted.{source, value_from, shifted}
use Rattle.oct_shift.specs.Moved.{IsMoved}
use Rattle.oct_shift.specs.Moving.{before, groups_in, moved_values}
use Rattle.oct_shift.proofs.Counts.{no_groups_uniform}

-- the offset of the shift gives the same values
pub same_moved : (s : Shift) (o : Offset) (t : Tree)
    → ((k : Voxel) → IsInMap k → source s k ≡ before o k)
    → SameValues (shifted s (value_at t)) (moved_values t o)
same_moved s o t same k inmap = ap (value_from (value_at t)) (same k inmap)

-- which need as many groups as the whole map counts
pub count_moved : (s : Shift) (o : Offset) (t : Tree)
    → ((k : Voxel) → IsInMap k → source s k ≡ before o k)
    → group_count (shifted s (value_at t)) ≡ groups_in (moved_values t o) root_block
unfolding group_count
count_moved s o t same =
    same_group_count (shifted s (value_at t)) (moved_values t o) (same_moved s o t same)

-- its values lie within the bounds
from_within : (t : Tree) → IsLinked t → (from : Option Voxel)
    → IsWithin t.odds (value_from (value_at t) from)
from_within t l None = tt
from_within t l (Some k) = value_within t k l

pub moved_within : (t : Tree) (o : Offset) (k : Voxel) → IsLinked t
    → IsWithin t.odds (moved_values t o k)
moved_within t o k l = from_within t l (before o k)

-- a tree of these values that is the moved map
pub record IsWhole (v : Values) (t u : Tree) : Type 0 where
  pub values : SameValues v (value_at u)
  pub fresh : IsFresh u
  pub pruned : IsPruned u
  pub groups : live u.groups ≡ groups_in v root_block
  pub few : live u.groups + spare u.groups ≤ groups_in v root_block + 1039
  pub none : groups_in v root_block ≡ 0 → spare u.groups ≡ 0
  pub res : u.res ≡ t.res
  pub odds : u.odds ≡ t.odds

-- where it needs groups, it is filled
pub whole_filled : (t r w : Tree) (v : Values) (n : ℕ) → t.groups ≡ [] → IsGrown t r
    → live r.groups ≡ live t.groups → spare r.groups ≤ max (spare t.groups) (n + 1023)
    → n ≡ groups_in v root_block + 16 → 0 < groups_in v root_block → IsLinked w
    → IsFilledWith r w root_block v
    → spare r.groups ≡ spare w.groups + groups_in v root_block → IsWhole v t w
whole_filled t r w v n empty grown same few is some l filled took =
    let tidy = tidy_whole w l filled.tidy in
    let none : live t.groups ≡ 0 = ap live empty in
    let bare : spare t.groups ≡ 0 = ap spare empty in
    let before = live_spare r.groups in
    let after = live_spare w.groups in
    let kept = filled.outside.length in
    let zero_max : spare r.groups ≤ max 0 (n + 1023) =
    subst (λ (m : ℕ). spare r.groups ≤ max m (n + 1023)) bare few in
    let most : spare r.groups ≤ n + 1023 = omega (arith, zero_max) in
    record {
      values = λ k inmap. sym (filled.inside k inmap (root_holds k inmap));
      fresh = tidy.fresh;
      pruned = tidy.pruned;
      groups = omega (arith, none, same, before, after, kept, took);
      few = omega (arith, none, same, before, after, kept, most, is);
      none = λ zero. absurd (omega (arith, zero, some));
      res = filled.outside.res ∙ grown.res;
      odds = filled.outside.odds ∙ grown.odds;
    }

-- and where it needs none, it is one node
pub whole_plain : (t w : Tree) (v : Values) (n : Node) (value : Value) → t.groups ≡ [] → IsLinked t
    → IsLinked w → link_of n ≡ None → value_of n ≡ value → value ≡ v (lowest_voxel root_block)
    → groups_in v root_block ≡ 0 → SetsBlock (value_at t) (value_at w) root_block (value_of n)
    → IsSameOutside t w root_block → IsWritten t w Root n → IsWhole v t w
whole_plain t w v n value empty l lw plain gives lowest zero sets outside written =
    let filled = put_filled t w Root n root_block (value_of n) l lw tt refl plain sets outside
    written in
    let tidy = tidy_whole w lw filled.tidy in
    let none : live t.groups ≡ 0 = ap live empty in
    let bare : spare t.groups ≡ 0 = ap spare empty in
    let before = live_spare t.groups in
    let after = live_spare w.groups in
    let kept = written.length in
    let room = written.spare in
    record {
      values = λ k inmap.
          value_of_uniform v root_block k root_in_map
          (no_groups_uniform v root_block root_in_map zero) (root_holds k inmap)
          ∙ sym lowest ∙ sym gives ∙ sym (filled.inside k inmap (root_holds k inmap));
      fresh = tidy.fresh;
      pruned = tidy.pruned;
      groups = omega (arith, none, bare, before, after, kept, room, zero);
      few = omega (arith, none, bare, before, after, kept, room);
      none = λ _. omega (arith, bare, room);
      res = written.res;
      odds = written.odds;
    }

pub whole_moved : (s : Shift) (o : Offset) (t m u : Tree)
    → ((k : Voxel) → IsInMap k → source s k ≡ before o k) → m.res ≡ t.res → m.odds ≡ t.odds
    → IsWhole (moved_values t o) m u → IsMoved s t u
whole_moved s o t m u same res odds w =
    let count = count_moved s o t same in
    let groups = w.groups in
    let few = w.few in
    record {
      values = λ k inmap. same_moved s o t same k inmap ∙ w.values k inmap;
      fresh = w.fresh;
      pruned = w.pruned;
      groups = omega (arith, count, groups);
      few = omega (arith, count, few);
      none = λ zero. w.none (omega (arith, count, zero));
      res = w.res ∙ res;
      odds = w.odds ∙ odds;
    }

-- a refusal tells one number
groups_told : Result Tree ShiftFault → ℕ
groups_told (Ok t) = 0
groups_told (Err (TooMany n)) = n
groups_told (Err Memory) = 0

pub same_many : (n m : ℕ)
    → ◌≡◌ {A = Result Tree ShiftFault} (Err (TooMany n)) (Err (TooMany m)) → n ≡ m
unfolding groups_told
same_many n m e = ap groups_told e
