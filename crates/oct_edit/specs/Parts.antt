-- How the update of a whole scan goes down the tree: the working words of its proof.
use Rattle.std.specs.Prelude.{◌≡◌, ℕ, ◌-◌, ◌≤◌, ◌⊎◌, true, List, [], count_by}
use Rattle.std.specs.List.{All}
use Rattle.std.specs.List.Sorted.{IsNonDecreasingBy}
use Rattle.oct_key.specs.Voxel.{Voxel, IsInMap}
use Rattle.oct_key.specs.Block.{Cube, HoldsVoxel, child_index_of}
use Rattle.oct_key.specs.Morton.{morton_of, code_prefix}
use Rattle.oct_odds.specs.Odds.{Odds}
use Rattle.oct_odds.specs.Update.{Value}
use Rattle.oct_values.specs.Blocks.{blocks_below}
use Rattle.oct_values.specs.Events.{Events, is_listed}
use Rattle.oct_values.specs.Needs.{is_reached}
use Rattle.oct_edit.specs.Listed.{ListedUpdate}
use Rattle.oct_edit.specs.Saturated.{IsSaturated}
use Rattle.oct_edit.specs.Steps.{Reaches}
use Rattle.oct_edit.specs.Scan.{events_of, AreDisjoint}

-- keys whose voxels lie in a block, if they are voxels of the map, and whose codes begin alike, in
-- the order of the codes
pub record AreIn (b : Cube) (keys : List Voxel) : Type 0 where
  pub held : All (λ k. IsInMap k → HoldsVoxel b k) keys
  pub prefix : ℕ
  pub alike : All (λ k. code_prefix b.depth (morton_of k) ≡ prefix) keys
  pub rise : IsNonDecreasingBy morton_of keys

-- an update of voxels of a block, and of one at least
pub record IsUpdateIn (b : Cube) (update : ListedUpdate) : Type 0 where
  pub hits : AreIn b update.hits
  pub frees : AreIn b update.frees
  pub apart : AreDisjoint update.hits update.frees
  pub some : Reaches (events_of update) b b

-- how many blocks of depth 0 to 15 there are in a block, itself among them, that events reach
abbrev pub need_in : Events → Cube → ℕ
need_in events b = count_by (is_reached events) (blocks_below (16 - b.depth) b)

-- a value takes nothing from the events of an update that are there
abbrev pub IsAtRest : Odds → ListedUpdate → Value → Type 0
IsAtRest odds update value = ((update.hits ≡ []) ⊎ IsSaturated odds update.hit value)
    × ((update.frees ≡ []) ⊎ IsSaturated odds update.miss value)

-- the first child of the block of this depth with a voxel of the lists
pub record IsFirstChild (depth : ℕ) (hits frees : List Voxel) (i : ℕ) : Type 0 where
  pub few : i ≤ 7
  pub least_hit : All (λ k. i ≤ child_index_of depth k) hits
  pub least_free : All (λ k. i ≤ child_index_of depth k) frees
  pub voxel : Voxel
  pub in_map : IsInMap voxel
  pub there : child_index_of depth voxel ≡ i
  pub listed : (is_listed hits voxel ≡ true) ⊎ (is_listed frees voxel ≡ true)
