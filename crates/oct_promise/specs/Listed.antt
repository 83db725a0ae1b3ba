-- What `list` and `counts` show of a state, by its voxels alone, and which commands only ask.
use Rattle.std.specs.Prelude.{◌≡◌, ◌≢◌, ◌+◌, ◌≤◌, ◌↔◌, ℕ, ℤ, List, map, length, Option, Some, ⊤}
use Rattle.std.specs.List.{AllPairs, Contains}
use Rattle.std.specs.List.Sorted.{IsStrictlySortedBy}
use Rattle.oct_io.specs.Files.{Files}
use Rattle.oct_key.specs.Block.{Cube, IsBlock}
use Rattle.oct_key.specs.Boxes.{MeetsBox}
use Rattle.oct_key.specs.Order.{block_cmp}
use Rattle.oct_key.specs.Values.{Values}
use Rattle.oct_key.specs.Voxel.{Voxel}
use Rattle.oct_key.specs.declared.point.Point.{Point}
use Rattle.oct_query.specs.Leaves.{IsLeafList}
use Rattle.oct_query.specs.Shown.{Shown}
use Rattle.oct_script.specs.Lines.{Line}
use Rattle.oct_script.specs.declared.command.Command.{Command}
use Rattle.oct_script.specs.declared.command.Command.TheVariants as command
use Rattle.oct_script.specs.declared.reply.Reply.TheVariants.{Blocks, Counted}
use Rattle.oct_session.specs.Setup.{Setup}
use Rattle.oct_values.specs.Depths.{IsLargestIn}
use Rattle.oct_values.specs.Uniform.{IsUniform}
use Rattle.oct_promise.specs.Edits.{AreCorners}
use Rattle.oct_promise.specs.Lines.{state_behind, Replies}

-- these are the blocks of the depth that meet the box and hold a known voxel, each with the
-- greatest value of one, by ascending x, then y, then z, so that none comes twice
pub record AreListed (values : Values) (lo hi : Voxel) (depth : ℕ) (list : List Shown) : Type 0
  where
    pub order : IsStrictlySortedBy block_cmp (map (λ (s : Shown). s.block) list)
    pub blocks : (s : Shown) → Contains list s
        ↔ (IsBlock s.block × (s.block.depth ≡ depth) × MeetsBox lo hi s.block
        × IsLargestIn values s.block (Some s.value))

-- a list of blocks is that of the box whose corners hold its two points, and names occupied what
-- the log-odds in force do
pub record ListsBlocks (o : Setup) (files : Option Files) (bytes : List ℕ) (before : List Line)
    (from to : Point) (depth : ℕ) (list : List Shown) (threshold : ℤ) : Type 0 where
  pub told : Replies o files bytes before (Blocks list threshold)
  pub class : threshold ≡ (state_behind o files before).base.odds.thr
  pub lo : Voxel
  pub hi : Voxel
  pub corners : AreCorners (state_behind o files before) from to lo hi
  pub shown : AreListed (state_behind o files before).values lo hi depth list

-- These are the least numbers of groups and nodes that a tree of the values can have: a group for
-- each block above a voxel whose voxels aren't of one value, where unknown counts as one, and a
-- node for each group and for each leaf, the greatest blocks of known voxels that are of one value.
pub record AreCounted (values : Values) (groups nodes : ℕ) : Type 0 where
  pub varied : List Cube
  pub varied_once : AllPairs (λ b c. b ≢ c) varied
  pub varied_are : (b : Cube) → Contains varied b
      ↔ (IsBlock b × (b.depth ≤ 15) × ¬ IsUniform values b)
  pub leaves : List Shown
  pub leaves_are : IsLeafList values leaves
  pub groups_are : groups ≡ length varied
  pub nodes_are : nodes ≡ length varied + length leaves

-- `counts` answers with these
pub record CountsNeeded (o : Setup) (files : Option Files) (bytes : List ℕ) (before : List Line)
    : Type 0 where
  pub groups : ℕ
  pub nodes : ℕ
  pub told : Replies o files bytes before (Counted (record { groups = groups; nodes = nodes }))
  pub needed : AreCounted (state_behind o files before).values groups nodes

-- a command that asks for something, and changes nothing
abbrev pub IsQuestion : Command → Type 0
IsQuestion (command.Get p depth) = ⊤
IsQuestion (command.List from to depth) = ⊤
IsQuestion (command.Cast from to ignore) = ⊤
IsQuestion command.Changes = ⊤
IsQuestion _ = ⊥
