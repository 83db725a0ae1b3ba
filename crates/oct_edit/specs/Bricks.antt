-- How bricks go down the tree: the working words of their proof, and what an update of bricks
-- stands for.
use Rattle.std.specs.Prelude.{◌≡◌, ℕ, ◌+◌, ◌-◌, ◌*◌, ◌/◌, ◌%◌, ◌^◌, ◌≤◌, ◌==◌, if◌then◌else◌}
use Rattle.std.specs.Prelude.{bit_and, Bool, List, [], ◌∷◌, take, drop, ℤ, Some, None, IsSome}
use Rattle.std.specs.List.{All, Contains}
use Rattle.oct_key.specs.Voxel.{Voxel, IsInMap}
use Rattle.oct_key.specs.Block.{Cube, HoldsVoxel}
use Rattle.oct_odds.specs.declared.event.Event.{Event}
use Rattle.oct_odds.specs.declared.event.Event.TheVariants.{Add}
use Rattle.oct_odds.specs.Update.{IsSmallEvent, IsWithin, applied}
use Rattle.oct_arena.specs.declared.node.Node.TheVariants.{Absent}
use Rattle.oct_arena.specs.Entries.{spare}
use Rattle.oct_tree.specs.declared.place.Place.{Place}
use Rattle.oct_tree.specs.Tree.{Tree, IsLinked, IsPlace, node_in, block_in}
use Rattle.oct_brick.specs.Bricks.{IsBrick}
use Rattle.oct_brick.specs.declared.brick.Brick.{Brick}
use Rattle.oct_edit.specs.declared.scan.ScanUpdate.{ScanUpdate}
use Rattle.oct_edit.specs.declared.scan.BrickUpdate.{BrickUpdate}
use Rattle.oct_edit.specs.Listed.{ListedUpdate, update_of}
use Rattle.oct_edit.specs.Steps.{IsTouched}
use Rattle.oct_edit.specs.Scan.{events_of}
use Rattle.oct_edit.specs.Parts.{IsUpdateIn, need_in}

-- the voxels and events of an update
abbrev pub listed : ScanUpdate → ListedUpdate
listed update = update_of update.bricks.now (Add update.hit) (Add update.miss)

-- those of the update of one brick
abbrev pub listed_one : BrickUpdate → ListedUpdate
listed_one update = update_of (update.brick ∷ []) update.hit update.miss

-- the event of the voxel whose bit this is
abbrev pub event_of_bit : BrickUpdate → ℕ → Event
event_of_bit update bit = if bit_and update.brick.hits bit == 0 then update.miss else update.hit

-- which child of the block of a depth, 13 at most, holds the brick of a code
abbrev pub brick_child : ℕ → ℕ → ℕ
brick_child depth code = code / 2 ^ (3 * (13 - depth)) % 8

-- the codes of bricks begin alike, down to a depth
abbrev pub AreAlike : ℕ → List Brick → Type 0
AreAlike depth bricks = (prefix : ℕ) × All (λ b. b.code / 2 ^ (3 * (14 - depth)) ≡ prefix) bricks

-- bricks are cut in two: those in the children up to one of the block of this depth, and those in
-- later ones
pub record AreCut (depth i : ℕ) (bricks part later : List Brick) : Type 0 where
  pub count : ℕ
  pub first : part ≡ take count bricks
  pub last : later ≡ drop count bricks
  pub here : All (λ b. brick_child depth b.code ≤ i) part
  pub after : All (λ b. i + 1 ≤ brick_child depth b.code) later

-- the first child of the block of this depth with a brick of the list
pub record IsFirstBrick (depth : ℕ) (bricks : List Brick) (i : ℕ) : Type 0 where
  pub least : All (λ b. i ≤ brick_child depth b.code) bricks
  pub brick : Brick
  pub there : Contains bricks brick
  pub child : brick_child depth brick.code ≡ i

-- the update of a brick can be applied to the block of a place, which has this depth: its voxels
-- lie there, and there is room for the groups that they need
pub record CanApply (t : Tree) (p : Place) (level : ℕ) (update : BrickUpdate) : Type 0 where
  pub linked : IsLinked t
  pub place : IsPlace t p
  pub depth : (b : Cube) → block_in t p ≡ Some b → b.depth ≡ level
  pub brick : IsBrick update.brick
  pub inside : (b : Cube) → block_in t p ≡ Some b → IsUpdateIn b (listed_one update)
  pub room : (b : Cube) → block_in t p ≡ Some b
      → need_in (events_of (listed_one update)) b ≤ spare t.groups
  pub hit : IsSmallEvent update.hit
  pub miss : IsSmallEvent update.miss

-- it was applied there, and made no more groups than it needs
pub record IsApplied (t u : Tree) (p : Place) (update : BrickUpdate) (lazy : Bool) : Type 0 where
  pub touched : (b : Cube) → block_in t p ≡ Some b
      → IsTouched t u b (events_of (listed_one update)) lazy
  pub room : (b : Cube) → block_in t p ≡ Some b
      → spare t.groups ≤ spare u.groups + need_in (events_of (listed_one update)) b

-- the part of a brick whose voxels' bits are set in a mask
pub record IsMasked (whole : Brick) (mask : ℕ) (part : Brick) : Type 0 where
  pub code : part.code ≡ whole.code
  pub scanned : part.scanned ≡ bit_and whole.scanned mask
  pub hits : part.hits ≡ bit_and whole.hits mask

-- the part of a brick's update within a mask, by the same events
pub record IsPart (whole part : BrickUpdate) (mask : ℕ) : Type 0 where
  pub brick : IsMasked whole.brick mask part.brick
  pub hit : part.hit ≡ whole.hit
  pub miss : part.miss ≡ whole.miss

-- some voxel of a block has no event of an update
abbrev pub HasGap : Cube → ListedUpdate → Type 0
HasGap b update = (k : Voxel) × IsInMap k × HoldsVoxel b k × (events_of update k ≡ None)

-- each voxel of a block has an event of an update
abbrev pub FillsBlock : Cube → ListedUpdate → Type 0
FillsBlock b update = (k : Voxel) → IsInMap k → HoldsVoxel b k → IsSome (events_of update k)

-- nothing is known at a place, none of the voxels of a brick's update is hit, and those that are
-- freed come to have this value
pub record IsPlain (t : Tree) (p : Place) (update : BrickUpdate) (m : ℤ) : Type 0 where
  pub absent : node_in t p ≡ Absent
  pub freed : update.brick.hits ≡ 0
  pub value : Some m ≡ applied t.odds update.miss None
  pub within : IsWithin t.odds (Some m)
