-- The frontier: the free voxels beside unknown space.
use Rattle.std.specs.Prelude.{◌≡◌, ◌+◌, ℕ, ◌<◌, ◌≤◌, ◌⊎◌, ◌↔◌, All, Contains, Bool, ◌&&◌, ◌||◌}
use Rattle.std.specs.Prelude.{nat_eq, List, filter}
use Rattle.std.specs.List.{list_any}
use Rattle.std.specs.List.Sorted.{IsStrictlySortedBy}
use Rattle.oct_key.specs.Voxel.{Voxel, IsInMap}
use Rattle.oct_key.specs.Order.{key_cmp, voxels_in_order}
use Rattle.oct_key.specs.Boxes.{IsInBox, is_in_box}
use Rattle.oct_odds.specs.declared.event.Class.TheVariants.{Unknown, Free}
use Rattle.oct_values.specs.Classes.{Classes, is_same_class}
use Rattle.oct_frontier.specs.declared.fault.FrontierFault.{FrontierFault}
use Rattle.oct_frontier.specs.declared.fault.FrontierFault.TheVariants.{TooManyFrontiers, Memory}

-- two numbers differ by one
abbrev pub IsNextTo : ℕ → ℕ → Type 0
IsNextTo m n = (m + 1 ≡ n) ⊎ (n + 1 ≡ m)

-- two voxels are neighbours: they differ by one on one axis, and on the others not at all
abbrev pub AreNeighbours : Voxel → Voxel → Type 0
AreNeighbours j k = (IsNextTo j.x k.x × (j.y ≡ k.y) × (j.z ≡ k.z))
    ⊎ ((j.x ≡ k.x) × IsNextTo j.y k.y × (j.z ≡ k.z))
    ⊎ ((j.x ≡ k.x) × (j.y ≡ k.y) × IsNextTo j.z k.z)

-- a voxel lies at the frontier: it is free, and some neighbour of it in the map is unknown
abbrev pub IsFrontier : Classes → Voxel → Type 0
IsFrontier classes k = (classes k ≡ Free)
    × ((j : Voxel) × IsInMap j × AreNeighbours j k × (classes j ≡ Unknown))

-- whether two numbers differ by one
abbrev pub is_next_to : ℕ → ℕ → Bool
is_next_to m n = nat_eq (m + 1) n || nat_eq (n + 1) m

-- whether two voxels are neighbours
abbrev pub are_neighbours : Voxel → Voxel → Bool
are_neighbours j k = is_next_to j.x k.x && nat_eq j.y k.y && nat_eq j.z k.z
    || nat_eq j.x k.x && is_next_to j.y k.y && nat_eq j.z k.z
    || nat_eq j.x k.x && nat_eq j.y k.y && is_next_to j.z k.z

-- whether a voxel lies at the frontier
unfoldable pub is_frontier : Classes → Voxel → Bool
is_frontier classes k = is_same_class (classes k) Free
    && list_any (λ j. are_neighbours j k && is_same_class (classes j) Unknown) voxels_in_order

-- the voxels between two corners that lie at the frontier, by ascending x, y and z
abbrev pub frontier_between : Classes → Voxel → Voxel → List Voxel
frontier_between classes lo hi =
    filter (λ k. is_in_box lo hi k && is_frontier classes k) voxels_in_order

-- These are the voxels between two corners that lie at the frontier, and no others, by ascending x,
-- y and z.
pub record IsFrontierBetween (classes : Classes) (lo hi : Voxel) (list : List Voxel) : Type 0 where
  pub rise : IsStrictlySortedBy key_cmp list
  pub inside : All IsInMap list
  pub exact : (k : Voxel) → IsInMap k → Contains list k ↔ (IsInBox lo hi k × IsFrontier classes k)

-- why a frontier is refused: it has more voxels than are allowed; or it has some, and no more, and
-- memory ran out
abbrev pub IsRefused : FrontierFault → ℕ → ℕ → Type 0
IsRefused TooManyFrontiers count most = most < count
IsRefused Memory count most = (0 < count) × (count ≤ most)
