-- What a column of voxels shows to someone who looks along z.
use Rattle.std.specs.Prelude.{ℕ, ◌+◌, ◌-◌, Bool, List, if◌then◌else◌}
use Rattle.std.specs.List.{list_any}
use Rattle.oct_key.specs.Order.{numbers_from}
use Rattle.oct_odds.specs.declared.event.Class.{Class}
use Rattle.oct_odds.specs.declared.event.Class.TheVariants.{Unknown, Free, Occupied}
use Rattle.oct_values.specs.Classes.{Classes, is_same_class}

-- the numbers from the first to the last, both included
abbrev pub numbers_to : ℕ → ℕ → List ℕ
numbers_to first last = numbers_from first (last + 1 - first)

-- whether some voxel of a column, with one of these numbers on z, is of a class
abbrev pub has_class : Classes → Class → ℕ → ℕ → List ℕ → Bool
has_class classes class x y zs =
    list_any (λ z. is_same_class (classes (record { x = x; y = y; z = z })) class) zs

-- what these voxels show: occupied where one of them is, else free where one is, else unknown
unfoldable pub shown : Classes → ℕ → ℕ → List ℕ → Class
shown classes x y zs =
    if has_class classes Occupied x y zs then Occupied
    else if has_class classes Free x y zs then Free
    else Unknown

-- what the column of these numbers on x and y shows between two numbers on z, both included
abbrev pub band_class : Classes → ℕ → ℕ → ℕ → ℕ → Class
band_class classes lo hi x y = shown classes x y (numbers_to lo hi)

-- of two classes the one that shows: occupied before free, and free before unknown
abbrev pub stronger : Class → Class → Class
stronger Occupied b = Occupied
stronger Free Occupied = Occupied
stronger Free Free = Free
stronger Free Unknown = Free
stronger Unknown b = b
