-- The two maps that a task over two files goes by, or why there are none.
use Rattle.std.specs.Prelude.{◌≡◌, ℕ, ◌≤◌, ◌^◌, nat_eq, List, length, Option, Some, None, Result}
use Rattle.std.specs.Prelude.{Ok, Err}
use Rattle.std.specs.Prelude.{if◌then◌else◌}
use Rattle.oct_bt.specs.declared.fault.BtFault.{BtFault}
use Rattle.oct_bt.specs.File.{FileRead, reading}
use Rattle.oct_bt.specs.NodeData.{IsAccepted}
use Rattle.oct_io.specs.Files.{Files}
use Rattle.oct_io.specs.Loaded.{loaded_of}
use Rattle.oct_io.specs.declared.store.Loaded.{Loaded}
use Rattle.oct_io.specs.declared.store.Loaded.TheVariants as loaded
use Rattle.oct_file_tasks.specs.declared.two_files.NoMap.{NoMap}
use Rattle.oct_file_tasks.specs.declared.two_files.NoMap.TheVariants.{Missing, TooLarge, Bad}
use Rattle.oct_file_tasks.specs.declared.two_files.NoPair.{NoPair}
use Rattle.oct_file_tasks.specs.declared.two_files.NoPair.TheVariants.{First, Second}
use Rattle.oct_file_tasks.specs.declared.two_files.NoPair.TheVariants.{OtherResolution}
use Rattle.oct_file_tasks.specs.declared.two_files.Pair.{Pair}

-- the map that was read of a file, or what is wrong with it
abbrev pub judged : Result FileRead BtFault → Result FileRead NoMap
judged (Ok file) = Ok file
judged (Err fault) = Err (Bad fault)

-- the map that the store has under a name, by what it answers, or why there is none
abbrev pub map_in : Loaded → Result FileRead NoMap
map_in (loaded.Bytes bytes) = judged (reading bytes)
map_in loaded.Missing = Err Missing
map_in loaded.TooLarge = Err TooLarge

-- two maps, where they are of one resolution
abbrev pub of_one_size : FileRead → FileRead → Result Pair NoPair
of_one_size first second =
    if nat_eq first.res second.res then Ok (record { first = first; second = second })
    else Err (OtherResolution first.res second.res)

-- two maps: the first one is judged before the second, and then their resolutions
abbrev pub joined : Result FileRead NoMap → Result FileRead NoMap → Result Pair NoPair
joined (Err reason) second = Err (First reason)
joined (Ok first) (Err reason) = Err (Second reason)
joined (Ok first) (Ok second) = of_one_size first second

-- the two maps under two names, which may be one
abbrev pub pair_in : Files → List ℕ → List ℕ → Result Pair NoPair
pair_in files first second =
    joined (map_in (loaded_of (files first))) (map_in (loaded_of (files second)))

-- how many files are loaded, by what the first one is: where that is no map, the second isn't asked
-- for
abbrev pub loads_after : Result FileRead NoMap → ℕ
loads_after (Err reason) = 1
loads_after (Ok first) = 2

-- how often at most the store is asked for the maps of two names, the first of which is this one;
-- of files that aren't told nothing more is said than that there are two names
abbrev pub loads_of : Option Files → List ℕ → ℕ
loads_of None first = 2
loads_of (Some files) first = loads_after (map_in (loaded_of (files first)))

-- the two maps, where the first one was read
abbrev pub second_in : Files → FileRead → List ℕ → Result Pair NoPair
second_in files first second = joined (Ok first) (map_in (loaded_of (files second)))

-- a map that is small enough to be a tree beside another one
pub record IsFit (file : FileRead) : Type 0 where
  pub accepted : IsAccepted file.nodes file.codes
  pub few : length file.codes ≤ 2 ^ 30

-- and two of them, of one resolution
pub record AreFit (pair : Pair) : Type 0 where
  pub same : pair.first.res ≡ pair.second.res
  pub first : IsFit pair.first
  pub second : IsFit pair.second
