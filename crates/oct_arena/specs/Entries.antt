-- An arena as its callers see it: a list of groups and vacant entries, where a group's id is the
-- number of its entry.
use Rattle.std.specs.Prelude.{◌≡◌, ℕ, ◌+◌, ◌^◌, ◌≤◌, Bool, IsTrue, List, length, replicate, Option}
use Rattle.std.specs.Prelude.{Some, None, is_none, is_some, option_map, count_by, slice_index_or}
use Rattle.std.specs.Prelude.{slice_set, false}
use Rattle.std.specs.List.{list_any}
use Rattle.oct_key.specs.Block.{Cube, child_of, is_same_block}
use Rattle.oct_arena.specs.declared.node.Node.{Node}
use Rattle.oct_arena.specs.declared.node.Node.TheVariants.{Absent}
use Rattle.oct_arena.specs.declared.node.Group.{Group}

-- the entries of an arena: a group, or none where the entry is vacant
abbrev pub Groups : Type 0
Groups = List (Option Group)

-- what stands under an id: its group, or none where it is vacant or past the end
abbrev pub entry : Groups → ℕ → Option Group
entry gs id = slice_index_or gs id None

-- whether a group stands under an id
abbrev pub is_live : Groups → ℕ → Bool
is_live gs id = is_some (entry gs id)

-- a group stands under an id
abbrev pub IsLive : Groups → ℕ → Type 0
IsLive gs id = IsTrue (is_live gs id)

-- node i of an entry, from 0 to 7, and absent where the entry is vacant
abbrev pub node_of : Option Group → ℕ → Node
node_of None i = Absent
node_of (Some g) i = slice_index_or g.nodes i Absent

-- node i of the group under an id
abbrev pub node_at : Groups → ℕ → ℕ → Node
node_at gs id i = node_of (entry gs id) i

-- the block that an entry's group is the home of, as a cube
abbrev pub home_of : Option Group → Option Cube
home_of e = option_map (λ g. g.home) e

-- the home of the group under an id, or none where there is no group
abbrev pub home_at : Groups → ℕ → Option Cube
home_at gs id = home_of (entry gs id)

-- whether a home, if any, is this block
abbrev pub is_that_home : Cube → Option Cube → Bool
is_that_home b None = false
is_that_home b (Some home) = is_same_block home b

-- whether some group has this block as its home
abbrev pub has_home : Groups → Cube → Bool
has_home gs b = list_any (λ e. is_that_home b (home_of e)) gs

-- an entry with another node i, and with the same home and other nodes
abbrev pub with_node : Option Group → ℕ → Node → Option Group
with_node None i n = None
with_node (Some g) i n = Some (record { home = g.home; nodes = slice_set g.nodes i n })

-- a group of eight copies of node i of an entry, whose home is the block of that node
abbrev pub copies_under : Option Group → ℕ → Option Group
copies_under None i = None
copies_under (Some g) i =
    Some (record { home = child_of g.home i; nodes = replicate 8 (node_of (Some g) i) })

-- how many entries are vacant
abbrev pub spare : Groups → ℕ
spare gs = count_by is_none gs

-- how many groups there are
abbrev pub live : Groups → ℕ
live gs = count_by is_some gs

-- this many vacant entries
abbrev pub vacant : ℕ → Groups
vacant count = replicate count None

-- entries that an arena can have: at most 2^31 + 1023 of them, and each group has eight nodes
pub record IsArena (gs : Groups) : Type 0 where
  pub few : length gs ≤ 2 ^ 31 + 1023
  pub eight : (id : ℕ) (g : Group) → entry gs id ≡ Some g → length g.nodes ≡ 8
