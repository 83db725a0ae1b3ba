-- What refreshing and pruning leave of a tree.
use Rattle.std.specs.Prelude.{◌≡◌, ℕ, ◌≤◌, ℤ, length, Some}
use Rattle.oct_key.specs.Block.{Cube}
use Rattle.oct_arena.specs.declared.node.GroupId.{GroupId}
use Rattle.oct_arena.specs.declared.node.Node.{Node}
use Rattle.oct_arena.specs.declared.node.Node.TheVariants.{Absent, Leaf, Inner}
use Rattle.oct_arena.specs.Entries.{home_at, live, spare}
use Rattle.oct_tree.specs.Tree.{Tree, node_in}
use Rattle.oct_tree.specs.declared.place.Place.{Place}

-- the second node is the first one, but for the value of an Inner node
abbrev pub IsSameButValue : Node → Node → Type 0
IsSameButValue Absent n = n ≡ Absent
IsSameButValue (Leaf v) n = n ≡ Leaf v
IsSameButValue (Inner v id) n = (w : ℤ) × (n ≡ Inner w id)

-- The second tree is the first, but for the values of Inner nodes: each group stands under its id,
-- with its home, and each link and each node that is not Inner stays. As many groups are live, and
-- as many entries vacant, as before.
pub record IsSameButInner (t u : Tree) : Type 0 where
  pub homes : (x : ℕ) → home_at u.groups x ≡ home_at t.groups x
  pub nodes : (p : Place) → IsSameButValue (node_in t p) (node_in u p)
  pub length : length u.groups ≡ length t.groups
  pub live : live u.groups ≡ live t.groups
  pub spare : spare u.groups ≡ spare t.groups
  pub res : u.res ≡ t.res
  pub odds : u.odds ≡ t.odds

-- The second tree has only groups of the first, under their ids and with their homes, and only
-- Inner nodes of the first, with their values. The entries of the groups that it lacks are vacant.
pub record IsShrunk (t u : Tree) : Type 0 where
  pub homes : (x : ℕ) (b : Cube) → home_at u.groups x ≡ Some b → home_at t.groups x ≡ Some b
  pub inner : (p : Place) (id : GroupId) (v : ℤ) → node_in u p ≡ Inner v id
      → node_in t p ≡ Inner v id
  pub length : length u.groups ≡ length t.groups
  pub live : live u.groups ≤ live t.groups
  pub spare : spare t.groups ≤ spare u.groups
  pub res : u.res ≡ t.res
  pub odds : u.odds ≡ t.odds
