-- The free list of an arena, which is threaded through the memory of the groups that were given
-- back.
use Rattle.std.specs.Prelude.{◌≡◌, ℕ, zero, suc, ◌<◌, ◌≤◌, List, [], ◌∷◌, length, None, slice_set}
use Rattle.std.specs.Prelude.{⊤}
use Rattle.oct_arena.specs.declared.node.Node.{Node}
use Rattle.oct_arena.specs.declared.node.Node.TheVariants.{Absent, Leaf, Inner}
use Rattle.oct_arena.specs.Entries.{Groups, IsArena, IsLive, entry, node_at}

-- the number of the group that a node links
abbrev pub linked_number : Node → ℕ
linked_number Absent = 0
linked_number (Leaf value) = 0
linked_number (Inner value id) = id.number

-- the entry that the memory of entry i links, by its first node
abbrev pub next : Groups → ℕ → ℕ
next memory i = linked_number (node_at memory i 0)

-- this many entries from head on, where each links the one after it
abbrev pub chain : ℕ → ℕ → Groups → List ℕ
chain zero head memory = []
chain (suc count) head memory = head ∷ chain count (next memory head) memory

-- the memory's groups as entries, where those are vacant
abbrev pub without : Groups → List ℕ → Groups
without memory [] = memory
without memory (i ∷ is) = slice_set (without memory is) i None

-- i is none of them
abbrev pub IsNotIn : ℕ → List ℕ → Type 0
IsNotIn i [] = ⊤
IsNotIn i (j ∷ js) = (i ≡ j → ⊥) × IsNotIn i js

-- each of them is below n, and none stands twice
abbrev pub AreOnce : List ℕ → ℕ → Type 0
AreOnce [] n = ⊤
AreOnce (i ∷ is) n = (i < n) × IsNotIn i is × AreOnce is n

-- memory of which as many entries were ever taken as used says, with a free list of those that were
-- given back, from head on
pub record IsThreaded (memory : Groups) (head given used : ℕ) : Type 0 where
  pub within : used ≤ length memory
  pub full : (i : ℕ) → i < used → IsLive memory i
  pub empty : (i : ℕ) → used ≤ i → entry memory i ≡ None
  pub arena : IsArena memory
  pub once : AreOnce (chain given head memory) used
