-- What a pass over a group's nodes finds, for the proofs of the functions that make one.
use Rattle.std.specs.Prelude.{◌≡◌, ℕ, None}
use Rattle.oct_arena.specs.Entries.{Groups}
use Rattle.oct_tree.specs.Nodes.{IsAll, IsCollapsible, IsGreatest}
use Rattle.oct_arena.specs.Nodes.{link_of}
use Rattle.oct_tree.specs.declared.nodes.Survey.{Survey}
use Rattle.oct_tree.specs.declared.nodes.Survey.TheVariants.{Alike, Varied}

-- the group's nodes are all one node that is not Inner, or they aren't and this is their greatest
-- value
abbrev pub IsSurvey : Groups → ℕ → Survey → Type 0
IsSurvey gs id (Alike n) = (link_of n ≡ None) × IsAll gs id n
IsSurvey gs id (Varied m) = (IsCollapsible gs id → ⊥) × IsGreatest gs id m
