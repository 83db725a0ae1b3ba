use Rattle.std.proofs.Common.{◌≡◌, ℕ, ◌<◌, ◌≤◌, length, refl, sym, ◌∙◌, ap, subst, Some, None}
use Rattle.std.proofs.Common.{rules}
use Rattle.std.specs.Prelude.{Option, is_some, slice_set}
use Rattle.oct_key.specs.Block.{Cube}
use Rattle.oct_arena.specs.declared.node.Group.{Group}
use Rattle.oct_arena.specs.declared.node.Node.{Node}
use Rattle.oct_arena.specs.Entries.{Groups, IsLive, entry, with_node, copies_under}
use Rattle.oct_arena.proofs.Entries.{entry_set_same, entry_set_other}
use Rattle.oct_arena.proofs.Callers.{live_apart, live_past_set_node}
use Rattle.oct_tree_tests.proofs.arenas.split.Goals as goal

some_copies : (e : Option Group) (i : ℕ) → is_some (copies_under e i) ≡ is_some e
some_copies None i = refl
some_copies (Some g) i = refl

-- a split leaves its group live, and makes one more
live_split : (gs after : Groups) (id under i : ℕ) (n : Node)
    → after ≡ slice_set (slice_set gs under (copies_under (entry gs id) i)) id
    (with_node (entry (slice_set gs under (copies_under (entry gs id) i)) id) i n)
    → entry gs under ≡ None → under < length gs → IsLive gs id
    → IsLive after id × IsLive after under
live_split gs after id under i n e none l live =
    let mid : Groups = slice_set gs under (copies_under (entry gs id) i) in
    let here : IsLive mid id =
    ap is_some (entry_set_other gs under id (copies_under (entry gs id) i)
    (live_apart gs under id live none))
    ∙ live in
    let made : IsLive mid under =
    ap is_some (entry_set_same gs under (copies_under (entry gs id) i) l)
    ∙ some_copies (entry gs id) i ∙ live in (
      live_past_set_node mid after id i id n e here here,
      live_past_set_node mid after id i under n e here made,
    )

some_is : (a b : Cube) → ◌≡◌ {A = Option Cube} (Some a) (Some b) → a ≡ b
some_is a b e = cc

-- a home that is known to be above the voxels
deep_home : (home b : Cube) (o : Option Cube) → o ≡ Some home → home.depth ≤ 15 → o ≡ Some b
    → b.depth ≤ 15
deep_home home b o e deep is = subst (λ (c : Cube). c.depth ≤ 15) (some_is home b (sym e ∙ is)) deep

pub split_to-requires-clause-deep : goal.split_to-requires-clause-deep
split_to-requires-clause-deep g c b is =
    deep_home _ b _ c.home-home.ensures.exact (search rules) is

pub returns-clause-over : goal.returns-clause-over
returns-clause-over g c =
    (live_split _ _ _ _ 5 _ c.split_to.ensures.filled c.split_to.ensures.vacant
    c.split_to.ensures.within
    c.requires).0

pub returns-clause-under : goal.returns-clause-under
returns-clause-under g c =
    (live_split _ _ _ _ 5 _ c.split_to.ensures.filled c.split_to.ensures.vacant
    c.split_to.ensures.within
    c.requires).1
