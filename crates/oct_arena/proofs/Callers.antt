-- Which groups stay live, for those who use an arena.
use Rattle.std.proofs.Common.{◌≡◌, ◌≢◌, ℕ, ◌<◌, List, [], ◌∷◌, ◌++◌, length, sym, ap, ◌∙◌, refl}
use Rattle.std.proofs.Common.{inl, inr}
use Rattle.std.specs.Prelude.{Option, Some, None, is_some, slice_set}
use Rattle.std.specs.List.{All}
use Rattle.std.proofs.lemmas.List.Elements.{All-push, All-weaker}
use Rattle.oct_arena.specs.declared.node.GroupId.{GroupId}
use Rattle.std.proofs.lemmas.Bool.{cases_eq, false≢true}
use Rattle.oct_arena.specs.declared.node.Group.{Group}
use Rattle.oct_arena.specs.declared.node.Node.{Node}
use Rattle.oct_arena.specs.Entries.{Groups, IsLive, entry, with_node}
use Rattle.oct_arena.proofs.Entries.{entry_set_same, entry_set_other, live_within}

-- a group is live once it is taken
pub live_taken : (gs after : Groups) (id : ℕ) (g : Group) → after ≡ slice_set gs id (Some g)
    → id < length gs → IsLive after id
live_taken gs after id g e l =
    ap is_some (ap (λ xs. entry xs id) e ∙ entry_set_same gs id (Some g) l)

-- a live group's id is none that was vacant
pub live_apart : (gs : Groups) (id j : ℕ) → IsLive gs j → entry gs id ≡ None → j ≢ id
live_apart gs id j live none e =
    absurd (false≢true (sym (ap is_some (ap (entry gs) e ∙ none)) ∙ live))

pub taken_apart : (gs : Groups) (id j : ℕ) → IsLive gs j → entry gs id ≡ None → id ≢ j
taken_apart gs id j live none e = live_apart gs id j live none (sym e)

-- what is live stays so where another group is taken
pub live_past_take : (gs after : Groups) (id j : ℕ) (g : Group) → after ≡ slice_set gs id (Some g)
    → entry gs id ≡ None → IsLive gs j → IsLive after j
live_past_take gs after id j g e none live =
    ap is_some (ap (λ xs. entry xs j) e ∙ entry_set_other gs id j (Some g)
    (live_apart gs id j live none))
    ∙ live

-- what is live stays so where another group is given back
pub live_past_give : (gs after : Groups) (id j : ℕ) → after ≡ slice_set gs id None → j ≢ id
    → IsLive gs j → IsLive after j
live_past_give gs after id j e other live =
    ap is_some (ap (λ xs. entry xs j) e ∙ entry_set_other gs id j None other) ∙ live

some_with : (e : Option Group) (i : ℕ) (n : Node) → is_some (with_node e i n) ≡ is_some e
some_with None i n = refl
some_with (Some g) i n = refl

-- what is live stays so where a node of a group changes
pub live_past_set_node : (gs after : Groups) (id i j : ℕ) (n : Node)
    → after ≡ slice_set gs id (with_node (entry gs id) i n) → IsLive gs id → IsLive gs j
    → IsLive after j
live_past_set_node gs after id i j n e at live = elim (cases_eq j id) [
  | inl same ↦ ap is_some
      (ap (λ xs. entry xs j) e ∙ ap (entry (slice_set gs id (with_node (entry gs id) i n))) same
      ∙ entry_set_same gs id (with_node (entry gs id) i n) (live_within gs id at))
      ∙ some_with (entry gs id) i n ∙ at
  | inr other ↦ ap is_some
      (ap (λ xs. entry xs j) e ∙ entry_set_other gs id j (with_node (entry gs id) i n) other)
      ∙ live
]

-- what is live stays so where another group is taken, and that one joins it
pub all_past_take : (gs after : Groups) (id : GroupId) (g : Group) (ids : List GroupId)
    → after ≡ slice_set gs id.number (Some g) → entry gs id.number ≡ None → id.number < length gs
    → All (λ (i : GroupId). IsLive gs i.number) ids
    → All (λ (i : GroupId). IsLive after i.number) (ids ++ id ∷ [])
all_past_take gs after id g ids e none l all =
    All-push (λ (i : GroupId). IsLive after i.number) ids id
    (All-weaker (λ (i : GroupId). IsLive gs i.number) (λ (i : GroupId). IsLive after i.number)
    (λ i live. live_past_take gs after id.number i.number g e none live) ids all)
    (live_taken gs after id.number g e l)

pub ruleset callers = (
  live_taken,
  live_apart,
  taken_apart,
  live_past_take,
  live_past_give,
  live_past_set_node,
  all_past_take,
)
