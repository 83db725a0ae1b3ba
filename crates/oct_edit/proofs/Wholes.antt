-- What an edit of any events promises, from the whole map on.
use Rattle.std.proofs.Common.{◌≡◌, ℕ, ◌+◌, ◌≤◌, sym, ◌∙◌, ap, arith, inl, inr, refl, length, Some}
use Rattle.std.proofs.Common.{Bool, true, false}
use Rattle.std.specs.Prelude.{◌⊎◌, ℤ, IsSome, IsTrue}
use Rattle.std.proofs.lemmas.Bool.{false≢true}
use Rattle.oct_key.specs.Voxel.{Voxel, IsInMap}
use Rattle.oct_key.specs.Block.{Cube, IsBlock, HoldsVoxel, block_of, root_block, LiesIn}
use Rattle.oct_key.proofs.Blocks.{root_holds}
use Rattle.oct_values.specs.Events.{Events, updated}
use Rattle.oct_values.specs.Needs.{IsReached, is_reached, event_need}
use Rattle.oct_key.proofs.Held.{held_in_map}
use Rattle.oct_values.proofs.Reached.{reached_exactly}
use Rattle.oct_arena.specs.declared.node.GroupId.{GroupId}
use Rattle.oct_arena.specs.declared.node.Node.TheVariants.{Inner}
use Rattle.oct_arena.specs.Entries.{Groups, entry, home_at, home_of, live, spare}
use Rattle.oct_arena.proofs.Entries.{live_spare}
use Rattle.oct_tree.specs.declared.place.Place.{Place}
use Rattle.oct_tree.specs.Nodes.{IsGreatest}
use Rattle.oct_arena.specs.Nodes.{link_of}
use Rattle.oct_tree.specs.Tree.{Tree, node_in, value_at}
use Rattle.oct_tree.specs.Shape.{IsWellFormed, IsFresh, IsPruned}
use Rattle.oct_tree.specs.Tidiness.{IsTrueOf}
use Rattle.oct_tree.specs.declared.tidiness.Tidiness.{Tidiness}
use Rattle.oct_key.specs.Values.{SameValues}
use Rattle.oct_tree.proofs.Paths.{live_home, homed_entry, reach_home}
use Rattle.oct_edit.specs.Edits.{KeepsUnreached, MakesReached, KeepsUnreachedInner, IsEdited}
use Rattle.oct_edit.specs.Edits.{IsTidyAlong, IsEagerEdit, IsLazyEdit}
use Rattle.oct_edit.proofs.Takes.{takes_event}
use Rattle.oct_edit.specs.Steps.{Reaches, IsTouched, IsClosedAt}
use Rattle.oct_edit.specs.Parts.{need_in}
use Rattle.oct_edit.proofs.Insides.{block_of_here}
use Rattle.oct_edit.proofs.Paths.{reach_place}
use Rattle.oct_tree.proofs.Formed.{known_of, collapsible_of, greatest_of}
use Rattle.oct_edit.proofs.Homes.{linked_home_of}

-- live groups and vacant entries are all entries
pub same_total : (gs hs : Groups) → length hs ≡ length gs → live hs + spare hs ≡ live gs + spare gs
same_total gs hs e = live_spare hs ∙ e ∙ sym (live_spare gs)

whole_values : (t u : Tree) (events : Events) (lazy : Bool) → IsTouched t u root_block events lazy
    → SameValues (updated t.odds events (value_at t)) (value_at u)
whole_values t u events lazy r q v = sym (r.inside q v (root_holds q v))

-- what events reach within the whole map, they reach
reached_of : (events : Events) (c : Cube) → Reaches events root_block c → IsReached events c
reached_of events c r = (r.voxel, r.there, r.event)

-- a block is reached or it isn't
reached_or_not : (events : Events) (c : Cube) → IsBlock c
    → IsReached events c ⊎ (IsReached events c → ⊥)
reached_or_not events c ok = go (is_reached events c) refl
  where
    go : (test : Bool) → is_reached events c ≡ test → IsReached events c ⊎ (IsReached events c → ⊥)
    go true e = inl ((reached_exactly events c ok).0 e)
    go false e = inr (λ h. false≢true (sym e ∙ (reached_exactly events c ok).1 h))

whole_kept : (t u : Tree) (events : Events) (lazy : Bool) → IsTouched t u root_block events lazy
    → KeepsUnreached t u events
whole_kept t u events lazy r x c out home =
    r.apart.kept x c (λ to_c. out (reached_of events c to_c)) home

whole_inner : (t u : Tree) (events : Events) (lazy : Bool) → IsTouched t u root_block events lazy
    → KeepsUnreachedInner t u events
whole_inner t u events lazy r q id v c out link home =
    r.apart.links q id v c (λ to_c. out (reached_of events c to_c)) link home

-- the group of a block that isn't reached is as it was
made_same : (t u : Tree) (events : Events) (lazy : Bool) (x : ℕ) (c : Cube)
    → IsTouched t u root_block events lazy → (IsReached events c → ⊥) → home_at u.groups x ≡ Some c
    → entry u.groups x ≡ entry t.groups x
made_same t u events lazy x c r out home =
    r.apart.made x c (λ to_c. out (reached_of events c to_c)) home

whole_made : (t u : Tree) (events : Events) (lazy : Bool) → IsTouched t u root_block events lazy
    → MakesReached t u events
whole_made t u events lazy r x c home = elim (reached_or_not events c (r.linked.homes x c home).0) [
  | inl is ↦ inr is
  | inr out ↦ inl (made_same t u events lazy x c r out home)
]

-- that of one that is reached is closed
closed_here : (t u : Tree) (events : Events) (lazy : Bool) (c : Cube) (x : ℕ)
    → IsTouched t u root_block events lazy → IsReached events c → home_at u.groups x ≡ Some c
    → IsClosedAt lazy u c
closed_here t u events lazy c x r (k, held, some) home =
    let at = r.linked.homes x c home in
    let low = at.1 in
    let inside : (q : Voxel) → HoldsVoxel c q → IsInMap q = λ q h. held_in_map c q at.0 h in
    let lies : LiesIn c root_block = λ q h. root_holds q (inside q h) in
    r.closed c (omega (arith, low)) lies (record {
      voxel = k;
      in_map = inside k held;
      here = lies k held;
      there = held;
      event = some;
    })

whole_formed : (t u : Tree) (events : Events) (lazy : Bool) → IsTouched t u root_block events lazy
    → IsWellFormed t → IsWellFormed u
whole_formed t u events lazy r h = record {
  linked = r.linked;
  known =
      λ x live. (let (c, home) = live_home (entry u.groups x) live in
      elim (reached_or_not events c (r.linked.homes x c home).0) [
        | inl is ↦ (closed_here t u events lazy c x r is home).known x home
        | inr out ↦ (let same = made_same t u events lazy x c r out home in
            known_of t.groups u.groups x same
            (h.known x (homed_entry (entry t.groups x) c (ap home_of (sym same) ∙ home))))
      ]);
}

whole_pruned : (t u : Tree) (events : Events) → IsTouched t u root_block events false → IsPruned t
    → IsPruned u
whole_pruned t u events r h x live can =
    let (c, home) = live_home (entry u.groups x) live in
    elim (reached_or_not events c (r.linked.homes x c home).0) [
      | inl is ↦ (closed_here t u events false c x r is home).lean refl x home can
      | inr out ↦ (let same = made_same t u events false x c r out home in
          h x (homed_entry (entry t.groups x) c (ap home_of (sym same) ∙ home))
          (collapsible_of t.groups u.groups x same can))
    ]

whole_fresh : (t u : Tree) (events : Events) → IsTouched t u root_block events false → IsFresh t
    → IsFresh u
whole_fresh t u events r h = record {
  formed = whole_formed t u events false r h.formed;
  greatest = greatest;
}
  where
    greatest : (q : Place) (id : GroupId) (n : ℤ) → node_in u q ≡ Inner n id
        → IsGreatest u.groups id.number n
    greatest q id n link =
        let (c, home) = linked_home_of u q id n r.linked link in
        elim (reached_or_not events c (r.linked.homes id.number c home).0) [
          | inl is ↦ (closed_here t u events false c id.number r is home).greatest refl q id n link
              home
          | inr out ↦ (let same = made_same t u events false id.number c r out home in
              greatest_of t.groups u.groups id.number n same
              (h.greatest q id n
              (r.apart.links q id n c (λ to_c. out (reached_of events c to_c)) link home)))
        ]

whole_path : (t u : Tree) (events : Events) → IsTouched t u root_block events false → (k : Voxel)
    → IsInMap k → IsSome (events k) → IsTidyAlong u k
whole_path t u events r k v some depth n id low is =
    let home = reach_home u k r.linked v depth id.number (ap link_of is) low in
    let (q, link) = reach_place u k depth id n is in
    let closed =
    closed_here t u events false (block_of depth k) id.number r (k, block_of_here depth k, some)
    home in
    (closed.greatest refl q id n link home, closed.lean refl id.number home)

-- where the edit isn't lazy
whole_eagerly : (t u : Tree) (b : Cube) (events : Events) (lazy : Bool) → (IsTrue lazy → ⊥)
    → IsTouched t u b events lazy → IsTouched t u b events false
whole_eagerly t u b events true eager r = absurd (eager refl)
whole_eagerly t u b events false eager r = r

-- what each edit does that was done within the whole map
pub whole_edited : (t u : Tree) (events : Events) (lazy : Bool)
    → IsTouched t u root_block events lazy → IsWellFormed t → IsEdited t u events
whole_edited t u events lazy r formed = record {
  values = whole_values t u events lazy r;
  well_formed = whole_formed t u events lazy r formed;
  res = r.apart.outside.res;
  odds = r.apart.outside.odds;
  kept = whole_kept t u events lazy r;
  made = whole_made t u events lazy r;
  inner = whole_inner t u events lazy r;
  expanded = r.expanded;
}

-- an eager one
pub whole_eager : (t u : Tree) (events : Events) (lazy : Bool)
    → IsTouched t u root_block events lazy → (IsTrue lazy → ⊥) → IsEagerEdit t u events
whole_eager t u events lazy r eager =
    let s = whole_eagerly t u root_block events lazy eager r in
    record {
      path =
          λ k v takes. whole_path t u events s k v (takes_event t.odds events (value_at t) k takes);
      fresh = whole_fresh t u events s;
      pruned = whole_pruned t u events s;
    }

-- what was known of the tree is so after it
pub whole_known : (t u : Tree) (events : Events) (lazy : Bool) (known : Tidiness)
    → IsTouched t u root_block events lazy → (IsTrue lazy → ⊥) → IsTrueOf known t → IsTrueOf known u
whole_known t u events lazy known r eager so =
    let e = whole_eager t u events lazy r eager in
    record { fresh = λ is. e.fresh (so.fresh is); pruned = λ is. e.pruned (so.pruned is) }

-- and so is the path to each voxel with an event, whether or not it takes something
pub whole_paths : (t u : Tree) (events : Events) (lazy : Bool)
    → IsTouched t u root_block events lazy → (IsTrue lazy → ⊥) → (k : Voxel) → IsInMap k
    → IsSome (events k) → IsTidyAlong u k
whole_paths t u events lazy r eager =
    whole_path t u events (whole_eagerly t u root_block events lazy eager r)

-- and a lazy one
pub whole_lazy : (t u : Tree) (events : Events) (lazy : Bool) → IsTouched t u root_block events lazy
    → IsTrue lazy → IsLazyEdit t u events
whole_lazy t u events lazy r is = record {
  nodes = r.nodes is;
  expanded =
      λ depth k high v takes. r.opened is depth k (omega arith) high v (root_holds k v) takes;
}

-- this many groups more at most
pub whole_groups : (t u : Tree) (events : Events) (lazy : Bool)
    → IsTouched t u root_block events lazy
    → spare t.groups ≤ spare u.groups + need_in events root_block
    → live u.groups ≤ live t.groups + event_need events
unfolding event_need
whole_groups t u events lazy r h =
    (let total = same_total t.groups u.groups r.apart.outside.length in omega (arith, total, h))

pub whole_need : (events : Events) (room : ℕ) → event_need events ≤ room
    → need_in events root_block ≤ room
unfolding event_need
whole_need events room h = h
