-- Where an update ends: at a leaf that takes nothing from it, or at one voxel.
use Rattle.std.proofs.Common.{◌≡◌, ℕ, ◌-◌, ◌≤◌, Bool, true, false, cond, List, [], inl, inr, refl}
use Rattle.std.proofs.Common.{sym, subst, ◌∙◌, ap, arith, Some, None, Option}
use Rattle.std.specs.Prelude.{◌≤ℤ◌, ◌⊎◌, IsSome, is_some}
use Rattle.std.proofs.lemmas.Bool.{false≢true, true≢false}
use Rattle.oct_key.specs.Voxel.{Voxel, IsInMap}
use Rattle.oct_key.specs.Values.{is_same_voxel}
use Rattle.oct_key.specs.Block.{Cube, HoldsVoxel, block_of, LiesIn}
use Rattle.oct_key.proofs.SameVoxels.{is_same_voxel_exact, is_same_voxel_refl}
use Rattle.oct_odds.specs.Odds.{Odds}
use Rattle.oct_odds.specs.Update.{Value}
use Rattle.oct_odds.specs.declared.event.Event.{Event}
use Rattle.oct_odds.specs.declared.event.Event.TheVariants.{Add, Set, Forget, Likely}
use Rattle.oct_values.specs.Events.{Events, event_at, is_listed, after_event}
use Rattle.oct_arena.specs.declared.node.Node.{Node}
use Rattle.oct_arena.specs.declared.node.Node.TheVariants.{Absent, Leaf, Inner}
use Rattle.oct_key.proofs.Held.{held_in_map}
use Rattle.oct_arena.specs.Entries.{home_at}
use Rattle.oct_tree.specs.declared.place.Place.{Place}
use Rattle.oct_arena.specs.Nodes.{link_of, value_of}
use Rattle.oct_tree.specs.Tree.{Tree, IsLinked, IsPlace, node_in, block_in, reach, value_at}
use Rattle.oct_tree.proofs.Paths.{some_injective, some_not_none, stays, place_reached}
use Rattle.oct_tree.proofs.Paths.{value_at_last}
use Rattle.oct_edit.specs.Listed.{ListedUpdate}
use Rattle.oct_edit.specs.Saturated.{IsSaturated}
use Rattle.oct_edit.proofs.Takes.{takes_alike}
use Rattle.oct_edit.specs.Steps.{Reaches, IsOpenAbove, IsTouched}
use Rattle.oct_edit.specs.Scan.{events_of}
use Rattle.oct_edit.specs.Parts.{AreIn, IsUpdateIn, IsAtRest}
use Rattle.oct_edit.proofs.Insides.{around, lies_deep, one_voxel}
use Rattle.oct_edit.proofs.Paths.{become_same}
use Rattle.oct_edit.proofs.Closings.{closed_vacant}
use Rattle.oct_edit.proofs.Clamps.{saturated_stays}
use Rattle.oct_edit.proofs.Voxels.{voxel_plain}
use Rattle.oct_edit.proofs.Rounds.{apart_refl}
use Rattle.oct_edit.proofs.Shares.{case_of, is_hit, is_freed, is_left, none_not_some, event_none}
use Rattle.oct_edit.proofs.Shares.{event_has}

-- a saturated value is known
pub saturated_known : (o : Odds) (event : Event) (value : Value) → IsSaturated o event value
    → IsSome value
saturated_known o (Add u) value (inl (up, is)) = ap is_some is
saturated_known o (Add u) value (inr (down, is)) = ap is_some is
saturated_known o (Set v) value h = absurd h
saturated_known o Forget value h = absurd h
saturated_known o Likely value h = absurd h

-- a node with a known value links nothing
pub known_plain : (n : Node) → IsSome (value_of n) → link_of n ≡ None
known_plain Absent h = refl
known_plain (Leaf v) h = refl
known_plain (Inner v id) h = absurd (false≢true h)

-- a list that has a voxel isn't empty, so its event is one that the value takes nothing from
listed_rests : (o : Odds) (keys : List Voxel) (event : Event) (value : Value) (k : Voxel)
    → is_listed keys k ≡ true → (keys ≡ []) ⊎ IsSaturated o event value → IsSaturated o event value
listed_rests o keys event value k listed (inl empty) =
    (let none : is_listed keys k ≡ false = ap (λ l. is_listed l k) empty in
    absurd (true≢false (sym listed ∙ none)))
listed_rests o keys event value k listed (inr h) = h

-- at rest a value is saturated for the event that its voxel has
rest_saturated : (o : Odds) (u : ListedUpdate) (value : Value) (k : Voxel) (event : Event)
    → IsAtRest o u value → events_of u k ≡ Some event → IsSaturated o event value
rest_saturated o u value k event rest is = elim (case_of u k) [
  | is_hit h e ↦ subst (λ x. IsSaturated o x value) (some_injective (sym e ∙ is))
      (listed_rests o u.hits u.hit value k h rest.0)
  | is_freed _ h e ↦ subst (λ x. IsSaturated o x value) (some_injective (sym e ∙ is))
      (listed_rests o u.frees u.miss value k h rest.1)
  | is_left _ _ e ↦ absurd (some_not_none is e)
]

-- at rest a value is known, where some voxel has an event
rest_known : (o : Odds) (u : ListedUpdate) (value : Value) (k : Voxel) → IsAtRest o u value
    → IsSome (events_of u k) → IsSome value
rest_known o u value k rest some = elim (case_of u k) [
  | is_hit h e ↦ saturated_known o u.hit value (listed_rests o u.hits u.hit value k h rest.0)
  | is_freed _ h e ↦ saturated_known o u.miss value (listed_rests o u.frees u.miss value k h rest.1)
  | is_left _ _ e ↦ absurd (none_not_some (events_of u k) e some)
]

-- a place that links nothing gives its value to the voxels of its block
pub covered : (t : Tree) (p : Place) (b : Cube) → IsLinked t → IsPlace t p → block_in t p ≡ Some b
    → b.depth ≤ 16 → link_of (node_in t p) ≡ None → (k : Voxel) → IsInMap k → HoldsVoxel b k
    → value_at t k ≡ value_of (node_in t p)
covered t p b l ok e m plain k v h =
    let there = place_reached t l p ok b e k v h in
    value_at_last t k b.depth m (ap link_of there ∙ plain) ∙ ap value_of there

-- under a place that links nothing there is no group
pub vacant_under : (t : Tree) (p : Place) (b : Cube) → IsLinked t → IsPlace t p
    → block_in t p ≡ Some b → b.depth ≤ 16 → link_of (node_in t p) ≡ None
    → (c : Cube) (x : ℕ) (k : Voxel) → IsInMap k → HoldsVoxel b k → HoldsVoxel c k → LiesIn c b
    → home_at t.groups x ≡ Some c → ⊥
vacant_under t p b l ok e m plain c x k v here there lies home =
    let deep : b.depth ≤ c.depth =
    lies_deep c b.depth k there m (subst (λ a. LiesIn c a) (around b k here) lies) in
    let link = l.reached x c home k v there in
    let none : link_of (reach t b.depth k) ≡ None =
    ap link_of (place_reached t l p ok b e k v here) ∙ plain in
    some_not_none link
    (ap link_of (stays t k b.depth (c.depth - b.depth) c.depth (omega (arith, deep)) none)
    ∙ none)

-- events that change no voxel of a place that links nothing were done before they begin
pub idle_touched : (t : Tree) (p : Place) (b : Cube) (events : Events) (lazy : Bool) → IsLinked t
    → IsPlace t p → block_in t p ≡ Some b → b.depth ≤ 16 → link_of (node_in t p) ≡ None
    → ((k : Voxel) → after_event t.odds (events k) (value_of (node_in t p))
    ≡ value_of (node_in t p))
    → (lazy ≡ true → IsOpenAbove t t b events) → IsTouched t t b events lazy
idle_touched t p b events lazy l ok e m plain same opened = record {
  linked = l;
  inside =
      λ k v h.
      sym (ap (after_event t.odds (events k)) (covered t p b l ok e m plain k v h)
      ∙ same k ∙ sym (covered t p b l ok e m plain k v h));
  elsewhere = λ k v out. refl;
  apart = apart_refl t b events;
  closed =
      λ c low lies r. closed_vacant t c lazy
      (λ x home. vacant_under t p b l ok e m plain c x r.voxel r.in_map r.here r.there lies
      home);
  expanded = λ x c home. inl (x, home);
  nodes = λ _ d q _ _. become_same (reach t d q);
  opened = opened;
}

-- so are those from which none takes anything
pub still_touched : (t : Tree) (p : Place) (b : Cube) (events : Events) (lazy : Bool) → IsLinked t
    → IsPlace t p → block_in t p ≡ Some b → b.depth ≤ 16 → link_of (node_in t p) ≡ None
    → t.odds.min ≤ℤ t.odds.max
    → ((k : Voxel) (event : Event) → events k ≡ Some event → IsSaturated t.odds event
    (value_of (node_in t p)))
    → IsTouched t t b events lazy
still_touched t p b events lazy l ok e m plain bounds rest =
    idle_touched t p b events lazy l ok e m plain (λ k. stays_at k (events k) refl)
    (λ _ d k _ _ v h (event, is, more).
    absurd (more (subst (IsSaturated t.odds event) (sym (covered t p b l ok e m plain k v h))
    (rest k event is))))
  where
    stays_at : (k : Voxel) (o : Option Event) → events k ≡ o
        → after_event t.odds o (value_of (node_in t p)) ≡ value_of (node_in t p)
    stays_at k None is = refl
    stays_at k (Some event) is =
        saturated_stays t.odds event (value_of (node_in t p)) bounds (rest k event is)

-- an update at rest was done before it begins
pub rest_touched : (t : Tree) (p : Place) (b : Cube) (u : ListedUpdate) (lazy : Bool) → IsLinked t
    → IsPlace t p → block_in t p ≡ Some b → b.depth ≤ 16 → IsUpdateIn b u → t.odds.min ≤ℤ t.odds.max
    → IsAtRest t.odds u (value_of (node_in t p)) → IsTouched t t b (events_of u) lazy
rest_touched t p b u lazy l ok e m inside bounds rest =
    still_touched t p b (events_of u) lazy l ok e m plain bounds
    (λ k event is. rest_saturated t.odds u (value_of (node_in t p)) k event rest is)
  where
    plain : link_of (node_in t p) ≡ None
    plain =
        (let some = inside.some in
        known_plain (node_in t p)
        (rest_known t.odds u (value_of (node_in t p)) some.voxel rest some.event))

-- the block of depth 16 that an update reaches is that of its voxel
voxel_block : (b : Cube) (k : Voxel) → b.depth ≡ 16 → HoldsVoxel b k → b ≡ block_of 16 k
voxel_block b k deep held = around b k held ∙ ap (λ d. block_of d k) deep

-- a place of depth 16 links nothing
pub one_plain : (t : Tree) (p : Place) (b : Cube) (u : ListedUpdate) → IsLinked t
    → block_in t p ≡ Some b → b.depth ≡ 16 → IsUpdateIn b u → link_of (node_in t p) ≡ None
one_plain t p b u l e deep inside =
    (let some = inside.some in
    voxel_plain t p some.voxel l (e ∙ ap Some (voxel_block b some.voxel deep some.here)))

-- an update of the voxels of a block of depth 16 is an event on that voxel
one_event : (u : ListedUpdate) (k : Voxel) (event : Event) → AreIn (block_of 16 k) u.hits
    → AreIn (block_of 16 k) u.frees → events_of u k ≡ Some event → (q : Voxel) → IsInMap q
    → event_at (Some k) event q ≡ events_of u q
one_event u k event hits frees is q v = each (is_same_voxel k q) refl
  where
    each : (same : Bool) → is_same_voxel k q ≡ same
        → cond (is_same_voxel k q) (Some event) None ≡ events_of u q
    each true e =
        ap (λ test. cond test (Some event) None) e ∙ sym is
        ∙ ap (events_of u) (is_same_voxel_exact k q e)
    each false e =
        ap (λ test. cond test (Some event) None) e
        ∙ sym (event_none (λ x. IsInMap x → HoldsVoxel (block_of 16 k) x) u q hits.held frees.held
        (λ held. (let same : q ≡ k = one_voxel q k (held v) in
        false≢true (sym e ∙ ap (is_same_voxel k) same ∙ is_same_voxel_refl k))))

-- the edit of events that agree in the map
touched_alike : (t u : Tree) (b : Cube) (d events : Events) (lazy : Bool)
    → ((k : Voxel) → IsInMap k → d k ≡ events k) → IsTouched t u b d lazy
    → IsTouched t u b events lazy
touched_alike t u b d events lazy same r = record {
  linked = r.linked;
  inside = λ k v h. r.inside k v h ∙ ap (λ e. after_event t.odds e (value_at t k)) (same k v);
  elsewhere = r.elsewhere;
  apart = record {
    outside = r.apart.outside;
    kept = λ x c apart h. r.apart.kept x c (λ z. apart (reaches_alike z)) h;
    made = λ x c apart h. r.apart.made x c (λ z. apart (reaches_alike z)) h;
    links = λ q id v c apart is h. r.apart.links q id v c (λ z. apart (reaches_alike z)) is h;
  };
  closed = λ c low lies z. r.closed c low lies (record {
    voxel = z.voxel;
    in_map = z.in_map;
    here = z.here;
    there = z.there;
    event = subst IsSome (sym (same z.voxel z.in_map)) z.event;
  });
  expanded = λ x c home. elim (r.expanded x c home) [
    | inl old ↦ inl old
    | inr (k, held, takes) ↦ inr (
      k,
      held,
      takes_alike t.odds t.odds d events (value_at t)
          (value_at t) k refl (same k (held_in_map c k (r.linked.homes x c home).0 held)) refl
          takes,
    )
  ];
  nodes = r.nodes;
  opened =
      λ is depth k low high v h takes. r.opened is depth k low high v h
      (takes_alike t.odds t.odds events d (value_at t) (value_at t) k refl (sym (same k v)) refl
      takes);
}
  where
    reaches_alike : {c : Cube} → Reaches d b c → Reaches events b c
    reaches_alike z = record {
      voxel = z.voxel;
      in_map = z.in_map;
      here = z.here;
      there = z.there;
      event = subst IsSome (same z.voxel z.in_map) z.event;
    }

-- an event on the voxel of a place of depth 16 is the update
pub one_touched : (t x : Tree) (p : Place) (b : Cube) (u : ListedUpdate) (k : Voxel) (event : Event)
    (lazy : Bool)
    → block_in t p ≡ Some b → b.depth ≡ 16 → IsUpdateIn b u → IsInMap k → events_of u k ≡ Some event
    → ((k : Voxel) (lazy : Bool) → IsInMap k → block_in t p ≡ Some (block_of 16 k)
    → IsTouched t x (block_of 16 k) (event_at (Some k) event) lazy)
    → IsTouched t x b (events_of u) lazy
one_touched t x p b u k event lazy e deep inside v is touched =
    let held : HoldsVoxel b k =
    event_has (λ q. IsInMap q → HoldsVoxel b q) u k inside.hits.held inside.frees.held
    (ap is_some is) v in
    let block : b ≡ block_of 16 k = voxel_block b k deep held in
    subst (λ c. IsTouched t x c (events_of u) lazy) (sym block)
    (touched_alike t x (block_of 16 k) (event_at (Some k) event) (events_of u) lazy
    (one_event u k event (subst (λ c. AreIn c u.hits) block inside.hits)
    (subst (λ c. AreIn c u.frees) block inside.frees) is)
    (touched k lazy v (e ∙ ap Some block)))
