-- The groups that are made from a place down to a voxel, each with its last value.
use Rattle.std.proofs.Common.{◌≡◌, ◌≢◌, ℕ, zero, suc, ◌+◌, ◌<◌, sym, subst, ◌∙◌, ap, arith}
use Rattle.std.proofs.Common.{inl, inr, refl, Some, None, Bool, true, false}
use Rattle.std.specs.Prelude.{◌⊎◌, ℤ, ◌≤ℤ◌}
use Rattle.std.proofs.lemmas.Bool.{cases_eq, true≢false}
use Rattle.std.proofs.lemmas.Int.{ints}
use Rattle.oct_key.specs.Voxel.{Voxel, IsInMap}
use Rattle.oct_key.specs.Values.{SameValues}
use Rattle.oct_key.specs.Block.{Cube, LiesIn, block_of, child_of}
use Rattle.oct_key.proofs.Blocks.{depth_block_of}
use Rattle.oct_key.proofs.Nested.{lies_in_self}
use Rattle.oct_key.proofs.Nested as nested
use Rattle.oct_odds.specs.Odds.{Odds}
use Rattle.oct_odds.specs.Update.{Value, applied}
use Rattle.oct_odds.specs.declared.event.Event.{Event}
use Rattle.oct_values.specs.Events.{event_at}
use Rattle.oct_arena.specs.declared.node.GroupId.{GroupId}
use Rattle.oct_arena.specs.declared.node.Node.{Node}
use Rattle.oct_arena.specs.declared.node.Node.TheVariants.{Absent, Leaf, Inner}
use Rattle.oct_arena.specs.Entries.{Groups, node_at, spare}
use Rattle.oct_arena.specs.Nodes.{link_of, value_of, stored_in, IsRankOf}
use Rattle.oct_tree.specs.declared.place.Place.{Place}
use Rattle.oct_tree.specs.declared.place.Place.TheVariants.{Slot}
use Rattle.oct_tree.specs.Nodes.{inherited, IsKnown, IsCollapsible, IsGreatest}
use Rattle.oct_tree.specs.Tree.{Tree, IsLinked, IsPlace, node_in, block_in, value_at}
use Rattle.oct_tree.specs.Changes.{IsSplit, IsSameOutside, IsWritten, SetsBlock}
use Rattle.oct_tree.proofs.Paths.{some_injective, some_not_none, slot_place, slot_block}
use Rattle.oct_edit.specs.Saturated.{TakesFrom}
use Rattle.oct_edit.specs.Steps.{IsTouched, IsClosed, IsGreaterOf}
use Rattle.oct_edit.specs.Steps.{LeavesBlock, inherited_from}
use Rattle.oct_edit.proofs.Closings.{closed_already}
use Rattle.oct_edit.proofs.Descents.{touched_up}
use Rattle.oct_edit.proofs.Frames.{place_after}
use Rattle.oct_edit.proofs.Insides.{around_lies, above_apart}
use Rattle.oct_edit.proofs.Joins.{IsUnfolded, unfolded_split}
use Rattle.oct_edit.proofs.Takes.{takes_alike}
use Rattle.oct_edit.proofs.Voxels.{touched_voxel}

-- a group of copies of a node n, but for one node m
pub record IsMostly (gs : Groups) (id j : ℕ) (n m : Node) : Type 0 where
  pub index : j < 8
  pub here : node_at gs id j ≡ m
  pub others : (i : ℕ) → i < 8 → i ≢ j → node_at gs id i ≡ n

-- where some of them is known, or where they differ, an edit leaves such a group as it is, if this
-- value is over it
pub record IsLast (n m : Node) (over : ℤ) (lazy : Bool) : Type 0 where
  pub known : (n ≢ Absent) ⊎ (m ≢ Absent)
  pub lean : lazy ≡ false → m ≢ n
  pub most : lazy ≡ false → IsGreaterOf (stored_in n) (stored_in m) over

other_index : (j : ℕ) → (i : ℕ) × (i < 8) × (i ≢ j)
other_index zero = (1, omega arith, λ e. omega arith)
other_index (suc j) = (0, omega arith, λ e. omega arith)

mostly_known : (gs : Groups) (id j : ℕ) (n m : Node) → IsMostly gs id j n m
    → (n ≢ Absent) ⊎ (m ≢ Absent) → IsKnown gs id
mostly_known gs id j n m g (inl some) =
    let (i, few, off) = other_index j in (i, few, λ none. some (sym (g.others i few off) ∙ none))
mostly_known gs id j n m g (inr some) = (j, g.index, λ none. some (sym g.here ∙ none))

mostly_varied : (gs : Groups) (id j : ℕ) (n m : Node) → IsMostly gs id j n m → m ≢ n
    → IsCollapsible gs id → ⊥
mostly_varied gs id j n m g differ (inl none) =
    let (i, few, off) = other_index j in
    differ (sym g.here ∙ none j g.index ∙ sym (none i few) ∙ g.others i few off)
mostly_varied gs id j n m g differ (inr (v, leaf)) =
    let (i, few, off) = other_index j in
    differ (sym g.here ∙ leaf j g.index ∙ sym (leaf i few) ∙ g.others i few off)

mostly_greatest : (gs : Groups) (id j : ℕ) (n m : Node) (over : ℤ) → IsMostly gs id j n m
    → IsGreaterOf (stored_in n) (stored_in m) over → IsGreatest gs id over
mostly_greatest gs id j n m over g most = record {
  there = elim most.there [
    | inl at_n ↦ (let (i, few, off) = other_index j in
        (i, few, ap stored_in (g.others i few off) ∙ at_n))
    | inr at_m ↦ (j, g.index, ap stored_in g.here ∙ at_m)
  ];
  most = λ i v few is. elim (cases_eq i j) [
    | inl same ↦ most.second v
        (sym (ap stored_in g.here) ∙ ap (λ x. stored_in (node_at gs id x)) (sym same) ∙ is)
    | inr off ↦ most.first v (sym (ap stored_in (g.others i few off)) ∙ is)
  ];
}

-- such a group is closed as it is
pub closed_mostly : (w : Tree) (q : Place) (b : Cube) (id : GroupId) (over : ℤ) (j : ℕ)
    (n m : Node) (lazy : Bool)
    → IsLinked w → block_in w q ≡ Some b → node_in w q ≡ Inner over id
    → IsMostly w.groups id.number j n m → IsLast n m over lazy → IsClosed w w b lazy
closed_mostly w q b id over j n m lazy l e link g last =
    closed_already w q b id over lazy l e link
    (mostly_known w.groups id.number j n m g last.known)
    (λ eager. mostly_varied w.groups id.number j n m g (last.lean eager))
    (λ eager. mostly_greatest w.groups id.number j n m over g (last.most eager))

inner_not_plain : (n : Node) (v : ℤ) (id : GroupId) → link_of n ≡ None → Inner v id ≢ n
inner_not_plain Absent v id none e = cc
inner_not_plain (Leaf w) v id none e = cc
inner_not_plain (Inner w x) v id none e = cc

not_absent : (v : ℤ) (id : GroupId) → Inner v id ≢ Absent
not_absent v id e = cc

-- and so is the one above it, where the same node and an Inner node of this value stand
last_above : (n m : Node) (over : ℤ) (id : GroupId) (lazy : Bool) → link_of n ≡ None
    → IsLast n m over lazy → IsLast n (Inner over id) over lazy
last_above n m over id lazy none last = record {
  known = inr (not_absent over id);
  lean = λ _. inner_not_plain n over id none;
  most = λ eager. record {
    there = inr refl;
    first = (last.most eager).first;
    second = λ v is. (let same : over ≡ v = some_injective is in omega (arith, ints, same));
  };
}

-- From a place at the depth from, whose node n links nothing, groups of copies of n were made down
-- to the place q of depth d, where n stands. What an edit does from there on, it does from the
-- first place on, if all the groups are as it leaves them.
pub record IsChain (t u : Tree) (k : Voxel) (event : Event) (lazy : Bool) (n : Node) (over : ℤ)
    (from : ℕ) (q : Place) (d : ℕ) : Type 0 where
  pub linked : IsLinked u
  pub place : IsPlace u q
  pub block : block_in u q ≡ Some (block_of d k)
  pub node : node_in u q ≡ n
  pub odds : u.odds ≡ t.odds
  pub values : SameValues (value_at t) (value_at u)
  pub spare : spare u.groups + d ≡ spare t.groups + from
  pub up : (w : Tree) (m : Node) → IsTouched u w (block_of d k) (event_at (Some k) event) lazy
      → node_in w q ≡ m → IsLast n m over lazy
      → IsTouched t w (block_of from k) (event_at (Some k) event) lazy

pub chain_begun : (t : Tree) (k : Voxel) (event : Event) (lazy : Bool) (n : Node) (over : ℤ)
    (d : ℕ) (p : Place)
    → IsLinked t → IsPlace t p → block_in t p ≡ Some (block_of d k) → node_in t p ≡ n
    → IsChain t t k event lazy n over d p d
chain_begun t k event lazy n over d p l ok e is = record {
  linked = l;
  place = ok;
  block = e;
  node = is;
  odds = refl;
  values = λ q m. refl;
  spare = refl;
  up = λ w m r at last. r;
}

-- one group more
pub chain_more : (t u s : Tree) (k : Voxel) (event : Event) (lazy : Bool) (n : Node) (over : ℤ)
    (from : ℕ) (q : Place) (d i : ℕ) (id : GroupId)
    → IsChain t u k event lazy n over from q d → d < 16 → IsInMap k → link_of n ≡ None
    → (lazy ≡ true → over ≡ inherited n) → TakesFrom t.odds (event_at (Some k) event) (value_at t) k
    → i < 8 → block_of (d + 1) k ≡ child_of (block_of d k) i → IsSplit u s q id over
    → SameValues (value_at u) (value_at s) → IsSameOutside u s (block_of d k) → IsLinked s
    → IsChain t s k event lazy n over from (Slot id i) (d + 1)
chain_more t u s k event lazy n over from q d i id c low v none inherits takes li step split same
    out
    ls =
    record {
      linked = ls;
      place = slot_place s ls q e.place id i link li;
      block = slot_block s ls q id i (block_of d k) link e.block ∙ ap Some (sym step);
      node = split.copies i li ∙ c.node;
      odds = split.odds ∙ c.odds;
      values = λ x m. c.values x m ∙ same x m;
      spare = (let one = split.spare in let before = c.spare in omega (arith, one, before));
      up = λ w m r at last. c.up w (Inner over id)
          (touched_up u s w w q d k id event lazy c.linked low v e r (closed w m r at last)
          takes_on)
          (above w r) (last_above n m over id lazy none last);
    }
  where
    e : IsUnfolded u s q (block_of d k) id lazy
    e = unfolded_split u s q (block_of d k) id over lazy c.linked c.place c.block
        (ap link_of c.node ∙ none) split same out ls
        (λ is. inherits is ∙ ap inherited (sym c.node))

    link : link_of (node_in s q) ≡ Some id.number
    link = ap link_of split.link

    takes_on : TakesFrom u.odds (event_at (Some k) event) (value_at u) k
    takes_on =
        takes_alike t.odds u.odds (event_at (Some k) event) (event_at (Some k) event) (value_at t)
        (value_at u) k (sym c.odds) refl (c.values k v) takes

    above : (w : Tree) → IsTouched s w (block_of (d + 1) k) (event_at (Some k) event) lazy
        → node_in w q ≡ Inner over id
    above w r =
        r.apart.outside.nodes q (block_of d k)
        (λ f. above_apart d (d + 1) k (omega arith) (omega arith) f) e.block
        ∙ split.link

    others : (w : Tree) → IsTouched s w (block_of (d + 1) k) (event_at (Some k) event) lazy
        → (j : ℕ) → j < 8 → j ≢ i → node_at w.groups id.number j ≡ n
    others w r j lj off =
        r.apart.outside.nodes (Slot id j) (child_of (block_of d k) j)
        (λ f. nested.apart (block_of d k) (child_of (block_of d k) j) j i
        (let deep = depth_block_of d k in omega (arith, deep, low)) lj li off
        (lies_in_self (child_of (block_of d k) j))
        (subst (λ a. LiesIn (child_of (block_of d k) j) a) step f))
        (slot_block s ls q id j (block_of d k) link e.block)
        ∙ split.copies j lj ∙ c.node

    closed : (w : Tree) (m : Node)
        → IsTouched s w (block_of (d + 1) k) (event_at (Some k) event) lazy
        → node_in w (Slot id i) ≡ m → IsLast n m over lazy → IsClosed w w (block_of d k) lazy
    closed w m r at last =
        closed_mostly w q (block_of d k) id over i n m lazy r.linked
        (place_after s w q (block_of d k) (block_of (d + 1) k) ls e.place e.block r.apart.outside
        (around_lies d (d + 1) k (omega arith) (omega arith))).1
        (above w r) (record { index = li; here = at; others = others w r }) last

-- and the voxel's value at the end
pub chain_ended : (t u w : Tree) (k : Voxel) (event : Event) (lazy : Bool) (n : Node) (over : ℤ)
    (from : ℕ) (q : Place) (d : ℕ) (m : Node)
    → IsChain t u k event lazy n over from q d → d ≡ 16 → IsInMap k → IsLinked w
    → link_of m ≡ None → IsWritten u w q m
    → ((b : Cube) → block_in u q ≡ Some b → SetsBlock (value_at u) (value_at w) b (value_of m))
    → ((b : Cube) → block_in u q ≡ Some b → IsSameOutside u w b)
    → value_of m ≡ applied t.odds event (value_of n) → IsLast n m over lazy
    → IsTouched t w (block_of from k) (event_at (Some k) event) lazy
chain_ended t u w k event lazy n over from q d m c bottom v lw none written sets out is last =
    let e : block_in u q ≡ Some (block_of 16 k) =
    c.block ∙ ap (λ x. Some (block_of x k)) bottom in
    let value : value_of m ≡ applied u.odds event (value_of (node_in u q)) =
    is ∙ ap (λ (o : Odds). applied o event (value_of n)) (sym c.odds)
    ∙ ap (λ x. applied u.odds event (value_of x)) (sym c.node) in
    c.up w m
    (subst (λ x. IsTouched u w (block_of x k) (event_at (Some k) event) lazy) (sym bottom)
    (touched_voxel u w q k m event lazy c.linked c.place e v lw none written
    (sets (block_of 16 k) e) (out (block_of 16 k) e) value))
    written.there last

-- a node that is not Inner has its value stored
plain_stored : (n : Node) → link_of n ≡ None → stored_in n ≡ value_of n
plain_stored Absent none = refl
plain_stored (Leaf v) none = refl
plain_stored (Inner v id) none = cc

plain_known : (n m : Node) → link_of n ≡ None → value_of m ≢ value_of n
    → (n ≢ Absent) ⊎ (m ≢ Absent)
plain_known Absent m none differ = inr (λ e. differ (ap value_of e))
plain_known (Leaf v) m none differ = inl (λ e. cc)
plain_known (Inner v id) m none differ = inl (λ e. cc)

expands : (value new : Value) (lazy : Bool) → (LeavesBlock value new lazy → ⊥)
    → (new ≢ value) ⊎ ((lazy ≡ true) × (value ≢ None))
expands value new false other = inl (λ e. other (e, λ is. absurd (true≢false (sym is))))
expands None new true other = inl (λ e. other (e, λ _. refl))
expands (Some v) new true other = inr (refl, λ e. some_not_none refl e)

-- Where the voxel's new value isn't that of the block around it, or the edit is lazy and the block
-- is known, no group on the way is to be given back.
pub leaf_last : (n m : Node) (over : ℤ) (lazy : Bool) → link_of n ≡ None → link_of m ≡ None
    → (LeavesBlock (value_of n) (value_of m) lazy → ⊥)
    → (lazy ≡ false → IsGreaterOf (value_of n) (value_of m) over) → IsLast n m over lazy
leaf_last n m over lazy none plain other most = record {
  known = elim so [
    | inl differ ↦ plain_known n m none differ
    | inr known ↦ inl (λ e. known.1 (ap value_of e))
  ];
  lean = λ eager. elim so [
    | inl differ ↦ λ e. differ (ap value_of e)
    | inr known ↦ absurd (true≢false (sym known.0 ∙ eager))
  ];
  most = λ eager. subst (λ a. IsGreaterOf a (stored_in m) over) (sym (plain_stored n none))
      (subst (λ a. IsGreaterOf (value_of n) a over) (sym (plain_stored m plain)) (most eager));
}
  where
    so : (value_of m ≢ value_of n) ⊎ ((lazy ≡ true) × (value_of n ≢ None))
    so = expands (value_of n) (value_of m) lazy other

-- what the event makes of the node's value
pub made_of : (o p : Odds) (event : Event) (value new : Value) (n : Node)
    → new ≡ applied o event value → o ≡ p → value ≡ value_of n → new ≡ applied p event (value_of n)
made_of o p event value new n made odds read =
    made ∙ ap (λ (a : Odds). applied a event value) odds ∙ ap (applied p event) read

-- what a node that is not Inner hands on
pub plain_inherited : (n : Node) → link_of n ≡ None → inherited_from (value_of n) ≡ inherited n
plain_inherited Absent none = refl
plain_inherited (Leaf v) none = refl
plain_inherited (Inner v id) none = refl

-- the greater rank of two values that differ is that of the greater one
pub greater_is : (a b : Value) (ra rb m : ℤ) → IsRankOf a ra → IsRankOf b rb → ra ≤ℤ m → rb ≤ℤ m
    → (m ≡ ra) ⊎ (m ≡ rb) → a ≢ b → IsGreaterOf a b m
greater_is None None ra rb m f g l h e differ = absurd (differ refl)
greater_is None (Some w) ra rb m f g l h e differ =
    let is : w ≡ m = second_is e in
    record {
      there = inr (ap Some is);
      first = λ v none. absurd (some_not_none none refl);
      second = λ v at. (let same : w ≡ v = some_injective at in omega (arith, ints, same, is));
    }
  where
    second_is : (m ≡ ra) ⊎ (m ≡ rb) → w ≡ m
    second_is (inl low) =
        (let at = g.0 in let high = g.1 in omega (arith, ints, low, f, at, high, h))
    second_is (inr on) = sym g.0 ∙ sym on
greater_is (Some v) None ra rb m f g l h e differ =
    let is : v ≡ m = first_is e in
    record {
      there = inl (ap Some is);
      first = λ w at. (let same : v ≡ w = some_injective at in omega (arith, ints, same, is));
      second = λ w none. absurd (some_not_none none refl);
    }
  where
    first_is : (m ≡ ra) ⊎ (m ≡ rb) → v ≡ m
    first_is (inl on) = sym f.0 ∙ sym on
    first_is (inr low) =
        (let at = f.0 in let high = f.1 in omega (arith, ints, low, g, at, high, l))
greater_is (Some v) (Some w) ra rb m f g l h e differ = record {
  there = elim e [
    | inl on ↦ inl (ap Some (sym f.0 ∙ sym on))
    | inr on ↦ inr (ap Some (sym g.0 ∙ sym on))
  ];
  first = λ x at. (let same : v ≡ x = some_injective at in
      let is = f.0 in omega (arith, ints, same, is, l));
  second = λ x at. (let same : w ≡ x = some_injective at in
      let is = g.0 in omega (arith, ints, same, is, h));
}
