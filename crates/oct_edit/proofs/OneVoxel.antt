-- What the whole edit of one voxel promises.
use Rattle.std.proofs.Common.{◌≡◌, ◌≤◌, ◌≤ℤ◌, ◌+◌, ◌∙◌, subst, sym, inl, inr, refl, Some, Bool}
use Rattle.std.proofs.Common.{arith}
use Rattle.std.specs.Prelude.{IsTrue}
use Rattle.oct_key.specs.Voxel.{Voxel, IsInMap}
use Rattle.oct_key.specs.Block.{block_of, root_block}
use Rattle.oct_key.proofs.Blocks.{block_of_root}
use Rattle.oct_odds.specs.declared.event.Event.{Event}
use Rattle.oct_values.specs.Events.{event_at}
use Rattle.oct_arena.specs.Entries.{live, spare}
use Rattle.oct_tree.specs.Tree.{Tree, reach, value_at}
use Rattle.oct_tree.specs.Shape.{IsWellFormed}
use Rattle.oct_edit.specs.Saturated.{IsSaturated, TakesFrom}
use Rattle.oct_edit.specs.Edits.{IsEdited, IsEagerEdit, IsLazyEdit}
use Rattle.oct_edit.specs.Steps.{IsTouched}
use Rattle.oct_edit.specs.Touch.{HasTouched}
use Rattle.oct_edit.proofs.Clamps.{saturated_values}
use Rattle.oct_edit.proofs.Paths.{become_same}
use Rattle.oct_edit.proofs.Takes.{takes_event}
use Rattle.oct_edit.proofs.Voxels.{event_here, event_only}
use Rattle.oct_tree.proofs.Paths.{some_injective}
use Rattle.oct_edit.proofs.Wholes.{same_total, whole_edited, whole_eager, whole_lazy}

-- the edit from the whole map on
pub at_root : (t u : Tree) (k : Voxel) (event : Event) (lazy : Bool) → IsInMap k
    → IsTouched t u (block_of 0 k) (event_at (Some k) event) lazy
    → IsTouched t u root_block (event_at (Some k) event) lazy
at_root t u k event lazy v r =
    subst (λ b. IsTouched t u b (event_at (Some k) event) lazy) (block_of_root k v) r

-- a voxel that isn't saturated takes something from the event on it
pub takes_here : (t : Tree) (k : Voxel) (event : Event)
    → (IsSaturated t.odds event (value_at t k) → ⊥)
    → TakesFrom t.odds (event_at (Some k) event) (value_at t) k
takes_here t k event more = (event, event_here k event, more)

-- where the voxel is saturated, no voxel takes anything
none_takes : (t : Tree) (k q : Voxel) (event : Event) → IsSaturated t.odds event (value_at t k)
    → TakesFrom t.odds (event_at (Some k) event) (value_at t) q → ⊥
none_takes t k q event full (taken, is, more) =
    let same : q ≡ k =
    event_only k q event (takes_event t.odds (event_at (Some k) event) (value_at t) q
    (taken, is, more)) in
    let taken_is : event ≡ taken = some_injective (sym (event_here k event) ∙ subst
    (λ a. event_at (Some k) event a ≡ Some taken) same is) in
    more (subst (λ a. IsSaturated t.odds taken (value_at t a)) (sym same)
    (subst (λ a. IsSaturated t.odds a (value_at t k)) taken_is full))

-- and the tree as it is was edited
pub saturated_edited : (t : Tree) (k : Voxel) (event : Event) → t.odds.min ≤ℤ t.odds.max
    → IsSaturated t.odds event (value_at t k) → IsWellFormed t
    → IsEdited t t (event_at (Some k) event)
saturated_edited t k event bounds full formed = record {
  values = λ q v. sym (saturated_values t.odds (value_at t) k q event bounds full);
  well_formed = formed;
  res = refl;
  odds = refl;
  kept = λ x c out home. refl;
  made = λ x c home. inl refl;
  inner = λ q id v c out link home. link;
  expanded = λ x c home. inl (x, home);
}

pub saturated_eager : (t : Tree) (k : Voxel) (event : Event)
    → IsSaturated t.odds event (value_at t k) → IsEagerEdit t t (event_at (Some k) event)
saturated_eager t k event full = record {
  path = λ q v takes. absurd (none_takes t k q event full takes);
  fresh = λ fresh. fresh;
  pruned = λ pruned. pruned;
}

pub saturated_lazy : (t : Tree) (k : Voxel) (event : Event)
    → IsSaturated t.odds event (value_at t k) → IsLazyEdit t t (event_at (Some k) event)
saturated_lazy t k event full = record {
  nodes = λ d q _ _. become_same (reach t d q);
  expanded = λ d q _ v takes. absurd (none_takes t k q event full takes);
}

-- this many groups more at most
pub sixteen_more : (t u : Tree) (k : Voxel) (event : Event) (lazy : Bool)
    → IsTouched t u root_block (event_at (Some k) event) lazy
    → spare t.groups ≤ spare u.groups + 16 → live u.groups ≤ live t.groups + 16
sixteen_more t u k event lazy r room =
    let total = same_total t.groups u.groups r.apart.outside.length in omega (arith, total, room)

-- What an event on one voxel promises, whether the voxel is saturated or not.
pub record IsVoxelEdit (t u : Tree) (k : Voxel) (event : Event) (lazy : Bool) : Type 0 where
  pub edited : IsEdited t u (event_at (Some k) event)
  pub eager : (IsTrue lazy → ⊥) → IsEagerEdit t u (event_at (Some k) event)
  pub lazily : IsTrue lazy → IsLazyEdit t u (event_at (Some k) event)
  pub saturated : IsSaturated t.odds event (value_at t k) → u ≡ t
  pub groups : live u.groups ≤ live t.groups + 16
  pub room : live u.groups + spare u.groups ≡ live t.groups + spare t.groups

nothing_done : (t : Tree) (k : Voxel) (event : Event) (lazy : Bool) → IsWellFormed t
    → t.odds.min ≤ℤ t.odds.max → IsSaturated t.odds event (value_at t k)
    → IsVoxelEdit t t k event lazy
nothing_done t k event lazy formed bounds full = record {
  edited = saturated_edited t k event bounds full formed;
  eager = λ _. saturated_eager t k event full;
  lazily = λ _. saturated_lazy t k event full;
  saturated = λ _. refl;
  groups = omega arith;
  room = refl;
}

pub voxel_edit : (t u : Tree) (k : Voxel) (event : Event) (lazy : Bool) → IsInMap k
    → IsWellFormed t → HasTouched t u k event lazy → IsVoxelEdit t u k event lazy
voxel_edit t u k event lazy v formed (inl left) =
    subst (λ w. IsVoxelEdit t w k event lazy) (sym left.same)
    (nothing_done t k event lazy formed left.bounds left.full)
voxel_edit t u k event lazy v formed (inr done) =
    let whole = at_root t u k event lazy v done.touched in
    record {
      edited = whole_edited t u (event_at (Some k) event) lazy whole formed;
      eager = λ eager. whole_eager t u (event_at (Some k) event) lazy whole eager;
      lazily = λ is. whole_lazy t u (event_at (Some k) event) lazy whole is;
      saturated = λ full. absurd (done.takes full);
      groups = sixteen_more t u k event lazy whole done.spare;
      room = same_total t.groups u.groups done.touched.apart.outside.length;
    }
