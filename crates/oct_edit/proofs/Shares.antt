-- The events of a part of an update.
use Rattle.std.proofs.Common.{◌≡◌, ℕ, ◌<◌, ◌≤◌, Bool, true, false, cond, List, inl, inr, refl, sym}
use Rattle.std.proofs.Common.{◌∙◌, ap, arith, Some, None}
use Rattle.std.specs.Prelude.{◌⊎◌, Option, IsSome, is_some}
use Rattle.std.specs.List.{All}
use Rattle.std.proofs.lemmas.Bool.{false≢true}
use Rattle.oct_key.specs.Voxel.{Voxel, IsInMap}
use Rattle.oct_key.specs.Block.{Cube, HoldsVoxel, child_of, child_index_of}
use Rattle.oct_key.proofs.Blocks.{child_holds}
use Rattle.oct_odds.specs.declared.event.Event.{Event}
use Rattle.oct_values.specs.Events.{is_listed}
use Rattle.oct_edit.specs.Listed.{ListedUpdate}
use Rattle.oct_edit.specs.Steps.{Reaches}
use Rattle.oct_edit.specs.Scan.{events_of, AreDisjoint}
use Rattle.oct_edit.specs.Parts.{AreIn, IsFirstChild, IsUpdateIn}
use Rattle.oct_edit.proofs.UnderWay.{IsShare, AreLeft}
use Rattle.oct_edit.proofs.Keys.{IsParted, listed_has, unlisted, listed_here, part_of_child}

-- an event by what lists the voxel
pub one_of : Bool → Bool → Event → Event → Option Event
one_of in_hits in_frees hit miss = cond in_hits (Some hit) (cond in_frees (Some miss) None)

-- updates that list a voxel alike have one event there
pub same_event : (u v : ListedUpdate) (k : Voxel) → is_listed u.hits k ≡ is_listed v.hits k
    → is_listed u.frees k ≡ is_listed v.frees k → u.hit ≡ v.hit → u.miss ≡ v.miss
    → events_of u k ≡ events_of v k
unfolding one_of
same_event u v k hits frees hit miss =
    ap (λ a. one_of a (is_listed u.frees k) u.hit u.miss) hits
    ∙ ap (λ b. one_of (is_listed v.hits k) b u.hit u.miss) frees
    ∙ ap (λ h. one_of (is_listed v.hits k) (is_listed v.frees k) h u.miss) hit
    ∙ ap (λ m. one_of (is_listed v.hits k) (is_listed v.frees k) v.hit m) miss

-- a voxel in neither list has no event
pub no_event : (u : ListedUpdate) (k : Voxel) → is_listed u.hits k ≡ false
    → is_listed u.frees k ≡ false → events_of u k ≡ None
unfolding one_of
no_event u k hits frees =
    ap (λ a. one_of a (is_listed u.frees k) u.hit u.miss) hits
    ∙ ap (λ b. one_of false b u.hit u.miss) frees

-- one that is hit has the hit's, and one that is freed and not hit the miss's
pub hit_event : (u : ListedUpdate) (k : Voxel) → is_listed u.hits k ≡ true
    → events_of u k ≡ Some u.hit
unfolding one_of
hit_event u k hits = ap (λ a. one_of a (is_listed u.frees k) u.hit u.miss) hits

pub miss_event : (u : ListedUpdate) (k : Voxel) → is_listed u.hits k ≡ false
    → is_listed u.frees k ≡ true → events_of u k ≡ Some u.miss
unfolding one_of
miss_event u k hits frees =
    ap (λ a. one_of a (is_listed u.frees k) u.hit u.miss) hits
    ∙ ap (λ b. one_of false b u.hit u.miss) frees

-- the three cases of a voxel
pub data Case (u : ListedUpdate) (k : Voxel) : Type 0 where
  is_hit : is_listed u.hits k ≡ true → events_of u k ≡ Some u.hit → Case u k
  is_freed : is_listed u.hits k ≡ false → is_listed u.frees k ≡ true → events_of u k ≡ Some u.miss
      → Case u k
  is_left : is_listed u.hits k ≡ false → is_listed u.frees k ≡ false → events_of u k ≡ None
      → Case u k

pub case_of : (u : ListedUpdate) (k : Voxel) → Case u k
case_of u k = go (is_listed u.hits k) (is_listed u.frees k) refl refl
  where
    go : (a b : Bool) → is_listed u.hits k ≡ a → is_listed u.frees k ≡ b → Case u k
    go true b e f = is_hit e (hit_event u k e)
    go false true e f = is_freed e f (miss_event u k e f)
    go false false e f = is_left e f (no_event u k e f)

pub none_not_some : {A : Type 0} (o : Option A) → o ≡ None → IsSome o → ⊥
none_not_some o e h = false≢true (sym (ap is_some e) ∙ h)

-- a voxel with an event has what all listed voxels have
pub event_has : (P : Voxel → Type 0) (u : ListedUpdate) (k : Voxel) → All P u.hits → All P u.frees
    → IsSome (events_of u k) → P k
event_has P u k hits frees some = elim (case_of u k) [
  | is_hit e _ ↦ listed_has P u.hits k hits e
  | is_freed _ e _ ↦ listed_has P u.frees k frees e
  | is_left _ _ none ↦ absurd (none_not_some (events_of u k) none some)
]

-- where no listed voxel is like this one, it has no event
pub event_none : (P : Voxel → Type 0) (u : ListedUpdate) (k : Voxel) → All P u.hits → All P u.frees
    → (P k → ⊥) → events_of u k ≡ None
event_none P u k hits frees out =
    no_event u k (unlisted P u.hits k hits out) (unlisted P u.frees k frees out)

pub some_event : (u : ListedUpdate) (k : Voxel)
    → (is_listed u.hits k ≡ true) ⊎ (is_listed u.frees k ≡ true) → IsSome (events_of u k)
some_event u k listed = elim (case_of u k) [
  | is_hit _ e ↦ ap is_some e
  | is_freed _ _ e ↦ ap is_some e
  | is_left a b _ ↦ absurd (elim listed [
    | inl h ↦ false≢true (sym a ∙ h)
    | inr h ↦ false≢true (sym b ∙ h)
  ])
]

-- an update reaches the block of its voxels
pub reaches_of : (b : Cube) (u : ListedUpdate) (k : Voxel) → AreIn b u.hits → AreIn b u.frees
    → IsInMap k → IsSome (events_of u k) → Reaches (events_of u) b b
reaches_of b u k hits frees v some =
    let held : HoldsVoxel b k =
    event_has (λ q. IsInMap q → HoldsVoxel b q) u k hits.held frees.held some v in
    record { voxel = k; in_map = v; here = held; there = held; event = some }

-- the first child isn't one of those that were done
pub first_not_done : (b : Cube) (j i : ℕ) (keys keys' rest rest' : List Voxel)
    → AreLeft b j keys rest → AreLeft b j keys' rest' → IsFirstChild b.depth rest rest' i → j ≤ i
first_not_done b j i keys keys' rest rest' h f first =
    let e = first.there in
    elim first.listed [
      | inl is ↦ (let at = listed_has (λ k. j ≤ child_index_of b.depth k) rest first.voxel h.from
          is in
          omega (arith, at, e))
      | inr is ↦ (let at = listed_has (λ k. j ≤ child_index_of b.depth k) rest' first.voxel f.from
          is in
          omega (arith, at, e))
    ]

-- the part of the first child has its voxel
pub first_in_part : (depth i : ℕ) (hits frees part part' later later' : List Voxel)
    → (first : IsFirstChild depth hits frees i) → IsParted depth i hits part later
    → IsParted depth i frees part' later'
    → (is_listed part first.voxel ≡ true) ⊎ (is_listed part' first.voxel ≡ true)
first_in_part depth i hits frees part part' later later' first h f =
    let e = first.there in
    elim first.listed [
      | inl is ↦ inl (listed_here depth i hits part later first.voxel h (omega (arith, e)) ∙ is)
      | inr is ↦ inr (listed_here depth i frees part' later' first.voxel f (omega (arith, e)) ∙ is)
    ]

-- a voxel of a part of what is left is one of all
part_listed : (b : Cube) (j i : ℕ) (keys rest part later : List Voxel) (k : Voxel)
    → AreLeft b j keys rest → IsParted b.depth i rest part later → is_listed part k ≡ true
    → is_listed keys k ≡ true
part_listed b j i keys rest part later k left h listed =
    let low : child_index_of b.depth k ≤ i =
    listed_has (λ q. child_index_of b.depth q ≤ i) part k h.here listed in
    let there : is_listed rest k ≡ true =
    sym (listed_here b.depth i rest part later k h low) ∙ listed in
    sym (left.listed k (listed_has (λ q. j ≤ child_index_of b.depth q) rest k left.from there))
    ∙ there

-- so that the parts of two lists with no voxel in common have none either
part_apart : (b : Cube) (j i : ℕ) (u rest part later : ListedUpdate) → AreLeft b j u.hits rest.hits
    → AreLeft b j u.frees rest.frees → IsParted b.depth i rest.hits part.hits later.hits
    → IsParted b.depth i rest.frees part.frees later.frees → AreDisjoint u.hits u.frees
    → AreDisjoint part.hits part.frees
part_apart b j i u rest part later hits frees h f apart k hit freed =
    apart k (part_listed b j i u.hits rest.hits part.hits later.hits k hits h hit)
    (part_listed b j i u.frees rest.frees part.frees later.frees k frees f freed)

-- an update of the voxels of one child
pub part_update : (b : Cube) (j i : ℕ) (u rest part later : ListedUpdate) → b.depth ≤ 15
    → AreLeft b j u.hits rest.hits → AreLeft b j u.frees rest.frees → AreDisjoint u.hits u.frees
    → IsFirstChild b.depth rest.hits rest.frees i
    → IsParted b.depth i rest.hits part.hits later.hits
    → IsParted b.depth i rest.frees part.frees later.frees → IsUpdateIn (child_of b i) part
part_update b j i u rest part later low left_hits left_frees apart first h f =
    let hits = left_hits.inside in
    let frees = left_frees.inside in
    let few : i < 8 = (let l = first.few in omega (arith, l)) in
    let in_hits = part_of_child b i rest.hits part.hits later.hits low few hits first.least_hit h in
    let in_frees =
    part_of_child b i rest.frees part.frees later.frees low few frees first.least_free f in
    record {
      hits = in_hits;
      frees = in_frees;
      apart = part_apart b j i u rest part later left_hits left_frees h f apart;
      some =
          reaches_of (child_of b i) part first.voxel in_hits in_frees first.in_map
          (some_event part first.voxel
          (first_in_part b.depth i rest.hits rest.frees part.hits part.frees later.hits
          later.frees first h f));
    }

-- its events are the update's within the child
pub part_share : (b : Cube) (j i : ℕ) (u rest part later : ListedUpdate) → b.depth ≤ 15 → i < 8
    → j ≤ i → AreLeft b j u.hits rest.hits → AreLeft b j u.frees rest.frees
    → IsParted b.depth i rest.hits part.hits later.hits
    → IsParted b.depth i rest.frees part.frees later.frees → part.hit ≡ u.hit → part.miss ≡ u.miss
    → IsUpdateIn (child_of b i) part → IsShare b i (events_of u) (events_of part)
part_share b j i u rest part later low few up hits frees h f hit miss inside = record {
  same = λ k v held. (let at = (child_holds b i k (omega arith) few).0 held in let e = at.1 in
      same_event part u k
      (listed_here b.depth i rest.hits part.hits later.hits k h (omega (arith, e))
      ∙ hits.listed k (omega (arith, e, up)))
      (listed_here b.depth i rest.frees part.frees later.frees k f (omega (arith, e))
      ∙ frees.listed k (omega (arith, e, up)))
      hit miss);
  only =
      λ k v some. event_has (λ k. IsInMap k → HoldsVoxel (child_of b i) k) part k inside.hits.held
      inside.frees.held some v;
}

-- between the children that were done and the first of the rest there is no event
pub none_between : (b : Cube) (j i : ℕ) (u rest : ListedUpdate) → AreLeft b j u.hits rest.hits
    → AreLeft b j u.frees rest.frees → All (λ k. i ≤ child_index_of b.depth k) rest.hits
    → All (λ k. i ≤ child_index_of b.depth k) rest.frees → (k : Voxel)
    → j ≤ child_index_of b.depth k → child_index_of b.depth k < i → events_of u k ≡ None
none_between b j i u rest hits frees from_hits from_frees k low high =
    no_event u k
    (sym (hits.listed k low)
    ∙ unlisted (λ q. i ≤ child_index_of b.depth q) rest.hits k from_hits
    (λ l. absurd (omega arith)))
    (sym (frees.listed k low)
    ∙ unlisted (λ q. i ≤ child_index_of b.depth q) rest.frees k from_frees
    (λ l. absurd (omega arith)))
