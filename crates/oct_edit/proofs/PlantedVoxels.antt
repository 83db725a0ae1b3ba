-- The voxels of an octet none of which is hit, one by one.
use Rattle.std.proofs.Common.{◌≡◌, ℕ, ◌<◌, ◌==◌, [], ◌∷◌, map, refl, sym, subst, ◌∙◌, ap, arith}
use Rattle.std.proofs.Common.{Some, None, Bool, false, bit_and, inl, inr}
use Rattle.std.specs.Prelude.{ℤ, if◌then◌else◌, Option, IfSome}
use Rattle.std.specs.Int.{bit_not, w64}
use Rattle.std.proofs.lemmas.Nat.{and_le_l}
use Rattle.oct_key.specs.Voxel.{Voxel, IsInMap}
use Rattle.oct_key.specs.Block.{Cube, IsBlock, HoldsVoxel, block_of}
use Rattle.oct_odds.specs.Odds.{Odds}
use Rattle.oct_odds.specs.Update.{applied, IsWithin}
use Rattle.oct_odds.specs.declared.event.Event.{Event}
use Rattle.oct_values.specs.Events.{event_at}
use Rattle.oct_arena.specs.declared.node.GroupId.{GroupId}
use Rattle.oct_arena.specs.declared.node.Node.TheVariants.{Absent, Leaf}
use Rattle.oct_arena.specs.Nodes.{link_of, value_of}
use Rattle.oct_tree.specs.declared.place.Place.{Place}
use Rattle.oct_tree.specs.declared.place.Place.TheVariants.{Slot}
use Rattle.oct_tree.specs.Tree.{Tree, IsLinked, IsPlace, node_in, block_in, value_at}
use Rattle.oct_tree.specs.Changes.{IsSameOutside, IsWritten, IsSplit, SetsBlock}
use Rattle.oct_brick.specs.declared.brick.Brick.{Brick}
use Rattle.oct_brick.specs.Voxels.{hit_voxels}
use Rattle.oct_key.proofs.Nested.{lies_in_self}
use Rattle.oct_edit.specs.Listed.{ListedUpdate, update_of}
use Rattle.oct_edit.specs.Scan.{events_of}
use Rattle.oct_edit.specs.Steps.{IsTouched}
use Rattle.oct_edit.proofs.Frames.{place_after}
use Rattle.oct_edit.proofs.Voxels.{touched_voxel}
use Rattle.oct_edit.proofs.Shares.{first_not_done, none_not_some}
use Rattle.oct_edit.specs.Bricks.{FillsBlock}
use Rattle.oct_edit.proofs.Updates.{way_slot}
use Rattle.oct_edit.proofs.BrickRest.{rests_none}
use Rattle.oct_edit.proofs.BrickWays.{IsAtVoxel, voxel_index, voxel_next, part_of, part_is}
use Rattle.oct_edit.proofs.Planting.{fresh_slot, miss_or_none}

-- a mask without a bit has none in another mask
none_within : (m x : ℕ) → m ≡ 0 → bit_and m x ≡ 0
none_within m x none = (let less = and_le_l m x in omega (arith, less, none))

pub still_freed : (m part x : ℕ) → part ≡ bit_and m x → m ≡ 0 → part ≡ 0
still_freed m part x is none = is ∙ none_within m x none

-- so each of its voxels has the miss's event
pub freed_event : (r : Brick) (x : ℕ) (hit miss : Event) → r.hits ≡ 0
    → miss ≡ (if bit_and r.hits x == 0 then miss else hit)
freed_event r x hit miss none = rw (none_within r.hits x none) refl

pub no_hits : (b : Brick) → b.hits ≡ 0 → hit_voxels (b ∷ []) ≡ []
no_hits b none = rests_none (λ b. b.hits) b b.hits refl (rw none refl)

pub within_after : (o a : Odds) (v : ℤ) → a ≡ o → IsWithin o (Some v) → IsWithin a (Some v)
within_after o a v same h = subst (λ p. IsWithin p (Some v)) (sym same) h

-- where nothing is hit, each voxel of a block that an update fills has the miss
pub all_missed : (b : Cube) (r : Brick) (hit miss : Event) → r.hits ≡ 0
    → FillsBlock b (update_of (r ∷ []) hit miss) → (k : Voxel) → IsInMap k → HoldsVoxel b k
    → events_of (update_of (r ∷ []) hit miss) k ≡ Some miss
all_missed b r hit miss freed full k v held =
    elim (miss_or_none (update_of (r ∷ []) hit miss) k (no_hits r freed)) [
      | inl none ↦ absurd (none_not_some _ none (full k v held))
      | inr is ↦ is
    ]

-- a voxel of it that is set to the value takes the miss
pub voxel_planted : (t s w z : Tree) (p : Place) (b : Cube) (id : GroupId) (m : ℤ)
    (u : ListedUpdate) (whole r : Brick) (hit miss : Event) (x : ℕ)
    → IsLinked s → IsLinked t → IsPlace t p → block_in t p ≡ Some b → IsSameOutside t s b
    → IsBlock b → IsSplit t s p id m → node_in t p ≡ Absent → Some m ≡ applied t.odds u.miss None
    → IsAtVoxel s w p b u whole r hit miss x false → IsLinked z
    → IsWritten w z (Slot id (voxel_index r)) (Leaf m)
    → ((c : Cube) → block_in w (Slot id (voxel_index r)) ≡ Some c
    → SetsBlock (value_at w) (value_at z) c (value_of (Leaf m)))
    → ((c : Cube) → block_in w (Slot id (voxel_index r)) ≡ Some c → IsSameOutside w z c)
    → (k : Voxel) (lazy : Bool) → IsInMap k
    → block_in w (Slot id (voxel_index r)) ≡ Some (block_of 16 k)
    → IsTouched w z (block_of 16 k) (event_at (Some k) miss) lazy
voxel_planted t s w z p b id m u whole r hit miss x ls l ok e out map sp absent value h lz written
    values outside k lazy v at =
    let i : ℕ = voxel_index r in
    let few : i < 8 = omega arith in
    let deep = h.deep in
    let after = place_after t s p b b l ok e out (lies_in_self b) in
    let place =
    way_slot s w p b id i u (update_of (r ∷ []) hit miss) false few (ap link_of sp.link) h.way in
    let round =
    voxel_next s w p b u whole r (part_of r (bit_not w64 x)) hit miss x false h
    (part_is r (bit_not w64 x)) in
    let up =
    first_not_done b h.way.next i u.hits u.frees (update_of (r ∷ []) hit miss).hits
    (update_of (r ∷ []) hit miss).frees h.way.hits h.way.frees round.first in
    let fresh : node_in w (Slot id i) ≡ Absent =
    fresh_slot t s w p b id m h.way.next i (events_of u) ls after.0 after.1 map
    (omega (arith, deep)) sp h.way.done up few
    ∙ absent in
    touched_voxel w z (Slot id i) k (Leaf m) miss lazy h.way.done.linked place.0 at v lz refl
    written (values (block_of 16 k) at) (outside (block_of 16 k) at)
    (value ∙ ap (λ (o : Odds). applied o u.miss None)
    (sym (h.way.done.apart.outside.odds ∙ sp.odds))
    ∙ ap (λ event. applied w.odds event None) (sym h.way.miss)
    ∙ ap (λ n. applied w.odds miss (value_of n)) (sym fresh))

-- what holds of a value, where there is one
pub when_some : {A : Type 0} (P : A → Type 0) (o : Option A) → ((x : A) → o ≡ Some x → P x)
    → IfSome o P
when_some P None h = tt
when_some P (Some x) h = h x refl
