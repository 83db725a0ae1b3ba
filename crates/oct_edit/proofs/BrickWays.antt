-- Rounds over octets and voxels, as the code makes them.
use Rattle.std.proofs.Common.{◌≡◌, ◌≢◌, ℕ, ◌+◌, ◌-◌, ◌*◌, ◌/◌, ◌%◌, ◌^◌, ◌<◌, ◌≤◌, [], ◌∷◌, Some}
use Rattle.std.proofs.Common.{refl, ◌∙◌, ap, arith, bit_and}
use Rattle.std.specs.Int.{bit_not, w64, trailing_zeros}
use Rattle.std.proofs.lemmas.Nat.{one_shl}
use Rattle.std.proofs.lemmas.Nat.Bits.{bit_at-trailing_zeros}
use Rattle.std.specs.Prelude.{◌==◌, if◌then◌else◌, Bool}
use Rattle.oct_key.specs.Voxel.{Voxel, IsInMap}
use Rattle.oct_key.specs.Block.{Cube, IsBlock, block_of, child_of}
use Rattle.oct_key.proofs.Blocks.{depth_child_of}
use Rattle.oct_values.specs.Events.{event_at}
use Rattle.oct_arena.specs.declared.node.GroupId.{GroupId}
use Rattle.oct_arena.specs.Entries.{spare}
use Rattle.oct_tree.specs.declared.place.Place.{Place}
use Rattle.oct_tree.specs.declared.place.Place.TheVariants.{Slot}
use Rattle.oct_arena.specs.Nodes.{link_of}
use Rattle.oct_tree.specs.Tree.{Tree, IsLinked, node_in, block_in}
use Rattle.oct_brick.proofs.Bits.{some_code}
use Rattle.oct_brick.proofs.CodedVoxels.{coded_voxel-IsInMap}
use Rattle.oct_edit.specs.Steps.{IsTouched}
use Rattle.oct_edit.specs.Scan.{events_of}
use Rattle.oct_edit.proofs.UnderWay.{IsUnderWay}
use Rattle.oct_edit.proofs.UpdateEnds.{one_touched}
use Rattle.oct_edit.proofs.Updates.{way_slot, way_part, way_room_in, way_step}
use Rattle.oct_odds.specs.declared.event.Event.{Event}
use Rattle.oct_brick.specs.declared.brick.Brick.{Brick}
use Rattle.oct_brick.specs.Bricks.{IsBrick}
use Rattle.oct_brick.specs.Voxels.{coded_voxel, hit_voxels, freed_voxels}
use Rattle.oct_edit.specs.Listed.{ListedUpdate, update_of}
use Rattle.oct_edit.specs.Bricks.{IsMasked}
use Rattle.oct_edit.specs.Parts.{AreIn, IsUpdateIn, need_in}
use Rattle.oct_edit.proofs.BrickParts.{IsRest}
use Rattle.oct_edit.proofs.BrickRounds.{IsRound, IsChildMask, mask_round, octet_mask, voxel_mask}
use Rattle.oct_edit.proofs.BrickRounds.{part_event}

-- a brick's part within a mask
abbrev pub part_of : Brick → ℕ → Brick
part_of r x = record { code = r.code; scanned = bit_and r.scanned x; hits = bit_and r.hits x }

pub part_is : (r : Brick) (x : ℕ) → IsMasked r x (part_of r x)
part_is r x = record { code = refl; scanned = refl; hits = refl }

-- the bit of the first voxel, as it is made
pub bit_is : (r w : Brick) → IsRest w r → 0 < r.scanned
    → 1 * 2 ^ trailing_zeros w64 r.scanned % 2 ^ 64 ≡ 2 ^ trailing_zeros w64 r.scanned
bit_is r w rest some =
    (let low = bit_at-trailing_zeros w64 r.scanned some rest.fits in
    one_shl (trailing_zeros w64 r.scanned) 64 low.0)

pub bit_fits : (x : ℕ) → 1 * x % 2 ^ 64 < 2 ^ 64
bit_fits x = omega arith

pub octet_below : (r w : Brick) (i : ℕ) → IsRest w r → 0 < r.scanned
    → i ≡ trailing_zeros w64 r.scanned / 8 → i < 8
octet_below r w i rest some is =
    (let low = bit_at-trailing_zeros w64 r.scanned some rest.fits in omega (arith, is, low.0))

-- the round over a voxel
pub voxel_round : (b : Cube) (i : ℕ) (r q w : Brick) (x : ℕ) (hit miss : Event) → b.depth ≡ 15
    → IsBrick w → IsRest w r → 0 < r.scanned → AreIn b (hit_voxels (r ∷ []))
    → AreIn b (freed_voxels (r ∷ [])) → i ≡ trailing_zeros w64 r.scanned % 8
    → x ≡ 2 ^ trailing_zeros w64 r.scanned → x < 2 ^ 64 → IsMasked r (bit_not w64 x) q
    → IsRound b i (update_of (r ∷ []) hit miss) (update_of (part_of r x ∷ []) hit miss)
    (update_of (q ∷ []) hit miss)
voxel_round b i r q w x hit miss deep brick rest some in_hits in_frees is mask fits later =
    mask_round b i r (part_of r x) q w x (bit_not w64 x) hit miss (omega (arith, deep)) brick.code
    rest some in_hits in_frees
    (voxel_mask b i r w x deep brick.code rest some in_hits in_frees is mask fits) (part_is r x)
    refl later

-- the round over an octet
pub octet_round : (b : Cube) (i : ℕ) (r p q w : Brick) (x : ℕ) (hit miss : Event) → b.depth ≡ 14
    → IsBrick w → IsRest w r → 0 < r.scanned → AreIn b (hit_voxels (r ∷ []))
    → AreIn b (freed_voxels (r ∷ [])) → i ≡ trailing_zeros w64 r.scanned / 8
    → x ≡ 2 ^ (8 * i + 8) - 2 ^ (8 * i) → x < 2 ^ 64 → IsMasked r x p → IsMasked r (bit_not w64 x) q
    → IsRound b i (update_of (r ∷ []) hit miss) (update_of (p ∷ []) hit miss)
    (update_of (q ∷ []) hit miss)
octet_round b i r p q w x hit miss deep brick rest some in_hits in_frees is mask fits part later =
    mask_round b i r p q w x (bit_not w64 x) hit miss (omega (arith, deep)) brick.code rest some
    in_hits in_frees (octet_mask b i r w x deep rest some is mask fits) part refl later

-- the code of the first voxel of what is left
abbrev pub first_of : Brick → ℕ
first_of r = 64 * r.code + trailing_zeros w64 r.scanned

-- what is left of an octet, and the part that is its first voxel
pub record IsAtVoxel (s w : Tree) (p : Place) (b : Cube) (u : ListedUpdate) (whole r : Brick)
    (hit miss : Event) (x : ℕ) (lazy : Bool) : Type 0 where
  pub deep : b.depth ≡ 15
  pub brick : IsBrick whole
  pub rest : IsRest whole r
  pub some : 0 < r.scanned
  pub inside : IsUpdateIn b u
  pub way : IsUnderWay s w p b u (update_of (r ∷ []) hit miss) lazy
  pub bit : x ≡ 2 ^ trailing_zeros w64 r.scanned
  pub fits : x < 2 ^ 64

-- the number of the voxel in its octet
abbrev pub voxel_index : Brick → ℕ
voxel_index r = trailing_zeros w64 r.scanned % 8

pub voxel_next : (s w : Tree) (p : Place) (b : Cube) (u : ListedUpdate) (whole r q : Brick)
    (hit miss : Event) (x : ℕ) (lazy : Bool)
    → IsAtVoxel s w p b u whole r hit miss x lazy → IsMasked r (bit_not w64 x) q
    → IsRound b (voxel_index r) (update_of (r ∷ []) hit miss)
    (update_of (part_of r x ∷ []) hit miss) (update_of (q ∷ []) hit miss)
voxel_next s w p b u whole r q hit miss x lazy h later =
    voxel_round b (voxel_index r) r q whole x hit miss h.deep h.brick h.rest h.some
    h.way.hits.inside h.way.frees.inside refl h.bit h.fits later

pub voxel_masked : (s w : Tree) (p : Place) (b : Cube) (u : ListedUpdate) (whole r : Brick)
    (hit miss : Event) (x : ℕ) (lazy : Bool)
    → IsAtVoxel s w p b u whole r hit miss x lazy → IsChildMask b (voxel_index r) r x
voxel_masked s w p b u whole r hit miss x lazy h =
    voxel_mask b (voxel_index r) r whole x h.deep h.brick.code h.rest h.some h.way.hits.inside
    h.way.frees.inside refl h.bit h.fits

pub voxel_inside : (s w : Tree) (p : Place) (b : Cube) (u : ListedUpdate) (whole r : Brick)
    (hit miss : Event) (x : ℕ) (lazy : Bool)
    → IsAtVoxel s w p b u whole r hit miss x lazy
    → IsUpdateIn (child_of b (voxel_index r)) (update_of (part_of r x ∷ []) hit miss)
voxel_inside s w p b u whole r hit miss x lazy h =
    let later : ListedUpdate = update_of (part_of r (bit_not w64 x) ∷ []) hit miss in
    let round =
    voxel_next s w p b u whole r (part_of r (bit_not w64 x)) hit miss x lazy h
    (part_is r (bit_not w64 x)) in
    let deep = h.deep in
    way_part s w p b (voxel_index r) u (update_of (r ∷ []) hit miss)
    (update_of (part_of r x ∷ []) hit miss) later lazy (omega (arith, deep)) h.inside.apart
    h.way round.first round.hits round.frees

pub voxel_event : (s w : Tree) (p : Place) (b : Cube) (u : ListedUpdate) (whole r : Brick)
    (hit miss event : Event) (x : ℕ) (lazy : Bool)
    → IsAtVoxel s w p b u whole r hit miss x lazy
    → event ≡ (if bit_and r.hits x == 0 then miss else hit)
    → events_of (update_of (part_of r x ∷ []) hit miss) (coded_voxel (first_of r)) ≡ Some event
voxel_event s w p b u whole r hit miss event x lazy h is =
    let low = bit_at-trailing_zeros w64 r.scanned h.some h.rest.fits in
    let mask = voxel_masked s w p b u whole r hit miss x lazy h in
    part_event r (part_of r x) whole x (trailing_zeros w64 r.scanned) (first_of r) hit miss event
    h.brick.code h.rest (part_is r x) h.bit (placed r.code (trailing_zeros w64 r.scanned) low.0)
    (some_code r.code r.scanned h.some h.rest.fits) mask.there is
  where
    placed : (c t : ℕ) → t < 64 → (64 * c + t) % 64 ≡ t
    placed c t l = omega (arith, l)

-- after the voxel's event, one voxel more is done
pub voxel_step : (s w z : Tree) (p : Place) (b : Cube) (id : GroupId) (u : ListedUpdate)
    (whole r q : Brick) (hit miss hit' miss' event : Event) (x : ℕ) (lazy : Bool)
    → IsLinked s → IsBlock b → link_of (node_in s p) ≡ Some id.number
    → IsAtVoxel s w p b u whole r hit miss x lazy
    → IsMasked r (bit_not w64 x) q → hit' ≡ hit → miss' ≡ miss
    → event ≡ (if bit_and r.hits x == 0 then miss else hit)
    → spare z.groups ≡ spare w.groups
    → ((k : Voxel) (lazy : Bool) → IsInMap k → block_in w (Slot id (voxel_index r))
    ≡ Some (block_of 16 k) → IsTouched w z (block_of 16 k) (event_at (Some k) event) lazy)
    → IsUnderWay s z p b u (update_of (q ∷ []) hit' miss') lazy
voxel_step s w z p b id u whole r q hit miss hit' miss' event x lazy linked ok link h later
    same_hit same_miss is spared touched =
    let i : ℕ = voxel_index r in
    let deep = h.deep in
    let few : i < 8 = omega arith in
    let part : ListedUpdate = update_of (part_of r x ∷ []) hit miss in
    let round = voxel_next s w p b u whole r q hit miss x lazy h later in
    let inside = voxel_inside s w p b u whole r hit miss x lazy h in
    let place = way_slot s w p b id i u (update_of (r ∷ []) hit miss) lazy few link h.way in
    let done =
    one_touched w z (Slot id i) (child_of b i) part (coded_voxel (first_of r)) event lazy place.1
    (depth_child_of b i ∙ ap (λ (d : ℕ). d + 1) deep) inside (coded_voxel-IsInMap (first_of r))
    (voxel_event s w p b u whole r hit miss event x lazy h is) touched in
    way_step s w z p b i u (update_of (r ∷ []) hit miss) part (update_of (q ∷ []) hit' miss') lazy
    linked ok (omega (arith, deep)) h.inside h.way round.first round.hits round.frees refl refl
    same_hit same_miss done (omega (arith, spared))

-- the bit of the first voxel, as the code makes it
abbrev pub bit_of : Brick → ℕ
bit_of r = 1 * 2 ^ trailing_zeros w64 r.scanned % 2 ^ 64

pub voxel_at : (s w : Tree) (p : Place) (b : Cube) (u : ListedUpdate) (whole r : Brick)
    (hit miss : Event) (lazy : Bool)
    → b.depth ≡ 15 → IsBrick whole → IsRest whole r → r.scanned ≢ 0
    → IsUnderWay s w p b u (update_of (r ∷ []) hit miss) lazy → IsUpdateIn b u
    → IsAtVoxel s w p b u whole r hit miss (bit_of r) lazy
voxel_at s w p b u whole r hit miss lazy deep brick rest some way inside = record {
  inside = inside;
  deep = deep;
  brick = brick;
  rest = rest;
  some = positive r.scanned some;
  way = way;
  bit = bit_is r whole rest (positive r.scanned some);
  fits = bit_fits (2 ^ trailing_zeros w64 r.scanned);
}
  where
    positive : (n : ℕ) → n ≢ 0 → 0 < n
    positive n ne = omega (arith, ne)

-- the number of the octet of the first voxel
abbrev pub octet_index : Brick → ℕ
octet_index r = trailing_zeros w64 r.scanned / 8

-- what is left of a brick, and the part that is its first octet
pub record IsAtOctet (s w : Tree) (p : Place) (b : Cube) (u : ListedUpdate) (whole r : Brick)
    (hit miss : Event) (x : ℕ) (lazy : Bool) : Type 0 where
  pub deep : b.depth ≡ 14
  pub brick : IsBrick whole
  pub rest : IsRest whole r
  pub some : 0 < r.scanned
  pub inside : IsUpdateIn b u
  pub way : IsUnderWay s w p b u (update_of (r ∷ []) hit miss) lazy
  pub bits : x ≡ 2 ^ (8 * octet_index r + 8) - 2 ^ (8 * octet_index r)
  pub fits : x < 2 ^ 64

pub octet_at : (s w : Tree) (p : Place) (b : Cube) (u : ListedUpdate) (whole r : Brick)
    (hit miss : Event) (x : ℕ) (lazy : Bool)
    → b.depth ≡ 14 → IsBrick whole → IsRest whole r → r.scanned ≢ 0
    → IsUnderWay s w p b u (update_of (r ∷ []) hit miss) lazy → IsUpdateIn b u
    → x ≡ 2 ^ (8 * octet_index r + 8) - 2 ^ (8 * octet_index r) → x < 2 ^ 64
    → IsAtOctet s w p b u whole r hit miss x lazy
octet_at s w p b u whole r hit miss x lazy deep brick rest some way inside bits fits = record {
  inside = inside;
  deep = deep;
  brick = brick;
  rest = rest;
  some = positive r.scanned some;
  way = way;
  bits = bits;
  fits = fits;
}
  where
    positive : (n : ℕ) → n ≢ 0 → 0 < n
    positive n ne = omega (arith, ne)

pub octet_few : (r w : Brick) → IsRest w r → r.scanned ≢ 0 → octet_index r < 8
octet_few r w rest some = octet_below r w (octet_index r) rest (positive r.scanned some) refl
  where
    positive : (n : ℕ) → n ≢ 0 → 0 < n
    positive n ne = omega (arith, ne)

pub octet_masked : (s w : Tree) (p : Place) (b : Cube) (u : ListedUpdate) (whole r : Brick)
    (hit miss : Event) (x : ℕ) (lazy : Bool)
    → IsAtOctet s w p b u whole r hit miss x lazy → IsChildMask b (octet_index r) r x
octet_masked s w p b u whole r hit miss x lazy h =
    octet_mask b (octet_index r) r whole x h.deep h.rest h.some refl h.bits h.fits

pub octet_next : (s w : Tree) (p : Place) (b : Cube) (u : ListedUpdate) (whole r part q : Brick)
    (hit miss : Event) (x : ℕ) (lazy : Bool)
    → IsAtOctet s w p b u whole r hit miss x lazy → IsMasked r x part → IsMasked r (bit_not w64 x) q
    → IsRound b (octet_index r) (update_of (r ∷ []) hit miss) (update_of (part ∷ []) hit miss)
    (update_of (q ∷ []) hit miss)
octet_next s w p b u whole r part q hit miss x lazy h within later =
    octet_round b (octet_index r) r part q whole x hit miss h.deep h.brick h.rest h.some
    h.way.hits.inside h.way.frees.inside refl h.bits h.fits within later

-- the part lies in the octet's block
pub octet_inside : (s w : Tree) (p : Place) (b : Cube) (u : ListedUpdate) (whole r part : Brick)
    (hit miss hit' miss' : Event) (x : ℕ) (lazy : Bool)
    → IsAtOctet s w p b u whole r hit miss x lazy → IsMasked r x part
    → IsUpdateIn (child_of b (octet_index r)) (update_of (part ∷ []) hit' miss')
octet_inside s w p b u whole r part hit miss hit' miss' x lazy h within =
    let rest : Brick = part_of r (bit_not w64 x) in
    let round =
    octet_next s w p b u whole r part rest hit miss x lazy h within (part_is r (bit_not w64 x)) in
    let deep = h.deep in
    way_part s w p b (octet_index r) u (update_of (r ∷ []) hit miss)
    (update_of (part ∷ []) hit' miss') (update_of (rest ∷ []) hit miss) lazy
    (omega (arith, deep)) h.inside.apart h.way round.first round.hits round.frees

-- there is room for it
pub octet_room : (s w : Tree) (p : Place) (b : Cube) (u : ListedUpdate) (whole r part : Brick)
    (hit miss hit' miss' : Event) (x : ℕ) (lazy : Bool)
    → IsBlock b → IsUpdateIn b u → need_in (events_of u) b ≤ spare s.groups + 1
    → IsAtOctet s w p b u whole r hit miss x lazy → IsMasked r x part → hit' ≡ hit → miss' ≡ miss
    → need_in (events_of (update_of (part ∷ []) hit' miss')) (child_of b (octet_index r))
    ≤ spare w.groups
octet_room s w p b u whole r part hit miss hit' miss' x lazy ok inside enough h within same_hit
    same_miss =
    let rest : Brick = part_of r (bit_not w64 x) in
    let round =
    octet_next s w p b u whole r part rest hit miss x lazy h within (part_is r (bit_not w64 x)) in
    let deep = h.deep in
    way_room_in s w p b (octet_index r) u (update_of (r ∷ []) hit miss)
    (update_of (part ∷ []) hit' miss') (update_of (rest ∷ []) hit miss) lazy ok
    (omega (arith, deep)) inside enough h.way round.first round.hits round.frees same_hit same_miss

-- after the octet's update, one octet more is done
pub octet_step : (s w z : Tree) (p : Place) (b : Cube) (u : ListedUpdate) (whole r part q : Brick)
    (hit miss hit' miss' hit'' miss'' : Event) (x : ℕ) (lazy : Bool)
    → IsLinked s → IsBlock b → IsAtOctet s w p b u whole r hit miss x lazy → IsMasked r x part
    → IsMasked r (bit_not w64 x) q → hit' ≡ hit → miss' ≡ miss → hit'' ≡ hit → miss'' ≡ miss
    → IsTouched w z (child_of b (octet_index r)) (events_of (update_of (part ∷ []) hit' miss')) lazy
    → spare w.groups
    ≤ spare z.groups
    + need_in (events_of (update_of (part ∷ []) hit' miss'))
    (child_of b (octet_index r))
    → IsUnderWay s z p b u (update_of (q ∷ []) hit'' miss'') lazy
octet_step s w z p b u whole r part q hit miss hit' miss' hit'' miss'' x lazy linked ok h within
    later same_hit same_miss left_hit left_miss touched room =
    let round = octet_next s w p b u whole r part q hit miss x lazy h within later in
    let deep = h.deep in
    way_step s w z p b (octet_index r) u (update_of (r ∷ []) hit miss)
    (update_of (part ∷ []) hit' miss') (update_of (q ∷ []) hit'' miss'') lazy linked ok
    (omega (arith, deep)) h.inside h.way round.first round.hits round.frees same_hit same_miss
    left_hit left_miss touched room
