-- A walk in 64 bits gives what the walk gives that it is made of.
use Rattle.std.proofs.Common.{◌≡◌, ◌≢◌, ℕ, ◌+◌, ◌-◌, ◌*◌, ◌/◌, ◌^◌, ◌<◌, ◌≤◌, Bool, true}
use Rattle.std.proofs.Common.{false, ◌&&◌, if◌then◌else◌, refl, sym, ◌∙◌, ap, arith, inr, nat_le}
use Rattle.std.proofs.Common.{[], ◌∷◌, length, bit_and, subst}
use Rattle.std.proofs.lemmas.Bool.Decides.{nat_tests}
use Rattle.oct_key.specs.Voxel.{Voxel, IsInMap}
use Rattle.oct_key.specs.Dilated.{dilated}
use Rattle.oct_key.specs.Morton.{gathered, morton_of}
use Rattle.oct_key.proofs.Interleavings.{gathered_in_map, morton_below, morton_injective}
use Rattle.oct_key.proofs.Interleavings.{morton_of_gathered}
use Rattle.oct_ray.specs.Axis.{HasRoom}
use Rattle.oct_ray.specs.declared.axis.Axis.{Axis}
use Rattle.oct_ray.specs.declared.near.NearAxis.{NearAxis}
use Rattle.oct_ray.specs.declared.near.NearAxes.{NearAxes}
use Rattle.oct_ray.specs.declared.near.NearWalk.TheInside.{Inside}
use Rattle.oct_ray.specs.declared.track.Track.{Track}
use Rattle.oct_ray.specs.Given.{HasLast}
use Rattle.oct_ray.specs.Track.{AreTracks, CanPass, crosses_now, has_ended, keys_left, keys_to_come}
use Rattle.oct_ray.specs.Track.{track_after}
use Rattle.oct_ray.specs.Near.{AllStay, AreNow, CanCross, HasCrossed, IsAxisTo, IsNear, IsOrder}
use Rattle.oct_ray.specs.Near.{IsStep, StaysOnMap, after_pass, axis_of_track}
use Rattle.oct_ray.specs.Near.{bit, near_keys, track_to, track_x, track_y, track_z}
use Rattle.oct_ray.specs.Placed.{part_of_code}
use Rattle.oct_ray.proofs.Alike.{AreAlike, IsAlike, alike_crosses, alike_left, alike_voxel}
use Rattle.oct_ray.proofs.Alike.{next_after, third_after, turned}
use Rattle.oct_ray.proofs.Ends.{last_of_tracks}
use Rattle.oct_ray.proofs.KeyLists.{zero_from, zero_is}
use Rattle.oct_ray.proofs.PlacedBits.{parts_of}
use Rattle.oct_ray.proofs.Tracks.{AreTracks-steps, can_pass_x, can_pass_y, can_pass_z, make_walk}
use Rattle.oct_ray.proofs.Tracks.{walk_goes_on, walk_left, walk_steps}
use Rattle.oct_ray.proofs.Visits.{key_after}

-- the crossings left are those up to the end
crossings_are : (rises : Bool) (key crossings end : ℕ) → (rises ≡ true → key + crossings ≡ end)
    → (rises ≡ false → end + crossings ≡ key)
    → (if rises then end - key else key - end) ≡ crossings
crossings_are true key crossings end up down = omega (arith, up refl)
crossings_are false key crossings end up down = omega (arith, down refl)

like_track : (unit end : ℕ) (a : NearAxis) (t : Track) (next third : ℕ) → IsAxisTo unit end a t
    → IsAlike (track_to end a next third) t
like_track unit end a t next third h = rw h.same (record {
  key = refl;
  rises = refl;
  crossings = crossings_are t.rises t.key t.crossings end h.rising h.falling;
  pace = refl;
})

-- the tracks that a near walk is seen as cross after one another as those that it is of
near_alike : (n : Inside) (r : IsNear n)
    → AreAlike (track_x n) (track_y n) (track_z n) r.track_a r.track_b r.track_c
near_alike n r = record {
  like_x = like_track 1 (gathered 16 n.last) n.axes.x r.track_a (2 ^ 63) (2 ^ 63) r.axis_a;
  like_y = like_track 2 (gathered 16 (n.last / 2)) n.axes.y r.track_b (2 ^ 63) n.axes.y_after_x
      r.axis_b;
  like_z = like_track 4 (gathered 16 (n.last / 4)) n.axes.z r.track_c n.axes.z_after_x
      n.axes.z_after_y r.axis_c;
  y_x = omega (arith, r.y_after_x.later);
  z_x = omega (arith, r.z_after_x.later);
  z_y = omega (arith, r.z_after_y.later);
}

near_left : (n : Inside) (r : IsNear n)
    → near_keys n ≡ keys_left r.track_a r.track_b r.track_c
near_left n r =
    alike_left (track_x n) (track_y n) (track_z n) r.track_a r.track_b r.track_c (near_alike n r)

-- an axis that stands at the number of its end has no crossing left
at_end : (unit end : ℕ) (a : NearAxis) (t : Track) → IsAxisTo unit end a t → a.key.number ≡ end
    → t.crossings ≡ 0
at_end unit end a t h e =
    let key = ap (λ (b : NearAxis). b.key.number) h.same in
    elim t.rises as (λ b. t.rises ≡ b → t.crossings ≡ 0) [
      | true ↦ λ up. omega (arith, h.rising up, key, e)
      | false ↦ λ down. omega (arith, h.falling down, key, e)
    ] refl

-- and one without a crossing left stands there
stands_at_end : (unit end : ℕ) (a : NearAxis) (t : Track) → IsAxisTo unit end a t → t.crossings ≡ 0
    → a.key.number ≡ end
stands_at_end unit end a t h e =
    let key = ap (λ (b : NearAxis). b.key.number) h.same in
    elim t.rises as (λ b. t.rises ≡ b → a.key.number ≡ end) [
      | true ↦ λ up. omega (arith, h.rising up, key, e)
      | false ↦ λ down. omega (arith, h.falling down, key, e)
    ] refl

-- the voxel of a code
abbrev pub voxel_of : ℕ → Voxel
voxel_of code = record {
  x = gathered 16 code;
  y = gathered 16 (code / 2);
  z = gathered 16 (code / 4);
}

-- a voxel with this code is the one
pub coded_voxel : (k : Voxel) (code : ℕ) → IsInMap k → code ≡ morton_of k → k ≡ voxel_of code
coded_voxel k code on_map e =
    let below : code < 2 ^ 48 = rw e (morton_below k) in
    morton_injective k (voxel_of code) on_map
    (gathered_in_map code (code / 2) (code / 4) _ _ _ refl refl refl)
    (sym e ∙ sym (morton_of_gathered code _ _ _ below refl refl refl))

-- where a near walk stands
abbrev pub near_voxel : Inside → Voxel
near_voxel n = record {
  x = n.axes.x.key.number;
  y = n.axes.y.key.number;
  z = n.axes.z.key.number;
}

-- the part of a code that an axis makes
unit_of : (unit end : ℕ) (a : NearAxis) (t : Track) → IsAxisTo unit end a t
    → part_of_code a.key ≡ unit * dilated a.key.number
unit_of unit end a t h =
    ap (λ (u : ℕ). u * dilated a.key.number) (ap (λ (b : NearAxis). b.key.unit) h.same)

-- the three numbers of a near walk make the code of the voxel where it stands
pub near_code : (n : Inside) → IsNear n → (code : ℕ)
    → code ≡ part_of_code n.axes.x.key + part_of_code n.axes.y.key + part_of_code n.axes.z.key
    → code ≡ morton_of (near_voxel n)
near_code n r code e =
    let x = unit_of _ _ n.axes.x r.track_a r.axis_a in
    let y = unit_of _ _ n.axes.y r.track_b r.axis_b in
    let z = unit_of _ _ n.axes.z r.track_c r.axis_c in
    omega (arith, e, x, y, z)
    ∙ parts_of n.axes.x.key.number n.axes.y.key.number n.axes.z.key.number

pub near_below : (n : Inside) → IsNear n → (code : ℕ)
    → code ≡ part_of_code n.axes.x.key + part_of_code n.axes.y.key + part_of_code n.axes.z.key
    → code < 2 ^ 48
near_below n r code e =
    subst (λ (m : ℕ). m < 2 ^ 48) (sym (near_code n r code e)) (morton_below (near_voxel n))

-- at the code of the last voxel no crossing is left
near_ended : (n : Inside) (r : IsNear n) (code : ℕ) → IsInMap (near_voxel n)
    → code ≡ morton_of (near_voxel n) → code ≡ n.last
    → has_ended r.track_a r.track_b r.track_c ≡ true
near_ended n r code on_map coded e =
    let at = coded_voxel (near_voxel n) n.last on_map (sym e ∙ coded) in
    let x = at_end _ _ n.axes.x r.track_a r.axis_a (ap (λ (k : Voxel). k.x) at) in
    let y = at_end _ _ n.axes.y r.track_b r.axis_b (ap (λ (k : Voxel). k.y) at) in
    let z = at_end _ _ n.axes.z r.track_c r.axis_c (ap (λ (k : Voxel). k.z) at) in
    zero_is (r.track_a.crossings + r.track_b.crossings + r.track_c.crossings)
    (omega (arith, x, y, z))

-- and there alone
near_goes_on : (n : Inside) (r : IsNear n) (code : ℕ) → code ≡ morton_of (near_voxel n)
    → code ≢ n.last → has_ended r.track_a r.track_b r.track_c ≡ false
near_goes_on n r code coded other =
    elim (has_ended r.track_a r.track_b r.track_c) as
    (λ b. has_ended r.track_a r.track_b r.track_c ≡ b → b ≡ false) [
      | true ↦ λ e.
          let none =
          zero_from (r.track_a.crossings + r.track_b.crossings + r.track_c.crossings) e in
          let x = stands_at_end _ _ n.axes.x r.track_a r.axis_a (omega (arith, none)) in
          let y = stands_at_end _ _ n.axes.y r.track_b r.axis_b (omega (arith, none)) in
          let z = stands_at_end _ _ n.axes.z r.track_c r.axis_c (omega (arith, none)) in
          absurd (other (coded ∙ morton_of_gathered n.last _ _ _ r.last x y z))
      | false ↦ λ e. refl
    ] refl

-- so at most one voxel is left at its code
pub near_last : (n : Inside) → IsNear n → (code : ℕ) → IsInMap (near_voxel n)
    → code ≡ morton_of (near_voxel n) → code ≡ n.last → length (near_keys n) ≤ 1
near_last n r code on_map coded e =
    rw (near_left n r)
    (walk_left (make_walk r.track_a r.track_b r.track_c true)
    (inr (refl, near_ended n r code on_map coded e)))

-- two numbers that are 1 where something is true, bit by bit
bits_and : (s t : Bool) → bit_and (bit s) (bit t) ≡ bit (s && t)
bits_and true true = refl
bits_and true false = refl
bits_and false true = refl
bits_and false false = refl

both : (s t : Bool) (i j : ℕ) → i ≡ bit s → j ≡ bit t → bit_and i j ≡ bit (s && t)
both s t i j ei ej =
    ap (λ (n : ℕ). bit_and n j) ei ∙ ap (bit_and (bit s)) ej ∙ bits_and s t

-- the orders tell which axes cross next
pub are_now : (n : NearAxes) (a b c d e f : ℕ) → a ≡ bit (nat_le (2 ^ 63) n.y_after_x)
    → b ≡ bit (nat_le (2 ^ 63) n.z_after_x) → c ≡ bit (nat_le (2 ^ 63) n.z_after_y)
    → d ≡ bit (nat_le n.y_after_x (2 ^ 63)) → e ≡ bit (nat_le n.z_after_x (2 ^ 63))
    → f ≡ bit (nat_le n.z_after_y (2 ^ 63)) → AreNow n (bit_and a b) (bit_and c d) (bit_and e f)
are_now n a b c d e f ea eb ec ed ee ef = record {
  x = both (nat_le (2 ^ 63) n.y_after_x) (nat_le (2 ^ 63) n.z_after_x) a b ea eb;
  y = both (nat_le (2 ^ 63) n.z_after_y) (nat_le n.y_after_x (2 ^ 63)) c d ec ed;
  z = both (nat_le n.z_after_x (2 ^ 63)) (nat_le n.z_after_y (2 ^ 63)) e f ee ef;
}

-- an axis whose crossing comes before those of both others crosses alone
x_alone : (u v w : ℕ) → 2 ^ 63 < u → 2 ^ 63 < v → (nat_le (2 ^ 63) u && nat_le (2 ^ 63) v ≡ true)
    × (nat_le (2 ^ 63) w && nat_le u (2 ^ 63) ≡ false)
    × (nat_le v (2 ^ 63) && nat_le w (2 ^ 63) ≡ false)
x_alone u v w hu hv = grind (arith, nat_tests)

pub x_now : (n : NearAxes) → 2 ^ 63 < n.y_after_x → 2 ^ 63 < n.z_after_x → AreNow n 1 0 0
x_now n hu hv =
    let (x, y, z) = x_alone n.y_after_x n.z_after_x n.z_after_y hu hv in
    record { x = ap bit (sym x); y = ap bit (sym y); z = ap bit (sym z) }

y_alone : (u v w : ℕ) → u < 2 ^ 63 → 2 ^ 63 < w → (nat_le (2 ^ 63) u && nat_le (2 ^ 63) v ≡ false)
    × (nat_le (2 ^ 63) w && nat_le u (2 ^ 63) ≡ true)
    × (nat_le v (2 ^ 63) && nat_le w (2 ^ 63) ≡ false)
y_alone u v w hu hw = grind (arith, nat_tests)

pub y_now : (n : NearAxes) → n.y_after_x < 2 ^ 63 → 2 ^ 63 < n.z_after_y → AreNow n 0 1 0
y_now n hu hw =
    let (x, y, z) = y_alone n.y_after_x n.z_after_x n.z_after_y hu hw in
    record { x = ap bit (sym x); y = ap bit (sym y); z = ap bit (sym z) }

z_alone : (u v w : ℕ) → v < 2 ^ 63 → w < 2 ^ 63 → (nat_le (2 ^ 63) u && nat_le (2 ^ 63) v ≡ false)
    × (nat_le (2 ^ 63) w && nat_le u (2 ^ 63) ≡ false)
    × (nat_le v (2 ^ 63) && nat_le w (2 ^ 63) ≡ true)
z_alone u v w hv hw = grind (arith, nat_tests)

pub z_now : (n : NearAxes) → n.z_after_x < 2 ^ 63 → n.z_after_y < 2 ^ 63 → AreNow n 0 0 1
z_now n hv hw =
    let (x, y, z) = z_alone n.y_after_x n.z_after_x n.z_after_y hv hw in
    record { x = ap bit (sym x); y = ap bit (sym y); z = ap bit (sym z) }

-- the same, of the tracks that a walk is of
tracks_now : (n : Inside) (r : IsNear n) (i j k : ℕ) → AreNow n.axes i j k
    → (i ≡ bit (crosses_now r.track_a r.track_b r.track_c))
    × (j ≡ bit (crosses_now r.track_b r.track_c r.track_a))
    × (k ≡ bit (crosses_now r.track_c r.track_a r.track_b))
tracks_now n r i j k now =
    let a = near_alike n r in
    let b = turned _ _ _ _ _ _ a in
    let c = turned _ _ _ _ _ _ b in (
      now.x ∙ ap bit (alike_crosses _ _ _ _ _ _ a),
      now.y ∙ ap bit (alike_crosses _ _ _ _ _ _ b),
      now.z ∙ ap bit (alike_crosses _ _ _ _ _ _ c),
    )

-- a crossing that comes now is one of those left
bit_le : (t : Bool) (n : ℕ) → (t ≡ true → 0 < n) → bit t ≤ n
bit_le true n h = omega (arith, h refl)
bit_le false n h = omega arith

stays_on_map : (t : Bool) (unit end now : ℕ) (a : NearAxis) (s : Track) (p q : ℕ)
    → IsAxisTo unit end a s → CanPass t s p q → now ≡ bit t → StaysOnMap now a
stays_on_map t unit end now a s p q h c e =
    let key = ap (λ (b : NearAxis). b.key.number) h.same in
    let rises = ap (λ (b : NearAxis). b.key.rises) h.same in
    let few = bit_le t s.crossings c.crossings in
    record {
      up = λ up. omega (arith, key, e, few, c.rising (sym rises ∙ up));
      down = λ down. omega (arith, key, e, few, c.falling (sym rises ∙ down));
    }

small_pace : (unit end : ℕ) (a : NearAxis) (t : Track) → IsAxisTo unit end a t → a.pace < 2 ^ 63
small_pace unit end a t h =
    let pace = ap (λ (b : NearAxis). b.pace) h.same in omega (arith, pace, h.small)

-- so all three stay on the map
all_stay : (n : Inside) → IsNear n → (code i j k : ℕ) → code ≡ morton_of (near_voxel n)
    → code ≢ n.last → AreNow n.axes i j k → AllStay n.axes i j k
all_stay n r code i j k coded other now =
    let w = make_walk r.track_a r.track_b r.track_c true in
    let e = near_goes_on n r code coded other in
    let (x, y, z) = tracks_now n r i j k now in
    record {
      x = stays_on_map _ _ _ i n.axes.x r.track_a _ _ r.axis_a (can_pass_x w r.tracks e) x;
      y = stays_on_map _ _ _ j n.axes.y r.track_b _ _ r.axis_b (can_pass_y w r.tracks e) y;
      z = stays_on_map _ _ _ k n.axes.z r.track_c _ _ r.axis_c (can_pass_z w r.tracks e) z;
    }

-- so its axes can cross
pub can_cross : (n : Inside) → IsNear n → (code : ℕ) → code ≡ morton_of (near_voxel n)
    → code ≢ n.last → CanCross n.axes
can_cross n r code coded other = record {
  stay = λ i j k now. all_stay n r code i j k coded other now;
  room = record {
    x_pace = small_pace _ _ n.axes.x r.track_a r.axis_a;
    y_pace = small_pace _ _ n.axes.y r.track_b r.axis_b;
    z_pace = small_pace _ _ n.axes.z r.track_c r.axis_c;
    y_after_x = r.y_after_x.some;
    z_after_x = r.z_after_x.some;
    z_after_y = r.z_after_y.some;
  };
}

stays : (rises : Bool) (n : ℕ) → (if rises then n + 0 else n - 0) ≡ n
stays true n = omega arith
stays false n = omega arith

up_one : (rises : Bool) (key crossings end : ℕ) → rises ≡ true → 0 < crossings
    → key + crossings ≡ end → (if rises then key + 1 else key - 1) + (crossings - 1) ≡ end
up_one rises key crossings end e some h = rw e (omega (arith, some, h))

down_one : (rises : Bool) (key crossings end : ℕ) → rises ≡ false → 0 < crossings
    → end + crossings ≡ key → end + (crossings - 1) ≡ (if rises then key + 1 else key - 1)
down_one rises key crossings end e some h = rw e (omega (arith, some, h))

-- an axis steps as its track
axis_steps : (t : Bool) (unit end now : ℕ) (a b : NearAxis) (s : Track) (p q : ℕ)
    → IsAxisTo unit end a s → CanPass t s p q → now ≡ bit t → b ≡ after_pass now a
    → IsAxisTo unit end b (track_after t s p q)
axis_steps true unit end now a b s p q h c e f = record {
  same = f ∙ ap (λ (n : ℕ). after_pass n a) e ∙ ap (after_pass 1) h.same;
  small = h.small;
  rising = λ up. up_one s.rises s.key s.crossings end up (c.crossings refl) (h.rising up);
  falling = λ down. down_one s.rises s.key s.crossings end down (c.crossings refl) (h.falling down);
}
axis_steps false unit end now a b s p q h c e f = record {
  same =
      f ∙ ap (λ (n : ℕ). after_pass n a) e ∙ ap (after_pass 0) h.same
      ∙ ap (λ (k : ℕ). axis_of_track unit (record {
        key = k;
        rises = s.rises;
        crossings = s.crossings;
        beside_next = s.beside_next;
        beside_third = s.beside_third;
        pace = s.pace;
      })) (stays s.rises s.key);
  small = h.small;
  rising = h.rising;
  falling = h.falling;
}

-- an order steps as the places of two tracks
order_steps : (order order' first second first' second' i j p q p' q' : ℕ)
    → IsOrder order first second → 0 < order' → order' < 2 ^ 64
    → order' + i * q ≡ order + j * p → q ≡ q' → p ≡ p'
    → first' ≡ first + i * q' → second' ≡ second + j * p' → IsOrder order' first' second'
order_steps order order' first second first' second' i j p q p' q' h some below e eq ep ef es =
    record {
      some = some;
      below = below;
      later =
          let iq = ap (λ (n : ℕ). i * n) eq in
          let jp = ap (λ (n : ℕ). j * n) ep in
          omega (arith, h.later, e, ef, es, iq, jp);
    }

-- a near walk after a step is that of the tracks after theirs
near_steps : (n m : Inside) → IsNear n → (code i j k : ℕ) → code ≡ morton_of (near_voxel n)
    → code ≢ n.last → AreNow n.axes i j k → IsStep n.axes m.axes i j k → m.last ≡ n.last
    → IsNear m
near_steps n m r code i j k coded other now s l =
    let a = r.track_a in
    let b = r.track_b in
    let c = r.track_c in
    let w = make_walk a b c true in
    let e = near_goes_on n r code coded other in
    let (ei, ej, ek) = tracks_now n r i j k now in
    let pace_x = ap (λ (l : NearAxis). l.pace) r.axis_a.same in
    let pace_y = ap (λ (l : NearAxis). l.pace) r.axis_b.same in
    let pace_z = ap (λ (l : NearAxis). l.pace) r.axis_c.same in
    let by : (t : Bool) (l p : ℕ) → l ≡ bit t → bit t * p ≡ l * p =
    λ t l p h. ap (λ (v : ℕ). v * p) (sym h) in
    let on : (v f t p q : ℕ) → v ≡ f + t → t ≡ q → v ≡ f + q =
    λ v f t p q h g. omega (arith, h, g) in
    record {
      track_a = track_after (crosses_now a b c) a b.pace c.pace;
      track_b = track_after (crosses_now b c a) b c.pace a.pace;
      track_c = track_after (crosses_now c a b) c a.pace b.pace;
      tracks = AreTracks-steps w _ _ _ r.tracks e refl refl refl;
      axis_a = rw l
          (axis_steps (crosses_now a b c) 1 (gathered 16 n.last) i n.axes.x m.axes.x a b.pace c.pace
          r.axis_a (can_pass_x w r.tracks e) ei s.x);
      axis_b = rw l
          (axis_steps (crosses_now b c a) 2 (gathered 16 (n.last / 2)) j n.axes.y m.axes.y b c.pace
          a.pace r.axis_b (can_pass_y w r.tracks e) ej s.y);
      axis_c = rw l
          (axis_steps (crosses_now c a b) 4 (gathered 16 (n.last / 4)) k n.axes.z m.axes.z c a.pace
          b.pace r.axis_c (can_pass_z w r.tracks e) ek s.z);
      y_after_x = order_steps n.axes.y_after_x m.axes.y_after_x a.beside_next b.beside_third
          _ _ i j n.axes.x.pace
          n.axes.y.pace a.pace b.pace r.y_after_x s.some_y_x s.below_y_x s.y_after_x pace_y pace_x
          (next_after (crosses_now a b c) a b.pace c.pace
          ∙ ap (λ (v : ℕ). a.beside_next + v) (by (crosses_now a b c) i b.pace ei))
          (third_after (crosses_now b c a) b c.pace a.pace
          ∙ ap (λ (v : ℕ). b.beside_third + v) (by (crosses_now b c a) j a.pace ej));
      z_after_x = order_steps n.axes.z_after_x m.axes.z_after_x a.beside_third c.beside_next
          _ _ i k n.axes.x.pace
          n.axes.z.pace a.pace c.pace r.z_after_x s.some_z_x s.below_z_x s.z_after_x pace_z pace_x
          (third_after (crosses_now a b c) a b.pace c.pace
          ∙ ap (λ (v : ℕ). a.beside_third + v) (by (crosses_now a b c) i c.pace ei))
          (next_after (crosses_now c a b) c a.pace b.pace
          ∙ ap (λ (v : ℕ). c.beside_next + v) (by (crosses_now c a b) k a.pace ek));
      z_after_y = order_steps n.axes.z_after_y m.axes.z_after_y b.beside_next c.beside_third
          _ _ j k n.axes.y.pace
          n.axes.z.pace b.pace c.pace r.z_after_y s.some_z_y s.below_z_y s.z_after_y pace_z pace_y
          (next_after (crosses_now b c a) b c.pace a.pace
          ∙ ap (λ (v : ℕ). b.beside_next + v) (by (crosses_now b c a) j c.pace ej))
          (third_after (crosses_now c a b) c a.pace b.pace
          ∙ ap (λ (v : ℕ). c.beside_third + v) (by (crosses_now c a b) k b.pace ek));
      last = rw l r.last;
    }

-- a step gives the voxel where the walk stood
near_gives : (n m : Inside) → IsNear n → (code i j k : ℕ) → code ≡ morton_of (near_voxel n)
    → code ≢ n.last → AreNow n.axes i j k → IsStep n.axes m.axes i j k
    → m.last ≡ n.last → near_keys n ≡ near_voxel n ∷ near_keys m
unfolding near_steps
near_gives n m r code i j k coded other now s l =
    let a = r.track_a in
    let b = r.track_b in
    let c = r.track_c in
    let w = make_walk a b c true in
    let v = make_walk (track_after (crosses_now a b c) a b.pace c.pace)
    (track_after (crosses_now b c a) b c.pace a.pace)
    (track_after (crosses_now c a b) c a.pace b.pace) true in
    let e = near_goes_on n r code coded other in
    near_left n r ∙ walk_steps w v r.tracks refl e refl refl refl refl
    ∙ ap (λ l. l ∷ keys_to_come v) (sym (alike_voxel _ _ _ a b c (near_alike n r)))
    ∙ ap (λ ks. near_voxel n ∷ ks)
    (sym (near_left m (near_steps n m r code i j k coded other now s l)))

-- after a step: what is left is a near walk, and the voxel where the walk stood was given
pub record HasStepped (n m : Inside) : Type 0 where
  pub near : IsNear m
  pub gives : near_keys n ≡ near_voxel n ∷ near_keys m

pub stepped : (n m : Inside) → IsNear n → (code : ℕ) → code ≡ morton_of (near_voxel n)
    → code ≢ n.last → HasCrossed n.axes m.axes → m.last ≡ n.last → HasStepped n m
stepped n m r code coded other h l = record {
  near = near_steps n m r code _ _ _ coded other h.now h.step l;
  gives = near_gives n m r code _ _ _ coded other h.now h.step l;
}

-- no near walk is without a voxel
pub near_some : (n : Inside) → IsNear n → near_keys n ≢ []
near_some n r none =
    let w = make_walk r.track_a r.track_b r.track_c true in
    walk_goes_on w w refl refl (sym (near_left n r) ∙ none)

-- the axes of tracks, with the orders of their places, to the last voxel of these
pub record IsMadeOf (n : NearAxes) (x y z : Track) : Type 0 where
  pub x_is : n.x ≡ axis_of_track 1 x
  pub y_is : n.y ≡ axis_of_track 2 y
  pub z_is : n.z ≡ axis_of_track 4 z
  pub small_x : x.pace < 2 ^ 63
  pub small_y : y.pace < 2 ^ 63
  pub small_z : z.pace < 2 ^ 63
  pub y_after_x : IsOrder n.y_after_x x.beside_next y.beside_third
  pub z_after_x : IsOrder n.z_after_x x.beside_third z.beside_next
  pub z_after_y : IsOrder n.z_after_y y.beside_next z.beside_third

axis_to : (unit end last : ℕ) (a : NearAxis) (t : Track) (b : Axis) → a ≡ axis_of_track unit t
    → t.pace < 2 ^ 63 → t.rises ≡ b.rises → t.key ≡ b.key → t.crossings ≡ b.crossings → HasRoom b
    → last ≡ key_after b b.crossings → last ≡ end → IsAxisTo unit end a t
axis_to unit end last a t b same small er ek ec room el ee = record {
  same = same;
  small = small;
  rising =
      λ e. let to : key_after b b.crossings ≡ b.key + b.crossings = rw (sym er ∙ e) refl in
      omega (arith, to, el, ee, ek, ec);
  falling =
      λ e. let to : key_after b b.crossings ≡ b.key - b.crossings = rw (sym er ∙ e) refl in
      omega (arith, to, el, ee, ek, ec, room.falling (sym er ∙ e));
}

-- such a walk is a near one
pub near_new : (n : Inside) (x y z : Track) → AreTracks x y z → IsMadeOf n.axes x y z
    → HasLast (keys_left x y z) n.last → IsNear n
near_new n x y z r m l =
    let end = last_of_tracks x y z r l.voxel l.last in
    let at = coded_voxel l.voxel n.last l.on_map l.coded in
    record {
      track_a = x;
      track_b = y;
      track_c = z;
      tracks = r;
      axis_a = axis_to _ _ l.voxel.x n.axes.x x r.a m.x_is m.small_x r.track_a.rises r.track_a.key
          r.track_a.crossings r.is_a (ap (λ (k : Voxel). k.x) end) (ap (λ (k : Voxel). k.x) at);
      axis_b = axis_to _ _ l.voxel.y n.axes.y y r.b m.y_is m.small_y r.track_b.rises r.track_b.key
          r.track_b.crossings r.is_b (ap (λ (k : Voxel). k.y) end) (ap (λ (k : Voxel). k.y) at);
      axis_c = axis_to _ _ l.voxel.z n.axes.z z r.c m.z_is m.small_z r.track_c.rises r.track_c.key
          r.track_c.crossings r.is_c (ap (λ (k : Voxel). k.z) end) (ap (λ (k : Voxel). k.z) at);
      y_after_x = m.y_after_x;
      z_after_x = m.z_after_x;
      z_after_y = m.z_after_y;
      last = rw l.coded (morton_below l.voxel);
    }

-- and has the voxels of these tracks to give
pub near_made : (n : Inside) (x y z : Track) → AreTracks x y z → IsMadeOf n.axes x y z
    → HasLast (keys_left x y z) n.last → near_keys n ≡ keys_left x y z
unfolding near_new
near_made n x y z r m l = near_left n (near_new n x y z r m l)
