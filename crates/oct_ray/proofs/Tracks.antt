-- The tracks of three axes step as the axes do, by additions alone.
use Rattle.std.proofs.Common.{◌≡◌, ◌≢◌, ◌⊎◌, inl, inr, ℕ, zero, suc, ◌+◌, ◌-◌, ◌*◌, ◌^◌, ◌<◌, ◌≤◌}
use Rattle.std.proofs.Common.{Bool, true, false, not, eqb, ◌&&◌, ◌||◌, [], ◌∷◌, refl, arith, sym}
use Rattle.std.proofs.Common.{◌∙◌, ap, subst, length, List}
use Rattle.oct_key.specs.Voxel.{Voxel}
use Rattle.std.proofs.lemmas.Bool.Decides.{nat_tests}
use Rattle.std.proofs.lemmas.Nat.{mul-lt}
use Rattle.oct_ray.specs.Axis.{HasRoom, crosses, axis_after, not_after}
use Rattle.oct_ray.specs.Track.{track_after, crosses_now, has_ended, track_voxel, track_keys}
use Rattle.oct_ray.specs.Track.{keys_to_come, IsEnding, IsTrackOf, AreTracks, CanPass}
use Rattle.oct_ray.specs.Axis.{axis_keys, axis_voxel}
use Rattle.oct_ray.specs.declared.axis.Axis.{Axis}
use Rattle.oct_ray.specs.declared.track.Track.{Track}
use Rattle.oct_ray.specs.declared.walk.Walk.TheInside.{Inside}
use Rattle.oct_ray.proofs.Moments.{NotAfter, Before}
use Rattle.oct_ray.proofs.Moments.{moment_le_lt}
use Rattle.oct_ray.proofs.Crossings.{next_crossing, next_crossing-IsMoment, lateness-le}
use Rattle.oct_ray.proofs.Crossings.{product_less_one, crossings_left, axis_after-HasRoom}
use Rattle.oct_ray.proofs.Crossings.{crosses-crossings, not_after_from}
use Rattle.oct_ray.proofs.KeyLists.{keys_suc, keys_end, keys_more, nonzero_from}
use Rattle.oct_ray.proofs.Visits.{end_place, same_key}

-- an axis with a crossing left crosses before one with none
done_after : (a b : Axis) → HasRoom a → HasRoom b → IsEnding a → IsEnding b → 0 < a.crossings
    → b.crossings ≡ 0 → Before (next_crossing a) (next_crossing b)
done_after a b ia ib ea eb l z =
    let h : NotAfter (next_crossing a) end_place = omega (arith, ea.ends 0 l) in
    let p : b.crossings * b.edge ≡ 0 = rw z (omega arith) in
    let k : Before end_place (next_crossing b) = omega (arith, eb.beyond) in
    moment_le_lt (next_crossing a) end_place (next_crossing b) (next_crossing-IsMoment a ia)
    (omega arith, omega arith) (next_crossing-IsMoment b ib) h k

before_not : (a b : Axis) → Before (next_crossing b) (next_crossing a) → not_after a b ≡ false
before_not a b h = grind (arith, nat_tests)

crosses_tests : (l m n : ℕ) (s t : Bool) → 0 < l + m + n → (0 < l → m ≡ 0 → s ≡ true)
    → (0 < l → n ≡ 0 → t ≡ true) → (0 < m → l ≡ 0 → s ≡ false) → (0 < n → l ≡ 0 → t ≡ false)
    → s && t ≡ (not (eqb l 0) && ((eqb m 0 || s) && (eqb n 0 || t)))
crosses_tests l m n s t h ab ac ba ca = grind (arith, nat_tests)

crosses_by : (a b c : Axis) → eqb (crossings_left a b c) 0 ≡ false
    → (0 < a.crossings → b.crossings ≡ 0 → not_after a b ≡ true)
    → (0 < a.crossings → c.crossings ≡ 0 → not_after a c ≡ true)
    → (0 < b.crossings → a.crossings ≡ 0 → not_after a b ≡ false)
    → (0 < c.crossings → a.crossings ≡ 0 → not_after a c ≡ false)
    → not_after a b && not_after a c ≡ crosses a b c
crosses_by a b c h ab ac ba ca =
    crosses_tests a.crossings b.crossings c.crossings (not_after a b) (not_after a c)
    (nonzero_from (crossings_left a b c) h) ab ac ba ca

not_after_done : (a b : Axis) → HasRoom a → HasRoom b → IsEnding a → IsEnding b → 0 < a.crossings
    → b.crossings ≡ 0 → (not_after a b ≡ true) × (not_after b a ≡ false)
not_after_done a b ia ib ea eb l z =
    let h = done_after a b ia ib ea eb l z in
    (not_after_from a b (omega arith), before_not b a h)

-- so the tests need not ask which axes have a crossing left
crosses_is : (a b c : Axis) → HasRoom a → HasRoom b → HasRoom c → IsEnding a → IsEnding b
    → IsEnding c → eqb (crossings_left a b c) 0 ≡ false
    → not_after a b && not_after a c ≡ crosses a b c
crosses_is a b c ia ib ic ea eb ec h =
    crosses_by a b c h (λ l z. (not_after_done a b ia ib ea eb l z).0)
    (λ l z. (not_after_done a c ia ic ea ec l z).0)
    (λ l z. (not_after_done b a ib ia eb ea l z).1) (λ l z. (not_after_done c a ic ia ec ea l z).1)

-- the test on tracks is the one on axes
first_is : (x y z : Track) (a b c : Axis) → IsTrackOf x a b c → IsTrackOf y b c a
    → IsTrackOf z c a b → crosses_now x y z ≡ not_after a b && not_after a c
first_is x y z a b c tx ty tz =
    rw (tx.beside_next, tx.beside_third, ty.beside_third, tz.beside_next) refl

axis_after-same : (t : Bool) (a : Axis)
    → ((axis_after t a).span ≡ a.span) × ((axis_after t a).edge ≡ a.edge)
axis_after-same true a = (refl, refl)
axis_after-same false a = (refl, refl)

-- a track passes as its axis steps
IsTrackOf-track_after : (t : Bool) (x : Track) (a b c b' c' : Axis) (p q : ℕ) → IsTrackOf x a b c
    → p ≡ 2 * (b.edge * b.span) → q ≡ 2 * (c.edge * c.span) → b.edge ≡ a.edge → c.edge ≡ a.edge
    → b'.span ≡ b.span → c'.span ≡ c.span → IsTrackOf (track_after t x p q) (axis_after t a) b' c'
IsTrackOf-track_after false x a b c b' c' p q h ep eq sb sc kb kc = record {
  key = h.key;
  rises = h.rises;
  crossings = h.crossings;
  beside_next = rw kb h.beside_next;
  beside_third = rw kc h.beside_third;
  pace = h.pace;
}
IsTrackOf-track_after true x a b c b' c' p q h ep eq sb sc kb kc =
    let eb : b.edge * b.span ≡ a.edge * b.span = ap (λ (n : ℕ). n * b.span) sb in
    let ec : c.edge * c.span ≡ a.edge * c.span = ap (λ (n : ℕ). n * c.span) sc in
    record {
      key = rw (h.rises, h.key) refl;
      rises = h.rises;
      crossings = ap (λ (n : ℕ). n - 1) h.crossings;
      beside_next = rw kb (omega (arith, h.beside_next));
      beside_third = rw kc (omega (arith, h.beside_third));
      pace = h.pace;
    }

step_ending : (t : Bool) (a : Axis) → (t ≡ true → 0 < a.crossings) → IsEnding a
    → IsEnding (axis_after t a)
step_ending false a h e = e
step_ending true a h e = record {
  ends = λ i l. omega (arith, e.ends (i + 1) (omega arith));
  beyond = let p = product_less_one a.crossings a.edge (h refl) in omega (arith, e.beyond);
}

end_is : (x y z : Track) (r : AreTracks x y z)
    → has_ended x y z ≡ eqb (crossings_left r.a r.b r.c) 0
end_is x y z r = rw (r.track_a.crossings, r.track_b.crossings, r.track_c.crossings) refl

x_is : (x y z : Track) (r : AreTracks x y z) → has_ended x y z ≡ false
    → crosses_now x y z ≡ crosses r.a r.b r.c
x_is x y z r h =
    first_is x y z r.a r.b r.c r.track_a r.track_b r.track_c
    ∙ crosses_is r.a r.b r.c r.is_a r.is_b r.is_c r.ending_a r.ending_b r.ending_c
    (sym (end_is x y z r) ∙ h)

-- the three tracks in turn
abbrev turned : (x y z : Track) → AreTracks x y z → AreTracks y z x
turned x y z r = record {
  a = r.b;
  b = r.c;
  c = r.a;
  is_a = r.is_b;
  is_b = r.is_c;
  is_c = r.is_a;
  ending_a = r.ending_b;
  ending_b = r.ending_c;
  ending_c = r.ending_a;
  same_b = r.same_c ∙ sym r.same_b;
  same_c = sym r.same_b;
  track_a = r.track_b;
  track_b = r.track_c;
  track_c = r.track_a;
}

turned_zero : (l m n : ℕ) → eqb (l + m + n) 0 ≡ false → eqb (m + n + l) 0 ≡ false
turned_zero l m n h = grind (arith, nat_tests)

turned_end : (x y z : Track) → has_ended x y z ≡ false → has_ended y z x ≡ false
turned_end x y z h = turned_zero x.crossings y.crossings z.crossings h

IsTrackOf-equal : (s t : Bool) (x : Track) (a b c : Axis) (p q : ℕ) → s ≡ t
    → IsTrackOf (track_after t x p q) a b c → IsTrackOf (track_after s x p q) a b c
IsTrackOf-equal s t x a b c p q e h =
    subst (λ (w : Bool). IsTrackOf (track_after w x p q) a b c) (sym e) h

abbrev AreTracks-track_after : (x y z : Track) (r : AreTracks x y z) → has_ended x y z ≡ false →
    AreTracks (track_after (crosses_now x y z) x y.pace z.pace)
    (track_after (crosses_now y z x) y z.pace x.pace)
    (track_after (crosses_now z x y) z x.pace y.pace)
AreTracks-track_after x y z r h =
    let fx = x_is x y z r h in
    let fy = x_is y z x (turned x y z r) (turned_end x y z h) in
    let fz = x_is z x y (turned y z x (turned x y z r)) (turned_end y z x (turned_end x y z h)) in
    let sa = axis_after-same (crosses r.a r.b r.c) r.a in
    let sb = axis_after-same (crosses r.b r.c r.a) r.b in
    let sc = axis_after-same (crosses r.c r.a r.b) r.c in
    record {
      a = axis_after (crosses r.a r.b r.c) r.a;
      b = axis_after (crosses r.b r.c r.a) r.b;
      c = axis_after (crosses r.c r.a r.b) r.c;
      is_a = axis_after-HasRoom (crosses r.a r.b r.c) r.a (crosses-crossings r.a r.b r.c) r.is_a;
      is_b = axis_after-HasRoom (crosses r.b r.c r.a) r.b (crosses-crossings r.b r.c r.a) r.is_b;
      is_c = axis_after-HasRoom (crosses r.c r.a r.b) r.c (crosses-crossings r.c r.a r.b) r.is_c;
      ending_a = step_ending (crosses r.a r.b r.c) r.a (crosses-crossings r.a r.b r.c) r.ending_a;
      ending_b = step_ending (crosses r.b r.c r.a) r.b (crosses-crossings r.b r.c r.a) r.ending_b;
      ending_c = step_ending (crosses r.c r.a r.b) r.c (crosses-crossings r.c r.a r.b) r.ending_c;
      same_b = sb.1 ∙ r.same_b ∙ sym sa.1;
      same_c = sc.1 ∙ r.same_c ∙ sym sa.1;
      track_a =
          IsTrackOf-equal _ _ x _ _ _ y.pace z.pace fx
          (IsTrackOf-track_after (crosses r.a r.b r.c) x r.a r.b r.c _ _ y.pace z.pace r.track_a
          r.track_b.pace r.track_c.pace r.same_b r.same_c sb.0 sc.0);
      track_b =
          IsTrackOf-equal _ _ y _ _ _ z.pace x.pace fy
          (IsTrackOf-track_after (crosses r.b r.c r.a) y r.b r.c r.a _ _ z.pace x.pace r.track_b
          r.track_c.pace r.track_a.pace (r.same_c ∙ sym r.same_b) (sym r.same_b) sc.0 sa.0);
      track_c =
          IsTrackOf-equal _ _ z _ _ _ x.pace y.pace fz
          (IsTrackOf-track_after (crosses r.c r.a r.b) z r.c r.a r.b _ _ x.pace y.pace r.track_c
          r.track_a.pace r.track_b.pace (sym r.same_c) (r.same_b ∙ sym r.same_c) sa.0 sb.0);
    }

key_is : (x y z : Track) (r : AreTracks x y z) → track_voxel x y z ≡ axis_voxel r.a r.b r.c
key_is x y z r = same_key _ _ _ _ _ _ r.track_a.key r.track_b.key r.track_c.key

pub track_keys_end : (f : ℕ) (x y z : Track) → has_ended x y z ≡ true
    → track_keys f x y z ≡ track_voxel x y z ∷ []
unfolding track_keys
track_keys_end zero x y z e = refl
track_keys_end (suc f) x y z e = rw e refl

pub track_keys_suc : (f : ℕ) (x y z : Track) → has_ended x y z ≡ false
    → track_keys (suc f) x y z ≡ track_voxel x y z
    ∷ track_keys f (track_after (crosses_now x y z) x y.pace z.pace)
    (track_after (crosses_now y z x) y z.pace x.pace)
    (track_after (crosses_now z x y) z x.pace y.pace)
unfolding track_keys
track_keys_suc f x y z e = rw e refl

-- the keys of the tracks are those of their axes
pub track_keys_are : (f : ℕ) (x y z : Track) (r : AreTracks x y z)
    → track_keys f x y z ≡ axis_keys f r.a r.b r.c
unfolding track_keys axis_keys
track_keys_are zero x y z r = ap (λ k. k ∷ []) (key_is x y z r)
track_keys_are (suc f) x y z r =
    elim (has_ended x y z) as
    (λ t. has_ended x y z ≡ t → track_keys (suc f) x y z ≡ axis_keys (suc f) r.a r.b r.c) [
      | true ↦ λ e. track_keys_end (suc f) x y z e ∙ ap (λ k. k ∷ []) (key_is x y z r)
          ∙ sym (keys_end (suc f) r.a r.b r.c (sym (end_is x y z r) ∙ e))
      | false ↦ λ e.
          track_keys_suc f x y z e
          ∙ ap (λ k. k ∷ track_keys f (track_after (crosses_now x y z) x y.pace z.pace)
          (track_after (crosses_now y z x) y z.pace x.pace)
          (track_after (crosses_now z x y) z x.pace y.pace))
          (key_is x y z r)
          ∙ ap (λ ks. axis_voxel r.a r.b r.c ∷ ks)
          (track_keys_are f _ _ _ (AreTracks-track_after x y z r e))
          ∙ sym (keys_suc f r.a r.b r.c (sym (end_is x y z r) ∙ e))
    ] refl

crosses_now-crossings : (x y z : Track) (r : AreTracks x y z) → has_ended x y z ≡ false
    → crosses_now x y z ≡ true → 0 < x.crossings
crosses_now-crossings x y z r h e =
    let l = crosses-crossings r.a r.b r.c (sym (x_is x y z r h) ∙ e) in
    omega (arith, r.track_a.crossings)

-- twice a product of numbers below 2 ^ 62
small_product : (m n : ℕ) → m < 2 ^ 62 → n < 2 ^ 62 → 2 * (m * n) < 2 ^ 125
small_product m n h k = let p = mul-lt m n (2 ^ 62) (2 ^ 62) h k in omega arith

pub can_pass : (x y z : Track) → AreTracks x y z → has_ended x y z ≡ false
    → CanPass (crosses_now x y z) x y.pace z.pace
can_pass x y z r h =
    let distance : r.a.distance < 2 ^ 62 = omega (arith, r.is_a.small) in
    let ab = small_product r.a.distance r.b.span distance r.is_b.small_span in
    let ac = small_product r.a.distance r.c.span distance r.is_c.small_span in
    let pb = small_product r.b.edge r.b.span r.is_b.small_edge r.is_b.small_span in
    let pc = small_product r.c.edge r.c.span r.is_c.small_edge r.is_c.small_span in
    let l = lateness-le r.a in
    record {
      crossings = crosses_now-crossings x y z r h;
      rising =
          λ e. let k = r.is_a.rising (sym r.track_a.rises ∙ e) in
          omega (arith, r.track_a.crossings, r.track_a.key);
      falling =
          λ e. let k = r.is_a.falling (sym r.track_a.rises ∙ e) in
          omega (arith, r.track_a.crossings, r.track_a.key);
      beside_next = omega (arith, r.track_a.beside_next, r.track_b.pace);
      beside_third = omega (arith, r.track_a.beside_third, r.track_c.pace);
    }

pub keys_to_come_more : (w : Inside) → w.more ≡ true
    → keys_to_come w ≡ track_keys (w.x.crossings + w.y.crossings + w.z.crossings) w.x w.y w.z
keys_to_come_more w e = rw e refl

crossings_left-are : (x y z : Track) (r : AreTracks x y z)
    → x.crossings + y.crossings + z.crossings ≡ crossings_left r.a r.b r.c
crossings_left-are x y z r = rw (r.track_a.crossings, r.track_b.crossings, r.track_c.crossings) refl

-- the keys of a walk are those of its axes
pub keys_are : (w : Inside) (r : AreTracks w.x w.y w.z) → w.more ≡ true
    → keys_to_come w ≡ axis_keys (crossings_left r.a r.b r.c) r.a r.b r.c
keys_are w r e =
    keys_to_come_more w e
    ∙ track_keys_are (w.x.crossings + w.y.crossings + w.z.crossings) w.x w.y w.z r
    ∙ ap (λ n. axis_keys n r.a r.b r.c) (crossings_left-are w.x w.y w.z r)

pub walk_ends : (w : Inside) → w.more ≡ true → has_ended w.x w.y w.z ≡ true
    → keys_to_come w ≡ track_voxel w.x w.y w.z ∷ []
walk_ends w m e =
    keys_to_come_more w m
    ∙ track_keys_end (w.x.crossings + w.y.crossings + w.z.crossings) w.x w.y w.z e

-- no walk comes to an end before its last voxel
some_keys : (fuel : ℕ) (x y z : Track) → track_keys fuel x y z ≢ []
unfolding track_keys
some_keys zero x y z e = cc
some_keys (suc fuel) x y z e = cc

pub walk_goes_on : (w v : Inside) → w.more ≡ true → v.more ≡ w.more → keys_to_come v ≢ []
walk_goes_on w v m em none =
    some_keys (v.x.crossings + v.y.crossings + v.z.crossings) v.x v.y v.z
    (sym (keys_to_come_more v (em ∙ m)) ∙ none)

-- the first of the keys is where the tracks stand
first_left : (fuel : ℕ) (x y z : Track)
    → (rest : List Voxel) × (track_keys fuel x y z ≡ track_voxel x y z ∷ rest)
unfolding track_keys
first_left zero x y z = ([], refl)
first_left (suc f) x y z =
    elim (has_ended x y z) as
    (λ t. has_ended x y z ≡ t
    → (rest : List Voxel) × (track_keys (suc f) x y z ≡ track_voxel x y z ∷ rest)) [
      | true ↦ λ e. ([], track_keys_end (suc f) x y z e)
      | false ↦ λ e. (
        track_keys f (track_after (crosses_now x y z) x y.pace z.pace)
            (track_after (crosses_now y z x) y z.pace x.pace)
            (track_after (crosses_now z x y) z x.pace y.pace),
        track_keys_suc f x y z e,
      )
    ] refl

-- what a walk gives next is where it stands
pub next_to_come : (w : Inside) → w.more ≡ true
    → (rest : List Voxel) × (keys_to_come w ≡ track_voxel w.x w.y w.z ∷ rest)
next_to_come w more =
    let first = first_left (w.x.crossings + w.y.crossings + w.z.crossings) w.x w.y w.z in
    (first.0, keys_to_come_more w more ∙ first.1)

-- at most one voxel is left where the walk has ended
pub walk_left : (w : Inside) → (w.more ≡ false) ⊎ ((w.more ≡ true) × (has_ended w.x w.y w.z ≡ true))
    → length (keys_to_come w) ≤ 1
walk_left w (inl none) = rw none (omega arith)
walk_left w (inr (more, ended)) = rw (walk_ends w more ended) (omega arith)

abbrev pub after : Inside → Inside
after w = record {
  x = track_after (crosses_now w.x w.y w.z) w.x w.y.pace w.z.pace;
  y = track_after (crosses_now w.y w.z w.x) w.y w.z.pace w.x.pace;
  z = track_after (crosses_now w.z w.x w.y) w.z w.x.pace w.y.pace;
  more = w.more;
}

walk_after : (w : Inside) → AreTracks w.x w.y w.z → w.more ≡ true → has_ended w.x w.y w.z ≡ false
    → keys_to_come w ≡ track_voxel w.x w.y w.z ∷ keys_to_come (after w)
walk_after w r m e =
    let s = AreTracks-track_after w.x w.y w.z r e in
    keys_are w r m
    ∙ keys_more r.a r.b r.c s.a s.b s.c r.is_a r.is_b r.is_c (sym (end_is w.x w.y w.z r) ∙ e) refl
    refl refl
    ∙ ap (λ k. k ∷ axis_keys (crossings_left s.a s.b s.c) s.a s.b s.c) (sym (key_is w.x w.y w.z r))
    ∙ ap (λ ks. track_voxel w.x w.y w.z ∷ ks) (sym (keys_are (after w) s m))

abbrev pub make_walk : Track → Track → Track → Bool → Inside
make_walk x y z m = record { x = x; y = y; z = z; more = m }

tracks_equal : (x y z : Track) (m : Bool) (x' y' z' : Track) (m' : Bool) → x ≡ x' → y ≡ y' → z ≡ z'
    → m ≡ m' → make_walk x y z m ≡ make_walk x' y' z' m'
tracks_equal x y z m x' y' z' m' ex ey ez em = cc

same_tracks : (w v : Inside) → v.x ≡ (after w).x → v.y ≡ (after w).y → v.z ≡ (after w).z
    → v.more ≡ w.more → v ≡ after w
same_tracks w v ex ey ez em =
    tracks_equal v.x v.y v.z v.more (after w).x (after w).y (after w).z w.more ex ey ez em

pub walk_steps : (w v : Inside) → AreTracks w.x w.y w.z → w.more ≡ true
    → has_ended w.x w.y w.z ≡ false → v.x ≡ (after w).x → v.y ≡ (after w).y → v.z ≡ (after w).z
    → v.more ≡ w.more → keys_to_come w ≡ track_voxel w.x w.y w.z ∷ keys_to_come v
walk_steps w v r m e ex ey ez em =
    walk_after w r m e
    ∙ ap (λ u. track_voxel w.x w.y w.z ∷ keys_to_come u) (sym (same_tracks w v ex ey ez em))

pub AreTracks-steps : (w : Inside) (x y z : Track) → AreTracks w.x w.y w.z
    → has_ended w.x w.y w.z ≡ false → x ≡ (after w).x → y ≡ (after w).y → z ≡ (after w).z
    → AreTracks x y z
AreTracks-steps w x y z r e ex ey ez = rw (ex, ey, ez) (AreTracks-track_after w.x w.y w.z r e)

pub can_pass_x : (w : Inside) → AreTracks w.x w.y w.z → has_ended w.x w.y w.z ≡ false
    → CanPass (crosses_now w.x w.y w.z) w.x w.y.pace w.z.pace
can_pass_x w r e = can_pass w.x w.y w.z r e

pub can_pass_y : (w : Inside) → AreTracks w.x w.y w.z → has_ended w.x w.y w.z ≡ false
    → CanPass (crosses_now w.y w.z w.x) w.y w.z.pace w.x.pace
can_pass_y w r e = can_pass w.y w.z w.x (turned w.x w.y w.z r) (turned_end w.x w.y w.z e)

pub can_pass_z : (w : Inside) → AreTracks w.x w.y w.z → has_ended w.x w.y w.z ≡ false
    → CanPass (crosses_now w.z w.x w.y) w.z w.x.pace w.y.pace
can_pass_z w r e =
    can_pass w.z w.x w.y (turned w.y w.z w.x (turned w.x w.y w.z r))
    (turned_end w.y w.z w.x (turned_end w.x w.y w.z e))

track_keys_zero : (x y z : Track) → length (track_keys 0 x y z) ≤ 1
unfolding track_keys
track_keys_zero x y z = omega arith

pub length_track_keys : (f : ℕ) (x y z : Track) → length (track_keys f x y z) ≤ f + 1
length_track_keys zero x y z = track_keys_zero x y z
length_track_keys (suc f) x y z =
    elim (has_ended x y z) as
    (λ t. has_ended x y z ≡ t → length (track_keys (suc f) x y z) ≤ suc f + 1) [
      | true ↦ λ e. omega (arith, ap length (track_keys_end (suc f) x y z e))
      | false ↦ λ e.
          omega (
            arith,
            ap length (track_keys_suc f x y z e),
            length_track_keys f
                (track_after (crosses_now x y z) x y.pace z.pace) (track_after (crosses_now y z x)
                y z.pace x.pace) (track_after (crosses_now z x y) z x.pace y.pace),
          )
    ] refl

pub few_to_come : (x y z : Track) → AreTracks x y z
    → length (keys_to_come (make_walk x y z true)) ≤ 196606
few_to_come x y z r =
    omega (
      arith,
      length_track_keys (x.crossings + y.crossings + z.crossings) x y z,
      r.is_a.few,
      r.is_b.few,
      r.is_c.few,
      r.track_a.crossings,
      r.track_b.crossings,
      r.track_c.crossings,
    )
