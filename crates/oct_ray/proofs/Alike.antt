-- A walk goes the same way wherever its crossings come, as long as they come after one another as
-- they do.
use Rattle.std.proofs.Common.{◌≡◌, ℕ, zero, suc, ◌+◌, ◌-◌, ◌*◌, Bool, true, false}
use Rattle.std.proofs.Common.{refl, sym, ◌∙◌, ap, arith, nat_le, [], ◌∷◌}
use Rattle.std.proofs.lemmas.Bool.Decides.{nat_tests}
use Rattle.oct_ray.specs.declared.track.Track.{Track}
use Rattle.oct_ray.specs.Track.{crosses_now, has_ended, keys_left, track_after, track_keys}
use Rattle.oct_ray.specs.Track.{track_voxel}
use Rattle.oct_ray.specs.Near.{bit}
use Rattle.oct_ray.proofs.Tracks.{track_keys_end, track_keys_suc}

-- two tracks with other places alone
pub record IsAlike (s t : Track) : Type 0 where
  pub key : s.key ≡ t.key
  pub rises : s.rises ≡ t.rises
  pub crossings : s.crossings ≡ t.crossings
  pub pace : s.pace ≡ t.pace

-- three tracks, and three others that cross after one another as these do
pub record AreAlike (x y z x' y' z' : Track) : Type 0 where
  pub like_x : IsAlike x x'
  pub like_y : IsAlike y y'
  pub like_z : IsAlike z z'
  pub y_x : y.beside_third + x'.beside_next ≡ y'.beside_third + x.beside_next
  pub z_x : z.beside_next + x'.beside_third ≡ z'.beside_next + x.beside_third
  pub z_y : z.beside_third + y'.beside_next ≡ z'.beside_third + y.beside_next

same_order : (a b a' b' : ℕ) → b + a' ≡ b' + a → nat_le a b ≡ nat_le a' b'
same_order a b a' b' e = grind (arith, nat_tests)

-- which axes cross next is the same
pub alike_crosses : (x y z x' y' z' : Track) → AreAlike x y z x' y' z'
    → crosses_now x y z ≡ crosses_now x' y' z'
alike_crosses x y z x' y' z' a =
    let next = same_order x.beside_next y.beside_third x'.beside_next y'.beside_third a.y_x in
    let third = same_order x.beside_third z.beside_next x'.beside_third z'.beside_next a.z_x in
    rw (next, third) refl

-- the three in turn
pub turned : (x y z x' y' z' : Track) → AreAlike x y z x' y' z' → AreAlike y z x y' z' x'
turned x y z x' y' z' a = record {
  like_x = a.like_y;
  like_y = a.like_z;
  like_z = a.like_x;
  y_x = a.z_y;
  z_x = omega (arith, a.y_x);
  z_y = omega (arith, a.z_x);
}

-- where a track crosses after a step
pub next_after : (now : Bool) (a : Track) (p q : ℕ)
    → (track_after now a p q).beside_next ≡ a.beside_next + bit now * p
next_after true a p q = omega arith
next_after false a p q = omega arith

pub third_after : (now : Bool) (a : Track) (p q : ℕ)
    → (track_after now a p q).beside_third ≡ a.beside_third + bit now * q
third_after true a p q = omega arith
third_after false a p q = omega arith

like_after : (now : Bool) (s t : Track) (p q p' q' : ℕ) → IsAlike s t
    → IsAlike (track_after now s p q) (track_after now t p' q')
like_after true s t p q p' q' h = record {
  key = rw (h.rises, h.key) refl;
  rises = h.rises;
  crossings = ap (λ (n : ℕ). n - 1) h.crossings;
  pace = h.pace;
}
like_after false s t p q p' q' h = record {
  key = h.key;
  rises = h.rises;
  crossings = h.crossings;
  pace = h.pace;
}

-- a step of both keeps them alike
alike_after : (t u v : Bool) (x y z x' y' z' : Track) → AreAlike x y z x' y' z'
    → AreAlike (track_after t x y.pace z.pace) (track_after u y z.pace x.pace)
    (track_after v z x.pace y.pace) (track_after t x' y'.pace z'.pace)
    (track_after u y' z'.pace x'.pace) (track_after v z' x'.pace y'.pace)
alike_after t u v x y z x' y' z' a =
    let by : (now : Bool) (p q : ℕ) → p ≡ q → bit now * p ≡ bit now * q =
    λ now p q e. ap (λ (n : ℕ). bit now * n) e in
    record {
      like_x = like_after t x x' y.pace z.pace y'.pace z'.pace a.like_x;
      like_y = like_after u y y' z.pace x.pace z'.pace x'.pace a.like_y;
      like_z = like_after v z z' x.pace y.pace x'.pace y'.pace a.like_z;
      y_x = omega (
        arith,
        a.y_x,
        third_after u y z.pace x.pace,
        third_after u y' z'.pace x'.pace,
        next_after t x y.pace z.pace,
        next_after t x' y'.pace z'.pace,
        by u x.pace x'.pace a.like_x.pace,
        by t y.pace y'.pace a.like_y.pace,
      );
      z_x = omega (
        arith,
        a.z_x,
        next_after v z x.pace y.pace,
        next_after v z' x'.pace y'.pace,
        third_after t x y.pace z.pace,
        third_after t x' y'.pace z'.pace,
        by v x.pace x'.pace a.like_x.pace,
        by t z.pace z'.pace a.like_z.pace,
      );
      z_y = omega (
        arith,
        a.z_y,
        third_after v z x.pace y.pace,
        third_after v z' x'.pace y'.pace,
        next_after u y z.pace x.pace,
        next_after u y' z'.pace x'.pace,
        by v y.pace y'.pace a.like_y.pace,
        by u z.pace z'.pace a.like_z.pace,
      );
    }

alike_ends : (x y z x' y' z' : Track) → AreAlike x y z x' y' z'
    → has_ended x y z ≡ has_ended x' y' z'
alike_ends x y z x' y' z' a = rw (a.like_x.crossings, a.like_y.crossings, a.like_z.crossings) refl

pub alike_voxel : (x y z x' y' z' : Track) → AreAlike x y z x' y' z'
    → track_voxel x y z ≡ track_voxel x' y' z'
alike_voxel x y z x' y' z' a = rw (a.like_x.key, a.like_y.key, a.like_z.key) refl

steps_alike : (f : ℕ) (x y z x' y' z' : Track) → crosses_now x y z ≡ crosses_now x' y' z'
    → crosses_now y z x ≡ crosses_now y' z' x' → crosses_now z x y ≡ crosses_now z' x' y'
    → track_keys f (track_after (crosses_now x y z) x' y'.pace z'.pace)
    (track_after (crosses_now y z x) y' z'.pace x'.pace)
    (track_after (crosses_now z x y) z' x'.pace y'.pace)
    ≡ track_keys f (track_after (crosses_now x' y' z') x' y'.pace z'.pace)
    (track_after (crosses_now y' z' x') y' z'.pace x'.pace)
    (track_after (crosses_now z' x' y') z' x'.pace y'.pace)
steps_alike f x y z x' y' z' ex ey ez = rw (ex, ey, ez) refl

-- alike tracks give the same voxels
pub alike_keys : (f : ℕ) (x y z x' y' z' : Track) → AreAlike x y z x' y' z'
    → track_keys f x y z ≡ track_keys f x' y' z'
unfolding track_keys
alike_keys zero x y z x' y' z' a = ap (λ k. k ∷ []) (alike_voxel x y z x' y' z' a)
alike_keys (suc f) x y z x' y' z' a =
    elim (has_ended x y z) as
    (λ t. has_ended x y z ≡ t → track_keys (suc f) x y z ≡ track_keys (suc f) x' y' z') [
      | true ↦ λ e.
          track_keys_end (suc f) x y z e ∙ ap (λ k. k ∷ []) (alike_voxel x y z x' y' z' a)
          ∙ sym (track_keys_end (suc f) x' y' z' (sym (alike_ends x y z x' y' z' a) ∙ e))
      | false ↦ λ e.
          let ex = alike_crosses x y z x' y' z' a in
          let b = turned x y z x' y' z' a in
          let ey = alike_crosses y z x y' z' x' b in
          let ez = alike_crosses z x y z' x' y' (turned y z x y' z' x' b) in
          let rest =
          alike_keys f _ _ _ _ _ _
          (alike_after (crosses_now x y z) (crosses_now y z x) (crosses_now z x y) x y z x' y' z' a)
          ∙ steps_alike f x y z x' y' z' ex ey ez in
          track_keys_suc f x y z e
          ∙ ap (λ ks. track_voxel x y z ∷ ks) rest
          ∙ ap (λ k. k ∷ track_keys f (track_after (crosses_now x' y' z') x' y'.pace z'.pace)
          (track_after (crosses_now y' z' x') y' z'.pace x'.pace)
          (track_after (crosses_now z' x' y') z' x'.pace y'.pace)) (alike_voxel x y z x' y' z' a)
          ∙ sym (track_keys_suc f x' y' z' (sym (alike_ends x y z x' y' z' a) ∙ e))
    ] refl

-- and as many
pub alike_left : (x y z x' y' z' : Track) → AreAlike x y z x' y' z'
    → keys_left x y z ≡ keys_left x' y' z'
alike_left x y z x' y' z' a =
    let few : x.crossings + y.crossings + z.crossings
    ≡ x'.crossings + y'.crossings + z'.crossings =
    rw (a.like_x.crossings, a.like_y.crossings, a.like_z.crossings) refl in
    ap (λ n. track_keys n x y z) few
    ∙ alike_keys (x'.crossings + y'.crossings + z'.crossings) x y z x' y' z' a
