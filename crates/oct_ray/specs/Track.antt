-- What a walk keeps of its axes, and the voxels that it has still to give.
use Rattle.std.specs.Prelude.{◌≡◌, ℕ, zero, suc, ◌+◌, ◌-◌, ◌*◌, ◌^◌, ◌<◌, ◌≤◌, ◌==◌, nat_le}
use Rattle.std.specs.Prelude.{Bool, true, false, ◌&&◌, if◌then◌else◌, List, [], ◌∷◌}
use Rattle.oct_key.specs.Voxel.{Voxel}
use Rattle.oct_ray.specs.declared.axis.Axis.{Axis}
use Rattle.oct_ray.specs.declared.track.Track.{Track}
use Rattle.oct_ray.specs.declared.walk.Walk.TheInside.{Inside}
use Rattle.oct_ray.specs.Axis.{HasRoom, lateness}

-- a track after its next crossing, where that comes now; p and q are the paces of the next axis
-- and of the third
abbrev pub track_after : Bool → Track → ℕ → ℕ → Track
track_after true a p q = record {
  key = if a.rises then a.key + 1 else a.key - 1;
  rises = a.rises;
  crossings = a.crossings - 1;
  beside_next = a.beside_next + p;
  beside_third = a.beside_third + q;
  pace = a.pace;
}
track_after false a p q = a

-- whether the next crossing of a comes no later than those of b and c
abbrev pub crosses_now : Track → Track → Track → Bool
crosses_now a b c = nat_le a.beside_next b.beside_third && nat_le a.beside_third c.beside_next

-- whether no crossing is left
abbrev pub has_ended : Track → Track → Track → Bool
has_ended x y z = x.crossings + y.crossings + z.crossings == 0

-- the voxel where three tracks stand
abbrev pub track_voxel : Track → Track → Track → Voxel
track_voxel x y z = record { x = x.key; y = y.key; z = z.key }

-- the voxels from where three tracks stand, at most fuel + 1 of them
unfoldable pub track_keys : ℕ → Track → Track → Track → List Voxel
track_keys zero x y z = track_voxel x y z ∷ []
track_keys (suc fuel) x y z =
    track_voxel x y z ∷ elim (has_ended x y z) [
      | true ↦ []
      | false ↦ track_keys fuel
          (track_after (crosses_now x y z) x y.pace z.pace)
          (track_after (crosses_now y z x) y z.pace x.pace)
          (track_after (crosses_now z x y) z x.pace y.pace)
    ]

-- the voxels from where three tracks stand until none of them has a crossing left
abbrev pub keys_left : Track → Track → Track → List Voxel
keys_left x y z = track_keys (x.crossings + y.crossings + z.crossings) x y z

-- the voxels that a walk has still to give
abbrev pub keys_to_come : Inside → List Voxel
keys_to_come w = elim w.more [
  | true ↦ keys_left w.x w.y w.z
  | false ↦ []
]

-- the crossings to come lie on the segment, and one more would lie beyond its end
pub record IsEnding (a : Axis) : Type 0 where
  pub ends : (i : ℕ) → i < a.crossings → 2 * (a.distance + i * a.edge) + lateness a ≤ 2 * a.span
  pub beyond : 2 * a.span < 2 * (a.distance + a.crossings * a.edge) + lateness a

-- the track t of the axis a, beside the axes b and c
pub record IsTrackOf (t : Track) (a b c : Axis) : Type 0 where
  pub key : t.key ≡ a.key
  pub rises : t.rises ≡ a.rises
  pub crossings : t.crossings ≡ a.crossings
  pub beside_next : t.beside_next ≡ 2 * (a.distance * b.span) + lateness a
  pub beside_third : t.beside_third ≡ 2 * (a.distance * c.span) + lateness a
  pub pace : t.pace ≡ 2 * (a.edge * a.span)

-- the tracks are those of three axes with voxels of one edge
pub record AreTracks (x y z : Track) : Type 0 where
  pub a : Axis
  pub b : Axis
  pub c : Axis
  pub is_a : HasRoom a
  pub is_b : HasRoom b
  pub is_c : HasRoom c
  pub ending_a : IsEnding a
  pub ending_b : IsEnding b
  pub ending_c : IsEnding c
  pub same_b : b.edge ≡ a.edge
  pub same_c : c.edge ≡ a.edge
  pub track_a : IsTrackOf x a b c
  pub track_b : IsTrackOf y b c a
  pub track_c : IsTrackOf z c a b

-- the three tracks of a walk belong together
abbrev pub IsWalking : Inside → Type 0
IsWalking w = AreTracks w.x w.y w.z

-- a crossing that comes now can be taken: there is one, and no number leaves its range
pub record CanPass (now : Bool) (a : Track) (p q : ℕ) : Type 0 where
  pub crossings : now ≡ true → 0 < a.crossings
  pub rising : a.rises ≡ true → a.key + a.crossings < 2 ^ 16
  pub falling : a.rises ≡ false → a.crossings ≤ a.key
  pub beside_next : a.beside_next + p < 2 ^ 128
  pub beside_third : a.beside_third + q < 2 ^ 128
