-- An axis is told by its ends, so that the walk along a segment is the list that is computed.
use Rattle.std.proofs.Common.{◌≡◌, ℕ, ◌*◌, ◌/◌, ◌≤◌, Bool, true}
use Rattle.std.proofs.Common.{refl, ap, ◌∙◌, inl, inr, arith, ℤ, pos, ◌-ℤ◌}
use Rattle.std.proofs.lemmas.Bool.{cases_lt, eq-eqb, ne_eqb, le-leb, lt-leb}
use Rattle.std.proofs.lemmas.Int.{ints}
use Rattle.oct_key.specs.declared.point.Point.{Point}
use Rattle.oct_ray.specs.declared.axis.Axis.{Axis}
use Rattle.oct_ray.specs.declared.track.Track.{Track}
use Rattle.oct_ray.specs.Axis.{AreAxesOf, IsAxisBetween, IsAxisOf, IsRisingAxis, IsFallingAxis}
use Rattle.oct_ray.specs.Met.{height_of, rising_axis, falling_axis, axis_between, axis_of}
use Rattle.oct_ray.specs.Met.{keys_along, met_by}
use Rattle.oct_ray.specs.Track.{IsTrackOf, keys_to_come}
use Rattle.oct_ray.proofs.Tracks.{keys_are, make_walk}
use Rattle.oct_ray.proofs.Starts.{made_tracks}

abbrev axis : ℕ → Bool → ℕ → ℕ → ℕ → ℕ → Axis
axis key rises crossings distance span edge = record {
  key = key;
  rises = rises;
  crossings = crossings;
  distance = distance;
  span = span;
  edge =
      edge;
}

-- an axis is told by its numbers
pub one_axis : (a b : Axis) → a.key ≡ b.key → a.rises ≡ b.rises → a.crossings ≡ b.crossings
    → a.distance ≡ b.distance → a.span ≡ b.span → a.edge ≡ b.edge → a ≡ b
one_axis a b key rises crossings distance span edge =
    let e : axis a.key a.rises a.crossings a.distance a.span a.edge ≡ axis b.key b.rises
    b.crossings b.distance b.span b.edge = rw (key, rises, crossings, distance, span, edge)
    refl in
    e

one_rising : (edge a b : ℕ) (x : Axis) → x.edge ≡ edge → x.key ≡ a / edge → a ≤ b
    → IsRisingAxis edge a b x → x ≡ rising_axis edge a b
one_rising edge a b x edges key le up =
    one_axis x (rising_axis edge a b) key up.rises (let last = up.last in omega arith) distance
    up.span edges
  where
    distance : x.distance ≡ (rising_axis edge a b).distance
    distance = elim (cases_lt a b) [
      | inl lt ↦ rw (ne_eqb a b (λ e. omega arith)) (let first = up.first lt in omega arith)
      | inr ge ↦ (let same : a ≡ b = omega arith in rw (eq-eqb a b same) (up.beyond same))
    ]

one_falling : (edge a b : ℕ) (x : Axis) → x.edge ≡ edge → x.key ≡ a / edge
    → IsFallingAxis edge a b x → x ≡ falling_axis edge a b
one_falling edge a b x edges key down =
    one_axis x (falling_axis edge a b) key down.falls (let last = down.last in omega arith)
    down.first down.span edges

one_between : (edge a b : ℕ) (x : Axis) → IsAxisBetween edge a b x → x ≡ axis_between edge a b
one_between edge a b x laid = elim (cases_lt b a) [
  | inl lt ↦ rw (lt-leb a b lt) (one_falling edge a b x laid.edges laid.key (laid.down lt))
  | inr le ↦ rw (le-leb a b le) (one_rising edge a b x laid.edges laid.key le (laid.up le))
]

height_is : (edge : ℕ) (c : ℤ) (a : ℕ) → c ≡ (pos a -ℤ pos (32768 * edge)) → a ≡ height_of edge c
height_is edge c a e = omega (arith, ints)

-- the axis of two coordinates is the one that is computed
pub one_axis_of : (edge : ℕ) (o e : ℤ) (x : Axis) → IsAxisOf edge o e x → x ≡ axis_of edge o e
unfolding axis_of
one_axis_of edge o e x of =
    one_between edge of.a of.b x of.laid
    ∙ ap (λ n. axis_between edge n of.b) (height_is edge o of.a of.o_is)
    ∙ ap (axis_between edge (height_of edge o)) (height_is edge e of.b of.e_is)

-- so the voxels to come at the origin are those that are computed
pub computed_walk : (edge : ℕ) (o e : Point) (a b c : Axis) (x y z : Track)
    → AreAxesOf edge o e a b c → IsTrackOf x a b c → IsTrackOf y b c a → IsTrackOf z c a b →
    keys_to_come (make_walk x y z true) ≡ met_by edge o e
unfolding met_by
computed_walk edge o e a b c x y z made tx ty tz =
    keys_are (make_walk x y z true) (made_tracks edge o e a b c x y z made tx ty tz) refl
    ∙ ap (λ k. keys_along k b c) (one_axis_of edge o.x e.x a made.of_a)
    ∙ ap (λ k. keys_along (axis_of edge o.x e.x) k c) (one_axis_of edge o.y e.y b made.of_b)
    ∙ ap (keys_along (axis_of edge o.x e.x) (axis_of edge o.y e.y))
    (one_axis_of edge o.z e.z c made.of_c)
