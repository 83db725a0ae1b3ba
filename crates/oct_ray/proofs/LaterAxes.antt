-- An axis after some of its crossings, and those that it takes in a part of its segment.
use Rattle.std.proofs.Common.{◌≡◌, ℕ, ◌+◌, ◌-◌, ◌*◌, ◌/◌, ◌<◌, ◌≤◌, Bool, true, false, cond, refl}
use Rattle.std.proofs.Common.{arith, inl, inr}
use Rattle.std.specs.Prelude.{min}
use Rattle.std.proofs.lemmas.Bool.{cases_lt, le-leb, lt-leb}
use Rattle.std.proofs.Math.Nat.{div-mul-le_self, lt-div-mul-add, mul-le-mul_right}
use Rattle.oct_ray.specs.Axis.{HasRoom, axis_after}
use Rattle.oct_ray.specs.Track.{IsEnding}
use Rattle.oct_ray.specs.Met.{crossings_within, axis_after_crossings}
use Rattle.oct_ray.specs.declared.axis.Axis.{Axis}
use Rattle.oct_ray.proofs.Crossings.{lateness-le}
use Rattle.oct_ray.proofs.Moments.{Moment}
use Rattle.oct_ray.proofs.OneAxis.{one_axis}
use Rattle.oct_ray.proofs.Visits.{IsAt, key_after-axis_after, key_after-zero}

pub none_taken : (a : Axis) → axis_after_crossings 0 a ≡ a
none_taken a = one_axis (axis_after_crossings 0 a) a (key_after-zero a) refl (omega arith)
    (omega arith) refl refl

-- crossings after the next one are one more crossings
pub taken_after : (t : Bool) (a : Axis) (i : ℕ)
    → axis_after_crossings i (axis_after t a) ≡ axis_after_crossings (cond t (i + 1) i) a
taken_after false a i = refl
taken_after true a i =
    one_axis (axis_after_crossings i (axis_after true a)) (axis_after_crossings (i + 1) a)
    (key_after-axis_after true a i) refl (omega arith) (omega arith) refl refl

-- crossings that an axis has, parted in two
parted : (n i e : ℕ) → i ≤ n → i * e + (n - i) * e ≡ n * e
parted n i e h = by_rest (n - i) i n e (omega arith)
  where
    by_rest : (m i n e : ℕ) → n ≡ i + m → i * e + m * e ≡ n * e
    by_rest m i n e h = rw h (omega arith)

pub taken_room : (a : Axis) (i : ℕ) → i ≤ a.crossings → HasRoom a
    → HasRoom (axis_after_crossings i a)
taken_room a i h room =
    let all = parted a.crossings i a.edge h in
    record {
      spans = room.spans;
      few = omega (arith, room.few);
      small_span = room.small_span;
      edges = room.edges;
      small_edge = room.small_edge;
      small = omega (arith, room.small, all);
      rising = λ r. rw r (omega (arith, room.rising r));
      falling = λ r. rw r (omega (arith, room.falling r));
    }

pub taken_ending : (a : Axis) (i : ℕ) → i ≤ a.crossings → IsEnding a
    → IsEnding (axis_after_crossings i a)
taken_ending a i h ending =
    let all = parted a.crossings i a.edge h in
    record {
      ends = λ j l. omega (arith, ending.ends (i + j) (omega arith));
      beyond = omega (arith, ending.beyond, all);
    }

pub crossings_none : (way : ℕ) (a : Axis) → way < a.distance → 0 ≡ crossings_within way a
unfolding crossings_within
crossings_none way a less = rw (lt-leb a.distance way less) refl

pub crossings_some : (way : ℕ) (a : Axis) → a.distance ≤ way
    → crossings_within way a ≡ min ((way - a.distance) / a.edge + 1) a.crossings
unfolding crossings_within
crossings_some way a more = rw (le-leb a.distance way more) refl

pub within_crossings : (way : ℕ) (a : Axis) → crossings_within way a ≤ a.crossings
within_crossings way a = elim (cases_lt way a.distance) [
  | inl less ↦ omega (arith, crossings_none way a less)
  | inr more ↦ omega (arith, crossings_some way a more)
]

-- a crossing that is taken lies in the way
within_taken : (way : ℕ) (a : Axis) (i : ℕ) → crossings_within way a ≡ i + 1
    → a.distance + i * a.edge ≤ way
within_taken way a i e = elim (cases_lt way a.distance) [
  | inl less ↦ absurd (omega (arith, crossings_none way a less, e))
  | inr more ↦
      let some = crossings_some way a more in
      let low = div-mul-le_self (way - a.distance) a.edge in
      let few : i ≤ (way - a.distance) / a.edge = omega (arith, some, e) in
      let all : i * a.edge ≤ ((way - a.distance) / a.edge) * a.edge =
      mul-le-mul_right a.edge few in
      omega (arith, low, all, more)
]

-- and one that isn't lies beyond it
within_left : (way : ℕ) (a : Axis) → 0 < a.edge → crossings_within way a < a.crossings
    → way < a.distance + crossings_within way a * a.edge
within_left way a some h = elim (cases_lt way a.distance) [
  | inl less ↦ omega (arith, less)
  | inr more ↦
      let one : crossings_within way a ≡ (way - a.distance) / a.edge + 1 =
      omega (arith, crossings_some way a more, h) in
      let high : way - a.distance < ((way - a.distance) / a.edge) * a.edge + a.edge =
      lt-div-mul-add some in
      rw one (omega (arith, high, more))
]

-- just after this part of a segment, in 65536ths
abbrev pub after_part : ℕ → Moment
after_part part = record { numerator = part; denominator = 65536; late = 1 }

pub within_at : (part : ℕ) (a : Axis) → HasRoom a
    → IsAt a (crossings_within (a.span * part / 65536) a) (after_part part)
within_at part a room =
    let way = a.span * part / 65536 in
    let late = lateness-le a in
    record {
      within = within_crossings way a;
      past = λ i e. let near = within_taken way a i e in omega (arith, near, late);
      still = λ h. let far = within_left way a room.edges h in omega (arith, far);
    }
