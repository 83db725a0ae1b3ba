-- The axes that are computed from a segment's ends are its axes, so that their voxels are a walk.
use Rattle.std.proofs.Common.{◌≡◌, ℕ, ◌+◌, ◌-◌, ◌*◌, ◌/◌, ◌<◌, ◌≤◌, refl, inl, inr, arith, IsSome}
use Rattle.std.proofs.Common.{ℤ, pos, ◌-ℤ◌}
use Rattle.std.proofs.lemmas.Bool.{cases_lt, eq-eqb, ne_eqb, le-leb, lt-leb}
use Rattle.std.proofs.lemmas.Int.{ints}
use Rattle.std.proofs.lemmas.Nat.{le-div}
use Rattle.std.proofs.Math.Nat.{div-mul-le_self, div-lt_iff_lt-mul, mul-le-mul_right, le-max_left}
use Rattle.oct_key.specs.Voxel.{IsResolution, key_at}
use Rattle.oct_key.specs.declared.point.Point.{Point}
use Rattle.oct_ray.specs.Axis.{AreAxesOf, HasRoom, IsAxisBetween, IsAxisOf, IsOnMap, IsRisingAxis}
use Rattle.oct_ray.specs.Axis.{IsFallingAxis}
use Rattle.oct_ray.specs.Segment.{IsWalkAlong}
use Rattle.oct_ray.specs.Met.{height_of, rising_axis, falling_axis, axis_between, axis_of, met_by}
use Rattle.oct_ray.proofs.MapFaces.{on_map_with_key}
use Rattle.oct_ray.proofs.Starts.{IsNewWalk, made_set, new_walk, quotient_and_rest}

-- a greater number has no smaller quotient, and a quotient of what is below the
-- map's upper face is below 65536
div_rises : (edge a b : ℕ) → 0 < edge → a ≤ b → a / edge ≤ b / edge
div_rises edge a b positive l =
    let low = div-mul-le_self a edge in le-div (a / edge) b edge positive (omega (arith, low))

div_few : (edge a : ℕ) → 0 < edge → a < 65536 * edge → a / edge < 65536
div_few edge a positive l = (div-lt_iff_lt-mul positive).1 l

-- a rising axis
rising_is : (edge a b : ℕ) → 0 < edge → a ≤ b → IsRisingAxis edge a b (rising_axis edge a b)
rising_is edge a b positive l = record {
  rises = refl;
  first =
      λ lt. let rest = quotient_and_rest a edge positive in rw (ne_eqb a b (λ e. omega arith))
      (omega (arith, rest.1));
  beyond = λ e. rw (eq-eqb a b e) refl;
  span = refl;
  last = let rises = div_rises edge a b positive l in omega arith;
}

-- a falling axis
falling_is : (edge a b : ℕ) → 0 < edge → b < a → IsFallingAxis edge a b (falling_axis edge a b)
falling_is edge a b positive l = record {
  falls = refl;
  first = refl;
  span = refl;
  last = let rises = div_rises edge b a positive (omega arith) in omega arith;
}

-- an axis between two heights
between_is : (edge a b : ℕ) → 0 < edge → IsAxisBetween edge a b (axis_between edge a b)
between_is edge a b positive = elim (cases_lt b a) [
  | inl lt ↦ rw (lt-leb a b lt) (record {
    edges = refl;
    key = refl;
    up = λ l. absurd (omega arith);
    down = λ l. falling_is edge a b positive l;
  })
  | inr le ↦ rw (le-leb a b le) (record {
    edges = refl;
    key = refl;
    up = λ l. rising_is edge a b positive l;
    down = λ l. absurd (omega arith);
  })
]

-- a number of crossings of the map's faces takes no more room than the map
crossings_few : (edge n : ℕ) → n < 65536 → n * edge ≤ 65535 * edge
crossings_few edge n l = mul-le-mul_right edge (omega arith)

first_face : (edge a b : ℕ) → 0 < edge → (rising_axis edge a b).distance ≤ edge + 2
first_face edge a b positive = elim (cases_lt a b) [
  | inl lt ↦ rw (ne_eqb a b (λ e. omega arith)) (omega arith)
  | inr ge ↦ elim (cases_lt b a) [
    | inl gt ↦ rw (ne_eqb a b (λ e. omega arith)) (omega arith)
    | inr le ↦ rw (eq-eqb a b (omega arith)) (omega arith)
  ]
]

rising_room : (edge a b : ℕ) → IsResolution edge → a < 65536 * edge → b < 65536 * edge → a ≤ b
    → HasRoom (rising_axis edge a b)
rising_room edge a b range la lb l =
    let positive : 0 < edge = omega arith in
    let rises = div_rises edge a b positive l in
    let few = div_few edge b positive lb in
    let all = crossings_few edge (b / edge - a / edge) (omega arith) in
    let near = first_face edge a b positive in
    record {
      spans = let one = le-max_left 1 (b - a) in omega arith;
      few = omega arith;
      small_span = omega arith;
      edges = positive;
      small_edge = omega arith;
      small = omega (arith, all, near);
      rising = λ _. omega arith;
      falling = λ e. absurd (let h : ⊥ = cc in h);
    }

falling_room : (edge a b : ℕ) → IsResolution edge → a < 65536 * edge → b < 65536 * edge → b < a
    → HasRoom (falling_axis edge a b)
falling_room edge a b range la lb l =
    let positive : 0 < edge = omega arith in
    let rises = div_rises edge b a positive (omega arith) in
    let few = div_few edge a positive la in
    let all = crossings_few edge (a / edge - b / edge) (omega arith) in
    let rest = quotient_and_rest a edge positive in
    record {
      spans = omega arith;
      few = omega arith;
      small_span = omega arith;
      edges = positive;
      small_edge = omega arith;
      small = omega (arith, all, rest.1);
      rising = λ e. absurd (let h : ⊥ = cc in h);
      falling = λ _. omega arith;
    }

between_room : (edge a b : ℕ) → IsResolution edge → a < 65536 * edge → b < 65536 * edge
    → HasRoom (axis_between edge a b)
between_room edge a b range la lb = elim (cases_lt b a) [
  | inl lt ↦ rw (lt-leb a b lt) (falling_room edge a b range la lb lt)
  | inr le ↦ rw (le-leb a b le) (rising_room edge a b range la lb le)
]

-- a coordinate of the map is its height less that of the origin
height_is : (edge : ℕ) (c : ℤ) → IsOnMap edge c → c ≡ (pos (height_of edge c) -ℤ pos (32768 * edge))
height_is edge c (low, high) = omega (arith, ints)

pub height_below : (edge : ℕ) (c : ℤ) → IsOnMap edge c → height_of edge c < 65536 * edge
height_below edge c (low, high) = omega (arith, ints)

-- an axis that is computed is the axis of its ends, and has room
axis_of_is : (edge : ℕ) (o e : ℤ) → IsResolution edge → IsOnMap edge o → IsOnMap edge e
    → IsAxisOf edge o e (axis_of edge o e)
unfolding axis_of
axis_of_is edge o e range on_o on_e = record {
  a = height_of edge o;
  b = height_of edge e;
  o_is = height_is edge o on_o;
  e_is = height_is edge e on_e;
  laid = between_is edge (height_of edge o) (height_of edge e) (omega arith);
}

axis_of_room : (edge : ℕ) (o e : ℤ) → IsResolution edge → IsOnMap edge o → IsOnMap edge e
    → HasRoom (axis_of edge o e)
unfolding axis_of
axis_of_room edge o e range on_o on_e =
    between_room edge (height_of edge o) (height_of edge e) range (height_below edge o on_o)
    (height_below edge e on_e)

-- the voxels that are computed are a walk along the segment, from its first voxel to its last
pub met_by_new : (edge : ℕ) (o e : Point) → IsResolution edge → IsSome (key_at edge o)
    → IsSome (key_at edge e) → IsNewWalk edge o e (met_by edge o e)
unfolding met_by
met_by_new edge o e range key_o key_e =
    let at_o = on_map_with_key edge o (omega arith) key_o in
    let at_e = on_map_with_key edge e (omega arith) key_e in
    let made : AreAxesOf edge o e (axis_of edge o.x e.x) (axis_of edge o.y e.y)
    (axis_of edge o.z e.z) =
    record {
      is_a = axis_of_room edge o.x e.x range at_o.x at_e.x;
      is_b = axis_of_room edge o.y e.y range at_o.y at_e.y;
      is_c = axis_of_room edge o.z e.z range at_o.z at_e.z;
      of_a = axis_of_is edge o.x e.x range at_o.x at_e.x;
      of_b = axis_of_is edge o.y e.y range at_o.y at_e.y;
      of_c = axis_of_is edge o.z e.z range at_o.z at_e.z;
    } in
    new_walk edge o e _ _ _ (omega arith) key_o key_e (made_set edge o e _ _ _ made)

pub met_by_walks : (edge : ℕ) (o e : Point) → IsResolution edge → IsSome (key_at edge o)
    → IsSome (key_at edge e) → IsWalkAlong edge o e (met_by edge o e)
met_by_walks edge o e range key_o key_e = (met_by_new edge o e range key_o key_e).walk
