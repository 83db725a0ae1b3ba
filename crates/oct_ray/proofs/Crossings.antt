-- Which axes cross next, and what a crossing leaves of an axis.
use Rattle.std.proofs.Common.{◌≡◌, ℕ, ◌+◌, ◌-◌, ◌*◌, ◌<◌, ◌≤◌, Bool, true, false, not, eqb, ◌&&◌}
use Rattle.std.proofs.Common.{◌||◌, refl, arith, inl, inr, ◌⊎◌, sym}
use Rattle.std.proofs.lemmas.Bool.Decides.{nat_tests}
use Rattle.oct_ray.specs.Axis.{HasRoom, crosses, axis_after, not_after, lateness}
use Rattle.oct_ray.specs.declared.axis.Axis.{Axis}
use Rattle.oct_ray.proofs.Moments.{Moment, NotAfter, Before, IsMoment}
use Rattle.oct_ray.proofs.Moments.{moment_trans}

-- the moment of the crossing that comes after i others
abbrev pub crossing : Axis → ℕ → Moment
crossing a i = record {
  numerator = a.distance + i * a.edge;
  denominator = a.span;
  late = lateness a;
}

-- the crossing that comes next
abbrev pub next_crossing : Axis → Moment
next_crossing a = record { numerator = a.distance; denominator = a.span; late = lateness a }

pub lateness-le : (a : Axis) → lateness a ≤ 1
lateness-le a = grind arith

pub next_crossing-IsMoment : (a : Axis) → HasRoom a → IsMoment (next_crossing a)
next_crossing-IsMoment a i = (i.spans, lateness-le a)

pub not_after_yes : (a b : Axis) → not_after a b ≡ true
    → NotAfter (next_crossing a) (next_crossing b)
not_after_yes a b h = grind (arith, nat_tests)

pub not_after_no : (a b : Axis) → not_after a b ≡ false → Before (next_crossing b) (next_crossing a)
not_after_no a b h = grind (arith, nat_tests)

pub not_after_from : (a b : Axis) → NotAfter (next_crossing a) (next_crossing b)
    → not_after a b ≡ true
not_after_from a b h = grind (arith, nat_tests)

pub not_after_trans : (a b c : Axis) → HasRoom a → HasRoom b → HasRoom c → not_after a b ≡ true
    → not_after b c ≡ true → not_after a c ≡ true
not_after_trans a b c ia ib ic h k =
    not_after_from a c
    (moment_trans (next_crossing a) (next_crossing b) (next_crossing c)
    (next_crossing-IsMoment a ia) (next_crossing-IsMoment b ib) (next_crossing-IsMoment c ic)
    (not_after_yes a b h) (not_after_yes b c k))

pub not_after_total : (a b : Axis) → not_after a b ≡ false → not_after b a ≡ true
not_after_total a b h = not_after_from b a (omega (arith, not_after_no a b h))

pub crosses-crossings : (a b c : Axis) → crosses a b c ≡ true → 0 < a.crossings
crosses-crossings a b c h = grind (arith, nat_tests)

-- of three axes in an order one comes first
first_of_three : (x y z : Bool) (xy yx xz zx yz zy : Bool) → (xy ≡ false → yx ≡ true)
    → (xz ≡ false → zx ≡ true) → (yz ≡ false → zy ≡ true) → (xy ≡ true → yz ≡ true → xz ≡ true)
    → (xz ≡ true → zy ≡ true → xy ≡ true) → (yx ≡ true → xz ≡ true → yz ≡ true)
    → (yz ≡ true → zx ≡ true → yx ≡ true) → (zx ≡ true → xy ≡ true → zy ≡ true)
    → (zy ≡ true → yx ≡ true → zx ≡ true) → ((x && y) && z ≡ false)
    → ((not x && ((y || xy) && (z || xz)) ≡ true) ⊎ (not y && ((z || yz) && (x || yx)) ≡ true))
    ⊎ (not z && ((x || zx) && (y || zy)) ≡ true)
first_of_three x y z xy yx xz zx yz zy a b c d e f g h i j = grind arith

pub product_plus_one : (m n e : ℕ) → n ≡ m + 1 → n * e ≡ m * e + e
product_plus_one m n e h = rw h (omega arith)

pub product_less_one : (n e : ℕ) → 0 < n → (n - 1) * e + e ≡ n * e
product_less_one n e h = sym (product_plus_one (n - 1) n e (omega arith))

pub axis_after-HasRoom : (t : Bool) (a : Axis) → (t ≡ true → 0 < a.crossings) → HasRoom a
    → HasRoom (axis_after t a)
axis_after-HasRoom false a h i = i
axis_after-HasRoom true a h i =
    let p = product_less_one a.crossings a.edge (h refl) in
    let q = h refl in
    record {
      spans = i.spans;
      few = omega (arith, i.few);
      small_span = i.small_span;
      small_edge = i.small_edge;
      edges = i.edges;
      small = omega arith;
      rising = λ r. rw r (omega (arith, i.rising r));
      falling = λ r. rw r (omega (arith, i.falling r));
    }

-- some axis crosses next where one has a crossing left
pub some_crosses : (x y z : Axis) → HasRoom x → HasRoom y → HasRoom z
    → eqb (x.crossings + y.crossings + z.crossings) 0 ≡ false
    → ((crosses x y z ≡ true) ⊎ (crosses y z x ≡ true)) ⊎ (crosses z x y ≡ true)
some_crosses x y z ix iy iz h =
    first_of_three (eqb x.crossings 0) (eqb y.crossings 0) (eqb z.crossings 0) (not_after x y)
    (not_after y x) (not_after x z) (not_after z x) (not_after y z) (not_after z y)
    (not_after_total x y) (not_after_total x z) (not_after_total y z)
    (not_after_trans x y z ix iy iz) (not_after_trans x z y ix iz iy)
    (not_after_trans y x z iy ix iz) (not_after_trans y z x iy iz ix)
    (not_after_trans z x y iz ix iy) (not_after_trans z y x iz iy ix)
    (grind (arith, nat_tests))

abbrev pub crossings_left : Axis → Axis → Axis → ℕ
crossings_left x y z = x.crossings + y.crossings + z.crossings

pub axis_after-fewer_or_same : (t : Bool) (a : Axis) → (axis_after t a).crossings ≤ a.crossings
axis_after-fewer_or_same false a = omega arith
axis_after-fewer_or_same true a = omega arith

pub axis_after-fewer : (t : Bool) (a : Axis) → t ≡ true → 0 < a.crossings
    → (axis_after t a).crossings < a.crossings
axis_after-fewer false a e h = cc
axis_after-fewer true a e h = omega arith

pub crossings_left-fall : (x y z : Axis) → HasRoom x → HasRoom y → HasRoom z
    → eqb (crossings_left x y z) 0 ≡ false
    → crossings_left (axis_after (crosses x y z) x) (axis_after (crosses y z x) y)
    (axis_after (crosses z x y) z)
    < crossings_left x y z
crossings_left-fall x y z ix iy iz h =
    let lx = axis_after-fewer_or_same (crosses x y z) x in
    let ly = axis_after-fewer_or_same (crosses y z x) y in
    let lz = axis_after-fewer_or_same (crosses z x y) z in
    elim (some_crosses x y z ix iy iz h) [
      | inl o ↦ elim o [
        | inl e ↦ let l = axis_after-fewer (crosses x y z) x e (crosses-crossings x y z e) in
            omega arith
        | inr e ↦ let l = axis_after-fewer (crosses y z x) y e (crosses-crossings y z x e) in
            omega arith
      ]
      | inr e ↦ let l = axis_after-fewer (crosses z x y) z e (crosses-crossings z x y e) in
          omega arith
    ]
