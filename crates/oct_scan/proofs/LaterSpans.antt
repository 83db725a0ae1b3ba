-- A voxel that a beam meets later lies in the box that an earlier one and the end span.
use Rattle.std.proofs.Common.{◌≡◌, ℕ, ◌+◌, ◌-◌, ◌*◌, ◌<◌, ◌≤◌, Some, arith, sym, subst}
use Rattle.std.proofs.Common.{ℤ, List, ap}
use Rattle.std.specs.Prelude.{min, max}
use Rattle.std.specs.List.{AllPairs}
use Rattle.std.proofs.Math.Nat.{mul-le-mul_right, lt_of_mul-lt-mul_right}
use borrow.Author.Differences.{up, down}
use Rattle.oct_key.specs.Voxel.{Voxel, HoldsOnAxis, key_at}
use Rattle.oct_key.specs.Boxes.{IsBetween}
use Rattle.oct_key.specs.declared.point.Point.{Point}
use Rattle.oct_key.proofs.Faces.{Holds-key_at}
use Rattle.oct_ray.specs.Segment.{IsBetweenFaces, IsWalkAlong, Precedes}
use Rattle.oct_scan.specs.Gathered.{IsSpanned}
use Rattle.oct_scan.proofs.BeamSpans.{IsPlaced, held_from, placed_from, rows}

-- the place p' / (p' + u') comes after the place p / (p + u), by r of their common parts
pub record IsLater (p u p' u' r : ℕ) : Type 0 where
  pub by : p' * u ≡ p * u' + r
  pub some : 0 < r

-- the part by which it does, taken of any number
part_of : (p u p' u' r m : ℕ) → p' * u ≡ p * u' + r → (p' * u) * m ≡ (p * u' + r) * m
part_of p u p' u' r m e = ap (λ n. n * m) e

-- where the earlier place and the end lie below a face, so does the later place
later_below : (edge l top a b c d p u p' u' r : ℕ) → IsLater p u p' u' r
    → l * edge * (p' + u') + (b * (p' + u') + p' * (d + a))
    ≤ a * (p' + u') + p' * (c + b) + 32768 * edge * (p' + u')
    → a * (p + u) + p * (c + b) + 32768 * edge * (p + u)
    ≤ top * edge * (p + u) + (b * (p + u) + p * (d + a))
    → c + 32768 * edge + 1 ≤ top * edge + d → l < top
later_below edge l top a b c d p u p' u' r later low first last =
    let one = mul-le-mul_right u (shorter edge l a b c d p' u' low) in
    let two = mul-le-mul_right u' (shorter_first edge top a b c d p u first) in
    let three = mul-le-mul_right r last in
    let all : (l * edge) * ((p' + u') * u) + r ≤ (top * edge) * ((p' + u') * u) =
    together edge l top a b c d p u p' u' r one two three (part_of p u p' u' r c later.by)
    (part_of p u p' u' r d later.by) (part_of p u p' u' r (32768 * edge) later.by)
    (part_of p u p' u' r (top * edge) later.by) in
    let some = later.some in
    let less : (l * edge) * ((p' + u') * u) < (top * edge) * ((p' + u') * u) =
    strictly ((l * edge) * ((p' + u') * u)) ((top * edge) * ((p' + u') * u)) r some all in
    lt_of_mul-lt-mul_right edge (lt_of_mul-lt-mul_right ((p' + u') * u) less)
  where
    shorter : (edge l a b c d p' u' : ℕ) → l * edge * (p' + u') + (b * (p' + u') + p' * (d + a))
        ≤ a * (p' + u') + p' * (c + b) + 32768 * edge * (p' + u')
        → l * edge * (p' + u') + b * u' + p' * d ≤ a * u' + p' * c + 32768 * edge * (p' + u')
    shorter edge l a b c d p' u' h = omega (arith, h)

    shorter_first : (edge top a b c d p u : ℕ)
        → a * (p + u) + p * (c + b) + 32768 * edge * (p + u)
        ≤ top * edge * (p + u) + (b * (p + u) + p * (d + a))
        → a * u + p * c + 32768 * edge * (p + u) ≤ top * edge * (p + u) + b * u + p * d
    shorter_first edge top a b c d p u h = omega (arith, h)

    together : (edge l top a b c d p u p' u' r : ℕ)
        → (l * edge * (p' + u') + b * u' + p' * d) * u
        ≤ (a * u' + p' * c + 32768 * edge * (p' + u')) * u
        → (a * u + p * c + 32768 * edge * (p + u)) * u'
        ≤ (top * edge * (p + u) + b * u + p * d) * u'
        → (c + 32768 * edge + 1) * r ≤ (top * edge + d) * r → (p' * u) * c ≡ (p * u' + r) * c
        → (p' * u) * d ≡ (p * u' + r) * d
        → (p' * u) * (32768 * edge) ≡ (p * u' + r) * (32768 * edge)
        → (p' * u) * (top * edge) ≡ (p * u' + r) * (top * edge)
        → (l * edge) * ((p' + u') * u) + r ≤ (top * edge) * ((p' + u') * u)
    together edge l top a b c d p u p' u' r one two three rc rd rm rt =
        omega (arith, one, two, three, rc, rd, rm, rt)

    strictly : (m n r : ℕ) → 0 < r → m + r ≤ n → m < n
    strictly m n r some h = omega (arith, some, h)

-- where both lie above one, so does the later place
later_above : (edge l bottom a b c d p u p' u' r : ℕ) → IsLater p u p' u' r → 0 < u
    → a * (p' + u') + p' * (c + b) + 32768 * edge * (p' + u')
    < (l * edge + edge) * (p' + u') + (b * (p' + u') + p' * (d + a))
    → bottom * edge * (p + u) + (b * (p + u) + p * (d + a))
    ≤ a * (p + u) + p * (c + b) + 32768 * edge * (p + u)
    → bottom * edge + d ≤ c + 32768 * edge → bottom < l + 1
later_above edge l bottom a b c d p u p' u' r later positive high first last =
    let one = mul-le-mul_right u (shorter edge l a b c d p' u' high) in
    let two = mul-le-mul_right u' (shorter_first edge bottom a b c d p u first) in
    let three = mul-le-mul_right r last in
    let all : (bottom * edge) * ((p' + u') * u) + u ≤ ((l + 1) * edge) * ((p' + u') * u) =
    together edge l bottom a b c d p u p' u' r one two three (part_of p u p' u' r c later.by)
    (part_of p u p' u' r d later.by) (part_of p u p' u' r (32768 * edge) later.by)
    (part_of p u p' u' r (bottom * edge) later.by) in
    let less : (bottom * edge) * ((p' + u') * u) < ((l + 1) * edge) * ((p' + u') * u) =
    strictly ((bottom * edge) * ((p' + u') * u)) (((l + 1) * edge) * ((p' + u') * u)) u positive
    all in
    lt_of_mul-lt-mul_right edge (lt_of_mul-lt-mul_right ((p' + u') * u) less)
  where
    shorter : (edge l a b c d p' u' : ℕ)
        → a * (p' + u') + p' * (c + b) + 32768 * edge * (p' + u')
        < (l * edge + edge) * (p' + u') + (b * (p' + u') + p' * (d + a))
        → a * u' + p' * c + 32768 * edge * (p' + u') + 1
        ≤ (l * edge + edge) * (p' + u') + b * u' + p' * d
    shorter edge l a b c d p' u' h = omega (arith, h)

    shorter_first : (edge bottom a b c d p u : ℕ)
        → bottom * edge * (p + u) + (b * (p + u) + p * (d + a))
        ≤ a * (p + u) + p * (c + b) + 32768 * edge * (p + u)
        → bottom * edge * (p + u) + b * u + p * d ≤ a * u + p * c + 32768 * edge * (p + u)
    shorter_first edge bottom a b c d p u h = omega (arith, h)

    together : (edge l bottom a b c d p u p' u' r : ℕ)
        → (a * u' + p' * c + 32768 * edge * (p' + u') + 1) * u
        ≤ ((l * edge + edge) * (p' + u') + b * u' + p' * d) * u
        → (bottom * edge * (p + u) + b * u + p * d) * u'
        ≤ (a * u + p * c + 32768 * edge * (p + u)) * u'
        → (bottom * edge + d) * r ≤ (c + 32768 * edge) * r → (p' * u) * c ≡ (p * u' + r) * c
        → (p' * u) * d ≡ (p * u' + r) * d
        → (p' * u) * (32768 * edge) ≡ (p * u' + r) * (32768 * edge)
        → (p' * u) * (bottom * edge) ≡ (p * u' + r) * (bottom * edge)
        → (bottom * edge) * ((p' + u') * u) + u ≤ ((l + 1) * edge) * ((p' + u') * u)
    together edge l bottom a b c d p u p' u' r one two three rc rd rm rt =
        omega (arith, one, two, three, rc, rd, rm, rt)

    strictly : (m n r : ℕ) → 0 < r → m + r ≤ n → m < n
    strictly m n r some h = omega (arith, some, h)

-- places as parts of a whole: p of q is p beside q - p
later_parts : (p q p' q' : ℕ) → p ≤ q → p' ≤ q' → p * q' < p' * q
    → IsLater p (q - p) p' (q' - p') (p' * q - p * q')
later_parts p q p' q' in_one in_other less =
    let u : q ≡ p + (q - p) = omega (arith, in_one) in
    let v : q' ≡ p' + (q' - p') = omega (arith, in_other) in
    by_parts p (q - p) p' (q' - p') q q' u v less
  where
    by_parts : (p u p' u' q q' : ℕ) → q ≡ p + u → q' ≡ p' + u' → p * q' < p' * q
        → IsLater p u p' u' (p' * q - p * q')
    by_parts p u p' u' q q' e e' less =
        subst (λ n. p * q' < p' * n → IsLater p u p' u' (p' * n - p * q')) (sym e)
        (subst (λ m. p * m < p' * (p + u) → IsLater p u p' u' (p' * (p + u) - p * m)) (sym e')
        (λ less. record { by = omega (arith, less); some = omega (arith, less) })) less

-- a later place is not the first
some_left : (p u p' u' r : ℕ) → IsLater p u p' u' r → 0 < u
some_left p u p' u' r h = lt_of_mul-lt-mul_right p' (less p u p' u' r h.by h.some)
  where
    less : (p u p' u' r : ℕ) → p' * u ≡ p * u' + r → 0 < r → 0 * p' < u * p'
    less p u p' u' r by some = omega (arith, by, some)

on_axis : (edge k l j p q p' q' : ℕ) (o e : ℤ) → p ≤ q → p' ≤ q' → p * q' < p' * q
    → HoldsOnAxis edge j e → IsBetweenFaces edge o e k p q → IsBetweenFaces edge o e l p' q'
    → IsBetween (min k j) (max k j) l
on_axis edge k l j p q p' q' o e in_one in_other less end at at' =
    let later = later_parts p q p' q' in_one in_other less in
    let b = held_from edge j e end in
    let one : IsPlaced edge k p (p + (q - p)) (up o) (down o) (up e) (down e) =
    subst (λ n. IsPlaced edge k p n (up o) (down o) (up e) (down e)) (omega (arith, in_one))
    (placed_from edge k p q o e at) in
    let two : IsPlaced edge l p' (p' + (q' - p')) (up o) (down o) (up e) (down e) =
    subst (λ n. IsPlaced edge l p' n (up o) (down o) (up e) (down e)) (omega (arith, in_other))
    (placed_from edge l p' q' o e at') in
    let top = later_below edge l (max k j + 1) (up o) (down o) (up e) (down e) p (q - p) p'
    (q' - p') (p' * q - p * q') later two.lower
    (let h = one.upper in
    let r = mul-le-mul_right (p + (q - p)) (rows (k + 1) (max k j + 1) edge (omega arith)) in
    omega (arith, h, r))
    (let h = b.high in let r = rows (j + 1) (max k j + 1) edge (omega arith) in
    omega (arith, h, r)) in
    let bottom = later_above edge l (min k j) (up o) (down o) (up e) (down e) p (q - p) p'
    (q' - p') (p' * q - p * q') later
    (some_left p (q - p) p' (q' - p') (p' * q - p * q') later) two.upper
    (let h = one.lower in
    let r = mul-le-mul_right (p + (q - p)) (rows (min k j) k edge (omega arith)) in
    omega (arith, h, r))
    (let h = b.low in let r = rows (min k j) j edge (omega arith) in omega (arith, h, r)) in
    (omega (arith, bottom), omega (arith, top))

later_spanned : (edge : ℕ) (o e : Point) (end k l : Voxel) → 1 ≤ edge → key_at edge e ≡ Some end
    → Precedes edge o e k l → IsSpanned k end l
later_spanned edge o e end k l positive last h =
    let held = Holds-key_at edge e end positive last in
    let a = h.place in
    let b = h.place' in
    record {
      x = on_axis edge k.x l.x end.x h.p h.q h.p' h.q' o.x e.x a.within b.within h.less held.x a.x
          b.x;
      y = on_axis edge k.y l.y end.y h.p h.q h.p' h.q' o.y e.y a.within b.within h.less held.y a.y
          b.y;
      z = on_axis edge k.z l.z end.z h.p h.q h.p' h.q' o.z e.z a.within b.within h.less held.z a.z
          b.z;
    }

-- each voxel of a walk lies in the box that any one before it and the end span
pub walk_onward : (edge : ℕ) (o e : Point) (end : Voxel) (ks : List Voxel) → 1 ≤ edge
    → key_at edge e ≡ Some end → IsWalkAlong edge o e ks
    → AllPairs (λ k l. IsSpanned k end l) ks
walk_onward edge o e end ks positive last walk =
    λ i j d l m. later_spanned edge o e end _ _ positive last (walk.in_order i j d l m)
