-- A place lies between the faces of a voxel exactly where the axis has taken the
-- crossings up to it, and no more.
use Rattle.std.proofs.Common.{◌≡◌, ℕ, ◌+◌, ◌-◌, ◌*◌, ◌<◌, ◌≤◌, true, false, refl, arith, inl, inr}
use Rattle.std.proofs.Common.{◌⊎◌, sym, ◌∙◌, ap, subst, ℤ, pos, ◌+ℤ◌, ◌-ℤ◌, ◌*ℤ◌}
use Rattle.std.proofs.lemmas.Bool.{cases_lt}
use Rattle.std.proofs.Math.Nat.{mul-le-mul_right, le_of_mul-le-mul_right, lt_of_mul-lt-mul_right}
use Rattle.std.proofs.Math.Nat.{mul-lt-mul_of_pos_right}
use Rattle.oct_ray.specs.Segment.{IsBetweenFaces}
use Rattle.oct_ray.specs.Axis.{HasRoom, lateness}
use Rattle.oct_ray.specs.declared.axis.Axis.{Axis}
use Rattle.oct_num.proofs.Differences.{IsDifference, natural, of_naturals, plus, scaled}
use Rattle.oct_num.proofs.Differences.{scaled_left, le, lt, from_le, from_lt}
use Rattle.oct_ray.proofs.Moments.{Moment}
use Rattle.oct_ray.proofs.Visits.{IsAt, IsDueAfter, key_after}
use Rattle.oct_ray.proofs.Crossings.{product_plus_one}

face_diff : (k R q : ℕ)
    → IsDifference (((pos k -ℤ pos 32768) *ℤ pos R) *ℤ pos q) (k * R * q) (32768 * R * q)
face_diff k R q = scaled q (scaled R (of_naturals k 32768))

next_face_diff : (k R q : ℕ)
    → IsDifference ((((pos k -ℤ pos 32768) *ℤ pos R) +ℤ pos R) *ℤ pos q) ((k * R + R) * q)
    ((32768 * R + 0) * q)
next_face_diff k R q = scaled q (plus (scaled R (of_naturals k 32768)) (natural R))

line_diff : (o e : ℤ) (v u d c p q : ℕ) → IsDifference o v u → IsDifference (e -ℤ o) d c
    → IsDifference ((o *ℤ pos q) +ℤ (pos p *ℤ (e -ℤ o))) (v * q + p * d) (u * q + p * c)
line_diff o e v u d c p q h k = plus (scaled q h) (scaled_left p k)

-- between the faces of the voxel k, in whole numbers from 0: the line starts at K * R + r,
-- and goes up by d, or down by c
within_out : (R : ℕ) (o e : ℤ) (K r d c k p q : ℕ) → IsDifference o (K * R + r) (32768 * R)
    → IsDifference (e -ℤ o) d c → IsBetweenFaces R o e k p q →
    (k * R * q + p * c ≤ (K * R + r) * q + p * d)
    × ((K * R + r) * q + p * d < (k * R + R) * q + p * c)
within_out R o e K r d c k p q h g w =
    let f = face_diff k R q in
    let n = next_face_diff k R q in
    let l = line_diff o e (K * R + r) (32768 * R) d c p q h g in
    let a = le f l w.lower in
    let b = lt l n w.upper in
    (omega arith, omega arith)

within_in : (R : ℕ) (o e : ℤ) (K r d c k p q : ℕ) → IsDifference o (K * R + r) (32768 * R)
    → IsDifference (e -ℤ o) d c →
    k * R * q + p * c ≤ (K * R + r) * q + p * d → (K * R + r) * q + p * d < (k * R + R) * q + p * c
    → IsBetweenFaces R o e k p q
within_in R o e K r d c k p q h g a b =
    let f = face_diff k R q in
    let n = next_face_diff k R q in
    let l = line_diff o e (K * R + r) (32768 * R) d c p q h g in
    record { lower = from_le f l (omega arith); upper = from_lt l n (omega arith) }

abbrev pub place : ℕ → ℕ → Moment
place p q = record { numerator = p; denominator = q; late = 0 }

-- an axis that rises by D, from r above the face below its origin
pub record IsLaidUp (a : Axis) (r D : ℕ) : Type 0 where
  pub rises : a.rises ≡ true
  pub off : 0 < a.crossings → a.distance + r ≡ a.edge
  pub inside : r < a.edge
  pub span : 0 < a.crossings → a.span ≡ D
  pub low : a.crossings * a.edge ≤ r + D
  pub high : r + D < a.crossings * a.edge + a.edge

-- an axis that falls by D, from r above the face below its origin
pub record IsLaidDown (a : Axis) (r D : ℕ) : Type 0 where
  pub rises : a.rises ≡ false
  pub off : a.distance ≡ r
  pub inside : r < a.edge
  pub span : 0 < a.crossings → a.span ≡ D
  pub low : D ≤ r + a.crossings * a.edge
  pub high : r + a.crossings * a.edge < D + a.edge

pub up_late : (a : Axis) → a.rises ≡ true → lateness a ≡ 0
up_late a e = rw e refl

pub down_late : (a : Axis) → a.rises ≡ false → lateness a ≡ 1
down_late a e = rw e refl

-- a row that begins before the next one ends is no later
below_one_more : (m n R : ℕ) → m * R < n * R + R → m < n + 1
below_one_more m n R h = lt_of_mul-lt-mul_right R (omega (arith, h))

-- where an axis rises, no place lies in voxels of a smaller number
up_ahead : (a : Axis) (r D k p q : ℕ) → (a.key * a.edge + r) * q + p * D < (k * a.edge + a.edge) * q
    → a.key ≤ k
up_ahead a r D k p q h =
    let s : (a.key * a.edge) * q < (k * a.edge + a.edge) * q = omega arith in
    let t : a.key * a.edge < k * a.edge + a.edge = lt_of_mul-lt-mul_right q s in
    omega (arith, below_one_more a.key k a.edge t)

-- a place between the faces of the voxels j crossings on has j crossings
-- before it, where the axis rises
up_at : (a : Axis) (r D j p q : ℕ) → IsLaidUp a r D → 0 < q → p ≤ q → j * a.edge * q ≤ r * q + p * D
    → r * q + p * D < (j * a.edge + a.edge) * q → IsAt a j (place p q)
up_at a r D j p q l pq le lo hi =
    let n0 = up_late a l.rises in
    let m : p * D ≤ q * D = mul-le-mul_right D le in
    let f : 0 < a.crossings → (a.distance + r) * q ≡ a.edge * q =
    λ k. ap (λ (w : ℕ). w * q) (l.off k) in
    let t : (j * a.edge) * q ≤ (r + D) * q = omega arith in
    let u : j * a.edge ≤ r + D = le_of_mul-le-mul_right t pq in
    let w : j ≤ a.crossings =
    omega (arith, below_one_more j a.crossings a.edge (omega (arith, l.high))) in
    record {
      within = w;
      past = λ i e.
          let s : p * a.span ≡ p * D = ap (λ (v : ℕ). p * v) (l.span (omega arith)) in
          let g : (i + 1) * a.edge * q ≤ r * q + p * D =
          subst (λ (v : ℕ). v * a.edge * q ≤ r * q + p * D) e lo in
          let o = f (omega arith) in
          omega arith;
      still = λ h.
          let s : p * a.span ≡ p * D = ap (λ (v : ℕ). p * v) (l.span (omega arith)) in
          let o = f (omega arith) in
          omega arith;
    }

-- and the other way round
up_at_back : (a : Axis) (r D j p q : ℕ) → IsLaidUp a r D → 0 < q → p ≤ q → IsAt a j (place p q)
    → (j * a.edge * q ≤ r * q + p * D) × (r * q + p * D < (j * a.edge + a.edge) * q)
up_at_back a r D j p q l pq le i =
    let n0 = up_late a l.rises in
    let f : 0 < a.crossings → (a.distance + r) * q ≡ a.edge * q =
    λ k. ap (λ (w : ℕ). w * q) (l.off k) in (
      elim (cases_lt 0 j) [
        | inl h ↦
            let s : p * a.span ≡ p * D = ap (λ (v : ℕ). p * v) (l.span (omega (arith, i.within))) in
            let o = f (omega (arith, i.within)) in
            let c = i.past (j - 1) (omega arith) in
            let g : (j * a.edge) * q ≡ ((j - 1) * a.edge + a.edge) * q =
            ap (λ (w : ℕ). w * q) (product_plus_one (j - 1) j a.edge (omega arith)) in
            omega arith
        | inr h ↦ let z : j ≡ 0 = omega arith in rw z (omega arith)
      ],
      elim (cases_lt j a.crossings) [
        | inl h ↦
            let s : p * a.span ≡ p * D = ap (λ (v : ℕ). p * v) (l.span (omega arith)) in
            let o = f (omega arith) in
            omega (arith, i.still h)
        | inr h ↦
            let z : j ≡ a.crossings = omega (arith, i.within) in
            let m : p * D ≤ q * D = mul-le-mul_right D le in
            let t : (r + D) * q < (a.crossings * a.edge + a.edge) * q =
            mul-lt-mul_of_pos_right l.high pq in
            rw z (omega arith)
      ],
    )

-- i below n: (i + 1) * e is at most n * e
pub row_below : (i n e : ℕ) → i < n → i * e + e ≤ n * e
row_below i n e h =
    let k : i + 1 ≤ n = omega arith in
    let m : (i + 1) * e ≤ n * e = mul-le-mul_right e k in
    omega arith

up_timed : (a : Axis) (r D : ℕ) → IsLaidUp a r D → IsDueAfter a (place 0 1)
up_timed a r D l = record {
  after = λ h. let o = l.off h in omega (arith, l.inside);
  ends =
      λ i h. let n0 = up_late a l.rises in let s = l.span (omega arith) in let o = l.off
      (omega arith) in let m = row_below i a.crossings a.edge h in omega (arith, l.low);
}

-- where an axis falls, no place lies in voxels of a greater number
down_behind : (a : Axis) (r D k p q : ℕ) → r < a.edge → 0 < q
    → k * a.edge * q + p * D ≤ (a.key * a.edge + r) * q → k ≤ a.key
down_behind a r D k p q ir pq h =
    let s : (k * a.edge) * q ≤ (a.key * a.edge + r) * q = omega arith in
    let t : k * a.edge ≤ a.key * a.edge + r = le_of_mul-le-mul_right s pq in
    omega (arith, below_one_more k a.key a.edge (omega arith))

-- the same, where the axis falls
down_at : (a : Axis) (r D j p q : ℕ) → IsLaidDown a r D → 0 < q → p ≤ q
    → p * D ≤ r * q + j * a.edge * q → r * q + j * a.edge * q < p * D + a.edge * q
    → IsAt a j (place p q)
down_at a r D j p q l pq le lo hi =
    let n1 = down_late a l.rises in
    let m : p * D ≤ q * D = mul-le-mul_right D le in
    let f : a.distance * q ≡ r * q = ap (λ (w : ℕ). w * q) l.off in
    let t : (r + j * a.edge) * q < (D + a.edge) * q = omega arith in
    let u : r + j * a.edge < D + a.edge = lt_of_mul-lt-mul_right q t in
    let w : j ≤ a.crossings =
    omega (arith, below_one_more j a.crossings a.edge (omega (arith, l.low))) in
    record {
      within = w;
      past = λ i e.
          let s : p * a.span ≡ p * D = ap (λ (v : ℕ). p * v) (l.span (omega arith)) in
          let g : r * q + (i + 1) * a.edge * q < p * D + a.edge * q =
          subst (λ (v : ℕ). r * q + v * a.edge * q < p * D + a.edge * q) e hi in
          omega arith;
      still = λ h.
          let s : p * a.span ≡ p * D = ap (λ (v : ℕ). p * v) (l.span (omega arith)) in
          omega arith;
    }

-- and the other way round
down_at_back : (a : Axis) (r D j p q : ℕ) → IsLaidDown a r D → 0 < q → p ≤ q → IsAt a j (place p q)
    → (p * D ≤ r * q + j * a.edge * q) × (r * q + j * a.edge * q < p * D + a.edge * q)
down_at_back a r D j p q l pq le i =
    let n1 = down_late a l.rises in
    let f : a.distance * q ≡ r * q = ap (λ (w : ℕ). w * q) l.off in (
      elim (cases_lt j a.crossings) [
        | inl h ↦
            let s : p * a.span ≡ p * D = ap (λ (v : ℕ). p * v) (l.span (omega arith)) in
            omega (arith, i.still h)
        | inr h ↦
            let z : j ≡ a.crossings = omega (arith, i.within) in
            let m : p * D ≤ q * D = mul-le-mul_right D le in
            let t : D * q ≤ (r + a.crossings * a.edge) * q = mul-le-mul_right q l.low in
            rw z (omega arith)
      ],
      elim (cases_lt 0 j) [
        | inl h ↦
            let s : p * a.span ≡ p * D = ap (λ (v : ℕ). p * v) (l.span (omega (arith, i.within))) in
            let c = i.past (j - 1) (omega arith) in
            let g : (j * a.edge) * q ≡ ((j - 1) * a.edge + a.edge) * q =
            ap (λ (w : ℕ). w * q) (product_plus_one (j - 1) j a.edge (omega arith)) in
            omega arith
        | inr h ↦ let z : j ≡ 0 = omega arith in let t : r * q
            < a.edge * q = mul-lt-mul_of_pos_right l.inside pq in rw z (omega arith)
      ],
    )

down_timed : (a : Axis) (r D : ℕ) → IsLaidDown a r D → IsDueAfter a (place 0 1)
down_timed a r D l = record {
  after = λ h. let n1 = down_late a l.rises in omega arith;
  ends =
      λ i h. let n1 = down_late a l.rises in let s = l.span (omega arith) in let m = row_below i
      a.crossings a.edge h in omega (arith, l.high, l.off);
}

-- the axis a is that of the segment from o to e, at o
pub record IsLaid (edge : ℕ) (o e : ℤ) (a : Axis) : Type 0 where
  pub edge_is : edge ≡ a.edge
  pub r : ℕ
  pub D : ℕ
  pub at : IsDifference o (a.key * a.edge + r) (32768 * a.edge)
  pub way : (IsDifference (e -ℤ o) D 0 × IsLaidUp a r D)
      ⊎ (IsDifference (e -ℤ o) 0 D × IsLaidDown a r D)

pub laid_timed : (edge : ℕ) (o e : ℤ) (a : Axis) → IsLaid edge o e a → IsDueAfter a (place 0 1)
laid_timed edge o e a l = elim l.way [
  | inl w ↦ up_timed a l.r l.D w.1
  | inr w ↦ down_timed a l.r l.D w.1
]

key_after_up : (a : Axis) (j : ℕ) → a.rises ≡ true → key_after a j ≡ a.key + j
key_after_up a j e = rw e refl

key_after_down : (a : Axis) (j : ℕ) → a.rises ≡ false → key_after a j ≡ a.key - j
key_after_down a j e = rw e refl

edge_within : (edge edge' : ℕ) (o e : ℤ) (k p q : ℕ) → edge ≡ edge' → IsBetweenFaces edge o e k p q
    → IsBetweenFaces edge' o e k p q
edge_within edge edge' o e k p q h w = subst (λ (z : ℕ). IsBetweenFaces z o e k p q) h w

-- a place of the segment lies in the voxel k where the axis is some crossings
-- on there, and k is its key then
pub within_at : (edge : ℕ) (o e : ℤ) (a : Axis) → IsLaid edge o e a → (k p q : ℕ) → 0 < q → p ≤ q
    → IsBetweenFaces edge o e k p q → (j : ℕ) × IsAt a j (place p q) × (k ≡ key_after a j)
within_at edge o e a l k p q pq le w =
    let v = edge_within edge a.edge o e k p q l.edge_is w in
    elim l.way [
      | inl u ↦
          let f = within_out a.edge o e a.key l.r l.D 0 k p q l.at u.0 v in
          let h = up_ahead a l.r l.D k p q (omega (arith, f.1)) in
          let s : k ≡ a.key + (k - a.key) = omega arith in
          let t : (k * a.edge) * q ≡ ((a.key + (k - a.key)) * a.edge) * q =
          ap (λ (n : ℕ). n * a.edge * q) s in (
            k - a.key,
            up_at a l.r l.D (k - a.key) p q u.1 pq le (omega (arith, f.0)) (omega (arith, f.1)),
            s ∙ sym (key_after_up a (k - a.key) u.1.rises),
          )
      | inr u ↦
          let f = within_out a.edge o e a.key l.r 0 l.D k p q l.at u.0 v in
          let h = down_behind a l.r l.D k p q u.1.inside pq (omega (arith, f.0)) in
          let s : a.key ≡ k + (a.key - k) = omega arith in
          let t : (a.key * a.edge) * q ≡ ((k + (a.key - k)) * a.edge) * q =
          ap (λ (n : ℕ). n * a.edge * q) s in
          let z : k ≡ a.key - (a.key - k) = omega arith in (
            a.key - k,
            down_at a l.r l.D (a.key - k) p q u.1 pq le (omega (arith, f.0)) (omega (arith, f.1)),
            z ∙ sym (key_after_down a (a.key - k) u.1.rises),
          )
    ]

-- and the other way round
pub at_within : (edge : ℕ) (o e : ℤ) (a : Axis) → HasRoom a → IsLaid edge o e a → (j p q : ℕ)
    → 0 < q → p ≤ q → IsAt a j (place p q) → IsBetweenFaces edge o e (key_after a j) p q
at_within edge o e a ia l j p q pq le i =
    edge_within a.edge edge o e (key_after a j) p q (sym l.edge_is) (
    elim l.way [
      | inl u ↦
          let f = up_at_back a l.r l.D j p q u.1 pq le i in
          rw (key_after_up a j u.1.rises)
          (within_in a.edge o e a.key l.r l.D 0 (a.key + j) p q l.at u.0 (omega (arith, f.0))
          (omega (arith, f.1)))
      | inr u ↦
          let f = down_at_back a l.r l.D j p q u.1 pq le i in
          let s : a.key ≡ (a.key - j) + j = omega (arith, i.within, ia.falling u.1.rises) in
          let t : (a.key * a.edge) * q ≡ (((a.key - j) + j) * a.edge) * q =
          ap (λ (n : ℕ). n * a.edge * q) s in
          rw (key_after_down a j u.1.rises)
          (within_in a.edge o e a.key l.r 0 l.D (a.key - j) p q l.at u.0 (omega (arith, f.0))
          (omega (arith, f.1)))
    ])
