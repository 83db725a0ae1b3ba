-- A quaternion without x, y and z turns nothing.
use Rattle.std.proofs.Common.{◌≡◌, ℤ, pos, ◌*ℤ◌, ◌≤ℤ◌, sym, subst, ap, ◌∙◌, arith}
use Rattle.std.proofs.lemmas.Int.{ints, by_lt_z}
use Rattle.oct_key.specs.declared.point.Point.{Point}
use Rattle.oct_num.specs.Rounding.{half_up}
use Rattle.oct_num.proofs.Nearest.{apart, half_up_low, half_up_high}
use Rattle.oct_num.proofs.Differences.{parts, natural, plus, minus, times, equal}
use Rattle.oct_pose.specs.Rotation.{norm, rotated, x_row, y_row, z_row, weighted}
use Rattle.oct_pose.specs.declared.rotation.Quaternion.{Quaternion}

-- a multiple of the divisor isn't rounded
half_up_multiple : (d n : ℤ) → pos 1 ≤ℤ d → half_up (n *ℤ d) d ≡ n
half_up_multiple d n positive =
    let k = half_up (n *ℤ d) d in
    let low = half_up_low (n *ℤ d) d positive in
    let high = half_up_high (n *ℤ d) d positive in
    by_lt_z n k
    (λ above. absurd (omega (arith, ints, low, positive, apart n k d positive above)))
    (λ not_above. by_lt_z k n
    (λ below. absurd (omega (arith, ints, high, positive, apart k n d positive below)))
    (λ not_below. omega (arith, ints, not_above, not_below)))

abbrev upright : ℤ → Quaternion
upright w = record { w = w; x = pos 0; y = pos 0; z = pos 0 }

-- its rows give each coordinate times the square of its length
record HasOwn (w : ℤ) (p : Point) : Type 0 where
  x : weighted (x_row (upright w)) p ≡ p.x *ℤ norm (upright w)
  y : weighted (y_row (upright w)) p ≡ p.y *ℤ norm (upright w)
  z : weighted (z_row (upright w)) p ≡ p.z *ℤ norm (upright w)

has_own : (n : ℤ) (p : Point) → HasOwn n p
has_own n p =
    let w = parts n in
    let a = parts p.x in
    let b = parts p.y in
    let c = parts p.z in
    let o = natural 0 in
    let two = natural 2 in
    let square = plus (plus (plus (times w w) (times o o)) (times o o)) (times o o) in
    let sum = times two (plus (times o o) (times w o)) in
    let turned = times two (plus (times o o) (times o o)) in
    let less = times two (minus (times o o) (times w o)) in
    let x_own = minus (minus (plus (times w w) (times o o)) (times o o)) (times o o) in
    let y_own = minus (plus (minus (times w w) (times o o)) (times o o)) (times o o) in
    let z_own = plus (minus (minus (times w w) (times o o)) (times o o)) (times o o) in
    record {
      x = equal (plus (plus (times x_own a) (times less b)) (times sum c)) (times a square)
          (omega arith);
      y = equal (plus (plus (times sum a) (times y_own b)) (times less c)) (times b square)
          (omega arith);
      z = equal (plus (plus (times less a) (times sum b)) (times z_own c)) (times c square)
          (omega arith);
    }

by_coordinates : (p q : Point) → p.x ≡ q.x → p.y ≡ q.y → p.z ≡ q.z → p ≡ q
by_coordinates p q x y z =
    ap (λ n. record { x = n; y = p.y; z = p.z }) x
    ∙ ap (λ n. record { x = q.x; y = n; z = p.z }) y
    ∙ ap (λ n. record { x = q.x; y = q.y; z = n }) z

upright_turns : (w : ℤ) (p : Point) → pos 1 ≤ℤ norm (upright w) → rotated (upright w) p ≡ p
upright_turns w p positive =
    let own = has_own w p in
    let d = norm (upright w) in
    by_coordinates (rotated (upright w) p) p
    (ap (λ n. half_up n d) own.x ∙ half_up_multiple d p.x positive)
    (ap (λ n. half_up n d) own.y ∙ half_up_multiple d p.y positive)
    (ap (λ n. half_up n d) own.z ∙ half_up_multiple d p.z positive)

is_upright : (q : Quaternion) → q.x ≡ pos 0 → q.y ≡ pos 0 → q.z ≡ pos 0 → upright q.w ≡ q
is_upright q x y z =
    ap (λ n. record { w = q.w; x = n; y = pos 0; z = pos 0 }) (sym x)
    ∙ ap (λ n. record { w = q.w; x = q.x; y = n; z = pos 0 }) (sym y)
    ∙ ap (λ n. record { w = q.w; x = q.x; y = q.y; z = n }) (sym z)

pub upright_stays : (q : Quaternion) (p : Point) → q.x ≡ pos 0 → q.y ≡ pos 0 → q.z ≡ pos 0
    → pos 1 ≤ℤ norm q → rotated q p ≡ p
upright_stays q p x y z =
    subst (λ (r : Quaternion). pos 1 ≤ℤ norm r → rotated r p ≡ p) (is_upright q x y z)
    (upright_turns q.w p)
