-- The rows of factors are those of Hamilton's product.
use Rattle.std.proofs.Common.{◌≡◌, arith}
use Rattle.oct_key.specs.declared.point.Point.{Point}
use Rattle.oct_pose.specs.declared.rotation.Quaternion.{Quaternion}
use Rattle.oct_pose.specs.Hamilton.{turned}
use Rattle.oct_pose.specs.Rotation.{x_row, y_row, z_row, weighted}
use Rattle.oct_num.proofs.Differences.{parts, natural, plus, minus, negated, times, equal}

-- the coordinates of q p q*, by the rows of factors
pub record IsByRows (q : Quaternion) (p : Point) : Type 0 where
  pub x : (turned q p).x ≡ weighted (x_row q) p
  pub y : (turned q p).y ≡ weighted (y_row q) p
  pub z : (turned q p).z ≡ weighted (z_row q) p

pub turned_by_rows : (q : Quaternion) (p : Point) → IsByRows q p
turned_by_rows q p =
    let w = parts q.w in
    let x = parts q.x in
    let y = parts q.y in
    let z = parts q.z in
    let a = parts p.x in
    let b = parts p.y in
    let c = parts p.z in
    let o = natural 0 in
    let two = natural 2 in
    let pw = minus (minus (minus (times w o) (times x a)) (times y b)) (times z c) in
    let px = minus (plus (plus (times w a) (times x o)) (times y c)) (times z b) in
    let py = plus (plus (minus (times w b) (times x c)) (times y o)) (times z a) in
    let pz = plus (minus (plus (times w c) (times x b)) (times y a)) (times z o) in
    let left_x =
    minus (plus (plus (times pw (negated x)) (times px w)) (times py (negated z)))
    (times pz (negated y)) in
    let left_y =
    plus (plus (minus (times pw (negated y)) (times px (negated z))) (times py w))
    (times pz (negated x)) in
    let left_z =
    plus (minus (plus (times pw (negated z)) (times px (negated y))) (times py (negated x)))
    (times pz w) in
    let right_x =
    plus (plus (times (minus (minus (plus (times w w) (times x x)) (times y y)) (times z z)) a)
    (times (times two (minus (times x y) (times w z))) b))
    (times (times two (plus (times x z) (times w y))) c) in
    let right_y = plus (plus (times (times two (plus (times x y) (times w z))) a)
    (times (minus (plus (minus (times w w) (times x x)) (times y y)) (times z z)) b))
    (times (times two (minus (times y z) (times w x))) c) in
    let right_z = plus (plus (times (times two (minus (times x z) (times w y))) a)
    (times (times two (plus (times y z) (times w x))) b))
    (times (plus (minus (minus (times w w) (times x x)) (times y y)) (times z z)) c) in
    record {
      x = equal left_x right_x (omega arith);
      y = equal left_y right_y (omega arith);
      z = equal left_z right_z (omega arith);
    }
