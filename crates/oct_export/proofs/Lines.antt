-- The text of a box, piece by piece.
use Rattle.std.proofs.Common.{◌≡◌, ℕ, ◌+◌, ◌-◌, ◌*◌, ◌/◌, ◌%◌, ◌^◌, ◌<◌, ◌≤◌, Bool, true, false}
use Rattle.std.proofs.Common.{List, [], ◌++◌, length, refl, ◌∙◌, ap, arith, append_assoc}
use Rattle.std.specs.Prelude.{codes, nat_lt}
use Rattle.std.specs.Fmt.{decimal}
use Rattle.std.specs.Int.{abs_diff}
use Rattle.std.proofs.Math.Nat.{mul-le-mul_right, pow-le-pow_right}
use Rattle.std.proofs.lemmas.Fmt.{length-decimal-le}
use Rattle.oct_key.specs.Voxel.{IsResolution}
use Rattle.oct_key.specs.Block.{Cube, side}
use Rattle.oct_num.specs.Form.{fraction_text}
use Rattle.oct_num.specs.MetresText.{leading_digits}
use Rattle.oct_num.specs.Sign.{sign_text}
use Rattle.oct_export.specs.BoxTexts.{fine_text, twice_middle, middle_text, size_text, box_line}
use Rattle.oct_export.proofs.Columns.{end_fits}

-- the digits of a word before the point
pub whole_short : (n : ℕ) → n < 2 ^ 64 → length (decimal (n / 10 ^ 10)) ≤ 20
whole_short n small = length-decimal-le 20 (n / 10 ^ 10) (omega arith) (omega (arith, small))
    (omega (arith, small))

pub fine_built : (start whole digits all : List ℕ) (n : ℕ) → whole ≡ start ++ digits
    → digits ≡ decimal (n / 10 ^ 10)
    → all ≡ whole ++ fraction_text (leading_digits 10 (n % 10 ^ 10)) → all ≡ start ++ fine_text n
unfolding fine_text
fine_built start whole digits all n w d is =
    is ∙ ap (λ t. t ++ fraction_text (leading_digits 10 (n % 10 ^ 10))) (w ∙ ap (λ t. start ++ t) d)
    ∙ append_assoc start (decimal (n / 10 ^ 10)) (fraction_text (leading_digits 10 (n % 10 ^ 10)))

-- what the code takes for twice the middle
pub faces_is : (d n faces : ℕ) → faces ≡ (2 * n + 1) * side d → faces ≡ twice_middle d n
faces_is d n faces is =
    (let split : (2 * n + 1) * side d ≡ n * side d + (n + 1) * side d = omega arith in is ∙ split)

pub faces_few : (d n : ℕ) → d ≤ 16 → n < 2 ^ d → (2 * n + 1) * side d ≤ 131072
faces_few d n l h = (let most = end_fits d n l h in
    let less : (2 * n + 1) * side d ≤ 2 * ((n + 1) * side d) = by n (side d) in
    omega (arith, most, less))
  where
    by : (n s : ℕ) → (2 * n + 1) * s ≤ 2 * ((n + 1) * s)
    by n s = omega arith

pub apart_fits : (faces edge gap : ℕ) → faces ≤ 131072 → IsResolution edge
    → gap ≡ abs_diff faces 65536 → gap * edge ≤ 6553600000000000
apart_fits faces edge gap few (low, high) is =
    let one : gap * edge ≤ 65536 * edge = mul-le-mul_right edge (omega (arith, few, is)) in
    omega (arith, one, high)

pub middle_built : (edge d n faces gap : ℕ) (sign all : List ℕ) (minus : Bool)
    → faces ≡ (2 * n + 1) * side d → minus ≡ nat_lt faces 65536
    → sign ≡ sign_text minus → gap ≡ abs_diff faces 65536
    → all ≡ sign ++ fine_text (5 * (gap * edge)) → all ≡ middle_text edge d n
unfolding middle_text
middle_built edge d n faces gap sign all minus is_f is_m is_s is_g is =
    let f = faces_is d n faces is_f in
    is ∙ ap (λ t. t ++ fine_text (5 * (gap * edge)))
    (is_s ∙ ap sign_text (is_m ∙ ap (λ (k : ℕ). nat_lt k 65536) f))
    ∙ ap (λ (g : ℕ). sign_text (nat_lt (twice_middle d n) 65536) ++ fine_text (5 * (g * edge)))
    (is_g ∙ ap (λ (k : ℕ). abs_diff k 65536) f)

pub sign_short : (minus : Bool) → length (sign_text minus) ≤ 1
sign_short true = omega arith
sign_short false = omega arith

-- the edge of a block is a length that fits
pub sign_room : (text : List ℕ) (minus : Bool) → text ≡ sign_text minus → length text ≤ 1
sign_room text minus is =
    (let same = ap length is in let few = sign_short minus in omega (arith, same, few))

pub side_few : (d : ℕ) → side d ≤ 65536
side_few d = pow-le-pow_right {n = 2} (omega arith) {i = 16 - d} {j = 16} (omega arith)

pub size_fits : (d edge : ℕ) → IsResolution edge → side d * edge ≤ 6553600000000000
size_fits d edge (low, high) =
    let one : side d * edge ≤ 65536 * edge = mul-le-mul_right edge (side_few d) in
    omega (arith, one, high)

-- piece by piece
pub line_built : (t0 t1 t2 t3 t4 t5 t6 t7 t8 t9 t10 t11 t12 last a b m e q r v u1 u2 u3 x y z s
    all : List ℕ)
    → t0 ≡ [] → t1 ≡ t0 ++ a → t2 ≡ t1 ++ q → t3 ≡ t2 ++ b → t4 ≡ t3 ++ r → t5 ≡ t4 ++ b
    → t6 ≡ t5 ++ v → t7 ≡ t6 ++ m
    → t8 ≡ t7 ++ u1 → t9 ≡ t8 ++ b → t10 ≡ t9 ++ u2 → t11 ≡ t10 ++ b → t12 ≡ t11 ++ u3
    → last ≡ t12 ++ e
    → q ≡ x → r ≡ y → v ≡ z → u1 ≡ s → u2 ≡ s → u3 ≡ s
    → ((((((((((((a ++ x) ++ b) ++ y) ++ b) ++ z) ++ m) ++ s) ++ b) ++ s) ++ b) ++ s) ++ e) ≡ all
    → last ≡ all
line_built t0 t1 t2 t3 t4 t5 t6 t7 t8 t9 t10 t11 t12 last a b m e q r v u1 u2 u3 x y z s all p0 p1
    p2 p3 p4 p5 p6 p7 p8 p9 p10 p11 p12 end hx hy hz h1 h2 h3 whole =
    end ∙ ap (λ t. t ++ e)
    (p12 ∙ ap (λ t. t11 ++ t) h3
    ∙ ap (λ t. t ++ s)
    (p11 ∙ ap (λ t. t ++ b)
    (p10 ∙ ap (λ t. t9 ++ t) h2 ∙ ap (λ t. t ++ s) (p9 ∙ ap (λ t. t ++ b)
    (p8 ∙ ap (λ t. t7 ++ t) h1 ∙ ap (λ t. t ++ s)
    (p7 ∙ ap (λ t. t ++ m)
    (p6 ∙ ap (λ t. t5 ++ t) hz
    ∙ ap (λ t. t ++ z)
    (p5 ∙ ap (λ t. t ++ b) (p4 ∙ ap (λ t. t3 ++ t) hy ∙ ap (λ t. t ++ y) (p3 ∙ ap (λ t. t ++ b)
    (p2 ∙ ap (λ t. t1 ++ t) hx ∙ ap (λ t. t ++ x) (p1 ∙ ap (λ t. t ++ a) p0)))))))))))) ∙ whole

pub line_pieces : (edge : ℕ) (b : Cube) (a q m e x y z s : List ℕ)
    → a ≡ codes "Transform { translation " → q ≡ codes " "
    → m ≡ codes " children [ Shape { geometry Box { size " → e ≡ codes " } } ] }\n"
    → x ≡ middle_text edge b.depth b.x
    → y ≡ middle_text edge b.depth b.y → z ≡ middle_text edge b.depth b.z
    → s ≡ size_text edge b.depth
    → ((((((((((((a ++ x) ++ q) ++ y) ++ q) ++ z) ++ m) ++ s) ++ q) ++ s) ++ q) ++ s) ++ e)
    ≡ box_line edge b
unfolding box_line
line_pieces edge b a q m e x y z s is_a is_q is_m is_e is_x is_y is_z is_s =
    rw (is_a, is_q, is_m, is_e, is_x, is_y, is_z, is_s) refl
