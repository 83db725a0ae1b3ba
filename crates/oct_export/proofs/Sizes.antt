-- How long the text of a scene is at most.
use Rattle.std.proofs.Common.{◌≡◌, ℕ, zero, suc, ◌+◌, ◌*◌, ◌/◌, ◌%◌, ◌^◌, ◌<◌, ◌≤◌, Bool, true}
use Rattle.std.proofs.Common.{false, cond, List, [], ◌∷◌, ◌++◌, length, refl, sym, ◌∙◌, ap, arith}
use Rattle.std.proofs.Common.{append-nil, length-append}
use Rattle.std.specs.Prelude.{codes, nat_lt, pos}
use Rattle.std.specs.Fmt.{decimal}
use Rattle.std.specs.Int.{abs_diff, is_negative}
use Rattle.std.proofs.Math.Nat.{pow-suc, one-le-pow}
use Rattle.oct_key.specs.Voxel.{IsResolution}
use Rattle.oct_key.specs.Block.{Cube, IsBlock, side, child_of, root_block}
use Rattle.oct_key.proofs.Blocks.{child_in_map, depth_child_of, root_in_map}
use Rattle.oct_num.specs.Form.{fraction_text}
use Rattle.oct_num.specs.MetresText.{leading_digits, metres_text, magnitude_text}
use Rattle.oct_num.specs.Sign.{sign_text}
use Rattle.oct_num.proofs.MetresWriting.{leading_few, front_few}
use Rattle.oct_values.specs.Classes.{Classes}
use Rattle.oct_export.specs.Boxes.{is_full, boxes_of, boxes_below, blocks_before, boxes_found}
use Rattle.oct_export.specs.BoxTexts.{fine_text, twice_middle, middle_text, size_text, box_line}
use Rattle.oct_export.specs.BoxTexts.{box_lines, scene_text}
use Rattle.oct_export.proofs.Lines.{whole_short, sign_short, faces_few, faces_is, apart_fits}
use Rattle.oct_export.proofs.Lines.{size_fits}
use Rattle.oct_export.proofs.Boxes.{first_boxes, boxes_of_full, boxes_of_parts, boxes_of_root}
use Rattle.oct_export.proofs.Walks.{lines_append, bytes_next, lines_due}

fraction_length : (l : List ℕ) → length (fraction_text l) ≤ length l + 1
fraction_length [] = omega arith
fraction_length (digit ∷ digits) = omega arith

fine_short : (n : ℕ) → n < 2 ^ 64 → length (fine_text n) ≤ 31
unfolding fine_text
fine_short n small =
    let whole = whole_short n small in
    let few = leading_few 10 (n % 10 ^ 10) in
    let point = fraction_length (leading_digits 10 (n % 10 ^ 10)) in
    let both = length-append (decimal (n / 10 ^ 10))
    (fraction_text (leading_digits 10 (n % 10 ^ 10))) in
    omega (arith, whole, few, point, both)

middle_short : (edge d n : ℕ) → IsResolution edge → d ≤ 16 → n < 2 ^ d
    → length (middle_text edge d n) ≤ 32
unfolding middle_text
middle_short edge d n res low small =
    let faces = faces_few d n low small in
    let same : (2 * n + 1) * side d ≡ twice_middle d n = faces_is d n ((2 * n + 1) * side d) refl in
    let fits = apart_fits (twice_middle d n) edge (abs_diff (twice_middle d n) 65536)
    (omega (arith, faces, same)) res refl in
    let fine = fine_short (5 * (abs_diff (twice_middle d n) 65536 * edge)) (omega (arith, fits)) in
    let sign = sign_short (nat_lt (twice_middle d n) 65536) in
    let both = length-append (sign_text (nat_lt (twice_middle d n) 65536))
    (fine_text (5 * (abs_diff (twice_middle d n) 65536 * edge))) in
    omega (arith, fine, sign, both)

size_short : (edge d : ℕ) → IsResolution edge → length (size_text edge d) ≤ 22
unfolding metres_text
size_short edge d res =
    let fits = size_fits d edge res in
    let front = front_few (is_negative (pos (side d * edge))) (side d * edge) (omega (arith, fits))
    in
    let few = leading_few 9 (side d * edge % 10 ^ 9) in
    let point = fraction_length (leading_digits 9 (side d * edge % 10 ^ 9)) in
    let both = length-append (decimal (side d * edge / 10 ^ 9))
    (fraction_text (leading_digits 9 (side d * edge % 10 ^ 9))) in
    let all = length-append (sign_text (is_negative (pos (side d * edge))))
    (magnitude_text (side d * edge)) in
    omega (arith, front, few, point, both, all)

pieces_short : (x y z s : List ℕ) → length x ≤ 32 → length y ≤ 32 → length z ≤ 32 → length s ≤ 22
    → (a b m e : List ℕ)
    → length a ≤ 24 → length b ≤ 1 → length m ≤ 40 → length e ≤ 9
    → length ((((((((((((a ++ x) ++ b) ++ y) ++ b) ++ z) ++ m) ++ s) ++ b) ++ s) ++ b) ++ s) ++ e)
    ≤ 256
pieces_short x y z s lx ly lz ls a b m e la lb lm le =
    let p1 = length-append a x in
    let p2 = length-append (a ++ x) b in
    let p3 = length-append ((a ++ x) ++ b) y in
    let p4 = length-append (((a ++ x) ++ b) ++ y) b in
    let p5 = length-append ((((a ++ x) ++ b) ++ y) ++ b) z in
    let p6 = length-append (((((a ++ x) ++ b) ++ y) ++ b) ++ z) m in
    let p7 = length-append ((((((a ++ x) ++ b) ++ y) ++ b) ++ z) ++ m) s in
    let p8 = length-append (((((((a ++ x) ++ b) ++ y) ++ b) ++ z) ++ m) ++ s) b in
    let p9 = length-append ((((((((a ++ x) ++ b) ++ y) ++ b) ++ z) ++ m) ++ s) ++ b) s in
    let p10 = length-append (((((((((a ++ x) ++ b) ++ y) ++ b) ++ z) ++ m) ++ s) ++ b) ++ s) b in
    let p11 = length-append ((((((((((a ++ x) ++ b) ++ y) ++ b) ++ z) ++ m) ++ s) ++ b) ++ s) ++ b)
    s in
    let p12 = length-append (((((((((((a ++ x) ++ b) ++ y) ++ b) ++ z) ++ m) ++ s) ++ b) ++ s) ++ b)
    ++ s) e in
    omega (arith, p1, p2, p3, p4, p5, p6, p7, p8, p9, p10, p11, p12, lx, ly, lz, ls, la, lb, lm, le)

line_short : (edge : ℕ) (b : Cube) → IsResolution edge → IsBlock b → length (box_line edge b) ≤ 256
unfolding box_line
line_short edge b res ok =
    pieces_short (middle_text edge b.depth b.x) (middle_text edge b.depth b.y)
    (middle_text edge b.depth b.z) (size_text edge b.depth)
    (middle_short edge b.depth b.x res ok.depth ok.x)
    (middle_short edge b.depth b.y res ok.depth ok.y)
    (middle_short edge b.depth b.z res ok.depth ok.z)
    (size_short edge b.depth res) (codes "Transform { translation ") (codes " ")
    (codes " children [ Shape { geometry Box { size ") (codes " } } ] }\n")
    (omega arith) (omega arith) (omega arith) (omega arith)

first_short : (c : Classes) (edge h : ℕ) (b : Cube)
    → ((i : ℕ) → length (box_lines edge (boxes_below c h (child_of b i))) ≤ 256 * 8 ^ h)
    → (n : ℕ) → length (box_lines edge (first_boxes c h b n)) ≤ n * (256 * 8 ^ h)
unfolding first_boxes
first_short c edge h b each zero = omega arith
first_short c edge h b each (suc n) =
    let before = first_short c edge h b each n in
    let here = each n in
    let all : length (box_lines edge (first_boxes c h b n ++ boxes_below c h (child_of b n)))
    ≡ length (box_lines edge (first_boxes c h b n))
    + length (box_lines edge (boxes_below c h (child_of b n)))
    = ap length (lines_append edge (first_boxes c h b n) (boxes_below c h (child_of b n)))
    ∙ length-append (box_lines edge (first_boxes c h b n))
    (box_lines edge (boxes_below c h (child_of b n))) in
    omega (arith, before, here, all)

lines_of_one : (edge : ℕ) (b : Cube) → IsResolution edge → IsBlock b
    → length (box_lines edge (b ∷ [])) ≤ 256
lines_of_one edge b res ok =
    (let short = line_short edge b res ok in let same : length (box_lines edge (b ∷ []))
    ≡ length (box_line edge b) = ap length (append-nil (box_line edge b)) in
    omega (arith, short, same))

lines_short : (c : Classes) (edge h : ℕ) (b : Cube) → IsResolution edge → IsBlock b
    → b.depth + h ≡ 16 → length (box_lines edge (boxes_below c h b)) ≤ 256 * 8 ^ h
unfolding boxes_below
lines_short c edge zero b res ok d = by (is_full c b)
  where
    by : (t : Bool) → length (box_lines edge (cond t (b ∷ []) [])) ≤ 256
    by true = lines_of_one edge b res ok
    by false = omega arith
lines_short c edge (suc h) b res ok d =
    by (first_short c edge h b (λ i. (let down = depth_child_of b i in
    lines_short c edge h (child_of b i) res (child_in_map b i ok (omega (arith, d)))
    (omega (arith, d, down)))) 8) (is_full c b) refl
  where
    by : length (box_lines edge (first_boxes c h b 8)) ≤ 8 * (256 * 8 ^ h) → (t : Bool)
        → is_full c b ≡ t → length (box_lines edge (boxes_below c (suc h) b)) ≤ 256 * 8 ^ suc h
    by few true is =
        (let one = lines_of_one edge b res ok in let same =
        ap (λ (l : List Cube). length (box_lines edge l)) (boxes_of_full c (suc h) b is) in
        let some = one-le-pow (suc h) 8 (omega arith) in omega (arith, one, same, some))
    by few false is =
        (let same = ap (λ (l : List Cube). length (box_lines edge l)) (boxes_of_parts c h b is) in
        let power = pow-suc 8 h in omega (arith, few, same, power))

-- a scene's text is shorter than 2^64
scene_short : (c : Classes) (edge : ℕ) → IsResolution edge → length (scene_text edge c) < 2 ^ 64
unfolding scene_text
scene_short c edge res =
    let few = lines_short c edge 16 root_block res root_in_map refl in
    let same = ap (λ (l : List Cube). length (box_lines edge l)) (boxes_of_root c) in
    let both = length-append (codes "#VRML V2.0 utf8\n") (box_lines edge (boxes_of c)) in
    omega (arith, few, same, both)

-- ---- the parts of a scene

boxes_parts : (c : Classes) (full : Bool) → full ≡ is_full c root_block
    → boxes_found c 0 root_block ++ cond full (root_block ∷ []) [] ≡ boxes_of c
unfolding boxes_found blocks_before
boxes_parts c full is = by full is ∙ sym (boxes_of_root c)
  where
    by : (t : Bool) → t ≡ is_full c root_block
        → boxes_found c 0 root_block ++ cond t (root_block ∷ []) [] ≡ boxes_below c 16 root_block
    by true full = rw (sym full) (sym (boxes_of_full c 16 root_block (sym full)))
    by false part = rw (sym part) (append-nil (boxes_below c 16 root_block))

pub scene_parts : (c : Classes) (edge res : ℕ) (head : List ℕ) (a b : Cube) (full : Bool)
    → head ≡ codes "#VRML V2.0 utf8\n"
    → a ≡ root_block → b ≡ root_block → full ≡ is_full c a → res ≡ edge
    → head ++ (box_lines edge (boxes_found c 0 a) ++ cond full (box_line res b) [])
    ≡ scene_text edge c
unfolding scene_text
scene_parts c edge res head a b full is_head is_a is_b is_full_root same =
    ap (λ (l : List ℕ). l ++ (box_lines edge (boxes_found c 0 a) ++ cond full (box_line res b) []))
    is_head
    ∙ ap (λ q. codes "#VRML V2.0 utf8\n"
    ++ (box_lines edge (boxes_found c 0 q) ++ cond full (box_line res b) [])) is_a
    ∙ ap (λ q. codes "#VRML V2.0 utf8\n"
    ++ (box_lines edge (boxes_found c 0 root_block) ++ cond full (box_line res q) [])) is_b
    ∙ ap (λ (e : ℕ). codes "#VRML V2.0 utf8\n"
    ++ (box_lines edge (boxes_found c 0 root_block) ++ cond full (box_line e root_block) []))
    same
    ∙ ap (λ (l : List ℕ). codes "#VRML V2.0 utf8\n" ++ l)
    (ap (λ (l : List ℕ). box_lines edge (boxes_found c 0 root_block) ++ l)
    (sym (lines_due edge root_block full))
    ∙ sym (lines_append edge (boxes_found c 0 root_block) (cond full (root_block ∷ []) []))
    ∙ ap (box_lines edge) (boxes_parts c full (is_full_root ∙ ap (is_full c) is_a)))

pub scene_length : (c : Classes) (edge : ℕ) (head b d : List ℕ) (m n k total : ℕ)
    → IsResolution edge → m ≡ length head → n ≡ length b % 2 ^ 64 → k ≡ length d
    → head ++ (b ++ d) ≡ scene_text edge c → total ≡ ((m + n) % 2 ^ 64 + k) % 2 ^ 64 → m < 2 ^ 64
    → total ≡ length (scene_text edge c)
scene_length c edge head b d m n k total res is_m is_n is_k whole is small =
    let rest : m ≡ length head % 2 ^ 64 = omega (arith, is_m, small) in
    let all = bytes_next head b d (scene_text edge c) m n k rest is_n is_k whole in
    let few = scene_short c edge res in
    omega (arith, is, all, few)

pub scene_begins : (c : Classes) (edge : ℕ) (head : List ℕ) → head ≡ codes "#VRML V2.0 utf8\n"
    → head ++ box_lines edge (boxes_of c) ≡ scene_text edge c
unfolding scene_text
scene_begins c edge head is = ap (λ (l : List ℕ). l ++ box_lines edge (boxes_of c)) is
