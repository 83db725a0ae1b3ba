-- How many boxes a block has, from those of its children.
use Rattle.std.proofs.Common.{◌≡◌, ℕ, ◌+◌, ◌-◌, ◌*◌, ◌^◌, ◌<◌, ◌≤◌, Bool, true, false, cond, []}
use Rattle.std.proofs.Common.{◌∷◌, length, sym, ◌∙◌, ap, arith, length-append}
use Rattle.std.specs.Prelude.{◌&&◌}
use Rattle.std.proofs.Math.Nat.{pow-le-pow_right, mul-le-mul_right}
use Rattle.oct_key.specs.Voxel.{Voxel, IsInMap}
use Rattle.oct_key.specs.Block.{Cube, IsBlock, HoldsVoxel, child_of, root_block}
use Rattle.oct_key.proofs.Held.{held_in_map}
use Rattle.oct_odds.specs.Update.{Value, class_of}
use Rattle.oct_odds.specs.declared.event.Class.{Class}
use Rattle.oct_odds.specs.declared.event.Class.TheVariants.{Occupied}
use Rattle.oct_tree.specs.Tree.{Tree, value_at}
use Rattle.oct_values.specs.Classes.{Classes}
use Rattle.oct_tree.specs.Classes.{classes_in}
use Rattle.oct_export.specs.Boxes.{is_full, boxes_in, boxes_of, boxes_below}
use Rattle.oct_export.proofs.Places.{IsAbove}
use Rattle.oct_export.proofs.Boxes.{first_full, first_boxes, first_next, first_whole, boxes_next}
use Rattle.oct_export.proofs.Boxes.{boxes_of_full, boxes_of_parts, first_few, leaf_boxes}
use Rattle.oct_export.proofs.Boxes.{boxes_of_root}

-- the voxels of a leaf's block
pub leaf_class : (t : Tree) (b : Cube) (value : Value) (class : Class) → IsBlock b
    → ((k : Voxel) → IsInMap k → HoldsVoxel b k → value_at t k ≡ value)
    → class ≡ class_of t.odds value
    → (k : Voxel) → HoldsVoxel b k → classes_in t k ≡ class
leaf_class t b value class ok values is k held =
    ap (class_of t.odds) (values k (held_in_map b k ok held) held) ∙ sym is

pub leaf_count : (c : Classes) (b : Cube) (class : Class) (t : Bool) (n : ℕ) → IsBlock b
    → ((k : Voxel) → HoldsVoxel b k → c k ≡ class)
    → (t ≡ true → class ≡ Occupied) → (class ≡ Occupied → t ≡ true) → n ≡ cond t 1 0
    → n ≡ length (boxes_in c b)
leaf_count c b class t n ok all to from is =
    is ∙ sym (ap length (leaf_boxes c b class t ok all to from) ∙ by t)
  where
    by : (t : Bool) → length (cond t (b ∷ []) []) ≡ cond t 1 0
    by true = omega arith
    by false = omega arith

-- one child more
pub full_next : (c : Classes) (b : Cube) (i : ℕ) (p q r : Bool) → p ≡ first_full c b i
    → q ≡ is_full c (child_of b i) → r ≡ (p && q)
    → r ≡ first_full c b (i + 1)
full_next c b i p q r is_p is_q is = is ∙ ap (λ t. t && q) is_p
    ∙ ap (λ t. first_full c b i && t) is_q ∙ sym (first_next c b i)

pub count_next : (c : Classes) (b : Cube) (i n m : ℕ) → IsAbove b
    → n ≡ length (first_boxes c (16 - (b.depth + 1)) b i)
    → m ≡ length (boxes_in c (child_of b i))
    → n + m ≡ length (first_boxes c (16 - (b.depth + 1)) b (i + 1))
count_next c b i n m a is_n is_m =
    let all : length (first_boxes c (16 - (b.depth + 1)) b (i + 1))
    ≡ length (first_boxes c (16 - (b.depth + 1)) b i)
    + length (boxes_below c (16 - (b.depth + 1)) (child_of b i))
    = ap length (boxes_next c (16 - (b.depth + 1)) b i)
    ∙ length-append (first_boxes c (16 - (b.depth + 1)) b i)
    (boxes_below c (16 - (b.depth + 1)) (child_of b i)) in
    let same : length (boxes_in c (child_of b i))
    ≡ length (boxes_below c (16 - (b.depth + 1)) (child_of b i)) =
    ap (λ (h : ℕ). length (boxes_below c h (child_of b i))) (a.child i) in
    omega (arith, all, same, is_n, is_m)

-- the counts fit
pub count_fits : (c : Classes) (b : Cube) (i n : ℕ) → i ≤ 8
    → n ≡ length (first_boxes c (16 - (b.depth + 1)) b i) → n < 18446744073709551616
count_fits c b i n li is =
    let few = first_few c (16 - (b.depth + 1)) b i in
    let most : 8 ^ (16 - (b.depth + 1)) ≤ 8 ^ 16 =
    pow-le-pow_right {n = 8} (omega arith) {i = 16 - (b.depth + 1)} {j = 16} (omega arith) in
    by (8 ^ (16 - (b.depth + 1))) few most
  where
    by : (m : ℕ) → length (first_boxes c (16 - (b.depth + 1)) b i) ≤ i * m → m ≤ 8 ^ 16
        → n < 18446744073709551616
    by m few most =
        (let eight : i * m ≤ 8 * m = mul-le i m li in omega (arith, few, most, eight, is))
      where
        mul-le : (i m : ℕ) → i ≤ 8 → i * m ≤ 8 * m
        mul-le i m l = mul-le-mul_right m l

-- all children
pub full_of_all : (c : Classes) (b : Cube) (n : ℕ) (p : Bool) → IsAbove b → n ≡ 8
    → p ≡ first_full c b n → p ≡ is_full c b
full_of_all c b n p a is h = h ∙ ap (first_full c b) is ∙ first_whole c b a.ok a.low

pub one_box : (c : Classes) (b : Cube) → is_full c b ≡ true → 1 ≡ length (boxes_in c b)
one_box c b full = sym (ap length (boxes_of_full c (16 - b.depth) b full))

pub count_of_all : (c : Classes) (b : Cube) (n m : ℕ) → IsAbove b → n ≡ 8 → is_full c b ≡ false
    → m ≡ length (first_boxes c (16 - (b.depth + 1)) b n)
    → m ≡ length (boxes_in c b)
count_of_all c b n m a is part h =
    h ∙ ap (λ (k : ℕ). length (first_boxes c (16 - (b.depth + 1)) b k)) is
    ∙ sym (ap (λ (h : ℕ). length (boxes_below c h b)) a.next
    ∙ ap length (boxes_of_parts c (16 - (b.depth + 1)) b part))

-- the whole map
pub count_of_map : (c : Classes) (n : ℕ) → n ≡ length (boxes_in c root_block)
    → n ≡ length (boxes_of c)
count_of_map c n is = is ∙ sym (ap length (boxes_of_root c))
