-- How many groups a block's values need: itself, and its children.
use Rattle.std.proofs.Common.{◌≡◌, ℕ, zero, suc, ◌+◌, ◌-◌, ◌*◌, ◌^◌, ◌<◌, ◌≤◌, ◌↔◌, Bool, true}
use Rattle.std.proofs.Common.{false}
use Rattle.std.proofs.Common.{cond, refl, sym, ◌∙◌, ap, arith, inl, inr}
use Rattle.std.specs.Prelude.{IsTrue, not, nat_lt, ◌||◌, ◌&&◌, sum_by, count_by}
use Rattle.std.proofs.Math.Nat.{pow-suc, pow-le-pow_right, mul-le-mul_right}
use Rattle.std.proofs.lemmas.Bool.{false≢true, ltb-true, ltb-false, cases_eq, cases_lt}
use Rattle.oct_key.specs.Values.{Values}
use Rattle.oct_key.specs.Block.{Cube, IsBlock, HoldsVoxel, child_of, child_index_of, lowest_voxel}
use Rattle.oct_key.proofs.Blocks.{child_in_map, child_index_below, depth_child_of, lowest_held}
use Rattle.oct_key.proofs.Held.{child_depths, held_by_child, held_by_parent, only_voxel}
use Rattle.oct_key.proofs.SameVoxels.{same_voxel}
use Rattle.oct_odds.specs.Update.{Value}
use Rattle.oct_values.specs.Blocks.{blocks_below, child_numbers}
use Rattle.oct_values.specs.Counts.{is_uniform}
use Rattle.oct_values.proofs.Axes.{sum_below, sum_below_none, sum_below_next}
use Rattle.oct_values.proofs.Children.{uniform_child}
use Rattle.oct_values.proofs.Eights.{same_eight, none_of_eight, sum_of_eight}
use Rattle.oct_values.proofs.Listed.{sum_of_blocks, sum_of_no_blocks}
use Rattle.oct_values.proofs.Uniform.{uniform_of, value_of_uniform}
use Rattle.oct_shift.specs.Moving.{groups_in}

sum_below_eight : (f : ℕ → ℕ) → sum_by f child_numbers ≡ sum_below f 8
unfolding sum_below
sum_below_eight f = (let eight = sum_of_eight f in omega (arith, eight))

pub groups_of_children : (v : Values) (b : Cube) → b.depth ≤ 15
    → groups_in v b
    ≡ cond (not (is_uniform v b)) 1 0 + sum_below (λ i. groups_in v (child_of b i)) 8
groups_of_children v b low =
    let level : 16 - b.depth ≡ suc (15 - b.depth) = omega arith in
    let whole : groups_in v b
    ≡ sum_by (λ q. cond {A = ℕ} (not (is_uniform v q)) 1 0) (blocks_below (suc (15 - b.depth)) b) =
    ap (λ n. count_by (λ q. not (is_uniform v q)) (blocks_below n b)) level in
    let split = sum_of_blocks (λ q. cond {A = ℕ} (not (is_uniform v q)) 1 0) (15 - b.depth) b in
    let each =
    same_eight
    (λ i. sum_by (λ q. cond {A = ℕ} (not (is_uniform v q)) 1 0)
    (blocks_below (15 - b.depth) (child_of b i)))
    (λ i. groups_in v (child_of b i))
    (λ i li. ap (λ n. count_by (λ q. not (is_uniform v q)) (blocks_below n (child_of b i)))
    (child_level i)) in
    let eight = sum_below_eight (λ i. groups_in v (child_of b i)) in
    omega (arith, whole, split, each, eight)
  where
    child_level : (i : ℕ) → 15 - b.depth ≡ 16 - (child_of b i).depth
    child_level i = (let deep = depth_child_of b i in omega (arith, deep))

-- a block of one value needs none
uniform_none : (v : Values) (h : ℕ) (b : Cube) → IsBlock b → b.depth + h ≡ 16
    → is_uniform v b ≡ true
    → sum_by (λ q. cond {A = ℕ} (not (is_uniform v q)) 1 0) (blocks_below h b) ≡ 0
uniform_none v zero b ok d one =
    sum_of_no_blocks (λ q. cond {A = ℕ} (not (is_uniform v q)) 1 0) b
uniform_none v (suc h) b ok d one =
    let all = sum_of_blocks (λ q. cond {A = ℕ} (not (is_uniform v q)) 1 0) h b in
    let here : cond {A = ℕ} (not (is_uniform v b)) 1 0 ≡ 0 =
    ap (λ (a : Bool). cond {A = ℕ} (not a) 1 0) one in
    let rest = none_of_eight
    (λ i. sum_by (λ q. cond {A = ℕ} (not (is_uniform v q)) 1 0) (blocks_below h (child_of b i)))
    (λ i li. uniform_none v h (child_of b i) (child_in_map b i ok (omega (arith, d)))
    (child_depths b h i d) (uniform_child v b i ok (omega (arith, d)) li one)) in
    omega (arith, all, here, rest)

pub groups_uniform : (v : Values) (b : Cube) → IsBlock b → is_uniform v b ≡ true
    → groups_in v b ≡ 0
groups_uniform v b ok one =
    uniform_none v (16 - b.depth) b ok (let top = ok.depth in omega (arith, top)) one

-- and one that needs none has one value
test_of : (a : Bool) → cond {A = ℕ} (not a) 1 0 ≡ 0 → a ≡ true
test_of true e = refl
test_of false e = absurd (omega (arith, e))

pub no_groups_uniform : (v : Values) (b : Cube) → IsBlock b → groups_in v b ≡ 0
    → is_uniform v b ≡ true
no_groups_uniform v b ok none = by_depth (nat_lt b.depth 16) refl
  where
    by_depth : (low : Bool) → nat_lt b.depth 16 ≡ low → is_uniform v b ≡ true
    by_depth true e =
        (let less : b.depth < 16 = ltb-true b.depth 16 e in
        let low : b.depth ≤ 15 = omega (arith, less) in
        let all = groups_of_children v b low in
        test_of (is_uniform v b) (omega (arith, all, none)))
    by_depth false e =
        (let high : 16 ≤ b.depth = ltb-false b.depth 16 e in
        let top = ok.depth in
        uniform_of v b (v (lowest_voxel b)) ok
        (λ k held. ap v (only_voxel b k (omega (arith, high, top)) held)))

-- a part of a sum
below_part : (f : ℕ → ℕ) (h j : ℕ) → j < h → f j ≤ sum_below f h
unfolding sum_below
below_part f zero j less = absurd (omega (arith, less))
below_part f (suc h) j less = elim (cases_lt j h) [
  | inl before ↦ (let part = below_part f h j before in omega (arith, part))
  | inr past ↦
      (let is : j ≡ h = omega (arith, past, less) in
      let same : f j ≡ f h = ap f is in
      omega (arith, same))
]

-- the groups of a block, by those of its children, and by whether their lowest voxels have one
-- value
pub own_group : (v : Values) (b : Cube) (sum all : ℕ) (even : Bool) (first : Value) → IsBlock b
    → b.depth ≤ 15 → first ≡ v (lowest_voxel (child_of b 0))
    → sum ≡ sum_below (λ j. groups_in v (child_of b j)) 8
    → (IsTrue even ↔ ((j : ℕ) → j < 8 → v (lowest_voxel (child_of b j)) ≡ first))
    → all ≡ sum + cond (nat_lt 0 sum || not even) 1 0
    → all ≡ groups_in v b
own_group v b sum all even first ok low start sums evens is =
    by_uniform (is_uniform v b) refl
  where
    low_held : (j : ℕ) → j < 8 → HoldsVoxel b (lowest_voxel (child_of b j))
    low_held j lj = held_by_parent b j (lowest_voxel (child_of b j)) (omega (arith, low)) lj
        (lowest_held (child_of b j))

    by_even : (test : Bool) → even ≡ test → is_uniform v b ≡ false → sum ≡ 0
        → cond {A = ℕ} (nat_lt 0 sum || not even) 1 0 ≡ 1
    by_even false e several none = rw (e, none) refl
    by_even true e several none = absurd (false≢true (sym several ∙ uniform_of v b first ok
        (λ k held. (let j = child_index_of b.depth k in
        let lj = child_index_below b.depth k in
        let part = below_part (λ j. groups_in v (child_of b j)) 8 j lj in
        let each : groups_in v (child_of b j) ≡ 0 = omega (arith, part, sums, none) in
        let inmap = child_in_map b j ok (omega (arith, low)) in
        value_of_uniform v (child_of b j) k inmap (no_groups_uniform v (child_of b j) inmap each)
        (held_by_child b k (omega (arith, low)) held)
        ∙ evens.0 e j lj))))

    by_some : (some : Bool) → nat_lt 0 sum ≡ some → is_uniform v b ≡ false
        → cond {A = ℕ} (nat_lt 0 sum || not even) 1 0 ≡ 1
    by_some true e several = ap (λ (a : Bool). cond {A = ℕ} (a || not even) 1 0) e
    by_some false e several =
        by_even even refl several (let none : sum ≤ 0 = ltb-false 0 sum e in omega (arith, none))

    by_uniform : (test : Bool) → is_uniform v b ≡ test → all ≡ groups_in v b
    by_uniform true one =
        (let none = groups_uniform v b ok one in
        let parts = groups_of_children v b low in
        let zeros : sum ≡ 0 = omega (arith, none, parts, sums) in
        let yes : even ≡ true = evens.1 (λ j lj.
        value_of_uniform v b (lowest_voxel (child_of b j)) ok one (low_held j lj)
        ∙ sym (value_of_uniform v b (lowest_voxel (child_of b 0)) ok one (low_held 0 (omega arith)))
        ∙ sym start) in
        let test : cond {A = ℕ} (nat_lt 0 sum || not even) 1 0 ≡ 0 = rw (zeros, yes) refl in
        omega (arith, is, zeros, test, none))
    by_uniform false several =
        (let one = by_some (nat_lt 0 sum) refl several in
        let here : cond {A = ℕ} (not (is_uniform v b)) 1 0 ≡ 1 =
        ap (λ (a : Bool). cond {A = ℕ} (not a) 1 0) several in
        let parts = groups_of_children v b low in
        omega (arith, is, one, here, parts, sums))

-- a part of a sum, and one number more
below_next : (f : ℕ → ℕ) (h i : ℕ) → i < h → sum_below f i + f i ≤ sum_below f h
unfolding sum_below
below_next f zero i less = absurd (omega (arith, less))
below_next f (suc h) i less = elim (cases_lt i h) [
  | inl before ↦ (let part = below_next f h i before in omega (arith, part))
  | inr past ↦
      (let is : i ≡ h = omega (arith, past, less) in
      let same : sum_below f i + f i ≡ sum_below f h + f h =
      ap (λ (n : ℕ). sum_below f n + f n) is in
      omega (arith, same))
]

-- there is room for a child, where there is for its block and for one group at each depth
pub child_room : (v : Values) (b : Cube) (deep had left i : ℕ) → b.depth ≤ 15 → i < 8
    → deep ≡ b.depth + 1 → groups_in v b + (16 - b.depth) ≤ had
    → had ≡ left + 1 + sum_below (λ j. groups_in v (child_of b j)) i
    → groups_in v (child_of b i) + (16 - deep) ≤ left
child_room v b deep had left i low li level room took =
    let all = groups_of_children v b low in
    let part = below_next (λ j. groups_in v (child_of b j)) 8 i li in
    omega (arith, level, room, took, all, part, low)

-- one child more has taken its groups
pub room_next : (f : ℕ → ℕ) (had left after more i : ℕ) → had ≡ left + 1 + sum_below f i
    → left ≡ after + more → more ≡ f i → had ≡ after + 1 + sum_below f (i + 1)
room_next f had left after more i took less is =
    let next = sum_below_next f i in
    omega (arith, took, less, is, next)

pub room_first : (f : ℕ → ℕ) (had left : ℕ) → left + 1 ≡ had → had ≡ left + 1 + sum_below f 0
room_first f had left took = (let none = sum_below_none f in omega (arith, took, none))

-- ---- bounds

power_next : (d : ℕ) → d ≤ 15 → 9 ^ (16 - d) ≡ 9 ^ (15 - d) * 9
power_next d low =
    let level : 16 - d ≡ suc (15 - d) = omega arith in
    ap (λ (h : ℕ). 9 ^ h) level ∙ pow-suc 9 (15 - d)

pub few_own : (d sum all : ℕ) (test : Bool) → d ≤ 15 → sum ≤ 8 * 9 ^ (15 - d)
    → all ≡ sum + cond test 1 0 → all ≤ 9 ^ (16 - d)
few_own d sum all test low few is =
    let next = power_next d low in
    let some : 1 ≤ 9 ^ (15 - d) =
    pow-le-pow_right {n = 9} (omega arith) {i = 0} {j = 15 - d} (omega arith) in
    let one = at_most test in
    omega (arith, next, some, few, is, one)
  where
    at_most : (a : Bool) → cond {A = ℕ} a 1 0 ≤ 1
    at_most true = omega arith
    at_most false = omega arith

pub few_down : (d c n : ℕ) → c ≡ d + 1 → n ≤ 9 ^ (16 - c) → n ≤ 9 ^ (15 - d)
few_down d c n is few =
    let level : 16 - c ≡ 15 - d = omega (arith, is) in
    let same : 9 ^ (16 - c) ≡ 9 ^ (15 - d) = ap (λ (h : ℕ). 9 ^ h) level in
    omega (arith, same, few)

pub few_next : (sum more i power : ℕ) → sum ≤ i * power → more ≤ power
    → sum + more ≤ (i + 1) * power
few_next sum more i power few less = omega (arith, few, less)

-- a sum of eight such counts, and one, fits 64 bits
pub few_fits : (d sum i : ℕ) → d ≤ 15 → i ≤ 8 → sum ≤ i * 9 ^ (15 - d)
    → sum + 1 < 18446744073709551616
few_fits d sum i low li few =
    let most : i * 9 ^ (15 - d) ≤ 8 * 9 ^ (15 - d) = mul-le-mul_right (9 ^ (15 - d)) li in
    let power : 9 ^ (15 - d) ≤ 9 ^ 15 =
    pow-le-pow_right {n = 9} (omega arith) {i = 15 - d} {j = 15} (omega arith) in
    omega (arith, most, power, few)

-- ---- one child after another

pub sum_start : (f : ℕ → ℕ) (n : ℕ) → n ≡ f 0 → n ≡ sum_below f 1
sum_start f n is =
    let none = sum_below_none f in
    let next = sum_below_next f 0 in
    omega (arith, is, none, next)

pub sum_more : (f : ℕ → ℕ) (sum more i : ℕ) → sum ≡ sum_below f i → more ≡ f i
    → sum + more ≡ sum_below f (i + 1)
sum_more f sum more i sums is = let next = sum_below_next f i in omega (arith, sums, is, next)

-- the first child has the block's lowest voxel
pub lowest_first : (b : Cube) → b.depth ≤ 15 → lowest_voxel (child_of b 0) ≡ lowest_voxel b
unfolding child_of
lowest_first b low =
    let level : 16 - b.depth ≡ suc (16 - (b.depth + 1)) = omega arith in
    let twice : 2 ^ (16 - b.depth) ≡ 2 ^ (16 - (b.depth + 1)) * 2 =
    ap (λ (h : ℕ). 2 ^ h) level ∙ pow-suc 2 (16 - (b.depth + 1)) in
    same_voxel (record {
      x = (2 * b.x + 0) * 2 ^ (16 - (b.depth + 1));
      y = (2 * b.y + 0) * 2 ^ (16 - (b.depth + 1));
      z = (2 * b.z + 0) * 2 ^ (16 - (b.depth + 1));
    }) (lowest_voxel b) (by b.x (2 ^ (16 - (b.depth + 1))) (2 ^ (16 - b.depth)) twice)
    (by b.y (2 ^ (16 - (b.depth + 1))) (2 ^ (16 - b.depth)) twice)
    (by b.z (2 ^ (16 - (b.depth + 1))) (2 ^ (16 - b.depth)) twice)
  where
    by : (n half whole : ℕ) → whole ≡ half * 2 → (2 * n + 0) * half ≡ n * whole
    by n half whole twice =
        (let out : (2 * n + 0) * half ≡ n * (half * 2) = omega arith in
        out ∙ ap (λ (w : ℕ). n * w) (sym twice))

pub first_even : (v : ℕ → Value) (first : Value) → first ≡ v 0
    → (IsTrue true ↔ ((j : ℕ) → j < 1 → v j ≡ first))
first_even v first is = (
  λ t j less. (let none : j ≡ 0 = omega (arith, less) in ap v none ∙ sym is),
  λ all. refl,
)

-- the values of one child more are compared
pub even_more : (v : ℕ → Value) (first value : Value) (i : ℕ) (even now : Bool)
    → (IsTrue even ↔ ((j : ℕ) → j < i → v j ≡ first)) → value ≡ v i
    → (IsTrue now ↔ (value ≡ first))
    → (IsTrue (even && now) ↔ ((j : ℕ) → j < i + 1 → v j ≡ first))
even_more v first value i true true before is here = (
  λ t j less. by_last j less,
  λ all. refl,
)
  where
    by_last : (j : ℕ) → j < i + 1 → v j ≡ first
    by_last j less = elim (cases_eq j i) [
      | inl same ↦ ap v same ∙ sym is ∙ here.0 refl
      | inr other ↦ before.0 refl j (omega (arith, less, other))
    ]
even_more v first value i false now before is here = (
  λ t. absurd (false≢true t),
  λ all. absurd (false≢true (before.1 (λ j less. all j (omega (arith, less))))),
)
even_more v first value i true false before is here = (
  λ t. absurd (false≢true t),
  λ all. absurd (false≢true (here.1 (is ∙ all i (omega arith)))),
)
