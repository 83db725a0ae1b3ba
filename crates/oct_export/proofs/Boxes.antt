-- The boxes of a block, and those of its children.
use Rattle.std.proofs.Common.{◌≡◌, ℕ, zero, suc, ◌+◌, ◌-◌, ◌*◌, ◌^◌, ◌<◌, ◌≤◌, Bool, true, false}
use Rattle.std.proofs.Common.{cond, List, [], ◌∷◌, ◌++◌, length, inl, inr, refl, sym, subst, ◌∙◌}
use Rattle.std.proofs.Common.{ap, arith, append_assoc, append-nil, length-append}
use Rattle.std.specs.Prelude.{◌⊎◌, ◌&&◌, ◌||◌, not, nat_eq}
use Rattle.std.specs.List.{filter, flat_map}
use Rattle.std.proofs.Math.Nat.{pow-suc, one-le-pow}
use Rattle.std.proofs.lemmas.Bool.{false≢true, cases_lt, eq-eqb, ne_eqb, and_parts}
use Rattle.std.proofs.lemmas.List.Elements.{filter-append}
use Rattle.oct_key.specs.Voxel.{Voxel}
use Rattle.oct_key.specs.Block.{Cube, IsBlock, HoldsVoxel, child_of, child_index_of, parent_of}
use Rattle.oct_key.specs.Block.{lowest_voxel, root_block}
use Rattle.oct_key.proofs.Blocks.{child_in_map, child_index_below, depth_child_of, lowest_held}
use Rattle.oct_key.proofs.Blocks.{parent_of_child, root_in_map}
use Rattle.oct_key.proofs.Held.{held_by_parent, held_by_child}
use Rattle.oct_odds.specs.declared.event.Class.{Class}
use Rattle.oct_odds.specs.declared.event.Class.TheVariants.{Occupied}
use Rattle.oct_values.specs.Blocks.{child_numbers, blocks_below}
use Rattle.oct_values.specs.Classes.{Classes, is_same_class}
use Rattle.oct_values.proofs.Alike.{is_same_class_exact}
use Rattle.oct_values.proofs.Held.{all_pass, each_passes}
use Rattle.oct_export.specs.Boxes.{is_full, is_box_of, boxes_of, boxes_below, boxes_in}
use Rattle.oct_export.specs.Boxes.{children_before}

-- ---- full blocks

pub full_each : (c : Classes) (b : Cube) (k : Voxel) → IsBlock b → is_full c b ≡ true
    → HoldsVoxel b k → c k ≡ Occupied
unfolding is_full
full_each c b k ok full held =
    is_same_class_exact (c k) Occupied
    (each_passes (λ k. is_same_class (c k) Occupied) b ok full k held)

pub full_all : (c : Classes) (b : Cube) → IsBlock b
    → ((k : Voxel) → HoldsVoxel b k → c k ≡ Occupied) → is_full c b ≡ true
unfolding is_full
full_all c b ok h =
    all_pass (λ k. is_same_class (c k) Occupied) b ok (λ k held. ap (λ x. is_same_class x Occupied)
    (h k held))

pub full_child : (c : Classes) (b : Cube) (i : ℕ) → IsBlock b → b.depth < 16 → i < 8
    → is_full c b ≡ true → is_full c (child_of b i) ≡ true
full_child c b i ok low li full =
    full_all c (child_of b i) (child_in_map b i ok low)
    (λ k held. full_each c b k ok full (held_by_parent b i k low li held))

full_children : (c : Classes) (b : Cube) → IsBlock b → b.depth < 16
    → ((i : ℕ) → i < 8 → is_full c (child_of b i) ≡ true) → is_full c b ≡ true
full_children c b ok low h =
    full_all c b ok
    (λ k held. full_each c (child_of b (child_index_of b.depth k)) k
    (child_in_map b (child_index_of b.depth k) ok low)
    (h (child_index_of b.depth k) (child_index_below b.depth k)) (held_by_child b k low held))

-- whether the first n children are full
unfoldable pub first_full : Classes → Cube → ℕ → Bool
first_full c b zero = true
first_full c b (suc i) = first_full c b i && is_full c (child_of b i)

first_each : (c : Classes) (b : Cube) (n i : ℕ) → first_full c b n ≡ true → i < n
    → is_full c (child_of b i) ≡ true
unfolding first_full
first_each c b zero i h l = absurd (omega arith)
first_each c b (suc n) i h l =
    let (before, here) = and_parts (first_full c b n) (is_full c (child_of b n)) h in
    elim (cases_lt i n) [
      | inl less ↦ first_each c b n i before less
      | inr last ↦ (let same : n ≡ i = omega (arith, l, last) in
          subst (λ (m : ℕ). is_full c (child_of b m) ≡ true) same here)
    ]

first_all : (c : Classes) (b : Cube) (n : ℕ) → ((i : ℕ) → i < n → is_full c (child_of b i) ≡ true)
    → first_full c b n ≡ true
unfolding first_full
first_all c b zero h = refl
first_all c b (suc n) h =
    ap (λ t. t && is_full c (child_of b n)) (first_all c b n (λ i l. h i (omega (arith, l))))
    ∙ h n (omega arith)

pub first_next : (c : Classes) (b : Cube) (i : ℕ) → first_full c b (i + 1)
    ≡ (first_full c b i && is_full c (child_of b i))
unfolding first_full
first_next c b i = (let e : i + 1 ≡ suc i = omega arith in ap (first_full c b) e)

pub first_whole : (c : Classes) (b : Cube) → IsBlock b → b.depth < 16 → first_full c b 8
    ≡ is_full c b
first_whole c b ok low = by (first_full c b 8) (is_full c b) refl refl
  where
    by : (p q : Bool) → first_full c b 8 ≡ p → is_full c b ≡ q → first_full c b 8 ≡ is_full c b
    by true q is_p is_q = is_p ∙ sym (full_children c b ok low (λ i li. first_each c b 8 i is_p li))
    by false false is_p is_q = is_p ∙ sym is_q
    by false true is_p is_q =
        absurd (false≢true (sym is_p ∙ first_all c b 8 (λ i li. full_child c b i ok low li is_q)))

-- ---- the boxes of children

-- those of the first n children
unfoldable pub first_boxes : Classes → ℕ → Cube → ℕ → List Cube
first_boxes c h b zero = []
first_boxes c h b (suc i) = first_boxes c h b i ++ boxes_below c h (child_of b i)

pub boxes_next : (c : Classes) (h : ℕ) (b : Cube) (i : ℕ) → first_boxes c h b (i + 1)
    ≡ first_boxes c h b i ++ boxes_below c h (child_of b i)
unfolding first_boxes
boxes_next c h b i = (let e : i + 1 ≡ suc i = omega arith in ap (first_boxes c h b) e)

all_lists : {A : Type 0} (f : ℕ → List A) → flat_map f child_numbers
    ≡ (((((((([] ++ f 0) ++ f 1) ++ f 2) ++ f 3) ++ f 4) ++ f 5) ++ f 6) ++ f 7)
all_lists f =
    sym (append_assoc (f 0) (f 1) (f 2 ++ (f 3 ++ (f 4 ++ (f 5 ++ (f 6 ++ (f 7 ++ [])))))))
    ∙ sym (append_assoc (f 0 ++ f 1) (f 2) (f 3 ++ (f 4 ++ (f 5 ++ (f 6 ++ (f 7 ++ []))))))
    ∙ sym (append_assoc ((f 0 ++ f 1) ++ f 2) (f 3) (f 4 ++ (f 5 ++ (f 6 ++ (f 7 ++ [])))))
    ∙ sym (append_assoc (((f 0 ++ f 1) ++ f 2) ++ f 3) (f 4) (f 5 ++ (f 6 ++ (f 7 ++ []))))
    ∙ sym (append_assoc ((((f 0 ++ f 1) ++ f 2) ++ f 3) ++ f 4) (f 5) (f 6 ++ (f 7 ++ [])))
    ∙ sym (append_assoc (((((f 0 ++ f 1) ++ f 2) ++ f 3) ++ f 4) ++ f 5) (f 6) (f 7 ++ []))
    ∙ sym (append_assoc ((((((f 0 ++ f 1) ++ f 2) ++ f 3) ++ f 4) ++ f 5) ++ f 6) (f 7) [])
    ∙ append-nil (((((((f 0 ++ f 1) ++ f 2) ++ f 3) ++ f 4) ++ f 5) ++ f 6) ++ f 7)

all_boxes : (c : Classes) (h : ℕ) (b : Cube)
    → flat_map (λ i. boxes_below c h (child_of b i)) child_numbers ≡ first_boxes c h b 8
unfolding first_boxes
all_boxes c h b = all_lists (λ i. boxes_below c h (child_of b i))

pub boxes_of_full : (c : Classes) (h : ℕ) (b : Cube) → is_full c b ≡ true → boxes_below c h b
    ≡ b ∷ []
unfolding boxes_below
boxes_of_full c zero b full = rw full refl
boxes_of_full c (suc h) b full = rw full refl

pub boxes_of_parts : (c : Classes) (h : ℕ) (b : Cube) → is_full c b ≡ false
    → boxes_below c (suc h) b ≡ first_boxes c h b 8
unfolding boxes_below
boxes_of_parts c h b full = rw full (all_boxes c h b)

pub first_of_full : (c : Classes) (h : ℕ) (b : Cube) (n : ℕ) → first_full c b n ≡ true
    → first_boxes c h b n ≡ children_before b n
unfolding first_boxes children_before first_full
first_of_full c h b zero full = refl
first_of_full c h b (suc n) full =
    let (before, here) = and_parts (first_full c b n) (is_full c (child_of b n)) full in
    ap (λ l. l ++ boxes_below c h (child_of b n)) (first_of_full c h b n before)
    ∙ ap (λ l. children_before b n ++ l) (boxes_of_full c h (child_of b n) here)

-- a block with no occupied voxel has no box
not_full : (c : Classes) (b : Cube) (k : Voxel) → IsBlock b → HoldsVoxel b k → (c k ≡ Occupied → ⊥)
    → is_full c b ≡ false
not_full c b k ok held other = by (is_full c b) refl
  where
    by : (t : Bool) → is_full c b ≡ t → is_full c b ≡ false
    by true is = absurd (other (full_each c b k ok is held))
    by false is = is

no_first : (c : Classes) (h : ℕ) (b : Cube)
    → ((n : ℕ) → n < 8 → boxes_below c h (child_of b n) ≡ []) → (n : ℕ) → n ≤ 8
    → first_boxes c h b n ≡ []
unfolding first_boxes
no_first c h b none zero l = refl
no_first c h b none (suc n) l =
    ap (λ t. t ++ boxes_below c h (child_of b n)) (no_first c h b none n (omega (arith, l)))
    ∙ none n (omega (arith, l))

boxes_of_none : (c : Classes) (h : ℕ) (b : Cube) → IsBlock b → b.depth + h ≡ 16
    → ((k : Voxel) → HoldsVoxel b k → c k ≡ Occupied → ⊥)
    → boxes_below c h b ≡ []
unfolding boxes_below
boxes_of_none c zero b ok d none =
    (let bare = not_full c b (lowest_voxel b) ok (lowest_held b)
    (none (lowest_voxel b) (lowest_held b)) in rw bare refl)
boxes_of_none c (suc h) b ok d none =
    let bare = not_full c b (lowest_voxel b) ok (lowest_held b)
    (none (lowest_voxel b) (lowest_held b)) in
    boxes_of_parts c h b bare ∙ no_first c h b (λ n l. (let deep = depth_child_of b n in
    boxes_of_none c h (child_of b n) (child_in_map b n ok (omega (arith, d)))
    (omega (arith, d, deep))
    (λ k held. none k (held_by_parent b n k (omega (arith, d)) l held)))) 8 (omega arith)

-- a block whose voxels are all of one class
pub leaf_full : (c : Classes) (b : Cube) (class : Class) (t : Bool) → IsBlock b
    → ((k : Voxel) → HoldsVoxel b k → c k ≡ class)
    → (t ≡ true → class ≡ Occupied) → (class ≡ Occupied → t ≡ true) → t ≡ is_full c b
leaf_full c b class true ok all to from = sym (full_all c b ok (λ k held. all k held ∙ to refl))
leaf_full c b class false ok all to from =
    sym (not_full c b (lowest_voxel b) ok (lowest_held b)
    (λ is. false≢true (from (sym (all (lowest_voxel b) (lowest_held b)) ∙ is))))

pub leaf_boxes : (c : Classes) (b : Cube) (class : Class) (t : Bool) → IsBlock b
    → ((k : Voxel) → HoldsVoxel b k → c k ≡ class)
    → (t ≡ true → class ≡ Occupied) → (class ≡ Occupied → t ≡ true)
    → boxes_in c b ≡ cond t (b ∷ []) []
leaf_boxes c b class true ok all to from =
    boxes_of_full c (16 - b.depth) b (sym (leaf_full c b class true ok all to from))
leaf_boxes c b class false ok all to from =
    boxes_of_none c (16 - b.depth) b ok (let l = ok.depth in omega (arith, l))
    (λ k held is. false≢true (from (sym (all k held) ∙ is)))

-- ---- how many there are

mutual_few : (c : Classes) (h : ℕ) → ((b : Cube) → length (boxes_below c h b) ≤ 8 ^ h)
    → (b : Cube) (n : ℕ) → length (first_boxes c h b n) ≤ n * 8 ^ h
unfolding first_boxes
mutual_few c h few b zero = omega arith
mutual_few c h few b (suc n) =
    let before = mutual_few c h few b n in
    let here = few (child_of b n) in
    let long = length-append (first_boxes c h b n) (boxes_below c h (child_of b n)) in
    omega (arith, before, here, long)

pub boxes_few : (c : Classes) (h : ℕ) (b : Cube) → length (boxes_below c h b) ≤ 8 ^ h
unfolding boxes_below
boxes_few c zero b = by (is_full c b)
  where
    by : (t : Bool) → length (cond t (b ∷ []) []) ≤ 1
    by true = omega arith
    by false = omega arith
boxes_few c (suc h) b = by (mutual_few c h (λ b. boxes_few c h b) b 8) (is_full c b) refl
  where
    by : length (first_boxes c h b 8) ≤ 8 * 8 ^ h → (t : Bool) → is_full c b ≡ t
        → length (boxes_below c (suc h) b) ≤ 8 ^ suc h
    by few true is =
        (let one = ap length (boxes_of_full c (suc h) b is) in let some = one-le-pow (suc h) 8
        (omega arith) in
        omega (arith, one, some))
    by few false is =
        (let parts = ap length (boxes_of_parts c h b is) in let power = pow-suc 8 h in
        omega (arith, parts, few, power))

pub first_few : (c : Classes) (h : ℕ) (b : Cube) (n : ℕ) → length (first_boxes c h b n) ≤ n * 8 ^ h
first_few c h b n = mutual_few c h (λ b. boxes_few c h b) b n

-- ---- the boxes of the whole map

-- each number of a list is a child's
abbrev AreChildren : List ℕ → Type 0
AreChildren [] = Unit {0}
AreChildren (i ∷ more) = (i < 8) × AreChildren more

all_children : AreChildren child_numbers
all_children = (
  omega arith,
  (
    omega arith,
    (omega arith, (omega arith, (omega arith, (omega arith, (omega arith, (omega arith, tt)))))),
  ),
)

filter_flat : {A : Type 0} (p : A → Bool) (f g : ℕ → List A) (xs : List ℕ) → AreChildren xs
    → ((i : ℕ) → i < 8 → filter p (f i) ≡ g i)
    → filter p (flat_map f xs) ≡ flat_map g xs
filter_flat p f g [] are h = refl
filter_flat p f g (i ∷ more) (here, later) h =
    filter-append p (f i) (flat_map f more) ∙ ap (λ l. l ++ filter p (flat_map f more)) (h i here)
    ∙ ap (λ l. g i ++ l) (filter_flat p f g more later h)

filter_first : {A : Type 0} (p : A → Bool) (x : A) (xs : List A) → p x ≡ false → filter p (x ∷ xs)
    ≡ filter p xs
filter_first p x xs h = rw h refl

filter_keeps : {A : Type 0} (p : A → Bool) (x : A) (xs : List A) → p x ≡ true → filter p (x ∷ xs)
    ≡ x ∷ filter p xs
filter_keeps p x xs h = rw h refl

-- no box lies in a child of a full block
no_box : (c : Classes) (b : Cube) → (b.depth ≡ 0 → ⊥) → is_full c (parent_of b) ≡ true
    → is_box_of c b ≡ false
unfolding is_box_of
no_box c b deep full = by (is_full c b) (nat_eq b.depth 0) (ne_eqb b.depth 0 deep)
  where
    by : (t z : Bool) → z ≡ false → (t && (z || not (is_full c (parent_of b)))) ≡ false
    by true z none = rw (none, full) refl
    by false z none = refl

none_within : (c : Classes) (h : ℕ) (b : Cube) → IsBlock b → b.depth + h ≡ 16 → (b.depth ≡ 0 → ⊥)
    → is_full c (parent_of b) ≡ true → is_full c b ≡ true
    → filter (is_box_of c) (blocks_below (suc h) b) ≡ []
unfolding blocks_below
none_within c zero b ok d deep above full =
    filter_first (is_box_of c) b (flat_map (λ i. blocks_below 0 (child_of b i)) child_numbers)
    (no_box c b deep above)
    ∙ filter_flat (is_box_of c) (λ i. blocks_below 0 (child_of b i))
    (λ i. []) child_numbers all_children (λ i li. refl)
none_within c (suc h) b ok d deep above full =
    filter_first (is_box_of c) b (flat_map (λ i. blocks_below (suc h) (child_of b i)) child_numbers)
    (no_box c b deep above)
    ∙ filter_flat (is_box_of c) (λ i. blocks_below (suc h) (child_of b i))
    (λ i. []) child_numbers all_children
    (λ i li. (let down = depth_child_of b i in
    none_within c h (child_of b i) (child_in_map b i ok (omega (arith, d))) (omega (arith, d, down))
    (λ none. (omega (arith, none, down)))
    (ap (is_full c) (parent_of_child b i) ∙ full) (full_child c b i ok (omega (arith, d)) li full)))

-- a full block that isn't in a full one is a box, and one that isn't full is none
top_box : (c : Classes) (b : Cube) → is_full c b ≡ true
    → (b.depth ≡ 0) ⊎ (is_full c (parent_of b) ≡ false) → is_box_of c b ≡ true
unfolding is_box_of
top_box c b full (inl top) = (let z = eq-eqb b.depth 0 top in rw (full, z) refl)
top_box c b full (inr bare) = rw (full, bare) (by (nat_eq b.depth 0))
  where
    by : (z : Bool) → (z || true) ≡ true
    by true = refl
    by false = refl

open_box : (c : Classes) (b : Cube) → is_full c b ≡ false → is_box_of c b ≡ false
unfolding is_box_of
open_box c b bare = rw bare refl

boxes_listed : (c : Classes) (h : ℕ) (b : Cube) → IsBlock b → b.depth + h ≡ 16
    → (b.depth ≡ 0) ⊎ (is_full c (parent_of b) ≡ false)
    → filter (is_box_of c) (blocks_below (suc h) b) ≡ boxes_below c h b
unfolding blocks_below boxes_below is_box_of
boxes_listed c zero b ok d top = by (is_full c b) refl
  where
    rest : filter (is_box_of c) (flat_map (λ i. blocks_below 0 (child_of b i)) child_numbers) ≡ []
    rest = filter_flat (is_box_of c) (λ i. blocks_below 0 (child_of b i))
        (λ i. []) child_numbers all_children (λ i li. refl)

    by : (t : Bool) → is_full c b ≡ t → filter (is_box_of c) (blocks_below 1 b) ≡ boxes_below c 0 b
    by true is =
        filter_keeps (is_box_of c) b (flat_map (λ i. blocks_below 0 (child_of b i)) child_numbers)
        (top_box c b is top)
        ∙ ap (λ l. b ∷ l) rest ∙ sym (boxes_of_full c 0 b is)
    by false is =
        filter_first (is_box_of c) b (flat_map (λ i. blocks_below 0 (child_of b i)) child_numbers)
        (open_box c b is) ∙ rest ∙ rw is refl
boxes_listed c (suc h) b ok d top = by (λ i li part. (let down = depth_child_of b i in
    boxes_listed c h (child_of b i) (child_in_map b i ok (omega (arith, d)))
    (omega (arith, d, down)) (inr (ap (is_full c) (parent_of_child b i) ∙ part))))
    (is_full c b) refl
  where
    by : ((i : ℕ) → i < 8 → is_full c b ≡ false
        → filter (is_box_of c) (blocks_below (suc h) (child_of b i))
        ≡ boxes_below c h (child_of b i))
        → (t : Bool) → is_full c b ≡ t → filter (is_box_of c) (blocks_below (suc (suc h)) b)
        ≡ boxes_below c (suc h) b
    by each true is =
        filter_keeps (is_box_of c) b
        (flat_map (λ i. blocks_below (suc h) (child_of b i)) child_numbers) (top_box c b is top)
        ∙ ap (λ l. b ∷ l)
        (filter_flat (is_box_of c) (λ i. blocks_below (suc h) (child_of b i))
        (λ i. []) child_numbers all_children
        (λ i li. (let down = depth_child_of b i in
        none_within c h (child_of b i) (child_in_map b i ok (omega (arith, d)))
        (omega (arith, d, down)) (λ none. (omega (arith, none, down)))
        (ap (is_full c) (parent_of_child b i) ∙ is)
        (full_child c b i ok (omega (arith, d)) li is))))
        ∙ sym (boxes_of_full c (suc h) b is)
    by each false is =
        filter_first (is_box_of c) b
        (flat_map (λ i. blocks_below (suc h) (child_of b i)) child_numbers) (open_box c b is)
        ∙ filter_flat (is_box_of c) (λ i. blocks_below (suc h) (child_of b i))
        (λ i. boxes_below c h (child_of b i)) child_numbers all_children
        (λ i li. each i li is)
        ∙ rw is refl

-- the boxes of the map are those of its block
pub boxes_of_root : (c : Classes) → boxes_of c ≡ boxes_below c 16 root_block
unfolding boxes_of
boxes_of_root c = boxes_listed c 16 root_block root_in_map refl (inl refl)
