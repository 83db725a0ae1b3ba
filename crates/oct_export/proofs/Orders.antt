-- The boxes stand in the order of the Morton codes of their lowest voxels.
use Rattle.std.proofs.Common.{◌≡◌, ℕ, zero, suc, ◌+◌, ◌<◌, ◌≤◌, Bool, true}
use Rattle.std.proofs.Common.{false, List, [], ◌∷◌, ◌++◌, refl, sym, subst, arith}
use Rattle.std.specs.List.{AllPairs, AllByRecursion}
use Rattle.std.proofs.lemmas.List.Elements.{All-from_recursion}
use Rattle.std.proofs.lemmas.List.Kept.{AllPairs-cons}
use Rattle.oct_key.specs.Block.{Cube, IsBlock, HoldsVoxel, child_of, lowest_voxel, root_block}
use Rattle.oct_key.specs.Morton.{morton_of}
use Rattle.oct_key.proofs.Blocks.{child_in_map, depth_child_of}
use Rattle.oct_key.proofs.Blocks.{lowest_held, root_in_map}
use Rattle.oct_key.proofs.ChildCodes.{below_by_child}
use Rattle.oct_key.proofs.Held.{held_by_parent}
use Rattle.oct_values.specs.Classes.{Classes}
use Rattle.oct_export.specs.Boxes.{is_full, boxes_of, boxes_below}
use Rattle.oct_export.proofs.Boxes.{first_boxes, boxes_of_full, boxes_of_parts, boxes_of_root}

-- ---- lists of boxes

-- the lowest voxel of the first has the smaller code
abbrev pub IsBelow : Cube → Cube → Type 0
IsBelow a b = morton_of (lowest_voxel a) < morton_of (lowest_voxel b)

-- each is below all after it
abbrev Rises : List Cube → Type 0
Rises [] = Unit {0}
Rises (a ∷ more) = AllByRecursion (IsBelow a) more × Rises more

all_append : (P : Cube → Type 0) (xs ys : List Cube) → AllByRecursion P xs → AllByRecursion P ys
    → AllByRecursion P (xs ++ ys)
all_append P [] ys p q = q
all_append P (x ∷ xs) ys (p, more) q = (p, all_append P xs ys more q)

all_mapped : (P Q : Cube → Type 0) (xs : List Cube) → ((x : Cube) → P x → Q x) → AllByRecursion P xs
    → AllByRecursion Q xs
all_mapped P Q [] f p = tt
all_mapped P Q (x ∷ xs) f (p, more) = (f x p, all_mapped P Q xs f more)

rises_append : (xs ys : List Cube) → Rises xs → Rises ys
    → AllByRecursion (λ x. AllByRecursion (IsBelow x) ys) xs → Rises (xs ++ ys)
rises_append [] ys p q below = q
rises_append (x ∷ xs) ys (p, more) q (here, later) =
    (all_append (IsBelow x) xs ys p here, rises_append xs ys more q later)

pairs : (xs : List Cube) → Rises xs → AllPairs IsBelow xs
pairs [] r = λ i j d less short. absurd (omega arith)
pairs (x ∷ xs) (p, more) = AllPairs-cons IsBelow x xs (All-from_recursion (IsBelow x) xs p)
    (pairs xs more)

-- a box has its lowest voxel in a block
abbrev StartsIn : Cube → Cube → Type 0
StartsIn b a = HoldsVoxel b (lowest_voxel a)

-- or in one of the first n children of it
abbrev StartsInFirst : Cube → ℕ → Cube → Type 0
StartsInFirst b n a = (i : ℕ) × (i < n) × HoldsVoxel (child_of b i) (lowest_voxel a)

-- the boxes of the first n children
first_start : (c : Classes) (h : ℕ) (b : Cube)
    → ((i : ℕ) → i < 8 → AllByRecursion (StartsIn (child_of b i)) (boxes_below c h (child_of b i)))
    → (n : ℕ) → n ≤ 8 → AllByRecursion (StartsInFirst b n) (first_boxes c h b n)
unfolding first_boxes
first_start c h b each zero l = tt
first_start c h b each (suc n) l =
    all_append (StartsInFirst b (suc n)) (first_boxes c h b n) (boxes_below c h (child_of b n))
    (all_mapped (StartsInFirst b n) (StartsInFirst b (suc n)) (first_boxes c h b n)
    (λ a (i, less, held). (i, omega (arith, less), held))
    (first_start c h b each n (omega (arith, l))))
    (all_mapped (StartsIn (child_of b n)) (StartsInFirst b (suc n)) (boxes_below c h (child_of b n))
    (λ a held. (n, omega arith, held)) (each n (omega (arith, l))))

first_rise : (c : Classes) (h : ℕ) (b : Cube) → IsBlock b → b.depth < 16
    → ((i : ℕ) → i < 8 → AllByRecursion (StartsIn (child_of b i)) (boxes_below c h (child_of b i)))
    → ((i : ℕ) → i < 8 → Rises (boxes_below c h (child_of b i)))
    → (n : ℕ) → n ≤ 8 → Rises (first_boxes c h b n)
unfolding first_boxes
first_rise c h b ok low start each zero l = tt
first_rise c h b ok low start each (suc n) l =
    rises_append (first_boxes c h b n) (boxes_below c h (child_of b n))
    (first_rise c h b ok low start each n (omega (arith, l))) (each n (omega (arith, l)))
    (all_mapped (StartsInFirst b n)
    (λ x. AllByRecursion (IsBelow x) (boxes_below c h (child_of b n))) (first_boxes c h b n)
    (λ a (i, less, held). all_mapped (StartsIn (child_of b n)) (IsBelow a)
    (boxes_below c h (child_of b n))
    (λ e there. below_by_child b i n (lowest_voxel a)
    (lowest_voxel e) ok low (omega (arith, less, l)) (omega (arith, l)) less held there)
    (start n (omega (arith, l))))
    (first_start c h b start n (omega (arith, l))))

-- the boxes of a block start in it, and rise
pub record IsInOrder (c : Classes) (h : ℕ) (b : Cube) : Type 0 where
  pub start : AllByRecursion (λ a. HoldsVoxel b (lowest_voxel a)) (boxes_below c h b)
  pub rise : Rises (boxes_below c h b)

one_in_order : (c : Classes) (h : ℕ) (b : Cube) → is_full c b ≡ true → IsInOrder c h b
one_in_order c h b full = record {
  start = subst (λ l. AllByRecursion (StartsIn b) l) (sym (boxes_of_full c h b full))
      (lowest_held b, tt);
  rise = subst (λ l. Rises l) (sym (boxes_of_full c h b full)) (tt, tt);
}

parts_in_order : (c : Classes) (h : ℕ) (b : Cube) → IsBlock b → b.depth < 16 → is_full c b ≡ false
    → ((i : ℕ) → i < 8 → IsInOrder c h (child_of b i))
    → IsInOrder c (suc h) b
parts_in_order c h b ok low part each = record {
  start = subst (λ l. AllByRecursion (StartsIn b) l) (sym (boxes_of_parts c h b part))
      (all_mapped (StartsInFirst b 8) (StartsIn b) (first_boxes c h b 8)
      (λ a (i, less, held). held_by_parent b i (lowest_voxel a) low less held)
      (first_start c h b (λ i li. (each i li).start) 8 (omega arith)));
  rise = subst (λ l. Rises l) (sym (boxes_of_parts c h b part))
      (first_rise c h b ok low (λ i li. (each i li).start)
      (λ i li. (each i li).rise) 8 (omega arith));
}

none_in_order : (c : Classes) (b : Cube) → is_full c b ≡ false → IsInOrder c 0 b
unfolding boxes_below
none_in_order c b part = record { start = rw part tt; rise = rw part tt }

in_order : (c : Classes) (h : ℕ) (b : Cube) → IsBlock b → b.depth + h ≡ 16 → IsInOrder c h b
in_order c zero b ok d = by (is_full c b) refl
  where
    by : (t : Bool) → is_full c b ≡ t → IsInOrder c 0 b
    by true is = one_in_order c 0 b is
    by false is = none_in_order c b is
in_order c (suc h) b ok d =
    by (λ i li. (let down = depth_child_of b i in
    in_order c h (child_of b i) (child_in_map b i ok (omega (arith, d))) (omega (arith, d, down))))
    (is_full c b) refl
  where
    by : ((i : ℕ) → i < 8 → IsInOrder c h (child_of b i)) → (t : Bool) → is_full c b ≡ t
        → IsInOrder c (suc h) b
    by each true is = one_in_order c (suc h) b is
    by each false is = parts_in_order c h b ok (omega (arith, d)) is each

pub boxes_rise : (c : Classes)
    → AllPairs (λ a b. morton_of (lowest_voxel a) < morton_of (lowest_voxel b)) (boxes_of c)
boxes_rise c =
    pairs (boxes_of c)
    (subst (λ l. Rises l) (sym (boxes_of_root c)) (in_order c 16 root_block root_in_map refl).rise)
