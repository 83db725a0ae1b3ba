-- The list of a block's voxels has each voxel that it holds, once, and no other.
use Rattle.std.proofs.Common.{◌≡◌, ℕ, zero, suc, ◌+◌, ◌-◌, ◌<◌, ◌↔◌, Bool, true, false, cond, []}
use Rattle.std.proofs.Common.{get_or, refl, sym, subst, ◌∙◌, ap, arith}
use Rattle.std.specs.Prelude.{count_by}
use Rattle.std.specs.List.{All, Contains, list_all, list_any}
use Rattle.std.proofs.lemmas.List.Sums.{AllPass-from_list_all, list_all-from_AllPass}
use Rattle.std.proofs.lemmas.List.Folds.{Any-from_list_any, list_any-from_Any}
use Rattle.std.proofs.lemmas.List.Elements.{All-contains, All-cons, All-nil}
use Rattle.oct_key.specs.Voxel.{Voxel}
use Rattle.oct_key.specs.Values.{is_same_voxel}
use Rattle.oct_key.specs.Block.{Cube, IsBlock, HoldsVoxel, child_of, child_index_of, lowest_voxel}
use Rattle.oct_key.proofs.Blocks.{child_index_below, lowest_held, child_holds}
use Rattle.oct_key.proofs.Held.{only_voxel, child_depths, held_by_parent, held_by_child}
use Rattle.oct_key.proofs.Held.{depths_above}
use Rattle.oct_key.proofs.SameVoxels.{is_same_voxel_exact, is_same_voxel_refl}
use Rattle.oct_values.specs.Blocks.{child_numbers, voxels_below, voxels_of}
use Rattle.oct_values.proofs.Eights.{sum_by-flat_map, one_of_eight, none_of_eight, all_eight}
use Rattle.oct_values.proofs.Eights.{number_of_eight, All-flat_map, Contains-flat_map}

-- the listed voxels are voxels of the block
voxels_held : (h : ℕ) (b : Cube) → b.depth + h ≡ 16 → All (HoldsVoxel b) (voxels_below h b)
unfolding voxels_below
voxels_held zero b d =
    All-cons (HoldsVoxel b) (lowest_voxel b) [] (lowest_held b) (All-nil (HoldsVoxel b))
voxels_held (suc h) b d =
    All-flat_map (HoldsVoxel b) (λ i. voxels_below h (child_of b i)) child_numbers
    (all_eight (λ i. All (HoldsVoxel b) (voxels_below h (child_of b i))) (λ i li.
    (let low : b.depth < 16 = omega arith in
    let each = voxels_held h (child_of b i) (child_depths b h i d) in
    λ n k l. held_by_parent b i (get_or (voxels_below h (child_of b i)) n k) low li (each n k l))))

-- the voxels of a block are listed
voxels_listed : (h : ℕ) (b : Cube) (k : Voxel) → b.depth + h ≡ 16 → HoldsVoxel b k
    → Contains (voxels_below h b) k
unfolding voxels_below
voxels_listed zero b k d held = (0, omega arith, sym (only_voxel b k (omega arith) held))
voxels_listed (suc h) b k d held =
    let low : b.depth < 16 = omega arith in
    let i : ℕ = child_index_of b.depth k in
    Contains-flat_map (λ i. voxels_below h (child_of b i)) child_numbers (child_index_of b.depth k)
    k
    (number_of_eight (child_index_of b.depth k) (child_index_below b.depth k))
    (voxels_listed h (child_of b (child_index_of b.depth k)) k
    (child_depths b h (child_index_of b.depth k) d) (held_by_child b k low held))

-- a voxel that the block doesn't hold isn't counted
voxels_none : (h : ℕ) (b : Cube) (k : Voxel) → b.depth + h ≡ 16 → (HoldsVoxel b k → ⊥)
    → count_by (is_same_voxel k) (voxels_below h b) ≡ 0
unfolding voxels_below
voxels_none zero b k d out = not_same (is_same_voxel k (lowest_voxel b)) refl
  where
    not_same : (same : Bool) → is_same_voxel k (lowest_voxel b) ≡ same
        → ◌≡◌ {A = ℕ} (0 + cond (is_same_voxel k (lowest_voxel b)) 1 0) 0
    not_same true e =
        absurd (out (subst (HoldsVoxel b) (sym (is_same_voxel_exact k (lowest_voxel b) e))
        (lowest_held b)))
    not_same false e = rw e refl
voxels_none (suc h) b k d out =
    let low : b.depth < 16 = omega arith in
    sum_by-flat_map (λ q. cond (is_same_voxel k q) 1 0) (λ i. voxels_below h (child_of b i))
    child_numbers
    ∙ none_of_eight (λ i. count_by (is_same_voxel k) (voxels_below h (child_of b i)))
    (λ i li. voxels_none h (child_of b i) k (child_depths b h i d)
    (λ held. out (held_by_parent b i k low li held)))

-- a voxel of the block is counted once
voxels_once : (h : ℕ) (b : Cube) (k : Voxel) → b.depth + h ≡ 16 → HoldsVoxel b k
    → count_by (is_same_voxel k) (voxels_below h b) ≡ 1
unfolding voxels_below
voxels_once zero b k d held =
    let e : lowest_voxel b ≡ k = sym (only_voxel b k (omega arith) held) in
    let same : is_same_voxel k (lowest_voxel b) ≡ true =
    ap (is_same_voxel k) e ∙ is_same_voxel_refl k in
    rw same refl
voxels_once (suc h) b k d held =
    let low : b.depth < 16 = omega arith in
    sum_by-flat_map (λ q. cond (is_same_voxel k q) 1 0) (λ i. voxels_below h (child_of b i))
    child_numbers
    ∙ one_of_eight (λ i. count_by (is_same_voxel k) (voxels_below h (child_of b i)))
    (child_index_of b.depth k) (child_index_below b.depth k)
    (voxels_once h (child_of b (child_index_of b.depth k)) k
    (child_depths b h (child_index_of b.depth k) d) (held_by_child b k low held))
    (λ j lj other. voxels_none h (child_of b j) k (child_depths b h j d)
    (λ there. other (sym ((child_holds b j k low lj).0 there).1)))

-- the voxels that are listed for a block are held by it
pub all_held : (b : Cube) → IsBlock b → All (HoldsVoxel b) (voxels_of b)
all_held b ok = voxels_held (16 - b.depth) b (depths_above b ok)

-- the voxels that a block holds are listed for it
pub each_listed : (b : Cube) (k : Voxel) → IsBlock b → HoldsVoxel b k → Contains (voxels_of b) k
each_listed b k ok held = voxels_listed (16 - b.depth) b k (depths_above b ok) held

-- a voxel is listed exactly where the block holds it
pub listed_exactly : (b : Cube) (k : Voxel) → IsBlock b → HoldsVoxel b k ↔ Contains (voxels_of b) k
listed_exactly b k ok =
    (each_listed b k ok, λ there. All-contains (HoldsVoxel b) (voxels_of b) k (all_held b ok) there)

-- and once
pub listed_once : (b : Cube) (k : Voxel) → IsBlock b → HoldsVoxel b k
    → count_by (is_same_voxel k) (voxels_of b) ≡ 1
listed_once b k ok held = voxels_once (16 - b.depth) b k (depths_above b ok) held

-- a test that each voxel of the block passes
pub all_pass : (p : Voxel → Bool) (b : Cube) → IsBlock b
    → ((k : Voxel) → HoldsVoxel b k → p k ≡ true) → list_all p (voxels_of b) ≡ true
all_pass p b ok h =
    list_all-from_AllPass p (voxels_of b)
    (λ n k l. h (get_or (voxels_of b) n k) (all_held b ok n k l))

pub each_passes : (p : Voxel → Bool) (b : Cube) → IsBlock b → list_all p (voxels_of b) ≡ true
    → (k : Voxel) → HoldsVoxel b k → p k ≡ true
each_passes p b ok h k held =
    All-contains (λ k. p k ≡ true) (voxels_of b) k (AllPass-from_list_all p (voxels_of b) h)
    (each_listed b k ok held)

-- a test that some voxel of the block passes
pub some_passes : (p : Voxel → Bool) (b : Cube) (k : Voxel) → IsBlock b → HoldsVoxel b k
    → p k ≡ true → list_any p (voxels_of b) ≡ true
some_passes p b k ok held h =
    let (n, l, is) = each_listed b k ok held in
    list_any-from_Any p (voxels_of b) (n, k, l, is, h)

pub one_passes : (p : Voxel → Bool) (b : Cube) → IsBlock b → list_any p (voxels_of b) ≡ true
    → (k : Voxel) × HoldsVoxel b k × (p k ≡ true)
one_passes p b ok h =
    let (n, k, l, is, passes) = Any-from_list_any p (voxels_of b) h in
    (k, All-contains (HoldsVoxel b) (voxels_of b) k (all_held b ok) (n, l, is), passes)
