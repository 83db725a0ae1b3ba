-- What is found in the whole map, in order, is the frontier.
use Rattle.std.proofs.Common.{◌≡◌, ℕ, zero, suc, ◌<◌, ◌≤◌, IsOk, true, Bool, Result, Ok, Err, List}
use Rattle.std.proofs.Common.{[], ◌∷◌, ◌++◌, length, cond, refl, sym, ap, subst, ◌∙◌, arith}
use Rattle.std.specs.Prelude.{◌&&◌, IfErr, filter}
use Rattle.std.specs.List.{AllByRecursion, Contains}
use Rattle.std.specs.List.Sorted.{IsSorted, IsPermutation, IsStrictlySortedBy}
use Rattle.std.specs.declared.cmp.Ordering.TheVariants.{Less}
use Rattle.std.proofs.lemmas.Bool.{and_parts, false≢true}
use Rattle.std.proofs.lemmas.List.Sums.{length-filter}
use Rattle.std.proofs.lemmas.List.Elements.{All-contains, All-filter}
use Rattle.std.proofs.lemmas.List.Kept.{IsStrictlySortedBy-filter}
use Rattle.std.proofs.lemmas.List.Sorted.{IsPermutation-sym, Contains-permutation}
use Rattle.std.proofs.lemmas.List.Sorted.{sum_by-IsPermutation}
use Rattle.oct_key.specs.Voxel.{Voxel, IsInMap}
use Rattle.oct_key.specs.Values.{is_same_voxel}
use Rattle.oct_key.specs.Block.{Cube, HoldsVoxel, root_block}
use Rattle.oct_key.specs.Boxes.{IsInBox, is_in_box}
use Rattle.oct_key.specs.Order.{key_cmp, voxels_in_order}
use Rattle.oct_key.proofs.Blocks.{root_in_map, root_holds}
use Rattle.oct_key.proofs.Boxes.{in_box_exactly}
use Rattle.oct_key.proofs.Held.{held_in_map}
use Rattle.oct_key.proofs.InOrder.{in_order_sorted, in_order_all, in_order_inside}
use Rattle.oct_key.proofs.OneOrder.{one_order}
use Rattle.oct_key.proofs.Order.{one_way}
use Rattle.oct_tree.specs.Tree.{Tree}
use Rattle.oct_values.specs.Blocks.{voxels_of}
use Rattle.oct_values.specs.Classes.{Classes}
use Rattle.oct_values.proofs.Held.{all_held, each_listed, listed_once}
use Rattle.oct_frontier.specs.Frontier.{IsRefused, IsFrontier, is_frontier, frontier_between}
use Rattle.oct_frontier.specs.Frontier.{IsFrontierBetween}
use Rattle.oct_frontier.specs.declared.fault.FrontierFault.{FrontierFault}
use Rattle.oct_frontier.specs.declared.fault.FrontierFault.TheVariants.{Memory}
use Rattle.oct_frontier.specs.Found.{found_in}
use Rattle.oct_tree.specs.Classes.{classes_in}
use Rattle.oct_frontier.proofs.Founds.{frontier_decides}
use Rattle.oct_frontier.proofs.Lists.{times, times_rising, rises, same_count, kept_passes}
use Rattle.oct_frontier.proofs.Lists.{kept_from, times_kept}

-- whether a voxel is asked for
abbrev asked : Classes → Voxel → Voxel → Voxel → Bool
asked classes lo hi k = is_in_box lo hi k && is_frontier classes k

-- the voxels of the whole map are those of the map
listed_in_map : (k : Voxel) → Contains (voxels_of root_block) k → IsInMap k
listed_in_map k there = held_in_map root_block k root_in_map
    (All-contains (HoldsVoxel root_block) (voxels_of root_block) k (all_held root_block root_in_map)
    there)

in_order_in_map : (k : Voxel) → Contains voxels_in_order k → IsInMap k
in_order_in_map k there = All-contains IsInMap voxels_in_order k in_order_inside there

voxel_listed_once : (k : Voxel) → IsInMap k → times k (voxels_of root_block) ≡ 1
voxel_listed_once k v = listed_once root_block k root_in_map (root_holds k v)

-- as many are found as there are
pub found_count : (t : Tree) (lo hi : Voxel)
    → length (found_in t lo hi root_block) ≡ length (frontier_between (classes_in t) lo hi)
unfolding found_in
found_count t lo hi =
    length-filter (asked (classes_in t) lo hi) (voxels_of root_block)
    ∙ same_count (asked (classes_in t) lo hi) (voxels_of root_block) voxels_in_order
    (λ k there. times_rising voxels_in_order k in_order_sorted
    (in_order_all k (listed_in_map k there)))
    (λ k there. voxel_listed_once k (in_order_in_map k there))
    ∙ sym (length-filter (asked (classes_in t) lo hi) voxels_in_order)

sorted_step : (q : Voxel) (ks : List Voxel) → IsStrictlySortedBy key_cmp (q ∷ ks)
    → AllByRecursion (λ k. key_cmp q k ≡ Less) ks × IsStrictlySortedBy key_cmp ks
unfolding IsStrictlySortedBy
sorted_step q ks h = h

-- in order they are the frontier
pub found_sorted : (t : Tree) (lo hi : Voxel) (ks : List Voxel)
    → IsPermutation (found_in t lo hi root_block) ks
    → IsSorted key_cmp ks → ks ≡ frontier_between (classes_in t) lo hi
unfolding found_in
found_sorted t lo hi ks moved sorted =
    one_order (λ a b. key_cmp a b ≡ Less) (IsStrictlySortedBy key_cmp) one_way sorted_step ks
    (filter test voxels_in_order) (rises ks sorted few)
    (IsStrictlySortedBy-filter key_cmp test voxels_in_order in_order_sorted)
    (λ k there. (let (listed, passes) = kept_from test (voxels_of root_block) k (back k there) in
    kept_passes test voxels_in_order k (in_order_all k (listed_in_map k listed)) passes))
    (λ k there. (let (listed, passes) = kept_from test voxels_in_order k there in
    Contains-permutation (filter test (voxels_of root_block)) ks k moved
    (kept_passes test (voxels_of root_block) k
    (each_listed root_block k root_in_map (root_holds k (in_order_in_map k listed))) passes)))
  where
    test : Voxel → Bool
    test = asked (classes_in t) lo hi

    back : (k : Voxel) → Contains ks k → Contains (filter test (voxels_of root_block)) k
    back k there = Contains-permutation ks (filter test (voxels_of root_block)) k
        (IsPermutation-sym (filter test (voxels_of root_block)) ks moved) there

    few : (k : Voxel) → Contains ks k → times k ks ≤ 1
    few k there =
        let listed = (kept_from test (voxels_of root_block) k (back k there)).0 in
        let all = voxel_listed_once k (listed_in_map k listed) in
        let kept = times_kept test k (voxels_of root_block) in
        let same = sum_by-IsPermutation (λ v. cond (is_same_voxel k v) 1 0)
        (filter test (voxels_of root_block)) ks moved in
        omega (arith, all, kept, same)

-- the frontier is what it is to be
pub frontier_right : (classes : Classes) (lo hi : Voxel)
    → IsFrontierBetween classes lo hi (frontier_between classes lo hi)
frontier_right classes lo hi = record {
  rise = IsStrictlySortedBy-filter key_cmp (asked classes lo hi) voxels_in_order in_order_sorted;
  inside = All-filter (asked classes lo hi) IsInMap voxels_in_order in_order_inside;
  exact = λ k v. (to k, from k v);
}
  where
    both : {x y : Bool} → x ≡ true → y ≡ true → (x && y) ≡ true
    both p q = rw (p, q) refl

    to : (k : Voxel) → Contains (frontier_between classes lo hi) k
        → IsInBox lo hi k × IsFrontier classes k
    to k there =
        let parts = and_parts (is_in_box lo hi k) (is_frontier classes k)
        (kept_from (asked classes lo hi) voxels_in_order k there).1 in
        ((in_box_exactly lo hi k).0 parts.0, (frontier_decides classes k).0 parts.1)

    from : (k : Voxel) → IsInMap k → IsInBox lo hi k × IsFrontier classes k
        → Contains (frontier_between classes lo hi) k
    from k v (inside, is) = kept_passes (asked classes lo hi) voxels_in_order k (in_order_all k v)
        (both ((in_box_exactly lo hi k).1 inside) ((frontier_decides classes k).1 is))

-- the keys that a walk of the whole map adds to none, in order
pub listed_is : (t : Tree) (lo hi : Voxel) (b : Cube) (start items sorted shown : List Voxel)
    → b ≡ root_block
    → start ≡ [] → items ≡ start ++ found_in t lo hi b → IsPermutation items sorted
    → IsSorted key_cmp sorted
    → shown ≡ sorted → shown ≡ frontier_between (classes_in t) lo hi
listed_is t lo hi b start items sorted shown eb es ei moved up is =
    let all : items ≡ found_in t lo hi root_block = ei ∙ ap (λ l. l ++ found_in t lo hi b) es
    ∙ ap (found_in t lo hi) eb in
    is ∙ found_sorted t lo hi sorted (subst (λ l. IsPermutation l sorted) all moved) up

-- this many there are
pub count_is : (t : Tree) (lo hi : Voxel) (b : Cube) → b ≡ root_block
    → length (found_in t lo hi b) ≡ length (frontier_between (classes_in t) lo hi)
count_is t lo hi b e = ap (λ c. length (found_in t lo hi c)) e ∙ found_count t lo hi

pub right_of : (classes : Classes) (lo hi : Voxel) (list : List Voxel)
    → list ≡ frontier_between classes lo hi
    → IsFrontierBetween classes lo hi list
right_of classes lo hi list e =
    subst (IsFrontierBetween classes lo hi) (sym e) (frontier_right classes lo hi)

-- what is done for none fails only for some
pub not_none : {A E : Type 0} {e : E} (count : ℕ) (r : Result A E) → r ≡ Err e
    → (count ≡ 0 → IsOk r) → 0 < count
not_none zero r is none = absurd (false≢true (subst IsOk is (none refl)))
not_none (suc count) r is none = omega arith

-- out of memory comes only where there are some, and few enough
pub refused_by_memory : {A : Type 0} (r : Result A FrontierFault) (count most : ℕ)
    → IfErr r (λ fault. fault ≡ Memory)
    → (0 < count) × (count ≤ most) → IfErr r (λ fault. IsRefused fault count most)
refused_by_memory (Ok x) count most h few = tt
refused_by_memory (Err fault) count most h few = subst (λ q. IsRefused q count most) (sym h) few
