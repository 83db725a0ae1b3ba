-- The frontier depends on the classes of the map's voxels alone.
use Rattle.std.proofs.Common.{◌≡◌, Bool, List, [], ◌∷◌, cond, refl, ap, ◌∙◌}
use Rattle.std.specs.Prelude.{◌&&◌, filter}
use Rattle.std.specs.List.{All, list_any}
use Rattle.oct_key.specs.Voxel.{Voxel, IsInMap}
use Rattle.oct_key.specs.Boxes.{is_in_box}
use Rattle.oct_key.specs.Order.{voxels_in_order}
use Rattle.oct_key.proofs.InOrder.{in_order_inside}
use Rattle.oct_odds.specs.declared.event.Class.TheVariants.{Unknown, Free}
use Rattle.oct_values.specs.Classes.{Classes, is_same_class}
use Rattle.oct_values.proofs.Sums.{first_of_all, rest_of_all, All-follows, list_any-same}
use Rattle.oct_frontier.specs.Frontier.{are_neighbours, is_frontier, frontier_between}

-- tests that agree at each element keep the same
filter_same : (p q : Voxel → Bool) (xs : List Voxel) → All (λ x. p x ≡ q x) xs
    → filter p xs ≡ filter q xs
filter_same p q [] h = refl
filter_same p q (x ∷ xs) h =
    ap (λ test. cond test (x ∷ filter p xs) (filter p xs)) (first_of_all (λ x. p x ≡ q x) x xs h)
    ∙ ap (λ l. cond (q x) (x ∷ l) l) (filter_same p q xs (rest_of_all (λ x. p x ≡ q x) x xs h))

-- a voxel of the map lies at both frontiers or at none
same_test : (c d : Classes) → ((k : Voxel) → IsInMap k → c k ≡ d k) → (k : Voxel) → IsInMap k
    → is_frontier c k ≡ is_frontier d k
unfolding is_frontier
same_test c d same k v =
    ap (λ class. is_same_class class Free
    && list_any (λ j. are_neighbours j k && is_same_class (c j) Unknown) voxels_in_order) (same k v)
    ∙ ap (λ any. is_same_class (d k) Free && any)
    (list_any-same (λ j. are_neighbours j k && is_same_class (c j) Unknown)
    (λ j. are_neighbours j k && is_same_class (d j) Unknown)
    voxels_in_order
    (All-follows IsInMap (λ j. (are_neighbours j k && is_same_class (c j) Unknown)
    ≡ (are_neighbours j k && is_same_class (d j) Unknown))
    voxels_in_order (λ j u. ap (λ class. are_neighbours j k && is_same_class class Unknown)
    (same j u)) in_order_inside))

pub same_frontier : (c d : Classes) (lo hi : Voxel) → ((k : Voxel) → IsInMap k → c k ≡ d k)
    → frontier_between c lo hi ≡ frontier_between d lo hi
same_frontier c d lo hi same =
    filter_same (λ k. is_in_box lo hi k && is_frontier c k)
    (λ k. is_in_box lo hi k && is_frontier d k) voxels_in_order
    (All-follows IsInMap (λ k. (is_in_box lo hi k && is_frontier c k)
    ≡ (is_in_box lo hi k && is_frontier d k)) voxels_in_order
    (λ k v. ap (λ test. is_in_box lo hi k && test) (same_test c d same k v)) in_order_inside)
