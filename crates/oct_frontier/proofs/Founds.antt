-- What a walk finds in a block: nothing where it passes, the voxel where it takes one, and else
-- what
-- it finds in the children.
use Rattle.std.proofs.Common.{◌≡◌, ℕ, zero, suc, ◌+◌, ◌-◌, ◌≤◌, inl, inr, Bool, true, false, List}
use Rattle.std.proofs.Common.{[]}
use Rattle.std.proofs.Common.{◌∷◌, ◌++◌, cond, Some, None, refl, sym, ap, subst, ◌∙◌, arith}
use Rattle.std.proofs.Common.{append-nil, append_assoc}
use Rattle.std.specs.Prelude.{◌⊎◌, ◌&&◌, nat_eq, filter, int_lt}
use Rattle.std.specs.Bool.{Decides}
use Rattle.std.specs.List.{All, list_any, flat_map}
use Rattle.std.proofs.lemmas.Bool.{and_parts}
use Rattle.std.proofs.lemmas.Bool.Decides.{Decides-and, Decides-or, Decides-eqb, Decides-like}
use Rattle.std.proofs.lemmas.List.Folds.{Any-from_list_any, list_any-from_Any}
use Rattle.std.proofs.lemmas.List.Elements.{All-contains, filter-append}
use Rattle.oct_key.specs.Voxel.{Voxel, IsInMap}
use Rattle.oct_key.specs.Block.{Cube, IsBlock, HoldsVoxel, child_of, lowest_voxel}
use Rattle.oct_key.specs.Boxes.{IsInBox, is_in_box, MeetsBox}
use Rattle.oct_key.specs.Order.{voxels_in_order}
use Rattle.oct_key.proofs.Boxes.{in_box_exactly}
use Rattle.oct_key.proofs.Blocks.{depth_child_of}
use Rattle.oct_key.proofs.Held.{only_voxel}
use Rattle.oct_key.proofs.InOrder.{in_order_all, in_order_inside}
use Rattle.oct_odds.specs.declared.event.Class.{Class}
use Rattle.oct_odds.specs.declared.event.Class.TheVariants.{Unknown, Free, Occupied}
use Rattle.oct_odds.specs.Odds.{Odds}
use Rattle.oct_odds.specs.Update.{Value, class_of}
use Rattle.oct_tree.specs.Tree.{Tree, value_at}
use Rattle.oct_values.specs.Blocks.{voxels_below, voxels_of, child_numbers}
use Rattle.oct_values.specs.Classes.{Classes, is_same_class}
use Rattle.oct_values.proofs.Alike.{is_same_class_refl, is_same_class_exact}
use Rattle.oct_values.proofs.Held.{all_held}
use Rattle.oct_values.proofs.Sums.{first_of_all, rest_of_all, All-follows}
use Rattle.oct_frontier.specs.Frontier.{IsNextTo, AreNeighbours, IsFrontier, is_next_to}
use Rattle.oct_frontier.specs.Frontier.{are_neighbours, is_frontier}
use Rattle.oct_frontier.specs.Found.{found_in}
use Rattle.oct_tree.specs.Classes.{classes_in}
use Rattle.oct_frontier.proofs.Neighbours.{HasUnknownAround}

-- the tests
next_decides : (m n : ℕ) → Decides (is_next_to m n) (IsNextTo m n)
next_decides m n = Decides-or (nat_eq (m + 1) n) (nat_eq (n + 1) m) (Decides-eqb (m + 1) n)
    (Decides-eqb (n + 1) m)

all_decide : {P Q R : Type 0} (x y z : Bool) → Decides x P → Decides y Q → Decides z R
    → Decides (x && y && z) (P × Q × R)
all_decide {P} {Q} {R} x y z dx dy dz =
    Decides-like (x && y && z) (λ h. (h.0.0, h.0.1, h.1)) (λ h. ((h.0, h.1), h.2))
    (Decides-and (x && y) z (Decides-and x y dx dy) dz)

pub neighbours_decide : (j k : Voxel) → Decides (are_neighbours j k) (AreNeighbours j k)
neighbours_decide j k =
    let on_x =
    all_decide _ _ _ (next_decides j.x k.x) (Decides-eqb j.y k.y) (Decides-eqb j.z k.z) in
    let on_y =
    all_decide _ _ _ (Decides-eqb j.x k.x) (next_decides j.y k.y) (Decides-eqb j.z k.z) in
    let on_z =
    all_decide _ _ _ (Decides-eqb j.x k.x) (Decides-eqb j.y k.y) (next_decides j.z k.z) in
    Decides-like (are_neighbours j k) (λ h. left h) (λ h. right h)
    (Decides-or _ _ (Decides-or _ _ on_x on_y) on_z)
  where
    left : {A B C : Type 0} → (A ⊎ B) ⊎ C → A ⊎ B ⊎ C
    left (inl (inl a)) = inl a
    left (inl (inr b)) = inr (inl b)
    left (inr c) = inr (inr c)

    right : {A B C : Type 0} → A ⊎ B ⊎ C → (A ⊎ B) ⊎ C
    right (inl a) = inl (inl a)
    right (inr (inl b)) = inl (inr b)
    right (inr (inr c)) = inr c

class_decides : (c e : Class) → Decides (is_same_class c e) (c ≡ e)
class_decides c e = (is_same_class_exact c e, λ is. rw is (is_same_class_refl e))

-- a voxel of the map passes a test
some_decides : (p : Voxel → Bool) (P : Voxel → Type 0) → ((j : Voxel) → Decides (p j) (P j))
    → Decides (list_any p voxels_in_order) ((j : Voxel) × IsInMap j × P j)
some_decides p P each = (to, from)
  where
    to : list_any p voxels_in_order ≡ true → (j : Voxel) × IsInMap j × P j
    to h =
        let (n, j, l, is, passes) = Any-from_list_any p voxels_in_order h in
        (j, All-contains IsInMap voxels_in_order j in_order_inside (n, l, is), (each j).0 passes)

    from : (j : Voxel) × IsInMap j × P j → list_any p voxels_in_order ≡ true
    from (j, v, h) =
        let (n, l, is) = in_order_all j v in
        list_any-from_Any p voxels_in_order (n, j, l, is, (each j).1 h)

pub frontier_decides : (classes : Classes) (k : Voxel)
    → Decides (is_frontier classes k) (IsFrontier classes k)
unfolding is_frontier
frontier_decides classes k =
    Decides-and (is_same_class (classes k) Free)
    (list_any (λ j. are_neighbours j k && is_same_class (classes j) Unknown) voxels_in_order)
    (class_decides (classes k) Free)
    (Decides-like _ (λ h. (h.0, h.1, h.2.0, h.2.1)) (λ h. (h.0, h.1, (h.2, h.3)))
    (some_decides (λ j. are_neighbours j k && is_same_class (classes j) Unknown)
    (λ j. AreNeighbours j k × (classes j ≡ Unknown))
    (λ j. Decides-and (are_neighbours j k) (is_same_class (classes j) Unknown)
    (neighbours_decide j k) (class_decides (classes j) Unknown))))

-- nothing is kept of a list in which nothing passes
filter_none : {X : Type 0} (p : X → Bool) (xs : List X) → All (λ x. p x ≡ false) xs
    → filter p xs ≡ []
filter_none p [] h = refl
filter_none p (x ∷ xs) h =
    ap (λ test. cond test (x ∷ filter p xs) (filter p xs)) (first_of_all (λ x. p x ≡ false) x xs h)
    ∙ filter_none p xs (rest_of_all (λ x. p x ≡ false) x xs h)

not_true : (b : Bool) → (b ≡ true → ⊥) → b ≡ false
not_true true h = absurd (h refl)
not_true false h = refl

-- a block with no voxel that lies between the corners and at the frontier
pub found_none : (t : Tree) (lo hi : Voxel) (b : Cube) → IsBlock b
    → ((k : Voxel) → HoldsVoxel b k → IsInBox lo hi k → IsFrontier (classes_in t) k → ⊥)
    → found_in t lo hi b ≡ []
unfolding found_in
found_none t lo hi b ok none =
    filter_none (λ k. is_in_box lo hi k && is_frontier (classes_in t) k) (voxels_of b)
    (All-follows (HoldsVoxel b) (λ k. (is_in_box lo hi k && is_frontier (classes_in t) k) ≡ false)
    (voxels_of b)
    (λ k held. not_true _ (λ h.
    (let parts = and_parts (is_in_box lo hi k) (is_frontier (classes_in t) k) h in
    none k held ((in_box_exactly lo hi k).0 parts.0)
    ((frontier_decides (classes_in t) k).0 parts.1))))
    (all_held b ok))

-- a block beyond the corners
pub pass_beyond : (t : Tree) (lo hi : Voxel) (b : Cube) → IsBlock b → (MeetsBox lo hi b → ⊥)
    → found_in t lo hi b ≡ []
pass_beyond t lo hi b ok beyond =
    found_none t lo hi b ok (λ k held inside _. beyond (k, held, inside))

-- an unknown class says that there is no value
pub unknown_none : (odds : Odds) (value : Value) → class_of odds value ≡ Unknown → value ≡ None
unknown_none odds None e = refl
unknown_none odds (Some v) e = by_test (int_lt v odds.thr) e
  where
    by_test : (test : Bool) → cond test Free Occupied ≡ Unknown → Some v ≡ None
    by_test true e = cc
    by_test false e = cc

-- a free voxel between the corners with an unknown neighbour
pub take_voxel : (t : Tree) (lo hi : Voxel) (b : Cube) → b.depth ≡ 16
    → MeetsBox lo hi b → class_of t.odds (value_at t (lowest_voxel b)) ≡ Free
    → HasUnknownAround t (lowest_voxel b) → found_in t lo hi b ≡ lowest_voxel b ∷ []
unfolding found_in voxels_below
take_voxel t lo hi b e (k, held, inside) free (j, v, near, none) =
    let is : k ≡ lowest_voxel b = only_voxel b k e held in
    let here : is_in_box lo hi (lowest_voxel b) ≡ true =
    (in_box_exactly lo hi (lowest_voxel b)).1 (subst (IsInBox lo hi) is inside) in
    let there : is_frontier (classes_in t) (lowest_voxel b) ≡ true =
    (frontier_decides (classes_in t) (lowest_voxel b)).1
    (free, (j, v, near, ap (class_of t.odds) none)) in
    let alone : voxels_below (16 - b.depth) b ≡ lowest_voxel b ∷ [] =
    ap (λ (d : ℕ). voxels_below (16 - d) b) e in
    ap (filter (λ k. is_in_box lo hi k && is_frontier (classes_in t) k)) alone
    ∙ ap (λ test. cond {A = List Voxel} test (lowest_voxel b ∷ []) []) (both here there)
  where
    both : {x y : Bool} → x ≡ true → y ≡ true → (x && y) ≡ true
    both p q = rw (p, q) refl

-- what is found in a block is what is found in its children, one after another
filter_flat : {X : Type 0} (p : X → Bool) (g : ℕ → List X) (xs : List ℕ)
    → filter p (flat_map g xs) ≡ flat_map (λ i. filter p (g i)) xs
filter_flat p g [] = refl
filter_flat p g (x ∷ xs) = filter-append p (g x) (flat_map g xs)
    ∙ ap (λ l. filter p (g x) ++ l) (filter_flat p g xs)

same_flat : {X : Type 0} (f g : ℕ → List X) (xs : List ℕ) → ((i : ℕ) → f i ≡ g i)
    → flat_map f xs ≡ flat_map g xs
same_flat f g [] h = refl
same_flat f g (x ∷ xs) h = ap (λ l. l ++ flat_map f xs) (h x)
    ∙ ap (λ l. g x ++ l) (same_flat f g xs h)

voxels_next : (b : Cube) → b.depth ≤ 15
    → voxels_below (16 - b.depth) b ≡ flat_map (λ i. voxels_of (child_of b i)) child_numbers
unfolding voxels_below
voxels_next b low =
    let next : 16 - b.depth ≡ suc (15 - b.depth) = omega arith in
    ap (λ h. voxels_below h b) next
    ∙ same_flat (λ i. voxels_below (15 - b.depth) (child_of b i)) (λ i. voxels_of (child_of b i))
    child_numbers
    (λ i. (let deep = depth_child_of b i in
    let level : 15 - b.depth ≡ 16 - (child_of b i).depth = omega (arith, deep) in
    ap (λ h. voxels_below h (child_of b i)) level))

-- what is found in the first children of a block
unfoldable pub found_first : Tree → Voxel → Voxel → Cube → ℕ → List Voxel
found_first t lo hi b zero = []
found_first t lo hi b (suc n) = found_first t lo hi b n ++ found_in t lo hi (child_of b n)

eight_first : (t : Tree) (lo hi : Voxel) (b : Cube)
    → flat_map (λ i. found_in t lo hi (child_of b i)) child_numbers ≡ found_first t lo hi b 8
unfolding found_first
eight_first t lo hi b = sym (simp (append_assoc, append-nil))

found_parts : (t : Tree) (lo hi : Voxel) (b : Cube) → b.depth ≤ 15
    → found_in t lo hi b ≡ flat_map (λ i. found_in t lo hi (child_of b i)) child_numbers
unfolding found_in
found_parts t lo hi b low =
    ap (filter (λ k. is_in_box lo hi k && is_frontier (classes_in t) k)) (voxels_next b low)
    ∙ filter_flat (λ k. is_in_box lo hi k && is_frontier (classes_in t) k)
    (λ i. voxels_of (child_of b i)) child_numbers

pub found_children : (t : Tree) (lo hi : Voxel) (b : Cube) → b.depth ≤ 15
    → found_in t lo hi b ≡ found_first t lo hi b 8
found_children t lo hi b low = found_parts t lo hi b low ∙ eight_first t lo hi b
