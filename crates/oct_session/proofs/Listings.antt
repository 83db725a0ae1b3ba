-- Lists of blocks and of changes are the same where the voxels of the map are.
use Rattle.std.proofs.Common.{◌≡◌, ℕ, ◌≤◌, ◌&&◌, List, [], ◌∷◌, filter, length, Bool, true, cond}
use Rattle.std.proofs.Common.{nat_lt, option_map, Option, Some, None, Result, Ok, Err, inl, inr}
use Rattle.std.proofs.Common.{refl, ap, ◌∙◌}
use Rattle.std.proofs.lemmas.Bool.{cases_lt, lt-ltb}
use Rattle.std.proofs.lemmas.List.Elements.{All-head, All-tail, All-filter}
use Rattle.std.specs.Prelude.{All}
use Rattle.std.specs.List.{cons_option, filter_map}
use Rattle.oct_key.specs.Block.{IsBlock}
use Rattle.oct_key.specs.Boxes.{is_box}
use Rattle.oct_key.specs.Order.{voxels_in_order, blocks_in_order}
use Rattle.oct_key.specs.Values.{Values, SameValues}
use Rattle.oct_key.specs.Voxel.{Voxel, IsInMap}
use Rattle.oct_key.proofs.InOrder.{in_order_inside, blocks_inside}
use Rattle.oct_change.specs.declared.kind.Change.{Change}
use Rattle.oct_change.specs.Changes.{change_of, changes_between}
use Rattle.oct_map.specs.declared.fault.MapFault.{MapFault}
use Rattle.oct_map.specs.declared.fault.MapFault.TheVariants.{BadDepth, BadBox, Stale}
use Rattle.oct_map.specs.Lists.{blocks_answer, box_blocks_answer, list_answer_at}
use Rattle.oct_map.specs.Marks.{SameMark, changes_answer}
use Rattle.oct_query.specs.Shown.{Shown}
use Rattle.oct_query.specs.Listed.{met_blocks, shown, listed_blocks}
use Rattle.oct_values.specs.Boxes.{is_met_by}
use Rattle.oct_values.specs.Classes.{Classes}
use Rattle.oct_values.proofs.Largest.{same_depth_value}
use Rattle.oct_values.proofs.Sums.{All-follows}

-- what is kept of a list, by two tests that agree on it
kept_same : {X Y : Type 0} (f g : X → Option Y) (xs : List X) → All (λ x. f x ≡ g x) xs
    → filter_map f xs ≡ filter_map g xs
kept_same f g [] all = refl
kept_same f g (x ∷ xs) all =
    ap (λ o. cons_option o (filter_map f xs)) (All-head (λ x. f x ≡ g x) x xs all)
    ∙ ap (cons_option (g x)) (kept_same f g xs (All-tail (λ x. f x ≡ g x) x xs all))

-- the blocks of a depth in a box that are shown
listed_same : (v w : Values) (lo hi : Voxel) (depth : ℕ) → depth ≤ 16 → SameValues v w
    → listed_blocks v lo hi depth ≡ listed_blocks w lo hi depth
unfolding listed_blocks met_blocks
listed_same v w lo hi depth few same =
    kept_same (shown v) (shown w) (filter (is_met_by lo hi) (blocks_in_order depth))
    (All-filter (is_met_by lo hi) (λ b. shown v b ≡ shown w b) (blocks_in_order depth)
    (All-follows (λ b. IsBlock b × (b.depth ≡ depth)) (λ b. shown v b ≡ shown w b)
    (blocks_in_order depth)
    (λ b ok. ap (option_map (λ value. let s : Shown = record { block = b; value = value } in s))
    (same_depth_value v w b ok.0 same)) (blocks_inside depth few)))

same_box_blocks : (stale : Bool) (v w : Values) (depth : ℕ) (lo hi : Voxel) → SameValues v w
    → box_blocks_answer stale v depth lo hi ≡ box_blocks_answer stale w depth lo hi
same_box_blocks stale v w depth lo hi same = elim (cases_lt 16 depth) [
  | inl deep ↦ (let deep_too : nat_lt 16 depth ≡ true = lt-ltb 16 depth deep in rw deep_too refl)
  | inr shallow ↦ ap (λ blocks. cond {A = Result (List Shown) MapFault} (nat_lt 16 depth)
      (Err BadDepth)
      (cond (is_box lo hi) (cond (stale && nat_lt depth 16) (Err Stale)
      (blocks_answer (length (met_blocks lo hi depth)) blocks)) (Err BadBox)))
      (listed_same v w lo hi depth shallow same)
]

-- the answer to a list
pub same_list_at : (stale : Bool) (v w : Values) (depth : ℕ) (lo hi : Option Voxel) → SameValues v w
    → list_answer_at stale v depth lo hi ≡ list_answer_at stale w depth lo hi
same_list_at stale v w depth None hi same = refl
same_list_at stale v w depth (Some lo) None same = refl
same_list_at stale v w depth (Some lo) (Some hi) same = same_box_blocks stale v w depth lo hi same

-- the changes between two classes for each voxel
changes_same : (a b c d : Classes) → ((k : Voxel) → IsInMap k → a k ≡ b k)
    → ((k : Voxel) → IsInMap k → c k ≡ d k) → changes_between a c ≡ changes_between b d
changes_same a b c d before after =
    kept_same (λ k. change_of k (a k) (c k)) (λ k. change_of k (b k) (d k)) voxels_in_order
    (All-follows IsInMap (λ k. change_of k (a k) (c k) ≡ change_of k (b k) (d k)) voxels_in_order
    (λ k low. ap (λ x. change_of k x (c k)) (before k low) ∙ ap (change_of k (b k)) (after k low))
    in_order_inside)

-- the answer to what has changed since a mark
pub same_changes : (a b : Option Classes) (c d : Classes) → SameMark a b
    → ((k : Voxel) → IsInMap k → c k ≡ d k) → changes_answer a c ≡ changes_answer b d
same_changes None None c d mark now = refl
same_changes None (Some b) c d mark now = absurd mark
same_changes (Some a) None c d mark now = absurd mark
same_changes (Some a) (Some b) c d mark now =
    ap (λ xs. let r : Result (List Change) MapFault = Ok xs in r) (changes_same a b c d mark now)
