-- Which leaves meet a box.
use Rattle.std.proofs.Common.{◌≡◌, ◌-◌, ◌↔◌, Bool, true, false}
use Rattle.std.proofs.Common.{List, [], ◌∷◌, Some, None, refl, sym, ◌∙◌, ap, arith}
use Rattle.std.specs.Prelude.{filter, if◌then◌else◌, int_lt, IsTrue, ℤ, ◌≤ℤ◌}
use Rattle.std.specs.List.{AllByRecursion}
use Rattle.std.proofs.lemmas.Bool.{false≢true, false_from_ne_true}
use Rattle.std.proofs.lemmas.Int.{ints}
use Rattle.oct_key.specs.Voxel.{Voxel}
use Rattle.oct_key.specs.Values.{Values}
use Rattle.oct_key.specs.Block.{Cube, HoldsVoxel, IsBlock, lowest_voxel}
use Rattle.oct_key.specs.Boxes.{LiesInBox, MeetsBox}
use Rattle.oct_key.proofs.Blocks.{lowest_held}
use Rattle.oct_key.proofs.Held.{held_in_map}
use Rattle.oct_odds.specs.Odds.{Odds}
use Rattle.oct_odds.specs.Update.{Value, class_of}
use Rattle.oct_odds.specs.declared.event.Class.TheVariants as class
use Rattle.oct_values.specs.Boxes.{is_met_by}
use Rattle.oct_values.specs.Depths.{IsLargestIn}
use Rattle.oct_values.proofs.Boxes.{met_by_voxels}
use Rattle.oct_arena.specs.Nodes.{stored_in}
use Rattle.oct_tree.specs.Classes.{classes_in}
use Rattle.oct_tree.specs.Shape.{IsFresh}
use Rattle.oct_tree.specs.Tree.{Tree, IsLinked, IsPlace, block_in, node_in, value_at}
use Rattle.oct_tree.specs.declared.place.Place.{Place}
use Rattle.oct_tree.proofs.Paths.{place_reached}
use Rattle.oct_query.specs.Extent.{is_sought}
use Rattle.oct_query.specs.Leaves.{block_leaves, picked, that_meet}
use Rattle.oct_query.specs.Leaves.{those_sought}
use Rattle.oct_query.specs.Shown.{Shown}
use Rattle.oct_query.specs.declared.sought.Sought.{Sought}
use Rattle.oct_query.specs.declared.sought.Sought.TheVariants.{Known, Occupied}
use Rattle.oct_query.proofs.Over.{answer_over}
use Rattle.oct_query.proofs.LeafLists.{IsLeafIn, all_mapped, leaves_are}

-- the test of the code is that of the block
pub met_exactly : (lo hi : Voxel) (b : Cube) (r : Bool) → IsBlock b → IsTrue r ↔ MeetsBox lo hi b
    → r ≡ is_met_by lo hi b
met_exactly lo hi b true ok told = sym ((met_by_voxels lo hi b ok).1 (told.0 refl))
met_exactly lo hi b false ok told =
    sym (false_from_ne_true (is_met_by lo hi b)
    (λ met. false≢true (told.1 ((met_by_voxels lo hi b ok).0 met))))

-- ---- filters

filter_none : {X : Type 0} (p : X → Bool) (xs : List X) → AllByRecursion (λ x. p x ≡ false) xs
    → filter p xs ≡ []
filter_none p [] none = refl
filter_none p (x ∷ xs) (none, more) = rw none (filter_none p xs more)

filter_all : {X : Type 0} (p : X → Bool) (xs : List X) → AllByRecursion (λ x. p x ≡ true) xs
    → filter p xs ≡ xs
filter_all p [] all = refl
filter_all p (x ∷ xs) (passes, more) = rw passes (ap (λ l. x ∷ l) (filter_all p xs more))

all_filtered : {X : Type 0} (P : X → Type 0) (p : X → Bool) (xs : List X) → AllByRecursion P xs
    → AllByRecursion P (filter p xs)
all_filtered P p [] all = tt
all_filtered P p (x ∷ xs) (here, more) = by (all_filtered P p xs more) (p x)
  where
    by : AllByRecursion P (filter p xs) → (t : Bool)
        → AllByRecursion P (if t then x ∷ filter p xs else filter p xs)
    by kept true = (here, kept)
    by kept false = kept

-- ---- the leaves in a block

-- where a block doesn't meet the box, no leaf in it does
none_meet : (v : Values) (lo hi : Voxel) (b : Cube) → IsBlock b → is_met_by lo hi b ≡ false
    → that_meet lo hi (block_leaves v b) ≡ []
none_meet v lo hi b ok none =
    let deep = ok.depth in
    filter_none (λ leaf. is_met_by lo hi leaf.block) (block_leaves v b)
    (all_mapped (IsLeafIn v b) (λ leaf. is_met_by lo hi leaf.block ≡ false) (block_leaves v b)
    (λ leaf is. false_from_ne_true (is_met_by lo hi leaf.block)
    (λ met. (let (k, held, inside) = (met_by_voxels lo hi leaf.block is.block).0 met in
    false≢true (sym none ∙ (met_by_voxels lo hi b ok).1 (k, is.within k held, inside)))))
    (leaves_are v (16 - b.depth) b ok (omega (arith, deep))).each)

-- so none is picked
pub none_picked : (v : Values) (o : Odds) (s : Sought) (lo hi : Voxel) (b : Cube) → IsBlock b
    → is_met_by lo hi b ≡ false → picked o s lo hi (block_leaves v b) ≡ []
none_picked v o s lo hi b ok none = ap (those_sought o s) (none_meet v lo hi b ok none)

-- where a block lies in the box, each leaf in it meets it
pub all_meet : (v : Values) (lo hi : Voxel) (b : Cube) → IsBlock b → LiesInBox lo hi b
    → that_meet lo hi (block_leaves v b) ≡ block_leaves v b
all_meet v lo hi b ok inside =
    let deep = ok.depth in
    filter_all (λ leaf. is_met_by lo hi leaf.block) (block_leaves v b)
    (all_mapped (IsLeafIn v b) (λ leaf. is_met_by lo hi leaf.block ≡ true) (block_leaves v b)
    (λ leaf is. (let k = lowest_voxel leaf.block in
    let held = lowest_held leaf.block in
    (met_by_voxels lo hi leaf.block is.block).1 (k, held, inside k (is.within k held))))
    (leaves_are v (16 - b.depth) b ok (omega (arith, deep))).each)

-- where no voxel of a block is sought, no leaf in it is
unsought : (v : Values) (o : Odds) (s : Sought) (b : Cube) → IsBlock b
    → ((k : Voxel) → HoldsVoxel b k → is_sought s (class_of o (v k)) ≡ false)
    → AllByRecursion (λ leaf. is_sought s (class_of o (Some leaf.value)) ≡ false)
    (block_leaves v b)
unsought v o s b ok none =
    let deep = ok.depth in
    all_mapped (IsLeafIn v b) (λ leaf. is_sought s (class_of o (Some leaf.value)) ≡ false)
    (block_leaves v b)
    (λ leaf is. (let k = lowest_voxel leaf.block in
    let held = lowest_held leaf.block in
    ap (λ value. is_sought s (class_of o value)) (sym (is.value k held))
    ∙ none k (is.within k held)))
    (leaves_are v (16 - b.depth) b ok (omega (arith, deep))).each

pub none_sought : (v : Values) (o : Odds) (s : Sought) (b : Cube) → IsBlock b
    → ((k : Voxel) → HoldsVoxel b k → is_sought s (class_of o (v k)) ≡ false)
    → those_sought o s (block_leaves v b) ≡ []
none_sought v o s b ok none =
    filter_none (λ leaf. is_sought s (class_of o (Some leaf.value))) (block_leaves v b)
    (unsought v o s b ok none)

-- nor of those that meet a box
pub none_sought_met : (v : Values) (o : Odds) (s : Sought) (lo hi : Voxel) (b : Cube) → IsBlock b
    → ((k : Voxel) → HoldsVoxel b k → is_sought s (class_of o (v k)) ≡ false)
    → picked o s lo hi (block_leaves v b) ≡ []
none_sought_met v o s lo hi b ok none =
    filter_none (λ leaf. is_sought s (class_of o (Some leaf.value)))
    (that_meet lo hi (block_leaves v b))
    (all_filtered (λ leaf. is_sought s (class_of o (Some leaf.value)) ≡ false)
    (λ leaf. is_met_by lo hi leaf.block) (block_leaves v b) (unsought v o s b ok none))

still_below : (a b c : ℤ) → a ≤ℤ b → int_lt b c ≡ true → int_lt a c ≡ true
still_below a b c less below = grind (arith, ints)

-- where the greatest value of a block isn't that of an occupied voxel, none of its voxels is
pub none_occupied : (v : Values) (o : Odds) (b : Cube) (greatest : Value)
    → IsLargestIn v b greatest → is_sought Occupied (class_of o greatest) ≡ false
    → (k : Voxel) → HoldsVoxel b k → is_sought Occupied (class_of o (v k)) ≡ false
none_occupied v o b None none below k held = rw (none k held) refl
none_occupied v o b (Some most) largest below k held = by (v k) refl
  where
    free : (test : Bool)
        → is_sought Occupied (if test then class.Free else class.Occupied) ≡ false → test ≡ true
    free true is = refl
    free false is = absurd (false≢true (sym is))

    by : (value : Value) → v k ≡ value → is_sought Occupied (class_of o (v k)) ≡ false
    by None is = rw is refl
    by (Some w) is =
        (let low = still_below w most o.thr (largest.most k w held is)
        (free (int_lt most o.thr) below) in
        rw is (rw low refl))

-- so where a fresh tree's node over a block isn't occupied
pub fresh_none : (t : Tree) (p : Place) (b : Cube) → IsLinked t → IsFresh t → IsPlace t p
    → block_in t p ≡ Some b → IsBlock b
    → is_sought Occupied (class_of t.odds (stored_in (node_in t p))) ≡ false
    → (k : Voxel) → HoldsVoxel b k → is_sought Occupied (classes_in t k) ≡ false
fresh_none t p b linked fresh here at ok below =
    let deep = ok.depth in
    none_occupied (value_at t) t.odds b (stored_in (node_in t p))
    (answer_over t fresh (16 - b.depth) b (node_in t p) ok (omega (arith, deep))
    (λ k held. place_reached t linked p here b at k (held_in_map b k ok held) held)) below

-- each known voxel is sought where known ones are
pub all_known : (o : Odds) (leaves : List Shown) → those_sought o Known leaves ≡ leaves
all_known o [] = refl
all_known o (leaf ∷ leaves) =
    rw (known (int_lt leaf.value o.thr)) (ap (λ l. leaf ∷ l) (all_known o leaves))
  where
    known : (test : Bool) → is_sought Known (if test then class.Free else class.Occupied) ≡ true
    known true = refl
    known false = refl
