-- What the voxels of a column show together, block by block.
use Rattle.std.proofs.Common.{◌≡◌, ℕ, zero, suc, ◌+◌, ◌-◌, ◌*◌, ◌^◌, ◌<◌, ◌≤◌, Bool, true, false}
use Rattle.std.proofs.Common.{cond, List, [], ◌∷◌, ◌++◌, Option, Some, None, refl, sym, subst, ◌∙◌}
use Rattle.std.proofs.Common.{ap, arith, pow_pos}
use Rattle.std.specs.Prelude.{◌||◌}
use Rattle.std.proofs.Math.Nat.{mul-le-mul_right}
use Rattle.std.proofs.lemmas.Nat.{pow-add}
use Rattle.std.proofs.lemmas.List.Folds.{list_any-append}
use Rattle.oct_key.specs.Voxel.{Voxel, IsInMap}
use Rattle.oct_key.specs.Block.{Cube, HoldsVoxel, side, block_of}
use Rattle.oct_key.specs.Order.{numbers_from}
use Rattle.oct_odds.specs.Update.{class_of}
use Rattle.oct_odds.specs.declared.event.Class.{Class}
use Rattle.oct_odds.specs.declared.event.Class.TheVariants.{Unknown, Free, Occupied}
use Rattle.oct_arena.specs.declared.node.Node.{Node}
use Rattle.oct_arena.specs.Nodes.{link_of, value_of}
use Rattle.oct_tree.specs.Tree.{Tree, IsLinked, reach}
use Rattle.oct_tree.proofs.Over.{reach_values}
use Rattle.oct_tree.proofs.Paths.{reach_home}
use Rattle.oct_values.specs.Classes.{Classes, is_same_class}
use Rattle.oct_tree.specs.Classes.{classes_in}
use Rattle.oct_export.specs.Bands.{has_class, shown, stronger, band_class}

-- ---- classes

pub occupied_shows : (a : Class) → stronger a Occupied ≡ Occupied
occupied_shows Unknown = refl
occupied_shows Free = refl
occupied_shows Occupied = refl

pub same_shows : (a : Class) → stronger a a ≡ a
same_shows Unknown = refl
same_shows Free = refl
same_shows Occupied = refl

-- ---- columns

pub shown_none : (c : Classes) (x y : ℕ) → shown c x y [] ≡ Unknown
unfolding shown
shown_none c x y = refl

-- what two parts of a column show together
pub shown_append : (c : Classes) (x y : ℕ) (zs ws : List ℕ) → shown c x y (zs ++ ws)
    ≡ stronger (shown c x y zs) (shown c x y ws)
unfolding shown
shown_append c x y zs ws =
    let taken = list_any-append (λ z. is_same_class (c (record { x = x; y = y; z = z })) Occupied)
    zs ws in
    let frees = list_any-append (λ z. is_same_class (c (record { x = x; y = y; z = z })) Free) zs ws
    in
    rw (taken, frees)
    (by (has_class c Occupied x y zs) (has_class c Occupied x y ws) (has_class c Free x y zs)
    (has_class c Free x y ws))
  where
    by : (p q f g : Bool) → cond {A = Class} (p || q) Occupied (cond (f || g) Free Unknown)
        ≡ stronger (cond p Occupied (cond f Free Unknown)) (cond q Occupied (cond g Free Unknown))
    by true q f g = refl
    by false true true g = refl
    by false true false g = refl
    by false false true true = refl
    by false false true false = refl
    by false false false true = refl
    by false false false false = refl

-- one voxel
shown_one : (c : Classes) (x y z : ℕ) → shown c x y (z ∷ []) ≡ c (record { x = x; y = y; z = z })
unfolding shown
shown_one c x y z = by (c (record { x = x; y = y; z = z })) refl
  where
    by : (k : Class) → c (record { x = x; y = y; z = z }) ≡ k → shown c x y (z ∷ [])
        ≡ c (record { x = x; y = y; z = z })
    by Unknown is = rw is refl
    by Free is = rw is refl
    by Occupied is = rw is refl

-- voxels of one class
pub shown_all : (c : Classes) (x y z n : ℕ) (k : Class)
    → ((m : ℕ) → z ≤ m → m < z + suc n → c (record { x = x; y = y; z = m }) ≡ k)
    → shown c x y (numbers_from z (suc n)) ≡ k
unfolding numbers_from
shown_all c x y z zero k h = shown_one c x y z ∙ h z (omega arith) (omega arith)
shown_all c x y z (suc n) k h =
    shown_append c x y (z ∷ []) (numbers_from (z + 1) (suc n))
    ∙ ap (λ a. stronger a (shown c x y (numbers_from (z + 1) (suc n))))
    (shown_one c x y z ∙ h z (omega arith) (omega arith))
    ∙ ap (stronger k)
    (shown_all c x y (z + 1) n k (λ m low high. h m (omega (arith, low)) (omega (arith, high))))
    ∙ same_shows k

-- numbers in two parts
pub numbers_append : (z n m : ℕ) → numbers_from z (n + m)
    ≡ numbers_from z n ++ numbers_from (z + n) m
unfolding numbers_from
numbers_append z zero m = (let a : 0 + m ≡ m = omega arith in let b : z + 0 ≡ z = omega arith in
    ap (numbers_from z) a ∙ ap (λ k. numbers_from k m) (sym b))
numbers_append z (suc n) m =
    (let a : suc n + m ≡ suc (n + m) = omega arith in let b : z + 1 + n ≡ z + suc n = omega arith in
    ap (numbers_from z) a
    ∙ ap (λ t. z ∷ t)
    (numbers_append (z + 1) n m ∙ ap (λ k. numbers_from (z + 1) n ++ numbers_from k m) b))

-- a column is shown from lo up to below z, and goes on with voxels of one class below next
pub shown_more : (c : Classes) (x y lo z next : ℕ) (a k : Class) → lo ≤ z → z < next
    → shown c x y (numbers_from lo (z - lo)) ≡ a
    → ((m : ℕ) → z ≤ m → m < next → c (record { x = x; y = y; z = m }) ≡ k)
    → shown c x y (numbers_from lo (next - lo)) ≡ stronger a k
shown_more c x y lo z next a k low up before here =
    let parts : next - lo ≡ (z - lo) + suc (next - z - 1) = omega (arith, low, up) in
    let from : lo + (z - lo) ≡ z = omega (arith, low) in
    ap (λ n. shown c x y (numbers_from lo n)) parts
    ∙ ap (shown c x y) (numbers_append lo (z - lo) (suc (next - z - 1)))
    ∙ shown_append c x y (numbers_from lo (z - lo))
    (numbers_from (lo + (z - lo)) (suc (next - z - 1)))
    ∙ ap (λ b. stronger b (shown c x y (numbers_from (lo + (z - lo)) (suc (next - z - 1))))) before
    ∙ ap (stronger a) (ap (λ n. shown c x y (numbers_from n (suc (next - z - 1)))) from
    ∙ shown_all c x y z (next - z - 1) k (λ m l h. here m l (omega (arith, h, up))))

-- one voxel of a column is occupied
pub shown_occupied : (c : Classes) (x y lo hi z : ℕ) → lo ≤ z → z ≤ hi
    → c (record { x = x; y = y; z = z }) ≡ Occupied
    → band_class c lo hi x y ≡ Occupied
shown_occupied c x y lo hi z low high is =
    let upto = shown_more c x y lo z (z + 1)
    (shown c x y (numbers_from lo (z - lo))) Occupied low (omega arith) refl
    (λ m l h. (let same : z ≡ m = omega (arith, l, h) in
    subst (λ n. c (record { x = x; y = y; z = n }) ≡ Occupied) same is)) in
    let first : shown c x y (numbers_from lo (z + 1 - lo)) ≡ Occupied =
    upto ∙ occupied_shows (shown c x y (numbers_from lo (z - lo))) in
    let parts : hi + 1 - lo ≡ (z + 1 - lo) + (hi - z) = omega (arith, low, high) in
    ap (λ n. shown c x y (numbers_from lo n)) parts
    ∙ ap (shown c x y) (numbers_append lo (z + 1 - lo) (hi - z))
    ∙ shown_append c x y (numbers_from lo (z + 1 - lo)) (numbers_from (lo + (z + 1 - lo)) (hi - z))
    ∙ ap (λ b. stronger b (shown c x y (numbers_from (lo + (z + 1 - lo)) (hi - z)))) first

-- ---- blocks

-- a node that isn't Inner gives its class to the voxels of the block
pub patch_class : (t : Tree) (k : Voxel) (d : ℕ) (n : Node) (class : Class) → d ≤ 16
    → n ≡ reach t d k → link_of n ≡ None
    → class ≡ class_of t.odds (value_of n) → (b : Cube) → b ≡ block_of d k → (j : Voxel)
    → HoldsVoxel b j → classes_in t j ≡ class
patch_class t k d n class low is none class_is b same j held =
    ap (class_of t.odds)
    (reach_values t k d low (ap link_of (sym is) ∙ none) j
    (subst (λ c. HoldsVoxel c j) same held) ∙ ap value_of (sym is))
    ∙ sym class_is

-- a voxel's node isn't Inner
pub voxel_leaf : (t : Tree) (k : Voxel) → IsLinked t → IsInMap k → link_of (reach t 16 k) ≡ None
unfolding block_of
voxel_leaf t k l ok = by (link_of (reach t 16 k)) refl
  where
    by : (o : Option ℕ) → link_of (reach t 16 k) ≡ o → link_of (reach t 16 k) ≡ None
    by None is = is
    by (Some x) is =
        absurd (let deep = (l.homes x (block_of 16 k) (reach_home t k l ok 16 x is (omega arith))).1
        in omega arith)

-- the end of a block is a number of the map
pub end_fits : (d n : ℕ) → d ≤ 16 → n < 2 ^ d → (n + 1) * side d ≤ 65536
end_fits d n l h =
    let next : (n + 1) * 2 ^ (16 - d) ≤ 2 ^ d * 2 ^ (16 - d) =
    mul-le-mul_right (2 ^ (16 - d)) (omega (arith, h)) in
    let all : d + (16 - d) ≡ 16 = omega (arith, l) in
    let whole : 2 ^ d * 2 ^ (16 - d) ≡ 65536 = sym (pow-add 2 d (16 - d))
    ∙ ap (λ (m : ℕ). 2 ^ m) all in
    omega (arith, next, whole)

pub some_side : (d n : ℕ) → 0 < (n + 1) * side d
some_side d n =
    (let some : 0 < 2 ^ (16 - d) = pow_pos (16 - d) in
    let grow : 1 * 2 ^ (16 - d) ≤ (n + 1) * 2 ^ (16 - d) =
    mul-le-mul_right (2 ^ (16 - d)) (omega arith) in omega (arith, some, grow))

-- the voxels of a block that holds this one, up to its last numbers on x and z
pub held_beside : (b : Cube) (x y z right n m : ℕ) → HoldsVoxel b (record { x = x; y = y; z = z })
    → right + 1 ≡ (b.x + 1) * side b.depth → x ≤ n → n ≤ right → z ≤ m
    → m < (b.z + 1) * side b.depth
    → HoldsVoxel b (record { x = n; y = y; z = m })
held_beside b x y z right n m h end low_n high_n low_m high_m = record {
  x = (let a = h.x.0 in (omega (arith, a, low_n), omega (arith, end, high_n)));
  y = h.y;
  z = (let a = h.z.0 in (omega (arith, a, low_m), high_m));
}

-- and the voxel itself is no further than these
pub held_right : (b : Cube) (x y z right : ℕ) → HoldsVoxel b (record { x = x; y = y; z = z })
    → right + 1 ≡ (b.x + 1) * side b.depth → x ≤ right
held_right b x y z right h end = (let a = h.x.1 in omega (arith, a, end))

pub held_top : (b : Cube) (x y z top : ℕ) → HoldsVoxel b (record { x = x; y = y; z = z })
    → top + 1 ≡ (b.z + 1) * side b.depth → z ≤ top
held_top b x y z top h end = (let a = h.z.1 in omega (arith, a, end))

-- before the first voxel nothing is shown
pub shown_start : (c : Classes) (x y lo n : ℕ) → n ≡ 0 → shown c x y (numbers_from lo n) ≡ Unknown
unfolding numbers_from
shown_start c x y lo n none = ap (λ m. shown c x y (numbers_from lo m)) none ∙ shown_none c x y

-- what a strip and a further patch show together
pub strip_more : (c : Classes) (b : Cube) (lo hi x y z right top next last : ℕ) (a k class : Class)
    → HoldsVoxel b (record { x = x; y = y; z = z }) → ((j : Voxel) → HoldsVoxel b j → c j ≡ k)
    → right + 1 ≡ (b.x + 1) * side b.depth → top + 1 ≡ (b.z + 1) * side b.depth
    → lo ≤ z → z ≤ hi → next ≤ top + 1 → z < next → class ≡ stronger a k
    → ((n : ℕ) → x ≤ n → n ≤ last → shown c n y (numbers_from lo (z - lo)) ≡ a)
    → (n : ℕ) → x ≤ n → n ≤ last → n ≤ right → shown c n y (numbers_from lo (next - lo)) ≡ class
strip_more c b lo hi x y z right top next last a k class held all end up low high few some is before
    n low_n high_n right_n =
    shown_more c n y lo z next a k low some (before n low_n high_n)
    (λ m l h. all (record { x = n; y = y; z = m })
    (held_beside b x y z right n m held end low_n right_n l (omega (arith, up, few, h))))
    ∙ sym is

-- a strip over a patch that is occupied
pub strip_occupied : (c : Classes) (b : Cube) (lo hi x y z right : ℕ) (k : Class)
    → HoldsVoxel b (record { x = x; y = y; z = z }) → ((j : Voxel) → HoldsVoxel b j → c j ≡ k)
    → k ≡ Occupied
    → right + 1 ≡ (b.x + 1) * side b.depth → lo ≤ z → z ≤ hi
    → (n : ℕ) → x ≤ n → n ≤ right → band_class c lo hi n y ≡ Occupied
strip_occupied c b lo hi x y z right k held all is end low high n low_n right_n =
    shown_occupied c n y lo hi z low high (all (record { x = n; y = y; z = z })
    (held_beside b x y z right n z held end low_n right_n (omega arith) held.z.1) ∙ is)

-- a strip at its end
pub strip_whole : (c : Classes) (lo hi x y z last : ℕ) (a : Class) → z ≡ hi + 1
    → ((n : ℕ) → x ≤ n → n ≤ last → shown c n y (numbers_from lo (z - lo)) ≡ a)
    → (n : ℕ) → x ≤ n → n ≤ last → band_class c lo hi n y ≡ a
strip_whole c lo hi x y z last a end before n low high =
    ap (λ m. shown c n y (numbers_from lo (m - lo))) (sym end) ∙ before n low high
