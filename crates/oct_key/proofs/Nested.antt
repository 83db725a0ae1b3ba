-- Which blocks lie in which.
use Rattle.std.proofs.Common.{◌≡◌, ℕ, zero, suc, ◌+◌, ◌-◌, ◌%◌, ◌<◌, ◌≤◌, refl, sym, ◌∙◌, ap, subst}
use Rattle.std.proofs.Common.{arith, inl, inr}
use Rattle.std.specs.Prelude.{◌≢◌, ◌⊎◌}
use Rattle.std.proofs.lemmas.Bool.{cases_lt}
use Rattle.oct_key.specs.Voxel.{Voxel}
use Rattle.oct_key.specs.Block.{Cube, IsBlock, HoldsVoxel, LiesIn, block_of, child_of}
use Rattle.oct_key.specs.Block.{child_index_of, parent_of, root_block, lowest_voxel}
use Rattle.oct_key.proofs.Blocks.{child_index_below, block_step, child_injective, block_of_root}
use Rattle.oct_key.proofs.Blocks.{depth_child_of, block_of_holds, block_of_held, lowest_held}
use Rattle.oct_key.proofs.Blocks.{lowest_in_map, parent_of_block_of, child_holds, same_cube}

-- a block lies in itself
pub lies_in_self : (b : Cube) → LiesIn b b
lies_in_self b k h = h

pub lies_in_trans : (a b c : Cube) → LiesIn a b → LiesIn b c → LiesIn a c
lies_in_trans a b c f g k h = g k (f k h)

-- child i counts its eight over and over
child_again : (b : Cube) (i : ℕ) → child_of b i ≡ child_of b (i % 8)
unfolding child_of
child_again b i = same_cube _ _ refl (omega arith) (omega arith) (omega arith)

-- a child lies in its block
pub child_lies_in : (b : Cube) (i : ℕ) → b.depth ≤ 15 → LiesIn (child_of b i) b
child_lies_in b i low k h =
    ((child_holds b (i % 8) k (omega arith) (omega arith)).0
    (subst (λ c. HoldsVoxel c k) (child_again b i) h)).0

-- what lies in one child of a block lies in no other
pub apart : (b c : Cube) (i j : ℕ) → b.depth ≤ 15 → i < 8 → j < 8 → i ≢ j → LiesIn c (child_of b i)
    → LiesIn c (child_of b j) → ⊥
apart b c i j low li lj ne f g =
    let k = lowest_voxel c in
    let x = ((child_holds b i k (omega arith) li).0 (f k (lowest_held c))).1 in
    let y = ((child_holds b j k (omega arith) lj).0 (g k (lowest_held c))).1 in
    ne (sym x ∙ y)

-- a block does not lie in its child
pub parent_apart : (b : Cube) (i : ℕ) → b.depth ≤ 15 → i < 8 → LiesIn b (child_of b i) → ⊥
parent_apart b zero low li f =
    apart b (child_of b 1) 1 0 low (omega arith) (omega arith) (omega arith)
    (lies_in_self (child_of b 1)) (λ k h. f k (child_lies_in b 1 low k h))
parent_apart b (suc i) low li f =
    apart b (child_of b 0) 0 (suc i) low (omega arith) li (omega arith)
    (lies_in_self (child_of b 0)) (λ k h. f k (child_lies_in b 0 low k h))

-- a block that holds a voxel which another does not hold does not lie in it
pub holds_apart : (b c : Cube) (k : Voxel) → HoldsVoxel c k → (HoldsVoxel b k → ⊥) → LiesIn c b → ⊥
holds_apart b c k h out f = out (f k h)

-- the block of a child that does not lie in a block does not lie there
pub parent_outside : (h b : Cube) (i : ℕ) → h.depth ≤ 15 → (LiesIn (child_of h i) b → ⊥)
    → LiesIn h b → ⊥
parent_outside h b i low out f = out (λ k g. f k (child_lies_in h i low k g))

-- voxels of one block are of one block of each lesser depth
pub same_above : (d m : ℕ) (j k : Voxel) → d + m ≤ 16 → block_of (d + m) j ≡ block_of (d + m) k
    → block_of d j ≡ block_of d k
same_above d zero j k l e =
    (let same : d + 0 ≡ d = omega arith in subst (λ n. block_of n j ≡ block_of n k) same e)
same_above d (suc m) j k l e =
    let same : d + suc m ≡ (d + m) + 1 = omega arith in
    let below = subst (λ n. block_of n j ≡ block_of n k) same e in
    same_above d m j k (omega arith)
    (sym (parent_of_block_of (d + m) j (omega arith)) ∙ ap parent_of below
    ∙ parent_of_block_of (d + m) k
    (omega arith))

pub same_block_above : (c : Cube) (d : ℕ) (j k : Voxel) → c.depth ≤ 16 → d ≤ c.depth
    → HoldsVoxel c j → HoldsVoxel c k
    → block_of d j ≡ block_of d k
same_block_above c d j k l m g h =
    let e : block_of c.depth j ≡ block_of c.depth k =
    block_of_held c j g ∙ sym (block_of_held c k h) in
    let same : c.depth ≡ d + (c.depth - d) = omega arith in
    same_above d (c.depth - d) j k (omega arith) (subst (λ n. block_of n j ≡ block_of n k) same e)

-- a block lies in the block of each lesser depth that holds one of its voxels
pub lies_in_block_of : (c : Cube) (d : ℕ) (k : Voxel) → c.depth ≤ 16 → d ≤ c.depth → HoldsVoxel c k
    → LiesIn c (block_of d k)
lies_in_block_of c d k l m h j g =
    subst (λ b. HoldsVoxel b j) (same_block_above c d j k l m g h) (block_of_holds d j)

-- each block lies in the whole map
pub lies_in_root : (c : Cube) → IsBlock c → LiesIn c root_block
lies_in_root c of =
    let k = lowest_voxel c in
    subst (LiesIn c) (block_of_root k (lowest_in_map c of))
    (lies_in_block_of c 0 k of.depth (omega arith) (lowest_held c))

-- child i of a block has a voxel, which the block holds
child_voxel : (c : Cube) (i : ℕ) → c.depth ≤ 15 → HoldsVoxel c (lowest_voxel (child_of c i))
child_voxel c i l = child_lies_in c i l (lowest_voxel (child_of c i)) (lowest_held (child_of c i))

child_found : (c : Cube) (i : ℕ)
    → block_of (c.depth + 1) (lowest_voxel (child_of c i)) ≡ child_of c i
child_found c i =
    ap (λ n. block_of n (lowest_voxel (child_of c i))) (sym (depth_child_of c i))
    ∙ block_of_held (child_of c i)
    (lowest_voxel (child_of c i)) (lowest_held (child_of c i))

-- what lies in a block is no larger
pub lies_in_depth : (c b : Cube) → b.depth ≤ 16 → LiesIn c b → b.depth ≤ c.depth
lies_in_depth c b l f = elim (cases_lt c.depth b.depth) [
  | inl m ↦ absurd (larger m)
  | inr m ↦ m
]
  where
    larger : c.depth < b.depth → ⊥
    larger m =
        let low : c.depth ≤ 15 = omega arith in
        let same =
        same_block_above b (c.depth + 1) (lowest_voxel (child_of c 0))
        (lowest_voxel (child_of c 1)) l (omega arith)
        (f (lowest_voxel (child_of c 0)) (child_voxel c 0 low))
        (f (lowest_voxel (child_of c 1)) (child_voxel c 1 low)) in
        let children : child_of c 0 ≡ child_of c 1 =
        sym (child_found c 0) ∙ same ∙ child_found c 1 in
        let number : ◌≡◌ {A = ℕ} 0 1 =
        (child_injective c c 0 1 (omega arith) (omega arith) children).1 in
        omega arith

-- what lies in a block is the block or lies in one of its children
pub lies_in_cases : (c b : Cube) → c.depth ≤ 16 → b.depth ≤ 16 → LiesIn c b
    → (c ≡ b) ⊎ ((b.depth < c.depth) × ((i : ℕ) × (i < 8) × LiesIn c (child_of b i)))
lies_in_cases c b l m f = elim (cases_lt b.depth c.depth) [
  | inl deep ↦ inr (deep, deeper deep)
  | inr high ↦ inl (same high)
]
  where
    here : HoldsVoxel b (lowest_voxel c)
    here = f (lowest_voxel c) (lowest_held c)

    same : c.depth ≤ b.depth → c ≡ b
    same high =
        let low = lies_in_depth c b m f in
        let depth : c.depth ≡ b.depth = omega arith in
        sym (block_of_held c (lowest_voxel c) (lowest_held c))
        ∙ ap (λ n. block_of n (lowest_voxel c)) depth ∙ block_of_held b
        (lowest_voxel c) here

    deeper : b.depth < c.depth → (i : ℕ) × (i < 8) × LiesIn c (child_of b i)
    deeper deep =
        let child : block_of (b.depth + 1) (lowest_voxel c)
        ≡ child_of b (child_index_of b.depth (lowest_voxel c)) =
        block_step b.depth
        (lowest_voxel c) (omega arith)
        ∙ ap (λ a. child_of a (child_index_of b.depth (lowest_voxel c)))
        (block_of_held b (lowest_voxel c) here) in (
          child_index_of b.depth (lowest_voxel c),
          child_index_below b.depth (lowest_voxel c),
          subst (LiesIn c) child
              (lies_in_block_of c (b.depth + 1) (lowest_voxel c) l (omega arith)
              (lowest_held c)),
        )

-- the block of a child that lies deeper in another lies in that one too
pub parent_lies_in : (h b : Cube) (i : ℕ) → h.depth ≤ 15 → b.depth ≤ 16
    → b.depth < (child_of h i).depth → LiesIn (child_of h i) b → LiesIn h b
parent_lies_in h b i l m deep f =
    let depth = depth_child_of h i in
    let k = lowest_voxel (child_of h i) in
    let inside : HoldsVoxel b k = f k (lowest_held (child_of h i)) in
    subst (LiesIn h) (block_of_held b k inside)
    (lies_in_block_of h b.depth k (omega arith) (omega arith) (child_voxel h i l))
