-- How many groups a merge may take in a block: itself, and in its children.
use Rattle.std.proofs.Common.{◌≡◌, ℕ, zero, suc, ◌+◌, ◌-◌, ◌<◌, ◌≤◌, Bool, true, false, cond}
use Rattle.std.proofs.Common.{inl, inr, Some, None, refl, sym, ◌∙◌, ap, subst, arith}
use Rattle.std.specs.Prelude.{Option, ◌&&◌, ◌↔◌, IsTrue, not, is_some, sum_by, count_by}
use Rattle.std.proofs.lemmas.Bool.{false≢true}
use Rattle.oct_key.specs.Voxel.{Voxel, IsInMap}
use Rattle.oct_key.specs.Block.{Cube, IsBlock, HoldsVoxel, LiesIn, block_of, child_of, lowest_voxel}
use Rattle.oct_key.proofs.Blocks.{depth_block_of, depth_child_of, child_in_map, lowest_held}
use Rattle.oct_key.proofs.Blocks.{lowest_in_map, block_of_holds}
use Rattle.oct_key.proofs.Held.{held_by_parent, child_depths}
use Rattle.oct_key.proofs.Nested.{lies_in_depth}
use Rattle.oct_values.specs.Blocks.{blocks_below}
use Rattle.oct_values.proofs.Axes.{sum_below, sum_below_none, sum_below_next}
use Rattle.oct_values.proofs.Eights.{same_eight, none_of_eight}
use Rattle.oct_values.proofs.Listed.{sum_of_blocks, sum_of_no_blocks}
use Rattle.oct_arena.specs.declared.node.GroupId.{GroupId}
use Rattle.oct_arena.specs.declared.node.Node.{Node}
use Rattle.oct_arena.specs.Entries.{home_at, home_of}
use Rattle.oct_arena.specs.Nodes.{link_of}
use Rattle.oct_tree.specs.declared.place.Place.{Place}
use Rattle.oct_tree.specs.Tree.{IsOver, Tree, IsLinked, reach}
use Rattle.oct_tree.proofs.Paths.{some_not_none, reach_home, unlinked_step}
use Rattle.oct_edit.proofs.Joins.{IsUnfolded}
use Rattle.oct_edit.proofs.Counts.{sum_below_eight}
use Rattle.oct_merge.specs.Walk.{is_split, is_needed, need_in, is_common, common_in}
use Rattle.oct_merge.proofs.Known.{over_low}
use Rattle.oct_edit.proofs.NodesOver.{over_step}

-- by the nodes over a block
pub needed_by_nodes : (t o : Tree) (b : Cube) (m n : Node) → IsOver t b m → IsOver o b n
    → is_needed t o b ≡ (is_some (link_of n) && not (is_some (link_of m)))
needed_by_nodes t o b m n here there =
    ap (λ x. is_some (link_of x) && not (is_split t b)) (there (lowest_voxel b) (lowest_held b))
    ∙ ap (λ x. is_some (link_of n) && not (is_some (link_of x)))
    (here (lowest_voxel b) (lowest_held b))

-- a count over the blocks of a block: itself, and what its children count
count_of_children : (f : Cube → Bool) (b : Cube) → b.depth ≤ 15
    → count_by f (blocks_below (16 - b.depth) b)
    ≡ cond (f b) 1 0
    + sum_below (λ i. count_by f (blocks_below (16 - (child_of b i).depth) (child_of b i))) 8
count_of_children f b low =
    let level : 16 - b.depth ≡ suc (15 - b.depth) = omega arith in
    let whole : count_by f (blocks_below (16 - b.depth) b)
    ≡ sum_by (λ q. cond {A = ℕ} (f q) 1 0) (blocks_below (suc (15 - b.depth)) b) =
    ap (λ n. count_by f (blocks_below n b)) level in
    let split = sum_of_blocks (λ q. cond {A = ℕ} (f q) 1 0) (15 - b.depth) b in
    let each =
    same_eight
    (λ i. sum_by (λ q. cond {A = ℕ} (f q) 1 0) (blocks_below (15 - b.depth) (child_of b i)))
    (λ i. count_by f (blocks_below (16 - (child_of b i).depth) (child_of b i)))
    (λ i li. ap (λ n. count_by f (blocks_below n (child_of b i))) (child_level i)) in
    let eight =
    sum_below_eight
    (λ i. count_by f (blocks_below (16 - (child_of b i).depth) (child_of b i))) in
    omega (arith, whole, split, each, eight)
  where
    child_level : (i : ℕ) → 15 - b.depth ≡ 16 - (child_of b i).depth
    child_level i = (let deep = depth_child_of b i in omega (arith, deep))

pub need_of_children : (t o : Tree) (b : Cube) → b.depth ≤ 15
    → need_in t o b ≡ cond (is_needed t o b) 1 0 + sum_below (λ i. need_in t o (child_of b i)) 8
need_of_children t o b low = count_of_children (is_needed t o) b low

pub common_of_children : (t o : Tree) (b : Cube) → b.depth ≤ 15
    → common_in t o b
    ≡ cond (is_common t o b) 1 0 + sum_below (λ i. common_in t o (child_of b i)) 8
common_of_children t o b low = count_of_children (is_common t o) b low

-- nothing is counted where a tree has no groups, and each block that counts has one
none_below : (t : Tree) (f : Cube → Bool) → ((q : Cube) → is_split t q ≡ false → f q ≡ false)
    → (h : ℕ) (b : Cube) (n : Node) → b.depth + h ≡ 16 → IsOver t b n → link_of n ≡ None
    → count_by f (blocks_below h b) ≡ 0
none_below t f only zero b n d over plain = sum_of_no_blocks (λ q. cond {A = ℕ} (f q) 1 0) b
none_below t f only (suc h) b n d over plain =
    let all = sum_of_blocks (λ q. cond {A = ℕ} (f q) 1 0) h b in
    let test : is_split t b ≡ false =
    ap (λ m. is_some (link_of m)) (over (lowest_voxel b) (lowest_held b)) ∙ ap is_some plain in
    let here : cond {A = ℕ} (f b) 1 0 ≡ 0 = ap (λ a. cond {A = ℕ} a 1 0) (only b test) in
    let rest = none_of_eight (λ i. count_by f (blocks_below h (child_of b i)))
    (λ i li. none_below t f only h (child_of b i) n (child_depths b h i d)
    (subst (IsOver t (child_of b i)) (unlinked_step t.groups n i plain)
    (over_step t b n i (omega (arith, d)) li over)) plain) in
    omega (arith, all, here, rest)

neither : (a : Bool) → (a && false) ≡ false
neither true = refl
neither false = refl

pub common_none : (t o : Tree) (b : Cube) (m : Node) → b.depth ≤ 16 → IsOver t b m
    → link_of m ≡ None → common_in t o b ≡ 0
common_none t o b m top over plain =
    none_below t (is_common t o)
    (λ q e. ap (λ a. is_split o q && a) e ∙ neither (is_split o q)) (16 - b.depth) b m
    (omega (arith, top)) over plain

pub common_none_there : (t o : Tree) (b : Cube) (n : Node) → b.depth ≤ 16 → IsOver o b n
    → link_of n ≡ None → common_in t o b ≡ 0
common_none_there t o b n top over plain =
    none_below o (is_common t o) (λ q e. ap (λ a. a && is_split t q) e) (16 - b.depth) b n
    (omega (arith, top)) over plain

-- what is needed depends on where the first tree has groups
alike_below : (t w o : Tree) (h : ℕ) (b : Cube) → IsBlock b → b.depth + h ≡ 16
    → ((d : ℕ) (k : Voxel) → b.depth ≤ d → d ≤ 16 → IsInMap k → HoldsVoxel b k
    → is_some (link_of (reach w d k)) ≡ is_some (link_of (reach t d k)))
    → count_by (is_needed w o) (blocks_below h b) ≡ count_by (is_needed t o) (blocks_below h b)
alike_below t w o zero b ok d same =
    sum_of_no_blocks (λ q. cond {A = ℕ} (is_needed w o q) 1 0) b
    ∙ sym (sum_of_no_blocks (λ q. cond {A = ℕ} (is_needed t o q) 1 0) b)
alike_below t w o (suc h) b ok d same =
    let one = sum_of_blocks (λ q. cond {A = ℕ} (is_needed w o q) 1 0) h b in
    let other = sum_of_blocks (λ q. cond {A = ℕ} (is_needed t o q) 1 0) h b in
    let here : cond {A = ℕ} (is_needed w o b) 1 0 ≡ cond {A = ℕ} (is_needed t o b) 1 0 =
    ap (λ test. cond {A = ℕ} (is_split o b && not test) 1 0)
    (same b.depth (lowest_voxel b) (omega arith) ok.depth (lowest_in_map b ok)
    (lowest_held b)) in
    let each =
    same_eight (λ i. count_by (is_needed w o) (blocks_below h (child_of b i)))
    (λ i. count_by (is_needed t o) (blocks_below h (child_of b i)))
    (λ i li. alike_below t w o h (child_of b i) (child_in_map b i ok (omega (arith, d)))
    (child_depths b h i d)
    (λ e k low high v held. same e k (let deep = depth_child_of b i in omega (arith, deep, low))
    high v (held_by_parent b i k (omega (arith, d)) li held))) in
    omega (arith, one, other, here, each)

pub need_alike : (t w o : Tree) (b : Cube) → IsBlock b
    → ((d : ℕ) (k : Voxel) → b.depth ≤ d → d ≤ 16 → IsInMap k → HoldsVoxel b k
    → is_some (link_of (reach w d k)) ≡ is_some (link_of (reach t d k)))
    → need_in w o b ≡ need_in t o b
need_alike t w o b ok same =
    (let top = ok.depth in alike_below t w o (16 - b.depth) b ok (omega (arith, top)) same)

-- below a block that is entered, groups are where they were
pub unfolded_alike : (t s : Tree) (p : Place) (b : Cube) (id : GroupId) → IsLinked t
    → IsUnfolded t s p b id false
    → (d : ℕ) (k : Voxel) → b.depth < d → d ≤ 16 → IsInMap k
    → is_some (link_of (reach s d k)) ≡ is_some (link_of (reach t d k))
unfolded_alike t s p b id l e d k below m v =
    go (link_of (reach s d k)) (link_of (reach t d k)) refl refl
  where
    deep : (block_of d k).depth ≡ d
    deep = depth_block_of d k

    -- the group of the block in a tree is what the path comes to there
    found : (u : Tree) (x : ℕ) → IsLinked u → home_at u.groups x ≡ Some (block_of d k)
        → link_of (reach u d k) ≡ Some x
    found u x lu home =
        subst (λ n. link_of (reach u n k) ≡ Some x) deep
        (lu.reached x (block_of d k) home k v (block_of_holds d k))

    apart : LiesIn b (block_of d k) → ⊥
    apart lies =
        (let above = lies_in_depth b (block_of d k) (omega (arith, deep, m)) lies in
        absurd (omega (arith, above, deep, below)))

    go : (x y : Option ℕ) → link_of (reach s d k) ≡ x → link_of (reach t d k) ≡ y
        → is_some (link_of (reach s d k)) ≡ is_some (link_of (reach t d k))
    go None None here there = ap is_some here ∙ sym (ap is_some there)
    go (Some x) (Some y) here there = ap is_some here ∙ sym (ap is_some there)
    go (Some x) None here there =
        let home = reach_home s k e.linked v d x here m in
        elim (e.homes x (block_of d k) home) [
          | inl old ↦ absurd (some_not_none (found t x l old) there)
          | inr (itself, _) ↦ (let level : (block_of d k).depth ≡ b.depth =
              ap (λ (c : Cube). c.depth) itself in
              absurd (omega (arith, deep, level, below)))
        ]
    go None (Some y) here there =
        (let home = reach_home t k l v d y there m in
        let kept = e.local.kept y (block_of d k) apart home in
        absurd (some_not_none (found s y e.linked (ap home_of kept ∙ home)) here))

-- a block whose node links a group in both trees counts
pub common_here : (t o : Tree) (b : Cube) (m n : Node) (theirs mine : Bool) → IsOver t b m
    → IsOver o b n → theirs ≡ false → mine ≡ false
    → IsTrue theirs ↔ (link_of n ≡ None) → IsTrue mine ↔ (link_of m ≡ None)
    → cond {A = ℕ} (is_common t o b) 1 0 ≡ 1
common_here t o b m n theirs mine here there fails fails_too is_theirs is_mine =
    go (link_of m) (link_of n) refl refl
  where
    by_nodes : is_common t o b ≡ (is_some (link_of n) && is_some (link_of m))
    by_nodes =
        ap (λ x. is_some (link_of x) && is_split t b) (there (lowest_voxel b) (lowest_held b))
        ∙ ap (λ x. is_some (link_of n) && is_some (link_of x))
        (here (lowest_voxel b) (lowest_held b))

    go : (x y : Option ℕ) → link_of m ≡ x → link_of n ≡ y
        → cond {A = ℕ} (is_common t o b) 1 0 ≡ 1
    go x None ex ey = absurd (false≢true (sym fails ∙ is_theirs.1 ey))
    go None (Some y) ex ey = absurd (false≢true (sym fails_too ∙ is_mine.1 ex))
    go (Some x) (Some y) ex ey = ap (λ test. cond {A = ℕ} test 1 0) by_nodes ∙ rw (ex, ey) refl

-- no voxel's
pub linked_low : (o : Tree) (b : Cube) (n : Node) (theirs : Bool) → IsLinked o → IsBlock b
    → IsOver o b n → theirs ≡ false
    → IsTrue theirs ↔ (link_of n ≡ None) → b.depth ≤ 15
linked_low o b n theirs l ok over fails is = go (link_of n) refl
  where
    go : (y : Option ℕ) → link_of n ≡ y → b.depth ≤ 15
    go None e = absurd (false≢true (sym fails ∙ is.1 e))
    go (Some y) e = over_low o b n y l ok over e

-- the sum on its way
pub sum_next : (f : ℕ → ℕ) (first need more i : ℕ) → need ≡ first + sum_below f i → more ≡ f i
    → need + more ≡ first + sum_below f (i + 1)
sum_next f first need more i sum is = let next = sum_below_next f i in omega (arith, sum, is, next)

pub sum_first : (f : ℕ → ℕ) (first need : ℕ) → need ≡ first → need ≡ first + sum_below f 0
sum_first f first need is = let none = sum_below_none f in omega (arith, is, none)

pub sum_last : (f : ℕ → ℕ) (first need i all : ℕ) → i ≡ 8 → need ≡ first + sum_below f i
    → all ≡ first + sum_below f 8 → need ≡ all
sum_last f first need i all end sum whole = sum ∙ ap (λ n. first + sum_below f n) end ∙ sym whole
