-- One look at a block: whether it meets the box, and what follows from its nodes.
use Rattle.std.proofs.Common.{◌≡◌, ℕ, ◌-◌, ◌/◌, ◌<◌, ◌≤◌, ◌↔◌, Bool, [], ◌∷◌, Option, Some, None}
use Rattle.std.proofs.Common.{refl, sym, ap, subst, ◌∙◌, arith}
use Rattle.std.specs.Prelude.{IsTrue, ◌&&◌}
use Rattle.oct_key.specs.Voxel.{Voxel}
use Rattle.oct_key.specs.Block.{Cube, IsBlock, block_of, child_of, lowest_voxel, side}
use Rattle.oct_key.specs.Boxes.{IsBetween, IsBox, MeetsBox, MeetsSpan}
use Rattle.oct_key.specs.CubeOf.{cube_of}
use Rattle.oct_key.specs.declared.block.Block.{Block}
use Rattle.oct_key.proofs.Blocks.{block_in_map, child_in_map, lowest_held, lowest_in_map}
use Rattle.oct_odds.specs.Update.{class_of}
use Rattle.oct_odds.specs.Odds.{Odds}
use Rattle.oct_odds.specs.declared.event.Class.TheVariants.{Free}
use Rattle.oct_arena.specs.declared.node.Node.{Node}
use Rattle.oct_arena.specs.declared.node.Node.TheVariants.{Absent, Leaf, Inner}
use Rattle.oct_arena.specs.Nodes.{link_of, value_of}
use Rattle.oct_tree.specs.Tree.{Tree, value_at}
use Rattle.oct_tree.proofs.Over.{over_value, over_home}
use Rattle.oct_key.proofs.BoxBlocks.{meets_each, meets_by_division}
use Rattle.oct_frontier.specs.declared.patch.Sides.{Sides}
use Rattle.oct_frontier.specs.declared.patch.Patch.{Patch}
use Rattle.oct_frontier.specs.Found.{found_in}
use Rattle.oct_frontier.specs.Patches.{IsLeaf, IsPatchOf, AreAround, AreLeaves, IsOpen, child_node}
use Rattle.oct_frontier.specs.Patches.{child_x, child_y, child_z}
use Rattle.oct_frontier.proofs.Steps.{around_child}
use Rattle.oct_frontier.proofs.Faces.{enclosed_held, voxel_block}
use Rattle.oct_frontier.proofs.Neighbours.{open_voxel}
use Rattle.oct_frontier.proofs.Founds.{found_none, pass_beyond, unknown_none, take_voxel}

-- the numbers of a block lie between those of the blocks of the corners where it meets their box
pub meets_by_blocks : (lo hi : Voxel) (b f l : Cube) (x y z r : Bool) → IsBox lo hi
    → f ≡ block_of b.depth lo → l ≡ block_of b.depth hi → IsTrue x ↔ IsBetween f.x l.x b.x
    → IsTrue y ↔ IsBetween f.y l.y b.y → IsTrue z ↔ IsBetween f.z l.z b.z → r ≡ (x && y && z)
    → IsTrue r ↔ MeetsBox lo hi b
unfolding block_of
meets_by_blocks lo hi b f l x y z r box ef el ex ey ez er =
    subst (λ q. IsTrue q ↔ MeetsBox lo hi b) (sym er)
    (meets_each lo hi b x y z box
    (axis lo.x hi.x b.x f.x l.x x (ap (λ (c : Cube). c.x) ef) (ap (λ (c : Cube). c.x) el) ex)
    (axis lo.y hi.y b.y f.y l.y y (ap (λ (c : Cube). c.y) ef) (ap (λ (c : Cube). c.y) el) ey)
    (axis lo.z hi.z b.z f.z l.z z (ap (λ (c : Cube). c.z) ef) (ap (λ (c : Cube). c.z) el) ez))
  where
    axis : (low high n q p : ℕ) (test : Bool) → q ≡ low / side b.depth → p ≡ high / side b.depth
        → IsTrue test ↔ IsBetween q p n → IsTrue test ↔ MeetsSpan low high b.depth n
    axis low high n q p test eq ep (to, from) = (
      λ h. (let (first, last) = to h in
          (meets_by_division low high b.depth n).0
          (subst (λ (m : ℕ). m ≤ n) eq first, subst (λ (m : ℕ). n ≤ m) ep last)),
      λ s. (let (first, last) = (meets_by_division low high b.depth n).1 s in
          from (subst (λ (m : ℕ). m ≤ n) (sym eq) first, subst (λ (m : ℕ). n ≤ m) (sym ep) last)),
    )

-- a node that makes its voxels free is a leaf
free_leaf : (odds : Odds) (node : Node) → class_of odds (value_of node) ≡ Free → IsLeaf node
free_leaf odds Absent e = cc
free_leaf odds (Leaf v) e = (v, refl)
free_leaf odds (Inner v id) e = cc

-- a voxel's node links no group
voxel_plain : (t : Tree) (b : Cube) (node : Node) (x y z : Sides) → IsBlock b
    → AreAround t b node x y z
    → b.depth ≡ 16 → link_of node ≡ None
voxel_plain t b node x y z ok around e = by_link (link_of node) refl
  where
    by_link : (o : Option ℕ) → link_of node ≡ o → link_of node ≡ None
    by_link None is = is
    by_link (Some id) is = (let
        above = (around.linked.homes id b
        (over_home t b node id around.linked ok around.here is)).1 in
        absurd (omega (arith, above, e)))

-- by the nodes over a block and beside it, it may have voxels at the frontier
abbrev MayHave : Tree → Node → Sides → Sides → Sides → Type 0
MayHave t node x y z = link_of node ≡ None
    → (class_of t.odds (value_of node) ≡ Free) × (AreLeaves x y z → ⊥)

-- where it may have none, none is found
closed_block : (t : Tree) (lo hi : Voxel) (b : Cube) (node : Node) (x y z : Sides) → IsBlock b
    → AreAround t b node x y z → (MayHave t node x y z → ⊥) → found_in t lo hi b ≡ []
closed_block t lo hi b node x y z ok around closed =
    found_none t lo hi b ok (λ k held _ h. closed (λ none.
    (let free = ap (class_of t.odds) (sym (over_value t b node ok.depth around.here none k held))
    ∙ h.0 in (
      free,
      λ leaves. (let (j, v, near, unknown) = h.1 in
          enclosed_held t (16 - b.depth) b node x y z ok
          (let deep = ok.depth in omega (arith, deep)) around
          (free_leaf t.odds node free) leaves k held j v near
          (unknown_none t.odds (value_at t j) unknown)),
    ))))

-- a voxel that may be there is found
open_block : (t : Tree) (lo hi : Voxel) (b : Cube) (node : Node) (x y z : Sides) → IsBlock b
    → AreAround t b node x y z → b.depth ≡ 16 → MeetsBox lo hi b → MayHave t node x y z
    → found_in t lo hi b ≡ lowest_voxel b ∷ []
open_block t lo hi b node x y z ok around e meets may =
    let none = voxel_plain t b node x y z ok around e in
    let value = over_value t b node ok.depth around.here none (lowest_voxel b) (lowest_held b) in
    take_voxel t lo hi b e meets (ap (class_of t.odds) value ∙ (may none).0)
    (open_voxel t (lowest_voxel b) node x y z (lowest_in_map b ok)
    (subst (λ c. AreAround t c node x y z) (voxel_block b (lowest_voxel b) e (lowest_held b))
    around) (may none).1)

-- the nodes around a child of a patch's block
around_look : (t : Tree) (p : Patch) (i : ℕ) → IsPatchOf t p → p.block.depth ≤ 15 → i < 8
    → AreAround t (child_of (cube_of p.block) i) (child_node t p i) (child_x t p i) (child_y t p i)
    (child_z t p i)
around_look t p i is low li =
    around_child t (cube_of p.block) i p.here p.x p.y p.z (block_in_map p.block) low li is

-- in a child beyond the corners nothing is found
pub look_beyond : (t : Tree) (lo hi : Voxel) (p c : Block) (i : ℕ)
    → cube_of c ≡ child_of (cube_of p) i
    → (MeetsBox lo hi (cube_of c) → ⊥) → found_in t lo hi (child_of (cube_of p) i) ≡ []
look_beyond t lo hi p c i same beyond =
    subst (λ b. found_in t lo hi b ≡ []) same
    (pass_beyond t lo hi (cube_of c) (block_in_map c) beyond)

child_ok : (p : Patch) (i : ℕ) → p.block.depth ≤ 15 → IsBlock (child_of (cube_of p.block) i)
child_ok p i low = child_in_map (cube_of p.block) i (block_in_map p.block) (omega arith)

-- in a child that isn't open nothing is found
pub look_closed : (t : Tree) (lo hi : Voxel) (p : Patch) (i : ℕ) → IsPatchOf t p
    → p.block.depth ≤ 15
    → i < 8 → (IsOpen t p i → ⊥) → found_in t lo hi (child_of (cube_of p.block) i) ≡ []
look_closed t lo hi p i is low li closed =
    closed_block t lo hi (child_of (cube_of p.block) i) _ _ _ _ (child_ok p i low)
    (around_look t p i is low li) closed

-- an open child that is a voxel is found
pub look_voxel : (t : Tree) (lo hi : Voxel) (p : Patch) (c : Block) (i : ℕ) → IsPatchOf t p
    → p.block.depth ≤ 15 → i < 8 → cube_of c ≡ child_of (cube_of p.block) i → c.depth ≡ 16
    → MeetsBox lo hi (cube_of c) → IsOpen t p i
    → found_in t lo hi (child_of (cube_of p.block) i) ≡ lowest_voxel (cube_of c) ∷ []
look_voxel t lo hi p c i is low li same e meets may =
    open_block t lo hi (child_of (cube_of p.block) i) _ _ _ _ (child_ok p i low)
    (around_look t p i is low li)
    (ap (λ (b : Cube). b.depth) (sym same) ∙ e) (subst (MeetsBox lo hi) same meets) may
    ∙ ap (λ b. lowest_voxel b ∷ []) (sym same)
