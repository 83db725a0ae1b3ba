-- What the voxels of a block are, from what those of its children are.
use Rattle.std.proofs.Common.{◌≡◌, ◌≢◌, ℕ, zero, suc, ◌+◌, ◌-◌, ◌*◌, ◌/◌, ◌%◌, ◌^◌, ◌<◌, ◌≤◌}
use Rattle.std.proofs.Common.{Option, Some, None, inl, inr, refl, sym, subst, ◌∙◌, ap, arith}
use Rattle.std.specs.Prelude.{is_some}
use Rattle.std.proofs.Math.Nat.{pow-suc, pow-le-pow_right, one-le-pow}
use Rattle.std.proofs.lemmas.Bool.{false≢true, cases_lt}
use Rattle.oct_key.specs.Voxel.{Voxel, IsInMap}
use Rattle.oct_key.specs.Block.{Cube, IsBlock, HoldsVoxel, child_of, lowest_voxel}
use Rattle.oct_key.proofs.Blocks.{child_in_map, depth_child_of, lowest_held}
use Rattle.oct_key.proofs.Held.{held_in_map, held_by_parent}
use Rattle.oct_odds.specs.Update.{Value, class_of}
use Rattle.oct_odds.specs.declared.event.Class.{Class}
use Rattle.oct_arena.specs.declared.node.GroupId.{GroupId}
use Rattle.oct_arena.specs.declared.node.Node.{Node}
use Rattle.oct_arena.specs.Nodes.{link_of, value_of}
use Rattle.oct_tree.specs.declared.place.Place.{Place}
use Rattle.oct_tree.specs.declared.place.Place.TheVariants.{Slot}
use Rattle.oct_tree.specs.Tree.{Tree, IsLinked, IsPlace, node_in, block_in, value_at}
use Rattle.oct_tree.proofs.Links.{place_in_map}
use Rattle.oct_tree.proofs.Paths.{some_injective, place_block, slot_place, slot_block, linked_block}
use Rattle.oct_bt.specs.declared.mixture.Mixture.{Mixture}
use Rattle.oct_bt.specs.declared.mixture.Mixture.TheVariants.{Pure, Mixed}
use Rattle.oct_values.specs.Classes.{Classes, class_of_block}
use Rattle.oct_bt.specs.Mixtures.{voxel_on, IsPureBefore, IsFirstOther, IsSearched}
use Rattle.oct_tree.specs.Classes.{classes_in}
use Rattle.oct_bt.specs.Mixtures.{IsMixtureOf, class_of_mixture}
use Rattle.oct_bt.proofs.Alike.{class_of_all, class_of_each}
use Rattle.oct_bt.proofs.Uniform.{one_class_up}

-- a block whose voxels all have this value is of its class
pub class_of_leaf : (t : Tree) (p : Place) (b : Cube) (value : Value) → IsLinked t → IsPlace t p
    → block_in t p ≡ Some b
    → ((k : Voxel) → IsInMap k → HoldsVoxel b k → value_at t k ≡ value)
    → class_of_block (classes_in t) b ≡ Some (class_of t.odds value)
class_of_leaf t p b value l place at h =
    let ok : IsBlock b = place_in_map t l p b place at in
    class_of_all (classes_in t) b (class_of t.odds value) ok (λ k held. ap (class_of t.odds)
    (h k (held_in_map b k ok held) held))

-- ---- ways

-- a way stays in its block
pub voxel_held : (h : ℕ) (b : Cube) (way : ℕ) → b.depth + h ≡ 16 → HoldsVoxel b (voxel_on h b way)
unfolding voxel_on
voxel_held zero b way all = lowest_held b
voxel_held (suc h) b way all =
    let deep = depth_child_of b (way % 8) in
    held_by_parent b (way % 8) (voxel_on h (child_of b (way % 8)) (way / 8)) (omega (arith, all))
    (omega arith)
    (voxel_held h (child_of b (way % 8)) (way / 8) (omega (arith, all, deep)))

-- nothing stands before the first voxel
before_first : (c : Classes) (x : Class) (h : ℕ) (b : Cube) → IsPureBefore c x h b 0
before_first c x zero b = tt
before_first c x (suc h) b = ((λ i less. absurd (omega arith)), before_first c x h (child_of b 0))

-- a block of another class differs at its first voxel
pub other_leaf : (c : Classes) (x y : Class) (h : ℕ) (b : Cube) → b.depth + h ≡ 16 → IsBlock b
    → class_of_block c b ≡ Some y → y ≢ x
    → IsFirstOther c x h b 0
other_leaf c x y h b all ok is ne = record {
  before = before_first c x h b;
  other = λ same. ne (sym (class_of_each c b y (voxel_on h b 0) ok is (voxel_held h b 0 all))
      ∙ same);
  short = one-le-pow h 8 (omega arith);
}

-- the children before this one are all of one class
abbrev pub ArePure : Classes → Cube → Class → ℕ → Type 0
ArePure c b x n = (i : ℕ) → i < n → class_of_block c (child_of b i) ≡ Some x

pub pure_next : (c : Classes) (b : Cube) (x : Class) (n : ℕ) → ArePure c b x n
    → class_of_block c (child_of b n) ≡ Some x
    → ArePure c b x (n + 1)
pure_next c b x n pure here i li = elim (cases_lt i n) [
  | inl before ↦ pure i before
  | inr last ↦ (let same : n ≡ i = omega arith in
      subst (λ (i : ℕ). class_of_block c (child_of b i) ≡ Some x) same here)
]

-- a child in which the first other voxel stands
pub other_child : (c : Classes) (x : Class) (h : ℕ) (b : Cube) (i way : ℕ) → i < 8 → ArePure c b x i
    → IsFirstOther c x h (child_of b i) way → IsFirstOther c x (suc h) b (i + 8 * way)
unfolding voxel_on
other_child c x h b i way li pure s = record {
  before = (
    subst (λ (n : ℕ). ArePure c b x n) (sym index) pure,
    subst (λ (n : ℕ). IsPureBefore c x h (child_of b n) ((i + 8 * way) / 8)) (sym index)
        (subst (λ (n : ℕ). IsPureBefore c x h (child_of b i) n) (sym rest) s.before),
  );
  other = subst (λ (n : ℕ). c (voxel_on h (child_of b n) ((i + 8 * way) / 8)) ≢ x) (sym index)
      (subst (λ (n : ℕ). c (voxel_on h (child_of b i) n) ≢ x) (sym rest) s.other);
  short = (let power = pow-suc 8 h in let few = s.short in omega (arith, power, few));
}
  where
    index : (i + 8 * way) % 8 ≡ i
    index = omega arith

    rest : (i + 8 * way) / 8 ≡ way
    rest = omega arith

-- some voxel before the end of a way
pure_voxel : (c : Classes) (x : Class) (h : ℕ) (b : Cube) (way : ℕ) → b.depth + h ≡ 16 → IsBlock b
    → 0 < way → way < 8 ^ h
    → IsPureBefore c x h b way → (k : Voxel) × HoldsVoxel b k × (c k ≡ x)
pure_voxel c x zero b way all ok some short before = absurd (omega arith)
pure_voxel c x (suc h) b way all ok some short (pure, before) = elim (cases_lt 0 (way % 8)) [
  | inl later ↦ (let child : Cube = child_of b 0 in (
    lowest_voxel child,
    held_by_parent b 0 (lowest_voxel child) (omega (arith, all)) (omega arith) (lowest_held child),
    class_of_each c child x (lowest_voxel child) (child_in_map b 0 ok (omega (arith, all)))
        (pure 0 later) (lowest_held child),
  ))
  | inr first ↦ (let deep = depth_child_of b (way % 8) in
      let power = pow-suc 8 h in
      let (k, held, is) = pure_voxel c x h (child_of b (way % 8)) (way / 8)
      (omega (arith, all, deep))
      (child_in_map b (way % 8) ok (omega (arith, all))) (omega (arith, some, first))
      (omega (arith, short, power)) before in
      (k, held_by_parent b (way % 8) k (omega (arith, all)) (omega arith) held, is))
]

-- a block of several classes isn't of one
pub mixed_is_varied : (c : Classes) (x : Class) (h : ℕ) (b : Cube) (way : ℕ) → b.depth + h ≡ 16
    → IsBlock b → 0 < way
    → IsFirstOther c x h b way → class_of_block c b ≡ None
mixed_is_varied c x h b way all ok some s =
    by (class_of_block c b) refl (pure_voxel c x h b way all ok some s.short s.before)
  where
    by : (o : Option Class) → class_of_block c b ≡ o → ((k : Voxel) × HoldsVoxel b k × (c k ≡ x))
        → class_of_block c b ≡ None
    by None is v = is
    by (Some y) is (k, held, here) =
        absurd (s.other (class_of_each c b y (voxel_on h b way) ok is (voxel_held h b way all)
        ∙ sym (class_of_each c b y k ok is held) ∙ here))

pub class_by_mixture : (c : Classes) (h : ℕ) (b : Cube) (m : Mixture) → b.depth + h ≡ 16 → IsBlock b
    → IsMixtureOf c h b m
    → class_of_block c b ≡ class_of_mixture m
class_by_mixture c h b (Pure x) all ok is = is
class_by_mixture c h b (Mixed x way) all ok is = mixed_is_varied c x h b way all ok is.0 is.1

-- ---- places

-- what is known of the block of an Inner place
pub inner_block : (t : Tree) (p : Place) (id : GroupId) (b : Cube) → IsLinked t → IsPlace t p
    → link_of (node_in t p) ≡ Some id.number
    → block_in t p ≡ Some b → IsBlock b × (b.depth < 16)
inner_block t p id b l place link at =
    let low = (l.homes id.number b (linked_block t l p id.number b link at)).1 in
    (place_in_map t l p b place at, omega arith)

-- what a call for a child asks
pub child_asked : (t : Tree) (p : Place) (d i : ℕ) (id : GroupId) → IsLinked t → IsPlace t p
    → ((b : Cube) → block_in t p ≡ Some b → b.depth ≡ d) → link_of (node_in t p) ≡ Some id.number
    → i < 8
    → IsPlace t (Slot id i) × ((b : Cube) → block_in t (Slot id i) ≡ Some b → b.depth ≡ d + 1)
    × (d + 1 ≤ 16)
child_asked t p d i id l place deep link li =
    let (a, at) = place_block t p place in
    let (ok, low) = inner_block t p id a l place link at in
    let same = deep a at in (
      slot_place t l p place id i link li,
      λ b there. (let child : child_of a i ≡ b =
          some_injective (sym (slot_block t l p id i a link at) ∙ there) in
          let down = ap (λ (c : Cube). c.depth) child in
          let next = depth_child_of a i in
          omega (arith, down, next, same)),
      omega (arith, low, same),
    )

-- what is asked of a child's block, in words of the block
pub record IsAbove (d : ℕ) (b : Cube) : Type 0 where
  pub ok : IsBlock b
  pub low : b.depth < 16
  pub depth : b.depth ≡ d
  pub next : 16 - d ≡ suc (16 - (d + 1))
  pub child : (i : ℕ) → (child_of b i).depth + (16 - (d + 1)) ≡ 16

pub linked_above : (t : Tree) (p : Place) (d : ℕ) (id : GroupId) (b : Cube) → IsLinked t
    → IsPlace t p
    → ((b : Cube) → block_in t p ≡ Some b → b.depth ≡ d) → link_of (node_in t p) ≡ Some id.number
    → block_in t p ≡ Some b → IsAbove d b
linked_above t p d id b l place deep link at =
    let (ok, low) = inner_block t p id b l place link at in
    let same = deep b at in
    record {
      ok = ok;
      low = low;
      depth = same;
      next = omega (arith, low, same);
      child = λ i. (let down = depth_child_of b i in omega (arith, down, low, same));
    }

-- all children searched
pub searched_all : (c : Classes) (x : Class) (d : ℕ) (b : Cube) (n : ℕ) → IsAbove d b → 8 ≤ n
    → ArePure c b x n
    → class_of_block c b ≡ Some x
searched_all c x d b n a all pure = one_class_up c b x a.ok a.low (λ i li. pure i (omega arith))

-- one child more has no other voxel
pub searched_pure : (c : Classes) (x : Class) (h : ℕ) (b : Cube) (n : ℕ) (o : Option ℕ)
    → ArePure c b x n → IsSearched c x h (child_of b n) o
    → ((way : ℕ) → o ≡ Some way → ⊥) → ArePure c b x (n + 1)
searched_pure c x h b n None pure is none = pure_next c b x n pure is
searched_pure c x h b n (Some way) pure is none = absurd (none way refl)

-- one child has
pub searched_other : (c : Classes) (x : Class) (d : ℕ) (b : Cube) (i way : ℕ) → IsAbove d b → i < 8
    → ArePure c b x i
    → IsFirstOther c x (16 - (d + 1)) (child_of b i) way → IsFirstOther c x (16 - d) b (i + 8 * way)
searched_other c x d b i way a li pure is =
    subst (λ (h : ℕ). IsFirstOther c x h b (i + 8 * way)) (sym a.next)
    (other_child c x (16 - (d + 1)) b i way li pure is)

-- the first child has
pub first_mixed : (c : Classes) (x : Class) (d : ℕ) (b : Cube) (way : ℕ) → IsAbove d b
    → (0 < way) × IsFirstOther c x (16 - (d + 1)) (child_of b 0) way
    → (0 < 8 * way) × IsFirstOther c x (16 - d) b (8 * way)
first_mixed c x d b way a (some, is) = (
  omega (arith, some),
  (let same : 0 + 8 * way ≡ 8 * way = omega arith in
      subst (λ (w : ℕ). IsFirstOther c x (16 - d) b w) same
      (searched_other c x d b 0 way a (omega arith) (λ i less. absurd (omega arith)) is)),
)

-- a way fits a word
pub way_fits : (d i way : ℕ) → i < 8 → way < 8 ^ (16 - (d + 1)) → i + 8 * way < 2 ^ 51
way_fits d i way li short =
    let most : 8 ^ (16 - (d + 1)) ≤ 8 ^ 16 =
    pow-le-pow_right {n = 8} (omega arith) {i = 16 - (d + 1)} {j = 16} (omega arith) in
    omega (arith, most, short, li)

-- the node over a block of several classes is Inner
pub never_leaf : (t : Tree) (p : Place) (n : Node) (c : Class) (d way : ℕ) → IsLinked t
    → IsPlace t p → link_of n ≡ None
    → ((b : Cube) → block_in t p ≡ Some b → b.depth ≡ d) → d ≤ 16
    → ((b : Cube) → block_in t p ≡ Some b → link_of n ≡ None → (k : Voxel) → IsInMap k
    → HoldsVoxel b k → value_at t k ≡ value_of n)
    → ((b : Cube) → block_in t p ≡ Some b
    → (0 < way) × IsFirstOther (classes_in t) c (16 - d) b way) → ⊥
never_leaf t p n c d way l place none deep low values mixed =
    let (b, at) = place_block t p place in
    let depth = deep b at in
    let (some, is) = mixed b at in
    false≢true (ap is_some
    (sym (mixed_is_varied (classes_in t) c (16 - d) b way (omega (arith, depth, low))
    (place_in_map t l p b place at) some is)
    ∙ class_of_leaf t p b (value_of n) l place at (values b at none)))
