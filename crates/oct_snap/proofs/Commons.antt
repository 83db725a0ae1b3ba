-- The one value of a block, from those of its children.
use Rattle.std.proofs.Common.{◌≡◌, ℕ, ◌+◌, ◌<◌, ◌≤◌, Option, Some, None, refl, sym, ◌∙◌, ap, subst}
use Rattle.std.proofs.Common.{arith, inl, inr}
use Rattle.std.specs.Prelude.{is_some}
use Rattle.std.proofs.lemmas.Bool.{false≢true, cases_lt}
use Rattle.oct_key.specs.Voxel.{Voxel, IsInMap}
use Rattle.oct_key.specs.Values.{Values}
use Rattle.oct_key.specs.Block.{Cube, IsBlock, HoldsVoxel, child_of, child_index_of}
use Rattle.oct_key.proofs.Blocks.{child_in_map, child_index_below}
use Rattle.oct_key.proofs.Held.{held_in_map, held_by_parent, held_by_child}
use Rattle.oct_odds.specs.Update.{Value}
use Rattle.oct_values.specs.Counts.{is_same_value}
use Rattle.oct_values.proofs.Alike.{answer_of_all, answer_of_each}
use Rattle.oct_values.proofs.Uniform.{same_value_equality}
use Rattle.oct_tree.specs.declared.place.Place.{Place}
use Rattle.oct_tree.specs.Tree.{Tree, IsLinked, IsPlace, block_in, value_at}
use Rattle.oct_tree.proofs.Links.{place_in_map}
use Rattle.oct_snap.specs.declared.common.Common.{Common as Shared}
use Rattle.oct_snap.specs.declared.common.Common.TheVariants.{Value as OfValue, Several}
use Rattle.oct_snap.specs.Texts.{common_value}
use Rattle.oct_snap.specs.Common.{value_of_common}

-- all voxels of a block have this value
pub common_of_all : (values : Values) (b : Cube) (v : Value) → IsBlock b
    → ((k : Voxel) → HoldsVoxel b k → values k ≡ v)
    → common_value values b ≡ Some v
common_of_all values b v ok h = answer_of_all is_same_value values b v same_value_equality ok h

pub common_of_each : (values : Values) (b : Cube) (v : Value) (k : Voxel) → IsBlock b
    → common_value values b ≡ Some v → HoldsVoxel b k
    → values k ≡ v
common_of_each values b v k ok h held =
    answer_of_each is_same_value values b v k same_value_equality ok h held

pub leaf_common : (t : Tree) (p : Place) (b : Cube) (v : Value) → IsLinked t → IsPlace t p
    → block_in t p ≡ Some b
    → ((k : Voxel) → IsInMap k → HoldsVoxel b k → value_at t k ≡ v) → common_value (value_at t) b
    ≡ Some v
leaf_common t p b v l place at h =
    let ok : IsBlock b = place_in_map t l p b place at in
    common_of_all (value_at t) b v ok (λ k held. h k (held_in_map b k ok held) held)

-- a block of one value has children of that value
pub common_down : (values : Values) (b : Cube) (v : Value) (i : ℕ) → IsBlock b → b.depth < 16
    → i < 8 → common_value values b ≡ Some v
    → common_value values (child_of b i) ≡ Some v
common_down values b v i ok low li h =
    common_of_all values (child_of b i) v (child_in_map b i ok low)
    (λ k held. common_of_each values b v k ok h (held_by_parent b i k low li held))

-- and the other way
pub common_up : (values : Values) (b : Cube) (v : Value) → IsBlock b → b.depth < 16
    → ((i : ℕ) → i < 8 → common_value values (child_of b i) ≡ Some v) → common_value values b
    ≡ Some v
common_up values b v ok low h = common_of_all values b v ok
    (λ k held. common_of_each values (child_of b (child_index_of b.depth k)) v k
    (child_in_map b (child_index_of b.depth k) ok low)
    (h (child_index_of b.depth k) (child_index_below b.depth k)) (held_by_child b k low held))

none_or : (o : Option Value) (a : Option Value) → ((v : Value) → o ≡ Some v → ⊥) → o ≡ None
none_or None a h = refl
none_or (Some v) a h = absurd (h v refl)

-- a block with a child of several values has several
pub several_up : (values : Values) (b : Cube) (i : ℕ) → IsBlock b → b.depth < 16 → i < 8
    → common_value values (child_of b i) ≡ None
    → common_value values b ≡ None
several_up values b i ok low li h = none_or (common_value values b) None
    (λ v is. false≢true (ap is_some (sym h ∙ common_down values b v i ok low li is)))

-- a block with two children that don't have one value has several
pub others_up : (values : Values) (b : Cube) (i j : ℕ) → IsBlock b → b.depth < 16 → i < 8 → j < 8
    → (common_value values (child_of b i) ≡ common_value values (child_of b j) → ⊥)
    → common_value values b ≡ None
others_up values b i j ok low li lj h = none_or (common_value values b) None
    (λ v is. h (common_down values b v i ok low li is
    ∙ sym (common_down values b v j ok low lj is)))

abbrev value_or : Option Value → Value → Value
value_or (Some v) w = v
value_or None w = w

-- the code's word for it tells it
pub common_exact : (a b : Shared) → value_of_common a ≡ value_of_common b → a ≡ b
common_exact (OfValue v) (OfValue w) h = ap OfValue (ap (λ (o : Option Value). value_or o v) h)
common_exact (OfValue v) Several h = absurd (false≢true (ap is_some (sym h)))
common_exact Several (OfValue w) h = absurd (false≢true (ap is_some h))
common_exact Several Several h = refl

-- all children searched
pub common_all : (values : Values) (b : Cube) (first : Shared) (n : ℕ) → IsBlock b → b.depth < 16
    → 8 ≤ n → (first ≡ Several → ⊥)
    → ((j : ℕ) → j < n → common_value values (child_of b j) ≡ value_of_common first)
    → value_of_common first ≡ common_value values b
common_all values b (OfValue v) n ok low all one h =
    sym (common_up values b v ok low (λ i li. h i (omega (arith, li, all))))
common_all values b Several n ok low all one h = absurd (one refl)

pub common_next : (values : Values) (b : Cube) (first : Shared) (n : ℕ)
    → ((j : ℕ) → j < n → common_value values (child_of b j) ≡ value_of_common first)
    → common_value values (child_of b n) ≡ value_of_common first
    → (j : ℕ) → j < n + 1 → common_value values (child_of b j) ≡ value_of_common first
common_next values b first n before here j lj = elim (cases_lt j n) [
  | inl less ↦ before j less
  | inr last ↦ (let same : n ≡ j = omega arith in
      subst (λ (j : ℕ). common_value values (child_of b j) ≡ value_of_common first) same here)
]

-- the node of a place that isn't Inner
pub leaf_is : (t : Tree) (p : Place) (b : Cube) (v w : Value) → IsLinked t → IsPlace t p
    → block_in t p ≡ Some b
    → ((k : Voxel) → IsInMap k → HoldsVoxel b k → value_at t k ≡ v) → w ≡ v
    → value_of_common (OfValue w) ≡ common_value (value_at t) b
leaf_is t p b v w l place at h is = ap (λ (x : Value). value_of_common (OfValue x)) is
    ∙ sym (leaf_common t p b v l place at h)

-- the first child
pub common_first : (values : Values) (b : Cube) (first : Shared) → value_of_common first
    ≡ common_value values (child_of b 0)
    → (j : ℕ) → j < 1 → common_value values (child_of b j) ≡ value_of_common first
common_first values b first is j lj = common_next values b first 0 (λ j less. absurd (omega arith))
    (sym is) j lj

-- a child of another answer
pub common_other : (values : Values) (b : Cube) (first other : Shared) (i : ℕ) → IsBlock b
    → b.depth < 16 → 0 < i → i < 8
    → ((j : ℕ) → j < i → common_value values (child_of b j) ≡ value_of_common first)
    → value_of_common other ≡ common_value values (child_of b i) → (other ≡ first → ⊥)
    → None ≡ common_value values b
common_other values b first other i ok low some li before is ne =
    sym (others_up values b i 0 ok low li (omega arith)
    (λ same. ne (common_exact other first (is ∙ same ∙ before 0 some))))
