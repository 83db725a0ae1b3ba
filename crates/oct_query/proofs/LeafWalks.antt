-- The leaves in a block, and those in its children.
use Rattle.std.proofs.Common.{◌≡◌, ℕ, zero, suc, ◌+◌, ◌-◌, ◌<◌, ◌≤◌, true, false, List, [], ◌∷◌}
use Rattle.std.proofs.Common.{◌++◌, Some, None, inl, inr, refl, sym}
use Rattle.std.proofs.Common.{subst, ◌∙◌, ap, arith, append_assoc, append-nil}
use Rattle.std.specs.Prelude.{Result, OnOk, OnErr, ⊤, not, ℤ}
use Rattle.std.specs.Bool.{Decides}
use Rattle.std.specs.List.{flat_map}
use Rattle.std.specs.Option.{option_eq}
use Rattle.std.specs.Ordering.{int_eq}
use Rattle.std.proofs.lemmas.Bool.{cases_lt, false≢true, false_from_ne_true, not-false, not-true}
use Rattle.std.proofs.lemmas.Bool.Decides.{Decides-int_eq}
use Rattle.std.proofs.lemmas.List.Elements.{filter-append}
use Rattle.oct_key.specs.Voxel.{Voxel, IsInMap}
use Rattle.oct_key.specs.Values.{Values}
use Rattle.oct_key.specs.Block.{Cube, IsBlock, HoldsVoxel, child_of, child_index_of, lowest_voxel}
use Rattle.oct_key.proofs.Blocks.{child_index_below, lowest_held}
use Rattle.oct_key.proofs.Held.{held_by_parent, held_by_child, held_in_map}
use Rattle.oct_odds.specs.Odds.{Odds}
use Rattle.oct_odds.specs.Update.{Value, class_of}
use Rattle.oct_values.specs.Blocks.{child_numbers}
use Rattle.oct_values.specs.Uniform.{IsUniform}
use Rattle.oct_values.specs.Boxes.{is_met_by}
use Rattle.oct_values.specs.Counts.{is_uniform}
use Rattle.oct_values.proofs.Uniform.{uniform_exactly, uniform_of}
use Rattle.oct_tree.proofs.Paths.{some_injective}
use Rattle.oct_query.specs.Extent.{is_sought}
use Rattle.oct_query.specs.Shown.{Shown}
use Rattle.oct_query.specs.Leaves.{IsOneValue, own_leaf, leaves_below, block_leaves, that_meet}
use Rattle.oct_query.specs.Leaves.{picked, those_sought}
use Rattle.oct_query.specs.declared.sought.Sought.{Sought}

-- ---- the leaves of children

-- those of the first n children
unfoldable pub first_leaves : Values → ℕ → Cube → ℕ → List Shown
first_leaves v h b zero = []
first_leaves v h b (suc i) = first_leaves v h b i ++ leaves_below v h (child_of b i)

pub leaves_next : (v : Values) (h : ℕ) (b : Cube) (i : ℕ) → first_leaves v h b (i + 1)
    ≡ first_leaves v h b i ++ leaves_below v h (child_of b i)
unfolding first_leaves
leaves_next v h b i = (let e : i + 1 ≡ suc i = omega arith in ap (first_leaves v h b) e)

all_lists : {A : Type 0} (f : ℕ → List A) → flat_map f child_numbers
    ≡ (((((((([] ++ f 0) ++ f 1) ++ f 2) ++ f 3) ++ f 4) ++ f 5) ++ f 6) ++ f 7)
all_lists f =
    sym (append_assoc (f 0) (f 1) (f 2 ++ (f 3 ++ (f 4 ++ (f 5 ++ (f 6 ++ (f 7 ++ [])))))))
    ∙ sym (append_assoc (f 0 ++ f 1) (f 2) (f 3 ++ (f 4 ++ (f 5 ++ (f 6 ++ (f 7 ++ []))))))
    ∙ sym (append_assoc ((f 0 ++ f 1) ++ f 2) (f 3) (f 4 ++ (f 5 ++ (f 6 ++ (f 7 ++ [])))))
    ∙ sym (append_assoc (((f 0 ++ f 1) ++ f 2) ++ f 3) (f 4) (f 5 ++ (f 6 ++ (f 7 ++ []))))
    ∙ sym (append_assoc ((((f 0 ++ f 1) ++ f 2) ++ f 3) ++ f 4) (f 5) (f 6 ++ (f 7 ++ [])))
    ∙ sym (append_assoc (((((f 0 ++ f 1) ++ f 2) ++ f 3) ++ f 4) ++ f 5) (f 6) (f 7 ++ []))
    ∙ sym (append_assoc ((((((f 0 ++ f 1) ++ f 2) ++ f 3) ++ f 4) ++ f 5) ++ f 6) (f 7) [])
    ∙ append-nil (((((((f 0 ++ f 1) ++ f 2) ++ f 3) ++ f 4) ++ f 5) ++ f 6) ++ f 7)

all_leaves : (v : Values) (h : ℕ) (b : Cube)
    → flat_map (λ i. leaves_below v h (child_of b i)) child_numbers ≡ first_leaves v h b 8
unfolding first_leaves
all_leaves v h b = all_lists (λ i. leaves_below v h (child_of b i))

pub leaves_of_parts : (v : Values) (h : ℕ) (b : Cube) → is_uniform v b ≡ false
    → leaves_below v (suc h) b ≡ first_leaves v h b 8
unfolding leaves_below
leaves_of_parts v h b several = rw several (all_leaves v h b)

-- a block whose voxels all have this value
pub leaves_of_one : (v : Values) (h : ℕ) (b : Cube) (value : Value) → IsBlock b
    → ((k : Voxel) → HoldsVoxel b k → v k ≡ value) → leaves_below v h b ≡ own_leaf b value
unfolding leaves_below
leaves_of_one v zero b value ok one = ap (own_leaf b) (one (lowest_voxel b) (lowest_held b))
leaves_of_one v (suc h) b value ok one =
    (let uniform = uniform_of v b value ok one in
    rw uniform (ap (own_leaf b) (one (lowest_voxel b) (lowest_held b))))

-- ---- the value of all voxels of a block

-- one value so far, of the first n children
abbrev pub IsOneFirst : Values → Cube → ℕ → Value → Type 0
IsOneFirst v b n value =
    (j : ℕ) (k : Voxel) → j < n → HoldsVoxel (child_of b j) k → v k ≡ value

-- a block whose voxels all have this value
pub all_of_node : (v : Values) (b : Cube) (value told : Value) → IsBlock b
    → ((k : Voxel) → IsInMap k → HoldsVoxel b k → v k ≡ value) → told ≡ value
    → (k : Voxel) → HoldsVoxel b k → v k ≡ told
all_of_node v b value told ok all is k held = all k (held_in_map b k ok held) held ∙ sym is

-- the test of two values
pub tells_same : (a b : Value) → Decides (option_eq int_eq a b) (a ≡ b)
tells_same None None = (λ e. refl, λ e. refl)
tells_same None (Some y) = (λ e. absurd (false≢true e), λ e. cc)
tells_same (Some x) None = (λ e. absurd (false≢true e), λ e. cc)
tells_same (Some x) (Some y) = (
  λ e. ap Some ((Decides-int_eq x y).0 e),
  λ e. (Decides-int_eq x y).1 (some_injective e),
)

-- the first child
pub one_first : (v : Values) (b c : Cube) (value : Value) → c ≡ child_of b 0
    → IsOneValue v c (Some value) → IsOneFirst v b 1 value
one_first v b c value child one j k less held =
    let z : j ≡ 0 = omega (arith, less) in
    one k (subst (λ d. HoldsVoxel d k) (ap (child_of b) z ∙ sym child) held)

-- a child more
pub one_next : (v : Values) (b c : Cube) (i : ℕ) (value next : Value) → c ≡ child_of b i
    → IsOneFirst v b i value → IsOneValue v c (Some next)
    → not (option_eq int_eq next value) ≡ false
    → IsOneFirst v b (i + 1) value
one_next v b c i value next child before here same j k less held = elim (cases_lt j i) [
  | inl old ↦ before j k old held
  | inr last ↦ (let e : j ≡ i = omega (arith, less, last) in
      here k (subst (λ d. HoldsVoxel d k) (ap (child_of b) e ∙ sym child) held)
      ∙ (tells_same next value).0 (not-false (option_eq int_eq next value) same))
]

-- all eight of them
pub one_whole : (v : Values) (b : Cube) (n : ℕ) (value : Value) → b.depth < 16 → n ≡ 8
    → IsOneFirst v b n value → IsOneValue v b (Some value)
one_whole v b n value low end first k held =
    let less = child_index_below b.depth k in
    first (child_index_of b.depth k) k (omega (arith, end, less)) (held_by_child b k low held)

-- a child has several values, and so the block
pub several_in : (v : Values) (b c : Cube) (i : ℕ) → b.depth < 16 → i < 8 → c ≡ child_of b i
    → IsOneValue v c None → IsOneValue v b None
several_in v b c i low li child several uniform =
    several (subst (IsUniform v) (sym child)
    (λ j k held_j held_k. uniform j k (held_by_parent b i j low li held_j)
    (held_by_parent b i k low li held_k)))

-- two children differ
pub several_of : (v : Values) (b c : Cube) (i : ℕ) (value next : Value) → b.depth < 16 → 1 ≤ i
    → i < 8 → c ≡ child_of b i → IsOneFirst v b i value → IsOneValue v c (Some next)
    → not (option_eq int_eq next value) ≡ true → IsOneValue v b None
several_of v b c i value next low some li child before here differ uniform =
    let k = lowest_voxel (child_of b 0) in
    let l = lowest_voxel (child_of b i) in
    let held_k = lowest_held (child_of b 0) in
    let held_l = lowest_held (child_of b i) in
    let same : next ≡ value =
    sym (here l (subst (λ d. HoldsVoxel d l) (sym child) held_l))
    ∙ uniform l k (held_by_parent b i l low li held_l)
    (held_by_parent b 0 k low (omega arith) held_k)
    ∙ before 0 k (omega (arith, some)) held_k in
    false≢true
    (sym (not-true (option_eq int_eq next value) differ) ∙ (tells_same next value).1 same)

-- ---- those that are chosen

-- a choice among leaves, one by one: of two lists together it is what it is of each
pub record IsChoice (Chosen : List Shown → List Shown) : Type 0 where
  pub none : Chosen [] ≡ []
  pub both : (xs ys : List Shown) → Chosen (xs ++ ys) ≡ Chosen xs ++ Chosen ys

-- those that are sought are one
pub sought_choice : (o : Odds) (s : Sought) → IsChoice (those_sought o s)
sought_choice o s = record {
  none = refl;
  both = λ xs ys. filter-append (λ leaf. is_sought s (class_of o (Some leaf.value))) xs ys;
}

-- and those of them that meet a box
pub picked_choice : (o : Odds) (s : Sought) (lo hi : Voxel) → IsChoice (picked o s lo hi)
picked_choice o s lo hi = record {
  none = refl;
  both = λ xs ys. ap (those_sought o s) (filter-append (λ leaf. is_met_by lo hi leaf.block) xs ys)
      ∙ (sought_choice o s).both (that_meet lo hi xs) (that_meet lo hi ys);
}

chosen_next : (v : Values) (F : List Shown → List Shown) → IsChoice F → (h : ℕ) (b : Cube) (i : ℕ)
    → F (first_leaves v h b (i + 1))
    ≡ F (first_leaves v h b i) ++ F (leaves_below v h (child_of b i))
chosen_next v F choice h b i =
    ap F (leaves_next v h b i)
    ∙ choice.both (first_leaves v h b i) (leaves_below v h (child_of b i))

-- a block of one value that meets the box
pub meets_one : (v : Values) (o : Odds) (s : Sought) (lo hi : Voxel) (b : Cube) (value : Value)
    → IsBlock b
    → is_met_by lo hi b ≡ true → ((k : Voxel) → HoldsVoxel b k → v k ≡ value)
    → picked o s lo hi (block_leaves v b) ≡ those_sought o s (own_leaf b value)
meets_one v o s lo hi b value ok met all =
    ap (picked o s lo hi) (leaves_of_one v (16 - b.depth) b value ok all) ∙ own value
  where
    own : (value : Value)
        → picked o s lo hi (own_leaf b value) ≡ those_sought o s (own_leaf b value)
    own None = refl
    own (Some x) = rw met refl

-- so it is what is pushed
pub pushed_met : {E : Type 0} (v : Values) (o : Odds) (s : Sought) (lo hi : Voxel) (b : Cube)
    (value : Value)
    (old now : List Shown) (r : Result ⊤ E) → IsBlock b → is_met_by lo hi b ≡ true
    → ((k : Voxel) → HoldsVoxel b k → v k ≡ value)
    → OnOk r (now ≡ old ++ those_sought o s (own_leaf b value))
    → OnErr r (those_sought o s (own_leaf b value) ≡ [] → ⊥)
    → OnOk r (now ≡ old ++ picked o s lo hi (block_leaves v b))
    × OnErr r (picked o s lo hi (block_leaves v b) ≡ [] → ⊥)
pushed_met v o s lo hi b value old now r ok met all listed some =
    rw (meets_one v o s lo hi b value ok met all) (listed, some)

-- the same where all are looked at
pub pushed_one : {E : Type 0} (v : Values) (o : Odds) (s : Sought) (b : Cube) (value : Value)
    (old now : List Shown) (r : Result ⊤ E) → IsBlock b
    → ((k : Voxel) → HoldsVoxel b k → v k ≡ value)
    → OnOk r (now ≡ old ++ those_sought o s (own_leaf b value))
    → OnErr r (those_sought o s (own_leaf b value) ≡ [] → ⊥)
    → OnOk r (now ≡ old ++ those_sought o s (block_leaves v b))
    × OnErr r (those_sought o s (block_leaves v b) ≡ [] → ⊥)
pushed_one v o s b value old now r ok all listed some =
    rw (leaves_of_one v (16 - b.depth) b value ok all) (listed, some)

-- a block of several values
pub chosen_of_several : (v : Values) (F : List Shown → List Shown) (h : ℕ) (b : Cube) → IsBlock b
    → 16 - b.depth ≡ suc h → IsOneValue v b None
    → F (block_leaves v b) ≡ F (first_leaves v h b 8)
chosen_of_several v F h b ok high several =
    ap (λ (m : ℕ). F (leaves_below v m b)) high
    ∙ ap F (leaves_of_parts v h b
    (false_from_ne_true (is_uniform v b) (λ is. several ((uniform_exactly v b ok).0 is))))

-- no leaves yet
pub listed_none : (v : Values) (F : List Shown → List Shown) → IsChoice F → (h : ℕ) (b : Cube)
    (old : List Shown) → old ≡ old ++ F (first_leaves v h b 0)
unfolding first_leaves
listed_none v F choice h b old = sym (ap (λ l. old ++ l) choice.none ∙ append-nil old)

-- those of a child more
pub listed_next : (v : Values) (F : List Shown → List Shown) → IsChoice F → (h m : ℕ) (b c : Cube)
    (i : ℕ) (old before now : List Shown)
    → before ≡ old ++ F (first_leaves v h b i)
    → now ≡ before ++ F (leaves_below v m c) → c ≡ child_of b i → m ≡ h
    → now ≡ old ++ F (first_leaves v h b (i + 1))
listed_next v F choice h m b c i old before now was is child level =
    is ∙ ap (λ (n : ℕ). before ++ F (leaves_below v n c)) level
    ∙ ap (λ (d : Cube). before ++ F (leaves_below v h d)) child
    ∙ ap (λ l. l ++ F (leaves_below v h (child_of b i))) was
    ∙ append_assoc old (F (first_leaves v h b i)) (F (leaves_below v h (child_of b i)))
    ∙ ap (λ l. old ++ l) (sym (chosen_next v F choice h b i))

-- an unknown child has none
pub listed_unknown : (v : Values) (F : List Shown → List Shown) → IsChoice F → (h : ℕ) (b : Cube)
    (i : ℕ) (old before : List Shown)
    → before ≡ old ++ F (first_leaves v h b i) → IsBlock (child_of b i)
    → ((k : Voxel) → IsInMap k → HoldsVoxel (child_of b i) k → v k ≡ None)
    → before ≡ old ++ F (first_leaves v h b (i + 1))
listed_unknown v F choice h b i old before was ok unknown =
    let none : leaves_below v h (child_of b i) ≡ [] =
    leaves_of_one v h (child_of b i) None ok
    (λ k held. unknown k (held_in_map (child_of b i) k ok held) held) in
    listed_next v F choice h h b (child_of b i) i old before before was
    (sym (ap (λ l. before ++ l) choice.none ∙ append-nil before)
    ∙ ap (λ l. before ++ F l) (sym none)) refl refl

-- a child whose voxels are all known and have one value is the one leaf in it
pub listed_leaf : (v : Values) (o : Odds) (s : Sought) (h m : ℕ) (b c : Cube) (i : ℕ) (value : ℤ)
    (told : ℤ) (old before now : List Shown) → IsBlock c → told ≡ value
    → ((k : Voxel) → IsInMap k → HoldsVoxel c k → v k ≡ Some value)
    → before ≡ old ++ those_sought o s (first_leaves v h b i)
    → now ≡ before ++ those_sought o s (own_leaf c (Some told)) → c ≡ child_of b i → m ≡ h
    → now ≡ old ++ those_sought o s (first_leaves v h b (i + 1))
listed_leaf v o s h m b c i value told old before now ok same all was is child level =
    listed_next v (those_sought o s) (sought_choice o s) h m b c i old before now was
    (is ∙ ap (λ x. before ++ those_sought o s (own_leaf c (Some x))) same
    ∙ ap (λ l. before ++ those_sought o s l)
    (sym (leaves_of_one v m c (Some value) ok (λ k held. all k (held_in_map c k ok held) held))))
    child level

pub some_leaf : (v : Values) (o : Odds) (s : Sought) (m : ℕ) (c : Cube) (value told : ℤ)
    → IsBlock c → told ≡ value
    → ((k : Voxel) → IsInMap k → HoldsVoxel c k → v k ≡ Some value)
    → (those_sought o s (own_leaf c (Some told)) ≡ [] → ⊥)
    → those_sought o s (leaves_below v m c) ≡ [] → ⊥
some_leaf v o s m c value told ok same all some none =
    some (ap (λ x. those_sought o s (own_leaf c (Some x))) same ∙ ap (those_sought o s)
    (sym (leaves_of_one v m c (Some value) ok (λ k held. all k (held_in_map c k ok held) held)))
    ∙ none)

-- where one child has some, the first n children have
pub some_in_child : (v : Values) (F : List Shown → List Shown) → IsChoice F → (h m : ℕ)
    (b c : Cube) (i : ℕ) → c ≡ child_of b i → m ≡ h
    → (F (leaves_below v m c) ≡ [] → ⊥) → (n : ℕ) → i < n
    → F (first_leaves v h b n) ≡ [] → ⊥
some_in_child v F choice h m b c i child level some zero less none = omega (arith, less)
some_in_child v F choice h m b c i child level some (suc n) less none =
    let one : n + 1 ≡ suc n = omega arith in
    let (before, here) = parts (F (first_leaves v h b n)) (F (leaves_below v h (child_of b n)))
    (sym (chosen_next v F choice h b n)
    ∙ ap (λ (k : ℕ). F (first_leaves v h b k)) one ∙ none) in
    elim (cases_lt i n) [
      | inl old ↦ some_in_child v F choice h m b c i child level some n old before
      | inr last ↦ (let e : i ≡ n = omega (arith, less, last) in
          some (ap (λ (k : ℕ). F (leaves_below v k c)) level
          ∙ ap (λ (d : Cube). F (leaves_below v h d)) (child ∙ ap (child_of b) e)
          ∙ here))
    ]
  where
    parts : (xs ys : List Shown) → xs ++ ys ≡ [] → (xs ≡ []) × (ys ≡ [])
    parts [] ys none = (refl, none)
    parts (x ∷ xs) ys none = cc
