-- A block has one answer, and going through its voxels finds it.
use Rattle.std.proofs.Common.{◌≡◌, zero, suc, ◌↔◌, true, false, cond, List, [], ◌∷◌, Some, None}
use Rattle.std.proofs.Common.{inl, inr, refl, sym, subst, ◌∙◌, ap, arith}
use Rattle.std.specs.Prelude.{ℤ, ◌≤ℤ◌, ◌⊎◌, fold}
use Rattle.std.specs.Int.{int_max}
use Rattle.std.specs.Prelude.{int_lt}
use Rattle.std.proofs.lemmas.Int.{ints, clamps}
use Rattle.std.specs.List.{Contains}
use Rattle.oct_key.specs.Voxel.{Voxel, IsInMap}
use Rattle.oct_key.specs.Values.{Values}
use Rattle.oct_key.specs.Block.{Cube, IsBlock, HoldsVoxel}
use Rattle.oct_odds.specs.Update.{Value}
use Rattle.oct_values.specs.Blocks.{voxels_of}
use Rattle.oct_values.specs.Depths.{IsLargestIn, larger, depth_value}
use Rattle.oct_values.proofs.Held.{each_listed, listed_exactly}
use Rattle.oct_key.proofs.Held.{held_in_map}

-- the second is known where the first is, and no smaller
abbrev pub IsNoLess : Value → Value → Type 0
IsNoLess a r = (v : ℤ) → a ≡ Some v → (m : ℤ) × (r ≡ Some m) × (v ≤ℤ m)

max_left : (m n : ℤ) → m ≤ℤ int_max m n
max_left m n = omega (arith, ints, clamps)

max_right : (m n : ℤ) → n ≤ℤ int_max m n
max_right m n = omega (arith, ints, clamps)

max_is : (m n : ℤ) → (int_max m n ≡ m) ⊎ (int_max m n ≡ n)
max_is m n =
    elim (int_lt n m) as (λ test. (cond test m n ≡ m) ⊎ (cond test m n ≡ n)) [
      | true ↦ inl refl
      | false ↦ inr refl
    ]

le_self : (a : Value) → IsNoLess a a
le_self a v e = (v, e, omega (arith, ints))

le_onward : (a b c : Value) → IsNoLess a b → IsNoLess b c → IsNoLess a c
le_onward a b c f g v e =
    let (m, is_m, low) = f v e in
    let (n, is_n, high) = g m is_m in
    (n, is_n, omega (arith, ints, low, high))

some_is : (v w : ℤ) → ◌≡◌ {A = Value} (Some v) (Some w) → v ≡ w
some_is v w e = cc

larger_left : (a b : Value) → IsNoLess a (larger a b)
larger_left None b v e = cc
larger_left (Some m) None v e = (m, refl, (let s = some_is m v e in omega (arith, ints, s)))
larger_left (Some m) (Some n) v e =
    (int_max m n, refl, subst (λ z. z ≤ℤ int_max m n) (some_is m v e) (max_left m n))

larger_right : (a b : Value) → IsNoLess b (larger a b)
larger_right None b v e = le_self b v e
larger_right (Some m) None v e = cc
larger_right (Some m) (Some n) v e =
    (int_max m n, refl, subst (λ z. z ≤ℤ int_max m n) (some_is n v e) (max_right m n))

larger_is : (a b : Value) → (larger a b ≡ a) ⊎ (larger a b ≡ b)
larger_is None b = inr refl
larger_is (Some m) None = inl refl
larger_is (Some m) (Some n) = elim (max_is m n) [
  | inl e ↦ inl (ap Some e)
  | inr e ↦ inr (ap Some e)
]

-- the largest of a value and those of a list of voxels
abbrev best : Values → Value → List Voxel → Value
best values a ks = fold (λ (r : Value) (k : Voxel). larger r (values k)) a ks

best_start : (values : Values) (a : Value) (ks : List Voxel) → IsNoLess a (best values a ks)
best_start values a [] = le_self a
best_start values a (k ∷ ks) =
    le_onward a (larger a (values k)) (best values a (k ∷ ks)) (larger_left a (values k))
    (best_start values (larger a (values k)) ks)

best_each : (values : Values) (a : Value) (ks : List Voxel) (k : Voxel) → Contains ks k
    → IsNoLess (values k) (best values a ks)
best_each values a [] k (n, l, is) = absurd (omega arith)
best_each values a (j ∷ ks) k (zero, l, is) =
    subst (λ q. IsNoLess (values q) (best values a (j ∷ ks))) is
    (le_onward (values j) (larger a (values j)) (best values a (j ∷ ks)) (larger_right a (values j))
    (best_start values (larger a (values j)) ks))
best_each values a (j ∷ ks) k (suc n, l, is) =
    best_each values (larger a (values j)) ks k (n, omega arith, is)

-- it is the first value, or that of a voxel of the list
best_is : (values : Values) (a : Value) (ks : List Voxel)
    → (best values a ks ≡ a) ⊎ ((k : Voxel) × Contains ks k × (best values a ks ≡ values k))
best_is values a [] = inl refl
best_is values a (j ∷ ks) = elim (best_is values (larger a (values j)) ks) [
  | inl e ↦ elim (larger_is a (values j)) [
    | inl first ↦ inl (e ∙ first)
    | inr here ↦ inr (j, (0, omega arith, refl), e ∙ here)
  ]
  | inr (k, (n, l, is), e) ↦ inr (k, (suc n, omega arith, is), e)
]

-- the answer that the block's voxels give
answer_of : (values : Values) (b : Cube) → IsBlock b → (r : Value)
    → best values None (voxels_of b) ≡ r → IsLargestIn values b r
answer_of values b ok None e = λ k held. unknown k held (values k) refl
  where
    unknown : (k : Voxel) → HoldsVoxel b k → (value : Value) → values k ≡ value → values k ≡ None
    unknown k held None is = is
    unknown k held (Some v) is =
        (let (m, some, low) = best_each values None (voxels_of b) k (each_listed b k ok held) v
        is in
        cc (sym e ∙ some))
answer_of values b ok (Some m) e = record {
  there = elim (best_is values None (voxels_of b)) [
    | inl none ↦ (cc (sym e ∙ none))
    | inr (k, listed, is) ↦ (k, (listed_exactly b k ok).1 listed, sym is ∙ e)
  ];
  most =
      λ k value held is. (let (n, some, low) = best_each values None (voxels_of b) k
      (each_listed b k ok held) value is in
      subst (λ z. value ≤ℤ z) (some_is n m (sym some ∙ e)) low);
}

-- going through the voxels gives the answer of the block
pub depth_value_right : (values : Values) (b : Cube) → IsBlock b
    → IsLargestIn values b (depth_value values b)
unfolding depth_value
depth_value_right values b ok = answer_of values b ok (best values None (voxels_of b)) refl

-- a block has one answer
pub one_answer : (values : Values) (b : Cube) (a c : Value) → IsLargestIn values b a
    → IsLargestIn values b c → a ≡ c
one_answer values b None None p q = refl
one_answer values b None (Some n) p q = (let (k, held, is) = q.there in cc (sym (p k held) ∙ is))
one_answer values b (Some m) None p q = (let (k, held, is) = p.there in cc (sym (q k held) ∙ is))
one_answer values b (Some m) (Some n) p q =
    let (j, held_j, is_j) = p.there in
    let (k, held_k, is_k) = q.there in
    let low = q.most j m held_j is_j in
    let high = p.most k n held_k is_k in
    let same : m ≡ n = omega (arith, ints, low, high) in
    ap Some same

-- the answers of a block are exactly what going through its voxels gives
pub answer_exactly : (values : Values) (b : Cube) (answer : Value) → IsBlock b
    → IsLargestIn values b answer ↔ (answer ≡ depth_value values b)
answer_exactly values b answer ok = (
  λ h. one_answer values b answer (depth_value values b) h (depth_value_right values b ok),
  λ e. subst (IsLargestIn values b) (sym e) (depth_value_right values b ok),
)

-- values that agree in the map have the same answers
pub same_answer : (v w : Values) (b : Cube) (answer : Value) → IsBlock b
    → ((k : Voxel) → IsInMap k → v k ≡ w k) → IsLargestIn v b answer
    → IsLargestIn w b answer
same_answer v w b None ok same h = λ k held. sym (same k (held_in_map b k ok held)) ∙ h k held
same_answer v w b (Some m) ok same h = record {
  there = (let (k, held, is) = h.there in (k, held, sym (same k (held_in_map b k ok held)) ∙ is));
  most = λ k value held is. h.most k value held (same k (held_in_map b k ok held) ∙ is);
}

pub same_depth_value : (v w : Values) (b : Cube) → IsBlock b → ((k : Voxel) → IsInMap k → v k ≡ w k)
    → depth_value v b ≡ depth_value w b
same_depth_value v w b ok same =
    one_answer w b (depth_value v b) (depth_value w b)
    (same_answer v w b (depth_value v b) ok same (depth_value_right v b ok))
    (depth_value_right w b ok)
