-- Answers to points in the order of keys.
use Rattle.std.proofs.Common.{◌≡◌, ℕ, ◌+◌, ◌*◌, ◌/◌, ◌%◌, ◌^◌, ◌<◌, ◌≤◌, List, [], ◌∷◌, ◌++◌}
use Rattle.std.proofs.Common.{length, map, get_or, set, refl, sym, ◌∙◌, ap, arith, subst}
use Rattle.std.proofs.Common.{inl, inr, Some, Option, Ok}
use Rattle.std.specs.List.{Contains}
use Rattle.std.specs.Prelude.{◌⊎◌, All, Result, pos}
use Rattle.std.specs.List.Sorted.{IsPermutation}
use Rattle.std.proofs.lemmas.Bool.{cases_eq}
use Rattle.std.proofs.lemmas.List.{ext_get_or, get_or-map, get_or-set_other, get_or-set_same}
use Rattle.std.proofs.lemmas.List.{get_or_append_left, get_or_at, get_or_default, length-append}
use Rattle.std.proofs.lemmas.List.{length-map}
use Rattle.std.proofs.lemmas.List.Elements.{All-push}
use Rattle.std.proofs.lemmas.List.Sorted.{Contains-permutation}
use Rattle.oct_key.proofs.Faces.{IsInMap-key_at}
use Rattle.oct_key.specs.Block.{Cube, block_of}
use Rattle.oct_key.specs.Morton.{morton_of}
use Rattle.oct_key.specs.Voxel.{Voxel, IsInMap, key_at}
use Rattle.oct_key.specs.declared.point.Point.{Point}
use Rattle.oct_map.proofs.Gets.{asked_right}
use Rattle.oct_map.specs.Answers.{get_answer}
use Rattle.oct_map.specs.Map.{IsMap, Map, ground_of, values_of}
use Rattle.oct_map.specs.declared.fault.MapFault.{MapFault}
use Rattle.oct_odds.specs.Update.{Value}
use Rattle.oct_tree.specs.Shape.{IsFresh}
use Rattle.oct_tree.specs.Tree.{Tree, value_at}
use Rattle.oct_values.specs.Depths.{IsLargestIn}
use Rattle.octofix.specs.Batches.{AreToldOrKeyed, HasAnswers, HasKeyFrom, IsKeyOf}
use Rattle.octofix.specs.Codes.{of_map}
use Rattle.octofix.specs.Points.{point_of}
use Rattle.octofix.specs.Queries.{answer_told, told_at}
use Rattle.octofix.specs.declared.types.PointAnswer.{PointAnswer}
use Rattle.octofix.specs.declared.types.PointNm.{PointNm}

-- the answer to one point more
pub told_more : {X A : Type 0} (f : X → A) (points : List X) (keys : List ℕ)
    (answers : List A) (i : ℕ) (p : X) (y : A) → i < length points
    → length answers ≡ length points → y ≡ f (get_or points i p)
    → AreToldOrKeyed f points keys 0 i answers
    → AreToldOrKeyed f points keys 0 (i + 1) (set answers i y)
told_more {A = A} f points keys answers i p y within room told h = λ j d q l. elim (cases_eq j i) [
  | inl same ↦ inl (ap (λ n. get_or (set answers i y) n d) same
      ∙ get_or-set_same answers i y d (omega (arith, within, room)) ∙ told
      ∙ ap f (get_or_default points i p q within ∙ ap (λ n. get_or points n q) (sym same)))
  | inr other ↦ subst (λ (x : A). (x ≡ f (get_or points j q)) ⊎ HasKeyFrom keys 0 j)
      (sym (get_or-set_other answers i j y d other)) (h j d q (omega (arith, l, other)))
]

-- a place behind a code
place_of_key : (code i key : ℕ) → i < 2 ^ 16 → key ≡ code * 2 ^ 16 + i → key % 2 ^ 16 ≡ i
place_of_key code i key l e = omega (arith, l, e)

code_of_key : (code i key : ℕ) → i < 2 ^ 16 → key ≡ code * 2 ^ 16 + i → key / 2 ^ 16 ≡ code
code_of_key code i key l e = omega (arith, l, e)

-- a key stays where one more is put behind it
key_stays : (keys : List ℕ) (key j : ℕ) → HasKeyFrom keys 0 j → HasKeyFrom (keys ++ key ∷ []) 0 j
key_stays keys key j (k, low, l, is) = (
  k,
  low,
  omega (arith, l, length-append keys (key ∷ [])),
  ap (λ (m : ℕ). m % 2 ^ 16) (get_or_append_left keys (key ∷ []) 0 k l) ∙ is,
)

-- and that one is there
key_there : (keys : List ℕ) (key j : ℕ) → key % 2 ^ 16 ≡ j → HasKeyFrom (keys ++ key ∷ []) 0 j
key_there keys key j is = (
  length keys,
  omega arith,
  omega (arith, length-append keys (key ∷ [])),
  ap (λ (m : ℕ). m % 2 ^ 16) (get_or_at keys key [] 0 (length keys) refl) ∙ is,
)

-- the key of one point more
pub keyed_more : {X A : Type 0} (f : X → A) (points : List X) (keys keys' : List ℕ)
    (answers : List A) (i code key : ℕ) → i < 2 ^ 16 → key ≡ code * 2 ^ 16 + i
    → keys' ≡ keys ++ key ∷ [] → AreToldOrKeyed f points keys 0 i answers
    → AreToldOrKeyed f points keys' 0 (i + 1) answers
keyed_more f points keys keys' answers i code key few made is h =
    subst (λ (ks : List ℕ). AreToldOrKeyed f points ks 0 (i + 1) answers) (sym is)
    (λ j d p l. elim (cases_eq j i) [
      | inl same ↦ inr (key_there keys key j (place_of_key code i key few made ∙ sym same))
      | inr other ↦ elim (h j d p (omega (arith, l, other))) [
        | inl told ↦ inl told
        | inr there ↦ inr (key_stays keys key j there)
      ]
    ])

-- a key that a list has
key_of_place : (keys : List ℕ) (key j : ℕ) → key % 2 ^ 16 ≡ j → Contains keys key
    → HasKeyFrom keys 0 j
key_of_place keys key j place (k, l, is) =
    (k, omega arith, l, ap (λ (m : ℕ). m % 2 ^ 16) (get_or_default keys k 0 key l ∙ is) ∙ place)

-- keys in another order
key_moves : (keys keys' : List ℕ) (j : ℕ) → IsPermutation keys keys' → HasKeyFrom keys 0 j
    → HasKeyFrom keys' 0 j
key_moves keys keys' j moved (k, low, l, is) =
    key_of_place keys' (get_or keys k 0) j is (Contains-permutation keys keys' (get_or keys k 0)
    moved (k, l, get_or_default keys k (get_or keys k 0) 0 l))

pub keyed_moved : {X A : Type 0} (f : X → A) (points : List X) (keys keys' : List ℕ)
    (m n : ℕ) (answers : List A) → IsPermutation keys keys' → n ≤ m
    → AreToldOrKeyed f points keys 0 m answers → AreToldOrKeyed f points keys' 0 n answers
keyed_moved f points keys keys' m n answers moved most h = λ j d p l.
    elim (h j d p (omega (arith, l, most))) [
      | inl told ↦ inl told
      | inr there ↦ inr (key_moves keys keys' j moved there)
    ]

-- with no key left all are answered
pub all_told : (f : PointNm → PointAnswer) (points : List PointNm) (keys : List ℕ) (i n : ℕ)
    (answers : List PointAnswer) → length keys ≤ i → length points ≤ n
    → length answers ≡ length points → AreToldOrKeyed f points keys i n answers
    → answers ≡ map f points
all_told f points keys i n answers done all room h =
    let d : PointAnswer = record { value = pos 0; code = 0 } in
    let p : PointNm = record { x = pos 0; y = pos 0; z = pos 0 } in
    ext_get_or d answers (map f points) (room ∙ sym (length-map points f)) (λ j l.
    let within : j < length points = omega (arith, l, room) in
    let told : get_or answers j d ≡ f (get_or points j p) =
    elim (h j d p (omega (arith, within, all))) [
      | inl is ↦ is
      | inr (k, low, short, place) ↦ absurd (omega (arith, low, short, done))
    ] in
    told ∙ sym (get_or-map f points j p d within))

-- the first points are told or keyed, and each key is that of its point
pub record AreKeyed (edge : ℕ) (points : List PointNm) (f : PointNm → PointAnswer) (count : ℕ)
    (keys : List ℕ) (answers : List PointAnswer) : Type 0 where
  pub own : All (IsKeyOf edge points) keys
  pub told : AreToldOrKeyed f points keys 0 count answers

-- the key of a point is its own
key_of_point : (edge : ℕ) (points : List PointNm) (i code key : ℕ) (e : PointNm) (k : Voxel)
    → i < length points → i < 2 ^ 16 → key_at edge (point_of (get_or points i e)) ≡ Some k
    → code ≡ morton_of k → code < 2 ^ 48 → key ≡ code * 2 ^ 16 + i → IsKeyOf edge points key
key_of_point edge points i code key e k within few at coded below made =
    let place : key % 2 ^ 16 ≡ i = place_of_key code i key few made in
    let above : key / 2 ^ 16 ≡ code = code_of_key code i key few made in
    record {
      within = omega (arith, place, within);
      voxel = k;
      in_map = IsInMap-key_at edge (point_of (get_or points i e)) k at;
      holds = λ p.
          ap (λ n. key_at edge (point_of (get_or points n p))) place
          ∙ ap (λ q. key_at edge (point_of q)) (get_or_default points i p e within)
          ∙ at;
      coded = sym coded ∙ sym above;
      below = omega (arith, above, below);
    }

-- a point more has a key
pub next_keyed : (edge : ℕ) (points : List PointNm) (f : PointNm → PointAnswer)
    (keys keys' : List ℕ) (answers answers' : List PointAnswer) (i code key edge' : ℕ)
    (e : PointNm) (q : Point) (k : Voxel) (found : Option Voxel) → length points ≤ 2 ^ 16
    → i < length points → edge' ≡ edge → q ≡ point_of (get_or points i e) → found ≡ key_at edge' q
    → found ≡ Some k → code ≡ morton_of k → code < 2 ^ 48 → key ≡ code * 2 ^ 16 + i
    → keys' ≡ keys ++ key ∷ [] → answers' ≡ answers → AreKeyed edge points f i keys answers
    → AreKeyed edge points f (i + 1) keys' answers'
next_keyed edge points f keys keys' answers answers' i code key edge' e q k found most within
    by point there some coded below made is same h =
    let few : i < 2 ^ 16 = omega (arith, most, within) in
    let at : key_at edge (point_of (get_or points i e)) ≡ Some k =
    ap (λ n. key_at n (point_of (get_or points i e))) (sym by) ∙ ap (key_at edge') (sym point)
    ∙ sym there ∙ some in
    record {
      own = subst (All (IsKeyOf edge points)) (sym is)
          (All-push (IsKeyOf edge points) keys key h.own
          (key_of_point edge points i code key e k within few at coded below made));
      told = subst (AreToldOrKeyed f points keys' 0 (i + 1)) (sym same)
          (keyed_more f points keys keys' answers i code key few made is h.told);
    }

-- a point more is told
pub next_told : (edge : ℕ) (points : List PointNm) (f : PointNm → PointAnswer)
    (keys keys' : List ℕ) (answers answers' : List PointAnswer) (i : ℕ) (e : PointNm)
    (y : PointAnswer) → i < length points → length answers ≡ length points
    → y ≡ f (get_or points i e) → keys' ≡ keys → answers' ≡ set answers i y
    → AreKeyed edge points f i keys answers → AreKeyed edge points f (i + 1) keys' answers'
next_told edge points f keys keys' answers answers' i e y within room told same is h = record {
  own = subst (All (IsKeyOf edge points)) (sym same) h.own;
  told = subst (λ (ks : List ℕ). AreToldOrKeyed f points ks 0 (i + 1) answers') (sym same)
      (subst (AreToldOrKeyed f points keys 0 (i + 1)) (sym is)
      (told_more f points keys answers i e y within room told h.told));
}

-- what is told of the map's answer to a point
pub told_right : (m : Map) (depth : ℕ) (p : PointNm) (q : Point) (r : Result Value MapFault)
    (y : PointAnswer) → y ≡ answer_told (of_map r)
    → r ≡ get_answer (ground_of m) m.is_stale (values_of m) q depth → q ≡ point_of p
    → y ≡ told_at depth m p
told_right m depth p q r y told got at =
    told
    ∙ ap (λ (x : Result Value MapFault). answer_told (of_map x))
    (got ∙ ap (λ x. get_answer (ground_of m) m.is_stale (values_of m) x depth) at)

-- what the block of the voxel of a code answers is what each point in that voxel is told
pub coded_right : (m : Map) (t : Tree) (depth code : ℕ) (b : Cube) (key k : Voxel) (p : PointNm)
    (found : Value) → t ≡ m.tree → IsMap m → HasAnswers depth m → b ≡ block_of depth key
    → ((l : Voxel) → IsInMap l → morton_of l ≡ code → l ≡ key)
    → (IsFresh t → IsLargestIn (value_at t) b found)
    → (b.depth ≡ 16 → IsLargestIn (value_at t) b found)
    → key_at m.tree.res (point_of p) ≡ Some k → IsInMap k → morton_of k ≡ code
    → answer_told (of_map (Ok found)) ≡ told_at depth m p
coded_right m t depth code b key k p found same is answers block only fresh voxel at on_map coded =
    ap (λ (r : Result Value MapFault). answer_told (of_map r))
    (asked_right m t (point_of p) depth b found same is (record {
      voxel = k;
      in_map = on_map;
      key = at;
      block = block ∙ ap (block_of depth) (sym (only k on_map coded));
      low = answers.0;
      fresh = answers.1;
    }) fresh voxel)
