-- The list of blocks, one block, one row and one plane more.
use Rattle.std.proofs.Common.{Result, Ok, Err, OnErr, OnOk, IfErr, ◌*◌, ◌≡◌, ℕ, zero, suc, ◌+◌}
use Rattle.std.proofs.Common.{◌-◌, ◌/◌, ◌≤◌, List, [], ◌∷◌, ◌++◌, map, length, Some, None}
use Rattle.std.proofs.Common.{Option, inl, inr}
use Rattle.std.proofs.Common.{refl, sym, subst, ◌∙◌, ap, arith}
use Rattle.std.specs.Prelude.{◌⊎◌, ℤ}
use Rattle.std.specs.List.{filter_map, flat_map}
use Rattle.std.proofs.lemmas.Bool.{cases_lt}
use Rattle.std.proofs.lemmas.List.{append-nil, append_assoc, map-append}
use Rattle.std.proofs.lemmas.List.Elements.{filter_map-append}
use Rattle.std.proofs.lemmas.Grind.{flat_map-append}
use Rattle.oct_key.specs.Voxel.{Voxel, IsInMap}
use Rattle.oct_key.specs.Values.{Values}
use Rattle.oct_key.specs.Block.{Cube, IsBlock, side, lowest_voxel}
use Rattle.oct_key.specs.Order.{numbers_from, triples_of, block_numbered}
use Rattle.oct_key.specs.Boxes.{IsBox}
use Rattle.oct_values.specs.Depths.{depth_value}
use Rattle.oct_values.proofs.Largest.{answer_exactly}
use Rattle.oct_arena.specs.declared.node.Node.{Node}
use Rattle.oct_arena.specs.Nodes.{stored_in}
use Rattle.oct_tree.specs.Tree.{Tree, IsLinked, reach, value_at}
use Rattle.oct_tree.specs.Shape.{IsFresh}
use Rattle.oct_tree.proofs.Over.{over_lowest}
use Rattle.oct_query.specs.Listed.{met_blocks, listed_blocks, shown, IsRefused}
use Rattle.oct_query.specs.declared.fault.ListFault.{ListFault}
use Rattle.oct_query.specs.declared.fault.ListFault.TheVariants.{Memory}
use Rattle.oct_query.specs.Shown.{Shown}
use Rattle.oct_query.specs.Rows.{row_numbers, row_blocks, plane_blocks}
use Rattle.oct_query.proofs.Over.{answer_over, answer_over_voxel}
use Rattle.oct_query.proofs.MetBlocks.{box_blocks, met_are_box, count_of_met}

-- numbers, one more
numbers_more : (first n : ℕ) → numbers_from first (suc n) ≡ numbers_from first n ++ (first + n) ∷ []
unfolding numbers_from
numbers_more first zero = ap (λ (a : ℕ). a ∷ []) (none_more first)
  where
    none_more : (a : ℕ) → a ≡ a + 0
    none_more a = omega arith
numbers_more first (suc n) =
    ap (λ l. first ∷ l)
    (numbers_more (first + 1) n
    ∙ ap (λ (a : ℕ). numbers_from (first + 1) n ++ a ∷ []) (next first n))
  where
    next : (a n : ℕ) → a + 1 + n ≡ a + suc n
    next a n = omega arith

span_more : (from z : ℕ) → from ≤ z
    → numbers_from from (z + 1 - from) ≡ numbers_from from (z - from) ++ z ∷ []
span_more from z l =
    ap (numbers_from from) more ∙ numbers_more from (z - from)
    ∙ ap (λ a. numbers_from from (z - from) ++ a ∷ []) last
  where
    more : z + 1 - from ≡ suc (z - from)
    more = omega (arith, l)

    last : from + (z - from) ≡ z
    last = omega (arith, l)

-- and none yet
span_none : (from : ℕ) → numbers_from from (from - from) ≡ []
unfolding numbers_from
span_none from = ap (numbers_from from) (none from)
  where
    none : (a : ℕ) → a - a ≡ 0
    none a = omega arith

pub row_none : (depth x y from : ℕ) → row_blocks depth x y from (from - from) ≡ []
row_none depth x y from =
    ap (λ l. map (block_numbered depth) (map (λ z. record { x = x; y = y; z = z }) l))
    (span_none from)

pub row_more : (depth x y from z : ℕ) → from ≤ z
    → row_blocks depth x y from (z + 1 - from)
    ≡ row_blocks depth x y from (z - from) ++ block_numbered depth (record { x = x; y = y; z = z })
    ∷ []
row_more depth x y from z l =
    ap (λ l. map (block_numbered depth) (map (λ z. record { x = x; y = y; z = z }) l))
    (span_more from z l)
    ∙ ap (map (block_numbered depth))
    (map-append (λ z. record { x = x; y = y; z = z }) (numbers_from from (z - from)) (z ∷ []))
    ∙ map-append (block_numbered depth) (row_numbers x y from (z - from))
    (record { x = x; y = y; z = z } ∷ [])

pub plane_none : (depth x from first count : ℕ)
    → plane_blocks depth x from (from - from) first count ≡ []
plane_none depth x from first count =
    ap (λ l. map (block_numbered depth) (flat_map (λ y. row_numbers x y first count) l))
    (span_none from)

-- what the numbers give, and what one number more gives
each_more : {X : Type 0} (f : ℕ → List X) (xs : List ℕ) (y : ℕ)
    → flat_map f (xs ++ y ∷ []) ≡ flat_map f xs ++ f y
each_more f xs y = flat_map-append f xs (y ∷ []) ∙ ap (λ l. flat_map f xs ++ l) (append-nil (f y))

pub plane_more : (depth x from y first count : ℕ) → from ≤ y
    → plane_blocks depth x from (y + 1 - from) first count
    ≡ plane_blocks depth x from (y - from) first count ++ row_blocks depth x y first count
plane_more depth x from y first count l =
    ap (λ l. map (block_numbered depth) (flat_map (λ y. row_numbers x y first count) l))
    (span_more from y l)
    ∙ ap (map (block_numbered depth))
    (each_more (λ y. row_numbers x y first count) (numbers_from from (y - from)) y)
    ∙ map-append (block_numbered depth)
    (flat_map (λ y. row_numbers x y first count) (numbers_from from (y - from)))
    (row_numbers x y first count)

-- the blocks of planes from one up to another
abbrev pub planes : ℕ → ℕ → ℕ → ℕ → ℕ → ℕ → ℕ → List Cube
planes depth from count first_y count_y first count_z =
    box_blocks depth (record { x = from; y = first_y; z = first })
    (record { x = count; y = count_y; z = count_z })

pub planes_none : (depth from first_y count_y first count : ℕ)
    → planes depth from (from - from) first_y count_y first count ≡ []
unfolding triples_of
planes_none depth from first_y count_y first count =
    ap (λ l. map (block_numbered depth) (flat_map (λ x. flat_map (λ y. row_numbers x y first count)
    (numbers_from first_y count_y)) l))
    (span_none from)

pub planes_more : (depth from x first_y count_y first count : ℕ) → from ≤ x
    → planes depth from (x + 1 - from) first_y count_y first count
    ≡ planes depth from (x - from) first_y count_y first count
    ++ plane_blocks depth x first_y count_y first count
unfolding triples_of
planes_more depth from x first_y count_y first count l =
    ap (λ l. map (block_numbered depth) (flat_map plane l)) (span_more from x l)
    ∙ ap (map (block_numbered depth)) (each_more plane (numbers_from from (x - from)) x)
    ∙ map-append (block_numbered depth) (flat_map plane (numbers_from from (x - from))) (plane x)
  where
    plane : ℕ → List Voxel
    plane x = flat_map (λ y. row_numbers x y first count) (numbers_from first_y count_y)

-- what is found in some blocks, and in some more
pub found_more : {X Y : Type 0} (f : X → Option Y) (old now new : List Y) (xs ys zs : List X)
    → now ≡ old ++ filter_map f xs → new ≡ now ++ filter_map f ys → zs ≡ xs ++ ys
    → new ≡ old ++ filter_map f zs
found_more f old now new xs ys zs is more all =
    more ∙ ap (λ l. l ++ filter_map f ys) is ∙ append_assoc old (filter_map f xs) (filter_map f ys)
    ∙ ap (λ l. old ++ l) (sym (filter_map-append f xs ys) ∙ ap (filter_map f) (sym all))

pub found_none : {X Y : Type 0} (f : X → Option Y) (old : List Y) (xs : List X) → xs ≡ []
    → old ≡ old ++ filter_map f xs
found_none f old xs none = sym (append-nil old) ∙ ap (λ l. old ++ filter_map f l) (sym none)

-- where nothing is found in some blocks and in those before them, nothing is in either
none_parts : {X Y : Type 0} (f : X → Option Y) (xs ys zs : List X) → zs ≡ xs ++ ys
    → filter_map f zs ≡ [] → (filter_map f xs ≡ []) × (filter_map f ys ≡ [])
none_parts f xs ys zs all none =
    parts (filter_map f xs) (filter_map f ys)
    (sym (filter_map-append f xs ys) ∙ ap (filter_map f) (sym all) ∙ none)
  where
    parts : {A : Type 0} (ls rs : List A) → ls ++ rs ≡ [] → (ls ≡ []) × (rs ≡ [])
    parts [] rs e = (refl, e)
    parts (a ∷ ls) rs e = cc

-- where nothing is found up to a number, nothing is at each one below it
pub none_within : {X Y : Type 0} (f : X → Option Y) (upto each : ℕ → List X) (from : ℕ)
    → ((z : ℕ) → from ≤ z → upto (z + 1) ≡ upto z ++ each z) → (to z : ℕ) → from ≤ z → suc z ≤ to
    → filter_map f (upto to) ≡ [] → filter_map f (each z) ≡ []
none_within f upto each from more zero z low high none = absurd (omega (arith, high))
none_within {X} f upto each from more (suc to) z low high none =
    let next : upto (suc to) ≡ upto to ++ each to = ap upto (one_more to)
    ∙ more to (omega (arith, low, high)) in
    let parts = none_parts f (upto to) (each to) (upto (suc to)) next none in
    elim (cases_lt z to) [
      | inl below ↦ none_within f upto each from more to z low below parts.0
      | inr above ↦ (let last : z ≡ to = omega (arith, high, above) in
          ap (λ (n : ℕ). filter_map f (each n)) last ∙ parts.1)
    ]
  where
    one_more : (n : ℕ) → suc n ≡ n + 1
    one_more n = omega arith

pub none_listed : (values : Values) (lo hi : Voxel) (depth : ℕ) (bs : List Cube)
    → bs ≡ met_blocks lo hi depth → listed_blocks values lo hi depth ≡ []
    → filter_map (shown values) bs ≡ []
unfolding listed_blocks
none_listed values lo hi depth bs all none = ap (filter_map (shown values)) all ∙ none

pub one_isnt_none : {A : Type 0} (a : A) → a ∷ [] ≡ [] → ⊥
one_isnt_none a e = cc

-- the value that stands over a block is what it answers
pub stored_answer : (t : Tree) (b : Cube) (n : Node) → IsLinked t → IsBlock b
    → IsFresh t ⊎ (b.depth ≡ 16)
    → n ≡ reach t b.depth (lowest_voxel b) → stored_in n ≡ depth_value (value_at t) b
stored_answer t b n l ok (inl fresh) is =
    (answer_exactly (value_at t) b (stored_in n) ok).0
    (answer_over t fresh (16 - b.depth) b n ok (omega (arith, ok.depth))
    (λ k held. over_lowest t b ok k held ∙ sym is))
stored_answer t b n l ok (inr deep) is =
    (answer_exactly (value_at t) b (stored_in n) ok).0
    (answer_over_voxel t l b n ok deep (λ k held. over_lowest t b ok k held ∙ sym is))

-- a block with a value
abbrev pub shown_with : Cube → ℤ → Shown
shown_with b v = record { block = b; value = v }

-- a block that is known is shown, and one that is unknown is not
pub shown_known : (values : Values) (b : Cube) (v : ℤ) → depth_value values b ≡ Some v
    → filter_map (shown values) (b ∷ []) ≡ record { block = b; value = v } ∷ []
shown_known values b v is = rw is refl

pub shown_unknown : (values : Values) (b : Cube) → depth_value values b ≡ None
    → filter_map (shown values) (b ∷ []) ≡ []
shown_unknown values b is = rw is refl

-- the planes of a box are the blocks that meet it
pub planes_met : (lo hi : Voxel) (depth fx tx fy ty fz tz : ℕ) → IsBox lo hi → IsInMap hi
    → depth ≤ 16
    → fx ≡ lo.x / side depth → tx ≡ hi.x / side depth + 1 → fy ≡ lo.y / side depth
    → ty ≡ hi.y / side depth + 1
    → fz ≡ lo.z / side depth → tz ≡ hi.z / side depth + 1
    → planes depth fx (tx - fx) fy (ty - fy) fz (tz - fz) ≡ met_blocks lo hi depth
planes_met lo hi depth fx tx fy ty fz tz box v few ex ex' ey ey' ez ez' =
    rw (ex, ex', ey, ey', ez, ez') (sym (met_are_box lo hi depth box v few))

pub listed_are : (values : Values) (lo hi : Voxel) (depth : ℕ) (found : List Shown) (bs : List Cube)
    → found ≡ filter_map (shown values) bs → bs ≡ met_blocks lo hi depth
    → found ≡ listed_blocks values lo hi depth
unfolding listed_blocks
listed_are values lo hi depth found bs is all = is ∙ ap (filter_map (shown values)) all

-- what follows where a call is done
pub on_done : {T E : Type 0} (r : Result T E) (P Q : Type 0) → OnOk r P → (P → Q) → OnOk r Q
on_done (Ok x) P Q h f = f h
on_done (Err e) P Q h f = tt

-- what follows where it isn't
pub on_failed : {T E : Type 0} (r : Result T E) (P Q : Type 0) → OnErr r P → (P → Q) → OnErr r Q
on_failed (Ok x) P Q h f = tt
on_failed (Err e) P Q h f = f h

-- this many blocks meet a box as the spans of their numbers say
pub count_is : (lo hi : Voxel) (depth fx tx fy ty fz tz nx ny nz : ℕ) → IsBox lo hi → IsInMap hi
    → depth ≤ 16
    → fx ≡ lo.x / side depth → tx ≡ hi.x / side depth + 1 → fy ≡ lo.y / side depth
    → ty ≡ hi.y / side depth + 1
    → fz ≡ lo.z / side depth → tz ≡ hi.z / side depth + 1
    → nx ≡ tx - fx → ny ≡ ty - fy → nz ≡ tz - fz → nx * ny * nz ≡ length (met_blocks lo hi depth)
count_is lo hi depth fx tx fy ty fz tz nx ny nz box v few ex ex' ey ey' ez ez' x y z =
    rw (x, y, z, ex, ex', ey, ey', ez, ez') (sym (count_of_met lo hi depth box v few))

-- an answer of more blocks than are allowed, and one where memory ran out
pub refused_by_memory : {A : Type 0} (r : Result A ListFault) (met most : ℕ)
    → IfErr r (λ fault. fault ≡ Memory) → met ≤ most → IfErr r (λ fault. IsRefused fault met most)
refused_by_memory (Ok x) met most h l = tt
refused_by_memory (Err fault) met most h l = subst (λ f. IsRefused f met most) (sym h) l
