-- What a walk through a block has pushed after each child.
use Rattle.std.proofs.Common.{◌≡◌, ℕ, zero, suc, ◌+◌, ◌-◌, ◌%◌, ◌^◌, ◌<◌, Bool, true, false, cond}
use Rattle.std.proofs.Common.{List, [], ◌∷◌, ◌++◌, length, refl, sym, ◌∙◌, ap, arith, append_assoc}
use Rattle.std.proofs.Common.{append-nil, length-append}
use Rattle.std.specs.Prelude.{◌&&◌}
use Rattle.std.proofs.lemmas.Grind.{flat_map-append}
use Rattle.oct_key.specs.Voxel.{Voxel}
use Rattle.oct_key.specs.Block.{Cube, IsBlock, HoldsVoxel, child_of, index_in_parent, parent_of}
use Rattle.oct_key.proofs.Blocks.{depth_child_of, parent_of_child, child_of_parent, child_injective}
use Rattle.oct_odds.specs.declared.event.Class.{Class}
use Rattle.oct_odds.specs.declared.event.Class.TheVariants.{Occupied}
use Rattle.oct_values.specs.Classes.{Classes}
use Rattle.oct_export.specs.Boxes.{is_full, boxes_below, children_before, blocks_before}
use Rattle.oct_export.specs.Boxes.{boxes_found, waited, is_due}
use Rattle.oct_export.specs.BoxTexts.{box_line, box_lines}
use Rattle.oct_export.proofs.Boxes.{first_full, first_boxes, first_next, first_whole, boxes_next}
use Rattle.oct_export.proofs.Boxes.{boxes_of_full, boxes_of_parts, first_of_full, leaf_full}
use Rattle.oct_export.proofs.Boxes.{leaf_boxes}

-- which child of its parent a child is
pub number_below : (b : Cube) → index_in_parent b < 8
unfolding index_in_parent
number_below b = omega arith

pub number_is : (b : Cube) (i : ℕ) → i < 8 → index_in_parent (child_of b i) ≡ i
number_is b i li =
    let deep = depth_child_of b i in
    (child_injective (parent_of (child_of b i)) b (index_in_parent (child_of b i)) i
    (number_below (child_of b i)) li
    (child_of_parent (child_of b i) (omega (arith, deep)))).1

-- the blocks before a child, where the block's own are waited for too
before_child : (levels : ℕ) (b : Cube) (i : ℕ) → i < 8 → blocks_before (levels + 1) (child_of b i)
    ≡ blocks_before levels b ++ children_before b i
unfolding blocks_before
before_child levels b i li =
    let e : levels + 1 ≡ suc levels = omega arith in
    ap (λ (n : ℕ). blocks_before n (child_of b i)) e
    ∙ ap (λ p. blocks_before levels p ++ children_before p (index_in_parent (child_of b i)))
    (parent_of_child b i)
    ∙ ap (λ (n : ℕ). blocks_before levels b ++ children_before b n) (number_is b i li)

-- what was found before child i
unfoldable pub found_before : Classes → ℕ → ℕ → Cube → ℕ → List Cube
found_before c h levels b i =
    cond (first_full c b i) [] (blocks_before levels b ++ first_boxes c h b i)

parts_of_child : (c : Classes) (h levels : ℕ) (b : Cube) (i : ℕ) (f r : Bool) → i < 8
    → 16 - (child_of b i).depth ≡ h
    → first_full c b i ≡ f → is_full c (child_of b i) ≡ r
    → found_before c h levels b i
    ++ (boxes_found c (waited f levels) (child_of b i) ++ cond (is_due r f) (child_of b i ∷ []) [])
    ≡ found_before c h levels b (i + 1)
unfolding found_before boxes_found blocks_before
parts_of_child c h levels b i true true li high is_f is_r =
    (let next : first_full c b (i + 1) ≡ true = first_next c b i
    ∙ ap (λ t. t && is_full c (child_of b i)) is_f ∙ is_r in
    rw (next, is_f, is_r) refl)
parts_of_child c h levels b i true false li high is_f is_r =
    (let next : first_full c b (i + 1) ≡ false = first_next c b i
    ∙ ap (λ t. t && is_full c (child_of b i)) is_f ∙ is_r in
    rw (next, is_f, is_r) (
    append-nil (blocks_before (levels + 1)
    (child_of b i) ++ boxes_below c (16 - (child_of b i).depth) (child_of b i))
    ∙ ap (λ (n : ℕ). blocks_before (levels + 1) (child_of b i) ++ boxes_below c n (child_of b i))
    high
    ∙ ap (λ l. l ++ boxes_below c h (child_of b i))
    (before_child levels b i li ∙ ap (λ l. blocks_before levels b ++ l)
    (sym (first_of_full c h b i is_f)))
    ∙ append_assoc (blocks_before levels b) (first_boxes c h b i) (boxes_below c h (child_of b i))
    ∙ ap (λ l. blocks_before levels b ++ l) (sym (boxes_next c h b i))))
parts_of_child c h levels b i false true li high is_f is_r =
    (let next : first_full c b (i + 1) ≡ false = first_next c b i
    ∙ ap (λ t. t && is_full c (child_of b i)) is_f in
    rw (next, is_f, is_r) (
    append_assoc (blocks_before levels b) (first_boxes c h b i) (child_of b i ∷ [])
    ∙ ap (λ l. blocks_before levels b ++ l)
    (ap (λ l. first_boxes c h b i ++ l) (sym (boxes_of_full c h (child_of b i) is_r))
    ∙ sym (boxes_next c h b i))))
parts_of_child c h levels b i false false li high is_f is_r =
    (let next : first_full c b (i + 1) ≡ false = first_next c b i
    ∙ ap (λ t. t && is_full c (child_of b i)) is_f in
    rw (next, is_f, is_r) (
    append_assoc (blocks_before levels b) (first_boxes c h b i)
    (boxes_below c (16 - (child_of b i).depth) (child_of b i) ++ [])
    ∙ ap (λ l. blocks_before levels b ++ l) (ap (λ l. first_boxes c h b i ++ l)
    (append-nil (boxes_below c (16 - (child_of b i).depth) (child_of b i))
    ∙ ap (λ (n : ℕ). boxes_below c n (child_of b i)) high) ∙ sym (boxes_next c h b i))))

-- the lines of boxes in two parts
pub lines_append : (edge : ℕ) (xs ys : List Cube) → box_lines edge (xs ++ ys)
    ≡ box_lines edge xs ++ box_lines edge ys
lines_append edge xs ys = flat_map-append (box_line edge) xs ys

pub lines_due : (edge : ℕ) (b : Cube) (t : Bool) → box_lines edge (cond t (b ∷ []) [])
    ≡ cond t (box_line edge b) []
lines_due edge b true = append-nil (box_line edge b)
lines_due edge b false = refl

-- the lines after one child more
pub found_next : (c : Classes) (edge h levels : ℕ) (b : Cube) (i : ℕ) (f r : Bool) → i < 8
    → 16 - (child_of b i).depth ≡ h
    → first_full c b i ≡ f → is_full c (child_of b i) ≡ r
    → box_lines edge (found_before c h levels b i)
    ++ (box_lines edge (boxes_found c (waited f levels) (child_of b i)) ++ cond (is_due r f)
    (box_line edge (child_of b i)) [])
    ≡ box_lines edge (found_before c h levels b (i + 1))
found_next c edge h levels b i f r li high is_f is_r =
    sym (ap (box_lines edge) (sym (parts_of_child c h levels b i f r li high is_f is_r))
    ∙ lines_append edge (found_before c h levels b i) _
    ∙ ap (λ l. box_lines edge (found_before c h levels b i) ++ l)
    (lines_append edge (boxes_found c (waited f levels) (child_of b i)) _
    ∙ ap (λ l. box_lines edge (boxes_found c (waited f levels) (child_of b i)) ++ l)
    (lines_due edge (child_of b i) (is_due r f))))

-- at first nothing, and after eight children all
pub found_none : (c : Classes) (edge h levels : ℕ) (b : Cube) (n : ℕ) → n ≡ 0
    → box_lines edge (found_before c h levels b n) ≡ []
unfolding found_before first_full
found_none c edge h levels b n is = ap (λ (m : ℕ). box_lines edge (found_before c h levels b m)) is

found_list : (c : Classes) (h levels : ℕ) (b : Cube) → IsBlock b → b.depth < 16
    → 16 - b.depth ≡ suc h
    → found_before c h levels b 8 ≡ boxes_found c levels b
unfolding found_before boxes_found
found_list c h levels b ok low high = by (is_full c b) refl
  where
    by : (t : Bool) → is_full c b ≡ t → found_before c h levels b 8 ≡ boxes_found c levels b
    by true is = (let eight = first_whole c b ok low ∙ is in rw (eight, is) refl)
    by false is = (let eight = first_whole c b ok low ∙ is in
        rw (eight, is)
        (ap (λ l. blocks_before levels b ++ l)
        (sym (ap (λ (n : ℕ). boxes_below c n b) high ∙ boxes_of_parts c h b is))))

pub found_whole : (c : Classes) (edge h levels : ℕ) (b : Cube) (n : ℕ) → IsBlock b → b.depth < 16
    → 16 - b.depth ≡ suc h → n ≡ 8
    → box_lines edge (found_before c h levels b n) ≡ box_lines edge (boxes_found c levels b)
found_whole c edge h levels b n ok low high is =
    ap (λ (m : ℕ). box_lines edge (found_before c h levels b m)) is
    ∙ ap (box_lines edge) (found_list c h levels b ok low high)

-- what the children from here on still add
found_rest : (c : Classes) (edge h levels : ℕ) (b : Cube) (i left : ℕ) → i + left ≡ 8
    → ((j : ℕ) → 16 - (child_of b j).depth ≡ h)
    → (rest : List ℕ)
    × (box_lines edge (found_before c h levels b i) ++ rest
    ≡ box_lines edge (found_before c h levels b 8))
found_rest c edge h levels b i zero all high = (let e : i ≡ 8 = omega (arith, all) in (
  [],
  append-nil (box_lines edge (found_before c h levels b i))
      ∙ ap (λ (n : ℕ). box_lines edge (found_before c h levels b n)) e,
))
found_rest c edge h levels b i (suc left) all high =
    let (rest, is) = found_rest c edge h levels b (i + 1) left (omega (arith, all)) high in
    let step : List ℕ =
    box_lines edge (boxes_found c (waited (first_full c b i) levels) (child_of b i))
    ++ cond (is_due (is_full c (child_of b i)) (first_full c b i))
    (box_line edge (child_of b i)) [] in (
      step ++ rest,
      sym (append_assoc (box_lines edge (found_before c h levels b i)) step rest)
          ∙ ap (λ l. l ++ rest)
          (found_next c edge h levels b i (first_full c b i) (is_full c (child_of b i))
          (omega (arith, all)) (high i) refl refl) ∙ is,
    )

-- where a child's boxes were cut off
pub found_cut : (c : Classes) (edge h levels : ℕ) (b : Cube) (i : ℕ) (f : Bool) → IsBlock b
    → b.depth < 16 → 16 - b.depth ≡ suc h → i < 8
    → ((j : ℕ) → 16 - (child_of b j).depth ≡ h) → first_full c b i ≡ f
    → (rest : List ℕ)
    × (box_lines edge (found_before c h levels b i)
    ++ (box_lines edge (boxes_found c (waited f levels) (child_of b i)) ++ rest)
    ≡ box_lines edge (boxes_found c levels b))
found_cut c edge h levels b i f ok low deep li high is_f =
    let (rest, is) = found_rest c edge h levels b (i + 1) (7 - i) (omega (arith, li)) high in
    let due : List ℕ = cond (is_due (is_full c (child_of b i)) f) (box_line edge (child_of b i)) []
    in (
      due ++ rest,
      ap (λ l. box_lines edge (found_before c h levels b i) ++ l)
          (sym (append_assoc (box_lines edge (boxes_found c (waited f levels) (child_of b i))) due
          rest))
          ∙ sym (append_assoc (box_lines edge (found_before c h levels b i))
          (box_lines edge (boxes_found c (waited f levels) (child_of b i)) ++ due) rest)
          ∙ ap (λ l. l ++ rest)
          (found_next c edge h levels b i f (is_full c (child_of b i)) li (high i) is_f refl)
          ∙ is
          ∙ found_whole c edge h levels b 8 ok low deep refl,
    )

-- ---- how many bytes that are, modulo 2^64

pub bytes_next : (a b d all : List ℕ) (m n k : ℕ) → m ≡ length a % 2 ^ 64 → n ≡ length b % 2 ^ 64
    → k ≡ length d → a ++ (b ++ d) ≡ all
    → ((m + n) % 2 ^ 64 + k) % 2 ^ 64 ≡ length all % 2 ^ 64
bytes_next a b d all m n k is_m is_n is_k whole =
    let long : length all ≡ length a + length (b ++ d) = ap length (sym whole)
    ∙ length-append a (b ++ d) in
    let more = length-append b d in
    omega (arith, long, more, is_m, is_n, is_k)

-- ---- the blocks before one

-- no levels above, no blocks
pub before_none : (edge levels : ℕ) (b : Cube) → levels ≡ 0
    → box_lines edge (blocks_before levels b) ≡ []
unfolding blocks_before
before_none edge levels b none = ap (λ (n : ℕ). box_lines edge (blocks_before n b)) none

-- those in the parent's blocks above, and the children of the parent before this one
unfoldable pub before_child_of : ℕ → ℕ → Cube → ℕ → List ℕ
before_child_of edge levels p i =
    box_lines edge (blocks_before (levels - 1) p ++ children_before p i)

pub before_start : (edge levels : ℕ) (p : Cube) (n : ℕ) → n ≡ 0
    → box_lines edge (blocks_before (levels - 1) p) ≡ before_child_of edge levels p n
unfolding before_child_of children_before
before_start edge levels p n none =
    ap (box_lines edge) (sym (append-nil (blocks_before (levels - 1) p)))
    ∙ ap (before_child_of edge levels p) (sym none)

pub before_next : (edge levels : ℕ) (p : Cube) (i : ℕ)
    → before_child_of edge levels p i ++ box_line edge (child_of p i)
    ≡ before_child_of edge levels p (i + 1)
unfolding before_child_of children_before
before_next edge levels p i =
    let e : i + 1 ≡ suc i = omega arith in
    ap (λ l. before_child_of edge levels p i ++ l) (sym (append-nil (box_line edge (child_of p i))))
    ∙ sym (lines_append edge (blocks_before (levels - 1) p ++ children_before p i)
    (child_of p i ∷ []))
    ∙ ap (box_lines edge)
    (append_assoc (blocks_before (levels - 1) p) (children_before p i) (child_of p i ∷ []))
    ∙ ap (before_child_of edge levels p) (sym e)

pub before_rest : (edge levels : ℕ) (p : Cube) (i left : ℕ)
    → (rest : List ℕ)
    × (before_child_of edge levels p i ++ rest ≡ before_child_of edge levels p (i + left))
before_rest edge levels p i zero =
    (let e : i ≡ i + 0 = omega arith in
    ([], append-nil (before_child_of edge levels p i) ∙ ap (before_child_of edge levels p) e))
before_rest edge levels p i (suc left) =
    let (rest, is) = before_rest edge levels p (i + 1) left in
    let e : i + 1 + left ≡ i + suc left = omega arith in (
      box_line edge (child_of p i) ++ rest,
      sym (append_assoc (before_child_of edge levels p i) (box_line edge (child_of p i)) rest)
          ∙ ap (λ l. l ++ rest) (before_next edge levels p i) ∙ is
          ∙ ap (before_child_of edge levels p) e,
    )

pub before_whole : (edge levels : ℕ) (b p : Cube) (n : ℕ) → 0 < levels → p ≡ parent_of b
    → n ≡ index_in_parent b
    → before_child_of edge levels p n ≡ box_lines edge (blocks_before levels b)
unfolding before_child_of blocks_before
before_whole edge levels b p n some is_p is_n =
    let e : levels ≡ suc (levels - 1) = omega (arith, some) in
    ap (λ q. before_child_of edge levels q n) is_p
    ∙ ap (before_child_of edge levels (parent_of b)) is_n
    ∙ sym (ap (λ (m : ℕ). box_lines edge (blocks_before m b)) e)

-- where the boxes above were cut off, and where the line of a child was
pub above_cut : (edge levels : ℕ) (b p : Cube) → 0 < levels → p ≡ parent_of b
    → (rest : List ℕ)
    × (box_lines edge (blocks_before (levels - 1) p) ++ rest
    ≡ box_lines edge (blocks_before levels b))
above_cut edge levels b p some is_p =
    let (rest, is) = before_rest edge levels p 0 (index_in_parent b) in
    let e : 0 + index_in_parent b ≡ index_in_parent b = omega arith in (
      rest,
      ap (λ l. l ++ rest) (before_start edge levels p 0 refl) ∙ is
          ∙ ap (before_child_of edge levels p) e
          ∙ before_whole edge levels b p (index_in_parent b) some is_p refl,
    )

pub before_cut : (edge levels : ℕ) (b p : Cube) (i : ℕ) → 0 < levels → p ≡ parent_of b
    → i < index_in_parent b
    → (rest : List ℕ)
    × (before_child_of edge levels p i ++ (box_line edge (child_of p i) ++ rest)
    ≡ box_lines edge (blocks_before levels b))
before_cut edge levels b p i some is_p less =
    let (rest, is) = before_rest edge levels p (i + 1) (index_in_parent b - (i + 1)) in
    let e : i + 1 + (index_in_parent b - (i + 1)) ≡ index_in_parent b = omega (arith, less) in (
      rest,
      sym (append_assoc (before_child_of edge levels p i) (box_line edge (child_of p i)) rest)
          ∙ ap (λ l. l ++ rest) (before_next edge levels p i) ∙ is
          ∙ ap (before_child_of edge levels p) e
          ∙ before_whole edge levels b p (index_in_parent b) some is_p refl,
    )

pub bytes_more : (a b all : List ℕ) (m n : ℕ) → m ≡ length a % 2 ^ 64 → n ≡ length b → a ++ b ≡ all
    → (m + n) % 2 ^ 64 ≡ length all % 2 ^ 64
bytes_more a b all m n is_m is_n whole =
    let long : length all ≡ length a + length b = ap length (sym whole) ∙ length-append a b in
    omega (arith, long, is_m, is_n)

-- ---- a block of one class

pub leaf_found : (c : Classes) (levels : ℕ) (b : Cube) (class : Class) (t : Bool) → IsBlock b
    → ((k : Voxel) → HoldsVoxel b k → c k ≡ class)
    → (t ≡ true → class ≡ Occupied) → (class ≡ Occupied → t ≡ true)
    → cond t [] (blocks_before levels b) ≡ boxes_found c levels b
unfolding boxes_found
leaf_found c levels b class true ok all to from =
    (let full = sym (leaf_full c b class true ok all to from) in rw full refl)
leaf_found c levels b class false ok all to from =
    (let part = sym (leaf_full c b class false ok all to from) in
    let none = leaf_boxes c b class false ok all to from in
    rw part (sym (append-nil (blocks_before levels b)) ∙ ap (λ l. blocks_before levels b ++ l)
    (sym none)))

pub leaf_text : (c : Classes) (res edge levels : ℕ) (b : Cube) (class : Class) (t : Bool)
    → IsBlock b → ((k : Voxel) → HoldsVoxel b k → c k ≡ class)
    → (t ≡ true → class ≡ Occupied) → (class ≡ Occupied → t ≡ true) → res ≡ edge
    → box_lines res (cond t [] (blocks_before levels b)) ≡ box_lines edge (boxes_found c levels b)
leaf_text c res edge levels b class t ok all to from same =
    ap (λ (e : ℕ). box_lines e (cond t [] (blocks_before levels b))) same
    ∙ ap (box_lines edge) (leaf_found c levels b class t ok all to from)

-- ---- a step of the walk, in the words of its calls

pub walk_next : (c : Classes) (edge h levels : ℕ) (b child : Cube) (i w res : ℕ) (f r d : Bool)
    → i < 8 → 16 - (child_of b i).depth ≡ h
    → f ≡ first_full c b i → r ≡ is_full c child → child ≡ child_of b i → w ≡ waited f levels
    → d ≡ is_due r f → res ≡ edge
    → box_lines edge (found_before c h levels b i)
    ++ (box_lines edge (boxes_found c w child) ++ cond d (box_line res child) [])
    ≡ box_lines edge (found_before c h levels b (i + 1))
walk_next c edge h levels b child i w res f r d li high f_is r_is child_is w_is d_is res_is =
    ap (λ q. box_lines edge (found_before c h levels b i)
    ++ (box_lines edge (boxes_found c w q) ++ cond d (box_line res q) [])) child_is
    ∙ ap (λ (n : ℕ). box_lines edge (found_before c h levels b i)
    ++ (box_lines edge (boxes_found c n (child_of b i)) ++ cond d (box_line res (child_of b i))
    [])) w_is
    ∙ ap (λ t. box_lines edge (found_before c h levels b i)
    ++ (box_lines edge (boxes_found c (waited f levels) (child_of b i))
    ++ cond t (box_line res (child_of b i)) [])) d_is
    ∙ ap (λ (e : ℕ). box_lines edge (found_before c h levels b i)
    ++ (box_lines edge (boxes_found c (waited f levels) (child_of b i)) ++ cond (is_due r f)
    (box_line e (child_of b i)) [])) res_is
    ∙ found_next c edge h levels b i f r li high (sym f_is) (sym (r_is ∙ ap (is_full c) child_is))

pub walk_cut : (c : Classes) (edge h levels : ℕ) (b child : Cube) (i w : ℕ) (f : Bool) → IsBlock b
    → b.depth < 16 → 16 - b.depth ≡ suc h → i < 8
    → ((j : ℕ) → 16 - (child_of b j).depth ≡ h) → f ≡ first_full c b i → child ≡ child_of b i
    → w ≡ waited f levels
    → (rest : List ℕ)
    × (box_lines edge (found_before c h levels b i)
    ++ (box_lines edge (boxes_found c w child) ++ rest) ≡ box_lines edge (boxes_found c levels b))
walk_cut c edge h levels b child i w f ok low deep li high f_is child_is w_is =
    let (rest, is) = found_cut c edge h levels b i f ok low deep li high (sym f_is) in (
      rest,
      ap (λ q. box_lines edge (found_before c h levels b i)
          ++ (box_lines edge (boxes_found c w q) ++ rest)) child_is
          ∙ ap (λ (n : ℕ). box_lines edge (found_before c h levels b i)
          ++ (box_lines edge (boxes_found c n (child_of b i)) ++ rest)) w_is ∙ is,
    )

pub walk_due : (c : Classes) (edge h levels : ℕ) (b child : Cube) (i w res : ℕ) (f r d : Bool)
    → IsBlock b → b.depth < 16 → 16 - b.depth ≡ suc h → i < 8
    → ((j : ℕ) → 16 - (child_of b j).depth ≡ h)
    → f ≡ first_full c b i → r ≡ is_full c child → child ≡ child_of b i → w ≡ waited f levels
    → d ≡ is_due r f → res ≡ edge
    → (rest : List ℕ)
    × ((box_lines edge (found_before c h levels b i) ++ box_lines edge (boxes_found c w child))
    ++ (cond d (box_line res child) [] ++ rest)
    ≡ box_lines edge (boxes_found c levels b))
walk_due c edge h levels b child i w res f r d ok low deep li high f_is r_is child_is w_is d_is
    res_is =
    let (rest, is) = found_rest c edge h levels b (i + 1) (7 - i) (omega (arith, li)) high in
    let before : List ℕ = box_lines edge (found_before c h levels b i) in
    let inner : List ℕ = box_lines edge (boxes_found c w child) in
    let due : List ℕ = cond d (box_line res child) [] in (
      rest,
      sym (append_assoc (before ++ inner) due rest)
          ∙ ap (λ l. l ++ rest) (append_assoc before inner due
          ∙ walk_next c edge h levels b child i w res f r d li (high i) f_is r_is child_is w_is d_is
          res_is)
          ∙ is ∙ found_whole c edge h levels b 8 ok low deep refl,
    )

-- ---- what is written on a condition

pub due_is : (t : Bool) (line : List ℕ) → t ≡ true → line ≡ cond t line []
due_is t line is = rw is refl

pub due_none : (t : Bool) (line : List ℕ) → t ≡ false → cond t line [] ≡ []
due_none t line is = rw is refl

pub leaf_waits : (edge : ℕ) (t : Bool) (boxes : List Cube) → t ≡ true
    → box_lines edge (cond t [] boxes) ≡ []
leaf_waits edge t boxes is = rw is refl

pub leaf_tells : (edge : ℕ) (t : Bool) (boxes : List Cube) → t ≡ false → box_lines edge boxes
    ≡ box_lines edge (cond t [] boxes)
leaf_tells edge t boxes is = rw is refl
