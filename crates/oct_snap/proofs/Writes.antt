-- Writing a node child by child.
use Rattle.std.proofs.Common.{◌≡◌, ℕ, zero, suc, ◌+◌, ◌-◌, ◌*◌, ◌^◌, ◌<◌, ◌≤◌, Option, Some, None}
use Rattle.std.proofs.Common.{List, [], ◌∷◌, ◌++◌, length, refl, sym, subst, ◌∙◌, ap, arith}
use Rattle.std.proofs.Common.{append_assoc, append-nil, length-append}
use Rattle.std.specs.Prelude.{is_some}
use Rattle.std.specs.List.{flat_map}
use Rattle.std.proofs.lemmas.Bool.{false≢true}
use Rattle.std.proofs.Math.Nat.{pow-suc, pow-le-pow_right, one-le-pow}
use Rattle.oct_key.specs.Values.{Values}
use Rattle.oct_key.specs.Boxes.{Window}
use Rattle.oct_key.specs.Voxel.{Voxel, IsInMap}
use Rattle.oct_key.specs.Block.{Cube, IsBlock, HoldsVoxel, child_of, lowest_voxel}
use Rattle.oct_key.proofs.Blocks.{lowest_held}
use Rattle.oct_odds.specs.Odds.{Odds}
use Rattle.oct_odds.specs.Update.{Value}
use Rattle.oct_values.specs.Blocks.{child_numbers}
use Rattle.oct_io.specs.Taken.{IsCutOff, IsGathered, IsTaken, IsRefused}
use Rattle.oct_io.proofs.Gathering.{gathered_first, taken_more, refused_first, refused_second}
use Rattle.oct_arena.specs.declared.node.Node.{Node}
use Rattle.oct_arena.specs.Nodes.{link_of, value_of}
use Rattle.oct_tree.specs.declared.place.Place.{Place}
use Rattle.oct_tree.specs.Tree.{Tree, IsLinked, IsPlace, block_in, value_at}
use Rattle.oct_tree.proofs.Paths.{place_block}
use Rattle.oct_snap.specs.declared.common.Common.{Common as Shared}
use Rattle.oct_snap.specs.declared.common.Common.TheVariants.{Value as OfValue, Several}
use Rattle.oct_snap.specs.Nodes.{whole_text}
use Rattle.oct_snap.specs.Texts.{common_value, text_with, node_text, map_text, head_bytes}
use Rattle.oct_snap.specs.Texts.{snap_text}
use Rattle.oct_snap.specs.Common.{value_of_common}
use Rattle.oct_snap.proofs.Places.{IsAbove}
use Rattle.oct_snap.proofs.Commons.{leaf_common, common_of_each, common_exact}

-- ---- the texts of the first children

unfoldable pub first_texts : (ℕ → List ℕ) → ℕ → List ℕ
first_texts f zero = []
first_texts f (suc n) = first_texts f n ++ f n

pub texts_next : (f : ℕ → List ℕ) (n : ℕ) → first_texts f (n + 1) ≡ first_texts f n ++ f n
unfolding first_texts
texts_next f n = (let e : n + 1 ≡ suc n = omega arith in ap (first_texts f) e)

pub all_texts : (f : ℕ → List ℕ) → flat_map f child_numbers ≡ first_texts f 8
unfolding first_texts
all_texts f =
    sym (append_assoc (f 0) (f 1) (f 2 ++ (f 3 ++ (f 4 ++ (f 5 ++ (f 6 ++ (f 7 ++ [])))))))
    ∙ sym (append_assoc (f 0 ++ f 1) (f 2) (f 3 ++ (f 4 ++ (f 5 ++ (f 6 ++ (f 7 ++ []))))))
    ∙ sym (append_assoc ((f 0 ++ f 1) ++ f 2) (f 3) (f 4 ++ (f 5 ++ (f 6 ++ (f 7 ++ [])))))
    ∙ sym (append_assoc (((f 0 ++ f 1) ++ f 2) ++ f 3) (f 4) (f 5 ++ (f 6 ++ (f 7 ++ []))))
    ∙ sym (append_assoc ((((f 0 ++ f 1) ++ f 2) ++ f 3) ++ f 4) (f 5) (f 6 ++ (f 7 ++ [])))
    ∙ sym (append_assoc (((((f 0 ++ f 1) ++ f 2) ++ f 3) ++ f 4) ++ f 5) (f 6) (f 7 ++ []))
    ∙ sym (append_assoc ((((((f 0 ++ f 1) ++ f 2) ++ f 3) ++ f 4) ++ f 5) ++ f 6) (f 7) [])
    ∙ append-nil (((((((f 0 ++ f 1) ++ f 2) ++ f 3) ++ f 4) ++ f 5) ++ f 6) ++ f 7)

-- what is left of the texts from child i on
pub texts_left : (f : ℕ → List ℕ) (i left : ℕ) → i + left ≡ 8
    → (rest : List ℕ) × (first_texts f 8 ≡ first_texts f i ++ rest)
unfolding first_texts
texts_left f i zero all =
    (let e : 8 ≡ i = omega arith in ([], ap (first_texts f) e ∙ sym (append-nil (first_texts f i))))
texts_left f i (suc left) all =
    let (rest, is) = texts_left f (suc i) left (omega arith) in
    (f i ++ rest, is ∙ append_assoc (first_texts f i) (f i) rest)

texts_short : (f : ℕ → List ℕ) (m n : ℕ) → ((i : ℕ) → length (f i) ≤ m)
    → length (first_texts f n) ≤ n * m
unfolding first_texts
texts_short f m zero h = omega arith
texts_short f m (suc n) h =
    let before = texts_short f m n h in
    let here = h n in
    let long = length-append (first_texts f n) (f n) in
    omega (arith, before, here, long)

-- ---- the length of a node

whole_short : (v : Value) → length (whole_text v) ≤ 5
whole_short None = omega arith
whole_short (Some n) = omega arith

node_by_short : (h : ℕ) (texts : ℕ → List ℕ) (o : Option Value)
    → ((i : ℕ) → length (texts i) < 6 * 8 ^ h)
    → length (text_with o (flat_map texts child_numbers)) < 6 * 8 ^ suc h
node_by_short h texts (Some v) each =
    (let few = whole_short v in let power = pow-suc 8 h in let more = one-le-pow h 8 (omega arith)
    in
    omega (arith, few, power, more))
node_by_short h texts None each =
    let all : length (flat_map texts child_numbers) ≡ length (first_texts texts 8) =
    ap length (all_texts texts) in
    let few = texts_short texts (6 * 8 ^ h - 1) 8 (λ i. (let one = each i in omega (arith, one))) in
    let power = pow-suc 8 h in
    let more = one-le-pow h 8 (omega arith) in
    omega (arith, all, few, power, more)

pub whole_fits : (h n : ℕ) (v : Value) → n ≡ length (whole_text v) → n < 6 * 8 ^ h
whole_fits h n v is =
    (let few = whole_short v in let more = one-le-pow h 8 (omega arith) in omega (
      arith,
      few,
      more,
      is,
    ))

pub node_short : (h : ℕ) (values : Values) (b : Cube) → length (node_text h values b) < 6 * 8 ^ h
unfolding node_text
node_short zero values b = (let few = whole_short (values (lowest_voxel b)) in omega (arith, few))
node_short (suc h) values b =
    node_by_short h (λ i. node_text h values (child_of b i)) (common_value values b)
    (λ i. node_short h values (child_of b i))

pub powers_fit : (h : ℕ) → h ≤ 16 → 6 * 8 ^ h ≤ 6 * 8 ^ 16
powers_fit h low =
    (let most : 8 ^ h ≤ 8 ^ 16 = pow-le-pow_right {n = 8} (omega arith) {i = h} {j = 16} low in
    omega (arith, most))

-- ---- a block of one value

pub node_of_one : (h : ℕ) (values : Values) (b : Cube) (v : Value) → IsBlock b
    → Some v ≡ common_value values b
    → node_text h values b ≡ whole_text v
unfolding node_text
node_of_one zero values b v ok is =
    ap whole_text (common_of_each values b v (lowest_voxel b) ok (sym is) (lowest_held b))
node_of_one (suc h) values b v ok is =
    ap (λ o. text_with o (flat_map (λ i. node_text h values (child_of b i)) child_numbers)) (sym is)

value_back : (r : Shared) (v : Value) → value_of_common r ≡ Some v → r ≡ OfValue v
value_back (OfValue w) v is = common_exact (OfValue w) (OfValue v) is
value_back Several v is = absurd (false≢true (ap is_some is))

-- the node over a block of several values is Inner
pub never_leaf : (t : Tree) (p : Place) (n : Node) (r : Shared) → IsLinked t → IsPlace t p
    → link_of n ≡ None
    → ((b : Cube) → block_in t p ≡ Some b → link_of n ≡ None → (k : Voxel) → IsInMap k
    → HoldsVoxel b k → value_at t k ≡ value_of n)
    → ((b : Cube) → block_in t p ≡ Some b → value_of_common r ≡ common_value (value_at t) b)
    → ((v : Value) → r ≡ OfValue v → ⊥) → ⊥
never_leaf t p n r l place none values common other =
    let (b, at) = place_block t p place in
    other (value_of n)
    (value_back r (value_of n)
    (common b at ∙ leaf_common t p b (value_of n) l place at (values b at none)))

-- ---- a block of several values

-- the texts of the children of a block of this depth
abbrev pub child_text : Values → ℕ → Cube → ℕ → List ℕ
child_text values d b i = node_text (16 - (d + 1)) values (child_of b i)

-- what is written of its node before child i
abbrev pub before : Values → ℕ → Cube → ℕ → List ℕ
before values d b i = 2 ∷ first_texts (child_text values d b) i

pub before_none : (values : Values) (d : ℕ) (b : Cube) → before values d b 0 ≡ 2 ∷ []
unfolding first_texts
before_none values d b = refl

pub before_next : (values : Values) (d : ℕ) (b : Cube) (i : ℕ) → before values d b (i + 1)
    ≡ before values d b i ++ child_text values d b i
before_next values d b i = ap (λ (t : List ℕ). 2 ∷ t) (texts_next (child_text values d b) i)

several_none : (r : Shared) (o : Option Value) → value_of_common r ≡ o
    → ((v : Value) → r ≡ OfValue v → ⊥) → o ≡ None
several_none (OfValue v) o is other = absurd (other v refl)
several_none Several o is other = sym is

pub node_parted : (values : Values) (d : ℕ) (b : Cube) (r : Shared) → IsAbove d b
    → value_of_common r ≡ common_value values b
    → ((v : Value) → r ≡ OfValue v → ⊥) → before values d b 8 ≡ node_text (16 - d) values b
unfolding node_text
node_parted values d b r a common other =
    let none : common_value values b ≡ None = several_none r (common_value values b) common other in
    ap (λ (t : List ℕ). 2 ∷ t) (sym (all_texts (child_text values d b)))
    ∙ ap (λ (o : Option Value). text_with o (flat_map (child_text values d b) child_numbers))
    (sym none)
    ∙ ap (λ (h : ℕ). node_text h values b) (sym a.next)

pub cut_first : (values : Values) (d : ℕ) (b : Cube) (r : Shared) (old new : Option (List ℕ))
    (held : List ℕ) → IsAbove d b
    → value_of_common r ≡ common_value values b → ((v : Value) → r ≡ OfValue v → ⊥)
    → IsRefused (2 ∷ []) old held new → IsRefused (node_text (16 - d) values b) old held new
cut_first values d b r old new held a common other cut =
    subst (λ t. IsRefused t old held new) (node_parted values d b r a common other)
    (refused_first (2 ∷ []) (first_texts (child_text values d b) 8) old new held cut)

pub cut_child : (values : Values) (d : ℕ) (b : Cube) (r : Shared) (i : ℕ)
    (old out new : Option (List ℕ)) (held kept : List ℕ) → IsAbove d b
    → value_of_common r ≡ common_value values b → ((v : Value) → r ≡ OfValue v → ⊥) → i < 8
    → IsTaken (before values d b i) old held out kept
    → IsRefused (child_text values d b i) out kept new
    → IsRefused (node_text (16 - d) values b) old held new
cut_child values d b r i old out new held kept a common other li sent cut =
    let (rest, all) = texts_left (child_text values d b) (i + 1) (7 - i) (omega (arith, li)) in
    subst (λ t. IsRefused t old held new)
    (ap (λ (t : List ℕ). 2 ∷ t)
    (ap (λ (t : List ℕ). t ++ rest) (sym (texts_next (child_text values d b) i)) ∙ sym all)
    ∙ node_parted values d b r a common other)
    (refused_first (before values d b i ++ child_text values d b i) rest old new held
    (refused_second (before values d b i) (child_text values d b i) old out new held kept sent cut))

pub sent_child : (values : Values) (d : ℕ) (b : Cube) (i : ℕ) (old out new : Option (List ℕ))
    (held kept left : List ℕ)
    → IsTaken (before values d b i) old held out kept
    → IsTaken (child_text values d b i) out kept new left
    → IsTaken (before values d b (i + 1)) old held new left
sent_child values d b i old out new held kept left sent after =
    subst (λ t. IsTaken t old held new left) (sym (before_next values d b i))
    (taken_more (before values d b i)
    (child_text values d b i) old out new held kept left sent after)

pub sent_all : (values : Values) (d : ℕ) (b : Cube) (r : Shared) (i : ℕ) (old out : Option (List ℕ))
    (held kept : List ℕ) → IsAbove d b
    → value_of_common r ≡ common_value values b → ((v : Value) → r ≡ OfValue v → ⊥) → i ≡ 8
    → IsTaken (before values d b i) old held out kept
    → IsTaken (node_text (16 - d) values b) old held out kept
sent_all values d b r i old out held kept a common other end sent =
    subst (λ t. IsTaken t old held out kept)
    (ap (before values d b) end ∙ node_parted values d b r a common other) sent

pub long_child : (values : Values) (d : ℕ) (b : Cube) (i n m : ℕ) → n ≡ length (before values d b i)
    → m ≡ length (child_text values d b i) → n + m ≡ length (before values d b (i + 1))
long_child values d b i n m e f =
    let all : length (before values d b (i + 1))
    ≡ length (before values d b i) + length (child_text values d b i)
    = ap length (before_next values d b i) ∙ length-append (before values d b i)
    (child_text values d b i) in
    omega (arith, all, e, f)

pub long_all : (values : Values) (d : ℕ) (b : Cube) (r : Shared) (i n : ℕ) → IsAbove d b
    → value_of_common r ≡ common_value values b → ((v : Value) → r ≡ OfValue v → ⊥) → i ≡ 8
    → n ≡ length (before values d b i) → n ≡ length (node_text (16 - d) values b)
long_all values d b r i n a common other end e =
    e ∙ ap length (ap (before values d b) end ∙ node_parted values d b r a common other)

-- the lengths fit
pub before_short : (values : Values) (d : ℕ) (b : Cube) (i n : ℕ) → i ≤ 8
    → n ≡ length (before values d b i) → n ≤ 1 + 8 * (6 * 8 ^ 16)
before_short values d b i n li e =
    let few = texts_short (child_text values d b)
    (6 * 8 ^ 16) i (λ j. (let one = node_short (16 - (d + 1)) values (child_of b j) in
    let fits = powers_fit (16 - (d + 1)) (omega arith) in omega (arith, one, fits))) in
    omega (arith, few, e, li)

-- ---- the whole text

-- a gather that holds nothing
holds_nothing : (old : Option (List ℕ)) (held : List ℕ) → held ≡ [] → IsGathered [] old old held
holds_nothing old held none = subst (IsGathered [] old old) (sym none) (gathered_first old)

pub cut_fields : (res : ℕ) (o : Odds) (window : Option Window) (values : Values)
    (old new : Option (List ℕ)) (none head : List ℕ)
    → none ≡ [] → head ≡ head_bytes res o window → IsRefused head old none new
    → IsCutOff old new (snap_text res o window values)
unfolding snap_text
cut_fields res o window values old new none head empty is cut =
    subst (IsCutOff old new) (ap (λ (t : List ℕ). t ++ map_text values) is)
    (refused_first head (map_text values) old new none cut [] old (holds_nothing old none empty))

pub cut_nodes : (res : ℕ) (o : Odds) (window : Option Window) (values : Values)
    (old out new : Option (List ℕ)) (none held head : List ℕ)
    → none ≡ [] → head ≡ head_bytes res o window → IsTaken head old none out held
    → IsRefused (map_text values) out held new
    → IsCutOff old new (snap_text res o window values)
unfolding snap_text
cut_nodes res o window values old out new none held head empty is sent cut =
    subst (IsCutOff old new) (ap (λ (t : List ℕ). t ++ map_text values) is)
    (refused_second head (map_text values) old out new none held sent cut [] old
    (holds_nothing old none empty))

pub sent_snap : (res : ℕ) (o : Odds) (window : Option Window) (values : Values)
    (old out new : Option (List ℕ)) (none held left head : List ℕ)
    → none ≡ [] → head ≡ head_bytes res o window → IsTaken head old none out held
    → IsTaken (map_text values) out held new left
    → IsGathered (snap_text res o window values) old new left
unfolding snap_text
sent_snap res o window values old out new none held left head empty is sent after =
    subst (λ t. IsGathered t old new left) (ap (λ (t : List ℕ). t ++ map_text values) is)
    (taken_more head (map_text values) old out new none held left sent after [] old
    (holds_nothing old none empty))

pub long_snap : (res : ℕ) (o : Odds) (window : Option Window) (values : Values) (head : List ℕ)
    (n m : ℕ)
    → head ≡ head_bytes res o window → n ≡ length head → m ≡ length (map_text values)
    → n + m ≡ length (snap_text res o window values)
unfolding snap_text
long_snap res o window values head n m is first second =
    let all = length-append (head_bytes res o window) (map_text values) in
    let same : length head ≡ length (head_bytes res o window) = ap length is in
    omega (arith, all, same, first, second)
