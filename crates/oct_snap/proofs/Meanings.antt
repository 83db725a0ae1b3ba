-- Nodes are the text of the values that they give.
use Rattle.std.proofs.Common.{◌≡◌, ℕ, zero, suc, ◌+◌, ◌<◌, ◌≤◌, Option, Some, None, List, [], ◌∷◌}
use Rattle.std.proofs.Common.{◌++◌, refl, sym, subst, ◌∙◌, ap, arith, append-nil}
use Rattle.std.specs.Prelude.{Bool, true, false, ◌&&◌, is_some, Ok}
use Rattle.std.specs.List.{All, flat_map}
use Rattle.std.proofs.lemmas.Bool.{false≢true, and_parts}
use Rattle.oct_key.specs.Voxel.{Voxel, IsInMap}
use Rattle.oct_key.specs.Values.{Values}
use Rattle.oct_key.specs.Block.{Cube, IsBlock, HoldsVoxel, child_of, child_index_of, root_block}
use Rattle.oct_key.proofs.Blocks.{child_in_map, child_holds, depth_child_of, root_in_map}
use Rattle.oct_key.proofs.Held.{held_in_map}
use Rattle.oct_odds.specs.Odds.{Odds}
use Rattle.oct_odds.specs.Update.{Value}
use Rattle.oct_values.specs.Blocks.{child_numbers}
use Rattle.oct_values.specs.Counts.{is_same_value}
use Rattle.oct_values.proofs.Uniform.{is_same_value_refl, is_same_value_exact}
use Rattle.oct_snap.specs.Nodes.{Nodes, End, Whole, Parted, whole_text, text_of, are_all, are_alike}
use Rattle.oct_snap.specs.Nodes.{AreNodes, value_in}
use Rattle.oct_snap.specs.Texts.{common_value, text_with, node_text, map_text}
use Rattle.oct_snap.specs.Reading.{Found, read_node}
use Rattle.oct_snap.proofs.Exact.{node_found}
use Rattle.oct_snap.proofs.Commons.{common_of_all, common_down}
use Rattle.oct_snap.proofs.Writes.{node_of_one}

-- the value of the first node, or none where it is of several
abbrev pub kind_of : Nodes → Option Value
kind_of End = None
kind_of (Whole v later) = Some v
kind_of (Parted i later) = None

unfoldable pub numbers : ℕ → ℕ → List ℕ
numbers m zero = []
numbers m (suc n) = m ∷ numbers (suc m) n

-- a node is that of a block of these values
pub record IsNodeOf (values : Values) (h : ℕ) (b : Cube) (one : Nodes) : Type 0 where
  pub text : text_of one ≡ node_text h values b
  pub kind : kind_of one ≡ common_value values b

-- nodes in a row are nodes of the children from m on
record AreNodesOf (values : Values) (h : ℕ) (b : Cube) (m n : ℕ) (row : Nodes) : Type 0 where
  text : text_of row ≡ flat_map (λ i. node_text h values (child_of b i)) (numbers m n)
  alike : (v : Value) → ((i : ℕ) → i < m + n → common_value values (child_of b i) ≡ Some v)
      → are_all v row ≡ true

-- each child's node is its own
abbrev EachIs : Odds → Values → ℕ → ℕ → Cube → Type 0
EachIs o values h d b = (i : ℕ) (one : Nodes) → i < 8 → AreNodes o h 1 one
    → ((k : Voxel) → HoldsVoxel (child_of b i) k → value_in d one 0 k ≡ values k)
    → IsNodeOf values h (child_of b i) one

abbrev pub Agree : Values → ℕ → Cube → ℕ → ℕ → Nodes → Type 0
Agree values d b m n nodes = (j : ℕ) (k : Voxel) → j < n → HoldsVoxel (child_of b (m + j)) k
    → value_in d nodes j k ≡ values k

some_or : Option Value → Value → Value
some_or (Some v) w = v
some_or None w = w

some_same : (v w : Value) → Some v ≡ Some w → v ≡ w
unfolding some_or
some_same v w e = ap (λ (o : Option Value). some_or o v) e

whole_alike : (v w : Value) (o : Option Value) (rest : Bool) → Some v ≡ o → o ≡ Some w → rest ≡ true
    → (is_same_value w v && rest) ≡ true
whole_alike v w o rest e f all =
    ap (λ (x : Value). is_same_value w x && rest) (some_same v w (e ∙ f))
    ∙ ap (λ (b : Bool). b && rest) (is_same_value_refl w) ∙ all

pub first_agrees : (values : Values) (d : ℕ) (b : Cube) (m n : ℕ) (nodes : Nodes)
    → Agree values d b m (suc n) nodes
    → (k : Voxel) → HoldsVoxel (child_of b m) k → value_in d nodes 0 k ≡ values k
first_agrees values d b m n nodes agree k held =
    (let e : m ≡ m + 0 = omega arith in
    agree 0 k (omega arith) (subst (λ (i : ℕ). HoldsVoxel (child_of b i) k) e held))

row_is : (o : Odds) (values : Values) (h d : ℕ) (b : Cube) → EachIs o values h d b
    → (m n : ℕ) (row : Nodes) → m + n ≤ 8
    → AreNodes o h n row → Agree values d b m n row → AreNodesOf values h b m n row
unfolding text_of are_all value_in numbers
row_is o values h d b each m zero End few are agree = record { text = refl; alike = λ v all. refl }
row_is o values h d b each m zero (Whole v row) few are agree = absurd are
row_is o values h d b each m (suc n) End few are agree = absurd are
row_is o values h d b each m (suc n) (Whole v row) few (within, are) agree =
    let one : IsNodeOf values h (child_of b m) (Whole v End) =
    each m (Whole v End) (omega (arith, few)) (within, tt)
    (λ k held. first_agrees values d b m n (Whole v row) agree k held) in
    let later : AreNodesOf values h b (suc m) n row =
    row_is o values h d b each (suc m) n row (omega (arith, few)) are
    (λ j k lj held. (let e : suc m + j ≡ m + suc j = omega arith in
    agree (suc j) k (omega (arith, lj)) (subst (λ (i : ℕ). HoldsVoxel (child_of b i) k) e held))) in
    record {
      text = ap (λ (t : List ℕ). t ++ text_of row) (sym (append-nil (whole_text v)) ∙ one.text)
          ∙ ap (λ (t : List ℕ). node_text h values (child_of b m) ++ t) later.text;
      alike = λ w all. whole_alike v w (common_value values (child_of b m))
          (are_all w row) one.kind (all m (omega arith))
          (later.alike w (λ i li. all i (omega (arith, li))));
    }
row_is o values zero d b each m zero (Parted i row) few are agree = absurd are
row_is o values (suc h) d b each m zero (Parted i row) few are agree = absurd are
row_is o values zero d b each m (suc n) (Parted i row) few are agree = absurd are
row_is o values (suc h) d b each m (suc n) (Parted i row) few (inner, varied, are) agree =
    let one : IsNodeOf values (suc h) (child_of b m) (Parted i End) =
    each m (Parted i End) (omega (arith, few)) (inner, varied, tt)
    (λ k held. first_agrees values d b m n (Parted i row) agree k held) in
    let later : AreNodesOf values (suc h) b (suc m) n row =
    row_is o values (suc h) d b each (suc m) n row (omega (arith, few)) are
    (λ j k lj held. (let e : suc m + j ≡ m + suc j = omega arith in
    agree (suc j) k (omega (arith, lj)) (subst (λ (i : ℕ). HoldsVoxel (child_of b i) k) e held))) in
    record {
      text = ap (λ (t : List ℕ). 2 ∷ (t ++ text_of row)) (sym (append-nil (text_of i)))
          ∙ ap (λ (t : List ℕ). t ++ text_of row) one.text
          ∙ ap (λ (t : List ℕ). node_text (suc h) values (child_of b m) ++ t) later.text;
      alike = λ w all. absurd (false≢true (ap is_some (one.kind ∙ all m (omega arith))));
    }

alike_row : (row : Nodes) (v : Value) → are_all v row ≡ true → are_alike row ≡ false → ⊥
unfolding are_all are_alike
alike_row End v all varied = false≢true (sym varied)
alike_row (Whole w row) v all varied =
    let (same, rest) = and_parts (is_same_value v w) (are_all v row) all in
    false≢true (sym varied ∙ ap (λ (x : Value). are_all x row) (sym (is_same_value_exact v w same))
    ∙ rest)
alike_row (Parted i row) v all varied = false≢true all

none_common : (values : Values) (h : ℕ) (b : Cube) (row : Nodes) (o : Option Value)
    → common_value values b ≡ o → IsBlock b → b.depth < 16
    → AreNodesOf values h b 0 8 row → are_alike row ≡ false → None ≡ common_value values b
none_common values h b row None is ok low rows varied = sym is
none_common values h b row (Some v) is ok low rows varied =
    absurd (alike_row row v
    (rows.alike v (λ i li. common_down values b v i ok low (omega (arith, li)) is)) varied)

pub row_agrees : (values : Values) (d : ℕ) (b : Cube) (row : Nodes) → b.depth ≡ d → d < 16
    → ((k : Voxel) → HoldsVoxel b k → value_in (suc d) row (child_index_of d k) k ≡ values k)
    → Agree values (suc d) b 0 8 row
row_agrees values d b row deep low agree j k lj held =
    let e : 0 + j ≡ j = omega arith in
    let there : HoldsVoxel (child_of b j) k = subst (λ (i : ℕ). HoldsVoxel (child_of b i) k) e held
    in
    let (inside, index) = (child_holds b j k (omega (arith, deep, low)) lj).0 there in
    let same : child_index_of d k ≡ j = subst (λ (n : ℕ). child_index_of n k ≡ j) deep index in
    subst (λ (i : ℕ). value_in (suc d) row i k ≡ values k) same (agree k inside)

parted_is : (values : Values) (h : ℕ) (b : Cube) (row : Nodes) → IsBlock b → b.depth < 16
    → AreNodesOf values h b 0 8 row → are_alike row ≡ false
    → IsNodeOf values (suc h) b (Parted row End)
unfolding text_of node_text numbers
parted_is values h b row ok low rows varied =
    let none = none_common values h b row (common_value values b) refl ok low rows varied in
    record {
      text = ap (λ (t : List ℕ). 2 ∷ t) (append-nil (text_of row) ∙ rows.text)
          ∙ ap (λ (o : Option Value). text_with o
          (flat_map (λ i. node_text h values (child_of b i)) child_numbers)) none;
      kind = none;
    }

whole_is : (values : Values) (h : ℕ) (b : Cube) (v : Value) → IsBlock b
    → ((k : Voxel) → HoldsVoxel b k → values k ≡ v)
    → IsNodeOf values h b (Whole v End)
unfolding text_of
whole_is values h b v ok agree =
    let common : common_value values b ≡ Some v = common_of_all values b v ok agree in
    record {
      text = append-nil (whole_text v) ∙ sym (node_of_one h values b v ok (sym common));
      kind = sym common;
    }

-- a node whose values these are is the block's
pub node_is : (o : Odds) (values : Values) (h d : ℕ) (b : Cube) (nodes : Nodes) → b.depth ≡ d
    → d + h ≡ 16 → IsBlock b → AreNodes o h 1 nodes
    → ((k : Voxel) → HoldsVoxel b k → value_in d nodes 0 k ≡ values k) → IsNodeOf values h b nodes
unfolding value_in
node_is o values h d b End deep all ok are agree = absurd are
node_is o values h d b (Whole v End) deep all ok are agree =
    whole_is values h b v ok (λ k held. sym (agree k held))
node_is o values h d b (Whole v (Whole w more)) deep all ok (within, are) agree = absurd are
node_is o values zero d b (Whole v (Parted i more)) deep all ok (within, are) agree = absurd are
node_is o values (suc h) d b (Whole v (Parted i more)) deep all ok (within, are) agree = absurd are
node_is o values zero d b (Parted i more) deep all ok are agree = absurd are
node_is o values (suc h) d b (Parted i (Whole w more)) deep all ok (inner, varied, are) agree =
    absurd are
node_is o values (suc h) d b (Parted i (Parted j more)) deep all ok (inner, varied, are) agree =
    absurd are
node_is o values (suc h) d b (Parted i End) deep all ok (inner, varied, are) agree =
    parted_is values h b i ok (omega (arith, deep, all))
    (row_is o values h (suc d) b
    (λ j one lj one_are one_agree. node_is o values h (suc d) (child_of b j) one
    (let down = depth_child_of b j in omega (arith, down, deep)) (omega (arith, all))
    (child_in_map b j ok (omega (arith, deep, all))) one_are one_agree)
    0 8 i (omega arith) inner (row_agrees values d b i deep (omega (arith, all)) agree)) varied

-- what is read as the node of the map is the text of the values that it gives
pub map_is : (o : Odds) (at : ℕ) (bytes : List ℕ) (f : Found) (values : Values)
    → All (λ b. b < 256) bytes → read_node o 16 at bytes ≡ Ok f
    → ((k : Voxel) → IsInMap k → value_in 0 f.nodes 0 k ≡ values k)
    → bytes ≡ map_text values ++ f.rest
map_is o at bytes f values small is agree =
    let found = node_found o 16 at bytes f small is in
    let node = node_is o values 16 0 root_block f.nodes refl refl root_in_map found.nodes
    (λ k held. agree k (held_in_map root_block k root_in_map held)) in
    found.text ∙ ap (λ (t : List ℕ). t ++ f.rest) node.text
