-- The nodes of the blocks of given values.
use Rattle.std.proofs.Common.{◌≡◌, ℕ, zero, suc, ◌+◌, ◌<◌, ◌≤◌, Option, Some, None, refl, sym}
use Rattle.std.proofs.Common.{subst, ◌∙◌, ap, arith}
use Rattle.std.specs.Prelude.{Bool, true, false, ◌&&◌, is_some}
use Rattle.std.proofs.lemmas.Bool.{false≢true, and_parts}
use Rattle.oct_key.specs.Voxel.{Voxel, IsInMap}
use Rattle.oct_key.specs.Values.{Values}
use Rattle.oct_key.specs.Block.{Cube, IsBlock, HoldsVoxel, child_of, child_index_of, lowest_voxel}
use Rattle.oct_key.specs.Block.{root_block}
use Rattle.oct_key.proofs.Blocks.{child_in_map, child_index_below, depth_child_of, lowest_held}
use Rattle.oct_key.proofs.Blocks.{lowest_in_map, root_in_map, root_holds}
use Rattle.oct_key.proofs.Held.{held_by_child}
use Rattle.oct_odds.specs.Odds.{Odds}
use Rattle.oct_odds.specs.Update.{Value, IsWithin}
use Rattle.oct_values.specs.Counts.{is_same_value}
use Rattle.oct_values.proofs.Alike.{answer_of_voxel}
use Rattle.oct_values.proofs.Uniform.{is_same_value_refl, is_same_value_exact, same_value_equality}
use Rattle.oct_snap.specs.Nodes.{Nodes, End, Whole, Parted, joined, text_of, are_all, are_alike}
use Rattle.oct_snap.specs.Nodes.{AreNodes, value_in}
use Rattle.oct_snap.specs.Texts.{common_value, map_text}
use Rattle.oct_snap.proofs.Rows.{all_joined, one_joined}
use Rattle.oct_snap.proofs.Commons.{common_of_each, common_up}
use Rattle.oct_snap.proofs.FoundNodes.{value_behind, value_first}
use Rattle.oct_snap.proofs.Meanings.{kind_of, node_is}

-- nodes in a row, from number m on
row_from : (ℕ → Nodes) → ℕ → ℕ → Nodes
row_from f m zero = End
row_from f m (suc n) = joined (f m) (row_from f (suc m) n)

node_by : Option Value → Nodes → Nodes
node_by (Some v) inner = Whole v End
node_by None inner = Parted inner End

-- the node of a block of these values
nodes_of : ℕ → Values → Cube → Nodes
nodes_of zero values b = Whole (values (lowest_voxel b)) End
nodes_of (suc h) values b =
    node_by (common_value values b) (row_from (λ i. nodes_of h values (child_of b i)) 0 8)

row_are : (o : Odds) (h : ℕ) (f : ℕ → Nodes) → ((i : ℕ) → i < 8 → AreNodes o h 1 (f i)) → (m n : ℕ)
    → m + n ≤ 8
    → AreNodes o h n (row_from f m n)
unfolding row_from
row_are o h f each m zero few = tt
row_are o h f each m (suc n) few = one_joined o h n (f m) (row_from f (suc m) n)
    (each m (omega (arith, few)))
    (row_are o h f each (suc m) n (omega (arith, few)))

row_value : (o : Odds) (h d : ℕ) (f : ℕ → Nodes) (k : Voxel)
    → ((i : ℕ) → i < 8 → AreNodes o h 1 (f i)) → (m n j : ℕ) → m + n ≤ 8 → j < n
    → value_in d (row_from f m n) j k ≡ value_in d (f (m + j)) 0 k
unfolding row_from
row_value o h d f k each m zero j few lj = absurd (omega (arith, lj))
row_value o h d f k each m (suc n) zero few lj =
    value_first o h d (f m) (row_from f (suc m) n) k (each m (omega (arith, few)))
    ∙ (let e : m ≡ m + 0 = omega arith in ap (λ (i : ℕ). value_in d (f i) 0 k) e)
row_value o h d f k each m (suc n) (suc j) few lj =
    value_behind o h d 1 j (suc j) (f m) (row_from f (suc m) n) k (omega arith)
    (each m (omega (arith, few)))
    ∙ row_value o h d f k each (suc m) n j (omega (arith, few)) (omega (arith, lj))
    ∙ (let e : suc m + j ≡ m + suc j = omega arith in ap (λ (i : ℕ). value_in d (f i) 0 k) e)

one_all : (o : Odds) (h : ℕ) (v : Value) (a : Nodes) → AreNodes o h 1 a → are_all v a ≡ true
    → kind_of a ≡ Some v
unfolding are_all
one_all o h v End is all = absurd is
one_all o h v (Whole w End) (within, is) all =
    ap Some (sym (is_same_value_exact v w (and_parts (is_same_value v w) true all).0))
one_all o h v (Whole w (Whole x a)) (within, is) all = absurd is
one_all o zero v (Whole w (Parted i a)) (within, is) all = absurd is
one_all o (suc h) v (Whole w (Parted i a)) (within, is) all = absurd is
one_all o zero v (Parted i a) is all = absurd is
one_all o (suc h) v (Parted i a) is all = absurd (false≢true all)

row_all : (o : Odds) (h : ℕ) (f : ℕ → Nodes) (v : Value) → ((i : ℕ) → i < 8 → AreNodes o h 1 (f i))
    → (m n j : ℕ) → m + n ≤ 8 → j < n
    → are_all v (row_from f m n) ≡ true → kind_of (f (m + j)) ≡ Some v
unfolding row_from
row_all o h f v each m zero j few lj all = absurd (omega (arith, lj))
row_all o h f v each m (suc n) zero few lj all =
    (let both = and_parts (are_all v (f m)) (are_all v (row_from f (suc m) n))
    (sym (all_joined v (f m) (row_from f (suc m) n)) ∙ all) in
    let e : m + 0 ≡ m = omega arith in
    ap (λ (i : ℕ). kind_of (f i)) e ∙ one_all o h v (f m) (each m (omega (arith, few))) both.0)
row_all o h f v each m (suc n) (suc j) few lj all =
    (let both = and_parts (are_all v (f m)) (are_all v (row_from f (suc m) n))
    (sym (all_joined v (f m) (row_from f (suc m) n)) ∙ all) in
    let e : m + suc j ≡ suc m + j = omega arith in
    ap (λ (i : ℕ). kind_of (f i)) e ∙ row_all o h f v each (suc m) n j (omega (arith, few))
    (omega (arith, lj)) both.1)

-- a row that is of one value, whatever that is
alike_value : (o : Odds) (h : ℕ) (a rest : Nodes) → AreNodes o h 1 a → are_alike (joined a rest)
    ≡ true
    → (v : Value) × (are_all v (joined a rest) ≡ true)
unfolding joined are_alike are_all
alike_value o h End rest is alike = absurd is
alike_value o h (Whole v a) rest is alike =
    (v, ap (λ (x : Bool). x && are_all v (joined a rest)) (is_same_value_refl v) ∙ alike)
alike_value o zero (Parted i a) rest is alike = absurd is
alike_value o (suc h) (Parted i a) rest is alike = absurd (false≢true alike)

-- the node of a block of these values is one, and gives them
record IsNodeFor (o : Odds) (values : Values) (h : ℕ) (b : Cube) : Type 0 where
  are : AreNodes o h 1 (nodes_of h values b)
  value : (k : Voxel) → HoldsVoxel b k → value_in b.depth (nodes_of h values b) 0 k ≡ values k

abbrev EachWithin : Odds → Values → Type 0
EachWithin o values = (k : Voxel) → IsInMap k → IsWithin o (values k)

whole_for : (o : Odds) (values : Values) (h : ℕ) (b : Cube) (v : Value) → IsBlock b
    → EachWithin o values → common_value values b ≡ Some v
    → nodes_of h values b ≡ Whole v End → IsNodeFor o values h b
unfolding value_in
whole_for o values h b v ok within one is = record {
  are = subst (λ n. AreNodes o h 1 n) (sym is) (
    subst (IsWithin o) (common_of_each values b v (lowest_voxel b) ok one (lowest_held b))
        (within (lowest_voxel b) (lowest_in_map b ok)),
    tt,
  );
  value = λ k held. ap (λ n. value_in b.depth n 0 k) is
      ∙ sym (common_of_each values b v k ok one held);
}

parted_for : (o : Odds) (values : Values) (h : ℕ) (b : Cube) → IsBlock b → b.depth + suc h ≡ 16
    → common_value values b ≡ None
    → ((i : ℕ) → i < 8 → IsNodeFor o values h (child_of b i)) → nodes_of (suc h) values b
    ≡ Parted (row_from (λ i. nodes_of h values (child_of b i)) 0 8) End
    → IsNodeFor o values (suc h) b
unfolding value_in row_from
parted_for o values h b ok deep several each is = record {
  are = subst (λ n. AreNodes o (suc h) 1 n) (sym is)
      (row_are o h f ones 0 8 (omega arith), varied (are_alike row) refl, tt);
  value = λ k held. (let i = child_index_of b.depth k in
      let li = child_index_below b.depth k in
      let down : (child_of b i).depth ≡ suc b.depth =
      (let e = depth_child_of b i in omega (arith, e)) in
      let zero_more : 0 + i ≡ i = omega arith in
      ap (λ n. value_in b.depth n 0 k) is
      ∙ row_value o h (suc b.depth) f k ones 0 8 i (omega arith) li
      ∙ ap (λ (j : ℕ). value_in (suc b.depth) (f j) 0 k) zero_more
      ∙ ap (λ (d : ℕ). value_in d (f i) 0 k) (sym down)
      ∙ (each i li).value k (held_by_child b k (omega (arith, deep)) held));
}
  where
    f : ℕ → Nodes
    f i = nodes_of h values (child_of b i)

    row : Nodes
    row = row_from f 0 8

    ones : (i : ℕ) → i < 8 → AreNodes o h 1 (f i)
    ones i li = (each i li).are

    kinds : (i : ℕ) → i < 8 → kind_of (f i) ≡ common_value values (child_of b i)
    kinds i li =
        (let down = depth_child_of b i in
        (node_is o values h (child_of b i).depth (child_of b i)
        (f i) refl (omega (arith, down, deep)) (child_in_map b i ok (omega (arith, deep)))
        (ones i li) (each i li).value).kind)

    varied : (alike : Bool) → are_alike row ≡ alike → are_alike row ≡ false
    varied false e = e
    varied true e =
        (let (v, all) = alike_value o h (f 0) (row_from f 1 7) (ones 0 (omega arith)) e in
        absurd (false≢true (ap is_some (sym several ∙ common_up values b v ok (omega (arith, deep))
        (λ i li. (let e : i ≡ 0 + i = omega arith in
        sym (kinds i li) ∙ ap (λ (j : ℕ). kind_of (f j)) e
        ∙ row_all o h f v ones 0 8 i (omega arith) li all))))))

node_for : (o : Odds) (values : Values) (h : ℕ) (b : Cube) → EachWithin o values → IsBlock b
    → b.depth + h ≡ 16 → IsNodeFor o values h b
unfolding nodes_of node_by
node_for o values zero b within ok deep =
    whole_for o values 0 b (values (lowest_voxel b)) ok within
    (answer_of_voxel is_same_value values b same_value_equality (omega (arith, deep)) ok) refl
node_for o values (suc h) b within ok deep =
    by (common_value values b) refl
    (λ i li. node_for o values h (child_of b i) within (child_in_map b i ok (omega (arith, deep)))
    (let down = depth_child_of b i in omega (arith, down, deep)))
  where
    by : (c : Option Value) → common_value values b ≡ c
        → ((i : ℕ) → i < 8 → IsNodeFor o values h (child_of b i)) → IsNodeFor o values (suc h) b
    by (Some v) e each = whole_for o values (suc h) b v ok within e
        (ap (λ c. node_by c (row_from (λ i. nodes_of h values (child_of b i)) 0 8)) e)
    by None e each = parted_for o values h b ok deep e each
        (ap (λ c. node_by c (row_from (λ i. nodes_of h values (child_of b i)) 0 8)) e)

-- the nodes of the whole map
pub record AreMapNodes (o : Odds) (values : Values) (nodes : Nodes) : Type 0 where
  pub are : AreNodes o 16 1 nodes
  pub text : text_of nodes ≡ map_text values
  pub value : (k : Voxel) → IsInMap k → value_in 0 nodes 0 k ≡ values k

pub map_nodes : (o : Odds) (values : Values) → ((k : Voxel) → IsInMap k → IsWithin o (values k))
    → (nodes : Nodes) × AreMapNodes o values nodes
map_nodes o values within =
    let n = node_for o values 16 root_block within root_in_map refl in (
      nodes_of 16 values root_block,
      record {
        are = n.are;
        text = (node_is o values 16 0 root_block (nodes_of 16 values root_block) refl refl
            root_in_map n.are n.value).text;
        value = λ k ok. n.value k (root_holds k ok);
      },
    )
