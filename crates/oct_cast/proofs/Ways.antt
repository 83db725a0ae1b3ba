-- How a way is shortened and gone on with, from one voxel to the next.
use Rattle.std.proofs.Common.{◌≡◌, ◌≢◌, ℕ, ◌+◌, ◌-◌, ◌*◌, ◌/◌, ◌%◌, ◌^◌, ◌<◌, ◌≤◌, List}
use Rattle.std.proofs.Common.{length, set, get_or, Some, None, sym, ap, subst, ◌∙◌, arith}
use Rattle.std.proofs.Common.{inl, inr, ◌⊎◌, Bool, Option, refl}
use Rattle.std.specs.Prelude.{IfNone}
use Rattle.std.specs.Option.{unwrap_or}
use Rattle.std.proofs.Math.Nat.{div-div-eq-div-mul}
use Rattle.std.proofs.lemmas.Nat.{pow-add}
use Rattle.std.proofs.lemmas.Bool.{cases_eq}
use Rattle.std.proofs.lemmas.List.{get_or-set_same, get_or-set_other}
use Rattle.oct_key.specs.Voxel.{Voxel, IsInMap}
use Rattle.oct_key.specs.Block.{block_of, child_index_of}
use Rattle.oct_key.specs.Morton.{morton_of, code_prefix}
use Rattle.oct_key.proofs.Blocks.{depth_block_of}
use Rattle.oct_key.proofs.Nested.{same_above}
use Rattle.oct_key.proofs.Interleavings.{morton_below, morton_injective, digit_of_morton}
use Rattle.oct_key.proofs.Interleavings.{same_prefix}
use Rattle.oct_odds.specs.Update.{Value, class_of}
use Rattle.oct_arena.specs.declared.node.GroupId.{GroupId}
use Rattle.oct_arena.specs.declared.node.Node.{Node}
use Rattle.oct_arena.specs.Entries.{Groups, IsLive, node_at}
use Rattle.oct_arena.specs.Nodes.{link_of, value_of}
use Rattle.oct_tree.specs.Classes.{classes_in}
use Rattle.oct_tree.specs.Tree.{Tree, IsLinked, reach, value_at}
use Rattle.oct_tree.proofs.Paths.{reach_zero, reach_suc, reach_home, reach_live, step_linked}
use Rattle.oct_tree.proofs.Paths.{value_at_last}
use Rattle.oct_tree.proofs.Over.{same_reach}
use Rattle.oct_ray.specs.Given.{HasGiven}
use Rattle.oct_cast.specs.declared.outcome.Cast.{Cast}
use Rattle.oct_cast.specs.Cast.{cast_through}
use Rattle.oct_cast.specs.declared.way.Way.{Way}
use Rattle.oct_cast.specs.Way.{IsCodeOf, AreLinked, IsFloor, IsLast, LeadsTo, HasPassed, stop_at}
use Rattle.oct_cast.proofs.Floors.{stops_alike, passed, last_asked}
use Rattle.oct_cast.proofs.Steps.{none_stops, answer_first}

-- a code is below 2^48, and of one voxel
pub code_below : (code : ℕ) (k : Voxel) → IsCodeOf code k → code < 2 ^ 48
code_below code k c = subst (λ n. n < 2 ^ 48) (sym c.1) (morton_below k)

one_voxel : (code : ℕ) (k l : Voxel) → IsCodeOf code k → IsCodeOf code l → k ≡ l
one_voxel code k l c d = morton_injective k l c.0 d.0 (sym c.1 ∙ d.1)

-- the node under a linked group
pub node_under : (t : Tree) (k : Voxel) (code depth : ℕ) (id : GroupId) (i : ℕ) → IsCodeOf code k
    → depth ≤ 15
    → link_of (reach t depth k) ≡ Some id.number → i ≡ code / 2 ^ (3 * (15 - depth)) % 8
    → node_at t.groups id.number i ≡ reach t (depth + 1) k
node_under t k code depth id i c low link is =
    let index : i ≡ child_index_of depth k = is ∙ ap (λ n. n / 2 ^ (3 * (15 - depth)) % 8) c.1
    ∙ digit_of_morton depth k low in
    ap (node_at t.groups id.number) index
    ∙ sym (step_linked t.groups (reach t depth k) id.number (child_index_of depth k) link)
    ∙ sym (reach_suc t depth k)

-- what a node on the way links lies above the voxels
pub linked_low : (t : Tree) (k : Voxel) (d x : ℕ) → IsLinked t → IsInMap k → d ≤ 16
    → link_of (reach t d k) ≡ Some x → d ≤ 15
linked_low t k d x l v m link =
    let deep = depth_block_of d k in
    let low = (l.homes x (block_of d k) (reach_home t k l v d x link m)).1 in
    omega (arith, deep, low)

-- The way so far: the groups down to a depth, and the node under the last of them.
pub record IsUnder (t : Tree) (groups : List GroupId) (code depth : ℕ) (n : Node) : Type 0 where
  pub voxel : Voxel
  pub coded : IsCodeOf code voxel
  pub low : depth ≤ 15
  pub linked : AreLinked t groups (depth + 1) voxel
  pub node : n ≡ reach t (depth + 1) voxel

pub start_live : (t : Tree) (k : Voxel) (gs : Groups) (groups : List GroupId) (code depth : ℕ)
    (g : GroupId) → IsLinked t → gs ≡ t.groups → IsCodeOf code k → depth ≤ 15
    → AreLinked t groups (depth + 1) k → IsLive gs (get_or groups depth g).number
start_live t k gs groups code depth g l same c low linked =
    subst (λ h. IsLive h (get_or groups depth g).number) (sym same)
    (reach_live t k l c.0 depth (get_or groups depth g).number (linked depth g (omega arith))
    (omega arith))

pub under_start : (t : Tree) (k : Voxel) (gs : Groups) (groups : List GroupId) (code depth : ℕ)
    (g : GroupId) (i : ℕ) (n : Node) → gs ≡ t.groups → IsCodeOf code k → depth ≤ 15
    → AreLinked t groups (depth + 1) k → i ≡ code / 2 ^ (3 * (15 - depth)) % 8
    → n ≡ node_at gs (get_or groups depth g).number i
    → IsUnder t groups code depth n
under_start t k gs groups code depth g i n same c low linked index node = record {
  voxel = k;
  coded = c;
  low = low;
  linked = linked;
  node = node ∙ ap (λ (h : Groups). node_at h (get_or groups depth g).number i) same
      ∙ node_under t k code depth (get_or groups depth g) i c low (linked depth g (omega arith))
      index;
}

-- an Inner node leads one depth on
pub under_linked : (t : Tree) (groups : List GroupId) (code depth : ℕ) (n : Node) (x : ℕ)
    → IsLinked t → IsUnder t groups code depth n
    → link_of n ≡ Some x → depth + 1 ≤ 15
under_linked t groups code depth n x l u link =
    let low = u.low in
    linked_low t u.voxel (depth + 1) x l u.coded.0 (omega arith) (ap link_of (sym u.node) ∙ link)

pub under_live : (t : Tree) (gs : Groups) (groups : List GroupId) (code depth : ℕ) (n : Node)
    (x : ℕ) → IsLinked t → gs ≡ t.groups → IsUnder t groups code depth n
    → link_of n ≡ Some x → IsLive gs x
under_live t gs groups code depth n x l same u link =
    let low = u.low in
    subst (λ h. IsLive h x) (sym same)
    (reach_live t u.voxel l u.coded.0 (depth + 1) x (ap link_of (sym u.node) ∙ link) (omega arith))

pub under_step : (t : Tree) (gs : Groups) (groups : List GroupId) (code depth : ℕ) (n : Node)
    (id : GroupId) (i : ℕ) (m : Node) → IsLinked t → gs ≡ t.groups
    → IsUnder t groups code depth n → link_of n ≡ Some id.number → length groups ≡ 16
    → i ≡ code / 2 ^ (3 * (15 - (depth + 1))) % 8 → m ≡ node_at gs id.number i
    → IsUnder t (set groups (depth + 1) id) code (depth + 1) m
under_step t gs groups code depth n id i m l same u link sixteen index node = record {
  voxel = u.voxel;
  coded = u.coded;
  low = deeper;
  linked = λ d g below. by_place d g below (cases_eq d (depth + 1));
  node = node ∙ ap (λ (h : Groups). node_at h id.number i) same
      ∙ node_under t u.voxel code (depth + 1) id i u.coded deeper here index;
}
  where
    deeper : depth + 1 ≤ 15
    deeper = under_linked t groups code depth n id.number l u link

    here : link_of (reach t (depth + 1) u.voxel) ≡ Some id.number
    here = ap link_of (sym u.node) ∙ link

    by_place : (d : ℕ) (g : GroupId) → d < depth + 1 + 1 → (d ≡ depth + 1) ⊎ (d ≢ depth + 1)
        → link_of (reach t d u.voxel) ≡ Some (get_or (set groups (depth + 1) id) d g).number
    by_place d g below (inl here_is) =
        ap (λ e. link_of (reach t e u.voxel)) here_is ∙ here
        ∙ ap (λ (h : GroupId). Some h.number)
        (sym (ap (λ e. get_or (set groups (depth + 1) id) e g) here_is
        ∙ get_or-set_same groups (depth + 1) id g
        (let low = deeper in omega (arith, low, sixteen))))
    by_place d g below (inr other) =
        u.linked d g (omega arith) ∙ ap (λ (h : GroupId). Some h.number)
        (sym (get_or-set_other groups (depth + 1) d id g other))

-- so it is the node over each voxel of the code at the way's end
pub under_node : (t : Tree) (groups : List GroupId) (code depth end : ℕ) (n : Node)
    → IsUnder t groups code depth n → end ≡ depth + 1 → (k : Voxel) → IsCodeOf code k
    → n ≡ reach t end k
under_node t groups code depth end n u end_is k c =
    u.node ∙ ap (reach t (depth + 1)) (one_voxel code u.voxel k u.coded c)
    ∙ ap (λ d. reach t d k) (sym end_is)

-- where the node is the last, the way is whole
pub under_leads : (t : Tree) (way : Way) (groups : List GroupId) (code depth : ℕ) (n : Node)
    → IsUnder t groups code depth n → IsLast way.floor n → way.groups ≡ groups
    → way.depth ≡ depth + 1 → way.height ≡ 3 * (15 - depth)
    → way.block ≡ code / 2 ^ (3 * (15 - depth)) → (k : Voxel) → IsCodeOf code k → LeadsTo t way k
under_leads t way groups code depth n u last groups_are depth_is height_is block_is k c =
    let same = one_voxel code u.voxel k u.coded c in
    let low = u.low in
    let level : 3 * (16 - way.depth) ≡ 3 * (15 - depth) = omega (arith, depth_is) in
    record {
      on_map = c.0;
      deep = omega (arith, depth_is, low);
      height = height_is ∙ sym level;
      block = block_is ∙ ap (λ e. code / 2 ^ e) (sym level) ∙ ap (code_prefix way.depth) c.1;
      linked = λ d g below. ap (λ q. link_of (reach t d q)) (sym same)
          ∙ u.linked d g (omega (arith, depth_is, below))
          ∙ ap (λ (gs : List GroupId). Some (get_or gs d g).number) (sym groups_are);
      ends = subst (IsLast way.floor)
          (under_node t groups code depth way.depth n u depth_is k c) last;
    }

-- the block of depth 0 holds all voxels
pub root_shared : (d a b : ℕ) → d ≡ 0 → a < 2 ^ 48 → b < 2 ^ 48 → code_prefix d a ≡ code_prefix d b
root_shared d a b e la lb = (let here : code_prefix 0 a ≡ code_prefix 0 b = omega arith in
    ap (λ n. code_prefix n a) e ∙ here ∙ ap (λ n. code_prefix n b) (sym e))

-- so where the two blocks differ, there is one above
pub still_deep : (d here block code before : ℕ) → here ≢ block → here ≡ code_prefix d code
    → block ≡ code_prefix d before → code < 2 ^ 48 → before < 2 ^ 48 → 1 ≤ d
still_deep d here block code before differ here_is block_is lc lb = elim (cases_eq d 0) [
  | inl none ↦ absurd (differ (here_is ∙ root_shared d code before none lc lb ∙ sym block_is))
  | inr some ↦ omega arith
]

-- a block's parent has three bits less
pub prefix_up : (d c : ℕ) → 1 ≤ d → d ≤ 16 → code_prefix d c / 8 ≡ code_prefix (d - 1) c
prefix_up d c low high =
    let level : 3 * (16 - (d - 1)) ≡ 3 * (16 - d) + 3 = omega arith in
    div-div-eq-div-mul c (2 ^ (3 * (16 - d))) 8
    ∙ ap (λ n. c / n) (sym (pow-add 2 (3 * (16 - d)) 3)) ∙ ap (λ e. c / 2 ^ e) (sym level)

-- down to a block that holds both voxels the way to one is the way to the other
pub shared_linked : (t : Tree) (way : Way) (k l : Voxel) (code depth : ℕ) → LeadsTo t way k
    → IsCodeOf code l → depth < way.depth → code_prefix depth code ≡ code_prefix depth (morton_of k)
    → AreLinked t way.groups (depth + 1) l
shared_linked t way k l code depth w c above shared d g below =
    let deep = w.deep in
    let block : block_of depth l ≡ block_of depth k =
    (same_prefix depth l k (omega arith) c.0 w.on_map).0
    (ap (code_prefix depth) (sym c.1) ∙ shared) in
    let rest : d + (depth - d) ≡ depth = omega arith in
    let here : block_of d l ≡ block_of d k =
    same_above d (depth - d) l k (omega arith)
    (ap (λ e. block_of e l) rest ∙ block ∙ ap (λ e. block_of e k) (sym rest)) in
    ap link_of (same_reach t d l k (omega arith) here) ∙ w.linked d g (omega arith)

-- in the block of the node at the end one node is over all voxels
over_node : (t : Tree) (way : Way) (k l : Voxel) (code : ℕ) → LeadsTo t way k
    → IsCodeOf code l → code / 2 ^ way.height ≡ way.block
    → reach t way.depth l ≡ reach t way.depth k
over_node t way k l code w c shared =
    same_reach t way.depth l k w.deep ((same_prefix way.depth l k w.deep c.0 w.on_map).0
    (ap (code_prefix way.depth) (sym c.1) ∙ ap (λ e. code / 2 ^ e) (sym w.height) ∙ shared
    ∙ w.block))

-- so where one of them was passed, none stops the cast
pub over_passed : (t : Tree) (ignore : Bool) (way : Way) (l : Voxel) (code : ℕ)
    → HasPassed t ignore way → IsCodeOf code l → code / 2 ^ way.height ≡ way.block
    → stop_at ignore (classes_in t l) l ≡ None
over_passed t ignore way l code p c shared =
    let k = p.voxel in
    passed ignore (classes_in t l) l
    (stops_alike t ignore way.floor way.depth k l (reach t way.depth k) p.floor p.leads.deep
    (over_node t way k l code p.leads c shared) refl p.leads.ends ∙ p.passed)

-- what a cast asks at the end of a way it asks at the voxel
pub asked_at_end : (t : Tree) (ignore : Bool) (way : Way) (k : Voxel) (n : Node) (value : Value)
    (found : Option Cast) → IsFloor t ignore way.floor → LeadsTo t way k
    → n ≡ reach t way.depth k → value ≡ value_of n
    → found ≡ stop_at ignore (class_of t.odds value) k
    → found ≡ stop_at ignore (classes_in t k) k
asked_at_end t ignore way k n value found f w node is told =
    told ∙ ap (λ v. stop_at ignore (class_of t.odds v) k) is
    ∙ last_asked t ignore way.floor way.depth k n f w.deep node
    (subst (IsLast way.floor) (sym node) w.ends)

-- where that doesn't stop it, the voxel is passed
pub passed_at_end : (t : Tree) (ignore : Bool) (way : Way) (k : Voxel) (found : Option Cast)
    → IsFloor t ignore way.floor → LeadsTo t way k → found ≡ stop_at ignore (classes_in t k) k
    → IfNone found (HasPassed t ignore way)
passed_at_end t ignore way k None f w told = record {
  floor = f;
  voxel = k;
  leads = w;
  passed = none_stops ignore (classes_in t k) k (sym told);
}
passed_at_end t ignore way k (Some x) f w told = tt

-- What a cast finds at the first voxel of a walk, to which a way was made.
pub record IsAsked (t : Tree) (ignore : Bool) (way : Way) (walk rest : List Voxel)
    (found : Option Cast) : Type 0 where
  pub stops : (x : Cast) → found ≡ Some x → x ≡ cast_through ignore (classes_in t) walk
  pub passes : found ≡ None → HasPassed t ignore way
  pub left : found ≡ None
      → cast_through ignore (classes_in t) rest ≡ cast_through ignore (classes_in t) walk

pub asked_first : (t : Tree) (ignore : Bool) (code : ℕ) (walk rest : List Voxel) (way : Way)
    (n : Node) (value : Value) (found : Option Cast) → HasGiven walk rest code
    → IsFloor t ignore way.floor → ((k : Voxel) → IsCodeOf code k → LeadsTo t way k)
    → ((k : Voxel) → IsCodeOf code k → n ≡ reach t way.depth k) → value ≡ value_of n
    → ((k : Voxel) → IsCodeOf code k → found ≡ stop_at ignore (class_of t.odds value) k)
    → IsAsked t ignore way walk rest found
asked_first t ignore code walk rest way n value found given f leads node is told =
    let k = given.voxel in
    let coded : IsCodeOf code k = (given.on_map, given.coded) in
    let asked = asked_at_end t ignore way k n value found f (leads k coded) (node k coded) is
    (told k coded) in
    let all = answer_first ignore (classes_in t) k rest walk found given.first asked in
    record {
      stops = λ x e. ap (λ (o : Option Cast). unwrap_or o
          (cast_through ignore (classes_in t) rest)) (sym e) ∙ all;
      passes = λ e. subst (λ (o : Option Cast). IfNone o (HasPassed t ignore way)) e
          (passed_at_end t ignore way k found f (leads k coded) asked);
      left = λ e. ap (λ (o : Option Cast). unwrap_or o
          (cast_through ignore (classes_in t) rest)) (sym e) ∙ all;
    }

-- where the root isn't Inner, all voxels have its value
pub root_value : (t : Tree) (n : Node) (k : Voxel) → t.root ≡ n → link_of n ≡ None
    → value_at t k ≡ value_of n
root_value t n k is none =
    value_at_last t k 0 (omega arith) (ap link_of (reach_zero t k ∙ is) ∙ none)
    ∙ ap value_of (reach_zero t k ∙ is)

-- the root links the group at depth 0
pub root_linked : (t : Tree) (k : Voxel) (groups : List GroupId) (id : GroupId)
    → link_of t.root ≡ Some id.number
    → ((g : GroupId) → get_or groups 0 g ≡ id) → AreLinked t groups (0 + 1) k
root_linked t k groups id link first d g below =
    let zero : d ≡ 0 = omega arith in
    ap (λ e. link_of (reach t e k)) zero ∙ ap link_of (reach_zero t k) ∙ link
    ∙ ap (λ (h : GroupId). Some h.number) (sym (ap (λ e. get_or groups e g) zero ∙ first g))
