-- Reading a node child by child.
use Rattle.std.proofs.Common.{◌≡◌, ℕ, zero, suc, ◌+◌, ◌-◌, ◌<◌, ◌≤◌, Some, None, List, [], ◌∷◌}
use Rattle.std.proofs.Common.{length, drop, refl, sym, subst, ◌∙◌, ap, arith, cond, inl, inr}
use Rattle.std.specs.Prelude.{ℤ, Bool, true, false, ◌&&◌, ◌⊎◌, slice_index, Result, Ok, Err}
use Rattle.std.proofs.lemmas.Bool.{false≢true}
use Rattle.oct_odds.specs.Odds.{Odds}
use Rattle.oct_odds.specs.Update.{Value}
use Rattle.oct_values.specs.Counts.{is_same_value}
use Rattle.oct_values.proofs.Uniform.{is_same_value_refl, is_same_value_exact}
use Rattle.oct_snap.specs.declared.fault.SnapFault.{SnapFault}
use Rattle.oct_snap.specs.declared.fault.SnapFault.TheVariants.{Truncated, BadSnapshot}
use Rattle.oct_snap.specs.declared.common.Common.{Common as Shared}
use Rattle.oct_snap.specs.declared.common.Common.TheVariants.{Value as OfValue, Several}
use Rattle.oct_snap.specs.declared.checking.NodeRead.{NodeRead}
use Rattle.oct_snap.specs.Nodes.{Nodes, End, Whole, Parted, joined, are_all, are_alike, group_total}
use Rattle.oct_snap.specs.Reading.{Found, found, number_at, is_within, value_node, parted_node}
use Rattle.oct_snap.specs.Reading.{next_node, after_node, read_row, read_node}
use Rattle.oct_snap.specs.Checked.{IsOneNode, IsRead, IsNodeRead}
use Rattle.oct_snap.proofs.Rows.{all_joined, total_joined}
use Rattle.oct_snap.proofs.Drops.{drop_at, drop_four}

-- ---- nodes without nodes of their own

pub few_bytes : (o : Odds) (at : ℕ) (xs : List ℕ) → length xs < 4 → value_node o at xs
    ≡ Err (Truncated (at + 1 + length xs))
few_bytes o at [] less = refl
few_bytes o at (a ∷ []) less = refl
few_bytes o at (a ∷ b ∷ []) less = refl
few_bytes o at (a ∷ b ∷ c ∷ []) less = refl
few_bytes o at (a ∷ b ∷ c ∷ d ∷ xs) less = absurd (omega arith)

pub drop_length : (xs : List ℕ) (n : ℕ) → n ≤ length xs → n + length (drop n xs) ≡ length xs
drop_length xs zero less = omega arith
drop_length [] (suc n) less = absurd (omega arith)
drop_length (x ∷ xs) (suc n) less = (let h = drop_length xs n (omega arith) in omega (arith, h))

-- the file ends in a value
pub value_ends : (o : Odds) (bytes : List ℕ) (at : ℕ) → at < length bytes → length bytes - at < 5
    → IsNodeRead bytes at (value_node o at (drop (at + 1) bytes)) (Err (Truncated (length bytes)))
value_ends o bytes at inside few =
    let long = drop_length bytes (at + 1) (omega arith) in
    let is : value_node o at (drop (at + 1) bytes) ≡ Err (Truncated (length bytes)) =
    few_bytes o at (drop (at + 1) bytes) (omega (arith, long, few, inside))
    ∙ ap (λ (n : ℕ). Err (Truncated n)) (omega (arith, long)) in
    subst (λ (r : Result Found SnapFault). IsNodeRead bytes at r (Err (Truncated (length bytes))))
    (sym is) refl

pub value_at_place : (o : Odds) (bytes : List ℕ) (at : ℕ) (n : ℤ) (within : Bool)
    → at + 5 ≤ length bytes → n ≡ number_at bytes (at + 1)
    → is_within o n ≡ within
    → value_node o at (drop (at + 1) bytes)
    ≡ cond {A = Result Found SnapFault} within
    (Ok (found (Whole (Some n) End) (at + 5) (drop (at + 5) bytes))) (Err (BadSnapshot at))
value_at_place o bytes at n within inside is test =
    ap (value_node o at) (drop_four bytes (at + 1) (omega (arith, inside)))
    ∙ ap (λ (m : ℤ). cond {A = Result Found SnapFault} (is_within o m)
    (Ok (found (Whole (Some m) End) (at + 5) (drop (at + 1 + 4) bytes))) (Err (BadSnapshot at)))
    (sym is)
    ∙ ap (λ (w : Bool). cond {A = Result Found SnapFault} w
    (Ok (found (Whole (Some n) End) (at + 5) (drop (at + 1 + 4) bytes))) (Err (BadSnapshot at)))
    test
    ∙ (let five : at + 1 + 4 ≡ at + 5 = omega arith in
    ap (λ (k : ℕ). cond {A = Result Found SnapFault} within
    (Ok (found (Whole (Some n) End) (at + 5) (drop k bytes))) (Err (BadSnapshot at))) five)

one_read : (bytes : List ℕ) (at next : ℕ) (v : Value) → at < next → next ≤ length bytes
    → IsRead bytes at (found (Whole v End) next (drop next bytes)) (record {
      next = next;
      groups = 0;
      common = OfValue v;
    })
unfolding group_total
one_read bytes at next v some inside = record {
  next = refl;
  rest = refl;
  within = inside;
  groups = refl;
  few = omega arith;
  common = refl;
}

pub value_good : (o : Odds) (bytes : List ℕ) (at : ℕ) (n m : ℤ) → at + 5 ≤ length bytes
    → n ≡ number_at bytes (at + 1) → is_within o n ≡ true → m ≡ n
    → IsNodeRead bytes at (value_node o at (drop (at + 1) bytes)) (Ok (record {
      next = at + 5;
      groups = 0;
      common = OfValue (Some m);
    }))
value_good o bytes at n m inside is test same =
    subst (λ (r : Result Found SnapFault). IsNodeRead bytes at r (Ok (record {
      next = at + 5;
      groups = 0;
      common = OfValue (Some m);
    })))
    (sym (value_at_place o bytes at n true inside is test))
    (subst (λ (m : ℤ). IsRead bytes at (found (Whole (Some n) End) (at + 5) (drop (at + 5) bytes))
    (record { next = at + 5; groups = 0; common = OfValue (Some m) }))
    (sym same) (one_read bytes at (at + 5) (Some n) (omega arith) inside))

-- a leaf, by its first byte
leaf_is : (o : Odds) (bytes : List ℕ) (at : ℕ) → at < length bytes
    → next_node None o at (drop at bytes)
    ≡ next_node None o at (slice_index bytes at ∷ drop (at + 1) bytes)
leaf_is o bytes at inside = ap (next_node None o at) (drop_at bytes at (at + 1) refl inside)

first_is : (o : Odds) (at byte n : ℕ) (rest : List ℕ) → byte ≡ n → next_node None o at (byte ∷ rest)
    ≡ next_node None o at (n ∷ rest)
first_is o at byte n rest is = ap (λ (b : ℕ). next_node None o at (b ∷ rest)) is

pub leaf_unknown : (o : Odds) (bytes : List ℕ) (at : ℕ) → at < length bytes → slice_index bytes at
    ≡ 0
    → IsNodeRead bytes at (next_node None o at (drop at bytes)) (Ok (record {
      next = at + 1;
      groups = 0;
      common = OfValue None;
    }))
leaf_unknown o bytes at inside first =
    subst (λ (r : Result Found SnapFault). IsNodeRead bytes at r (Ok (record {
      next = at + 1;
      groups = 0;
      common = OfValue None;
    })))
    (sym (leaf_is o bytes at inside
    ∙ first_is o at (slice_index bytes at) 0 (drop (at + 1) bytes) first))
    (one_read bytes at (at + 1) None (omega arith) (omega arith))

not_parted : (o : Odds) (h at : ℕ) (xs : List ℕ)
    → ((k : ℕ) (rest : List ℕ) → h ≡ suc k → xs ≡ 2 ∷ rest → ⊥)
    → read_node o h at xs ≡ next_node None o at xs
unfolding read_node
not_parted o zero at xs other = refl
not_parted o (suc h) at [] other = refl
not_parted o (suc h) at (zero ∷ xs) other = refl
not_parted o (suc h) at (suc zero ∷ xs) other = refl
not_parted o (suc h) at (suc (suc zero) ∷ xs) other = absurd (other h xs refl refl)
not_parted o (suc h) at (suc (suc (suc more)) ∷ xs) other = refl

head_of : (xs ys zs : List ℕ) (x y : ℕ) → xs ≡ x ∷ ys → xs ≡ y ∷ zs → x ≡ y
head_of xs ys zs x y e f = ap (λ (t : List ℕ). slice_index t 0) (sym e ∙ f)

some_length : (xs ys : List ℕ) (y : ℕ) → xs ≡ y ∷ ys → 0 < length xs
some_length xs ys y e = (let l : length xs ≡ length (y ∷ ys) = ap length e in omega (arith, l))

-- a node without nodes of its own is read as a leaf
pub node_as_leaf : (o : Odds) (bytes : List ℕ) (at d : ℕ) (seen : Result NodeRead SnapFault)
    → at ≤ length bytes
    → (((d < 16) × (at < length bytes) × (slice_index bytes at ≡ 2)) → ⊥)
    → IsNodeRead bytes at (next_node None o at (drop at bytes)) seen
    → IsNodeRead bytes at (read_node o (16 - d) at (drop at bytes)) seen
node_as_leaf o bytes at d seen inside other is =
    subst (λ (r : Result Found SnapFault). IsNodeRead bytes at r seen)
    (sym (not_parted o (16 - d) at (drop at bytes)
    (λ k rest e two. other (
      omega (arith, e),
      within rest two,
      head_of (drop at bytes)
          (drop (at + 1) bytes) rest (slice_index bytes at) 2
          (drop_at bytes at (at + 1) refl (within rest two)) two,
    )))) is
  where
    within : (rest : List ℕ) → drop at bytes ≡ 2 ∷ rest → at < length bytes
    within rest two =
        (let long = drop_length bytes at inside in let some = some_length (drop at bytes) rest 2 two
        in omega (arith, long, some))

-- ---- a node with nodes of its own

-- the eight nodes after the first byte of a node
abbrev pub eight : Odds → ℕ → List ℕ → ℕ → Result Found SnapFault
eight o h bytes at = read_row (read_node o h) 8 (found End (at + 1) (drop (at + 1) bytes))

pub node_of_eight : (o : Odds) (bytes : List ℕ) (at d : ℕ) (seen : Result NodeRead SnapFault)
    → ((d < 16) × (at < length bytes) × (slice_index bytes at ≡ 2))
    → IsNodeRead bytes at (parted_node at (eight o (16 - (d + 1)) bytes at)) seen
    → IsNodeRead bytes at (read_node o (16 - d) at (drop at bytes)) seen
unfolding read_node
node_of_eight o bytes at d seen (low, inside, two) is =
    let next : 16 - d ≡ suc (16 - (d + 1)) = omega (arith, low) in
    subst (λ (r : Result Found SnapFault). IsNodeRead bytes at r seen)
    (sym (ap (λ (h : ℕ). read_node o h at (drop at bytes)) next
    ∙ ap (read_node o (suc (16 - (d + 1))) at) (drop_at bytes at (at + 1) refl inside)
    ∙ ap (λ (b : ℕ). read_node o (suc (16 - (d + 1))) at (b ∷ drop (at + 1) bytes)) two)) is

-- nodes in a row have this in common
abbrev pub IsRowOf : Shared → Nodes → Type 0
IsRowOf (OfValue v) row = (rest : Nodes) × (row ≡ Whole v rest) × (are_all v rest ≡ true)
IsRowOf Several row = are_alike row ≡ false

-- this many nodes of the eight were read
pub record IsRow (o : Odds) (h : ℕ) (bytes : List ℕ) (at i : ℕ) (read : NodeRead) : Type 0 where
  pub row : Nodes
  pub left : read_row (read_node o h) (8 - i) (found row read.next (drop read.next bytes))
      ≡ eight o h bytes at
  pub within : read.next ≤ length bytes
  pub groups : read.groups ≡ group_total row
  pub few : at + 1 + read.groups + i ≤ read.next
  pub common : IsRowOf read.common row

row_of_one : (c : Shared) (nodes : Nodes) → IsOneNode c nodes → IsRowOf c nodes
unfolding are_all are_alike
row_of_one (OfValue v) nodes is = (End, is, refl)
row_of_one Several nodes (inner, is) = ap are_alike is

read_is : (o : Odds) (h : ℕ) (bytes : List ℕ) (at : ℕ) (read : NodeRead)
    (r : Result Found SnapFault) → IsNodeRead bytes at r (Ok read)
    → (f : Found) × (r ≡ Ok f) × IsRead bytes at f read
read_is o h bytes at read (Ok f) is = (f, refl, is)
read_is o h bytes at read (Err fault) is = absurd is

err_is : (bytes : List ℕ) (at : ℕ) (fault : SnapFault) (r : Result Found SnapFault)
    → IsNodeRead bytes at r (Err fault) → r ≡ Err fault
err_is bytes at fault (Ok f) is = absurd is
err_is bytes at fault (Err seen) is = ap (λ (e : SnapFault). Err e) is

row_step : (o : Odds) (h n : ℕ) (s f : Found) (row : Nodes) (next : ℕ) (rest : List ℕ)
    → read_node o h s.at s.rest ≡ Ok f
    → joined s.nodes f.nodes ≡ row → f.at ≡ next → f.rest ≡ rest
    → read_row (read_node o h) n (found row next rest) ≡ read_row (read_node o h) (suc n) s
unfolding read_row
row_step o h n s f row next rest is nodes at bytes =
    ap (λ (r : Nodes). read_row (read_node o h) n (found r next rest)) (sym nodes)
    ∙ ap (λ (k : ℕ). read_row (read_node o h) n (found (joined s.nodes f.nodes) k rest)) (sym at)
    ∙ ap (λ (t : List ℕ). read_row (read_node o h) n (found (joined s.nodes f.nodes) f.at t))
    (sym bytes)
    ∙ ap (after_node (λ g. read_row (read_node o h) n (found (joined s.nodes g.nodes) g.at g.rest)))
    (sym is)

row_stop : (o : Odds) (h n : ℕ) (s : Found) (fault : SnapFault) → read_node o h s.at s.rest
    ≡ Err fault
    → read_row (read_node o h) (suc n) s ≡ Err fault
unfolding read_row
row_stop o h n s fault is =
    ap (after_node (λ g. read_row (read_node o h) n (found (joined s.nodes g.nodes) g.at g.rest)))
    is

pub row_first : (o : Odds) (h : ℕ) (bytes : List ℕ) (at : ℕ) (first : NodeRead)
    → IsNodeRead bytes (at + 1) (read_node o h (at + 1) (drop (at + 1) bytes)) (Ok first)
    → IsRow o h bytes at 1 first
unfolding joined
row_first o h bytes at first is =
    let (f, same, read) =
    read_is o h bytes (at + 1) first (read_node o h (at + 1) (drop (at + 1) bytes)) is in
    record {
      row = f.nodes;
      left = row_step o h 7 (found End (at + 1) (drop (at + 1) bytes)) f f.nodes first.next
          (drop first.next bytes) same refl read.next read.rest;
      within = read.within;
      groups = read.groups;
      few = (let few = read.few in omega (arith, few));
      common = row_of_one first.common f.nodes read.common;
    }

and_false : (a : Bool) → (a && false) ≡ false
and_false true = refl
and_false false = refl

not_same : (v w : Value) → (v ≡ w → ⊥) → is_same_value v w ≡ false
not_same v w ne = by (is_same_value v w) refl
  where
    by : (b : Bool) → is_same_value v w ≡ b → is_same_value v w ≡ false
    by true e = absurd (ne (is_same_value_exact v w e))
    by false e = e

none_all : (v : Value) (c : Shared) (nodes : Nodes) → IsOneNode c nodes → (OfValue v ≡ c → ⊥)
    → are_all v nodes ≡ false
unfolding are_all
none_all v (OfValue w) nodes is ne = ap (are_all v) is ∙ ap (λ (b : Bool). b && true)
    (not_same v w (λ same. ne (ap OfValue same)))
none_all v Several nodes (inner, is) ne = ap (are_all v) is

several_stays : (a b : Nodes) → are_alike a ≡ false → are_alike (joined a b) ≡ false
unfolding joined are_alike
several_stays End b is = absurd (false≢true (sym is))
several_stays (Whole v a) b is = all_joined v a b ∙ ap (λ (x : Bool). x && are_all v b) is
several_stays (Parted i a) b is = refl

-- what nodes in a row and one more have in common
row_with : (a c d : Shared) (row nodes : Nodes) → IsRowOf a row → IsOneNode c nodes
    → (a ≡ c → d ≡ a) → ((a ≡ c → ⊥) → d ≡ Several)
    → ((a ≡ c) ⊎ (a ≡ c → ⊥)) → IsRowOf d (joined row nodes)
unfolding joined are_all are_alike
row_with (OfValue v) c d row nodes (rest, is, all) one same other (inl eq) =
    subst (λ (d : Shared). IsRowOf d (joined row nodes)) (sym (same eq)) (
      joined rest nodes,
      ap (λ (r : Nodes). joined r nodes) is,
      all_joined v rest nodes ∙ ap (λ (x : Bool). x && are_all v nodes) all
          ∙ ap (are_all v) (subst (λ (c : Shared). IsOneNode c nodes) (sym eq) one)
          ∙ ap (λ (x : Bool). x && true) (is_same_value_refl v),
    )
row_with (OfValue v) c d row nodes (rest, is, all) one same other (inr ne) =
    subst (λ (d : Shared). IsRowOf d (joined row nodes)) (sym (other ne))
    (ap (λ (r : Nodes). are_alike (joined r nodes)) is ∙ all_joined v rest nodes
    ∙ ap (λ (x : Bool). are_all v rest && x) (none_all v c nodes one ne)
    ∙ and_false (are_all v rest))
row_with Several c d row nodes is one same other (inl eq) =
    subst (λ (d : Shared). IsRowOf d (joined row nodes)) (sym (same eq))
    (several_stays row nodes is)
row_with Several c d row nodes is one same other (inr ne) =
    subst (λ (d : Shared). IsRowOf d (joined row nodes)) (sym (other ne))
    (several_stays row nodes is)

value_in : Shared → Value → Value
value_in (OfValue v) w = v
value_in Several w = w

is_value : Shared → Bool
is_value (OfValue v) = true
is_value Several = false

same_or_not : (a c : Shared) → (a ≡ c) ⊎ (a ≡ c → ⊥)
unfolding value_in is_value
same_or_not (OfValue v) (OfValue w) = by (is_same_value v w) refl
  where
    by : (b : Bool) → is_same_value v w ≡ b → (OfValue v ≡ OfValue w) ⊎ (OfValue v ≡ OfValue w → ⊥)
    by true e = inl (ap OfValue (is_same_value_exact v w e))
    by false e =
        inr (λ same. false≢true (sym e ∙ ap (is_same_value v) (sym (ap (λ c. value_in c v) same))
        ∙ is_same_value_refl v))
same_or_not (OfValue v) Several = inr (λ same. false≢true (sym (ap is_value same)))
same_or_not Several (OfValue w) = inr (λ same. false≢true (ap is_value same))
same_or_not Several Several = inl refl

pub row_next : (o : Odds) (h : ℕ) (bytes : List ℕ) (at i : ℕ) (read child : NodeRead)
    (common : Shared) → i < 8 → IsRow o h bytes at i read
    → IsNodeRead bytes read.next (read_node o h read.next (drop read.next bytes)) (Ok child)
    → (read.common ≡ child.common → common ≡ read.common)
    → ((read.common ≡ child.common → ⊥) → common ≡ Several)
    → IsRow o h bytes at (i + 1) (record {
      next = child.next;
      groups = read.groups + child.groups;
      common = common;
    })
row_next o h bytes at i read child common li s is same other =
    let (f, ok, one) =
    read_is o h bytes read.next child (read_node o h read.next (drop read.next bytes)) is in
    let fewer : suc (8 - (i + 1)) ≡ 8 - i = omega (arith, li) in
    record {
      row = joined s.row f.nodes;
      left = row_step o h (8 - (i + 1))
          (found s.row read.next (drop read.next bytes)) f (joined s.row f.nodes) child.next
          (drop child.next bytes)
          ok refl one.next one.rest
          ∙ ap (λ (n : ℕ). read_row (read_node o h) n
          (found s.row read.next (drop read.next bytes))) fewer ∙ s.left;
      within = one.within;
      groups = (let a = s.groups in let b = one.groups in let t = total_joined s.row f.nodes in
          omega (arith, a, b, t));
      few = (let a = s.few in let b = one.few in omega (arith, a, b));
      common = row_with read.common child.common common s.row f.nodes s.common one.common same other
          (same_or_not read.common child.common);
    }

-- a fault in the first of the eight, or in a later one
pub first_stops : (o : Odds) (h : ℕ) (bytes : List ℕ) (at : ℕ) (fault : SnapFault)
    → IsNodeRead bytes (at + 1) (read_node o h (at + 1) (drop (at + 1) bytes)) (Err fault)
    → IsNodeRead bytes at (parted_node at (eight o h bytes at)) (Err fault)
first_stops o h bytes at fault is =
    let stops : eight o h bytes at ≡ Err fault =
    row_stop o h 7 (found End (at + 1) (drop (at + 1) bytes)) fault
    (err_is bytes (at + 1) fault (read_node o h (at + 1) (drop (at + 1) bytes)) is) in
    subst (λ (r : Result Found SnapFault). IsNodeRead bytes at (parted_node at r) (Err fault))
    (sym stops) refl

pub row_stops : (o : Odds) (h : ℕ) (bytes : List ℕ) (at i : ℕ) (read : NodeRead) (fault : SnapFault)
    → i < 8 → IsRow o h bytes at i read
    → IsNodeRead bytes read.next (read_node o h read.next (drop read.next bytes)) (Err fault)
    → IsNodeRead bytes at (parted_node at (eight o h bytes at)) (Err fault)
row_stops o h bytes at i read fault li s is =
    let fewer : 8 - i ≡ suc (8 - (i + 1)) = omega (arith, li) in
    let stops : eight o h bytes at ≡ Err fault = sym s.left
    ∙ ap (λ (n : ℕ). read_row (read_node o h) n (found s.row read.next (drop read.next bytes)))
    fewer
    ∙ row_stop o h (8 - (i + 1)) (found s.row read.next (drop read.next bytes)) fault
    (err_is bytes read.next fault (read_node o h read.next (drop read.next bytes)) is) in
    subst (λ (r : Result Found SnapFault). IsNodeRead bytes at (parted_node at r) (Err fault))
    (sym stops) refl

row_done : (o : Odds) (h : ℕ) (bytes : List ℕ) (at i : ℕ) (read : NodeRead) → i ≡ 8
    → (s : IsRow o h bytes at i read)
    → Ok (found s.row read.next (drop read.next bytes)) ≡ eight o h bytes at
unfolding read_row
row_done o h bytes at i read end s =
    let none : 0 ≡ 8 - i = omega (arith, end) in
    ap (λ (n : ℕ). read_row (read_node o h) n (found s.row read.next (drop read.next bytes))) none
    ∙ s.left

parted_by : (at : ℕ) (f : Found) (alike : Bool) → are_alike f.nodes ≡ alike
    → parted_node at (Ok f) ≡ cond {A = Result Found SnapFault} alike (Err (BadSnapshot at))
    (Ok (found (Parted f.nodes End) f.at f.rest))
parted_by at f alike is =
    ap (λ (b : Bool). cond {A = Result Found SnapFault} b (Err (BadSnapshot at))
    (Ok (found (Parted f.nodes End) f.at f.rest))) is

alike_row : (v : Value) (c : Shared) (row : Nodes) → c ≡ OfValue v → IsRowOf c row
    → are_alike row ≡ true
unfolding are_alike
alike_row v c row is s =
    (let (rest, at, all) = subst (λ (c : Shared). IsRowOf c row) is s in ap are_alike at ∙ all)

-- all eight are of one value
pub eight_alike : (o : Odds) (h : ℕ) (bytes : List ℕ) (at i : ℕ) (read : NodeRead) (v : Value)
    → i ≡ 8 → IsRow o h bytes at i read
    → read.common ≡ OfValue v → IsNodeRead bytes at (parted_node at (eight o h bytes at))
    (Err (BadSnapshot at))
eight_alike o h bytes at i read v end s is =
    subst (λ (r : Result Found SnapFault). IsNodeRead bytes at (parted_node at r)
    (Err (BadSnapshot at))) (row_done o h bytes at i read end s)
    (subst (λ (r : Result Found SnapFault). IsNodeRead bytes at r (Err (BadSnapshot at)))
    (sym (parted_by at (found s.row read.next (drop read.next bytes)) true
    (alike_row v read.common s.row is s.common))) refl)

several_row : (c : Shared) (row : Nodes) → ((v : Value) → c ≡ OfValue v → ⊥) → IsRowOf c row
    → are_alike row ≡ false
several_row (OfValue v) row other s = absurd (other v refl)
several_row Several row other s = s

-- they aren't
pub eight_varied : (o : Odds) (h : ℕ) (bytes : List ℕ) (at i : ℕ) (read : NodeRead) → i ≡ 8
    → IsRow o h bytes at i read
    → ((v : Value) → read.common ≡ OfValue v → ⊥)
    → IsNodeRead bytes at (parted_node at (eight o h bytes at)) (Ok (record {
      next = read.next;
      groups = 1 + read.groups;
      common = Several;
    }))
unfolding group_total
eight_varied o h bytes at i read end s other =
    subst (λ (r : Result Found SnapFault). IsNodeRead bytes at (parted_node at r) (Ok (record {
      next = read.next;
      groups = 1 + read.groups;
      common = Several;
    })))
    (row_done o h bytes at i read end s)
    (subst (λ (r : Result Found SnapFault). IsNodeRead bytes at r
    (Ok (record { next = read.next; groups = 1 + read.groups; common = Several })))
    (sym (parted_by at (found s.row read.next (drop read.next bytes)) false
    (several_row read.common s.row other s.common)))
    (record {
      next = refl;
      rest = refl;
      within = s.within;
      groups = (let g = s.groups in omega (arith, g));
      few = (let f = s.few in omega (arith, f, end));
      common = (s.row, refl);
    }))
