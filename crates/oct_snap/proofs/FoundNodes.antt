-- What a reader finds are nodes, and a row of them has the nodes that were read one after the
-- other.
use Rattle.std.proofs.Common.{◌≡◌, ℕ, zero, suc, ◌+◌, List, [], ◌∷◌, refl, sym, subst, ◌∙◌, ap}
use Rattle.std.proofs.Common.{arith, cond}
use Rattle.std.specs.Prelude.{ℤ, Bool, true, false, Some, Result, Ok, Err}
use Rattle.oct_key.specs.Voxel.{Voxel}
use Rattle.oct_odds.specs.Odds.{Odds}
use Rattle.oct_snap.specs.declared.fault.SnapFault.{SnapFault}
use Rattle.oct_snap.specs.declared.fault.SnapFault.TheVariants.{BadSnapshot}
use Rattle.oct_snap.specs.Nodes.{Nodes, End, Whole, Parted, joined, are_alike, AreNodes, value_in}
use Rattle.oct_snap.specs.Reading.{Found, found, Reader, number_of, is_within, value_node}
use Rattle.oct_snap.specs.Reading.{parted_node, after_node, read_row, read_node}
use Rattle.oct_snap.proofs.Rows.{joined_end, joined_assoc, one_joined}
use Rattle.oct_snap.proofs.Exact.{ok_is, err_not_ok, within_test}

-- a row of nodes before others
pub row_joined : (o : Odds) (h m n l : ℕ) (a b : Nodes) → m + n ≡ l → AreNodes o h m a
    → AreNodes o h n b → AreNodes o h l (joined a b)
unfolding joined
row_joined o h zero n l End b e x y =
    (let same : n ≡ l = omega (arith, e) in subst (λ (n : ℕ). AreNodes o h n b) same y)
row_joined o h zero n l (Whole v a) b e x y = absurd x
row_joined o zero zero n l (Parted i a) b e x y = absurd x
row_joined o (suc h) zero n l (Parted i a) b e x y = absurd x
row_joined o h (suc m) n l End b e x y = absurd x
row_joined o h (suc m) n zero (Whole v a) b e x y = absurd (omega (arith, e))
row_joined o h (suc m) n (suc l) (Whole v a) b e (within, x) y =
    (within, row_joined o h m n l a b (omega (arith, e)) x y)
row_joined o zero (suc m) n l (Parted i a) b e x y = absurd x
row_joined o (suc h) (suc m) n zero (Parted i a) b e x y = absurd (omega (arith, e))
row_joined o (suc h) (suc m) n (suc l) (Parted i a) b e (inner, varied, x) y =
    (inner, varied, row_joined o (suc h) m n l a b (omega (arith, e)) x y)

-- the values of the nodes after a row
pub value_behind : (o : Odds) (h d m j l : ℕ) (a b : Nodes) (k : Voxel) → m + j ≡ l
    → AreNodes o h m a
    → value_in d (joined a b) l k ≡ value_in d b j k
unfolding joined value_in
value_behind o h d zero j l End b k e x =
    (let same : l ≡ j = omega (arith, e) in ap (λ (i : ℕ). value_in d b i k) same)
value_behind o h d zero j l (Whole v a) b k e x = absurd x
value_behind o zero d zero j l (Parted i a) b k e x = absurd x
value_behind o (suc h) d zero j l (Parted i a) b k e x = absurd x
value_behind o h d (suc m) j l End b k e x = absurd x
value_behind o h d (suc m) j zero (Whole v a) b k e x = absurd (omega (arith, e))
value_behind o h d (suc m) j (suc l) (Whole v a) b k e (within, x) =
    value_behind o h d m j l a b k (omega (arith, e)) x
value_behind o zero d (suc m) j l (Parted i a) b k e x = absurd x
value_behind o (suc h) d (suc m) j zero (Parted i a) b k e x = absurd (omega (arith, e))
value_behind o (suc h) d (suc m) j (suc l) (Parted i a) b k e (inner, varied, x) =
    value_behind o (suc h) d m j l a b k (omega (arith, e)) x

-- and of the first node of a row
pub value_first : (o : Odds) (h d : ℕ) (a b : Nodes) (k : Voxel) → AreNodes o h 1 a
    → value_in d (joined a b) 0 k ≡ value_in d a 0 k
unfolding joined value_in
value_first o h d End b k x = absurd x
value_first o h d (Whole v a) b k x = refl
value_first o zero d (Parted i a) b k x = absurd x
value_first o (suc h) d (Parted i a) b k x = refl

-- a node and those after it, where both were read
pub record IsSplitRow (next : Reader) (n : ℕ) (s g : Found) : Type 0 where
  pub one : Found
  pub first : next s.at s.rest ≡ Ok one
  pub later : read_row next n (found (joined s.nodes one.nodes) one.at one.rest) ≡ Ok g

pub row_split : (next : Reader) (n : ℕ) (s g : Found) → read_row next (suc n) s ≡ Ok g
    → IsSplitRow next n s g
unfolding read_row
row_split next n s g is = by (next s.at s.rest) refl is
  where
    by : (r : Result Found SnapFault) → next s.at s.rest ≡ r
        → after_node (λ f. read_row next n (found (joined s.nodes f.nodes) f.at f.rest)) r ≡ Ok g
        → IsSplitRow next n s g
    by (Err fault) e is = absurd (err_not_ok fault g is)
    by (Ok f) e is = record { one = f; first = e; later = is }

-- no more nodes
pub row_whole : (next : Reader) (s g : Found) → read_row next 0 s ≡ Ok g → s ≡ g
unfolding read_row
row_whole next s g is = ok_is s g is

-- the nodes that were read after others
pub record AreBehind (o : Odds) (h n : ℕ) (s g : Found) : Type 0 where
  pub row : Nodes
  pub are : AreNodes o h n row
  pub all : g.nodes ≡ joined s.nodes row

abbrev pub FindsOne : Odds → ℕ → Reader → Type 0
FindsOne o h next = (at : ℕ) (bytes : List ℕ) (f : Found) → next at bytes ≡ Ok f
    → AreNodes o h 1 f.nodes

pub row_behind : (o : Odds) (h : ℕ) (next : Reader) → FindsOne o h next → (n : ℕ) (s g : Found)
    → read_row next n s ≡ Ok g
    → AreBehind o h n s g
row_behind o h next finds zero s g is =
    (let same : s ≡ g = row_whole next s g is in
    record {
      row = End;
      are = tt;
      all = ap (λ (f : Found). f.nodes) (sym same)
          ∙ sym (joined_end s.nodes);
    })
row_behind o h next finds (suc n) s g is =
    (let split : IsSplitRow next n s g = row_split next n s g is in
    let later : AreBehind o h n (found (joined s.nodes split.one.nodes) split.one.at split.one.rest)
    g =
    row_behind o h next finds n (found (joined s.nodes split.one.nodes) split.one.at split.one.rest)
    g split.later in
    record {
      row = joined split.one.nodes later.row;
      are = one_joined o h n split.one.nodes later.row (finds s.at s.rest split.one split.first)
          later.are;
      all = later.all ∙ joined_assoc s.nodes split.one.nodes later.row;
    })

value_one : (o : Odds) (h at : ℕ) (rest : List ℕ) (f : Found) → value_node o at rest ≡ Ok f
    → AreNodes o h 1 f.nodes
value_one o h at [] f is = absurd (err_not_ok _ f is)
value_one o h at (a ∷ []) f is = absurd (err_not_ok _ f is)
value_one o h at (a ∷ b ∷ []) f is = absurd (err_not_ok _ f is)
value_one o h at (a ∷ b ∷ c ∷ []) f is = absurd (err_not_ok _ f is)
value_one o h at (a ∷ b ∷ c ∷ d ∷ rest) f is = by (is_within o n) refl is
  where
    n : ℤ
    n = number_of (a ∷ b ∷ c ∷ d ∷ [])

    by : (within : Bool) → is_within o n ≡ within
        → cond {A = Result Found SnapFault} within (Ok (found (Whole (Some n) End) (at + 5) rest))
        (Err (BadSnapshot at)) ≡ Ok f
        → AreNodes o h 1 f.nodes
    by false e is = absurd (err_not_ok _ f is)
    by true e is = subst (λ (f : Found). AreNodes o h 1 f.nodes) (ok_is _ f is)
        (within_test o n e, tt)

parted_one : (o : Odds) (h at : ℕ) (r : Result Found SnapFault) (f : Found)
    → ((g : Found) → r ≡ Ok g → AreNodes o h 8 g.nodes)
    → parted_node at r ≡ Ok f → AreNodes o (suc h) 1 f.nodes
parted_one o h at (Err fault) f inner is = absurd (err_not_ok fault f is)
parted_one o h at (Ok g) f inner is = by (are_alike g.nodes) refl is
  where
    by : (alike : Bool) → are_alike g.nodes ≡ alike
        → cond {A = Result Found SnapFault} alike (Err (BadSnapshot at))
        (Ok (found (Parted g.nodes End) g.at g.rest)) ≡ Ok f
        → AreNodes o (suc h) 1 f.nodes
    by true e is = absurd (err_not_ok _ f is)
    by false e is = subst (λ (f : Found). AreNodes o (suc h) 1 f.nodes) (ok_is _ f is)
        (inner g refl, e, tt)

-- eight nodes from a first one on
pub eight_are : (o : Odds) (h : ℕ) (next : Reader) → FindsOne o h next → (at : ℕ) (rest : List ℕ)
    (g : Found)
    → read_row next 8 (found End at rest) ≡ Ok g → AreNodes o h 8 g.nodes
unfolding joined
eight_are o h next finds at rest g is =
    (let behind = row_behind o h next finds 8 (found End at rest) g is in
    subst (λ row. AreNodes o h 8 row) (sym behind.all) behind.are)

-- the reader of a node finds one
pub node_one : (o : Odds) (h : ℕ) → FindsOne o h (read_node o h)
unfolding read_node
node_one o zero at [] f is = absurd (err_not_ok _ f is)
node_one o zero at (zero ∷ rest) f is = subst (λ (f : Found). AreNodes o 0 1 f.nodes) (ok_is _ f is)
    (tt, tt)
node_one o zero at (suc zero ∷ rest) f is = value_one o 0 at rest f is
node_one o zero at (suc (suc zero) ∷ rest) f is = absurd (err_not_ok _ f is)
node_one o zero at (suc (suc (suc more)) ∷ rest) f is = absurd (err_not_ok _ f is)
node_one o (suc h) at [] f is = absurd (err_not_ok _ f is)
node_one o (suc h) at (zero ∷ rest) f is = subst (λ (f : Found). AreNodes o (suc h) 1 f.nodes)
    (ok_is _ f is) (tt, tt)
node_one o (suc h) at (suc zero ∷ rest) f is = value_one o (suc h) at rest f is
node_one o (suc h) at (suc (suc zero) ∷ rest) f is =
    parted_one o h at (read_row (read_node o h) 8 (found End (at + 1) rest)) f
    (λ g e. eight_are o h (read_node o h) (node_one o h) (at + 1) rest g e) is
node_one o (suc h) at (suc (suc (suc more)) ∷ rest) f is = absurd (err_not_ok _ f is)
