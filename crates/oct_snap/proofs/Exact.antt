-- What is read is exactly the texts of nodes.
use Rattle.std.proofs.Common.{◌≡◌, ℕ, zero, suc, ◌+◌, ◌<◌, List, [], ◌∷◌, ◌++◌, length, refl, sym}
use Rattle.std.proofs.Common.{subst, ◌∙◌, ap, arith, append_assoc, append-nil, length-append, cond}
use Rattle.std.specs.Prelude.{ℤ, Bool, true, false, Some, Result, Ok, Err, is_ok}
use Rattle.std.specs.List.{All}
use Rattle.std.proofs.lemmas.Bool.{false≢true}
use Rattle.std.proofs.lemmas.Int.{ints}
use Rattle.oct_odds.specs.Odds.{Odds}
use Rattle.oct_odds.specs.Update.{IsWithin}
use Rattle.oct_values.proofs.Sums.{first_of_all, rest_of_all}
use Rattle.oct_snap.specs.declared.fault.SnapFault.{SnapFault}
use Rattle.oct_snap.specs.declared.fault.SnapFault.TheVariants.{BadSnapshot}
use Rattle.oct_snap.specs.Nodes.{Nodes, End, Whole, Parted, joined, number_bytes, text_of}
use Rattle.oct_snap.specs.Nodes.{are_alike, AreNodes}
use Rattle.oct_snap.specs.Reading.{Found, found, Reader, number_of, is_within, value_node}
use Rattle.oct_snap.specs.Reading.{parted_node, after_node, read_row, read_node}
use Rattle.oct_snap.proofs.Numbers.{bytes_back}
use Rattle.oct_snap.proofs.Rows.{joined_end, joined_assoc, text_joined, one_joined}

abbrev pub AreSmall : List ℕ → Type 0
AreSmall bytes = All (λ b. b < 256) bytes

-- this many nodes stand in a row at the front of these bytes
pub record IsFound (o : Odds) (h n at : ℕ) (bytes : List ℕ) (f : Found) : Type 0 where
  pub nodes : AreNodes o h n f.nodes
  pub text : bytes ≡ text_of f.nodes ++ f.rest
  pub place : f.at ≡ at + length (text_of f.nodes)
  pub small : AreSmall f.rest

-- a reader finds nothing but nodes
abbrev pub FindsNodes : Odds → ℕ → ℕ → Reader → Type 0
FindsNodes o h n next = (at : ℕ) (bytes : List ℕ) (f : Found) → AreSmall bytes
    → next at bytes ≡ Ok f → IsFound o h n at bytes f

-- the nodes that were found after others
pub record IsBehind (o : Odds) (h n : ℕ) (s f : Found) : Type 0 where
  pub row : Nodes
  pub nodes : AreNodes o h n row
  pub all : f.nodes ≡ joined s.nodes row
  pub text : s.rest ≡ text_of row ++ f.rest
  pub place : f.at ≡ s.at + length (text_of row)
  pub small : AreSmall f.rest

abbrev found_of : Result Found SnapFault → Found → Found
found_of (Ok f) other = f
found_of (Err fault) other = other

pub ok_is : (f g : Found) → ◌≡◌ {A = Result Found SnapFault} (Ok f) (Ok g) → f ≡ g
ok_is f g e = ap (λ r. found_of r f) e

pub err_not_ok : (fault : SnapFault) (f : Found) → ◌≡◌ {A = Result Found SnapFault} (Err fault)
    (Ok f) → ⊥
err_not_ok fault f e = false≢true (ap is_ok e)

-- a node and then those after it
both_found : (o : Odds) (h n : ℕ) (s g f : Found) → IsFound o h 1 s.at s.rest g
    → IsBehind o h n (found (joined s.nodes g.nodes) g.at g.rest) f → IsBehind o h (suc n) s f
both_found o h n s g f first later = record {
  row = joined g.nodes later.row;
  nodes = one_joined o h n g.nodes later.row first.nodes later.nodes;
  all = later.all ∙ joined_assoc s.nodes g.nodes later.row;
  text = first.text ∙ ap (λ bytes. text_of g.nodes ++ bytes) later.text
      ∙ sym (append_assoc (text_of g.nodes) (text_of later.row) f.rest)
      ∙ ap (λ bytes. bytes ++ f.rest) (sym (text_joined g.nodes later.row));
  place = (let long : length (text_of (joined g.nodes later.row))
      ≡ length (text_of g.nodes) + length (text_of later.row)
      = ap length (text_joined g.nodes later.row) ∙ length-append (text_of g.nodes)
      (text_of later.row) in
      let one = first.place in
      let two = later.place in
      omega (arith, long, one, two));
  small = later.small;
}

by_first : (o : Odds) (h n : ℕ) (s f : Found) (go : Found → Result Found SnapFault)
    (r : Result Found SnapFault)
    → ((g : Found) → r ≡ Ok g → IsFound o h 1 s.at s.rest g)
    → ((g : Found) → IsFound o h 1 s.at s.rest g → go g ≡ Ok f
    → IsBehind o h n (found (joined s.nodes g.nodes) g.at g.rest) f)
    → after_node go r ≡ Ok f → IsBehind o h (suc n) s f
by_first o h n s f go (Err fault) one more is = absurd (err_not_ok fault f is)
by_first o h n s f go (Ok g) one more is = both_found o h n s g f (one g refl)
    (more g (one g refl) is)

pub row_found : (o : Odds) (h : ℕ) (next : Reader) → FindsNodes o h 1 next → (n : ℕ) (s f : Found)
    → AreSmall s.rest
    → read_row next n s ≡ Ok f → IsBehind o h n s f
unfolding read_row text_of
row_found o h next finds zero s f small is =
    let same : s ≡ f = ok_is s f is in
    subst (λ (f : Found). IsBehind o h 0 s f) same (record {
      row = End;
      nodes = tt;
      all = sym (joined_end s.nodes);
      text = refl;
      place = omega arith;
      small = small;
    })
row_found o h next finds (suc n) s f small is =
    by_first o h n s f (λ f. read_row next n (found (joined s.nodes f.nodes) f.at f.rest))
    (next s.at s.rest)
    (λ g e. finds s.at s.rest g small e)
    (λ g one e. row_found o h next finds n (found (joined s.nodes g.nodes) g.at g.rest) f one.small
    e)
    is

pub within_test : (o : Odds) (n : ℤ) → is_within o n ≡ true → IsWithin o (Some n)
within_test o n h = grind (arith, ints)

pub passes_within : (o : Odds) (n : ℤ) → IsWithin o (Some n) → is_within o n ≡ true
passes_within o n h = grind (arith, ints)

value_found : (o : Odds) (h at : ℕ) (rest : List ℕ) (f : Found) → AreSmall rest
    → value_node o at rest ≡ Ok f
    → IsFound o h 1 at (1 ∷ rest) f
unfolding text_of
value_found o h at [] f small is = absurd (err_not_ok _ f is)
value_found o h at (a ∷ []) f small is = absurd (err_not_ok _ f is)
value_found o h at (a ∷ b ∷ []) f small is = absurd (err_not_ok _ f is)
value_found o h at (a ∷ b ∷ c ∷ []) f small is = absurd (err_not_ok _ f is)
value_found o h at (a ∷ b ∷ c ∷ d ∷ rest) f small is = by (is_within o n) refl is
  where
    n : ℤ
    n = number_of (a ∷ b ∷ c ∷ d ∷ [])

    one : AreSmall (b ∷ c ∷ d ∷ rest)
    one = rest_of_all (λ b. b < 256) a (b ∷ c ∷ d ∷ rest) small

    two : AreSmall (c ∷ d ∷ rest)
    two = rest_of_all (λ b. b < 256) b (c ∷ d ∷ rest) one

    three : AreSmall (d ∷ rest)
    three = rest_of_all (λ b. b < 256) c (d ∷ rest) two

    text : number_bytes n ≡ a ∷ b ∷ c ∷ d ∷ []
    text = bytes_back a b c d (
      first_of_all (λ b. b < 256) a (b ∷ c ∷ d ∷ rest) small,
      first_of_all (λ b. b < 256) b (c ∷ d ∷ rest) one,
      first_of_all (λ b. b < 256) c (d ∷ rest) two,
      first_of_all (λ b. b < 256) d rest three,
    )

    by : (within : Bool) → is_within o n ≡ within
        → cond {A = Result Found SnapFault} within (Ok (found (Whole (Some n) End) (at + 5) rest))
        (Err (BadSnapshot at)) ≡ Ok f
        → IsFound o h 1 at (1 ∷ a ∷ b ∷ c ∷ d ∷ rest) f
    by false e is = absurd (err_not_ok _ f is)
    by true e is = subst (λ (f : Found). IsFound o h 1 at (1 ∷ a ∷ b ∷ c ∷ d ∷ rest) f)
        (ok_is _ f is) (record {
          nodes = (within_test o n e, tt);
          text = ap (λ (bytes : List ℕ). 1 ∷ (bytes ++ rest)) (sym text);
          place = refl;
          small = rest_of_all (λ b. b < 256) d rest three;
        })

parted_found : (o : Odds) (h at : ℕ) (rest : List ℕ) (r : Result Found SnapFault) (f : Found)
    → ((g : Found) → r ≡ Ok g → IsBehind o h 8 (found End (at + 1) rest) g) → parted_node at r
    ≡ Ok f → IsFound o (suc h) 1 at (2 ∷ rest) f
unfolding text_of joined
parted_found o h at rest (Err fault) f inner is = absurd (err_not_ok fault f is)
parted_found o h at rest (Ok g) f inner is = by (are_alike g.nodes) refl is
  where
    row : IsBehind o h 8 (found End (at + 1) rest) g
    row = inner g refl

    by : (alike : Bool) → are_alike g.nodes ≡ alike
        → cond {A = Result Found SnapFault} alike (Err (BadSnapshot at))
        (Ok (found (Parted g.nodes End) g.at g.rest)) ≡ Ok f
        → IsFound o (suc h) 1 at (2 ∷ rest) f
    by true e is = absurd (err_not_ok _ f is)
    by false e is = subst (λ (f : Found). IsFound o (suc h) 1 at (2 ∷ rest) f) (ok_is _ f is)
        (record {
          nodes = (subst (λ row. AreNodes o h 8 row) (sym row.all) row.nodes, e, tt);
          text = ap (λ (bytes : List ℕ). 2 ∷ bytes)
              (row.text ∙ ap (λ (a : Nodes). text_of a ++ g.rest) (sym row.all)
              ∙ ap (λ (bytes : List ℕ). bytes ++ g.rest) (sym (append-nil (text_of g.nodes))));
          place = (let p = row.place in
              let same : length (text_of row.row) ≡ length (text_of g.nodes ++ []) =
              ap length (ap text_of (sym row.all) ∙ sym (append-nil (text_of g.nodes))) in
              omega (arith, p, same));
          small = row.small;
        })

-- the reader of a node finds a node
pub node_found : (o : Odds) (h : ℕ) → FindsNodes o h 1 (read_node o h)
unfolding read_node text_of
node_found o zero at [] f small is = absurd (err_not_ok _ f is)
node_found o zero at (zero ∷ rest) f small is = subst (λ (f : Found). IsFound o 0 1 at (0 ∷ rest) f)
    (ok_is _ f is)
    (record {
      nodes = (tt, tt);
      text = refl;
      place = refl;
      small = rest_of_all (λ b. b < 256) 0 rest small;
    })
node_found o zero at (suc zero ∷ rest) f small is =
    value_found o 0 at rest f (rest_of_all (λ b. b < 256) 1 rest small) is
node_found o zero at (suc (suc zero) ∷ rest) f small is = absurd (err_not_ok _ f is)
node_found o zero at (suc (suc (suc more)) ∷ rest) f small is = absurd (err_not_ok _ f is)
node_found o (suc h) at [] f small is = absurd (err_not_ok _ f is)
node_found o (suc h) at (zero ∷ rest) f small is =
    subst (λ (f : Found). IsFound o (suc h) 1 at (0 ∷ rest) f) (ok_is _ f is)
    (record {
      nodes = (tt, tt);
      text = refl;
      place = refl;
      small = rest_of_all (λ b. b < 256) 0 rest small;
    })
node_found o (suc h) at (suc zero ∷ rest) f small is =
    value_found o (suc h) at rest f (rest_of_all (λ b. b < 256) 1 rest small) is
node_found o (suc h) at (suc (suc zero) ∷ rest) f small is =
    parted_found o h at rest (read_row (read_node o h) 8 (found End (at + 1) rest)) f
    (λ g e. row_found o h (read_node o h)
    (node_found o h) 8 (found End (at + 1) rest) g (rest_of_all (λ b. b < 256) 2 rest small) e)
    is
node_found o (suc h) at (suc (suc (suc more)) ∷ rest) f small is = absurd (err_not_ok _ f is)
