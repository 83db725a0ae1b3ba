-- The texts of nodes are read back.
use Rattle.std.proofs.Common.{◌≡◌, ℕ, zero, suc, ◌+◌, List, [], ◌++◌, length, refl, sym, ◌∙◌, ap}
use Rattle.std.proofs.Common.{arith, append_assoc, append-nil, length-append, cond}
use Rattle.std.specs.Prelude.{ℤ, ◌↔◌, ◌<◌, Bool, false, Some, None, Result, Ok, Err}
use Rattle.std.specs.List.{All}
use Rattle.std.proofs.lemmas.Int.{ints}
use mir.Val.{SFits}
use mir.Syntax.{w32}
use Rattle.oct_odds.specs.Odds.{Odds, IsSound}
use Rattle.oct_odds.specs.Update.{IsWithin}
use Rattle.oct_snap.specs.declared.fault.SnapFault.{SnapFault}
use Rattle.oct_snap.specs.declared.fault.SnapFault.TheVariants.{BadSnapshot}
use Rattle.oct_snap.specs.Nodes.{Nodes, End, Whole, Parted, joined, number_bytes, text_of}
use Rattle.oct_snap.specs.Nodes.{are_alike, AreNodes}
use Rattle.oct_key.specs.Values.{Values}
use Rattle.oct_snap.specs.Texts.{map_text}
use Rattle.oct_snap.specs.Reading.{Found, found, Reader, is_within, value_node, parted_node}
use Rattle.oct_snap.specs.Reading.{after_node, read_row, read_node}
use Rattle.oct_snap.proofs.MapNodes.{AreMapNodes}
use Rattle.oct_snap.proofs.Numbers.{number_back}
use Rattle.oct_snap.proofs.Rows.{joined_end, joined_assoc, text_joined}
use Rattle.oct_snap.proofs.Exact.{passes_within, node_found}

within_fits : (o : Odds) (n : ℤ) → IsSound o → IsWithin o (Some n) → SFits w32 n
within_fits o n sound (low, high) = (let (hit, miss, min, max, thr) = sound.small in
    let (a, b) = min in let (c, d) = max in omega (arith, ints, low, high, a, d))

-- a reader reads back each node
abbrev pub ReadsBack : Odds → ℕ → Reader → Type 0
ReadsBack o h next = (at : ℕ) (nodes : Nodes) (rest : List ℕ) → AreNodes o h 1 nodes
    → next at (text_of nodes ++ rest) ≡ Ok (found nodes (at + length (text_of nodes)) rest)

one_back : (next : Reader) (n at : ℕ) (s one later : Nodes) (rest : List ℕ)
    → next at (text_of one ++ (text_of later ++ rest))
    ≡ Ok (found one (at + length (text_of one)) (text_of later ++ rest))
    → read_row next n (found (joined s one) (at + length (text_of one)) (text_of later ++ rest))
    ≡ Ok (found (joined (joined s one) later)
    (at + length (text_of one) + length (text_of later)) rest)
    → read_row next (suc n) (found s at (text_of (joined one later) ++ rest))
    ≡ Ok (found (joined s (joined one later)) (at + length (text_of (joined one later))) rest)
unfolding read_row
one_back next n at s one later rest first more =
    let text : text_of (joined one later) ++ rest ≡ text_of one ++ (text_of later ++ rest)
    = ap (λ (t : List ℕ). t ++ rest) (text_joined one later) ∙ append_assoc (text_of one)
    (text_of later) rest in
    let long : length (text_of (joined one later)) ≡ length (text_of one) + length (text_of later)
    = ap length (text_joined one later) ∙ length-append (text_of one) (text_of later) in
    ap (λ (t : List ℕ). after_node (λ f. read_row next n (found (joined s f.nodes) f.at f.rest))
    (next at t)) text
    ∙ ap (after_node (λ f. read_row next n (found (joined s f.nodes) f.at f.rest))) first
    ∙ more
    ∙ ap (λ (r : Nodes). Ok (found r (at + length (text_of one) + length (text_of later)) rest))
    (joined_assoc s one later)
    ∙ ap (λ (k : ℕ). Ok (found (joined s (joined one later)) k rest)) (omega (arith, long))

pub row_back : (o : Odds) (h : ℕ) (next : Reader) → ReadsBack o h next → (n at : ℕ) (row s : Nodes)
    (rest : List ℕ) → AreNodes o h n row
    → read_row next n (found s at (text_of row ++ rest))
    ≡ Ok (found (joined s row) (at + length (text_of row)) rest)
unfolding read_row text_of joined
row_back o h next back zero at End s rest is =
    ap (λ (r : Nodes). Ok (found r at rest)) (sym (joined_end s))
    ∙ ap (λ (k : ℕ). Ok (found (joined s End) k rest)) (omega arith)
row_back o h next back zero at (Whole v row) s rest is = absurd is
row_back o zero next back zero at (Parted i row) s rest is = absurd is
row_back o (suc h) next back zero at (Parted i row) s rest is = absurd is
row_back o h next back (suc n) at End s rest is = absurd is
row_back o h next back (suc n) at (Whole v row) s rest (within, later) =
    one_back next n at s (Whole v End) row rest (back at (Whole v End) (text_of row ++ rest)
    (within, tt))
    (row_back o h next back n (at + length (text_of (Whole v End))) row (joined s (Whole v End))
    rest later)
row_back o zero next back (suc n) at (Parted i row) s rest is = absurd is
row_back o (suc h) next back (suc n) at (Parted i row) s rest (inner, varied, later) =
    one_back next n at s (Parted i End) row rest (back at (Parted i End) (text_of row ++ rest)
    (inner, varied, tt))
    (row_back o (suc h) next back n (at + length (text_of (Parted i End))) row
    (joined s (Parted i End)) rest later)

value_back : (o : Odds) (at : ℕ) (n : ℤ) (rest : List ℕ) → SFits w32 n → IsWithin o (Some n)
    → value_node o at (number_bytes n ++ rest) ≡ Ok (found (Whole (Some n) End) (at + 5) rest)
value_back o at n rest fits within =
    ap (λ (m : ℤ). cond {A = Result Found SnapFault} (is_within o m)
    (Ok (found (Whole (Some m) End) (at + 5) rest)) (Err (BadSnapshot at))) (number_back n fits)
    ∙ ap (λ (w : Bool). cond {A = Result Found SnapFault} w
    (Ok (found (Whole (Some n) End) (at + 5) rest)) (Err (BadSnapshot at)))
    (passes_within o n within)

parted_back : (at k : ℕ) (inner : Nodes) (rest : List ℕ) (r : Result Found SnapFault)
    → r ≡ Ok (found inner k rest) → are_alike inner ≡ false
    → parted_node at r ≡ Ok (found (Parted inner End) k rest)
parted_back at k inner rest r is varied =
    ap (parted_node at) is
    ∙ ap (λ (w : Bool). cond {A = Result Found SnapFault} w (Err (BadSnapshot at))
    (Ok (found (Parted inner End) k rest))) varied

-- the reader of a node does
pub node_back : (o : Odds) → IsSound o → (h : ℕ) → ReadsBack o h (read_node o h)
unfolding read_node text_of joined
node_back o sound zero at End rest is = absurd is
node_back o sound zero at (Whole None End) rest is = refl
node_back o sound zero at (Whole (Some n) End) rest (within, later) =
    value_back o at n rest (within_fits o n sound within) within
node_back o sound zero at (Whole v (Whole w more)) rest (within, later) = absurd later
node_back o sound zero at (Whole v (Parted i more)) rest (within, later) = absurd later
node_back o sound zero at (Parted i more) rest is = absurd is
node_back o sound (suc h) at End rest is = absurd is
node_back o sound (suc h) at (Whole None End) rest is = refl
node_back o sound (suc h) at (Whole (Some n) End) rest (within, later) =
    value_back o at n rest (within_fits o n sound within) within
node_back o sound (suc h) at (Whole v (Whole w more)) rest (within, later) = absurd later
node_back o sound (suc h) at (Whole v (Parted i more)) rest (within, later) = absurd later
node_back o sound (suc h) at (Parted i (Whole w more)) rest (inner, varied, later) = absurd later
node_back o sound (suc h) at (Parted i (Parted j more)) rest (inner, varied, later) = absurd later
node_back o sound (suc h) at (Parted i End) rest (inner, varied, later) =
    parted_back at (at + 1 + length (text_of i)) i rest _
    (ap (λ (t : List ℕ). read_row (read_node o h) 8 (found End (at + 1) (t ++ rest)))
    (append-nil (text_of i))
    ∙ row_back o h (read_node o h) (node_back o sound h) 8 (at + 1) i End rest inner) varied
    ∙ (let long : length (text_of i) ≡ length (text_of i ++ []) =
    ap length (sym (append-nil (text_of i))) in
    ap (λ (k : ℕ). Ok (found (Parted i End) k rest)) (omega (arith, long)))

-- what is read as a node is the text of one, and the other way
pub nodes_exactly : (o : Odds) (h at : ℕ) (nodes : Nodes) (bytes rest : List ℕ) → IsSound o
    → All (λ b. b < 256) bytes
    → (read_node o h at bytes ≡ Ok (found nodes (at + length (text_of nodes)) rest))
    ↔ (AreNodes o h 1 nodes × (bytes ≡ text_of nodes ++ rest))
nodes_exactly o h at nodes bytes rest sound small =
    let to : read_node o h at bytes ≡ Ok (found nodes (at + length (text_of nodes)) rest)
    → AreNodes o h 1 nodes × (bytes ≡ text_of nodes ++ rest) =
    λ is. (let f = node_found o h at bytes (found nodes (at + length (text_of nodes)) rest) small is
    in (f.nodes, f.text)) in
    let from : AreNodes o h 1 nodes × (bytes ≡ text_of nodes ++ rest) → read_node o h at bytes
    ≡ Ok (found nodes (at + length (text_of nodes)) rest) =
    λ (are, text). ap (read_node o h at) text ∙ node_back o sound h at nodes rest are in
    (to, from)

-- the text of the values of a map is read back as nodes of these values
pub map_back : (o : Odds) (values : Values) → IsSound o → (nodes : Nodes)
    → AreMapNodes o values nodes → (at : ℕ) (rest : List ℕ)
    → read_node o 16 at (map_text values ++ rest)
    ≡ Ok (found nodes (at + length (map_text values)) rest)
map_back o values sound nodes m at rest =
    ap (λ (t : List ℕ). read_node o 16 at (t ++ rest)) (sym m.text)
    ∙ node_back o sound 16 at nodes rest m.are
    ∙ ap (λ (t : List ℕ). Ok (found nodes (at + length t) rest)) m.text
