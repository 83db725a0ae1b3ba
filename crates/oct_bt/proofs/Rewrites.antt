-- A file that is written again.
use Rattle.std.proofs.Common.{◌≡◌, ℕ, inl, inr, List, [], ◌++◌, take, drop, Option}
use Rattle.std.proofs.Common.{sym, subst, ◌∙◌, ap}
use Rattle.oct_io.specs.Told.{appended}
use Rattle.oct_io.specs.Taken.{IsCutOff, IsGathered, IsRefused, IsTaken}
use Rattle.oct_io.proofs.Gathering.{gathered_first, gathered_push, refused_first}
use Rattle.oct_values.specs.Classes.{Classes}
use Rattle.oct_bt.specs.Canonical.{canonical_data, canonical_size, node_total}
use Rattle.oct_bt.specs.File.{FileRead, bt_text, file_text, header_text}
use Rattle.oct_bt.specs.NodeData.{IsAccepted}
use Rattle.oct_bt.proofs.Codes.{total_of_flat}

-- accepted node data has as many nodes as its size says
accepted_total : (size : ℕ) (bytes : List ℕ) → IsAccepted size bytes → node_total bytes ≡ size
accepted_total size bytes (inl (none, empty)) = ap node_total empty ∙ sym none
accepted_total size bytes (inr (r, whole, is, count)) = ap node_total is ∙ total_of_flat r 0 whole
    ∙ sym count

-- written again, a file whose node data is canonical is the canonical file of its classes
pub canonical_again : (file : FileRead) (classes : Classes) → IsAccepted file.nodes file.codes
    → file.codes ≡ canonical_data classes → file_text file ≡ bt_text file.res classes
unfolding bt_text canonical_size
canonical_again file classes accepted is =
    ap (λ (n : ℕ). header_text n file.res ++ file.codes)
    (sym (accepted_total file.nodes file.codes accepted))
    ∙ ap (λ (codes : List ℕ). header_text (node_total codes) file.res ++ codes) is

-- the text of a file is its header's and its records'
pub text_parts : (file : FileRead) (header records : List ℕ) (nodes res : ℕ)
    → header ≡ header_text nodes res → nodes ≡ file.nodes
    → res ≡ file.res → records ≡ file.codes → file_text file ≡ header ++ records
text_parts file header records nodes res is all edge same =
    sym (ap (λ (l : List ℕ). l ++ records)
    (is ∙ ap (λ (n : ℕ). header_text n res) all ∙ ap (λ (r : ℕ). header_text file.nodes r) edge)
    ∙ ap (λ (l : List ℕ). header_text file.nodes file.res ++ l) same)

-- two pieces were pushed to a gather that held nothing
pub two_pushed : (text first second g0 g1 g2 : List ℕ) (n m : ℕ) (old w1 w2 : Option (List ℕ))
    → text ≡ first ++ second → g0 ≡ []
    → w1 ≡ appended old (take n (g0 ++ first)) → g1 ≡ drop n (g0 ++ first)
    → w2 ≡ appended w1 (take m (g1 ++ second))
    → g2 ≡ drop m (g1 ++ second) → IsGathered text old w2 g2
two_pushed text first second g0 g1 g2 n m old w1 w2 is none wrote1 held1 wrote2 held2 =
    subst (λ l. IsGathered l old w2 g2) (sym is) (gathered_push first second g1 g2 m old w1 w2
    (gathered_push [] first [] g1 n old old w1 (gathered_first old)
    (wrote1 ∙ ap (λ (l : List ℕ). appended old (take n (l ++ first))) none)
    (held1 ∙ ap (λ (l : List ℕ). drop n (l ++ first)) none)) wrote2 held2)

-- the first of them was cut off
pub one_refused : (text first second none : List ℕ) (old new : Option (List ℕ))
    → text ≡ first ++ second → none ≡ [] → IsRefused first old none new → IsCutOff old new text
one_refused text first second none old new is empty cut =
    subst (IsCutOff old new) (sym is) (refused_first first second old new none cut [] old
    (subst (IsGathered [] old old) (sym empty) (gathered_first old)))

-- the second of them was
pub two_refused : (text first second g0 g1 : List ℕ) (old w1 w2 : Option (List ℕ))
    → text ≡ first ++ second → g0 ≡ []
    → IsTaken first old g0 w1 g1 → IsRefused second w1 g1 w2 → IsCutOff old w2 text
two_refused text first second g0 g1 old w1 w2 is none one cut =
    subst (IsCutOff old w2) (sym is)
    (cut first old (one [] old (subst (IsGathered [] old old) (sym none) (gathered_first old))))
