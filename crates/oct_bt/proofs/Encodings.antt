-- The whole file: its data by what the whole map is, and its header.
use Rattle.std.proofs.Common.{◌≡◌, ℕ, suc, ◌+◌, ◌*◌, ◌^◌, ◌<◌, ◌≤◌, Bool, true, false, Option, Some}
use Rattle.std.proofs.Common.{None, List, [], ◌∷◌, ◌++◌, length, refl, sym, subst, ◌∙◌, ap, arith}
use Rattle.std.proofs.Common.{append_assoc, length-append}
use Rattle.std.specs.Prelude.{codes, is_some, pos}
use Rattle.std.specs.List.{All, flat_map}
use Rattle.std.specs.Fmt.{decimal}
use Rattle.std.proofs.lemmas.Bool.{false≢true}
use Rattle.oct_num.specs.MetresText.{metres_text}
use Rattle.oct_key.specs.Block.{Cube, IsBlock, child_of, root_block}
use Rattle.oct_key.proofs.Blocks.{root_holds, root_in_map, depth_child_of}
use Rattle.oct_key.proofs.Held.{held_in_map}
use Rattle.oct_odds.specs.declared.event.Class.{Class}
use Rattle.oct_odds.specs.declared.event.Class.TheVariants.{Unknown, Free, Occupied}
use Rattle.oct_values.specs.Blocks.{child_numbers}
use Rattle.oct_values.proofs.Eights.{all_eight}
use Rattle.oct_io.specs.Taken.{IsCutOff, IsGathered, IsTaken, IsRefused}
use Rattle.oct_io.proofs.Gathering.{gathered_first, taken_more, refused_first, refused_second}
use Rattle.oct_bt.specs.declared.mixture.Mixture.{Mixture}
use Rattle.oct_bt.specs.declared.mixture.Mixture.TheVariants.{Pure, Mixed}
use Rattle.oct_values.specs.Classes.{Classes, class_of_block}
use Rattle.oct_bt.specs.Records.{class_code, code_bytes}
use Rattle.oct_bt.specs.Canonical.{child_codes, data_of_child, data_below, is_unknown}
use Rattle.oct_bt.specs.Canonical.{canonical_data, canonical_size, known_codes, node_total}
use Rattle.oct_bt.specs.File.{text_of_lines, header_lines, header_text, bt_text}
use Rattle.oct_bt.specs.Mixtures.{IsMixtureOf, leaves_text, IsCounted}
use Rattle.oct_bt.proofs.Alike.{class_of_all, class_of_each}
use Rattle.oct_bt.proofs.Uniform.{one_class_down, repeated}
use Rattle.oct_bt.proofs.Canonicals.{flat_map-same}
use Rattle.oct_bt.proofs.Injective.{unknown_exactly, data_of_known, data_of_unknown}
use Rattle.oct_bt.proofs.Mixtures.{IsAbove, class_by_mixture}
use Rattle.oct_bt.proofs.Counts.{to_tally, tally_small}

-- ---- the data

codes_alike : (c : Classes) (b : Cube) (x : Class) (list : List ℕ)
    → All (λ i. class_of_block c (child_of b i) ≡ Some x) list
    → child_codes c b list ≡ repeated (class_code x) (length list)
unfolding child_codes repeated
codes_alike c b x [] h = refl
codes_alike c b x (i ∷ more) h =
    let here : class_of_block c (child_of b i) ≡ Some x = h 0 i (omega arith) in
    let rest : child_codes c b more ≡ repeated (class_code x) (length more) =
    codes_alike c b x more (λ k d l. h (suc k) d (omega arith)) in
    rw (here, rest) refl

-- the data of a block of one class: the codes of eight leaves
data_alike : (c : Classes) (h : ℕ) (b : Cube) (x : Class) → IsBlock b → b.depth < 16
    → class_of_block c b ≡ Some x
    → data_below c (suc h) b ≡ code_bytes (repeated (class_code x) 8)
unfolding data_below
data_alike c h b x ok low is =
    let each : All (λ i. class_of_block c (child_of b i) ≡ Some x) child_numbers =
    all_eight (λ i. class_of_block c (child_of b i) ≡ Some x)
    (λ i li. one_class_down c b i x ok low li is) in
    let piece : ℕ → List ℕ = λ i. data_of_child (class_of_block c (child_of b i))
    (data_below c h (child_of b i)) in
    let pieces : flat_map piece child_numbers ≡ flat_map (λ i. []) child_numbers =
    flat_map-same piece (λ i. []) child_numbers (all_eight (λ i. piece i ≡ [])
    (λ i li. ap (λ o. data_of_child o (data_below c h (child_of b i)))
    (one_class_down c b i x ok low li is))) in
    rw (codes_alike c b x child_numbers each, pieces) refl

-- a world that isn't unknown
known_root : (c : Classes) → (class_of_block c root_block ≡ Some Unknown → ⊥) → canonical_data c
    ≡ data_below c 16 root_block
known_root c other = by_test (is_unknown c) refl
  where
    by_test : (unknown : Bool) → is_unknown c ≡ unknown → canonical_data c
        ≡ data_below c 16 root_block
    by_test true e = absurd (other (class_of_all c root_block Unknown root_in_map
        (λ k held. (unknown_exactly c).0 e k (held_in_map root_block k root_in_map held))))
    by_test false e = data_of_known c e

class_number : Option Class → ℕ
class_number None = 0
class_number (Some x) = suc (class_code x)

-- the data of a map of this mixture
abbrev pub root_text : Classes → Mixture → List ℕ
root_text c (Pure x) = leaves_text x
root_text c (Mixed x way) = data_below c 16 root_block

pub data_of_root : (c : Classes) (m : Mixture) → IsMixtureOf c 16 root_block m → canonical_data c
    ≡ root_text c m
unfolding repeated class_number
data_of_root c (Mixed x way) is =
    known_root c
    (λ e. absurd
    (false≢true (ap is_some
    (sym (class_by_mixture c 16 root_block (Mixed x way) refl root_in_map is) ∙ e))))
data_of_root c (Pure Unknown) is = data_of_unknown c
    ((unknown_exactly c).1
    (λ k ok. class_of_each c root_block Unknown k root_in_map is (root_holds k ok)))
data_of_root c (Pure Free) is =
    known_root c
    (λ e. (let n : class_number (Some Free) ≡ class_number (Some Unknown) =
    ap class_number (sym is ∙ e) in absurd (omega arith)))
    ∙ data_alike c 15 root_block Free root_in_map (omega arith) is
data_of_root c (Pure Occupied) is =
    known_root c
    (λ e. (let n : class_number (Some Occupied) ≡ class_number (Some Unknown) =
    ap class_number (sym is ∙ e) in absurd (omega arith)))
    ∙ data_alike c 15 root_block Occupied root_in_map (omega arith) is

-- ---- its counts

abbrev pub IsDataCount : Classes → ℕ → ℕ → Type 0
IsDataCount c nodes number = IsCounted (canonical_data c) nodes number × (nodes < 2 ^ 50)
    × (number < 2 ^ 51)

pub counted_leaves : (c : Classes) (x : Class) (nodes number : ℕ)
    → IsMixtureOf c 16 root_block (Pure x) → IsCounted (leaves_text x) nodes number
    → (nodes ≤ 8) × (number ≤ 1) → IsDataCount c nodes number
counted_leaves c x nodes number is counted (few, one) = (
  subst (λ t. IsCounted t nodes number) (sym (data_of_root c (Pure x) is)) counted,
  omega (arith, few),
  omega (arith, one),
)

root_above : IsAbove 0 root_block
root_above = record {
  ok = root_in_map;
  low = omega arith;
  depth = refl;
  next = refl;
  child = λ i. (let deep = depth_child_of root_block i in omega (arith, deep));
}

pub counted_parted : (c : Classes) (nodes number : ℕ) → class_of_block c root_block ≡ None
    → IsCounted (data_below c 16 root_block) nodes number → IsDataCount c nodes number
counted_parted c nodes number none counted =
    let t = to_tally c 0 root_block nodes number root_above counted in
    let few = tally_small c 0 root_block root_above in
    let k = t.known in
    let r = t.records in
    let a = few.0 in
    let e = few.1 in
    let whole : canonical_data c ≡ data_below c 16 root_block =
    known_root c (λ is. absurd (false≢true (ap is_some (sym none ∙ is)))) in (
      subst (λ t. IsCounted t nodes number) (sym whole) counted,
      omega (arith, k, a),
      omega (arith, r, e),
    )

-- the number of nodes
pub nodes_none : (c : Classes) (nodes : ℕ) → IsCounted (canonical_data c) nodes 0
    → 0 ≡ canonical_size c
unfolding canonical_size
nodes_none c nodes s = by (canonical_data c) s.records
  where
    by : (bytes : List ℕ) → length bytes ≡ 0 → 0 ≡ node_total bytes
    by [] none = refl
    by (x ∷ bytes) none = absurd (omega (arith, none))

pub nodes_some : (c : Classes) (nodes number : ℕ) → IsCounted (canonical_data c) nodes number
    → (number ≡ 0 → ⊥) → 1 + nodes ≡ canonical_size c
unfolding canonical_size
nodes_some c nodes number s some = by (canonical_data c) s.records s.known
  where
    by : (bytes : List ℕ) → length bytes ≡ 2 * number → known_codes bytes ≡ nodes
        → 1 + nodes ≡ node_total bytes
    by [] long known = absurd (some (omega (arith, long)))
    by (x ∷ bytes) long known = ap (λ (n : ℕ). 1 + n) (sym known)

-- ---- the file

pub file_length : (res size number nodes header : ℕ) (c : Classes)
    → IsCounted (canonical_data c) nodes number
    → size ≡ canonical_size c → header ≡ length (header_text size res) → header + 2 * number
    ≡ length (bt_text res c)
unfolding bt_text
file_length res size number nodes header c s same long =
    let whole = length-append (header_text (canonical_size c) res) (canonical_data c) in
    let data_long = s.records in
    let head : header ≡ length (header_text (canonical_size c) res) =
    long ∙ ap (λ (n : ℕ). length (header_text n res)) same in
    omega (arith, whole, data_long, head)

-- a gather that holds nothing
holds_nothing : (old : Option (List ℕ)) (held : List ℕ) → held ≡ [] → IsGathered [] old old held
holds_nothing old held none = subst (IsGathered [] old old) (sym none) (gathered_first old)

pub sent_file : (res : ℕ) (c : Classes) (old out new : Option (List ℕ))
    (none held left header : List ℕ) → none ≡ []
    → header ≡ header_text (canonical_size c) res → IsTaken header old none out held
    → IsTaken (canonical_data c) out held new left
    → IsGathered (bt_text res c) old new left
unfolding bt_text
sent_file res c old out new none held left header empty is before after =
    subst (λ t. IsGathered t old new left) (ap (λ t. t ++ canonical_data c) is)
    (taken_more header (canonical_data c) old out new none held left before after [] old
    (holds_nothing old none empty))

pub cut_header : (res : ℕ) (c : Classes) (old new : Option (List ℕ)) (none header : List ℕ)
    → none ≡ []
    → header ≡ header_text (canonical_size c) res → IsRefused header old none new
    → IsCutOff old new (bt_text res c)
unfolding bt_text
cut_header res c old new none header empty is cut =
    subst (IsCutOff old new) (ap (λ t. t ++ canonical_data c) is)
    (refused_first header (canonical_data c) old new none cut [] old (holds_nothing old none empty))

pub cut_data : (res : ℕ) (c : Classes) (old out new : Option (List ℕ)) (none held header : List ℕ)
    → none ≡ []
    → header ≡ header_text (canonical_size c) res → IsTaken header old none out held
    → IsRefused (canonical_data c) out held new
    → IsCutOff old new (bt_text res c)
unfolding bt_text
cut_data res c old out new none held header empty is before cut =
    subst (IsCutOff old new) (ap (λ t. t ++ canonical_data c) is)
    (refused_second header (canonical_data c) old out new none held before cut [] old
    (holds_nothing old none empty))

-- the lines before the number of nodes
abbrev first_lines : List ℕ
first_lines =
    codes
    "# Octomap OcTree binary file\n# (feel free to add / change comments, but leave the first line as it is!)\n#\nid OcTree\nsize "

-- the pieces of the header
pub header_pieces : (nodes res : ℕ) (first second last : List ℕ) (size metres : List ℕ)
    → first ≡ first_lines → second ≡ codes "\nres " → last ≡ codes "\ndata\n"
    → size ≡ decimal nodes → metres ≡ metres_text (pos res)
    → (((first ++ size) ++ second) ++ metres) ++ last ≡ header_text nodes res
unfolding header_text text_of_lines
header_pieces nodes res first second last size metres a b c d e =
    rw (a, b, c, d, e) (pieces (decimal nodes) (metres_text (pos res)))
  where
    pieces : (size metres : List ℕ)
        → (((first_lines ++ size) ++ codes "\nres ") ++ metres) ++ codes "\ndata\n"
        ≡ text_of_lines (header_lines size metres)
    pieces size metres =
        append_assoc ((first_lines ++ size) ++ codes "\nres ") metres (codes "\ndata\n")
        ∙ append_assoc (first_lines ++ size) (codes "\nres ") (metres ++ codes "\ndata\n")
        ∙ append_assoc first_lines size (codes "\nres " ++ (metres ++ codes "\ndata\n"))

-- the data that is written of a map of this mixture
pub data_of_mixture : (c : Classes) (m n : Mixture) → IsMixtureOf c 16 root_block m → m ≡ n
    → canonical_data c ≡ root_text c n
data_of_mixture c m n is same = data_of_root c n (subst (IsMixtureOf c 16 root_block) same is)

-- piece by piece
pub header_built : (nodes res : ℕ)
    (none first sized before_metres measured last p q r size metres : List ℕ) → none ≡ []
    → first ≡ none ++ p → sized ≡ first ++ size → before_metres ≡ sized ++ q
    → measured ≡ before_metres ++ metres → last ≡ measured ++ r
    → ((((p ++ size) ++ q) ++ metres) ++ r ≡ header_text nodes res) → last ≡ header_text nodes res
header_built nodes res none first sized before_metres measured last p q r size metres a b c d e f
    g =
    f ∙ ap (λ t. t ++ r)
    (e ∙ ap (λ t. t ++ metres)
    (d ∙ ap (λ t. t ++ q) (c ∙ ap (λ t. t ++ size) (b ∙ ap (λ t. t ++ p) a)))) ∙ g
