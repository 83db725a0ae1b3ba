-- Node data is canonical exactly where no record but the root's has eight equal leaves, and the
-- root's not eight unknown ones.
use Rattle.std.proofs.Common.{◌≡◌, ℕ, zero, suc, ◌+◌, ◌*◌, ◌/◌, ◌%◌, ◌<◌, ◌≤◌, ◌↔◌, ◌⊎◌, inl, inr}
use Rattle.std.proofs.Common.{Bool, true, false, Option, Some, None, List, [], ◌∷◌, ◌++◌, length}
use Rattle.std.proofs.Common.{drop, get_or, refl, sym, ◌∙◌, ap, arith, append_assoc, append-nil}
use Rattle.std.proofs.Common.{eq-eqb, eqb-true}
use Rattle.std.specs.Prelude.{not, nat_eq, ◌&&◌, ◌||◌}
use Rattle.std.specs.List.{All}
use Rattle.std.proofs.lemmas.Bool.{false≢true}
use Rattle.std.proofs.lemmas.Bool.Decides.{eqb_tells}
use Rattle.oct_key.specs.Voxel.{Voxel, IsInMap}
use Rattle.oct_key.specs.Block.{Cube, IsBlock, child_of, root_block}
use Rattle.oct_key.proofs.Blocks.{root_holds, depth_child_of}
use Rattle.oct_odds.specs.declared.event.Class.{Class}
use Rattle.oct_odds.specs.declared.event.Class.TheVariants.{Unknown, Free, Occupied}
use Rattle.oct_values.specs.Blocks.{child_numbers}
use Rattle.oct_values.proofs.Eights.{number_of_eight}
use Rattle.std.proofs.lemmas.List.Elements.{All-cons, All-contains}
use Rattle.oct_key.proofs.Held.{held_in_map}
use Rattle.oct_key.proofs.Blocks.{root_in_map}
use Rattle.oct_values.specs.Classes.{Classes, class_of_block}
use Rattle.oct_bt.specs.Records.{Entries, End, Plain, Record, AreEntries, IsRecord, class_code}
use Rattle.oct_bt.specs.Records.{codes_of, code_bytes, bodies_of, flat, class_by}
use Rattle.oct_bt.specs.Canonical.{block_code, child_codes, is_unknown, canonical_data}
use Rattle.oct_bt.proofs.Numbering.{numbers_from}
use Rattle.oct_bt.specs.NodeData.{IsDataOf}
use Rattle.oct_bt.specs.Plain.{is_plain, has_plain, is_canonical_data}
use Rattle.oct_bt.proofs.Texts.{class_code_below, same_record}
use Rattle.oct_bt.proofs.Alike.{class_of_all, class_of_each, class_of_voxel}
use Rattle.oct_bt.proofs.Canonicals.{entries_of, entry_before, canonical_record, canonical_from}
use Rattle.oct_bt.proofs.Canonicals.{all_children, child_height, child_is_block, Gives}
use Rattle.oct_bt.proofs.Canonicals.{gives_children, codes_are, canonical_is_record, not_none}
use Rattle.oct_bt.proofs.Injective.{root_record, root_data, unknown_exactly, data_of_unknown}
use Rattle.oct_bt.proofs.Least.{behind_plain, behind_record, plain_gives, record_gives}
use Rattle.oct_bt.proofs.Uniform.{one_class_down, one_class_up, repeated, block_code_below}

-- whether some record among entries, or in one of them, has eight equal leaves
unfoldable pub plain_in : Entries → Bool
plain_in End = false
plain_in (Plain c later) = plain_in later
plain_in (Record r later) = is_plain (codes_of r) || (plain_in r || plain_in later)

or_assoc : (a b c : Bool) → (a || (b || c)) ≡ ((a || b) || c)
or_assoc true b c = refl
or_assoc false b c = refl

or_false : (a : Bool) → (a || false) ≡ a
or_false true = refl
or_false false = refl

or_second : (a b : Bool) → b ≡ true → (a || b) ≡ true
or_second true b h = refl
or_second false b h = h

or_neither : (a b : Bool) → (a || b) ≡ false → (a ≡ false) × (b ≡ false)
or_neither true b h = absurd (false≢true (sym h))
or_neither false b h = (refl, h)

-- the text of a record in front of others
plain_of_two : (codes : ℕ) (rest : List ℕ) → has_plain (code_bytes codes ++ rest)
    ≡ (is_plain codes || has_plain rest)
unfolding has_plain
plain_of_two codes rest =
    let whole : codes % 256 + 256 * (codes / 256) ≡ codes = omega arith in
    ap (λ (n : ℕ). is_plain n || has_plain rest) whole

-- the text has such a record where the entries have one
plain_of_bodies : (es : Entries) (rest : List ℕ) → has_plain (bodies_of es ++ rest)
    ≡ (plain_in es || has_plain rest)
unfolding bodies_of plain_in
plain_of_bodies End rest = refl
plain_of_bodies (Plain c es) rest = plain_of_bodies es rest
plain_of_bodies (Record r es) rest =
    ap has_plain (append_assoc (code_bytes (codes_of r) ++ bodies_of r) (bodies_of es) rest
    ∙ append_assoc (code_bytes (codes_of r)) (bodies_of r) (bodies_of es ++ rest))
    ∙ plain_of_two (codes_of r) (bodies_of r ++ (bodies_of es ++ rest))
    ∙ ap (λ t. is_plain (codes_of r) || t)
    (plain_of_bodies r (bodies_of es ++ rest) ∙ ap (λ t. plain_in r || t)
    (plain_of_bodies es rest)
    ∙ or_assoc (plain_in r) (plain_in es) (has_plain rest))
    ∙ or_assoc (is_plain (codes_of r)) (plain_in r || plain_in es) (has_plain rest)

-- eight codes of one class are plain
plain_repeated : (x : Class) → is_plain (repeated (class_code x) 8) ≡ true
unfolding repeated
plain_repeated Unknown = refl
plain_repeated Free = refl
plain_repeated Occupied = refl

-- entries of a block of one class are leaves of it, or hold a record of eight equal leaves
alike_entries : (es : Entries) (classes : Classes) (x : Class) (h d m n : ℕ) (b : Cube)
    → b.depth ≡ d → d + suc h ≡ 16 → IsBlock b → m + n ≤ 8 → AreEntries d n es
    → Gives classes b d m n es → class_of_block classes b ≡ Some x → (plain_in es ≡ true)
    ⊎ (codes_of es ≡ repeated (class_code x) n)
unfolding plain_in codes_of repeated
alike_entries End classes x h d m zero b e all ok few are gives alike = inr refl
alike_entries End classes x h d m (suc n) b e all ok few are gives alike = absurd are
alike_entries (Plain c es) classes x h d m zero b e all ok few are gives alike = absurd are
alike_entries (Plain c es) classes x h d m (suc n) b e all ok few are gives alike =
    let child : class_of_block classes (child_of b m) ≡ Some x =
    one_class_down classes b m x ok (omega arith) (omega arith) alike in
    let same : class_of_block classes (child_of b m) ≡ Some c =
    class_of_all classes (child_of b m) c (child_is_block b d h m e all ok)
    (plain_gives classes b d m n c es gives) in
    let class : class_code c ≡ class_code x = ap code_or (sym same ∙ child) in
    by_rest class
    (alike_entries es classes x h d (suc m) n b e all ok (omega arith) are
    (behind_plain classes b d m n c es gives) alike)
  where
    code_or : Option Class → ℕ
    code_or None = 3
    code_or (Some c) = class_code c

    by_rest : class_code c ≡ class_code x → (plain_in es ≡ true)
        ⊎ (codes_of es ≡ repeated (class_code x) n)
        → (plain_in es ≡ true)
        ⊎ (class_code c + 4 * codes_of es ≡ class_code x + 4 * repeated (class_code x) n)
    by_rest class (inl plain) = inl plain
    by_rest class (inr codes) = inr (omega (arith, class, codes))
alike_entries (Record r es) classes x h d m zero b e all ok few are gives alike = absurd are
alike_entries (Record r es) classes x zero d m (suc n) b e all ok few (low, inner, are) gives
    alike = absurd (omega arith)
alike_entries (Record r es) classes x (suc h) d m (suc n) b e all ok few (low, inner, are) gives
    alike =
    inl (by_inner (alike_entries r classes x h (suc d) 0 8 (child_of b m)
    (child_height b d (suc h) m e all).0 (child_height b d (suc h) m e all).1
    (child_is_block b d (suc h) m e all ok) (omega arith) inner
    (gives_children classes (child_of b m)
    (suc d) r (child_height b d (suc h) m e all).0 (omega arith)
    (record_gives classes b d m n r es gives))
    (one_class_down classes b m x ok (omega arith) (omega arith) alike)))
  where
    by_inner : (plain_in r ≡ true) ⊎ (codes_of r ≡ repeated (class_code x) 8)
        → (is_plain (codes_of r) || (plain_in r || plain_in es)) ≡ true
    by_inner (inl plain) = or_second (is_plain (codes_of r)) (plain_in r || plain_in es)
        (ap (λ t. t || plain_in es) plain)
    by_inner (inr codes) = ap (λ t. t || (plain_in r || plain_in es))
        (ap is_plain codes ∙ plain_repeated x)

-- entries without such a record are the canonical ones
no_plain_from : (es : Entries) (classes : Classes) (h d m n : ℕ) (b : Cube) → b.depth ≡ d
    → d + suc h ≡ 16 → IsBlock b → AreEntries d n es
    → Gives classes b d m n es → plain_in es ≡ false → es ≡ canonical_from classes h b m n
unfolding entries_of numbers_from plain_in
no_plain_from End classes h d m zero b e all ok are gives none = refl
no_plain_from End classes h d m (suc n) b e all ok are gives none = absurd are
no_plain_from (Plain c es) classes h d m zero b e all ok are gives none = absurd are
no_plain_from (Plain c es) classes h d m (suc n) b e all ok are gives none =
    let same : class_of_block classes (child_of b m) ≡ Some c =
    class_of_all classes (child_of b m) c (child_is_block b d h m e all ok)
    (plain_gives classes b d m n c es gives) in
    rw same (ap (Plain c)
    (no_plain_from es classes h d (suc m) n b e all ok are
    (behind_plain classes b d m n c es gives) none))
no_plain_from (Record r es) classes h d m zero b e all ok are gives none = absurd are
no_plain_from (Record r es) classes zero d m (suc n) b e all ok (low, inner, are) gives none =
    absurd (omega arith)
no_plain_from (Record r es) classes (suc h) d m (suc n) b e all ok (low, inner, are) gives none =
    let (here, later) = or_neither (is_plain (codes_of r)) (plain_in r || plain_in es) none in
    let (inside, others) = or_neither (plain_in r) (plain_in es) later in
    let child_gives = gives_children classes (child_of b m)
    (suc d) r (child_height b d (suc h) m e all).0 (omega arith)
    (record_gives classes b d m n r es gives) in
    by_class here inside (class_of_block classes (child_of b m)) refl
    (λ x is. alike_entries r classes x h (suc d) 0 8 (child_of b m)
    (child_height b d (suc h) m e all).0 (child_height b d (suc h) m e all).1
    (child_is_block b d (suc h) m e all ok) (omega arith) inner child_gives is)
    (no_plain_from es classes (suc h) d (suc m) n b e all ok are
    (behind_record classes b d m n r es gives) others)
    (no_plain_from r classes h (suc d) 0 8 (child_of b m)
    (child_height b d (suc h) m e all).0 (child_height b d (suc h) m e all).1
    (child_is_block b d (suc h) m e all ok) inner child_gives inside
    ∙ sym (all_children classes h (child_of b m)))
  where
    by_alike : is_plain (codes_of r) ≡ false → plain_in r ≡ false → (x : Class)
        → (plain_in r ≡ true) ⊎ (codes_of r ≡ repeated (class_code x) 8) → ⊥
    by_alike here inside x (inl plain) = false≢true (sym inside ∙ plain)
    by_alike here inside x (inr codes) =
        false≢true (sym here ∙ ap is_plain codes ∙ plain_repeated x)

    by_class : is_plain (codes_of r) ≡ false → plain_in r ≡ false → (o : Option Class)
        → class_of_block classes (child_of b m) ≡ o
        → ((x : Class) → class_of_block classes (child_of b m) ≡ Some x → (plain_in r ≡ true)
        ⊎ (codes_of r ≡ repeated (class_code x) 8))
        → es ≡ canonical_from classes (suc h) b (suc m) n → r ≡ canonical_record classes (suc h)
        (child_of b m)
        → Record r es ≡ entry_before o (canonical_record classes (suc h) (child_of b m))
        (canonical_from classes (suc h) b (suc m) n)
    by_class here inside None is alike rest same = rw (same, rest) refl
    by_class here inside (Some x) is alike rest same = absurd (by_alike here inside x (alike x is))

-- the codes of children that are repeated are those of blocks of one class
codes_repeated : (classes : Classes) (b : Cube) (x : Class) (list : List ℕ)
    → child_codes classes b list ≡ repeated (class_code x) (length list)
    → All (λ i. class_of_block classes (child_of b i) ≡ Some x) list
unfolding child_codes repeated
codes_repeated classes b x [] h = λ k d l. absurd (omega arith)
codes_repeated classes b x (i ∷ more) h =
    let small = block_code_below (class_of_block classes (child_of b i)) in
    let few = class_code_below x in
    let here : block_code (class_of_block classes (child_of b i)) ≡ class_code x =
    omega (arith, h, small, few) in
    let rest : child_codes classes b more ≡ repeated (class_code x) (length more) =
    omega (arith, h, small, few) in
    All-cons (λ i. class_of_block classes (child_of b i) ≡ Some x) i more
    (class_of_code (class_of_block classes (child_of b i)) x here)
    (codes_repeated classes b x more rest)
  where
    class_of_code : (o : Option Class) (x : Class) → block_code o ≡ class_code x → o ≡ Some x
    class_of_code None x h = (let few = class_code_below x in absurd (omega arith))
    class_of_code (Some Unknown) Unknown h = refl
    class_of_code (Some Unknown) Free h = absurd (omega arith)
    class_of_code (Some Unknown) Occupied h = absurd (omega arith)
    class_of_code (Some Free) Unknown h = absurd (omega arith)
    class_of_code (Some Free) Free h = refl
    class_of_code (Some Free) Occupied h = absurd (omega arith)
    class_of_code (Some Occupied) Unknown h = absurd (omega arith)
    class_of_code (Some Occupied) Free h = absurd (omega arith)
    class_of_code (Some Occupied) Occupied h = refl

-- which class plain codes are of
pub plain_class : (codes : ℕ) → is_plain codes ≡ true
    → (x : Class) × (codes ≡ repeated (class_code x) 8)
unfolding repeated
plain_class codes h = by_test (nat_eq codes 0) (nat_eq codes 21845)
    (nat_eq codes 43690) refl refl refl h
  where
    by_test : (p q r : Bool) → nat_eq codes 0 ≡ p → nat_eq codes 21845 ≡ q → nat_eq codes 43690 ≡ r
        → ((p || q) || r) ≡ true → (x : Class) × (codes ≡ repeated (class_code x) 8)
    by_test true q r is_p is_q is_r h = (Unknown, eqb-true codes 0 is_p)
    by_test false true r is_p is_q is_r h = (Free, eqb-true codes 21845 is_q)
    by_test false false true is_p is_q is_r h = (Occupied, eqb-true codes 43690 is_r)
    by_test false false false is_p is_q is_r h = absurd (false≢true h)

-- the canonical record of a block with plain codes is of a block of one class
plain_is_alike : (classes : Classes) (h d : ℕ) (b : Cube) (x : Class) → b.depth ≡ d → d + suc h ≡ 16
    → IsBlock b
    → codes_of (canonical_record classes (suc h) b) ≡ repeated (class_code x) 8
    → class_of_block classes b ≡ Some x
unfolding canonical_record
plain_is_alike classes h d b x e all ok codes =
    let each : All (λ i. class_of_block classes (child_of b i) ≡ Some x) child_numbers =
    codes_repeated classes b x child_numbers
    (codes_are classes (λ i. canonical_record classes h (child_of b i)) b child_numbers ∙ codes)
    in
    one_class_up classes b x ok (omega arith)
    (λ i li. All-contains (λ i. class_of_block classes (child_of b i) ≡ Some x) child_numbers i
    each (number_of_eight i li))

-- entries whose records aren't plain, nor what is in them
no_plain_entries : (class : ℕ → Option Class) (record_of : ℕ → Entries) (m n : ℕ)
    → ((i : ℕ) → i < m + n → class i ≡ None → (is_plain (codes_of (record_of i)) ≡ false)
    × (plain_in (record_of i) ≡ false))
    → plain_in (entries_of class record_of (numbers_from m n)) ≡ false
unfolding entries_of numbers_from plain_in
no_plain_entries class record_of m zero h = refl
no_plain_entries class record_of m (suc n) h =
    by_class (class m) refl
    (no_plain_entries class record_of (suc m) n (λ i l none. h i (omega arith) none))
  where
    rest : Entries
    rest = entries_of class record_of (numbers_from (suc m) n)

    by_class : (o : Option Class) → class m ≡ o → plain_in rest ≡ false
        → plain_in (entry_before o (record_of m) rest) ≡ false
    by_class (Some c) is later = later
    by_class None is later = (let here = h m (omega arith) is in
        ap (λ t. t || (plain_in (record_of m) || plain_in rest)) here.0
        ∙ ap (λ t. t || plain_in rest) here.1 ∙ later)

-- the canonical record of a block has none
canonical_no_plain : (classes : Classes) (h d : ℕ) (b : Cube) → b.depth ≡ d → d + suc h ≡ 16
    → IsBlock b → plain_in (canonical_record classes (suc h) b) ≡ false
canonical_no_plain classes zero d b e all ok =
    ap plain_in (all_children classes zero b)
    ∙ no_plain_entries (λ i. class_of_block classes (child_of b i))
    (λ i. canonical_record classes zero (child_of b i)) 0 8
    (λ i l none. absurd (not_none (class_of_block classes (child_of b i)) _
    (class_of_voxel classes (child_of b i) (let deep = depth_child_of b i in omega arith)
    (child_is_block b d zero i e all ok)) none))
canonical_no_plain classes (suc h) d b e all ok =
    ap plain_in (all_children classes (suc h) b)
    ∙ no_plain_entries (λ i. class_of_block classes (child_of b i))
    (λ i. canonical_record classes (suc h) (child_of b i)) 0 8
    (λ i l none. (
      varied i none (is_plain (codes_of (canonical_record classes (suc h) (child_of b i)))) refl,
      canonical_no_plain classes h (suc d) (child_of b i)
          (child_height b d (suc h) i e all).0 (child_height b d (suc h) i e all).1
          (child_is_block b d (suc h) i e all ok),
    ))
  where
    varied : (i : ℕ) → class_of_block classes (child_of b i) ≡ None → (t : Bool)
        → is_plain (codes_of (canonical_record classes (suc h) (child_of b i))) ≡ t
        → is_plain (codes_of (canonical_record classes (suc h) (child_of b i))) ≡ false
    varied i none false is = is
    varied i none true is =
        (let (x, codes) =
        plain_class (codes_of (canonical_record classes (suc h) (child_of b i))) is in
        absurd (not_none (class_of_block classes (child_of b i)) x
        (plain_is_alike classes h (suc d)
        (child_of b i) x (child_height b d (suc h) i e all).0
        (child_height b d (suc h) i e all).1 (child_is_block b d (suc h) i e all ok) codes)
        none))

-- what the test looks at
test_is : (r : Entries) → is_canonical_data (flat r)
    ≡ (not (nat_eq (codes_of r) 0) && not (plain_in r))
unfolding is_canonical_data has_plain
test_is r =
    let whole : codes_of r % 256 + 256 * (codes_of r / 256) ≡ codes_of r = omega arith in
    let plain : has_plain (bodies_of r) ≡ plain_in r = ap has_plain (sym (append-nil (bodies_of r)))
    ∙ plain_of_bodies r [] ∙ none (plain_in r) in
    ap (λ (n : ℕ). not (nat_eq n 0) && not (has_plain (bodies_of r))) whole
    ∙ ap (λ t. not (nat_eq (codes_of r) 0) && not t) plain
  where
    none : (t : Bool) → (t || has_plain []) ≡ t
    none t = nothing ∙ or_false t
      where
        nothing : (t || has_plain []) ≡ (t || false)
        nothing = refl

unknown_root : (c : Classes) → class_of_block c root_block ≡ Some Unknown → is_unknown c ≡ true
unknown_root c is =
    (unknown_exactly c).1
    (λ k ok. class_of_each c root_block Unknown k root_in_map is (root_holds k ok))

root_unknown : (c : Classes) → is_unknown c ≡ true → class_of_block c root_block ≡ Some Unknown
root_unknown c is =
    class_of_all c root_block Unknown root_in_map
    (λ k held. (unknown_exactly c).0 is k (held_in_map root_block k root_in_map held))

-- the test tells the canonical data
pub canonical_exactly : (c : Classes) (r : Entries) → IsRecord 0 r
    → ((k : Voxel) → IsInMap k → class_by 0 r k ≡ c k)
    → is_canonical_data (flat r) ≡ true ↔ (flat r ≡ canonical_data c)
unfolding root_record repeated
canonical_exactly c r is gives = (λ h. to (is_unknown c) refl (both (sym (test_is r) ∙ h)), from)
  where
    both : (not (nat_eq (codes_of r) 0) && not (plain_in r)) ≡ true
        → (nat_eq (codes_of r) 0 ≡ false) × (plain_in r ≡ false)
    both h = by_tests (nat_eq (codes_of r) 0) (plain_in r) h
      where
        by_tests : (p q : Bool) → (not p && not q) ≡ true → (p ≡ false) × (q ≡ false)
        by_tests true q h = absurd (false≢true h)
        by_tests false true h = absurd (false≢true h)
        by_tests false false h = (refl, refl)

    children : Gives c root_block 0 0 8 r
    children = gives_children c root_block 0 r refl (omega arith)
        (λ k held. gives k (held_in_map root_block k root_in_map held))

    to : (unknown : Bool) → is_unknown c ≡ unknown → (nat_eq (codes_of r) 0 ≡ false)
        × (plain_in r ≡ false) → flat r ≡ canonical_data c
    to true e (some, none) =
        absurd (by_alike
        (alike_entries r c Unknown 15 0 0 8 root_block refl (omega arith) root_in_map (omega arith)
        is children (root_unknown c e)))
      where
        by_alike : (plain_in r ≡ true) ⊎ (codes_of r ≡ repeated (class_code Unknown) 8) → ⊥
        by_alike (inl plain) = false≢true (sym none ∙ plain)
        by_alike (inr codes) = false≢true (sym some ∙ eq-eqb (codes_of r) 0 codes)
    to false e (some, none) =
        ap (λ q. flat q)
        (no_plain_from r c 15 0 0 8 root_block refl (omega arith) root_in_map is children none
        ∙ sym (all_children c 15 root_block)) ∙ sym (root_data c e)

    from : flat r ≡ canonical_data c → is_canonical_data (flat r) ≡ true
    from same = by_unknown (is_unknown c) refl
      where
        by_unknown : (unknown : Bool) → is_unknown c ≡ unknown → is_canonical_data (flat r) ≡ true
        by_unknown true e =
            absurd (let l : length (flat r) ≡ 0 = ap length (same ∙ data_of_unknown c e) in
            omega arith)
        by_unknown false e = (
            let record_is : r ≡ canonical_record c 16 root_block =
            (same_record r (root_record c) 0 [] [] is
            (canonical_is_record c 15 0 root_block refl (omega arith) root_in_map)
            (ap (λ t. t ++ []) (same ∙ root_data c e))).0 in
            let none : plain_in r ≡ false = ap plain_in record_is
            ∙ canonical_no_plain c 15 0 root_block refl (omega arith) root_in_map in
            let some : nat_eq (codes_of r) 0 ≡ false =
            by_code (nat_eq (codes_of r) 0) refl e record_is in
            test_is r ∙ ap (λ t. not t && not (plain_in r)) some ∙ ap not none)
          where
            by_code : (t : Bool) → nat_eq (codes_of r) 0 ≡ t → is_unknown c ≡ false
                → r ≡ canonical_record c 16 root_block → nat_eq (codes_of r) 0 ≡ false
            by_code false is e record_is = is
            by_code true is e record_is = absurd (false≢true (sym e ∙ unknown_root c
                (plain_is_alike c 15 0 root_block Unknown refl (omega arith) root_in_map
                (sym (ap codes_of record_is) ∙ eqb-true (codes_of r) 0 is))))

-- the test on data that stands for classes
pub canonical_data_exactly : (c : Classes) (bytes : List ℕ) → IsDataOf c bytes
    → is_canonical_data bytes ≡ true ↔ (bytes ≡ canonical_data c)
unfolding is_canonical_data
canonical_data_exactly c bytes (inl (empty, all)) = (
  λ h. empty ∙ sym (data_of_unknown c ((unknown_exactly c).1 all)),
  λ h. ap is_canonical_data empty,
)
canonical_data_exactly c bytes (inr (r, is, text, gives)) =
    let exact = canonical_exactly c r is gives in (
      λ h. text ∙ exact.0 (sym (ap is_canonical_data text) ∙ h),
      λ h. ap is_canonical_data text
          ∙ exact.1 (sym text ∙ h),
    )

-- pair by pair
pub pairs_end : (bytes : List ℕ) → length bytes ≤ 1 → has_plain bytes ≡ false
unfolding has_plain
pairs_end [] l = refl
pairs_end (a ∷ []) l = refl
pairs_end (a ∷ b ∷ bytes) l = absurd (omega arith)

pub pairs_step : (i : ℕ) (bytes : List ℕ) → i + 1 < length bytes
    → has_plain (drop i bytes)
    ≡ (is_plain (get_or bytes i 0 + 256 * get_or bytes (i + 1) 0) || has_plain (drop (i + 2) bytes))
unfolding has_plain
pairs_step zero [] l = absurd (omega arith)
pairs_step zero (a ∷ []) l = absurd (omega arith)
pairs_step zero (a ∷ b ∷ bytes) l = refl
pairs_step (suc i) [] l = absurd (omega arith)
pairs_step (suc i) (a ∷ bytes) l =
    let one : suc i + 1 ≡ suc (i + 1) = omega arith in
    let two : suc i + 2 ≡ suc (i + 2) = omega arith in
    pairs_step i bytes (omega arith)
    ∙ ap (λ (n : ℕ). is_plain (get_or bytes i 0 + 256 * get_or (a ∷ bytes) n 0) || has_plain
    (drop (i + 2) bytes)) (sym one)
    ∙ ap (λ (n : ℕ). is_plain (get_or bytes i 0 + 256 * get_or (a ∷ bytes) (suc i + 1) 0) ||
    has_plain (drop n (a ∷ bytes))) (sym two)

-- a step of the loop
pub pairs_next : (i : ℕ) (bytes all : List ℕ) (plain : Bool) → i + 1 < length bytes
    → has_plain (drop i bytes) ≡ has_plain all
    → plain ≡ is_plain (get_or bytes i 0 + 256 * get_or bytes (i + 1) 0) → plain ≡ false
    → has_plain (drop (i + 2) bytes) ≡ has_plain all
pairs_next i bytes all plain l before is none =
    ap (λ t. t || has_plain (drop (i + 2) bytes)) (sym none ∙ is) ∙ sym (pairs_step i bytes l)
    ∙ before

pub pairs_found : (i : ℕ) (bytes all : List ℕ) (plain : Bool) → i + 1 < length bytes
    → has_plain (drop i bytes) ≡ has_plain all
    → plain ≡ is_plain (get_or bytes i 0 + 256 * get_or bytes (i + 1) 0) → plain ≡ true
    → true ≡ has_plain all
pairs_found i bytes all plain l before is some =
    ap (λ t. t || has_plain (drop (i + 2) bytes)) (sym some ∙ is) ∙ sym (pairs_step i bytes l)
    ∙ before

-- at the end
pub pairs_last : (i : ℕ) (bytes : List ℕ) → length bytes ≤ i + 1 → has_plain (drop i bytes) ≡ false
pairs_last zero bytes l = pairs_end bytes (omega arith)
pairs_last (suc i) [] l = pairs_end [] (omega arith)
pairs_last (suc i) (a ∷ bytes) l = pairs_last i bytes (omega arith)

-- the test on data that isn't empty
pub test_of_some : (bytes : List ℕ) → 2 ≤ length bytes
    → is_canonical_data bytes
    ≡ (not (nat_eq (get_or bytes 0 0 + 256 * get_or bytes 1 0) 0) && not (has_plain (drop 2 bytes)))
unfolding is_canonical_data
test_of_some [] l = absurd (omega arith)
test_of_some (a ∷ []) l = absurd (omega arith)
test_of_some (a ∷ b ∷ bytes) l = refl

pub test_of_few : (bytes : List ℕ) (empty : Bool) → length bytes < 2
    → empty ≡ nat_eq (length bytes) 0 → empty ≡ is_canonical_data bytes
unfolding is_canonical_data
test_of_few [] empty l is = is
test_of_few (a ∷ []) empty l is = is
test_of_few (a ∷ b ∷ bytes) empty l is = absurd (omega arith)

pub test_of_root : (bytes later : List ℕ) (first second : ℕ) (plain : Bool) → 2 ≤ length bytes
    → first ≡ get_or bytes 0 0 → second ≡ get_or bytes 1 0
    → later ≡ drop 2 bytes → plain ≡ has_plain later → (first + 256 * second ≡ 0 → ⊥)
    → not plain ≡ is_canonical_data bytes
test_of_root bytes later first second plain l one two after is other =
    let codes : get_or bytes 0 0 + 256 * get_or bytes 1 0 ≡ first + 256 * second =
    omega (arith, one, two) in
    let test : nat_eq (first + 256 * second) 0 ≡ false = elim (eqb_tells (first + 256 * second) 0)
    [ inl (e, at) ↦ absurd (other at) | inr (e, ne) ↦ e ] in
    sym (test_of_some bytes l
    ∙ ap (λ (n : ℕ). not (nat_eq n 0) && not (has_plain (drop 2 bytes))) codes
    ∙ ap (λ t. not t && not (has_plain (drop 2 bytes))) test
    ∙ ap not (ap has_plain (sym after) ∙ sym is))

pub test_of_none : (bytes : List ℕ) (first second : ℕ) → 2 ≤ length bytes → first ≡ get_or bytes 0 0
    → second ≡ get_or bytes 1 0
    → first + 256 * second ≡ 0 → false ≡ is_canonical_data bytes
test_of_none bytes first second l one two none =
    let codes : get_or bytes 0 0 + 256 * get_or bytes 1 0 ≡ 0 = omega (arith, one, two, none) in
    sym (test_of_some bytes l
    ∙ ap (λ (n : ℕ). not (nat_eq n 0) && not (has_plain (drop 2 bytes))) codes)
