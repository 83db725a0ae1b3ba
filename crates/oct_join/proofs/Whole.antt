-- The node data of a merged map.
use Rattle.std.proofs.Common.{◌≡◌, ℕ, ◌+◌, ◌*◌, ◌/◌, ◌%◌, ◌<◌, ◌≤◌, Bool, true, false, inl}
use Rattle.std.proofs.Common.{inr, Option, Some, None, List, [], ◌∷◌, ◌++◌, length, refl, sym}
use Rattle.std.proofs.Common.{subst}
use Rattle.std.proofs.Common.{◌∙◌, ap, arith, eqb-true, append-nil}
use Rattle.std.specs.Prelude.{nat_eq, not, ◌&&◌, ◌||◌, if◌then◌else◌}
use Rattle.std.proofs.Common.{cond}
use Rattle.std.proofs.lemmas.Bool.Decides.{eqb_tells}
use Rattle.oct_key.specs.Voxel.{Voxel, IsInMap}
use Rattle.oct_key.specs.Block.{child_index_of}
use Rattle.oct_key.proofs.Blocks.{child_index_below}
use Rattle.oct_odds.specs.declared.event.Class.{Class}
use Rattle.oct_odds.specs.declared.event.Class.TheVariants.{Unknown, Free, Occupied}
use Rattle.oct_merge.specs.declared.rule.Rule.{Rule}
use Rattle.oct_values.specs.Classes.{Classes}
use Rattle.oct_bt.specs.Canonical.{block_code, canonical_data, canonical_size, data_of_child}
use Rattle.oct_bt.specs.Canonical.{node_total}
use Rattle.oct_bt.specs.DataClasses.{data_classes}
use Rattle.oct_bt.specs.NodeData.{IsAccepted, IsDataOf}
use Rattle.oct_bt.specs.Plain.{is_plain, has_plain, is_canonical_data}
use Rattle.oct_bt.specs.Records.{Entries, End, Plain, Record, IsRecord, class_code}
use Rattle.oct_bt.specs.Records.{codes_of, code_bytes, bodies_of, flat, class_by}
use Rattle.oct_bt.proofs.DataClassed.{data_classed}
use Rattle.oct_bt.proofs.Standing.{canonical_accepted}
use Rattle.oct_bt.proofs.Plains.{canonical_data_exactly}
use Rattle.oct_bt.proofs.Texts.{behind_record}
use Rattle.oct_bt.proofs.Uniform.{repeated}
use Rattle.oct_join.specs.Joined.{one_class, child_before, closed, recoded, joined, alike}
use Rattle.oct_join.specs.Merged.{merged_class, merged_classes}
use Rattle.oct_join.specs.Sides.{IsSide, side_text, IsJoined, root_text}
use Rattle.oct_join.specs.declared.joining.Part.{Part}
use Rattle.oct_join.proofs.Records.{one_class_codes, alike_are, alike_class, leaves_bodies}
use Rattle.oct_join.proofs.Records.{leaves_class, joined_are, joined_gives}

-- ---- no record in it has eight equal leaves

none_plain : (codes : ℕ) → one_class codes ≡ None → is_plain codes ≡ false
unfolding one_class
none_plain codes none = by_tests (nat_eq codes 0) (nat_eq codes 21845) (nat_eq codes 43690) none
  where
    by_tests : (p q r : Bool)
        → (if p then Some Unknown else if q then Some Free else if r then Some Occupied else None)
        ≡ None → ((p || q) || r) ≡ false
    by_tests true q r none = absurd (cc)
    by_tests false true r none = absurd (cc)
    by_tests false false true none = absurd (cc)
    by_tests false false false none = refl

zero_one : one_class 0 ≡ None → ⊥
unfolding one_class
zero_one e = cc

no_pair : has_plain [] ≡ false
unfolding has_plain
no_pair = refl

plain_of_two : (codes : ℕ) (rest : List ℕ) → is_plain codes ≡ false
    → has_plain (code_bytes codes ++ rest) ≡ has_plain rest
unfolding has_plain
plain_of_two codes rest none =
    let whole : codes % 256 + 256 * (codes / 256) ≡ codes = omega arith in
    ap (λ (n : ℕ). is_plain n || has_plain rest) whole ∙ ap (λ t. t || has_plain rest) none

plain_closed : (q later : Entries) (rest : List ℕ)
    → has_plain (bodies_of q ++ (bodies_of later ++ rest)) ≡ has_plain (bodies_of later ++ rest)
    → has_plain (bodies_of later ++ rest) ≡ has_plain rest
    → has_plain (bodies_of (closed q later) ++ rest) ≡ has_plain rest
unfolding bodies_of
plain_closed q later rest inner after = by_class (one_class (codes_of q)) refl
  where
    by_class : (o : Option Class) → one_class (codes_of q) ≡ o
        → has_plain (bodies_of (child_before o q later) ++ rest) ≡ has_plain rest
    by_class (Some c) one = after
    by_class None one = ap has_plain (behind_record q later rest)
        ∙ plain_of_two (codes_of q) (bodies_of q ++ (bodies_of later ++ rest))
        (none_plain (codes_of q) one)
        ∙ inner ∙ after

recoded_plain : (to : Class → Class) (es : Entries) (rest : List ℕ)
    → has_plain (bodies_of (recoded to es) ++ rest) ≡ has_plain rest
unfolding recoded bodies_of
recoded_plain to End rest = refl
recoded_plain to (Plain c es) rest = recoded_plain to es rest
recoded_plain to (Record r es) rest =
    plain_closed (recoded to r) (recoded to es) rest
    (recoded_plain to r (bodies_of (recoded to es) ++ rest)) (recoded_plain to es rest)

joined_plain : (with : Class → Class → Class) (es fs : Entries) (rest : List ℕ)
    → has_plain (bodies_of (joined with es fs) ++ rest) ≡ has_plain rest
unfolding joined bodies_of
joined_plain with End fs rest = refl
joined_plain with (Plain a es) End rest = refl
joined_plain with (Plain a es) (Plain b fs) rest = joined_plain with es fs rest
joined_plain with (Plain a es) (Record s fs) rest =
    plain_closed (recoded (with a) s) (joined with es fs) rest
    (recoded_plain (with a) s (bodies_of (joined with es fs) ++ rest))
    (joined_plain with es fs rest)
joined_plain with (Record r es) End rest = refl
joined_plain with (Record r es) (Plain b fs) rest =
    plain_closed (recoded (λ a. with a b) r) (joined with es fs) rest
    (recoded_plain (λ a. with a b) r (bodies_of (joined with es fs) ++ rest))
    (joined_plain with es fs rest)
joined_plain with (Record r es) (Record s fs) rest =
    plain_closed (joined with r s) (joined with es fs) rest
    (joined_plain with r s (bodies_of (joined with es fs) ++ rest))
    (joined_plain with es fs rest)

-- ---- so it is canonical

-- a record whose own text has none, and which has a voxel that is known
flat_is_canonical : (q : Entries) (c : Classes) → IsRecord 0 q
    → ((k : Voxel) → IsInMap k → class_by 0 q k ≡ c k)
    → has_plain (bodies_of q) ≡ false → nat_eq (codes_of q) 0 ≡ false
    → flat q ≡ canonical_data c
unfolding is_canonical_data
flat_is_canonical q c is gives none some =
    let whole : codes_of q % 256 + 256 * (codes_of q / 256) ≡ codes_of q = omega arith in
    let test : is_canonical_data (flat q) ≡ true =
    ap (λ (n : ℕ). not (nat_eq n 0) && not (has_plain (bodies_of q))) whole
    ∙ ap (λ t. not t && not (has_plain (bodies_of q))) some ∙ ap not none in
    (canonical_data_exactly c (flat q) (inr (q, is, refl, gives))).0 test

root_is_canonical : (q : Entries) (c : Classes) → IsRecord 0 q
    → ((k : Voxel) → IsInMap k → class_by 0 q k ≡ c k)
    → has_plain (bodies_of q) ≡ false
    → root_text (one_class (codes_of q)) (flat q) ≡ canonical_data c
unfolding is_canonical_data repeated
root_is_canonical q c is gives none = by_class (one_class (codes_of q)) refl
  where
    codes_are : (x : Class) → one_class (codes_of q) ≡ Some x
        → codes_of q ≡ repeated (class_code x) 8
    codes_are x one = one_class_codes (codes_of q) x one

    no_text : (x : Class) → one_class (codes_of q) ≡ Some x → bodies_of q ≡ []
    no_text x one = leaves_bodies q x 0 8 is (codes_are x one)

    unknown : one_class (codes_of q) ≡ Some Unknown → (k : Voxel) → IsInMap k → c k ≡ Unknown
    unknown one k ok = sym (gives k ok)
        ∙ leaves_class q Unknown 0 8 (child_index_of 0 k) k is (codes_are Unknown one)
        (child_index_below 0 k)

    by_class : (o : Option Class) → one_class (codes_of q) ≡ o
        → root_text o (flat q) ≡ canonical_data c
    by_class (Some Unknown) one =
        (canonical_data_exactly c [] (inl (refl, unknown one))).0 refl
    by_class (Some Free) one =
        ap (λ (n : ℕ). code_bytes n ++ []) (sym (codes_are Free one))
        ∙ ap (λ t. code_bytes (codes_of q) ++ t) (sym (no_text Free one))
        ∙ flat_is_canonical q c is gives none (ap (λ (n : ℕ). nat_eq n 0) (codes_are Free one))
    by_class (Some Occupied) one =
        ap (λ (n : ℕ). code_bytes n ++ []) (sym (codes_are Occupied one))
        ∙ ap (λ t. code_bytes (codes_of q) ++ t) (sym (no_text Occupied one))
        ∙ flat_is_canonical q c is gives none
        (ap (λ (n : ℕ). nat_eq n 0) (codes_are Occupied one))
    by_class None one = flat_is_canonical q c is gives none (some (nat_eq (codes_of q) 0) refl)
      where
        some : (t : Bool) → nat_eq (codes_of q) 0 ≡ t → nat_eq (codes_of q) 0 ≡ false
        some false at = at
        some true at = absurd (zero_one (ap one_class (sym (eqb-true (codes_of q) 0 at)) ∙ one))

-- the text of the whole map as it was written
pub free_written : (o : Option Class) (text old new : List ℕ) → block_code o ≡ 1
    → old ≡ data_of_child o text → new ≡ old ++ (85 ∷ 85 ∷ []) → new ≡ root_text o text
free_written None text old new code at is = absurd (omega (arith, code))
free_written (Some Unknown) text old new code at is = absurd (omega (arith, code))
free_written (Some Free) text old new code at is = is ∙ ap (λ t. t ++ (85 ∷ 85 ∷ [])) at
free_written (Some Occupied) text old new code at is = absurd (omega (arith, code))

pub occupied_written : (o : Option Class) (text old new : List ℕ) → block_code o ≡ 2
    → old ≡ data_of_child o text → new ≡ old ++ (170 ∷ 170 ∷ []) → new ≡ root_text o text
occupied_written None text old new code at is = absurd (omega (arith, code))
occupied_written (Some Unknown) text old new code at is = absurd (omega (arith, code))
occupied_written (Some Free) text old new code at is = absurd (omega (arith, code))
occupied_written (Some Occupied) text old new code at is = is ∙ ap (λ t. t ++ (170 ∷ 170 ∷ [])) at

pub other_written : (o : Option Class) (text old : List ℕ) → (block_code o ≡ 1 → ⊥)
    → (block_code o ≡ 2 → ⊥) → old ≡ data_of_child o text → old ≡ root_text o text
other_written None text old no_one no_two at = at
other_written (Some Unknown) text old no_one no_two at = at
other_written (Some Free) text old no_one no_two at = absurd (no_one refl)
other_written (Some Occupied) text old no_one no_two at = absurd (no_two refl)

-- ---- the two files

-- the whole map as a side of node data, with the code that it has
pub record IsRoot (bytes : List ℕ) (code : ℕ) : Type 0 where
  pub r : Entries
  pub side : IsSide 0 code r
  pub text : bytes ≡ side_text code r ++ []
  pub gives : (k : Voxel) → IsInMap k → class_by 0 r k ≡ data_classes bytes k

pub root_of : (size : ℕ) (bytes : List ℕ) (code : ℕ) → IsAccepted size bytes
    → code ≡ (if nat_eq (length bytes) 0 then 0 else 3) → IsRoot bytes code
root_of size bytes code accepted is = by_data (data_classed size bytes accepted)
  where
    by_data : IsDataOf (data_classes bytes) bytes → IsRoot bytes code
    by_data (inl (empty, all)) =
        (let none : code ≡ 0 = is ∙ ap (λ (t : List ℕ). if nat_eq (length t) 0 then 0 else 3) empty
        in record {
          r = alike Unknown 8;
          side = (alike_are Unknown 0 8, inr (Unknown, none, refl));
          text = empty ∙ sym (ap (λ (n : ℕ). side_text n (alike Unknown 8) ++ []) none);
          gives = λ k ok. alike_class Unknown 0 8 (child_index_of 0 k) k (child_index_below 0 k)
              ∙ sym (all k ok);
        })
    by_data (inr (r, formed, text', gives')) =
        (let long : length bytes ≡ length (flat r) = ap length text' in
        let test : nat_eq (length bytes) 0 ≡ false = elim (eqb_tells (length bytes) 0)
        [ inl (e, at) ↦ absurd (omega (arith, long, at)) | inr (e, ne) ↦ e ] in
        let three : code ≡ 3 = is ∙ ap (λ (t : Bool). cond {A = ℕ} t 0 3) test in
        record {
          r = r;
          side = (formed, inl three);
          text = text' ∙ sym (append-nil (flat r))
              ∙ sym (ap (λ (n : ℕ). side_text n r ++ []) three);
          gives = gives';
        })

unknown_all : (size : ℕ) (bytes : List ℕ) → IsAccepted size bytes → length bytes ≡ 0
    → (k : Voxel) → IsInMap k → data_classes bytes k ≡ Unknown
unknown_all size bytes accepted none = by_data (data_classed size bytes accepted)
  where
    by_data : IsDataOf (data_classes bytes) bytes
        → (k : Voxel) → IsInMap k → data_classes bytes k ≡ Unknown
    by_data (inl (empty, all)) = all
    by_data (inr (r, formed, text', gives')) =
        (let long : length bytes ≡ length (flat r) = ap length text' in
        absurd (omega (arith, long, none)))

-- two files without records
pub none_joined : (rule : Rule) (n m : ℕ) (first second : List ℕ) → IsAccepted n first
    → IsAccepted m second → length first ≡ 0 → length second ≡ 0
    → [] ≡ canonical_data (merged_classes rule (data_classes first) (data_classes second))
unfolding is_canonical_data
none_joined rule n m first second accepted accepted' none none' =
    (canonical_data_exactly (merged_classes rule (data_classes first) (data_classes second)) []
    (inl (
      refl,
      λ k ok.
          ap (λ c. merged_class rule c (data_classes second k))
          (unknown_all n first accepted none k ok)
          ∙ unknown_all m second accepted' none' k ok,
    ))).0 refl

-- while the whole map is of one class nothing is written yet
pub root_room : (o : Option Class) (code room : ℕ) (text new : List ℕ) → code ≡ block_code o
    → code < 3 → new ≡ data_of_child o text → 2 ≤ room → length new + 2 ≤ room
root_room None code room text new is few at wide = absurd (omega (arith, is, few))
root_room (Some c) code room text new is few at wide =
    (let none : length new ≡ 0 = ap length at in omega (arith, none, wide))

-- what the whole map has come to is the canonical data of its merged classes
pub joined_data : (rule : Rule) (first second : List ℕ) (a b : ℕ) (new : List ℕ) (part : Part)
    → (x : IsRoot first a) (y : IsRoot second b)
    → IsJoined (merged_class rule) a b x.r y.r [] new part
    → root_text (one_class (codes_of (joined (merged_class rule) x.r y.r)))
    (flat (joined (merged_class rule) x.r y.r))
    ≡ canonical_data (merged_classes rule (data_classes first) (data_classes second))
joined_data rule first second a b new part x y s =
    let q : Entries = joined (merged_class rule) x.r y.r in
    root_is_canonical q (merged_classes rule (data_classes first) (data_classes second))
    (joined_are (merged_class rule) x.r y.r 0 8 x.side.0 y.side.0)
    (λ k ok. joined_gives (merged_class rule) x.r y.r 0 8 (child_index_of 0 k) k x.side.0 y.side.0
    (child_index_below 0 k)
    ∙ ap (λ c. merged_class rule c (class_by 0 y.r k)) (x.gives k ok)
    ∙ ap (merged_class rule (data_classes first k)) (y.gives k ok))
    (ap has_plain (sym (append-nil (bodies_of q))) ∙ joined_plain (merged_class rule) x.r y.r []
    ∙ no_pair)

-- canonical data is accepted, and tells its number of nodes
pub canonical_fits : (c : Classes) (bytes : List ℕ) → bytes ≡ canonical_data c
    → IsAccepted (node_total bytes) bytes
unfolding canonical_size
canonical_fits c bytes is =
    subst (λ (t : List ℕ). IsAccepted (node_total t) t) (sym is) (canonical_accepted c)

pub canonical_nodes : (c : Classes) (bytes : List ℕ) → bytes ≡ canonical_data c
    → node_total bytes ≡ canonical_size c
unfolding canonical_size
canonical_nodes c bytes is = ap node_total is
