-- Joining a block of two files child by child.
use Rattle.std.proofs.Common.{◌≡◌, ℕ, zero, suc, ◌+◌, ◌-◌, ◌*◌, ◌/◌, ◌%◌, ◌^◌, ◌<◌, ◌≤◌, Bool, true}
use Rattle.std.proofs.Common.{false, Option, Some, None, List, [], ◌∷◌, ◌++◌, length, drop, get_or}
use Rattle.std.proofs.Common.{append_assoc, append-nil, length-append, inl, inr, refl, sym, subst}
use Rattle.std.proofs.Common.{◌∙◌, ap, arith}
use Rattle.std.specs.Prelude.{nat_eq, ◌⊎◌, ◌↔◌, IsTrue, if◌then◌else◌}
use Rattle.std.proofs.lemmas.List.{length-drop}
use Rattle.oct_odds.specs.declared.event.Class.{Class}
use Rattle.oct_odds.specs.declared.event.Class.TheVariants.{Unknown, Free, Occupied}
use Rattle.oct_bt.specs.Canonical.{block_code, data_of_child}
use Rattle.oct_bt.specs.Records.{Entries, End, Plain, Record, AreEntries, IsRecord, class_code}
use Rattle.oct_bt.specs.Records.{codes_of, code_bytes, bodies_of, flat}
use Rattle.oct_bt.proofs.Fills.{drop_front, drop_more}
use Rattle.oct_bt.proofs.Texts.{class_code_below}
use Rattle.oct_merge.specs.declared.rule.Rule.{Rule}
use Rattle.oct_join.specs.Joined.{one_class, child_before, closed, recoded, joined, alike}
use Rattle.oct_bt.specs.Masks.{threes}
use Rattle.oct_join.specs.Joined.{merged_codes}
use Rattle.oct_join.specs.Merged.{merged_class}
use Rattle.oct_join.specs.Sides.{IsSide, side_text, IsJoined}
use Rattle.oct_join.specs.declared.joining.Part.{Part}
use Rattle.oct_join.proofs.Records.{alike_one, alike_are, alike_codes, alike_bodies}
use Rattle.oct_join.proofs.Records.{joined_are}
use Rattle.oct_join.proofs.Masks.{leaves_text, leaves_merged, leaves_bare}

-- ---- one side

-- what is left of a side: these entries of a block of this depth, whose codes are `rest`, and whose
-- text stands from `next` on, before what stands after the block
pub record IsAhead (d code : ℕ) (text : List ℕ) (next rest n : ℕ) (r : Entries) (tail : List ℕ)
    (es : Entries) : Type 0 where
  pub are : AreEntries d n es
  pub left : rest ≡ codes_of es
  pub text_left : drop next text ≡ bodies_of es ++ tail
  pub used : next + length (bodies_of es) ≡ length (side_text code r)

not_three : (c : Class) → nat_eq (class_code c) 3 ≡ false
not_three Unknown = refl
not_three Free = refl
not_three Occupied = refl

-- the codes of a side
pub codes_of_side : (d code : ℕ) (text : List ℕ) (r : Entries) (tail : List ℕ) (first second : ℕ)
    → code ≡ 3 → IsSide d code r → text ≡ side_text code r ++ tail
    → first ≡ get_or text 0 0 → second ≡ get_or text 1 0 → first + 256 * second ≡ codes_of r
codes_of_side d code text r tail first second three side is one two =
    let at : text ≡ flat r ++ tail = is ∙ ap (λ (n : ℕ). side_text n r ++ tail) three in
    let a : first ≡ codes_of r % 256 = one ∙ ap (λ t. get_or t 0 0) at in
    let e : second ≡ codes_of r / 256 = two ∙ ap (λ t. get_or t 1 0) at in
    omega (arith, a, e)

pub long_side : (d code : ℕ) (text : List ℕ) (r : Entries) (tail : List ℕ) → code ≡ 3
    → text ≡ side_text code r ++ tail → 2 ≤ length text
long_side d code text r tail three is =
    let at : length text ≡ length (flat r ++ tail) =
    ap length (is ∙ ap (λ (n : ℕ). side_text n r ++ tail) three) in
    omega (arith, at)

pub codes_of_class : (d code : ℕ) (r : Entries) → (code ≡ 3 → ⊥) → IsSide d code r
    → (code * 21845 ≡ codes_of r) × (code < 3)
codes_of_class d code r other (is, inl three) = absurd (other three)
codes_of_class d code r other (is, inr (c, class, all)) =
    let codes : codes_of r ≡ class_code c * 21845 = ap codes_of all ∙ alike_codes c in
    let small = class_code_below c in
    (omega (arith, class, codes), omega (arith, class, small))

-- before the first child
pub ahead_first : (d code : ℕ) (text : List ℕ) (next rest : ℕ) (r : Entries) (tail : List ℕ)
    → IsSide d code r → text ≡ side_text code r ++ tail
    → next ≡ (if nat_eq code 3 then 2 else 0) → rest ≡ codes_of r
    → IsAhead d code text next rest 8 r tail r
ahead_first d code text next rest r tail (is, inl three) at start left =
    let two : next ≡ 2 = start ∙ ap (λ (n : ℕ). if nat_eq n 3 then 2 else 0) three in
    let whole : text ≡ flat r ++ tail = at ∙ ap (λ (n : ℕ). side_text n r ++ tail) three in
    let all : length (side_text code r) ≡ length (flat r) =
    ap (λ (n : ℕ). length (side_text n r)) three in
    record {
      are = is;
      left = left;
      text_left = ap (λ (n : ℕ). drop n text) two ∙ ap (drop 2) whole;
      used = omega (arith, two, all);
    }
ahead_first d code text next rest r tail (is, inr (c, class, all)) at start left =
    let test : nat_eq code 3 ≡ false = ap (λ (n : ℕ). nat_eq n 3) class ∙ not_three c in
    let none : next ≡ 0 = start ∙ ap (λ t. if t then 2 else 0) test in
    let nothing : side_text code r ≡ [] = ap (λ t. if t then flat r else []) test in
    let bodies : bodies_of r ≡ [] = ap bodies_of all ∙ alike_bodies c 8 in
    let short : length (bodies_of r) ≡ 0 = ap length bodies in
    let empty : length (side_text code r) ≡ 0 = ap length nothing in
    record {
      are = is;
      left = left;
      text_left = ap (λ (n : ℕ). drop n text) none ∙ at ∙ ap (λ t. t ++ tail) nothing
          ∙ ap (λ t. t ++ tail) (sym bodies);
      used = omega (arith, none, short, empty);
    }

-- the entries of the next child, and those after it
unfoldable pub next_child : Entries → Entries
next_child End = End
next_child (Plain c later) = alike c 8
next_child (Record r later) = r

unfoldable pub after_child : Entries → Entries
after_child End = End
after_child (Plain c later) = later
after_child (Record r later) = later

-- the next child of a side
pub record IsNext (d code : ℕ) (text : List ℕ) (next rest n : ℕ) (r : Entries) (tail : List ℕ)
    (es : Entries) : Type 0 where
  pub side : IsSide (d + 1) (rest % 4) (next_child es)
  pub front : drop next text
      ≡ side_text (rest % 4) (next_child es) ++ (bodies_of (after_child es) ++ tail)
  pub after : IsAhead d code text (next + length (side_text (rest % 4) (next_child es)))
      (rest / 4) n r tail (after_child es)
  pub low : rest % 4 ≡ 3 → d < 15

pub side_next : (d code : ℕ) (text : List ℕ) (next rest n : ℕ) (r : Entries) (tail : List ℕ)
    (es : Entries) → IsAhead d code text next rest (suc n) r tail es
    → IsNext d code text next rest n r tail es
unfolding codes_of bodies_of next_child after_child
side_next d code text next rest n r tail End s = absurd s.are
side_next d code text next rest n r tail (Plain c es) s =
    let small = class_code_below c in
    let left = s.left in
    let here : rest % 4 ≡ class_code c = omega (arith, left, small) in
    let test : nat_eq (rest % 4) 3 ≡ false = ap (λ (n : ℕ). nat_eq n 3) here ∙ not_three c in
    let none : side_text (rest % 4) (alike c 8) ≡ [] =
    ap (λ t. if t then flat (alike c 8) else []) test in
    let short : length (side_text (rest % 4) (alike c 8)) ≡ 0 = ap length none in
    let same : next + length (side_text (rest % 4) (alike c 8)) ≡ next = omega (arith, short) in
    record {
      side = (alike_are c (d + 1) 8, inr (c, here, refl));
      front = s.text_left ∙ sym (ap (λ t. t ++ (bodies_of es ++ tail)) none);
      after = subst (λ (m : ℕ). IsAhead d code text m (rest / 4) n r tail es) (sym same) (record {
        are = s.are;
        left = omega (arith, left, small);
        text_left = s.text_left;
        used = s.used;
      });
      low = λ three. absurd (omega (arith, three, here, small));
    }
side_next d code text next rest n r tail (Record q es) s =
    let (low, inner, are) = s.are in
    let left = s.left in
    let used = s.used in
    let here : rest % 4 ≡ 3 = omega (arith, left) in
    let whole : side_text (rest % 4) q ≡ flat q = ap (λ (n : ℕ). side_text n q) here in
    let deep : suc d ≡ d + 1 = omega arith in
    let front : drop next text ≡ flat q ++ (bodies_of es ++ tail) =
    s.text_left ∙ append_assoc (flat q) (bodies_of es) tail in
    let long = length-append (flat q) (bodies_of es) in
    let bytes : length (side_text (rest % 4) q) ≡ length (flat q) = ap length whole in
    record {
      side = (subst (λ (d : ℕ). IsRecord d q) deep inner, inl here);
      front = front ∙ sym (ap (λ t. t ++ (bodies_of es ++ tail)) whole);
      after = record {
        are = are;
        left = omega (arith, left);
        text_left = ap (λ (m : ℕ). drop (next + m) text) bytes
            ∙ sym (drop_more text next (length (flat q))) ∙ ap (drop (length (flat q))) front
            ∙ drop_front (flat q) (bodies_of es ++ tail);
        used = omega (arith, used, long, bytes);
      };
      low = λ three. low;
    }

-- ---- both sides

eights : (with : Class → Class → Class) (a : Class) (fs : Entries) (d n : ℕ) → AreEntries d n fs
    → joined with (alike a n) fs ≡ recoded (with a) fs
unfolding joined recoded alike
eights with a End d zero are = refl
eights with a End d (suc n) are = absurd are
eights with a (Plain b fs) d zero are = absurd are
eights with a (Plain b fs) d (suc n) are = ap (Plain (with a b)) (eights with a fs d n are)
eights with a (Record s fs) d zero are = absurd are
eights with a (Record s fs) d (suc n) (low, inner, are) =
    ap (closed (recoded (with a) s)) (eights with a fs d n are)

others : (with : Class → Class → Class) (es : Entries) (b : Class) (d n : ℕ) → AreEntries d n es
    → joined with es (alike b n) ≡ recoded (λ a. with a b) es
unfolding joined recoded alike
others with End b d zero are = refl
others with End b d (suc n) are = absurd are
others with (Plain a es) b d zero are = absurd are
others with (Plain a es) b d (suc n) are = ap (Plain (with a b)) (others with es b d n are)
others with (Record r es) b d zero are = absurd are
others with (Record r es) b d (suc n) (low, inner, are) =
    ap (closed (recoded (λ a. with a b) r)) (others with es b d n are)

both_alike : (with : Class → Class → Class) (a b : Class) (n : ℕ)
    → joined with (alike a n) (alike b n) ≡ alike (with a b) n
unfolding joined alike
both_alike with a b zero = refl
both_alike with a b (suc n) = ap (Plain (with a b)) (both_alike with a b n)

closed_same : (q p later : Entries) → q ≡ p → closed q later ≡ closed p later
closed_same q p later e = ap (λ t. closed t later) e

closed_alike : (c : Class) (later : Entries) → closed (alike c 8) later ≡ Plain c later
closed_alike c later = ap (λ o. child_before o (alike c 8) later) (alike_one c)

-- what is joined of two sides is what is joined of their next children, before what is of the
-- others
pub joined_next : (with : Class → Class → Class) (es fs : Entries) (d n : ℕ)
    → AreEntries d (suc n) es → AreEntries d (suc n) fs
    → joined with es fs ≡ closed (joined with (next_child es) (next_child fs))
    (joined with (after_child es) (after_child fs))
unfolding joined next_child after_child
joined_next with End fs d n he hf = absurd he
joined_next with (Plain a es) End d n he hf = absurd hf
joined_next with (Plain a es) (Plain b fs) d n he hf =
    sym (closed_same (joined with (alike a 8) (alike b 8)) (alike (with a b) 8) (joined with es fs)
    (both_alike with a b 8) ∙ closed_alike (with a b) (joined with es fs))
joined_next with (Plain a es) (Record s fs) d n he (low, inner, hf) =
    sym (closed_same (joined with (alike a 8) s) (recoded (with a) s) (joined with es fs)
    (eights with a s (suc d) 8 inner))
joined_next with (Record r es) End d n he hf = absurd hf
joined_next with (Record r es) (Plain b fs) d n (low, inner, he) hf =
    sym (closed_same (joined with r (alike b 8)) (recoded (λ a. with a b) r) (joined with es fs)
    (others with r b (suc d) 8 inner))
joined_next with (Record r es) (Record s fs) d n he hf = refl

closed_codes : (q later : Entries)
    → codes_of (closed q later) ≡ block_code (one_class (codes_of q)) + 4 * codes_of later
unfolding codes_of
closed_codes q later = by_class (one_class (codes_of q))
  where
    by_class : (o : Option Class)
        → codes_of (child_before o q later) ≡ block_code o + 4 * codes_of later
    by_class (Some c) = refl
    by_class None = refl

closed_bodies : (q later : Entries)
    → bodies_of (closed q later)
    ≡ data_of_child (one_class (codes_of q)) (flat q) ++ bodies_of later
unfolding bodies_of
closed_bodies q later = by_class (one_class (codes_of q))
  where
    by_class : (o : Option Class)
        → bodies_of (child_before o q later) ≡ data_of_child o (flat q) ++ bodies_of later
    by_class (Some c) = refl
    by_class None = refl

-- a block with a class in both files
pub leaf_joined : (with : Class → Class → Class) (d a b : ℕ) (r s : Entries) (out : List ℕ)
    (part : Part) → (a ≡ 3 → ⊥) → (b ≡ 3 → ⊥)
    → ((x y : Class) → a ≡ class_code x → b ≡ class_code y → part.code ≡ class_code (with x y))
    → part.first ≡ 0 → part.second ≡ 0 → IsSide d a r → IsSide d b s
    → IsJoined with a b r s out out part
leaf_joined with d a b r s out part no_a no_b code one two (is, inl three) side =
    absurd (no_a three)
leaf_joined with d a b r s out part no_a no_b code one two side (is, inl three) =
    absurd (no_b three)
leaf_joined with d a b r s out part no_a no_b code one two (is, inr (x, at_x, all_x))
    (is', inr (y, at_y, all_y)) =
    let joined_is : joined with r s ≡ alike (with x y) 8 =
    ap (λ r. joined with r s) all_x ∙ ap (joined with (alike x 8)) all_y ∙ both_alike with x y 8 in
    let one_is : one_class (codes_of (joined with r s)) ≡ Some (with x y) =
    ap (λ q. one_class (codes_of q)) joined_is ∙ alike_one (with x y) in
    let test_a : nat_eq a 3 ≡ false = ap (λ (n : ℕ). nat_eq n 3) at_x ∙ not_three x in
    let test_b : nat_eq b 3 ≡ false = ap (λ (n : ℕ). nat_eq n 3) at_y ∙ not_three y in
    record {
      code = code x y at_x at_y ∙ sym (ap block_code one_is);
      text = sym (append-nil out)
          ∙ sym (ap (λ o. out ++ data_of_child o (flat (joined with r s))) one_is);
      first = one ∙ sym (ap (λ t. length (if t then flat r else [])) test_a);
      second = two ∙ sym (ap (λ t. length (if t then flat s else [])) test_b);
    }

-- The first i children of a block are joined, and of both sides these entries are left. The codes
-- so far, and the text, followed by what is made of these, are those of the whole.
pub record IsJoining (with : Class → Class → Class) (d a b : ℕ) (first second : List ℕ)
    (r s : Entries) (p q : List ℕ) (old now : List ℕ) (at to left other codes unit i : ℕ)
    : Type 0 where
  pub n : ℕ
  pub count : i + n ≡ 8
  pub es : Entries
  pub fs : Entries
  pub mine : IsAhead d a first at left n r p es
  pub theirs : IsAhead d b second to other n s q fs
  pub power : unit ≡ 4 ^ i
  pub made : codes + unit * codes_of (joined with es fs) ≡ codes_of (joined with r s)
  pub text : now ++ bodies_of (joined with es fs)
      ≡ (old ++ 0 ∷ 0 ∷ []) ++ bodies_of (joined with r s)

pub joining_first : (with : Class → Class → Class) (d a b : ℕ) (first second : List ℕ)
    (r s : Entries) (p q old now : List ℕ) (at to left other : ℕ)
    → IsSide d a r → first ≡ side_text a r ++ p → IsSide d b s → second ≡ side_text b s ++ q
    → at ≡ (if nat_eq a 3 then 2 else 0) → to ≡ (if nat_eq b 3 then 2 else 0)
    → left ≡ codes_of r → other ≡ codes_of s → now ≡ old ++ 0 ∷ 0 ∷ []
    → IsJoining with d a b first second r s p q old now at to left other 0 1 0
joining_first with d a b first second r s p q old now at to left other side_a is_a side_b is_b at_is
    to_is left_is other_is now_is = record {
      n = 8;
      count = refl;
      es = r;
      fs = s;
      mine = ahead_first d a first at left r p side_a is_a at_is left_is;
      theirs = ahead_first d b second to other s q side_b is_b to_is other_is;
      power = refl;
      made = omega arith;
      text = ap (λ (t : List ℕ). t ++ bodies_of (joined with r s)) now_is;
    }

-- the next child of both sides
pub record AreNext (with : Class → Class → Class) (d a b : ℕ) (first second : List ℕ)
    (r s : Entries) (p q old now : List ℕ) (at to left other codes unit i : ℕ) : Type 0 where
  pub r' : Entries
  pub s' : Entries
  pub p' : List ℕ
  pub q' : List ℕ
  pub side : IsSide (d + 1) (left % 4) r'
  pub other_side : IsSide (d + 1) (other % 4) s'
  pub front : drop at first ≡ side_text (left % 4) r' ++ p'
  pub other_front : drop to second ≡ side_text (other % 4) s' ++ q'
  pub low : left % 4 ≡ 3 → d < 15
  pub other_low : other % 4 ≡ 3 → d < 15
  pub within : at + length (side_text (left % 4) r') ≤ length (side_text a r)
  pub other_within : to + length (side_text (other % 4) s') ≤ length (side_text b s)
  pub step : (new : List ℕ) (part : Part)
      → IsJoined with (left % 4) (other % 4) r' s' now new part
      → IsJoining with d a b first second r s p q old new (at + part.first) (to + part.second)
      (left / 4) (other / 4) (codes + unit * part.code) (unit * 4) (i + 1)

-- the same by other words
pub same_joining : (with : Class → Class → Class) (d a b : ℕ) (first second : List ℕ)
    (r s : Entries) (p q old now new : List ℕ) (at at' to to' left other codes codes' unit i : ℕ)
    → new ≡ now → at' ≡ at → to' ≡ to → codes' ≡ codes
    → IsJoining with d a b first second r s p q old now at to left other codes unit i
    → IsJoining with d a b first second r s p q old new at' to' left other codes' unit i
same_joining with d a b first second r s p q old now new at at' to to' left other codes codes'
    unit i now_is at_is to_is codes_is j =
    subst (λ (t : List ℕ). IsJoining with d a b first second r s p q old t at' to' left other codes'
    unit i) (sym now_is)
    (subst (λ (n : ℕ). IsJoining with d a b first second r s p q old now n to' left other codes'
    unit i) (sym at_is)
    (subst (λ (n : ℕ). IsJoining with d a b first second r s p q old now at n left other codes'
    unit i) (sym to_is)
    (subst (λ (n : ℕ). IsJoining with d a b first second r s p q old now at to left other n
    unit i) (sym codes_is) j)))

power_next : (i : ℕ) → 4 ^ i * 4 ≡ 4 ^ (i + 1)
power_next i =
    let next : i + 1 ≡ suc i = omega arith in
    let more : 4 ^ i * 4 ≡ 4 ^ suc i = omega arith in
    more ∙ ap (λ (n : ℕ). 4 ^ n) (sym next)

made_next : (codes unit code block later whole total : ℕ) → codes + unit * whole ≡ total
    → whole ≡ block + 4 * later → code ≡ block
    → codes + unit * code + unit * 4 * later ≡ total
made_next codes unit code block later whole total made parts same =
    let first : codes + unit * (block + 4 * later) ≡ total =
    subst (λ (n : ℕ). codes + unit * n ≡ total) parts made in
    let again : codes + unit * block + unit * 4 * later ≡ total = omega (arith, first) in
    subst (λ (n : ℕ). codes + unit * n + unit * 4 * later ≡ total) (sym same) again

text_next : (now new piece later whole total : List ℕ) → now ++ whole ≡ total
    → whole ≡ piece ++ later → new ≡ now ++ piece → new ++ later ≡ total
text_next now new piece later whole total text parts is =
    ap (λ (t : List ℕ). t ++ later) is ∙ append_assoc now piece later
    ∙ ap (λ (t : List ℕ). now ++ t) (sym parts) ∙ text

pub joining_next : (with : Class → Class → Class) (d a b : ℕ) (first second : List ℕ)
    (r s : Entries) (p q old now : List ℕ) (at to left other codes unit i : ℕ) → i < 8
    → IsJoining with d a b first second r s p q old now at to left other codes unit i
    → AreNext with d a b first second r s p q old now at to left other codes unit i
joining_next with d a b first second r s p q old now at to left other codes unit i li j =
    by_count j.n j.count j.mine j.theirs
  where
    by_count : (n : ℕ) → i + n ≡ 8 → IsAhead d a first at left n r p j.es
        → IsAhead d b second to other n s q j.fs
        → AreNext with d a b first second r s p q old now at to left other codes unit i
    by_count zero count mine theirs = absurd (omega (arith, count, li))
    by_count (suc n) count mine theirs =
        (let x = side_next d a first at left n r p j.es mine in
        let y = side_next d b second to other n s q j.fs theirs in
        let here : Entries = joined with (next_child j.es) (next_child j.fs) in
        let later : Entries = joined with (after_child j.es) (after_child j.fs) in
        let whole : joined with j.es j.fs ≡ closed here later =
        joined_next with j.es j.fs d n mine.are theirs.are in
        let used = x.after.used in
        let other_used = y.after.used in
        record {
          r' = next_child j.es;
          s' = next_child j.fs;
          p' = bodies_of (after_child j.es) ++ p;
          q' = bodies_of (after_child j.fs) ++ q;
          side = x.side;
          other_side = y.side;
          front = x.front;
          other_front = y.front;
          low = x.low;
          other_low = y.low;
          within = omega (arith, used);
          other_within = omega (arith, other_used);
          step = λ new part is. record {
            n = n;
            count = omega (arith, count);
            es = after_child j.es;
            fs = after_child j.fs;
            mine = subst (λ (m : ℕ). IsAhead d a first (at + m) (left / 4) n r p
                (after_child j.es)) (sym is.first) x.after;
            theirs = subst (λ (m : ℕ). IsAhead d b second (to + m) (other / 4) n s q
                (after_child j.fs)) (sym is.second) y.after;
            power = ap (λ (m : ℕ). m * 4) j.power ∙ power_next i;
            made = made_next codes unit part.code (block_code (one_class (codes_of here)))
                (codes_of later) (codes_of (joined with j.es j.fs)) (codes_of (joined with r s))
                j.made (ap codes_of whole ∙ closed_codes here later) is.code;
            text = text_next now new (data_of_child (one_class (codes_of here)) (flat here))
                (bodies_of later) (bodies_of (joined with j.es j.fs))
                ((old ++ 0 ∷ 0 ∷ []) ++ bodies_of (joined with r s)) j.text
                (ap bodies_of whole ∙ closed_bodies here later) is.text;
          };
        })

-- where both have a class
pub leaf_next : (with : Class → Class → Class) (d a b : ℕ) (first second : List ℕ)
    (r s : Entries) (p q old now : List ℕ) (at to left other codes unit i code : ℕ)
    → AreNext with d a b first second r s p q old now at to left other codes unit i
    → (left % 4 ≡ 3 → ⊥) → (other % 4 ≡ 3 → ⊥)
    → ((x y : Class) → left % 4 ≡ class_code x → other % 4 ≡ class_code y
    → code ≡ class_code (with x y))
    → IsJoining with d a b first second r s p q old now at to (left / 4) (other / 4)
    (codes + unit * code) (unit * 4) (i + 1)
leaf_next with d a b first second r s p q old now at to left other codes unit i code x no_a no_b
    is =
    let part : Part = record { code = code; first = 0; second = 0 } in
    let same : at + 0 ≡ at = omega arith in
    let other_same : to + 0 ≡ to = omega arith in
    same_joining with d a b first second r s p q old now now (at + 0) at (to + 0) to (left / 4)
    (other / 4) (codes + unit * code) (codes + unit * code) (unit * 4) (i + 1) refl (sym same)
    (sym other_same) refl
    (x.step now part
    (leaf_joined with (d + 1) (left % 4) (other % 4) x.r' x.s' now part no_a no_b is refl refl
    x.side x.other_side))

-- ---- whether a child is parted

pub parted_low : (test : Bool) (l o d : ℕ) → (IsTrue test ↔ ((l ≡ 3) ⊎ (o ≡ 3))) → test ≡ true
    → (l ≡ 3 → d < 15) → (o ≡ 3 → d < 15) → d < 15
parted_low false l o d when is low other_low = absurd (cc)
parted_low true l o d when is low other_low = by_side (when.0 refl)
  where
    by_side : (l ≡ 3) ⊎ (o ≡ 3) → d < 15
    by_side (inl three) = low three
    by_side (inr three) = other_low three

pub not_parted : (test : Bool) (l o : ℕ) → (IsTrue test ↔ ((l ≡ 3) ⊎ (o ≡ 3))) → test ≡ false
    → (l ≡ 3 → ⊥) × (o ≡ 3 → ⊥)
not_parted true l o when is = absurd (cc)
not_parted false l o when is =
    (λ three. false_is (when.1 (inl three)), λ three. false_is (when.1 (inr three)))
  where
    false_is : IsTrue false → ⊥
    false_is no' = cc

pub is_one : (test : Bool) (l o : ℕ) → (IsTrue test ↔ ((l ≡ 3) ⊎ (o ≡ 3))) → test ≡ true
    → (l ≡ 3) ⊎ (o ≡ 3)
is_one false l o when is = absurd (cc)
is_one true l o when is = when.0 refl

pub both_none : (test : Bool) (l o : ℕ) → (IsTrue test ↔ ((l ≡ 0) × (o ≡ 0))) → test ≡ true
    → (l ≡ 0) × (o ≡ 0)
both_none false l o when is = absurd (cc)
both_none true l o when is = when.0 refl

-- ---- what fits in a text

pub fits_text : (m : ℕ) (piece text tail : List ℕ) → m ≤ length piece → text ≡ piece ++ tail
    → m ≤ length text
fits_text m piece text tail few is =
    (let long : length text ≡ length piece + length tail =
    ap length is ∙ length-append piece tail in
    omega (arith, few, long))

pub product_fits : (codes unit code n : ℕ) → n ≡ code → codes + unit * code < 65536
    → (unit * n < 4294967296) × (codes + unit * n < 4294967296)
product_fits codes unit code n is few =
    let all : codes + unit * n < 65536 =
    subst (λ (m : ℕ). codes + unit * m < 65536) (sym is) few in
    (omega (arith, all), omega (arith, all))

pub ends : (es : Entries) (d n : ℕ) → n ≡ 0 → AreEntries d n es → es ≡ End
ends End d n none are = refl
ends (Plain c es) d zero none are = absurd are
ends (Plain c es) d (suc n) none are = absurd (omega (arith, none))
ends (Record r es) d zero none are = absurd are
ends (Record r es) d (suc n) none are = absurd (omega (arith, none))

nothing_joined : (with : Class → Class → Class) (es fs : Entries) → es ≡ End
    → (codes_of (joined with es fs) ≡ 0) × (bodies_of (joined with es fs) ≡ [])
unfolding joined codes_of bodies_of
nothing_joined with es fs none =
    (ap (λ es. codes_of (joined with es fs)) none, ap (λ es. bodies_of (joined with es fs)) none)

-- all children
pub record AreJoined (with : Class → Class → Class) (a b : ℕ) (r s : Entries) (old now : List ℕ)
    (at to codes : ℕ) : Type 0 where
  pub codes_are : codes ≡ codes_of (joined with r s)
  pub text : now ≡ old ++ (0 ∷ 0 ∷ bodies_of (joined with r s))
  pub first : at ≡ length (side_text a r)
  pub second : to ≡ length (side_text b s)

pub joining_all : (with : Class → Class → Class) (d a b : ℕ) (first second : List ℕ)
    (r s : Entries) (p q old now : List ℕ) (at to left other codes unit i : ℕ) → i ≡ 8
    → IsJoining with d a b first second r s p q old now at to left other codes unit i
    → AreJoined with a b r s old now at to codes
unfolding bodies_of
joining_all with d a b first second r s p q old now at to left other codes unit i end j =
    let count = j.count in
    let none : j.n ≡ 0 = omega (arith, count, end) in
    let first_end : j.es ≡ End = ends j.es d j.n none j.mine.are in
    let second_end : j.fs ≡ End = ends j.fs d j.n none j.theirs.are in
    let (codes_none, text_none) = nothing_joined with j.es j.fs first_end in
    let short : length (bodies_of j.es) ≡ 0 = ap (λ es. length (bodies_of es)) first_end in
    let other_short : length (bodies_of j.fs) ≡ 0 = ap (λ es. length (bodies_of es)) second_end in
    let used = j.mine.used in
    let other_used = j.theirs.used in
    let made : codes + unit * 0 ≡ codes_of (joined with r s) =
    subst (λ (n : ℕ). codes + unit * n ≡ codes_of (joined with r s)) codes_none j.made in
    record {
      codes_are = omega (arith, made);
      text = sym (append-nil now) ∙ ap (λ (t : List ℕ). now ++ t) (sym text_none) ∙ j.text
          ∙ append_assoc old (0 ∷ 0 ∷ []) (bodies_of (joined with r s));
      first = omega (arith, used, short);
      second = omega (arith, other_used, other_short);
    }

-- and the block is closed
pub joined_whole : (with : Class → Class → Class) (a b : ℕ) (r s : Entries) (old now new : List ℕ)
    (at to codes : ℕ) (part : Part) → AreJoined with a b r s old now at to codes
    → part.code ≡ block_code (one_class codes) → part.first ≡ at → part.second ≡ to
    → ((later : List ℕ) → now ≡ old ++ (0 ∷ 0 ∷ later)
    → new ≡ old ++ data_of_child (one_class codes) (code_bytes codes ++ later))
    → IsJoined with a b r s old new part
joined_whole with a b r s old now new at to codes part j code one two closed_text = record {
  code = code ∙ ap (λ (n : ℕ). block_code (one_class n)) j.codes_are;
  text = closed_text (bodies_of (joined with r s)) j.text
      ∙ ap (λ (n : ℕ). old ++ data_of_child (one_class n)
      (code_bytes n ++ bodies_of (joined with r s))) j.codes_are;
  first = one ∙ j.first;
  second = two ∙ j.second;
}

-- ---- what fits

codes_few : (es : Entries) (d n : ℕ) → AreEntries d n es → codes_of es < 4 ^ n
unfolding codes_of
codes_few End d zero are = omega arith
codes_few End d (suc n) are = absurd are
codes_few (Plain c es) d zero are = absurd are
codes_few (Plain c es) d (suc n) are =
    (let small = class_code_below c in let few = codes_few es d n are in omega (arith, small, few))
codes_few (Record r es) d zero are = absurd are
codes_few (Record r es) d (suc n) (low, inner, are) =
    (let few = codes_few es d n are in omega (arith, few))

-- the codes that are made
pub made_fits : (with : Class → Class → Class) (d a b : ℕ) (first second : List ℕ)
    (r s : Entries) (p q old now : List ℕ) (at to left other codes unit i : ℕ) → IsSide d a r
    → IsSide d b s
    → IsJoining with d a b first second r s p q old now at to left other codes unit i
    → codes < 65536
made_fits with d a b first second r s p q old now at to left other codes unit i side_a side_b j =
    let few = codes_few (joined with r s) d 8 (joined_are with r s d 8 side_a.0 side_b.0) in
    let made = j.made in
    omega (arith, few, made)

fours_rise : (h k : ℕ) → 4 ^ h ≤ 4 ^ (h + k)
fours_rise h zero =
    (let same : h + 0 ≡ h = omega arith in subst (λ (n : ℕ). 4 ^ h ≤ 4 ^ n) (sym same)
    (omega arith))
fours_rise h (suc k) =
    let next : h + suc k ≡ suc (h + k) = omega arith in
    let here = fours_rise h k in
    subst (λ (n : ℕ). 4 ^ h ≤ 4 ^ n) (sym next) (omega (arith, here))

-- the weight of the next code
pub unit_fits : (unit i : ℕ) → i < 8 → unit ≡ 4 ^ i → unit ≤ 16384
unit_fits unit i li is =
    let whole : i + (7 - i) ≡ 7 = omega (arith, li) in
    let few : 4 ^ i ≤ 4 ^ 7 = subst (λ (n : ℕ). 4 ^ i ≤ 4 ^ n) whole (fours_rise i (7 - i)) in
    omega (arith, few, is)

-- the place that was kept
pub long_whole : (old later now : List ℕ) → now ≡ old ++ (0 ∷ 0 ∷ later)
    → length old + 2 ≤ length now
long_whole old later now is =
    (let long : length now ≡ length old + length (0 ∷ 0 ∷ later) =
    ap length is ∙ length-append old (0 ∷ 0 ∷ later) in omega (arith, long))

-- ---- where neither record has children with records

record_long : (code : ℕ) (r : Entries) → bodies_of r ≡ []
    → (if nat_eq code 3 then 2 else 0) ≡ length (side_text code r)
record_long code r none = by_test (nat_eq code 3)
  where
    by_test : (t : Bool) → (if t then 2 else 0) ≡ length (if t then flat r else [])
    by_test true = sym (ap (λ t. length (code_bytes (codes_of r) ++ t)) none)
    by_test false = refl

pub leaves_joined : (rule : Rule) (d a b : ℕ) (r s : Entries) (old new : List ℕ) (part : Part)
    (left other codes : ℕ) → IsSide d a r → IsSide d b s → left ≡ codes_of r → other ≡ codes_of s
    → threes 8 left ≡ 0 → threes 8 other ≡ 0 → codes ≡ merged_codes 8 rule left other
    → part.code ≡ block_code (one_class codes)
    → new ≡ old ++ data_of_child (one_class codes) (code_bytes codes)
    → part.first ≡ (if nat_eq a 3 then 2 else 0) → part.second ≡ (if nat_eq b 3 then 2 else 0)
    → IsJoined (merged_class rule) a b r s old new part
leaves_joined rule d a b r s old new part left other codes side_a side_b left_is other_is none none'
    is code text one two =
    let bare : threes 8 (codes_of r) ≡ 0 = ap (threes 8) (sym left_is) ∙ none in
    let bare' : threes 8 (codes_of s) ≡ 0 = ap (threes 8) (sym other_is) ∙ none' in
    let made : codes ≡ codes_of (joined (merged_class rule) r s) =
    is ∙ ap (λ (m : ℕ). merged_codes 8 rule m other) left_is
    ∙ ap (merged_codes 8 rule (codes_of r)) other_is
    ∙ leaves_merged rule r s d 8 side_a.0 side_b.0 bare bare' in
    let nothing = leaves_bare (merged_class rule) r s d 8 side_a.0 side_b.0 bare bare' in
    record {
      code = code ∙ ap (λ (n : ℕ). block_code (one_class n)) made;
      text = text ∙ ap (λ (n : ℕ). old ++ data_of_child (one_class n) (code_bytes n)) made
          ∙ ap (λ (t : List ℕ). old
          ++ data_of_child (one_class (codes_of (joined (merged_class rule) r s)))
          (code_bytes (codes_of (joined (merged_class rule) r s)) ++ t)) (sym nothing);
      first = one ∙ record_long a r (leaves_text r d 8 side_a.0 bare);
      second = two ∙ record_long b s (leaves_text s d 8 side_b.0 bare');
    }

-- a block that has a record has at least its bytes
pub two_read : (a b at to : ℕ) → (a ≡ 3) ⊎ (b ≡ 3) → at ≡ (if nat_eq a 3 then 2 else 0)
    → to ≡ (if nat_eq b 3 then 2 else 0) → 2 ≤ at + to
two_read a b at to (inl three) one two =
    (let here : at ≡ 2 = one ∙ ap (λ (n : ℕ). if nat_eq n 3 then 2 else 0) three in
    omega (arith, here))
two_read a b at to (inr three) one two =
    (let here : to ≡ 2 = two ∙ ap (λ (n : ℕ). if nat_eq n 3 then 2 else 0) three in
    omega (arith, here))

pub two_long : (d a b : ℕ) (first second : List ℕ) (r s : Entries) (p q : List ℕ)
    → (a ≡ 3) ⊎ (b ≡ 3) → first ≡ side_text a r ++ p → second ≡ side_text b s ++ q
    → 2 ≤ length first + length second
two_long d a b first second r s p q (inl three) one two =
    (let long = long_side d a first r p three one in omega (arith, long))
two_long d a b first second r s p q (inr three) one two =
    (let long = long_side d b second s q three two in omega (arith, long))

-- there is room for what is left of both texts
pub room_next : (old now room room_now at to : ℕ) (first second later others : List ℕ)
    → now ≤ old + at + to → room_now ≡ room → old + length first + length second ≤ room
    → at ≤ length first → to ≤ length second → later ≡ drop at first → others ≡ drop to second
    → now + length later + length others ≤ room_now
room_next old now room room_now at to first second later others few same fits within within' is
    is' =
    let one : length later ≡ length first - at = ap length is ∙ length-drop at first in
    let two : length others ≡ length second - to = ap length is' ∙ length-drop to second in
    omega (arith, few, same, fits, within, within', one, two)
