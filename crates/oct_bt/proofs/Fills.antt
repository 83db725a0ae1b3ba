-- Filling a block from the text of a record.
use Rattle.std.proofs.Common.{◌≡◌, ℕ, zero, suc, ◌+◌, ◌-◌, ◌*◌, ◌/◌, ◌%◌, ◌<◌, ◌≤◌, Some}
use Rattle.std.proofs.Common.{inl, inr, List, [], ◌∷◌, ◌++◌, length, drop, get_or}
use Rattle.std.proofs.Common.{append_assoc, length-append, length-drop, append-nil, refl, sym}
use Rattle.std.proofs.Common.{subst, ◌∙◌, ap, arith}
use Rattle.std.specs.Prelude.{ℤ, true}
use Rattle.oct_key.specs.Voxel.{Voxel, IsInMap}
use Rattle.oct_key.specs.Block.{Cube, HoldsVoxel, child_of, child_index_of, root_block}
use Rattle.oct_key.proofs.Blocks.{child_index_below, child_holds, root_holds}
use Rattle.oct_odds.specs.declared.event.Class.{Class}
use Rattle.oct_odds.specs.declared.event.Class.TheVariants.{Unknown, Free, Occupied}
use Rattle.oct_arena.specs.declared.node.GroupId.{GroupId}
use Rattle.oct_arena.specs.declared.node.Node.TheVariants.{Absent}
use Rattle.oct_arena.specs.Entries.{live, spare}
use Rattle.oct_arena.proofs.Entries.{live_spare}
use Rattle.oct_arena.specs.Nodes.{link_of, value_of}
use Rattle.oct_tree.specs.declared.place.Place.{Place}
use Rattle.oct_tree.specs.declared.place.Place.TheVariants.{Root}
use Rattle.oct_tree.specs.Tree.{Tree, IsLinked, node_in, block_in, value_at}
use Rattle.oct_tree.specs.Shape.{IsShaped, IsFresh, IsPruned}
use Rattle.oct_tree.specs.Changes.{IsSplit}
use Rattle.oct_tree.proofs.Links.{place_value}
use Rattle.oct_values.specs.Classes.{Classes}
use Rattle.oct_bt.specs.Classes.{value_for}
use Rattle.oct_bt.specs.Records.{Entries, End, Plain, Record, AreEntries, IsRecord, class_code}
use Rattle.oct_bt.specs.Records.{codes_of, bodies_of, flat, record_count, class_in, class_by}
use Rattle.oct_bt.specs.NodeData.{IsAccepted, IsDataOf}
use Rattle.oct_bt.specs.Filled.{IsFilled, IsFilling}
use Rattle.oct_bt.proofs.Texts.{class_code_below, class_of_code}
use Rattle.oct_bt.specs.Plain.{is_plain}
use Rattle.oct_bt.proofs.Uniform.{repeated}
use Rattle.oct_bt.proofs.Plains.{plain_class}
use Rattle.oct_tree.proofs.Tidy.{tidy_leaf, tidy_whole, none_live}
use Rattle.oct_bt.proofs.Fillings.{filling_first, filling_next}

-- the first i children of the place's block are filled from a record, and what is left of it are
-- these entries
pub record IsUnderWay (t u : Tree) (p : Place) (id : GroupId) (b : Cube) (d : ℕ) (codes : List ℕ)
    (next rest i : ℕ)
    (r : Entries) (tail : List ℕ) : Type 0 where
  pub es : Entries
  pub are : AreEntries d (8 - i) es
  pub left : rest ≡ codes_of es
  pub text : drop next codes ≡ bodies_of es ++ tail
  pub same : (j : ℕ) (k : Voxel) → class_in d r (i + j) k ≡ class_in d es j k
  pub used : next + length (bodies_of es) ≡ length (flat r)
  pub few : record_count es ≤ record_count r
  pub filling : IsFilling t u p id b i (class_by d r) (1 + record_count r - record_count es)

pub under_first : (t u : Tree) (p : Place) (id : GroupId) (v : ℤ) (b : Cube) (d : ℕ)
    (codes : List ℕ) (r : Entries) (tail : List ℕ)
    (first second : ℕ) → IsLinked u → IsSplit t u p id v → node_in t p ≡ Absent
    → block_in t p ≡ Some b → IsRecord d r
    → codes ≡ flat r ++ tail → first ≡ get_or codes 0 0 → second ≡ get_or codes 1 0
    → IsUnderWay t u p id b d codes 2 (first + 256 * second) 0 r tail
under_first t u p id v b d codes r tail first second m s none at is text one two = record {
  es = r;
  are = is;
  left = (let a : first ≡ codes_of r % 256 = one ∙ ap (λ t. get_or t 0 0) text in
      let e : second ≡ codes_of r / 256 = two ∙ ap (λ t. get_or t 1 0) text in omega (arith, a, e));
  text = ap (drop 2) text;
  same = λ j k. (let e : 0 + j ≡ j = omega arith in ap (λ (i : ℕ). class_in d r i k) e);
  used = omega arith;
  few = omega arith;
  filling = subst (λ (n : ℕ). IsFilling t u p id b 0 (class_by d r) n)
      (let e : 1 ≡ 1 + record_count r - record_count r = omega arith in e)
      (filling_first t u p id v b (class_by d r) m s none at);
}

-- the classes of a child's voxels
child_classes : (b : Cube) (d i : ℕ) (r : Entries) (k : Voxel) → b.depth ≡ d → d ≤ 15 → i < 8
    → HoldsVoxel (child_of b i) k
    → class_by d r k ≡ class_in d r (i + 0) k
child_classes b d i r k e low li held =
    let index = ((child_holds b i k (omega arith) li).0 held).1 in
    let at : child_index_of d k ≡ i + 0 =
    (let x : child_index_of d k ≡ i = subst (λ (d : ℕ). child_index_of d k ≡ i) e index in
    omega (arith, x)) in
    ap (λ (i : ℕ). class_in d r i k) at

-- what a recursive call is asked for
pub record IsAhead (d : ℕ) (codes : List ℕ) (next room : ℕ) : Type 0 where
  pub r : Entries
  pub tail : List ℕ
  pub is : IsRecord (d + 1) r
  pub text : drop next codes ≡ flat r ++ tail
  pub enough : 1 + record_count r ≤ room
  pub low : d < 15

pub record_ahead : (t u : Tree) (p : Place) (id : GroupId) (b : Cube) (d : ℕ) (codes : List ℕ)
    (next rest i : ℕ) (r : Entries)
    (tail : List ℕ) → 1 + record_count r ≤ spare t.groups → i < 8 → rest % 4 ≡ 3
    → IsUnderWay t u p id b d codes next rest i r tail → IsAhead d codes next (spare u.groups)
unfolding codes_of bodies_of record_count
record_ahead t u p id b d codes next rest i r tail room li three s =
    by_entries s.es (8 - i) (omega arith) s.are (sym s.left) s.text s.few s.filling.room
  where
    by_entries : (es : Entries) (n : ℕ) → 0 < n → AreEntries d n es → codes_of es ≡ rest
        → drop next codes ≡ bodies_of es ++ tail
        → record_count es ≤ record_count r
        → spare t.groups ≤ spare u.groups + (1 + record_count r - record_count es)
        → IsAhead d codes next (spare u.groups)
    by_entries End zero some are left text few taken = absurd (omega arith)
    by_entries End (suc n) some are left text few taken = absurd are
    by_entries (Plain c es) zero some are left text few taken = absurd are
    by_entries (Plain c es) (suc n) some are left text few taken =
        (let small = class_code_below c in absurd (omega (arith, small, left, three)))
    by_entries (Record q es) zero some are left text few taken = absurd are
    by_entries (Record q es) (suc n) some (low, inner, are) left text few taken =
        (let deep : suc d ≡ d + 1 = omega arith in
        record {
          r = q;
          tail = bodies_of es ++ tail;
          is = subst (λ (d : ℕ). IsRecord d q) deep inner;
          text = text ∙ append_assoc (flat q) (bodies_of es) tail;
          enough = omega (arith, room, few, taken);
          low = low;
        })

-- after a child that is a leaf
pub under_leaf : (t u w : Tree) (p : Place) (id : GroupId) (b : Cube) (d : ℕ) (codes : List ℕ)
    (next rest i : ℕ) (r : Entries)
    (tail : List ℕ) → b.depth ≡ d → d ≤ 15 → i < 8 → IsLinked t → IsLinked w → (rest % 4 ≡ 3 → ⊥)
    → IsUnderWay t u p id b d codes next rest i r tail
    → ((c : Class) → class_code c ≡ rest % 4 → IsFilled u w (child_of b i) (λ k. c) 0)
    → IsUnderWay t w p id b d codes next (rest / 4) (i + 1) r tail
unfolding codes_of bodies_of record_count class_in
under_leaf t u w p id b d codes next rest i r tail deep low li lt lw other s filled =
    by_entries s.es (8 - i) refl s.are (sym s.left) s.text s.same s.used s.few s.filling
  where
    by_entries : (es : Entries) (n : ℕ) → 8 - i ≡ n → AreEntries d n es → codes_of es ≡ rest
        → drop next codes ≡ bodies_of es ++ tail
        → ((j : ℕ) (k : Voxel) → class_in d r (i + j) k ≡ class_in d es j k)
        → next + length (bodies_of es) ≡ length (flat r)
        → record_count es ≤ record_count r → IsFilling t u p id b i (class_by d r)
        (1 + record_count r - record_count es)
        → IsUnderWay t w p id b d codes next (rest / 4) (i + 1) r tail
    by_entries End zero at are left text same used few filling = absurd (omega arith)
    by_entries End (suc n) at are left text same used few filling = absurd are
    by_entries (Plain c es) zero at are left text same used few filling = absurd are
    by_entries (Plain c es) (suc n) at are left text same used few filling =
        (let small = class_code_below c in
        let here : class_code c ≡ rest % 4 = omega (arith, small, left) in
        let later : 8 - (i + 1) ≡ n = omega (arith, at, li) in
        let none : 1 + record_count r - record_count es + 0 ≡ 1 + record_count r - record_count es =
        omega arith in
        record {
          es = es;
          are = subst (λ (n : ℕ). AreEntries d n es) (sym later) are;
          left = omega (arith, small, left);
          text = text;
          same = λ j k. (let e : i + 1 + j ≡ i + suc j = omega arith in
              ap (λ (n : ℕ). class_in d r n k) e ∙ same (suc j) k);
          used = used;
          few = few;
          filling = subst (λ (n : ℕ). IsFilling t w p id b (i + 1) (class_by d r) n) none
              (filling_next t u w p id b i (1 + record_count r - record_count es) 0 (class_by d r)
              (λ k. c) (omega arith) li lt filling lw
              (filled c here)
              (λ k inmap held. sym (child_classes b d i r k deep low li held ∙ same 0 k)));
        })
    by_entries (Record q es) zero at are left text same used few filling = absurd are
    by_entries (Record q es) (suc n) at are left text same used few filling =
        absurd (other (omega (arith, left)))

pub drop_front : (xs ys : List ℕ) → drop (length xs) (xs ++ ys) ≡ ys
drop_front [] ys = refl
drop_front (x ∷ xs) ys = drop_front xs ys

pub drop_more : (xs : List ℕ) (n m : ℕ) → drop m (drop n xs) ≡ drop (n + m) xs
drop_more xs zero m = (let e : m ≡ 0 + m = omega arith in ap (λ (k : ℕ). drop k xs) e)
drop_more [] (suc n) zero =
    (let e : suc (n + 0) ≡ suc n + 0 = omega arith in ap (λ (k : ℕ). drop k []) e)
drop_more [] (suc n) (suc m) =
    (let e : suc (n + suc m) ≡ suc n + suc m = omega arith in ap (λ (k : ℕ). drop k []) e)
drop_more (x ∷ xs) (suc n) m =
    (let e : suc (n + m) ≡ suc n + m = omega arith in drop_more xs n m
    ∙ ap (λ (k : ℕ). drop k (x ∷ xs)) e)

-- after one that is a record
pub under_record : (t u w : Tree) (p : Place) (id : GroupId) (b : Cube) (d : ℕ) (codes : List ℕ)
    (next rest i taken : ℕ) (r : Entries)
    (tail : List ℕ) → b.depth ≡ d → d ≤ 15 → i < 8 → IsLinked t → IsLinked w → rest % 4 ≡ 3
    → IsUnderWay t u p id b d codes next rest i r tail
    → ((q : Entries) (later : List ℕ) → IsRecord (d + 1) q → drop next codes ≡ flat q ++ later
    → IsFilled u w (child_of b i) (class_by (d + 1) q) (1 + record_count q)
    × (taken ≡ length (flat q)))
    → IsUnderWay t w p id b d codes (next + taken) (rest / 4) (i + 1) r tail
unfolding codes_of bodies_of record_count class_in
under_record t u w p id b d codes next rest i taken r tail deep low li lt lw three s filled =
    by_entries s.es (8 - i) refl s.are (sym s.left) s.text s.same s.used s.few s.filling
  where
    by_entries : (es : Entries) (n : ℕ) → 8 - i ≡ n → AreEntries d n es → codes_of es ≡ rest
        → drop next codes ≡ bodies_of es ++ tail
        → ((j : ℕ) (k : Voxel) → class_in d r (i + j) k ≡ class_in d es j k)
        → next + length (bodies_of es) ≡ length (flat r)
        → record_count es ≤ record_count r → IsFilling t u p id b i (class_by d r)
        (1 + record_count r - record_count es)
        → IsUnderWay t w p id b d codes (next + taken) (rest / 4) (i + 1) r tail
    by_entries End zero at are left text same used few filling = absurd (omega arith)
    by_entries End (suc n) at are left text same used few filling = absurd are
    by_entries (Plain c es) zero at are left text same used few filling = absurd are
    by_entries (Plain c es) (suc n) at are left text same used few filling =
        (let small = class_code_below c in absurd (omega (arith, small, left, three)))
    by_entries (Record q es) zero at are left text same used few filling = absurd are
    by_entries (Record q es) (suc n) at (deeper, inner, are) left text same used few filling =
        (let next_depth : suc d ≡ d + 1 = omega arith in
        let front : drop next codes ≡ flat q ++ (bodies_of es ++ tail) =
        text ∙ append_assoc (flat q) (bodies_of es) tail in
        let (done, took) =
        filled q (bodies_of es ++ tail) (subst (λ (d : ℕ). IsRecord d q) next_depth inner) front
        in
        let later : 8 - (i + 1) ≡ n = omega (arith, at, li) in
        let long = length-append (flat q) (bodies_of es) in
        let total : 1 + record_count r - (1 + record_count q + record_count es)
        + (1 + record_count q)
        ≡ 1 + record_count r - record_count es = omega (arith, few) in
        record {
          es = es;
          are = subst (λ (n : ℕ). AreEntries d n es) (sym later) are;
          left = omega (arith, left);
          text = sym (drop_more codes next taken) ∙ ap (drop taken) front
              ∙ ap (λ (n : ℕ). drop n (flat q ++ (bodies_of es ++ tail))) took
              ∙ drop_front (flat q) (bodies_of es ++ tail);
          same = λ j k. (let e : i + 1 + j ≡ i + suc j = omega arith in
              ap (λ (n : ℕ). class_in d r n k) e ∙ same (suc j) k);
          used = omega (arith, used, long, took);
          few = omega (arith, few);
          filling = subst (λ (n : ℕ). IsFilling t w p id b (i + 1) (class_by d r) n) total
              (filling_next t u w p id b i _ (1 + record_count q) (class_by d r)
              (class_by (d + 1) q) (omega arith) li lt filling lw done
              (λ k inmap held. ap (λ (n : ℕ). class_by n q k) (sym next_depth)
              ∙ sym (child_classes b d i r k deep low li held ∙ same 0 k)));
        })

-- after the last child
pub record IsWhole (t u : Tree) (p : Place) (id : GroupId) (b : Cube) (d next : ℕ)
    (r : Entries) : Type 0 where
  pub filling : IsFilling t u p id b 8 (class_by d r) (1 + record_count r)
  pub length : next ≡ length (flat r)

pub under_all : (t u : Tree) (p : Place) (id : GroupId) (b : Cube) (d : ℕ) (codes : List ℕ)
    (next rest i : ℕ) (r : Entries) (tail : List ℕ)
    → i ≡ 8 → IsUnderWay t u p id b d codes next rest i r tail → IsWhole t u p id b d next r
unfolding bodies_of record_count
under_all t u p id b d codes next rest i r tail end s =
    by_entries s.es (8 - i)
    (omega arith) s.are s.used
    (subst (λ (n : ℕ). IsFilling t u p id b n (class_by d r)
    (1 + record_count r - record_count s.es)) end s.filling)
  where
    by_entries : (es : Entries) (n : ℕ) → n ≡ 0 → AreEntries d n es → next + length (bodies_of es)
        ≡ length (flat r)
        → IsFilling t u p id b 8 (class_by d r) (1 + record_count r - record_count es)
        → IsWhole t u p id b d next r
    by_entries End n none are used filling =
        (let whole : 1 + record_count r - 0 ≡ 1 + record_count r = omega arith in record {
          filling = subst (λ (n : ℕ). IsFilling t u p id b 8 (class_by d r) n) whole filling;
          length = omega (arith, used);
        })
    by_entries (Plain c es) zero none are used filling = absurd are
    by_entries (Plain c es) (suc n) none are used filling = absurd (omega arith)
    by_entries (Record q es) zero none are used filling = absurd are
    by_entries (Record q es) (suc n) none are used filling = absurd (omega arith)

-- ---- places in the text

-- there are bytes ahead
pub ahead_within : (d : ℕ) (codes : List ℕ) (next room : ℕ) → IsAhead d codes next room
    → next ≤ length codes
ahead_within d codes next room s =
    let long : length (drop next codes) ≡ length (flat s.r ++ s.tail) = ap length s.text in
    within codes next (let some : 0 < length (flat s.r ++ s.tail) = omega arith in
    omega (arith, long, some))
  where
    within : (xs : List ℕ) (n : ℕ) → 0 < length (drop n xs) → n ≤ length xs
    within xs zero some = omega arith
    within [] (suc n) some = absurd (omega arith)
    within (x ∷ xs) (suc n) some = (let rest = within xs n some in omega arith)

-- the bytes of the record ahead lie within
pub ahead_fits : (d : ℕ) (codes : List ℕ) (next room : ℕ) (s : IsAhead d codes next room)
    → next + length (flat s.r) ≤ length codes
ahead_fits d codes next room s =
    let within = ahead_within d codes next room s in
    let long : length (drop next codes) ≡ length (flat s.r) + length s.tail = ap length s.text
    ∙ length-append (flat s.r) s.tail in
    let all = length-drop next codes in
    omega (arith, long, all, within)

-- ---- how many records there are

-- how long the text of a record is, by its records
bodies_counted : (es : Entries) → length (bodies_of es) ≡ 2 * record_count es
unfolding bodies_of record_count
bodies_counted End = refl
bodies_counted (Plain c es) = bodies_counted es
bodies_counted (Record r es) =
    let all = length-append (flat r) (bodies_of es) in
    let here = bodies_counted r in
    let later = bodies_counted es in
    omega (arith, all, here, later)

pub flat_counted : (r : Entries) → length (flat r) ≡ 2 * (1 + record_count r)
flat_counted r = (let all = bodies_counted r in omega (arith, all))

-- ---- records of eight equal leaves

pub record IsLeafRow (d n : ℕ) (es : Entries) (c : Class) : Type 0 where
  pub classes : (j : ℕ) (k : Voxel) → j < n → class_in d es j k ≡ c
  pub none : length (bodies_of es) ≡ 0

pub leaf_row : (es : Entries) (d n : ℕ) (c : Class) → AreEntries d n es
    → codes_of es ≡ repeated (class_code c) n → IsLeafRow d n es c
unfolding codes_of bodies_of class_in repeated
leaf_row End d zero c are codes = record { classes = λ j k l. absurd (omega arith); none = refl }
leaf_row End d (suc n) c are codes = absurd are
leaf_row (Plain x es) d zero c are codes = absurd are
leaf_row (Plain x es) d (suc n) c are codes =
    let few = class_code_below x in
    let few' = class_code_below c in
    let here : class_code x ≡ class_code c = omega (arith, codes, few, few') in
    let rest : codes_of es ≡ repeated (class_code c) n = omega (arith, codes, few, few') in
    let later = leaf_row es d n c are rest in
    record { classes = by later (class_of_code x c here); none = later.none }
  where
    by : IsLeafRow d n es c → x ≡ c → (j : ℕ) (k : Voxel) → j < suc n → class_in d (Plain x es) j k
        ≡ c
    by later same zero k l = same
    by later same (suc j) k l = later.classes j k (omega arith)
leaf_row (Record r es) d zero c are codes = absurd are
leaf_row (Record r es) d (suc n) c are codes =
    (let few = class_code_below c in absurd (omega (arith, codes, few)))

-- the code of a class, repeated
first_repeated : (x : Class) → repeated (class_code x) 8 % 4 ≡ class_code x
unfolding repeated
first_repeated Unknown = refl
first_repeated Free = refl
first_repeated Occupied = refl

-- a record of eight equal leaves makes one of its block
pub plain_filled : (t u : Tree) (b : Cube) (d : ℕ) (codes : List ℕ) (r : Entries) (tail : List ℕ)
    (first second : ℕ) → IsRecord d r
    → codes ≡ flat r ++ tail → first ≡ get_or codes 0 0 → second ≡ get_or codes 1 0
    → is_plain (first + 256 * second) ≡ true
    → ((c : Class) → class_code c ≡ (first + 256 * second) % 4 → IsFilled t u b (λ k. c) 0)
    → IsFilled t u b (class_by d r) (1 + record_count r) × (2 ≡ length (flat r))
plain_filled t u b d codes r tail first second is text one two plain filled =
    let a : first ≡ codes_of r % 256 = one ∙ ap (λ t. get_or t 0 0) text in
    let e : second ≡ codes_of r / 256 = two ∙ ap (λ t. get_or t 1 0) text in
    let whole : first + 256 * second ≡ codes_of r = omega (arith, a, e) in
    by (plain_class (first + 256 * second) plain) whole
  where
    by : ((x : Class) × (first + 256 * second ≡ repeated (class_code x) 8)) → first + 256 * second
        ≡ codes_of r
        → IsFilled t u b (class_by d r) (1 + record_count r) × (2 ≡ length (flat r))
    by (x, same) whole =
        let row = leaf_row r d 8 x is (sym whole ∙ same) in
        let f = filled x (sym (ap (λ (n : ℕ). n % 4) same ∙ first_repeated x)) in
        let room = f.room in
        let none = row.none in (
          record {
            whole = record {
              inside = λ k inmap held. f.whole.inside k inmap held
                  ∙ ap (value_for t.odds)
                  (sym (row.classes (child_index_of d k) k (child_index_below d k)));
              outside = f.whole.outside;
              tidy = f.whole.tidy;
            };
            room = omega (arith, room);
          },
          omega (arith, none),
        )

-- ---- the whole map

-- what the whole map is asked
pub record IsRoot (codes : List ℕ) (room : ℕ) : Type 0 where
  pub r : Entries
  pub is : IsRecord 0 r
  pub text : codes ≡ flat r ++ []
  pub enough : 1 + record_count r ≤ room

pub root_asked : (codes : List ℕ) (size n : ℕ) → 0 < length codes → IsAccepted size codes
    → length codes / 2 ≤ n → IsRoot codes n
root_asked codes size n some (inl (none, empty)) room =
    (let l : length codes ≡ 0 = ap length empty in absurd (omega (arith, l, some)))
root_asked codes size n some (inr (r, is, text, total)) room = record {
  r = r;
  is = is;
  text = text ∙ sym (append-nil (flat r));
  enough = (let l : length codes ≡ length (flat r) = ap length text in let m = flat_counted r in
      omega (arith, l, m, room));
}

-- the values of the whole map
pub root_filled : (t u : Tree) (codes : List ℕ) (c : Classes) → IsDataOf c codes → 0 < length codes
    → ((r : Entries) (tail : List ℕ) → IsRecord 0 r → codes ≡ flat r ++ tail
    → IsFilled t u root_block (class_by 0 r) (1 + record_count r))
    → (k : Voxel) → IsInMap k → value_at u k ≡ value_for t.odds (c k)
root_filled t u codes c (inl (empty, all)) some filled k ok =
    (let l : length codes ≡ 0 = ap length empty in absurd (omega (arith, l, some)))
root_filled t u codes c (inr (r, is, text, gives)) some filled k ok =
    (filled r [] is (text ∙ sym (append-nil (flat r)))).whole.inside k ok (root_holds k ok)
    ∙ ap (value_for t.odds) (gives k ok)

pub none_filled : (t : Tree) (codes : List ℕ) (c : Classes) → IsLinked t → t.root ≡ Absent
    → IsDataOf c codes → length codes ≡ 0
    → (k : Voxel) → IsInMap k → value_at t k ≡ value_for t.odds (c k)
none_filled t codes c l none (inl (empty, all)) few k ok =
    place_value t Root root_block l tt refl (ap link_of none) k ok (root_holds k ok)
    ∙ ap value_of none ∙ sym (ap (value_for t.odds) (all k ok))
none_filled t codes c l none (inr (r, is, text, gives)) few k ok =
    (let m : length codes ≡ length (flat r) = ap length text in absurd (omega (arith, m, few)))

-- how many groups there are, and how much room is left
pub record HasFilled (t u : Tree) (most : ℕ) : Type 0 where
  pub fresh : IsFresh u
  pub pruned : IsPruned u
  pub groups : live u.groups ≤ most
  pub spare : live u.groups + spare u.groups ≡ spare t.groups

pub unfilled : (t : Tree) (n : ℕ) → IsShaped t → IsLinked t → t.root ≡ Absent → HasFilled t t n
unfilled t n shape l none =
    let empty = none_live t.groups (shape.bare (ap link_of none)) in
    let tidy = tidy_whole t l (tidy_leaf t Root root_block l tt refl (ap link_of none)) in
    record {
      fresh = tidy.fresh;
      pruned = tidy.pruned;
      groups = omega (arith, empty);
      spare = omega (arith, empty);
    }

pub has_filled : (t u : Tree) (codes whole : List ℕ) (size : ℕ) → codes ≡ whole → 0 < length codes
    → IsAccepted size codes
    → length whole / 2 ≤ spare t.groups → IsShaped t → IsLinked u → t.root ≡ Absent
    → ((r : Entries) (tail : List ℕ) → IsRecord 0 r → codes ≡ flat r ++ tail
    → IsFilled t u root_block (class_by 0 r) (1 + record_count r))
    → HasFilled t u (length whole / 2)
has_filled t u codes whole size same some accepted room shape l none filled =
    by (root_asked codes size (spare t.groups) some accepted
    (subst (λ (bytes : List ℕ). length bytes / 2 ≤ spare t.groups) (sym same) room))
  where
    by : IsRoot codes (spare t.groups) → HasFilled t u (length whole / 2)
    by r =
        let f = filled r.r [] r.is r.text in
        let empty = none_live t.groups (shape.bare (ap link_of none)) in
        let tidy = tidy_whole u l f.whole.tidy in
        let before = live_spare t.groups in
        let after = live_spare u.groups in
        let kept = f.whole.outside.length in
        let taken = f.room in
        let long : length whole ≡ length (flat r.r) =
        ap length (sym same ∙ r.text ∙ append-nil (flat r.r)) in
        let counted = flat_counted r.r in
        record {
          fresh = tidy.fresh;
          pruned = tidy.pruned;
          groups = omega (arith, empty, before, after, kept, taken, long, counted);
          spare = omega (arith, empty, before, after, kept);
        }

-- what a file makes of a tree of the unknown world
pub record IsFilledFrom (t u : Tree) (codes : List ℕ) : Type 0 where
  pub filled : HasFilled t u (length codes / 2)
  pub values : (classes : Classes) → IsDataOf classes codes → (k : Voxel) → IsInMap k
      → value_at u k ≡ value_for t.odds (classes k)
  pub entries : length u.groups ≡ length t.groups
  pub res : u.res ≡ t.res
  pub odds : u.odds ≡ t.odds

-- with records
pub filled_from : (t u : Tree) (codes whole : List ℕ) (size : ℕ) → codes ≡ whole → 0 < length codes
    → IsAccepted size whole → length whole / 2 ≤ spare t.groups → IsShaped t → IsLinked u
    → t.root ≡ Absent
    → ((r : Entries) (tail : List ℕ) → IsRecord 0 r → codes ≡ flat r ++ tail
    → IsFilled t u root_block (class_by 0 r) (1 + record_count r))
    → IsFilledFrom t u whole
filled_from t u codes whole size same some accepted room shape l none filled =
    let fit : IsAccepted size codes = subst (IsAccepted size) (sym same) accepted in
    let r = root_asked codes size (spare t.groups) some fit
    (subst (λ (bytes : List ℕ). length bytes / 2 ≤ spare t.groups) (sym same) room) in
    let outside = (filled r.r [] r.is r.text).whole.outside in
    record {
      filled = has_filled t u codes whole size same some fit room shape l none filled;
      values = λ classes is k ok. root_filled t u codes classes
          (subst (IsDataOf classes) (sym same) is) some filled k ok;
      entries = outside.length;
      res = outside.res;
      odds = outside.odds;
    }

-- without any
pub unfilled_from : (t : Tree) (codes whole : List ℕ) → codes ≡ whole → length codes ≡ 0
    → IsShaped t → IsLinked t → t.root ≡ Absent → IsFilledFrom t t whole
unfilled_from t codes whole same few shape l none = record {
  filled = unfilled t (length whole / 2) shape l none;
  values = λ classes is k ok. none_filled t codes classes l none
      (subst (IsDataOf classes) (sym same) is) few k ok;
  entries = refl;
  res = refl;
  odds = refl;
}
