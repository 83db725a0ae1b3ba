-- A canonical file is read back.
use Rattle.std.proofs.Common.{◌≡◌, ℕ, ◌^◌, ◌<◌, ◌≤◌, pos, Bool, true, false, List, [], ◌∷◌, ◌++◌}
use Rattle.std.proofs.Common.{length, refl, sym, subst, ◌∙◌, ap, arith, length-append, Ok, nat_le}
use Rattle.std.proofs.Common.{nat_eq, Some, get_or}
use Rattle.std.specs.Prelude.{codes}
use Rattle.std.specs.List.{AllPass}
use Rattle.std.specs.Fmt.{decimal}
use Rattle.std.proofs.Math.Seq.{drop-append_seam}
use Rattle.std.proofs.lemmas.Bool.{and_parts, leb-true, le-leb, ne_eqb}
use Rattle.std.proofs.lemmas.Fmt.{length-decimal-le, digits_value-decimal}
use Rattle.std.proofs.lemmas.List.Elements.{All-append, All-cons, All-nil}
use Rattle.oct_num.specs.Decimal.{is_digit}
use Rattle.oct_num.specs.Form.{IsMetres, fraction_text}
use Rattle.oct_num.specs.Metres.{metres_of}
use Rattle.oct_num.specs.MetresText.{metres_text}
use Rattle.oct_num.specs.Sign.{sign_text}
use Rattle.oct_num.specs.Whole.{natural_of}
use Rattle.oct_num.proofs.FormLaw.{value_law}
use Rattle.oct_num.proofs.MetresWriting.{numerals, whole_digits, text_reads}
use Rattle.oct_num.proofs.WholeLaw.{natural_read}
use Rattle.oct_key.specs.Voxel.{IsResolution}
use Rattle.oct_values.specs.Classes.{Classes}
use Rattle.oct_bt.specs.Canonical.{canonical_data, canonical_size}
use Rattle.oct_bt.specs.NodeData.{read_nodes}
use Rattle.oct_bt.specs.Header.{is_line_feed, is_blank, resolution_of}
use Rattle.oct_bt.specs.File.{text_of_lines, header_lines, header_text, bt_text, file_with}
use Rattle.oct_bt.specs.File.{after_header, reading}
use Rattle.oct_bt.proofs.Sizes.{accepted_few}
use Rattle.oct_bt.proofs.Standing.{canonical_accepted, canonical_reads}
use Rattle.oct_bt.proofs.WrittenHeaders.{IsFieldText, header_length, header_written}

-- ---- the texts of the fields

digit_plain : (b : ℕ) → is_digit b ≡ true → (is_line_feed b ≡ false) × (nat_eq b 13 ≡ false)
    × (is_blank b ≡ false)
digit_plain b digit =
    let test = and_parts (nat_le 48 b) (nat_le b 57) digit in
    let low = leb-true 48 b test.0 in (
      ne_eqb b 10 (λ e. omega (arith, e, low)),
      ne_eqb b 13 (λ e. omega (arith, e, low)),
      rw (ne_eqb b 32 (λ e. omega (arith, e, low)), ne_eqb b 9 (λ e. omega (arith, e, low))) refl,
    )

field_digits : (text : List ℕ) → AllPass is_digit text → IsFieldText text
field_digits text all = record {
  no_feed = λ k d l. (digit_plain (get_or text k d) (all k d l)).0;
  no_return = λ k d l. (digit_plain (get_or text k d) (all k d l)).1;
  no_blank = λ k d l. (digit_plain (get_or text k d) (all k d l)).2;
}

field_append : (a b : List ℕ) → IsFieldText a → IsFieldText b → IsFieldText (a ++ b)
field_append a b s t = record {
  no_feed = All-append (λ b. is_line_feed b ≡ false) a b s.no_feed t.no_feed;
  no_return = All-append (λ b. nat_eq b 13 ≡ false) a b s.no_return t.no_return;
  no_blank = All-append (λ b. is_blank b ≡ false) a b s.no_blank t.no_blank;
}

field_nil : IsFieldText []
field_nil = record {
  no_feed = All-nil (λ b. is_line_feed b ≡ false);
  no_return = All-nil (λ b. nat_eq b 13 ≡ false);
  no_blank = All-nil (λ b. is_blank b ≡ false);
}

-- a point, and a minus
field_byte : (b : ℕ) (text : List ℕ) → is_line_feed b ≡ false → nat_eq b 13 ≡ false
    → is_blank b ≡ false → IsFieldText text → IsFieldText (b ∷ text)
field_byte b text feed return blank s = record {
  no_feed = All-cons (λ b. is_line_feed b ≡ false) b text feed s.no_feed;
  no_return = All-cons (λ b. nat_eq b 13 ≡ false) b text return s.no_return;
  no_blank = All-cons (λ b. is_blank b ≡ false) b text blank s.no_blank;
}

field_fraction : (digits : List ℕ) → AllPass is_digit digits → IsFieldText (fraction_text digits)
field_fraction [] all = field_nil
field_fraction (d ∷ digits) all =
    field_byte 46 (d ∷ digits) refl refl refl (field_digits (d ∷ digits) all)

field_sign : (minus : Bool) → IsFieldText (sign_text minus)
field_sign true = field_byte 45 [] refl refl refl field_nil
field_sign false = field_nil

-- the text of a resolution
record IsResText (text : List ℕ) (res : ℕ) : Type 0 where
  field : IsFieldText text
  some : 0 < length text
  few : length text ≤ 100
  read : resolution_of (metres_of text) ≡ Some res

fraction_few : (digits : List ℕ) → length digits ≤ 9 → length (fraction_text digits) ≤ 10
fraction_few [] few = omega arith
fraction_few (d ∷ digits) few = omega (arith, few)

sign_few : (minus : Bool) → length (sign_text minus) ≤ 1
sign_few true = omega arith
sign_few false = omega arith

res_text : (res : ℕ) → IsResolution res → IsResText (metres_text (pos res)) res
res_text res (low, high) =
    let reads : metres_of (metres_text (pos res)) ≡ Ok (pos res) =
    text_reads (pos res) (metres_text (pos res)) refl (omega (arith, high)) in
    let m : IsMetres (metres_text (pos res)) (pos res) =
    (value_law (metres_text (pos res)) (metres_of (metres_text (pos res))) refl (pos res)).0
    reads in
    let parts = length-append (sign_text m.form.minus)
    (m.form.whole ++ fraction_text m.form.fraction) in
    let digits = length-append m.form.whole (fraction_text m.form.fraction) in
    record {
      field = subst IsFieldText (sym m.form.spelled)
          (field_append (sign_text m.form.minus) (m.form.whole ++ fraction_text m.form.fraction)
          (field_sign m.form.minus)
          (field_append m.form.whole (fraction_text m.form.fraction)
          (field_digits m.form.whole m.form.before.all)
          (field_fraction m.form.fraction m.form.behind)));
      some = omega (arith, ap length m.form.spelled, parts, digits, m.form.before.some);
      few = omega (
        arith,
        ap length m.form.spelled,
        parts,
        digits,
        m.before,
        fraction_few m.form.fraction m.behind,
        sign_few m.form.minus,
      );
      read = ap resolution_of reads ∙ rw (le-leb 100000 res low, le-leb res 100000000000 high) refl;
    }

-- the text of a size
size_reads : (n : ℕ) → n < 10 ^ 16 → natural_of (decimal n) ≡ Some n
size_reads n small =
    natural_read (decimal n) (whole_digits n (omega (arith, small)))
    (omega (arith, length-decimal-le 16 n (omega arith) small (omega (arith, small))))
    ∙ ap Some (digits_value-decimal numerals n (omega (arith, small)))

-- ---- a header

some_first : (xs : List ℕ) → 0 < length xs → (x : ℕ) × (rest : List ℕ) × (xs ≡ x ∷ rest)
some_first [] some = absurd (omega arith)
some_first (x ∷ rest) some = (x, rest, refl)

header_long : (a b : List ℕ) → length (text_of_lines (header_lines a b)) ≡ header_length a b
unfolding text_of_lines
header_long a b =
    let one = length-append a (10 ∷ ((codes "res " ++ b) ++ (10 ∷ (codes "data" ++ (10 ∷ []))))) in
    let two = length-append b (10 ∷ (codes "data" ++ (10 ∷ []))) in
    omega (arith, one, two)

header_few : (a b : List ℕ) → length a ≤ 100 → length b ≤ 100 → header_length a b ≤ 65536
header_few a b l m = omega (arith, l, m)

-- the texts of a size and of a resolution, as a header has them
pub record HeaderTexts (size res : ℕ) : Type 0 where
  pub d : ℕ
  pub ds : List ℕ
  pub e : ℕ
  pub es : List ℕ
  pub size_is : decimal size ≡ d ∷ ds
  pub res_is : metres_text (pos res) ≡ e ∷ es
  pub size_field : IsFieldText (d ∷ ds)
  pub res_field : IsFieldText (e ∷ es)
  pub few : length (text_of_lines (header_lines (d ∷ ds) (e ∷ es))) ≤ 65536
  pub number : natural_of (d ∷ ds) ≡ Some size
  pub edge : resolution_of (metres_of (e ∷ es)) ≡ Some res

pub header_texts : (size res : ℕ) → size < 10 ^ 16 → IsResolution res → HeaderTexts size res
header_texts size res small is =
    let said = res_text res is in
    let digits = whole_digits size (omega (arith, small)) in
    let (d, ds, size_is) = some_first (decimal size) digits.some in
    let (e, es, res_is) = some_first (metres_text (pos res)) said.some in
    let size_few : length (decimal size) ≤ 100 =
    omega (arith, length-decimal-le 16 size (omega arith) small (omega (arith, small))) in
    let long = header_long (d ∷ ds) (e ∷ es) in
    let few = header_few (d ∷ ds) (e ∷ es) (subst (λ t. length t ≤ 100) size_is size_few)
    (subst (λ t. length t ≤ 100) res_is said.few) in
    record {
      d = d;
      ds = ds;
      e = e;
      es = es;
      size_is = size_is;
      res_is = res_is;
      size_field = subst IsFieldText size_is (field_digits (decimal size) digits.all);
      res_field = subst IsFieldText res_is said.field;
      few = omega (arith, long, few);
      number = ap natural_of (sym size_is) ∙ size_reads size small;
      edge = ap (λ t. resolution_of (metres_of t)) (sym res_is) ∙ said.read;
    }

-- ---- a file

-- node data after a header that is written is read as node data
pub after_written : (size res : ℕ) (t : HeaderTexts size res) (bytes : List ℕ)
    → reading (text_of_lines (header_lines (t.d ∷ t.ds) (t.e ∷ t.es)) ++ bytes)
    ≡ file_with (record {
      res = res;
      size = size;
      start = length (text_of_lines (header_lines (t.d ∷ t.ds) (t.e ∷ t.es)));
    })
    (read_nodes (length (text_of_lines (header_lines (t.d ∷ t.ds) (t.e ∷ t.es)))) size bytes)
unfolding reading
after_written size res t bytes =
    let long = header_long (t.d ∷ t.ds) (t.e ∷ t.es) in
    let header =
    header_written t.d t.e t.ds t.es bytes size res t.size_field t.res_field t.few t.number
    t.edge in
    let lines : List ℕ = text_of_lines (header_lines (t.d ∷ t.ds) (t.e ∷ t.es)) in
    ap (after_header (lines ++ bytes))
    (header ∙ ap (λ (n : ℕ). Ok (record { res = res; size = size; start = n })) (sym long))
    ∙ ap (λ rest. file_with (record { res = res; size = size; start = length lines })
    (read_nodes (length lines) size rest)) (drop-append_seam lines bytes)

pub file_back : (res : ℕ) (c : Classes) → IsResolution res
    → reading (bt_text res c) ≡ Ok (record {
      res = res;
      codes = canonical_data c;
      nodes = canonical_size c;
    })
unfolding bt_text header_text
file_back res c is =
    let small : canonical_size c < 10 ^ 16 = accepted_few (canonical_size c) (canonical_data c)
    (canonical_accepted c) in
    let t = header_texts (canonical_size c) res small is in
    let lines : List ℕ = text_of_lines (header_lines (t.d ∷ t.ds) (t.e ∷ t.es)) in
    ap (λ a. reading (text_of_lines (header_lines a (metres_text (pos res))) ++ canonical_data c))
    t.size_is
    ∙ ap (λ b. reading (text_of_lines (header_lines (t.d ∷ t.ds) b) ++ canonical_data c)) t.res_is
    ∙ after_written (canonical_size c) res t (canonical_data c)
    ∙ ap (file_with (record { res = res; size = canonical_size c; start = length lines }))
    (canonical_reads c (length lines))
