-- The fields of a snapshot's text are read back.
use Rattle.std.proofs.Common.{◌≡◌, ℕ, ◌^◌, ◌<◌, ◌≤◌, Option, Some, None, List, [], ◌∷◌, ◌++◌}
use Rattle.std.proofs.Common.{length, drop, append_assoc, refl, sym, ◌∙◌, ap, arith, cond}
use Rattle.std.specs.Prelude.{ℤ, Bool, true, false, IfSome, codes, slice_index, Result, Ok, Err}
use Rattle.std.proofs.lemmas.Int.{ints}
use Rattle.std.proofs.lemmas.Nat.{from_be_bytes-to_be_bytes_2, from_be_bytes-to_be_bytes_8}
use mir.Val.{SFits}
use mir.Syntax.{w32}
use Rattle.oct_key.specs.Voxel.{Voxel, IsInMap}
use Rattle.oct_key.specs.Boxes.{Window, IsBox, is_box}
use Rattle.oct_key.proofs.Boxes.{box_exactly}
use Rattle.oct_odds.specs.Odds.{Odds, odds, IsSound, IsSmall, first_bad_field}
use Rattle.oct_odds.proofs.Soundness.{none_from_sound}
use Rattle.oct_snap.specs.declared.fault.SnapFault.{SnapFault}
use Rattle.oct_snap.specs.declared.fault.SnapFault.TheVariants.{Truncated}
use Rattle.oct_snap.specs.Texts.{odds_bytes, voxel_bytes, window_bytes, res_bytes, head_bytes}
use Rattle.oct_snap.specs.Reading.{Fields, fields, voxel_at, read_corners, read_window, odds_at}
use Rattle.oct_snap.specs.Reading.{read_odds, read_version, res_at, is_resolution, read_res}
use Rattle.oct_snap.specs.Reading.{read_fields}
use Rattle.oct_snap.proofs.Numbers.{number_back}
use Rattle.oct_snap.proofs.Fields.{not_less_test, res_test, odds_are}

-- ---- pieces at their places

-- what follows the magic
abbrev file_of : List ℕ → List ℕ
file_of rest = codes "OCTSNAP2" ++ rest

magic_back : (o : Odds) (rest : List ℕ) → read_fields o (file_of rest)
    ≡ read_res o (file_of rest) false
unfolding read_fields
magic_back o rest = refl

res_back : (n : ℕ) (rest : List ℕ) → n < 2 ^ 64 → res_at (file_of (res_bytes n ++ rest)) ≡ n
res_back n rest few = from_be_bytes-to_be_bytes_8 n few

small_fits : (n : ℤ) → IsSmall n → SFits w32 n
small_fits n small = (let (low, high) = small in omega (arith, ints, low, high))

odds_back : (res : ℕ) (o : Odds) (rest : List ℕ) → IsSound o
    → o ≡ odds_at (file_of (res_bytes res ++ (odds_bytes o ++ rest)))
odds_back res o rest sound =
    let (hit, miss, min, max, thr) = sound.small in
    odds_are o.hit o.miss o.min o.max o.thr (file_of (res_bytes res ++ (odds_bytes o ++ rest)))
    (sym (number_back o.hit (small_fits o.hit hit)))
    (sym (number_back o.miss (small_fits o.miss miss)))
    (sym (number_back o.min (small_fits o.min min)))
    (sym (number_back o.max (small_fits o.max max)))
    (sym (number_back o.thr (small_fits o.thr thr)))

byte_back : (res : ℕ) (o : Odds) (byte : ℕ) (rest : List ℕ)
    → slice_index (file_of (res_bytes res ++ (odds_bytes o ++ (byte ∷ rest)))) 36 ≡ byte
byte_back res o byte rest = refl

voxel_is : (a b c : ℕ) (k : Voxel) → a ≡ k.x → b ≡ k.y → c ≡ k.z
    → ◌≡◌ {A = Voxel} (record { x = a; y = b; z = c }) k
voxel_is a b c k x y z = rw (x, y, z) refl

low_back : (res : ℕ) (o : Odds) (w : Window) (rest : List ℕ) → IsInMap w.lo
    → voxel_at (file_of (res_bytes res ++ (odds_bytes o ++ (1 ∷ (voxel_bytes w.lo ++ rest))))) 37
    ≡ w.lo
low_back res o w rest ok =
    let x = ok.x in let y = ok.y in let z = ok.z in
    voxel_is _ _ _ w.lo (from_be_bytes-to_be_bytes_2 w.lo.x (omega (arith, x)))
    (from_be_bytes-to_be_bytes_2 w.lo.y (omega (arith, y)))
    (from_be_bytes-to_be_bytes_2 w.lo.z (omega (arith, z)))

high_back : (res : ℕ) (o : Odds) (w : Window) (rest : List ℕ) → IsInMap w.hi
    → voxel_at (file_of
    (res_bytes res ++ (odds_bytes o ++ (1 ∷ (voxel_bytes w.lo ++ (voxel_bytes w.hi ++ rest))))))
    43 ≡ w.hi
high_back res o w rest ok =
    let x = ok.x in let y = ok.y in let z = ok.z in
    voxel_is _ _ _ w.hi (from_be_bytes-to_be_bytes_2 w.hi.x (omega (arith, x)))
    (from_be_bytes-to_be_bytes_2 w.hi.y (omega (arith, y)))
    (from_be_bytes-to_be_bytes_2 w.hi.z (omega (arith, z)))

-- ---- the fields, test by test

abbrev Read : Type 0
Read = Result Fields SnapFault

version_by : (o : Odds) (file : List ℕ) (res : ℕ) → 37 ≤ length file
    → first_bad_field (odds_at file) ≡ None
    → read_version o file res false ≡ read_window file res (odds_at file) (slice_index file 36)
version_by o file res many sound =
    ap (λ (b : Bool). cond {A = Read} b (Err (Truncated (length file)))
    (read_odds file res (first_bad_field (odds_at file))))
    (not_less_test (length file) 36 (omega (arith, many)))
    ∙ ap (read_odds file res) sound
    ∙ ap (λ (b : Bool). cond {A = Read} b (Err (Truncated (length file)))
    (read_window file res (odds_at file) (slice_index file 36)))
    (not_less_test (length file) 37 many)

-- the fields up to the byte that says whether there is a box
fields_by_window : (o : Odds) (res : ℕ) (odds : Odds) (byte : ℕ) (file rest : List ℕ)
    → file ≡ file_of (res_bytes res ++ (odds_bytes odds ++ (byte ∷ rest)))
    → 37 ≤ length file → is_resolution res ≡ true → res < 2 ^ 64 → IsSound odds
    → read_fields o file ≡ read_window file res odds byte
fields_by_window o res odds byte file rest is many ok few sound =
    let same_odds : odds ≡ odds_at file = odds_back res odds (byte ∷ rest) sound
    ∙ ap odds_at (sym is) in
    let same_res : res_at file ≡ res = ap res_at is
    ∙ res_back res (odds_bytes odds ++ (byte ∷ rest)) few in
    let same_byte : slice_index file 36 ≡ byte = ap (λ (t : List ℕ). slice_index t 36) is
    ∙ byte_back res odds byte rest in
    ap (read_fields o) is ∙ magic_back o (res_bytes res ++ (odds_bytes odds ++ (byte ∷ rest)))
    ∙ ap (λ (t : List ℕ). read_res o t false) (sym is)
    ∙ res_test o file false true (omega (arith, many)) (ap is_resolution same_res ∙ ok)
    ∙ ap (λ (n : ℕ). read_version o file n false) same_res
    ∙ version_by o file res many (ap first_bad_field (sym same_odds) ∙ none_from_sound odds sound)
    ∙ ap (λ (p : Odds). read_window file res p (slice_index file 36)) (sym same_odds)
    ∙ ap (read_window file res odds) same_byte

-- ---- the whole head

four_joined : (a b c d e : List ℕ) → (a ++ (b ++ (c ++ d))) ++ e ≡ a ++ (b ++ (c ++ (d ++ e)))
four_joined a b c d e = append_assoc a (b ++ (c ++ d)) e ∙ ap (λ (t : List ℕ). a ++ t)
    (append_assoc b (c ++ d) e
    ∙ ap (λ (t : List ℕ). b ++ t) (append_assoc c d e))

-- the fields are read, and the rest of the text stands after them
pub record IsHeadBack (o : Odds) (res : ℕ) (odds : Odds) (window : Option Window)
    (text : List ℕ) : Type 0 where
  pub start : ℕ
  pub read : read_fields o (head_bytes res odds window ++ text)
      ≡ Ok (fields res 2 odds window start)
  pub behind : drop start (head_bytes res odds window ++ text) ≡ text

none_back : (o : Odds) (res : ℕ) (odds : Odds) (text : List ℕ) → is_resolution res ≡ true
    → res < 2 ^ 64 → IsSound odds
    → IsHeadBack o res odds None text
none_back o res odds text ok few sound =
    let is : head_bytes res odds None ++ text
    ≡ file_of (res_bytes res ++ (odds_bytes odds ++ (0 ∷ text)))
    = four_joined (codes "OCTSNAP2") (res_bytes res) (odds_bytes odds) (0 ∷ []) text in
    let long = ap length is in
    record {
      start = 37;
      read = fields_by_window o res odds 0 (head_bytes res odds None ++ text) text is
          (omega (arith, long)) ok few sound;
      behind = ap (drop 37) is;
    }

box_read : (res : ℕ) (odds : Odds) (w : Window) (file rest : List ℕ)
    → file ≡ file_of
    (res_bytes res ++ (odds_bytes odds ++ (1 ∷ (voxel_bytes w.lo ++ (voxel_bytes w.hi ++ rest)))))
    → 49 ≤ length file → IsInMap w.lo → IsInMap w.hi → IsBox w.lo w.hi
    → read_window file res odds 1 ≡ Ok (fields res 2 odds (Some w) 49)
box_read res odds w file rest is many low high box =
    let lo : voxel_at file 37 ≡ w.lo = ap (λ (t : List ℕ). voxel_at t 37) is
    ∙ low_back res odds w (voxel_bytes w.hi ++ rest) low in
    let hi : voxel_at file 43 ≡ w.hi = ap (λ (t : List ℕ). voxel_at t 43) is
    ∙ high_back res odds w rest high in
    let test : is_box w.lo w.hi ≡ true = (box_exactly w.lo w.hi).1 box in
    ap (λ (b : Bool). cond {A = Read} b (Err (Truncated (length file)))
    (read_corners file res odds (is_box (voxel_at file 37) (voxel_at file 43))))
    (not_less_test (length file) 49 many)
    ∙ ap (read_corners file res odds)
    (ap (λ (k : Voxel). is_box k (voxel_at file 43)) lo ∙ ap (is_box w.lo) hi ∙ test)
    ∙ ap (λ (k : Voxel). Ok
    (fields res 2 odds (Some (record { lo = k; hi = voxel_at file 43 })) 49)) lo
    ∙ ap (λ (k : Voxel). Ok (fields res 2 odds (Some (record { lo = w.lo; hi = k })) 49)) hi

some_back : (o : Odds) (res : ℕ) (odds : Odds) (w : Window) (text : List ℕ) → is_resolution res
    ≡ true → res < 2 ^ 64 → IsSound odds
    → IsInMap w.lo → IsInMap w.hi → IsBox w.lo w.hi → IsHeadBack o res odds (Some w) text
some_back o res odds w text ok few sound low high box =
    let is : head_bytes res odds (Some w) ++ text
    ≡ file_of (res_bytes res
    ++ (odds_bytes odds ++ (1 ∷ (voxel_bytes w.lo ++ (voxel_bytes w.hi ++ text)))))
    = four_joined (codes "OCTSNAP2") (res_bytes res) (odds_bytes odds) (window_bytes (Some w)) text
    ∙ ap (λ (t : List ℕ). file_of (res_bytes res ++ (odds_bytes odds ++ (1 ∷ t))))
    (append_assoc (voxel_bytes w.lo) (voxel_bytes w.hi) text) in
    let long = ap length is in
    record {
      start = 49;
      read = fields_by_window o res odds 1 (head_bytes res odds (Some w) ++ text)
          (voxel_bytes w.lo ++ (voxel_bytes w.hi ++ text)) is
          (omega (arith, long)) ok few sound
          ∙ box_read res odds w (head_bytes res odds (Some w) ++ text) text is (omega (arith, long))
          low high box;
      behind = ap (drop 49) is;
    }

resolution : (res : ℕ) → 100000 ≤ res → res ≤ 100000000000 → is_resolution res ≡ true
resolution res least most = grind (arith, least, most)

pub head_back : (o : Odds) (res : ℕ) (odds : Odds) (window : Option Window) (text : List ℕ)
    → (100000 ≤ res) × (res ≤ 100000000000)
    → IsSound odds → IfSome window (λ w. IsInMap w.lo × IsInMap w.hi × IsBox w.lo w.hi)
    → IsHeadBack o res odds window text
head_back o res odds None text (least, most) sound box =
    none_back o res odds text (resolution res least most) (omega (arith, most)) sound
head_back o res odds (Some w) text (least, most) sound (low, high, box) =
    some_back o res odds w text (resolution res least most) (omega (arith, most)) sound low high box

-- ---- the older form

abbrev old_file_of : List ℕ → List ℕ
old_file_of rest = codes "OCTSNAP1" ++ rest

old_magic_back : (o : Odds) (rest : List ℕ) → read_fields o (old_file_of rest)
    ≡ read_res o (old_file_of rest) true
unfolding read_fields
old_magic_back o rest = refl

old_res_back : (n : ℕ) (rest : List ℕ) → n < 2 ^ 64 → res_at (old_file_of (res_bytes n ++ rest)) ≡ n
old_res_back n rest few = from_be_bytes-to_be_bytes_8 n few

pub record IsOldBack (o : Odds) (res : ℕ) (text : List ℕ) : Type 0 where
  pub read : read_fields o ((codes "OCTSNAP1" ++ res_bytes res) ++ text)
      ≡ Ok (fields res 1 o None 16)
  pub behind : drop 16 ((codes "OCTSNAP1" ++ res_bytes res) ++ text) ≡ text

pub old_back : (o : Odds) (res : ℕ) (text : List ℕ) → (100000 ≤ res) × (res ≤ 100000000000)
    → IsOldBack o res text
old_back o res text (least, most) =
    let file = (codes "OCTSNAP1" ++ res_bytes res) ++ text in
    let is : file ≡ old_file_of (res_bytes res ++ text) =
    append_assoc (codes "OCTSNAP1") (res_bytes res) text in
    let long = ap length is in
    let same : res_at file ≡ res = ap res_at is ∙ old_res_back res text (omega (arith, most)) in
    record {
      read = ap (read_fields o) is ∙ old_magic_back o (res_bytes res ++ text)
          ∙ ap (λ (t : List ℕ). read_res o t true) (sym is)
          ∙ res_test o file true true (omega (arith, long))
          (ap is_resolution same ∙ resolution res least most)
          ∙ ap (λ (n : ℕ). Ok (fields n 1 o None 16)) same;
      behind = ap (drop 16) is;
    }
