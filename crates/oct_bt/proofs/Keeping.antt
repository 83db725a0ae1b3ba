-- Which bytes of a file are kept.
use Rattle.std.proofs.Common.{◌≡◌, ℕ, ◌<◌, ◌+◌, Bool, true, false, List, [], ◌∷◌, ◌++◌, Result, Ok}
use Rattle.std.proofs.Common.{Err, ◌⊎◌, inl, inr, ap, sym, refl, subst, ◌∙◌, arith, suc, length}
use Rattle.std.proofs.Common.{take, drop, get_or, length-append}
use Rattle.std.specs.Prelude.{fold, is_some, ◌&&◌, nat_eq, nat_lt, if◌then◌else◌}
use Rattle.std.specs.Prelude.{Option, Some, None}
use Rattle.std.proofs.lemmas.Bool.{eqb-true, false≢true}
use Rattle.std.proofs.lemmas.List.{take-append-drop}
use Rattle.std.proofs.Math.Seq.{drop-cons}
use Rattle.oct_bt.specs.declared.fault.BtFault.{BtFault}
use Rattle.oct_bt.specs.declared.fault.BtFault.TheVariants.{NotOctomap}
use Rattle.oct_bt.specs.File.{FileRead, reading}
use Rattle.oct_bt.specs.Header.{Header, is_line_feed, is_data_line, line_of, lines_from, header_of}
use Rattle.oct_bt.specs.NodeData.{Reads, after_byte, data_kept, progress_by}
use Rattle.oct_bt.specs.Reading.{FileProgress, Head, Heading, Refused, Body, Spent, IsKept}
use Rattle.oct_bt.specs.Reading.{KeepsSome, after_file_byte, after_head_byte}
use Rattle.oct_bt.specs.Reading.{StandsFor, bytes_kept, closed_head, ended_line, file_progress}
use Rattle.oct_bt.specs.Reading.{longer_line, opened, unended}
use Rattle.oct_bt.proofs.Fronts.{nothing_read}
use Rattle.oct_bt.proofs.HeadEnds.{never_spent}

-- ---- one byte

-- a byte with which a line goes on
pub line_kept : (head : Head) (byte : ℕ)
    → after_head_byte head byte ≡ Heading (longer_line head byte) → IsKept (Heading head) byte
line_kept head byte longer =
    let long : length (head.line ++ byte ∷ []) ≡ length head.line + 1 =
    length-append head.line (byte ∷ []) in
    let more : length head.line < length (head.line ++ byte ∷ []) = omega (arith, long) in
    subst (λ p. length head.line < bytes_kept p) (sym longer) more

-- the second byte of a record that is read
pub record_kept : (stop : Option BtFault) (pending others records : List ℕ)
    (half : Option ℕ) (first byte start : ℕ) → is_some stop ≡ false
    → progress_by stop (Reads others None (records ++ first ∷ byte ∷ []))
    ≡ after_byte start (progress_by stop (Reads pending half records)) byte
    → data_kept (progress_by stop (Reads pending half records))
    < data_kept (after_byte start (progress_by stop (Reads pending half records)) byte)
record_kept None pending others records half first byte start going_on is =
    let long : length (records ++ first ∷ byte ∷ []) ≡ length records + 2 =
    length-append records (first ∷ byte ∷ []) in
    let more : length records < length (records ++ first ∷ byte ∷ []) = omega (arith, long) in
    subst (λ p. length records < data_kept p) is more
record_kept (Some fault) pending others records half first byte start going_on is =
    absurd (false≢true (sym going_on))

-- ---- a piece

has_none_left : FileProgress → Bool
has_none_left (Heading head) = false
has_none_left (Refused fault) = false
has_none_left (Body header progress) = false
has_none_left Spent = true

opened_lasts : (header : Result Header BtFault) → has_none_left (opened header) ≡ false
unfolding has_none_left
opened_lasts (Ok header) = refl
opened_lasts (Err fault) = refl

-- no byte uses up memory by itself
byte_lasts : (p : FileProgress) (byte : ℕ)
    → has_none_left (after_file_byte p byte) ≡ has_none_left p
unfolding has_none_left
byte_lasts (Refused fault) byte = refl
byte_lasts (Body header progress) byte = refl
byte_lasts Spent byte = refl
byte_lasts (Heading head) byte =
    by_room (nat_lt head.total 65536) (is_line_feed byte)
    (head.begun && is_data_line (line_of head.line 0))
  where
    by_data : (at_data : Bool) → has_none_left
        (if at_data then opened (closed_head head) else Heading (ended_line head)) ≡ false
    by_data true = opened_lasts (closed_head head)
    by_data false = refl

    by_room : (room feed at_data : Bool) → has_none_left (if room then
        (if feed then (if at_data then opened (closed_head head) else Heading (ended_line head))
        else Heading (longer_line head byte))
        else Heading head) ≡ false
    by_room false feed at_data = refl
    by_room true false at_data = refl
    by_room true true at_data = by_data at_data

bytes_last : (bytes : List ℕ) (p : FileProgress)
    → has_none_left (fold after_file_byte p bytes) ≡ has_none_left p
bytes_last [] p = refl
bytes_last (byte ∷ bytes) p = bytes_last bytes (after_file_byte p byte) ∙ byte_lasts p byte

none_left : (p : FileProgress) → has_none_left p ≡ true → p ≡ Spent
unfolding has_none_left
none_left Spent is = refl
none_left (Heading head) is = absurd (false≢true is)
none_left (Refused fault) is = absurd (false≢true is)
none_left (Body header progress) is = absurd (false≢true is)

-- where memory runs out at a byte of a piece, it had run out before or the piece has one to keep
pub kept_in_piece : (p q : FileProgress) (piece : List ℕ) (i : ℕ) → i < length piece
    → q ≡ fold after_file_byte p (take i piece)
    → (q ≡ Spent) ⊎ IsKept q (get_or piece i 0)
    → (p ≡ Spent) ⊎ KeepsSome p piece
unfolding has_none_left
kept_in_piece p q piece i within at (inl spent) =
    inl (none_left p (sym (bytes_last (take i piece) p) ∙ ap has_none_left (sym at ∙ spent)))
kept_in_piece p q piece i within at (inr kept) = inr (
  take i piece,
  get_or piece i 0,
  drop (suc i) piece,
  sym (take-append-drop i piece) ∙ ap (λ t. take i piece ++ t) (drop-cons piece i 0 within),
  subst (λ (r : FileProgress). IsKept r (get_or piece i 0)) at kept,
)

-- ---- a file

-- a reader that was fed nothing runs out of memory at a byte that it keeps
pub kept_of_file : (p : FileProgress) (bytes : List ℕ) → (p ≡ Spent) ⊎ KeepsSome p bytes
    → StandsFor p [] → KeepsSome (file_progress []) bytes
kept_of_file p bytes (inl spent) new = absurd (never_spent [] (sym spent ∙ new))
kept_of_file p bytes (inr keeps) new = subst (λ (q : FileProgress). KeepsSome q bytes) new keeps

-- a file that is read has a byte to keep, its first one
pub read_keeps : (bytes : List ℕ) (file : FileRead)
    → ◌≡◌ {A = Result FileRead BtFault} (Ok file) (reading bytes)
    → KeepsSome (file_progress []) bytes
unfolding reading header_of file_progress unended lines_from
read_keeps [] file is = absurd (differ (is ∙ nothing_read))
  where
    differ : ◌≡◌ {A = Result FileRead BtFault} (Ok file) (Err NotOctomap) → ⊥
    differ e = cc
read_keeps (b ∷ bs) file is = by_feed (nat_eq b 10) refl
  where
    differ : ◌≡◌ {A = Result FileRead BtFault} (Ok file) (reading (10 ∷ bs)) → ⊥
    differ e = cc

    by_feed : (feed : Bool) → nat_eq b 10 ≡ feed → KeepsSome (file_progress []) (b ∷ bs)
    by_feed false other = ([], b, bs, refl, rw other (omega arith))
    by_feed true feed = absurd (differ (is ∙ ap (λ c. reading (c ∷ bs)) (eqb-true b 10 feed)))
