-- The bytes in front of the first line feed.
use Rattle.std.proofs.Common.{◌≡◌, ℕ, ◌≤◌, List, length, get_or, nat_eq, Bool, true, false, not}
use Rattle.std.proofs.Common.{Option, Some, None, refl, ap, sym, arith}
use Rattle.std.proofs.lemmas.List.Sums.{prefix_len_is, prefix_len-le-length}
use Rattle.std.specs.List.{prefix_len}
use Rattle.std.specs.Option.{unwrap_or}
use Rattle.memchr.specs.Find.{IsFirstByte, is_byte}
use Rattle.oct_script.specs.Lines.{is_in_line}

kept : (t : Bool) → ¬ (t ≡ true) → not t ≡ true
kept true un = absurd (un refl)
kept false un = refl

-- the first line feed, or the end of the bytes where there is none
pub line_feed_at : (piece : List ℕ) (r : Option ℕ) → IsFirstByte (is_byte 10) piece r
    → unwrap_or r (length piece) ≡ prefix_len is_in_line piece
line_feed_at piece None none = sym (prefix_len_is is_in_line piece (length piece) 0 (omega arith)
    (λ k h. kept (nat_eq (get_or piece k 0) 10) (none k (omega arith) h))
    (λ h. absurd (omega arith)))
line_feed_at piece (Some n) first =
    sym (prefix_len_is is_in_line piece n 0 (omega (arith, first.0.high))
    (λ k h. kept (nat_eq (get_or piece k 0) 10) (first.0.before k (omega arith) h))
    (λ h. ap not first.1))

-- which stands among them
pub line_feed_within : (piece : List ℕ) (r : Option ℕ) → IsFirstByte (is_byte 10) piece r
    → unwrap_or r (length piece) ≤ length piece
line_feed_within piece r first =
    omega (arith, line_feed_at piece r first, prefix_len-le-length is_in_line piece)
