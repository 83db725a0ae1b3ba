-- What a reading comes to where it ends.
use Rattle.std.proofs.Common.{◌≡◌, ℕ, zero, suc, ◌+◌, ◌-◌, ◌<◌, Bool, true, false, cond, List, []}
use Rattle.std.proofs.Common.{◌∷◌, ◌++◌, length, refl, sym, subst, ◌∙◌, ap, arith, length-append}
use Rattle.std.proofs.Common.{Option, Some, None, Result, Ok, Err, inl, inr, eq-eqb}
use Rattle.std.specs.Prelude.{nat_eq, nat_lt, ◌&&◌, is_some, fold, replicate}
use mir.Val.{bool_byte}
use Rattle.std.proofs.lemmas.Bool.{false≢true}
use Rattle.std.proofs.lemmas.Bool.Decides.{eqb_tells}
use Rattle.oct_bt.specs.declared.fault.BtFault.{BtFault}
use Rattle.oct_bt.specs.declared.fault.BtFault.TheVariants.{TooDeep, Truncated, TrailingBytes}
use Rattle.oct_bt.specs.declared.fault.BtFault.TheVariants.{SizeMismatch}
use Rattle.oct_bt.specs.Canonical.{node_total}
use Rattle.oct_bt.specs.NodeData.{Progress, Reads, Stopped, records_in, after_record, after_byte}
use Rattle.oct_bt.specs.NodeData.{at_first, after_bytes, progress_by, judged, read_nodes, IsReached}
use Rattle.oct_bt.specs.NodeData.{IsAccepted}
use Rattle.oct_bt.specs.Path.{pending_at, IsTopped, without_next}
use Rattle.oct_bt.proofs.Sizes.{reached_small}
use Rattle.std.proofs.Common.{◌^◌}
use Rattle.std.proofs.lemmas.List.Elements.{All-append, All-cons, All-nil}
use Rattle.std.proofs.lemmas.List.Sums.{fold_push}
use Rattle.oct_bt.proofs.Walks.{stays_stopped, accepts_only}
use Rattle.oct_bt.proofs.Steps.{going, at_path}

-- how many bytes a reading has taken that hasn't stopped
unfoldable pub half_length : Option ℕ → ℕ
half_length None = 0
half_length (Some b) = 1

unfoldable pub taken_by : Progress → ℕ
taken_by (Reads pending half records) = length records + half_length half
taken_by (Stopped fault) = 0

unfoldable pub is_going : Progress → Bool
is_going (Reads pending half records) = true
is_going (Stopped fault) = false

pub length_read : (bytes : List ℕ) (start : ℕ) (p : Progress)
    → is_going (fold (after_byte start) p bytes) ≡ true
    → taken_by (fold (after_byte start) p bytes) ≡ taken_by p + length bytes
unfolding is_going taken_by half_length
length_read [] start p h = omega arith
length_read (b ∷ bytes) start (Stopped fault) h =
    absurd (false≢true (ap is_going (sym (stays_stopped start fault bytes)) ∙ h))
length_read (b ∷ bytes) start (Reads [] half records) h =
    absurd (false≢true
    (ap is_going (sym (stays_stopped start (TrailingBytes (start + length records)) bytes)) ∙ h))
length_read (b ∷ bytes) start (Reads (d ∷ others) None records) h =
    let more = length_read bytes start (Reads (d ∷ others) (Some b) records) h in
    omega (arith, more)
length_read (b ∷ bytes) start (Reads (d ∷ others) (Some a) records) h =
    by_test (nat_eq d 15 && nat_lt 0 (records_in a b)) refl
    (length_read bytes start (after_record start d others records a b) h)
  where
    by_test : (deep : Bool) → (nat_eq d 15 && nat_lt 0 (records_in a b)) ≡ deep
        → taken_by (fold (after_byte start) (after_record start d others records a b) bytes)
        ≡ taken_by (after_record start d others records a b) + length bytes
        → taken_by (fold (after_byte start) (after_record start d others records a b) bytes)
        ≡ (length records + 1) + suc (length bytes)
    by_test true e more =
        (let stops : after_record start d others records a b
        ≡ Stopped (TooDeep (start + length records)) = rw e refl in
        absurd (false≢true
        (ap is_going (sym (stays_stopped start (TooDeep (start + length records)) bytes)
        ∙ ap (λ p. fold (after_byte start) p bytes) (sym stops)) ∙ h)))
    by_test false e more = (
        let goes : after_record start d others records a b
        ≡ Reads (replicate (records_in a b) (suc d) ++ others) None (records ++ a ∷ b ∷ []) =
        rw e refl in
        let long : taken_by (after_record start d others records a b)
        ≡ length (records ++ a ∷ b ∷ []) + 0 = ap taken_by goes in
        let two = length-append records (a ∷ b ∷ []) in
        more ∙ omega (arith, long, two))

-- the answer of a reading that has stopped
pub ends_stopped : (start size : ℕ) (bytes : List ℕ) (stop : Option BtFault) (fault : BtFault)
    (p : Progress) → stop ≡ Some fault
    → progress_by stop p ≡ after_bytes start size bytes
    → ◌≡◌ {A = Result (List ℕ) BtFault} (Err fault) (read_nodes start size bytes)
unfolding read_nodes
ends_stopped start size bytes None fault p is at = absurd (false≢true (ap is_some is))
ends_stopped start size bytes (Some other) fault p is at =
    let same : Stopped fault ≡ after_bytes start size bytes = ap (λ o. progress_by o p) (sym is)
    ∙ at in
    ap (judged start size (length bytes)) same

-- of one that has records to come
pub ends_short : (start size : ℕ) (bytes path records : List ℕ) (stop : Option BtFault)
    (half : Option ℕ) (n : ℕ) → is_some stop ≡ false → 0 < length path → IsTopped path
    → progress_by stop (Reads (pending_at 0 path) half records) ≡ after_bytes start size bytes
    → n ≡ bool_byte (is_some half)
    → ◌≡◌ {A = Result (List ℕ) BtFault} (Err (Truncated (start + length records + n)))
    (read_nodes start size bytes)
unfolding read_nodes after_bytes is_going taken_by half_length
ends_short start size bytes path records stop half n going_on some topped at one =
    let same : Reads ((length path - 1) ∷ pending_at 0 (without_next path)) half records
    ≡ after_bytes start size bytes =
    sym (at_path stop path half records going_on some topped) ∙ at in
    let long : length records + half_length half ≡ taken_by (at_first size) + length bytes =
    ap taken_by same ∙ length_read bytes start (at_first size) (ap is_going (sym same)) in
    let nothing : taken_by (at_first size) ≡ 0 = first_taken size in
    let halves : half_length half ≡ bool_byte (is_some half) = by_half half in
    let all : start + length records + n ≡ start + length bytes =
    omega (arith, long, nothing, halves, one) in
    ap (λ (n : ℕ). Err (Truncated n)) all ∙ ap (judged start size (length bytes)) same
  where
    by_half : (half : Option ℕ) → half_length half ≡ bool_byte (is_some half)
    by_half None = refl
    by_half (Some b) = refl

    first_taken : (size : ℕ) → taken_by (at_first size) ≡ 0
    first_taken zero = refl
    first_taken (suc n) = refl

-- of one that has none to come
pub ends_whole : (start size : ℕ) (bytes path records : List ℕ) (stop : Option BtFault)
    (half : Option ℕ) → is_some stop ≡ false → length path ≡ 0
    → progress_by stop (Reads (pending_at 0 path) half records) ≡ after_bytes start size bytes
    → cond {A = Result (List ℕ) BtFault} (nat_eq size (node_total records)) (Ok records)
    (Err (SizeMismatch size (node_total records))) ≡ read_nodes start size bytes
unfolding read_nodes pending_at
ends_whole start size bytes [] records stop half going_on none at =
    ap (judged start size (length bytes)) (sym (going stop (Reads [] half records) going_on) ∙ at)
ends_whole start size bytes (n ∷ path) records stop half going_on none at = absurd (omega arith)

pub ends_equal : (start size : ℕ) (bytes path records : List ℕ) (stop : Option BtFault)
    (half : Option ℕ) → is_some stop ≡ false → length path ≡ 0
    → progress_by stop (Reads (pending_at 0 path) half records) ≡ after_bytes start size bytes
    → node_total records ≡ size
    → Ok records ≡ read_nodes start size bytes
ends_equal start size bytes path records stop half going_on none at same =
    let test : nat_eq size (node_total records) ≡ true = eq-eqb size (node_total records) (sym same)
    in
    ap (λ t. cond {A = Result (List ℕ) BtFault} t (Ok records)
    (Err (SizeMismatch size (node_total records)))) (sym test)
    ∙ ends_whole start size bytes path records stop half going_on none at

pub ends_unequal : (start size : ℕ) (bytes path records : List ℕ) (stop : Option BtFault)
    (half : Option ℕ) → is_some stop ≡ false → length path ≡ 0
    → progress_by stop (Reads (pending_at 0 path) half records) ≡ after_bytes start size bytes
    → (node_total records ≡ size → ⊥)
    → ◌≡◌ {A = Result (List ℕ) BtFault} (Err (SizeMismatch size (node_total records)))
    (read_nodes start size bytes)
ends_unequal start size bytes path records stop half going_on none at other =
    elim (eqb_tells size (node_total records)) [
      | inl (e, same) ↦ absurd (other (sym same))
      | inr (e, ne) ↦ ap (λ t. cond {A = Result (List ℕ) BtFault} t (Ok records)
          (Err (SizeMismatch size (node_total records)))) (sym e)
          ∙ ends_whole start size bytes path records stop half going_on none at
    ]

-- one byte more
pub reached_next : (start size byte : ℕ) (p q : Progress) → byte < 256 → IsReached start size p
    → q ≡ after_byte start p byte → IsReached start size q
unfolding after_bytes
reached_next start size byte p q small (bytes, below, at) next = (
  bytes ++ byte ∷ [],
  All-append (λ b. b < 256) bytes (byte ∷ []) below
      (All-cons (λ b. b < 256) byte [] small (All-nil (λ b. b < 256))),
  next ∙ ap (λ p. after_byte start p byte) at
      ∙ sym (fold_push (after_byte start) (at_first size) bytes byte),
)

-- no byte yet
pub reached_first : (start size : ℕ) (p : Progress) → p ≡ after_bytes start size []
    → IsReached start size p
reached_first start size p at = ([], All-nil (λ b. b < 256), at)

-- what is accepted of some bytes is accepted node data
pub reached_accepted : (start size : ℕ) (records : List ℕ) (p : Progress) → IsReached start size p
    → ((bytes : List ℕ) → p ≡ after_bytes start size bytes
    → Ok records ≡ read_nodes start size bytes) → IsAccepted size records
reached_accepted start size records p (bytes, below, at) answer =
    let (same, accepted) = accepts_only start size bytes records below (sym (answer bytes at)) in
    subst (IsAccepted size) (sym same) accepted

-- the records of a reading that has none to come stand for few enough nodes
pub whole_small : (start size : ℕ) (path : List ℕ) (stop : Option BtFault) (half : Option ℕ)
    (records : List ℕ) → is_some stop ≡ false → length path ≡ 0
    → IsReached start size (progress_by stop (Reads (pending_at 0 path) half records))
    → node_total records < 2 ^ 64
unfolding pending_at
whole_small start size [] stop half records going_on none reached =
    reached_small start size half records _ reached (going stop (Reads [] half records) going_on)
whole_small start size (n ∷ path) stop half records going_on none reached = absurd (omega arith)
