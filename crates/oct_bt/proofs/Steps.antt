-- One byte more, in terms of what the reader holds.
use Rattle.std.proofs.Common.{◌≡◌, ℕ, zero, suc, ◌+◌, ◌-◌, ◌<◌, ◌≤◌, true, false, List, [], ◌∷◌}
use Rattle.std.proofs.Common.{◌++◌, length, set, take, get_or, drop, refl, sym, subst, ◌∙◌, ap}
use Rattle.std.proofs.Common.{arith, length-set, Option, Some, None, inl, inr, lt-ltb, eq-eqb}
use Rattle.std.specs.Prelude.{replicate, is_some, nat_eq, nat_lt, ◌&&◌}
use Rattle.std.specs.List.{refill}
use Rattle.std.proofs.lemmas.Bool.{false≢true}
use Rattle.std.proofs.lemmas.Bool.Decides.{eqb_tells}
use Rattle.oct_bt.specs.declared.fault.BtFault.{BtFault}
use Rattle.oct_bt.specs.declared.fault.BtFault.TheVariants.{TooDeep, TrailingBytes}
use Rattle.oct_bt.specs.NodeData.{Progress, Reads, Stopped, records_in, after_record, after_byte}
use Rattle.oct_bt.specs.NodeData.{after_bytes, progress_by}
use Rattle.oct_bt.specs.Path.{pending_at, IsTopped, without_next}
use Rattle.oct_bt.proofs.Paths.{pending_push, next_record}

-- a reading that hasn't stopped
pub going : (stop : Option BtFault) (p : Progress) → is_some stop ≡ false → progress_by stop p ≡ p
going None p h = refl
going (Some fault) p h = absurd (false≢true (sym h))

-- a value that isn't there
pub never_some : (o : Option ℕ) → ((x : ℕ) → o ≡ Some x → ⊥) → o ≡ None
never_some None h = refl
never_some (Some x) h = absurd (h x refl)

-- a byte where no record is to come
pub byte_trails : (start : ℕ) (stop : Option BtFault) (path : List ℕ) (half : Option ℕ)
    (records : List ℕ) (byte : ℕ) → is_some stop ≡ false
    → length path ≡ 0 → Stopped (TrailingBytes (start + length records))
    ≡ after_byte start (progress_by stop (Reads (pending_at 0 path) half records)) byte
unfolding pending_at
byte_trails start stop [] half records byte going_on none =
    ap (λ p. after_byte start p byte) (sym (going stop (Reads [] half records) going_on))
byte_trails start stop (n ∷ path) half records byte going_on none = absurd (omega arith)

-- what the reading is at a path with records to come
pub at_path : (stop : Option BtFault) (path : List ℕ) (half : Option ℕ) (records : List ℕ)
    → is_some stop ≡ false → 0 < length path → IsTopped path
    → progress_by stop (Reads (pending_at 0 path) half records)
    ≡ Reads ((length path - 1) ∷ pending_at 0 (without_next path)) half records
at_path stop path half records going_on some topped =
    going stop (Reads (pending_at 0 path) half records) going_on
    ∙ ap (λ pending. Reads pending half records) (next_record path some topped)

-- the first byte of a record
pub byte_begins : (start : ℕ) (stop : Option BtFault) (path records : List ℕ) (byte : ℕ)
    → is_some stop ≡ false → 0 < length path → IsTopped path
    → progress_by stop (Reads (pending_at 0 path) (Some byte) records)
    ≡ after_byte start (progress_by stop (Reads (pending_at 0 path) None records)) byte
byte_begins start stop path records byte going_on some topped =
    at_path stop path (Some byte) records going_on some topped
    ∙ ap (λ p. after_byte start p byte) (sym (at_path stop path None records going_on some topped))

-- the second byte of a record that is too deep
pub byte_deep : (start : ℕ) (stop : Option BtFault) (path records : List ℕ) (first byte : ℕ)
    → is_some stop ≡ false → IsTopped path
    → length path ≡ 16 → 0 < records_in first byte
    → Stopped (TooDeep (start + length records))
    ≡ after_byte start (progress_by stop (Reads (pending_at 0 path) (Some first) records)) byte
byte_deep start stop path records first byte going_on topped deep some =
    let at : length path - 1 ≡ 15 = omega arith in
    let deepest : nat_eq (length path - 1) 15 ≡ true = eq-eqb (length path - 1) 15 at in
    let more : nat_lt 0 (records_in first byte) ≡ true = lt-ltb 0 (records_in first byte) some in
    let stops : after_record start (length path - 1)
    (pending_at 0 (without_next path)) records first byte
    ≡ Stopped (TooDeep (start + length records)) =
    rw (deepest, more) refl in
    sym stops ∙ ap (λ p. after_byte start p byte)
    (sym (at_path stop path (Some first) records going_on (omega arith) topped))

-- the second byte of any other
pub byte_ends : (start : ℕ) (stop : Option BtFault) (path records : List ℕ) (first byte : ℕ)
    → is_some stop ≡ false → 0 < length path → IsTopped path
    → (length path ≡ 16 → records_in first byte ≡ 0)
    → progress_by stop
    (Reads (replicate (records_in first byte) (length path) ++ pending_at 0 (without_next path))
    None (records ++ first ∷ byte ∷ []))
    ≡ after_byte start (progress_by stop (Reads (pending_at 0 path) (Some first) records)) byte
byte_ends start stop path records first byte going_on some topped high =
    going stop _ going_on ∙ ends ∙ ap (λ p. after_byte start p byte)
    (sym (at_path stop path (Some first) records going_on some topped))
  where
    test : (nat_eq (length path - 1) 15 && nat_lt 0 (records_in first byte)) ≡ false
    test = elim (eqb_tells (length path - 1) 15) [
      | inl (e, at) ↦ (let none : records_in first byte ≡ 0 = high (omega arith) in
          rw (e, none) refl)
      | inr (e, ne) ↦ rw e refl
    ]

    depth : suc (length path - 1) ≡ length path
    depth = omega arith

    ends : Reads (replicate (records_in first byte)
        (length path) ++ pending_at 0 (without_next path)) None (records ++ first ∷ byte ∷ [])
        ≡ after_record start (length path - 1) (pending_at 0 (without_next path)) records first byte
    ends = rw test (rw depth refl)

-- the path after a record
pub path_descends : (old lowered new : List ℕ) (deeper : ℕ) → lowered ≡ without_next old
    → new ≡ lowered ++ deeper ∷ []
    → pending_at 0 new ≡ replicate deeper (length old) ++ pending_at 0 (without_next old)
path_descends old lowered new deeper low is =
    let long : 0 + length lowered ≡ length old =
    (let l : length lowered ≡ length old = ap length low ∙ length-set old _ _ in omega arith) in
    ap (pending_at 0) is ∙ pending_push lowered 0 deeper
    ∙ ap (λ (n : ℕ). replicate deeper n ++ pending_at 0 lowered) long
    ∙ ap (λ p. replicate deeper (length old) ++ pending_at 0 p) low

-- the same list, written back
refilled : (xs ws : List ℕ) → length ws ≡ length xs → refill (length xs) xs ws ≡ ws
refilled xs ws same =
    ap (λ (n : ℕ). take n (ws ++ drop (length ws) xs)) (sym same)
    ∙ front_of ws (drop (length ws) xs)
  where
    front_of : (ws rest : List ℕ) → take (length ws) (ws ++ rest) ≡ ws
    front_of [] rest = refl
    front_of (w ∷ ws) rest = ap (λ t. w ∷ t) (front_of ws rest)

pub lowered_is : (old now : List ℕ) (l : ℕ) → now ≡ old → l ≡ length old
    → refill (length old) old (set now (l - 1) (get_or now (l - 1) 0 - 1)) ≡ without_next old
lowered_is old now l same long =
    ap (λ x. refill (length old) old (set x (l - 1) (get_or x (l - 1) 0 - 1))) same
    ∙ refilled old (set old (l - 1) (get_or old (l - 1) 0 - 1)) (length-set old _ _)
    ∙ ap (λ (n : ℕ). set old (n - 1) (get_or old (n - 1) 0 - 1)) long

-- before the first byte
pub fresh_some : (start size : ℕ) (path records : List ℕ) → 0 < size → path ≡ 1 ∷ [] → records ≡ []
    → Reads (pending_at 0 path) None records ≡ after_bytes start size []
unfolding after_bytes pending_at
fresh_some start zero path records some one none = absurd (omega arith)
fresh_some start (suc size) path records some one none =
    ap (λ p. Reads (pending_at 0 p) None records) one ∙ ap (Reads (0 ∷ []) None) none

pub fresh_none : (start size : ℕ) (path records : List ℕ) → size ≤ 0 → path ≡ [] → records ≡ []
    → Reads (pending_at 0 path) None records ≡ after_bytes start size []
unfolding after_bytes pending_at
fresh_none start zero path records few one none = ap (λ p. Reads (pending_at 0 p) None records) one
    ∙ ap (Reads [] None) none
fresh_none start (suc size) path records few one none = absurd (omega arith)

-- a fault that isn't there
pub not_stopping : (stop : Option BtFault) → ((f : BtFault) → stop ≡ Some f → ⊥)
    → is_some stop ≡ false
not_stopping None h = refl
not_stopping (Some f) h = absurd (h f refl)

pub topped_one : (path : List ℕ) → path ≡ 1 ∷ [] → IsTopped path
topped_one path is = subst IsTopped (sym is) (λ some. omega arith)

pub topped_none : (path : List ℕ) → path ≡ [] → IsTopped path
topped_none path is = subst IsTopped (sym is) (λ some. absurd (omega arith))
