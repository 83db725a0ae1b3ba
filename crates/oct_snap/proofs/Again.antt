-- A snapshot that is read once more, with the log-odds that it goes by.
use Rattle.std.proofs.Common.{◌≡◌, ◌≤◌, arith, ℕ, zero, suc, List, length, Some, None, inl, inr}
use Rattle.std.proofs.Common.{refl, sym, ◌∙◌, ap, cond, subst}
use Rattle.std.specs.Prelude.{Option, ◌⊎◌, Bool, true, false, nat_lt, nat_eq, codes, slice_index}
use Rattle.std.specs.Prelude.{Result, Ok, Err, is_ok}
use Rattle.std.specs.List.{starts_with}
use Rattle.std.proofs.lemmas.Bool.{false≢true}
use Rattle.oct_key.specs.Boxes.{Window, is_box}
use Rattle.oct_odds.specs.Odds.{Odds, first_bad_field}
use Rattle.oct_odds.specs.declared.model.OddsField.{OddsField}
use Rattle.oct_snap.specs.declared.fault.SnapFault.{SnapFault}
use Rattle.oct_snap.specs.declared.fault.SnapFault.TheVariants.{BadMagic, Truncated, BadSnapshot}
use Rattle.oct_snap.specs.Reading.{Fields, Snapshot, fields, voxel_at, read_corners, read_window}
use Rattle.oct_snap.specs.Reading.{odds_at, read_odds, read_version, res_at, is_resolution}
use Rattle.oct_snap.specs.Reading.{read_res, read_fields, with_fields, read_snapshot}
use Rattle.oct_snap.proofs.WholeFills.{whole_read}

abbrev Read : Type 0
Read = Result Fields SnapFault

fields_in : Read → Fields → Fields
fields_in (Ok h) other = h
fields_in (Err fault) other = other

same_fields : (h g : Fields) → ◌≡◌ {A = Read} (Ok h) (Ok g) → h ≡ g
unfolding fields_in
same_fields h g e = ap (λ r. fields_in r h) e

not_fields : (fault : SnapFault) (h : Fields) → ◌≡◌ {A = Read} (Err fault) (Ok h) → ⊥
not_fields fault h e = false≢true (ap is_ok e)

pub not_less : (a b : ℕ) → nat_lt a b ≡ false → b ≤ a
not_less a b e = grind (arith, e)

-- the fields of the older version, which goes by the log-odds that it is read with, and has no box
pub record IsOld (o : Odds) (bytes : List ℕ) (h : Fields) : Type 0 where
  pub long : 16 ≤ length bytes
  pub res : h.res ≡ res_at bytes
  pub version : h.version ≡ 1
  pub odds : h.odds ≡ o
  pub window : h.window ≡ None
  pub start : h.start ≡ 16

old_fields : (o : Odds) (bytes : List ℕ) (h : Fields) → read_res o bytes true ≡ Ok h
    → IsOld o bytes h
old_fields o bytes h is = by_length (nat_lt (length bytes) 16) refl is
  where
    by_res : 16 ≤ length bytes → (b : Bool)
        → cond {A = Read} b (Ok (fields (res_at bytes) 1 o None 16)) (Err (BadSnapshot 8)) ≡ Ok h
        → IsOld o bytes h
    by_res long true is = subst (IsOld o bytes) (same_fields _ h is)
        (record {
          long = long;
          res = refl;
          version = refl;
          odds = refl;
          window = refl;
          start = refl;
        })
    by_res long false is = absurd (not_fields _ h is)

    by_length : (b : Bool) → nat_lt (length bytes) 16 ≡ b
        → cond {A = Read} b (Err (Truncated (length bytes)))
        (cond {A = Read} (is_resolution (res_at bytes)) (Ok (fields (res_at bytes) 1 o None 16))
        (Err (BadSnapshot 8))) ≡ Ok h → IsOld o bytes h
    by_length true e is = absurd (not_fields _ h is)
    by_length false e is = by_res (not_less (length bytes) 16 e) (is_resolution (res_at bytes)) is

-- and the newer one has its own
fields_by_magic : (o : Odds) (bytes : List ℕ) (old : Bool)
    → starts_with nat_eq bytes (codes "OCTSNAP1")
    ≡ old
    → read_fields o bytes ≡ cond {A = Read} old (read_res o bytes true)
    (cond {A = Read} (starts_with nat_eq bytes (codes "OCTSNAP2")) (read_res o bytes false)
    (Err BadMagic))
unfolding read_fields
fields_by_magic o bytes old is = ap (λ (b : Bool). cond {A = Read} b (read_res o bytes true)
    (cond {A = Read} (starts_with nat_eq bytes (codes "OCTSNAP2")) (read_res o bytes false)
    (Err BadMagic))) is

fields_again : (o : Odds) (bytes : List ℕ) (h : Fields) → read_fields o bytes ≡ Ok h
    → read_fields h.odds bytes ≡ read_fields o bytes
fields_again o bytes h is = by (starts_with nat_eq bytes (codes "OCTSNAP1")) refl
  where
    by : (old : Bool) → starts_with nat_eq bytes (codes "OCTSNAP1") ≡ old → read_fields h.odds bytes
        ≡ read_fields o bytes
    by true e = ap (λ (p : Odds). read_fields p bytes)
        (old_fields o bytes h (sym (fields_by_magic o bytes true e) ∙ is)).odds
    by false e = fields_by_magic h.odds bytes false e ∙ sym (fields_by_magic o bytes false e)

pub read_again : (o : Odds) (bytes : List ℕ) (s : Snapshot) → read_snapshot o bytes ≡ Ok s
    → read_snapshot s.head.odds bytes ≡ Ok s
unfolding read_snapshot
read_again o bytes s is =
    ap (with_fields bytes) (fields_again o bytes s.head (whole_read o bytes s is).fields) ∙ is

-- the box of the newer version, and where the nodes begin
abbrev pub IsBoxAt : List ℕ → Option Window → ℕ → Type 0
IsBoxAt bytes None start = (slice_index bytes 36 ≡ 0) × (start ≡ 37)
IsBoxAt bytes (Some w) start = (slice_index bytes 36 ≡ 1) × (49 ≤ length bytes)
    × (w.lo ≡ voxel_at bytes 37) × (w.hi ≡ voxel_at bytes 43) × (start ≡ 49)

-- its fields
pub record IsNew (bytes : List ℕ) (h : Fields) : Type 0 where
  pub long : 37 ≤ length bytes
  pub res : h.res ≡ res_at bytes
  pub version : h.version ≡ 2
  pub odds : h.odds ≡ odds_at bytes
  pub window : IsBoxAt bytes h.window h.start

new_window : (bytes : List ℕ) (byte : ℕ) (h : Fields) → 37 ≤ length bytes → slice_index bytes 36
    ≡ byte
    → read_window bytes (res_at bytes) (odds_at bytes) byte ≡ Ok h → IsNew bytes h
new_window bytes zero h long first is = subst (IsNew bytes) (same_fields _ h is)
    (record { long = long; res = refl; version = refl; odds = refl; window = (first, refl) })
new_window bytes (suc zero) h long first is = by_length (nat_lt (length bytes) 49) refl is
  where
    by_box : 49 ≤ length bytes → (b : Bool) → read_corners bytes (res_at bytes) (odds_at bytes) b
        ≡ Ok h → IsNew bytes h
    by_box all true is = subst (IsNew bytes) (same_fields _ h is)
        (record {
          long = long;
          res = refl;
          version = refl;
          odds = refl;
          window = (first, all, refl, refl, refl);
        })
    by_box all false is = absurd (not_fields _ h is)

    by_length : (b : Bool) → nat_lt (length bytes) 49 ≡ b
        → cond {A = Read} b (Err (Truncated (length bytes)))
        (read_corners bytes (res_at bytes) (odds_at bytes)
        (is_box (voxel_at bytes 37) (voxel_at bytes 43))) ≡ Ok h → IsNew bytes h
    by_length true e is = absurd (not_fields _ h is)
    by_length false e is = by_box (not_less (length bytes) 49 e)
        (is_box (voxel_at bytes 37) (voxel_at bytes 43)) is
new_window bytes (suc (suc more)) h long first is = absurd (not_fields _ h is)

new_fields : (o : Odds) (bytes : List ℕ) (h : Fields) → read_res o bytes false ≡ Ok h
    → IsNew bytes h
new_fields o bytes h is = by_length (nat_lt (length bytes) 16) is
  where
    by_byte : (b : Bool) → nat_lt (length bytes) 37 ≡ b
        → cond {A = Read} b (Err (Truncated (length bytes)))
        (read_window bytes (res_at bytes) (odds_at bytes) (slice_index bytes 36)) ≡ Ok h
        → IsNew bytes h
    by_byte true e is = absurd (not_fields _ h is)
    by_byte false e is =
        new_window bytes (slice_index bytes 36) h (not_less (length bytes) 37 e) refl is

    by_field : (f : Option OddsField) → read_odds bytes (res_at bytes) f ≡ Ok h → IsNew bytes h
    by_field (Some field) is = absurd (not_fields _ h is)
    by_field None is = by_byte (nat_lt (length bytes) 37) refl is

    by_odds : (b : Bool) → cond {A = Read} b (Err (Truncated (length bytes)))
        (read_odds bytes (res_at bytes) (first_bad_field (odds_at bytes))) ≡ Ok h
        → IsNew bytes h
    by_odds true is = absurd (not_fields _ h is)
    by_odds false is = by_field (first_bad_field (odds_at bytes)) is

    by_res : (b : Bool) → cond {A = Read} b (read_version o bytes (res_at bytes) false)
        (Err (BadSnapshot 8)) ≡ Ok h → IsNew bytes h
    by_res true is = by_odds (nat_lt (length bytes) 36) is
    by_res false is = absurd (not_fields _ h is)

    by_length : (b : Bool) → cond {A = Read} b (Err (Truncated (length bytes)))
        (cond {A = Read} (is_resolution (res_at bytes)) (read_version o bytes (res_at bytes) false)
        (Err (BadSnapshot 8))) ≡ Ok h → IsNew bytes h
    by_length true is = absurd (not_fields _ h is)
    by_length false is = by_res (is_resolution (res_at bytes)) is

-- there are but these two
pub record IsOldFile (o : Odds) (bytes : List ℕ) (h : Fields) : Type 0 where
  pub magic : starts_with nat_eq bytes (codes "OCTSNAP1") ≡ true
  pub fields : IsOld o bytes h

pub record IsNewFile (bytes : List ℕ) (h : Fields) : Type 0 where
  pub magic : starts_with nat_eq bytes (codes "OCTSNAP2") ≡ true
  pub fields : IsNew bytes h

pub read_as : (o : Odds) (bytes : List ℕ) (s : Snapshot) → read_snapshot o bytes ≡ Ok s
    → IsOldFile o bytes s.head ⊎ IsNewFile bytes s.head
read_as o bytes s is = by (starts_with nat_eq bytes (codes "OCTSNAP1")) refl
  where
    read : read_fields o bytes ≡ Ok s.head
    read = (whole_read o bytes s is).fields

    by_new : (b : Bool) → starts_with nat_eq bytes (codes "OCTSNAP2") ≡ b
        → cond {A = Read} b (read_res o bytes false) (Err BadMagic) ≡ Ok s.head
        → IsNewFile bytes s.head
    by_new true e is = record { magic = e; fields = new_fields o bytes s.head is }
    by_new false e is = absurd (not_fields _ s.head is)

    by : (old : Bool) → starts_with nat_eq bytes (codes "OCTSNAP1") ≡ old → IsOldFile o bytes s.head
        ⊎ IsNewFile bytes s.head
    by true e = inl (record {
      magic = e;
      fields = old_fields o bytes s.head (sym (fields_by_magic o bytes true e) ∙ read);
    })
    by false e =
        inr (by_new (starts_with nat_eq bytes (codes "OCTSNAP2")) refl
        (sym (fields_by_magic o bytes false e) ∙ read))
