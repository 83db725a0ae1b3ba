-- What every accepted snapshot says: log-odds that make a model, and a box of the map, if any.
use Rattle.std.proofs.Common.{◌≡◌, ℕ, ◌+◌, ◌*◌, ◌<◌, ◌≤◌, Bool, true, false, cond, List, length}
use Rattle.std.proofs.Common.{Option, Some, None, refl, subst, arith}
use Rattle.std.specs.Prelude.{zero, suc, nat_lt, nat_eq, codes, slice_index, IfSome, Result, Ok}
use Rattle.std.specs.Prelude.{Err, ⊤}
use Rattle.std.specs.List.{All, starts_with}
use Rattle.std.proofs.lemmas.List.Elements.{All-get_or}
use Rattle.oct_key.specs.Boxes.{is_box}
use Rattle.oct_key.specs.Voxel.{IsInMap}
use Rattle.oct_key.proofs.Boxes.{box_exactly}
use Rattle.oct_odds.specs.Odds.{Odds, IsSound, first_bad_field}
use Rattle.oct_odds.specs.declared.model.OddsField.{OddsField}
use Rattle.oct_odds.proofs.Soundness.{sound_from_none}
use Rattle.oct_snap.specs.declared.fault.SnapFault.{SnapFault}
use Rattle.oct_snap.specs.declared.fault.SnapFault.TheVariants.{BadMagic, Truncated, BadSnapshot}
use Rattle.oct_snap.specs.Reading.{Fields, Snapshot, axis_at, voxel_at, read_corners, read_window}
use Rattle.oct_snap.specs.Reading.{odds_at, read_odds, read_version, res_at, is_resolution}
use Rattle.oct_snap.specs.Reading.{read_res, read_fields, read_snapshot}
use Rattle.oct_snap.proofs.WholeFills.{whole_read}
use Rattle.oct_promise.specs.States.{IsMapBox}

abbrev AreSmall : List ℕ → Type 0
AreSmall bytes = All (λ byte. byte < 256) bytes

-- fields as they are accepted
abbrev AreFine : List ℕ → Fields → Type 0
AreFine bytes head = IsSound head.odds × (AreSmall bytes → IfSome head.window IsMapBox)

abbrev IfFine : List ℕ → Result Fields SnapFault → Type 0
IfFine bytes (Ok head) = AreFine bytes head
IfFine bytes (Err fault) = ⊤

two_bytes : (a b n : ℕ) → a < 256 → b < 256 → n ≡ a * 256 + b → n < 65536
two_bytes a b n x y is = omega (arith, x, y, is)

axis_small : (bytes : List ℕ) (at : ℕ) → AreSmall bytes → at + 1 < length bytes
    → axis_at bytes at < 65536
axis_small bytes at small inside =
    two_bytes (slice_index bytes at) (slice_index bytes (at + 1)) (axis_at bytes at)
    (All-get_or (λ b. b < 256) bytes at 0 (omega (arith, inside)) small)
    (All-get_or (λ b. b < 256) bytes (at + 1) 0 inside small) (omega arith)

voxel_small : (bytes : List ℕ) (at : ℕ) → AreSmall bytes → at + 5 < length bytes
    → IsInMap (voxel_at bytes at)
voxel_small bytes at small inside = record {
  x = axis_small bytes at small (omega (arith, inside));
  y = axis_small bytes (at + 2) small (omega (arith, inside));
  z = axis_small bytes (at + 4) small (omega (arith, inside));
}

not_less : (a b : ℕ) → nat_lt a b ≡ false → b ≤ a
not_less a b e = grind (arith, e)

corners_fine : (bytes : List ℕ) (res : ℕ) (o : Odds) (b : Bool) → IsSound o → 49 ≤ length bytes
    → is_box (voxel_at bytes 37) (voxel_at bytes 43) ≡ b → IfFine bytes (read_corners bytes res o b)
corners_fine bytes res o true sound long box = (
  sound,
  λ small. (
    voxel_small bytes 37 small (omega (arith, long)),
    voxel_small bytes 43 small (omega (arith, long)),
    (box_exactly (voxel_at bytes 37) (voxel_at bytes 43)).0 box,
  ),
)
corners_fine bytes res o false sound long box = tt

window_fine : (bytes : List ℕ) (res : ℕ) (o : Odds) (byte : ℕ) → IsSound o
    → IfFine bytes (read_window bytes res o byte)
window_fine bytes res o zero sound = (sound, λ small. tt)
window_fine bytes res o (suc zero) sound = by_length (nat_lt (length bytes) 49) refl
  where
    by_length : (b : Bool) → nat_lt (length bytes) 49 ≡ b
        → IfFine bytes (cond {A = Result Fields SnapFault} b (Err (Truncated (length bytes)))
        (read_corners bytes res o (is_box (voxel_at bytes 37) (voxel_at bytes 43))))
    by_length true e = tt
    by_length false e = corners_fine bytes res o (is_box (voxel_at bytes 37) (voxel_at bytes 43))
        sound (not_less (length bytes) 49 e) refl
window_fine bytes res o (suc (suc more)) sound = tt

odds_fine : (bytes : List ℕ) (res : ℕ) (bad : Option OddsField)
    → first_bad_field (odds_at bytes) ≡ bad → IfFine bytes (read_odds bytes res bad)
odds_fine bytes res (Some field) is = tt
odds_fine bytes res None is =
    elim (nat_lt (length bytes) 37) as
    (λ b. IfFine bytes (cond {A = Result Fields SnapFault} b (Err (Truncated (length bytes)))
    (read_window bytes res (odds_at bytes) (slice_index bytes 36)))) [
      | true ↦ tt
      | false ↦ window_fine bytes res (odds_at bytes) (slice_index bytes 36)
          (sound_from_none (odds_at bytes) is)
    ]

version_fine : (o : Odds) (bytes : List ℕ) (res : ℕ) (old : Bool) → IsSound o
    → IfFine bytes (read_version o bytes res old)
version_fine o bytes res true sound = (sound, λ small. tt)
version_fine o bytes res false sound =
    elim (nat_lt (length bytes) 36) as
    (λ b. IfFine bytes (cond {A = Result Fields SnapFault} b (Err (Truncated (length bytes)))
    (read_odds bytes res (first_bad_field (odds_at bytes))))) [
      | true ↦ tt
      | false ↦ odds_fine bytes res (first_bad_field (odds_at bytes)) refl
    ]

res_fine : (o : Odds) (bytes : List ℕ) (old : Bool) → IsSound o
    → IfFine bytes (read_res o bytes old)
res_fine o bytes old sound =
    elim (nat_lt (length bytes) 16)
    as (λ b. IfFine bytes (cond {A = Result Fields SnapFault} b (Err (Truncated (length bytes)))
    (cond {A = Result Fields SnapFault} (is_resolution (res_at bytes))
    (read_version o bytes (res_at bytes) old) (Err (BadSnapshot 8))))) [
      | true ↦ tt
      | false ↦ elim (is_resolution (res_at bytes)) as
          (λ b. IfFine bytes (cond {A = Result Fields SnapFault} b
          (read_version o bytes (res_at bytes) old) (Err (BadSnapshot 8)))) [
            | true ↦ version_fine o bytes (res_at bytes) old sound
            | false ↦ tt
          ]
    ]

fields_fine : (o : Odds) (bytes : List ℕ) → IsSound o → IfFine bytes (read_fields o bytes)
unfolding read_fields
fields_fine o bytes sound =
    elim (starts_with nat_eq bytes (codes "OCTSNAP1"))
    as (λ b. IfFine bytes (cond {A = Result Fields SnapFault} b (read_res o bytes true)
    (cond {A = Result Fields SnapFault} (starts_with nat_eq bytes (codes "OCTSNAP2"))
    (read_res o bytes false) (Err BadMagic)))) [
      | true ↦ res_fine o bytes true sound
      | false ↦ elim (starts_with nat_eq bytes (codes "OCTSNAP2")) as
          (λ b. IfFine bytes (cond {A = Result Fields SnapFault} b (read_res o bytes false)
          (Err BadMagic))) [
            | true ↦ res_fine o bytes false sound
            | false ↦ tt
          ]
    ]

-- a snapshot that is accepted goes by log-odds that make a model, where those do that it is read
-- with
pub snapshot_fine : (o : Odds) (bytes : List ℕ) (s : Snapshot) → IsSound o
    → read_snapshot o bytes ≡ Ok s → AreFine bytes s.head
snapshot_fine o bytes s sound is =
    subst (IfFine bytes) (whole_read o bytes s is).fields (fields_fine o bytes sound)
