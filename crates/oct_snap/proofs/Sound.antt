-- What is known of an accepted snapshot: its fields are sound, and its values lie within its
-- bounds.
use Rattle.std.proofs.Common.{◌≡◌, ℕ, zero, suc, ◌+◌, ◌<◌, ◌≤◌, List, [], ◌∷◌, length, refl}
use Rattle.std.proofs.Common.{subst, arith, cond, Option, Some, None}
use Rattle.std.specs.Prelude.{IfOk, Bool, true, false, nat_lt, nat_le, nat_eq, codes, slice_index}
use Rattle.std.specs.Prelude.{Result, Ok, Err}
use Rattle.std.specs.Int.{w16, from_be_bytes}
use Rattle.std.specs.List.{starts_with}
use Rattle.std.proofs.lemmas.Bool.{and_parts, leb-true}
use Rattle.std.proofs.lemmas.List.Elements.{All-get_or}
use Rattle.oct_key.specs.Block.{child_index_of}
use Rattle.oct_key.specs.Boxes.{is_box}
use Rattle.oct_key.specs.Voxel.{Voxel, IsInMap, IsResolution}
use Rattle.oct_key.proofs.Boxes.{box_exactly}
use Rattle.oct_odds.specs.Odds.{Odds, IsSound, first_bad_field}
use Rattle.oct_odds.specs.Update.{IsWithin}
use Rattle.oct_odds.specs.declared.model.OddsField.{OddsField}
use Rattle.oct_odds.proofs.Soundness.{sound_from_none}
use Rattle.oct_snap.specs.declared.fault.SnapFault.{SnapFault}
use Rattle.oct_snap.specs.declared.fault.SnapFault.TheVariants.{BadMagic, Truncated, BadSnapshot}
use Rattle.oct_snap.specs.Nodes.{Nodes, End, Whole, Parted, AreNodes, value_in}
use Rattle.oct_snap.specs.Reading.{Fields, Snapshot, read_fields, read_res}
use Rattle.oct_snap.specs.Reading.{read_version, read_odds, read_window, read_corners, odds_at}
use Rattle.oct_snap.specs.Reading.{res_at, is_resolution, axis_at, voxel_at}
use Rattle.oct_snap.specs.Sound.{AreSound, IsSoundSnapshot}
use Rattle.oct_snap.proofs.Exact.{AreSmall}
use Rattle.oct_snap.proofs.Again.{not_less}

-- ---- the fields

abbrev HasSound : Result Fields SnapFault → Type 0
HasSound r = IfOk r AreSound

either : (b : Bool) (x y : Result Fields SnapFault) → (b ≡ true → HasSound x)
    → (b ≡ false → HasSound y) → HasSound (cond {A = Result Fields SnapFault} b x y)
either true x y first second = first refl
either false x y first second = second refl

two_bytes : (a b : ℕ) → a < 256 → b < 256 → from_be_bytes w16 (a ∷ b ∷ []) < 65536
two_bytes a b first second = omega (arith, first, second)

axis_small : (file : List ℕ) (at : ℕ) → AreSmall file → at + 2 ≤ length file
    → axis_at file at < 65536
axis_small file at small inside =
    two_bytes (slice_index file at) (slice_index file (at + 1))
    (All-get_or (λ b. b < 256) file at 0 (omega (arith, inside)) small)
    (All-get_or (λ b. b < 256) file (at + 1) 0 (omega (arith, inside)) small)

voxel_small : (file : List ℕ) (at : ℕ) → AreSmall file → at + 6 ≤ length file
    → IsInMap (voxel_at file at)
voxel_small file at small inside = record {
  x = axis_small file at small (omega (arith, inside));
  y = axis_small file (at + 2) small (omega (arith, inside));
  z = axis_small file (at + 4) small (omega (arith, inside));
}

corners_sound : (file : List ℕ) (res : ℕ) (o : Odds) (b : Bool) → AreSmall file
    → IsResolution res → IsSound o → 49 ≤ length file
    → is_box (voxel_at file 37) (voxel_at file 43) ≡ b → HasSound (read_corners file res o b)
corners_sound file res o true small edge sound long is = record {
  res = edge;
  odds = sound;
  window = (
    voxel_small file 37 small (omega (arith, long)),
    voxel_small file 43 small (omega (arith, long)),
    (box_exactly (voxel_at file 37) (voxel_at file 43)).0 is,
  );
}
corners_sound file res o false small edge sound long is = tt

window_sound : (file : List ℕ) (res : ℕ) (o : Odds) (byte : ℕ) → AreSmall file
    → IsResolution res → IsSound o → HasSound (read_window file res o byte)
window_sound file res o zero small edge sound = record { res = edge; odds = sound; window = tt }
window_sound file res o (suc zero) small edge sound =
    either (nat_lt (length file) 49) (Err (Truncated (length file)))
    (read_corners file res o (is_box (voxel_at file 37) (voxel_at file 43))) (λ short. tt)
    (λ long. corners_sound file res o (is_box (voxel_at file 37) (voxel_at file 43)) small edge
    sound (not_less (length file) 49 long) refl)
window_sound file res o (suc (suc more)) small edge sound = tt

odds_sound : (file : List ℕ) (res : ℕ) (field : Option OddsField) → AreSmall file
    → IsResolution res → first_bad_field (odds_at file) ≡ field
    → HasSound (read_odds file res field)
odds_sound file res (Some field) small edge is = tt
odds_sound file res None small edge is =
    either (nat_lt (length file) 37) (Err (Truncated (length file)))
    (read_window file res (odds_at file) (slice_index file 36)) (λ short. tt)
    (λ long. window_sound file res (odds_at file) (slice_index file 36) small edge
    (sound_from_none (odds_at file) is))

version_sound : (o : Odds) (file : List ℕ) (res : ℕ) (old : Bool) → AreSmall file
    → IsResolution res → IsSound o → HasSound (read_version o file res old)
version_sound o file res true small edge sound =
    record { res = edge; odds = sound; window = tt }
version_sound o file res false small edge sound =
    either (nat_lt (length file) 36) (Err (Truncated (length file)))
    (read_odds file res (first_bad_field (odds_at file))) (λ short. tt)
    (λ long. odds_sound file res (first_bad_field (odds_at file)) small edge refl)

edge_sound : (edge : ℕ) → is_resolution edge ≡ true → IsResolution edge
edge_sound edge is =
    let both = and_parts (nat_le 100000 edge) (nat_le edge 100000000000) is in
    (leb-true 100000 edge both.0, leb-true edge 100000000000 both.1)

res_sound : (o : Odds) (file : List ℕ) (old : Bool) → AreSmall file → IsSound o
    → HasSound (read_res o file old)
res_sound o file old small sound =
    either (nat_lt (length file) 16) (Err (Truncated (length file)))
    (cond {A = Result Fields SnapFault} (is_resolution (res_at file))
    (read_version o file (res_at file) old) (Err (BadSnapshot 8))) (λ short. tt)
    (λ long. either (is_resolution (res_at file)) (read_version o file (res_at file) old)
    (Err (BadSnapshot 8))
    (λ is. version_sound o file (res_at file) old small (edge_sound (res_at file) is) sound)
    (λ is. tt))

pub fields_sound : (o : Odds) (file : List ℕ) (head : Fields) → IsSound o → AreSmall file
    → read_fields o file ≡ Ok head → AreSound head
unfolding read_fields
fields_sound o file head sound small is =
    let all : HasSound (read_fields o file) =
    either (starts_with nat_eq file (codes "OCTSNAP1")) (read_res o file true)
    (cond {A = Result Fields SnapFault} (starts_with nat_eq file (codes "OCTSNAP2"))
    (read_res o file false) (Err BadMagic)) (λ old. res_sound o file true small sound)
    (λ other. either (starts_with nat_eq file (codes "OCTSNAP2")) (read_res o file false)
    (Err BadMagic) (λ new. res_sound o file false small sound) (λ none. tt)) in
    subst HasSound is all

-- ---- the values

-- the value of each node that covers a voxel lies within the bounds
values_within : (o : Odds) (depths n : ℕ) (nodes : Nodes) (depth i : ℕ) (k : Voxel)
    → AreNodes o depths n nodes → IsWithin o (value_in depth nodes i k)
unfolding value_in
values_within o depths n End depth i k are = tt
values_within o depths zero (Whole value later) depth i k are = absurd are
values_within o depths (suc n) (Whole value later) depth zero k are = are.0
values_within o depths (suc n) (Whole value later) depth (suc i) k are =
    values_within o depths n later depth i k are.1
values_within o depths zero (Parted inner later) depth i k are = absurd are
values_within o zero (suc n) (Parted inner later) depth i k are = absurd are
values_within o (suc depths) (suc n) (Parted inner later) depth zero k are =
    values_within o depths 8 inner (suc depth) (child_index_of depth k) k are.0
values_within o (suc depths) (suc n) (Parted inner later) depth (suc i) k are =
    values_within o (suc depths) n later depth i k are.2

pub snapshot_sound : (s : Snapshot) → AreSound s.head → AreNodes s.head.odds 16 1 s.nodes
    → IsSoundSnapshot s
snapshot_sound s fields are = record {
  fields = fields;
  within = λ k. values_within s.head.odds 16 1 s.nodes 0 0 k are;
}
