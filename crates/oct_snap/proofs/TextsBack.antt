-- The texts of snapshots are read back.
use Rattle.std.proofs.Common.{◌≡◌, ℕ, ◌≤◌, Option, None, List, [], ◌++◌, drop, append-nil, refl}
use Rattle.std.proofs.Common.{sym, ◌∙◌, ap}
use Rattle.std.specs.Prelude.{IfSome, codes, Ok}
use Rattle.oct_key.specs.Voxel.{Voxel, IsInMap}
use Rattle.oct_key.specs.Values.{Values}
use Rattle.oct_key.specs.Boxes.{Window, IsBox}
use Rattle.oct_odds.specs.Odds.{Odds, IsSound}
use Rattle.oct_odds.specs.Update.{IsWithin}
use Rattle.oct_snap.specs.Texts.{res_bytes, head_bytes, map_text, snap_text, old_text}
use Rattle.oct_snap.specs.Reading.{Fields, Snapshot, fields, with_nodes, with_fields, read_node}
use Rattle.oct_snap.specs.Reading.{read_fields, read_snapshot, values_of}
use Rattle.oct_snap.proofs.MapNodes.{map_nodes}
use Rattle.oct_snap.proofs.Back.{map_back}
use Rattle.oct_snap.proofs.HeadsBack.{head_back, old_back}

-- a text after fields that are read
behind_fields : (o : Odds) (h : Fields) (file : List ℕ) (values : Values) → read_fields o file
    ≡ Ok h → drop h.start file ≡ map_text values
    → IsSound h.odds → ((k : Voxel) → IsInMap k → IsWithin h.odds (values k))
    → (s : Snapshot) × (read_snapshot o file ≡ Ok s) × (s.head ≡ h)
    × ((k : Voxel) → IsInMap k → values_of s k ≡ values k)
unfolding read_snapshot
behind_fields o h file values read behind sound within =
    let (nodes, are) = map_nodes h.odds values within in
    let back = map_back h.odds values sound nodes are h.start [] in (
      record { head = h; nodes = nodes },
      ap (with_fields file) read
          ∙ ap (λ (t : List ℕ). with_nodes h (read_node h.odds 16 h.start t))
          (behind ∙ sym (append-nil (map_text values)))
          ∙ ap (with_nodes h) back,
      refl,
      are.value,
    )

pub text_back : (o : Odds) (res : ℕ) (odds : Odds) (window : Option Window) (values : Values)
    → (100000 ≤ res) × (res ≤ 100000000000)
    → IsSound odds → IfSome window (λ w. IsInMap w.lo × IsInMap w.hi × IsBox w.lo w.hi)
    → ((k : Voxel) → IsInMap k → IsWithin odds (values k))
    → (s : Snapshot) × (read_snapshot o (snap_text res odds window values) ≡ Ok s)
    × (s.head.res ≡ res) × (s.head.version ≡ 2) × (s.head.odds ≡ odds) × (s.head.window ≡ window)
    × ((k : Voxel) → IsInMap k → values_of s k ≡ values k)
unfolding snap_text
text_back o res odds window values ok sound box within =
    let h = head_back o res odds window (map_text values) ok sound box in
    let (s, read, head, same) = behind_fields o (fields res 2 odds window h.start)
    (head_bytes res odds window ++ map_text values) values
    h.read h.behind sound within in (
      s,
      read,
      ap (λ (h : Fields). h.res) head,
      ap (λ (h : Fields). h.version) head,
      ap (λ (h : Fields). h.odds) head,
      ap (λ (h : Fields). h.window) head,
      same,
    )

pub old_text_back : (o : Odds) (res : ℕ) (values : Values) → (100000 ≤ res) × (res ≤ 100000000000)
    → IsSound o
    → ((k : Voxel) → IsInMap k → IsWithin o (values k))
    → (s : Snapshot) × (read_snapshot o (old_text res values) ≡ Ok s) × (s.head.res ≡ res)
    × (s.head.version ≡ 1)
    × ((k : Voxel) → IsInMap k → values_of s k ≡ values k)
unfolding old_text
old_text_back o res values ok sound within =
    let h = old_back o res (map_text values) ok in
    let (s, read, head, same) = behind_fields o (fields res 1 o None 16)
    ((codes "OCTSNAP1" ++ res_bytes res) ++ map_text values) values
    h.read h.behind sound within in (
      s,
      read,
      ap (λ (h : Fields). h.res) head,
      ap (λ (h : Fields). h.version) head,
      same,
    )
