-- The voxels of a box, row by row and plane by plane.
use Rattle.std.proofs.Common.{◌≡◌, ℕ, ◌+◌, ◌-◌, ◌*◌, ◌<◌, ◌≤◌, List, inl, inr, ap}
use Rattle.std.proofs.Common.{arith}
use Rattle.std.proofs.lemmas.Bool.{cases_eq}
use Rattle.oct_key.specs.Voxel.{Voxel}
use Rattle.oct_key.proofs.SameVoxels.{same_voxel}
use Rattle.oct_key.specs.Boxes.{IsInBox}
use Rattle.oct_values.specs.Classes.{Classes}
use Rattle.oct_change.specs.declared.changes.Note.{Note}
use Rattle.oct_change.specs.Notes.{HasNoted}
use Rattle.oct_change.specs.Rows.{IsInRow, IsInPlane}
use Rattle.oct_change.proofs.Noting.{noted_join, noted_none}

-- Of some parts in a row those below a number are noted, each with this many voxels.
pub record IsBelow (now : Classes) (P : Voxel → Type 0) (from to size : ℕ) (old new : List Note)
    (before after : ℕ) : Type 0 where
  pub noted : HasNoted now P old new
  pub low : from ≤ to
  pub room : before ≡ after + (to - from) * size

pub below_start : (now : Classes) (P : Voxel → Type 0) (from to size : ℕ) (old : List Note)
    (spare : ℕ) → to ≡ from → ((k : Voxel) → P k → ⊥)
    → IsBelow now P from to size old old spare spare
below_start now P from to size old spare same none = record {
  noted = noted_none now P old none;
  low = omega arith;
  room = (let nothing : to - from ≡ 0 = omega arith in rw nothing (omega arith));
}

pub room_one_more : (from to size before between after : ℕ) → from ≤ to
    → before ≡ between + (to - from) * size → between ≡ after + size
    → before ≡ after + (to + 1 - from) * size
room_one_more from to size before between after low total here =
    let next : to + 1 - from ≡ (to - from) + 1 = omega arith in
    rw next (omega (arith, total, here))

-- of a row the voxels below one
abbrev pub IsInRowBelow : ℕ → ℕ → ℕ → ℕ → Voxel → Type 0
IsInRowBelow x y low z k = (k.x ≡ x) × (k.y ≡ y) × (low ≤ k.z) × (k.z < z)

pub row_step : (now : Classes) (x y low z : ℕ) (old mid new : List Note) (before between after : ℕ)
    → IsBelow now (IsInRowBelow x y low z) low z 1 old mid before between
    → HasNoted now (λ k. k ≡ record { x = x; y = y; z = z }) mid new → between ≡ after + 1
    → IsBelow now (IsInRowBelow x y low (z + 1)) low (z + 1) 1 old new before after
row_step now x y low z old mid new before between after f g room = record {
  noted = noted_join now (IsInRowBelow x y low z) (λ k. k ≡ record { x = x; y = y; z = z })
      (IsInRowBelow x y low (z + 1)) old mid new f.noted g
      (λ k (ex, ey, from, to). elim (cases_eq k.z z) [
        | inl same ↦ inr (same_voxel k (record { x = x; y = y; z = z }) ex ey same)
        | inr other ↦ inl (ex, ey, from, omega arith)
      ])
      (λ k (ex, ey, from, to). (ex, ey, from, omega arith))
      (λ k is. (let start = f.low in let height = ap (λ (q : Voxel). q.z) is in (
        ap (λ (q : Voxel). q.x) is,
        ap (λ (q : Voxel). q.y) is,
        omega (arith, start, height),
        omega
            (arith, height),
      )));
  low = (let start = f.low in omega arith);
  room = room_one_more low z 1 before between after f.low f.room room;
}

-- of a plane the rows below one
abbrev pub IsInPlaneBelow : ℕ → Voxel → Voxel → ℕ → Voxel → Type 0
IsInPlaneBelow x lo hi y k = (k.x ≡ x) × (lo.y ≤ k.y) × (k.y < y) × (lo.z ≤ k.z) × (k.z ≤ hi.z)

pub plane_step : (now : Classes) (x y size : ℕ) (lo hi : Voxel) (old mid new : List Note)
    (before between after : ℕ)
    → IsBelow now (IsInPlaneBelow x lo hi y) lo.y y size old mid before between
    → HasNoted now (IsInRow x y lo.z hi.z) mid new → between ≡ after + size
    → IsBelow now (IsInPlaneBelow x lo hi (y + 1)) lo.y (y + 1) size old new before after
plane_step now x y size lo hi old mid new before between after f g room = record {
  noted = noted_join now (IsInPlaneBelow x lo hi y) (IsInRow x y lo.z hi.z)
      (IsInPlaneBelow x lo hi (y + 1)) old mid new f.noted g
      (λ k (ex, from, to, low, high). elim (cases_eq k.y y) [
        | inl same ↦ inr (ex, same, (low, high))
        | inr other ↦ inl (ex, from, omega arith, low, high)
      ])
      (λ k (ex, from, to, low, high). (ex, from, omega arith, low, high))
      (λ k (ex, ey, (low, high)). (let start = f.low in
      (ex, omega (arith, start, ey), omega (arith, ey), low, high)));
  low = (let start = f.low in omega arith);
  room = room_one_more lo.y y size before between after f.low f.room room;
}

-- of a box the planes below one
abbrev pub IsInBoxBelow : Voxel → Voxel → ℕ → Voxel → Type 0
IsInBoxBelow lo hi x k = IsInBox lo hi k × (k.x < x)

pub box_step : (now : Classes) (x size : ℕ) (lo hi : Voxel) (old mid new : List Note)
    (before between after : ℕ) → x ≤ hi.x
    → IsBelow now (IsInBoxBelow lo hi x) lo.x x size old mid before between
    → HasNoted now (IsInPlane x lo hi) mid new → between ≡ after + size
    → IsBelow now (IsInBoxBelow lo hi (x + 1)) lo.x (x + 1) size old new before after
box_step now x size lo hi old mid new before between after most f g room = record {
  noted = noted_join now (IsInBoxBelow lo hi x) (IsInPlane x lo hi) (IsInBoxBelow lo hi (x + 1))
      old mid new f.noted g
      (λ k (inside, to). elim (cases_eq k.x x) [
        | inl same ↦ inr (same, inside.y, inside.z)
        | inr other ↦ inl (inside, omega arith)
      ])
      (λ k (inside, to). (inside, omega arith))
      (λ k (ex, y, z). (let start = f.low in (
        record { x = (omega (arith, start, ex), omega (arith, most, ex)); y = y; z = z },
        omega (arith, ex),
      )));
  low = (let start = f.low in omega arith);
  room = room_one_more lo.x x size before between after f.low f.room room;
}
