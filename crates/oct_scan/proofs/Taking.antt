-- That a scan has a point.
use Rattle.std.proofs.Common.{ℕ, ◌+◌, ◌*◌, ◌<◌, ◌≤◌, ◌↔◌, inl, inr, List, [], ◌∷◌, length, Option}
use Rattle.std.proofs.Common.{arith}
use Rattle.std.specs.Int.{w64, trailing_zeros}
use Rattle.std.specs.List.{All, Any, Contains}
use Rattle.std.proofs.lemmas.List.{length-map}
use Rattle.std.proofs.lemmas.List.Elements.{All-head}
use Rattle.oct_key.specs.Voxel.{Voxel}
use Rattle.oct_key.specs.Block.{Cube, HoldsVoxel}
use Rattle.oct_key.specs.Boxes.{Window, IsInWindow}
use Rattle.oct_key.specs.declared.point.Point.{Point}
use Rattle.oct_brick.specs.declared.brick.Brick.{Brick}
use Rattle.oct_brick.specs.Masks.{HasCode}
use Rattle.oct_brick.specs.Bricks.{scanned_codes, hit_codes, freed_codes, frees_of, IsBrick}
use Rattle.oct_brick.specs.Voxels.{coded_voxel, hit_voxels, freed_voxels}
use Rattle.oct_brick.proofs.Bits.{some_code, has_tells, and_not}
use Rattle.oct_brick.proofs.BrickCodes.{by_listed}
use Rattle.oct_brick.proofs.Lists.{contains_here, contains_map}
use Rattle.oct_scan.specs.declared.beam.Beam.{Beam}
use Rattle.oct_scan.specs.Beam.{beam_to, beams_of, Sighting}
use Rattle.oct_scan.specs.Gathered.{HoldGathered}
use Rattle.oct_scan.specs.Scanned.{IsHit, IsFreed, IsScanned, IsNeed}

-- a beam is one to a point
pub points_of : (scan : Sighting) → 0 < length (beams_of scan) → 0 < length scan.points
points_of scan some = omega (arith, some, length-map scan.points (beam_to scan))

any_point : (scan : Sighting) (P : Beam → Type 0) → Any P (beams_of scan) → 0 < length scan.points
any_point scan P (k, b, l, is, holds) = points_of scan (omega (arith, l))

-- so that a scan that changes a voxel has a point
pub scanned_point : (edge : ℕ) (window : Option Window) (scan : Sighting) (k : Voxel)
    → IsScanned edge window scan k → 0 < length scan.points
scanned_point edge window scan k (within, inl hit) = any_point scan _ hit
scanned_point edge window scan k (within, inr freed) = any_point scan _ freed.1

-- and so has one that may need a group
pub need_point : (edge : ℕ) (window : Option Window) (scan : Sighting) (need : ℕ)
    → IsNeed edge window scan need → 0 < need → 0 < length scan.points
need_point edge window scan need is some =
    block is.blocks (omega (arith, is.counted, some)) (λ b h. (is.listed b).0 h)
  where
    block : (bs : List Cube) → 0 < length bs
        → ((b : Cube) → Contains bs b
        → (b.depth ≤ 15) × ((k : Voxel) × IsScanned edge window scan k × HoldsVoxel b k))
        → 0 < length scan.points
    block [] l each = absurd (omega (arith, l))
    block (b ∷ bs) l each = (let (deep, (k, scanned, held)) = each b (contains_here b bs) in
        scanned_point edge window scan k scanned)

-- a brick has the code of a voxel that changes
brick_code : (b : Brick) → IsBrick b → (code : ℕ) × HasCode b.code b.scanned code
brick_code b is = (
  64 * b.code + trailing_zeros w64 b.scanned,
  some_code b.code b.scanned is.some is.fits,
)

-- bricks that were gathered are those of beams
pub gathered_some : (edge : ℕ) (window : Option Window) (o : Point) (beams : List Beam)
    (bricks : List Brick) (most : ℕ) → HoldGathered edge window o beams bricks most
    → All IsBrick bricks → 0 < length bricks → 0 < length beams
gathered_some edge window o beams [] most held all some = absurd (omega (arith, some))
gathered_some edge window o beams (b ∷ bs) most held all some =
    let (code, has) = brick_code b (All-head IsBrick b bs all) in
    let listed : Contains (scanned_codes (b ∷ bs)) code =
    by_listed (λ b. b.scanned) (b ∷ bs) code b (contains_here b bs) has in
    let (beam, (n, l, there), marked) =
    (held.gathered.marks code).0 ((held.held.same_scanned code).1 listed) in
    omega (arith, l)

-- and bricks of the voxels that a scan changes are those of points
pub bricks_point : (edge : ℕ) (window : Option Window) (scan : Sighting) (bricks : List Brick)
    → All IsBrick bricks → ((k : Voxel)
    → Contains (hit_voxels bricks) k ↔ (IsInWindow window k × IsHit edge scan k))
    → ((k : Voxel) → Contains (freed_voxels bricks) k ↔ (IsInWindow window k × IsFreed edge scan k))
    → 0 < length bricks → 0 < length scan.points
bricks_point edge window scan [] all hits frees some = absurd (omega (arith, some))
bricks_point edge window scan (b ∷ bs) all hits frees some =
    let is : IsBrick b = All-head IsBrick b bs all in
    let (code, has) = brick_code b is in
    elim (has_tells b.code b.hits code has.inside) [
      | inl hit ↦ (let (within, is_hit) = (hits (coded_voxel code)).0
          (contains_map coded_voxel (hit_codes (b ∷ bs)) code
          (by_listed (λ b. b.hits) (b ∷ bs) code b (contains_here b bs) hit)) in
          scanned_point edge window scan (coded_voxel code) (within, inl is_hit))
      | inr not ↦ (let (within, is_freed) = (frees (coded_voxel code)).0
          (contains_map coded_voxel (freed_codes (b ∷ bs)) code
          (by_listed frees_of (b ∷ bs) code b (contains_here b bs)
          ((and_not b.code b.scanned b.hits code is.hits_fit).1 (has, not)))) in
          scanned_point edge window scan (coded_voxel code) (within, inr is_freed))
    ]
