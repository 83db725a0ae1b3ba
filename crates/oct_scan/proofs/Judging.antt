-- Beams that are judged one by one before any is walked, or counted one by one.
use Rattle.std.proofs.Common.{◌≡◌, ℕ, ◌+◌, ◌-◌, ◌<◌, ◌≤◌, inl, inr, List, [], ◌∷◌, ◌++◌, map}
use Rattle.std.proofs.Common.{length}
use Rattle.std.proofs.Common.{take, get_or, false, Option, Some, None, refl, sym, subst, ◌∙◌, ap}
use Rattle.std.proofs.Common.{arith}
use Rattle.std.specs.Prelude.{is_none, IsSome, IsNone, min}
use Rattle.std.specs.List.{All, Contains}
use Rattle.std.proofs.lemmas.Bool.{cases_lt}
use Rattle.std.proofs.lemmas.List.{length-map, take-map, take_all, get_or-map}
use Rattle.std.proofs.lemmas.List.Elements.{Contains-get_or}
use Rattle.std.proofs.Math.Nat.{le-min, min-eq_left}
use Rattle.oct_brick.proofs.Lists.{contains_map, none_passed}
use Rattle.oct_key.specs.Voxel.{Voxel, IsResolution, key_at}
use Rattle.oct_key.specs.declared.point.Point.{Point}
use Rattle.oct_ray.specs.Segment.{IsWalkAlong}
use Rattle.oct_ray.specs.Met.{met_by}
use Rattle.oct_ray.proofs.ComputedAxes.{met_by_walks}
use Rattle.oct_scan.specs.declared.beam.Beam.{Beam}
use Rattle.oct_scan.specs.declared.beam.PlacedBeam.{PlacedBeam}
use Rattle.oct_scan.specs.Beam.{bare, bare_beam, beam_to, beams_of, origin_of, IsPlaced, Sighting}
use Rattle.oct_scan.specs.Answer.{MeetsSoMany, MeetInAll, MeetAtMost, ExceedsAt}
use Rattle.oct_scan.specs.Answer.{first_outside}
use Rattle.oct_scan.proofs.Gathering.{met_more, met_next}
use Rattle.oct_scan.proofs.MostMet.{segment_few}
use Rattle.oct_scan.proofs.OutsideEnds.{made_more, all_inside_more}

-- the beams to the first points
abbrev pub beams_to : Sighting → List Point → ℕ → List Beam
beams_to scan points i = map (beam_to scan) (take i points)

-- a beam more that ends inside
pub inside_more : (edge : ℕ) (scan : Sighting) (points : List Point) (i : ℕ) (b : Beam) (d : Point)
    → i < length points → b ≡ beam_to scan (get_or points i d)
    → All (λ b. IsSome (key_at edge b.end)) (beams_to scan points i) → IsSome (key_at edge b.end)
    → All (λ b. IsSome (key_at edge b.end)) (beams_to scan points (i + 1))
inside_more edge scan points i b d l is all one =
    all_inside_more edge (beams_to scan points i) (beams_to scan points (i + 1)) b
    (sym (made_more scan points (beams_to scan points i) (beams_to scan points i ++ b ∷ []) i b d l
    refl refl is)) all one

-- a beam more, with the voxels that it meets
pub judged_more : (edge : ℕ) (scan : Sighting) (points : List Point) (i : ℕ) (b : Beam) (d : Point)
    (total met : ℕ) → i < length points → b ≡ beam_to scan (get_or points i d)
    → MeetInAll edge (origin_of scan) (beams_to scan points i) total
    → MeetsSoMany edge (origin_of scan) b.end met
    → MeetInAll edge (origin_of scan) (beams_to scan points (i + 1)) (total + met)
judged_more edge scan points i b d total met l is so_far one =
    subst (λ bs. MeetInAll edge (origin_of scan) bs (total + met))
    (made_more scan points (beams_to scan points i) (beams_to scan points i ++ b ∷ []) i b d l refl
    refl is)
    (met_more edge (origin_of scan) (beams_to scan points i) b total met so_far one)

-- a bound, as long as it stays within another one, with the beam more
pub bound_more : (edge : ℕ) (o : Point) (bs : List PlacedBeam) (i : ℕ) (d : PlacedBeam) (k : Voxel)
    (bound more next most : ℕ) → IsResolution edge → i < length bs → key_at edge o ≡ Some k
    → All (IsPlaced edge) bs
    → more ≡ 1 + ((k.x - (get_or bs i d).voxel.x) + ((get_or bs i d).voxel.x - k.x))
    + ((k.y - (get_or bs i d).voxel.y) + ((get_or bs i d).voxel.y - k.y))
    + ((k.z - (get_or bs i d).voxel.z) + ((get_or bs i d).voxel.z - k.z))
    → next ≡ min (bound + more) (most + 1)
    → (bound ≤ most → MeetAtMost edge o (take i (bare bs)) bound)
    → next ≤ most → MeetAtMost edge o (take (i + 1) (bare bs)) next
bound_more edge o bs i d k bound more next most range lt key_o placed counted capped so_far few =
    let b : PlacedBeam = get_or bs i d in
    let small : bound + more ≤ most = elim (cases_lt most (bound + more)) [
      | inl above ↦ absurd (let high : most + 1 ≤ min (bound + more) (most + 1) =
          le-min (omega (arith, above)) (omega arith) in omega (arith, high, capped, few))
      | inr below ↦ below
    ] in
    let sum : next ≡ bound + more = capped ∙ min-eq_left (omega (arith, small)) in
    let (total, met, le) = so_far (omega (arith, small)) in
    let key_e : key_at edge b.end ≡ Some b.voxel = placed i d lt in
    let walk : IsWalkAlong edge o b.end (met_by edge o b.end) =
    met_by_walks edge o b.end range (rw key_o refl) (rw key_e refl) in
    let one : MeetsSoMany edge o b.end (length (met_by edge o b.end)) =
    record { voxels = met_by edge o b.end; walk = walk; counted = refl } in
    let few' = segment_few edge o b.end k b.voxel (omega arith) key_o key_e in (
      total + length (met_by edge o b.end),
      met_next edge o (bare bs) i (bare_beam d) total (length (met_by edge o b.end))
          (omega (arith, lt, length-map bs bare_beam)) met
          (subst (λ c. MeetsSoMany edge o c.end (length (met_by edge o b.end)))
          (sym (get_or-map bare_beam bs i d (bare_beam d) lt)) one),
      omega (arith, le, few', counted, sum),
    )

-- before the first beam nothing is met
pub bound_none : (edge : ℕ) (o : Point) (bs : List PlacedBeam)
    → MeetAtMost edge o (take 0 (bare bs)) 0
bound_none edge o bs = (0, refl, omega arith)

-- and after the last one all are counted
pub bound_all : (edge : ℕ) (o : Point) (bs : List PlacedBeam) (i bound : ℕ) → length bs ≤ i
    → MeetAtMost edge o (take i (bare bs)) bound → MeetAtMost edge o (bare bs) bound
bound_all edge o bs i bound l =
    subst (λ cs. MeetAtMost edge o cs bound)
    (take_all i (bare bs) (omega (arith, l, length-map bs bare_beam)))

-- the beams to the first points are the first of the scan's
pub beams_first : (scan : Sighting) (points : List Point) (i : ℕ) → points ≡ scan.points
    → beams_to scan points i ≡ take i (beams_of scan)
beams_first scan points i same =
    sym (take-map (beam_to scan) i points) ∙ ap (λ ps. take i (map (beam_to scan) ps)) same

-- the beam with which too many voxels are met
pub exceeded : (edge : ℕ) (scan : Sighting) (points : List Point) (i : ℕ) (b : Beam) (d : Point)
    (total met most : ℕ) → points ≡ scan.points → i < length points
    → b ≡ beam_to scan (get_or points i d)
    → MeetInAll edge (origin_of scan) (beams_to scan points i) total → total ≤ most
    → MeetsSoMany edge (origin_of scan) b.end met → most < total + met
    → ExceedsAt edge (origin_of scan) (beams_of scan) most i (total + met)
exceeded edge scan points i b d total met most same l is so_far few one more =
    let o : Point = origin_of scan in record {
      there = omega (arith, l, ap length same, length-map scan.points (beam_to scan));
      before = (
        total,
        subst (λ bs. MeetInAll edge o bs total) (beams_first scan points i same) so_far,
        few,
      );
      met = subst (λ bs. MeetInAll edge o bs (total + met)) (beams_first scan points (i + 1) same)
          (judged_more edge scan points i b d total met l is so_far one);
      more = more;
    }

-- where no beam ends outside, this one ends inside
pub inside_at : (edge : ℕ) (scan : Sighting) (points : List Point) (i : ℕ) (b : Beam) (d : Point)
    → points ≡ scan.points → i < length points → b ≡ beam_to scan (get_or points i d)
    → IsNone (first_outside edge scan) → IsSome (key_at edge b.end)
inside_at edge scan points i b d same l is none =
    let p : Point = get_or points i d in
    let there : Contains (beams_of scan) (beam_to scan p) =
    contains_map (beam_to scan) scan.points p
    (subst (λ ps. Contains ps p) same (Contains-get_or points i d l)) in
    let test = none_passed (λ b. is_none (key_at edge b.end)) (beams_of scan) (beam_to scan p) none
    there in
    subst (λ c. IsSome (key_at edge c.end)) (sym is)
    (some_of (key_at edge (beam_to scan p).end) test)
  where
    some_of : (key : Option Voxel) → is_none key ≡ false → IsSome key
    some_of (Some k) e = refl
    some_of None e = absurd (let h : ⊥ = cc in h)
