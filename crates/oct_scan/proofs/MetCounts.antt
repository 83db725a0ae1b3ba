-- A scan that isn't refused hits and frees no more voxels than its beams may meet.
use Rattle.std.proofs.Common.{◌≡◌, ℕ, ◌≤◌, inl, inr, Bool, true, false, ◌&&◌, cond, List, [], ◌∷◌}
use Rattle.std.proofs.Common.{Option, Some, None, length, refl, sym, ap, subst, ◌∙◌, arith, get_or}
use Rattle.std.proofs.Common.{ℤ}
use Rattle.std.specs.Prelude.{count_by}
use Rattle.std.specs.List.{Contains, flat_map, list_any}
use Rattle.std.proofs.lemmas.Bool.{cases_Bool, and_parts}
use Rattle.std.proofs.lemmas.Int.{ints}
use Rattle.std.proofs.lemmas.List.Concat.{length-flat_map}
use Rattle.std.proofs.lemmas.List.Elements.{Contains-append_left, Contains-append_right}
use Rattle.std.proofs.lemmas.List.Sums.{sum_by-cons, sum_by-le}
use Rattle.oct_key.specs.Block.{HoldsVoxel, root_block}
use Rattle.oct_key.specs.Boxes.{Window, is_in_window}
use Rattle.oct_key.specs.Values.{is_same_voxel}
use Rattle.oct_key.specs.Voxel.{Voxel, HoldsOnAxis, IsResolution, key_at}
use Rattle.oct_key.specs.declared.point.Point.{Point}
use Rattle.oct_key.proofs.Blocks.{root_in_map}
use Rattle.oct_key.proofs.Faces.{Holds-key_at}
use Rattle.oct_key.proofs.SameVoxels.{is_same_voxel_exact, is_same_voxel_refl}
use Rattle.oct_ray.specs.Met.{met_by}
use Rattle.oct_ray.specs.Segment.{IsBetweenFaces, Meets}
use Rattle.oct_values.specs.Blocks.{voxels_of}
use Rattle.oct_values.proofs.Held.{listed_once, one_passes}
use Rattle.oct_values.proofs.Sums.{sum_by-each_le, sum_by-turned}
use Rattle.oct_brick.proofs.Lists.{contains_none, contains_cases}
use Rattle.oct_scan.specs.declared.beam.Beam.{Beam}
use Rattle.oct_scan.specs.Answer.{IsInside}
use Rattle.oct_scan.specs.Beam.{Sighting, origin_of, beams_of}
use Rattle.oct_scan.specs.Outcome.{is_hit, is_freed, hit_count, free_count, scan_fault}
use Rattle.oct_scan.proofs.Faults.{cells_of, without_fault}
use Rattle.oct_scan.proofs.Tests.{beam_walks, hit_exactly, freed_exactly}

-- ---- a list with each voxel that passes a test

-- a voxel of a list is found there
found_there : (v : Voxel) (ks : List Voxel) → Contains ks v
    → 1 ≤ count_by (λ k. is_same_voxel k v) ks
found_there v [] there = absurd (contains_none v there)
found_there v (k ∷ ks) there =
    let sum = sum_by-cons (λ k. cond {A = ℕ} (is_same_voxel k v) 1 0) k ks in
    elim (contains_cases k v ks there) [
      | inl e ↦
          let here : cond {A = ℕ} (is_same_voxel k v) 1 0 ≡ 1 =
          rw (ap (λ m. is_same_voxel m v) e ∙ is_same_voxel_refl v) refl in
          omega (arith, sum, here)
      | inr later ↦ (let rest = found_there v ks later in omega (arith, sum, rest))
    ]

none_pass : (p : Voxel → Bool) (ks : List Voxel) → list_any p ks ≡ false → count_by p ks ≡ 0
none_pass p [] none = refl
none_pass p (k ∷ ks) none =
    let sum = sum_by-cons (λ k. cond {A = ℕ} (p k) 1 0) k ks in
    elim (cases_Bool (p k)) [
      | inl t ↦ absurd (let e : ⊥ = grind (arith, none, t) in e)
      | inr f ↦
          let here : cond {A = ℕ} (p k) 1 0 ≡ 0 = rw f refl in
          let later : list_any p ks ≡ false = sym (rw f refl) ∙ none in
          let rest = none_pass p ks later in
          omega (arith, sum, here, rest)
    ]

-- the map's voxels have each once
once_at_most : (k : Voxel) → count_by (is_same_voxel k) (voxels_of root_block) ≤ 1
once_at_most k = elim (cases_Bool (list_any (is_same_voxel k) (voxels_of root_block))) [
  | inl some ↦
      let r = one_passes (is_same_voxel k) root_block root_in_map some in
      let held : HoldsVoxel root_block k =
      subst (HoldsVoxel root_block) (sym (is_same_voxel_exact k r.0 r.2)) r.1 in
      let once = listed_once root_block k root_in_map held in
      omega (arith, once)
  | inr none ↦
      (let no = none_pass (is_same_voxel k) (voxels_of root_block) none in omega (arith, no))
]

-- no more of the map's voxels pass a test than stand in a list that has each of them
passing_few : (p : Voxel → Bool) (ks : List Voxel) → ((k : Voxel) → p k ≡ true → Contains ks k)
    → count_by p (voxels_of root_block) ≤ length ks
passing_few p ks listed =
    let all : List Voxel = voxels_of root_block in
    let found = sum_by-each_le (λ v. cond {A = ℕ} (p v) 1 0)
    (λ v. count_by (λ k. is_same_voxel k v) ks) all
    (λ i d l. each (get_or all i d) (p (get_or all i d)) refl) in
    let turned = sum_by-turned (λ v k. cond {A = ℕ} (is_same_voxel k v) 1 0) all ks in
    let once = sum_by-le (λ k. count_by (is_same_voxel k) all) 1 ks
    (λ i d l. once_at_most (get_or ks i d)) in
    omega (arith, found, turned, once)
  where
    each : (v : Voxel) (b : Bool) → p v ≡ b
        → cond {A = ℕ} b 1 0 ≤ count_by (λ k. is_same_voxel k v) ks
    each v true passes = found_there v ks (listed v passes)
    each v false fails = omega arith

-- ---- the voxels that the beams of a scan meet, one beam after another

abbrev all_met : ℕ → Point → List Beam → List Voxel
all_met edge o bs = flat_map (λ b. met_by edge o b.end) bs

met_there : (edge : ℕ) (o : Point) (bs : List Beam) (b : Beam) (k : Voxel) → Contains bs b
    → Contains (met_by edge o b.end) k → Contains (all_met edge o bs) k
met_there edge o [] b k there met = absurd (contains_none b there)
met_there edge o (c ∷ bs) b k there met = elim (contains_cases c b bs there) [
  | inl e ↦ Contains-append_left (met_by edge o c.end) (all_met edge o bs) k
      (subst (λ (x : Beam). Contains (met_by edge o x.end) k) (sym e) met)
  | inr later ↦ Contains-append_right (met_by edge o c.end) (all_met edge o bs) k
      (met_there edge o bs b k later met)
]

-- the end of a segment is one of its places
end_place : (edge key : ℕ) (o e : ℤ) → HoldsOnAxis edge key e → IsBetweenFaces edge o e key 1 1
end_place edge key o e held = record {
  lower = (let low = held.0 in omega (arith, ints, low));
  upper = (let high = held.1 in omega (arith, ints, high));
}

end_met : (edge : ℕ) (o e : Point) (k : Voxel) → IsResolution edge → key_at edge e ≡ Some k
    → Meets edge o e k
end_met edge o e k range ends =
    let held = Holds-key_at edge e k (omega (arith, range.0)) ends in
    record {
      p = 1;
      q = 1;
      place = record {
        positive = omega arith;
        within = omega arith;
        x = end_place edge k.x o.x e.x held.x;
        y = end_place edge k.y o.y e.y held.y;
        z = end_place edge k.z o.z e.z held.z;
      };
    }

-- a voxel that a beam meets is one of them
beam_there : (edge : ℕ) (scan : Sighting) (b : Beam) (k : Voxel) → IsResolution edge
    → IsInside edge scan → Contains (beams_of scan) b → Meets edge (origin_of scan) b.end k
    → Contains (all_met edge (origin_of scan) (beams_of scan)) k
beam_there edge scan b k range inside there met =
    met_there edge (origin_of scan) (beams_of scan) b k there
    ((beam_walks edge scan b range inside there).listed k met)

hit_there : (edge : ℕ) (scan : Sighting) (k : Voxel) → IsResolution edge → IsInside edge scan
    → is_hit edge scan k ≡ true → Contains (all_met edge (origin_of scan) (beams_of scan)) k
hit_there edge scan k range inside hit =
    let (n, b, l, is, ends) = (hit_exactly edge scan k).0 hit in
    beam_there edge scan b k range inside (n, l, is)
    (end_met edge (origin_of scan) b.end k range ends.1)

freed_there : (edge : ℕ) (scan : Sighting) (k : Voxel) → IsResolution edge → IsInside edge scan
    → is_freed edge scan k ≡ true → Contains (all_met edge (origin_of scan) (beams_of scan)) k
freed_there edge scan k range inside freed =
    let (n, b, l, is, passes) = ((freed_exactly edge scan k range inside).0 freed).1 in
    beam_there edge scan b k range inside (n, l, is) passes.0

-- ---- the counts of a scan

-- no more voxels of a box pass a test than the beams may meet, where each such voxel is met
counted_few : (edge most : ℕ) (window : Option Window) (scan : Sighting) (test : Voxel → Bool)
    → ((k : Voxel) → test k ≡ true
    → Contains (all_met edge (origin_of scan) (beams_of scan)) k)
    → cells_of edge (origin_of scan) (beams_of scan) ≤ most
    → count_by (λ k. is_in_window window k && test k) (voxels_of root_block) ≤ most
counted_few edge most window scan test there few =
    let met = all_met edge (origin_of scan) (beams_of scan) in
    let passing = passing_few (λ k. is_in_window window k && test k) met
    (λ k h. there k (and_parts (is_in_window window k) (test k) h).1) in
    let long = length-flat_map (λ (b : Beam). met_by edge (origin_of scan) b.end)
    (beams_of scan) in
    omega (arith, passing, long, few)

-- a scan without a fault hits no more voxels than its beams may meet
pub hits_few : (edge most : ℕ) (window : Option Window) (scan : Sighting) → IsResolution edge
    → scan_fault edge scan most ≡ None → hit_count edge window scan ≤ most
unfolding hit_count
hits_few edge most window scan range none =
    let (inside, few) = without_fault edge most scan none in
    counted_few edge most window scan (is_hit edge scan)
    (λ k h. hit_there edge scan k range inside h) few

-- and frees no more
pub frees_few : (edge most : ℕ) (window : Option Window) (scan : Sighting) → IsResolution edge
    → scan_fault edge scan most ≡ None → free_count edge window scan ≤ most
unfolding free_count
frees_few edge most window scan range none =
    let (inside, few) = without_fault edge most scan none in
    counted_few edge most window scan (is_freed edge scan)
    (λ k h. freed_there edge scan k range inside h) few
