-- What the update of gathered codes says of each voxel.
use Rattle.std.proofs.Common.{◌≡◌, ℕ, ◌+◌, ◌^◌, ◌<◌, ◌≤◌, ◌↔◌, inl, inr, false, Option, List, map}
use Rattle.std.proofs.Common.{length, refl, sym, subst, ◌∙◌, ap, arith}
use Rattle.std.specs.List.{All, Contains}
use Rattle.std.specs.List.Sorted.{IsStrictlyIncreasing}
use Rattle.std.proofs.lemmas.List.{length-map}
use Rattle.std.proofs.lemmas.List.Elements.{All-contains}
use Rattle.oct_key.specs.Voxel.{Voxel, IsInMap}
use Rattle.oct_key.specs.Boxes.{Window, IsInWindow}
use Rattle.oct_key.specs.Morton.{morton_of}
use Rattle.oct_key.proofs.Blocks.{block_of_held, held_by_block_of}
use Rattle.oct_key.proofs.Faces.{IsInMap-key_at}
use Rattle.oct_key.proofs.Interleavings.{morton_injective}
use Rattle.oct_ray.specs.Segment.{Meets}
use Rattle.oct_scan.specs.declared.beam.Beam.{Beam}
use Rattle.oct_scan.specs.Beam.{origin_of, beams_of, Sighting}
use Rattle.oct_scan.specs.Scanned.{EndsIn, IsHit, IsFreed, IsScanned, IsNeed}
use Rattle.oct_brick.specs.Voxels.{coded_voxel}
use Rattle.oct_scan.specs.Codes.{difference, block_count}
use Rattle.oct_scan.specs.Gathered.{IsMarked, IsEnd, AreGathered}
use Rattle.oct_values.specs.Events.{IsAscending}
use Rattle.oct_scan.specs.Update.{UpdateSet, IsSettled, IsUpdateOf}
use Rattle.oct_brick.proofs.Lists.{all_contained, contains_tells}
use Rattle.oct_scan.proofs.CodeLists.{IsPart, difference_from, difference_listed, difference_rises}
use Rattle.oct_scan.proofs.CodeLists.{difference_long, no_longer, increasing_from, rises_from}
use Rattle.oct_scan.proofs.CodeLists.{voxels_in_map, codes_of_voxels, voxel_listed, code_listed}
use Rattle.oct_scan.proofs.CodeLists.{same_bound}
use Rattle.oct_scan.proofs.Counts.{AreCounted, count_blocks_of}
use Rattle.oct_scan.proofs.Gathering.{gathered_below, hits_below}

-- what was gathered along the beams of a scan, and what was made of it
pub record IsGatheredUpdate (edge : ℕ) (window : Option Window) (scan : Sighting)
    (scanned hits : List ℕ) (u : UpdateSet) : Type 0 where
  pub gathered : AreGathered edge window (origin_of scan) (beams_of scan) scanned hits
  pub settled : IsSettled scanned hits u

-- an update of beams that are those of a scan
pub gathered_update : (edge : ℕ) (window : Option Window) (scan : Sighting) (bs : List Beam)
    (s h : List ℕ) (u : UpdateSet) → bs ≡ beams_of scan
    → AreGathered edge window (origin_of scan) bs s h → IsSettled s h u
    → IsGatheredUpdate edge window scan s h u
gathered_update edge window scan bs s h u same g settled =
    record {
      gathered = subst (λ bs. AreGathered edge window (origin_of scan) bs s h) same g;
      settled = settled;
    }

-- what an update says that was made so
module _ (edge : ℕ) (window : Option Window) (scan : Sighting) (s h : List ℕ) (u : UpdateSet)
    (a : IsGatheredUpdate edge window scan s h u) where
  codes_below : All (λ c. c < 2 ^ 48) a.settled.codes
  codes_below =
      same_bound s a.settled.codes (2 ^ 48) a.settled.same_codes
      (gathered_below edge window (origin_of scan) (beams_of scan) s h a.gathered)

  hit_codes_below : All (λ c. c < 2 ^ 48) a.settled.hit_codes
  hit_codes_below =
      same_bound h a.settled.hit_codes (2 ^ 48) a.settled.same_hits
      (hits_below edge window (origin_of scan) (beams_of scan) s h a.gathered)

  hits_part : IsPart a.settled.hit_codes a.settled.codes
  hits_part =
      λ c m. (a.settled.same_codes c).0 (a.gathered.part c ((a.settled.same_hits c).1 m))

  -- a voxel of the map is hit exactly where its code is a code of a hit
  hit_from_code : (k : Voxel) → IsInMap k
      → Contains a.settled.hit_codes (morton_of k) → IsInWindow window k × IsHit edge scan k
  hit_from_code k on_k m =
      let r = (a.gathered.ends (morton_of k)).0 ((a.settled.same_hits (morton_of k)).1 m) in
      let same : r.2.voxel ≡ k = morton_injective r.2.voxel k r.2.on_map on_k (sym r.2.coded) in (
        subst (IsInWindow window) same r.2.within,
        (r.1.0, r.0, r.1.1, r.1.2, (r.2.whole, subst (λ v. EndsIn edge v r.0) same r.2.ended)),
      )

  code_of_hit : (k : Voxel) → IsInWindow window k → IsHit edge scan k
      → IsInMap k × Contains a.settled.hit_codes (morton_of k)
  code_of_hit k within m =
      let b : Beam = m.1 in
      let whole : b.is_cut ≡ false = m.4.0 in
      let ended : EndsIn edge k b = m.4.1 in
      let on_k : IsInMap k = IsInMap-key_at edge b.end k ended in
      let end : IsEnd edge window (morton_of k) b =
      record {
        voxel = k;
        coded = refl;
        on_map = on_k;
        within = within;
        ended = ended;
        whole = whole;
      } in (
        on_k,
        (a.settled.same_hits (morton_of k)).0
            ((a.gathered.ends (morton_of k)).1 (b, (m.0, m.2, m.3), end)),
      )

  -- the hits are the voxels that are hit
  pub hits_are : (k : Voxel)
      → Contains u.hits k ↔ (IsInWindow window k × IsHit edge scan k)
  hits_are k =
      let to : Contains u.hits k → IsInWindow window k × IsHit edge scan k = λ m.
      let listed : Contains (map coded_voxel a.settled.hit_codes) k =
      subst (λ l. Contains l k) a.settled.hits_are m in
      hit_from_code k
      (All-contains IsInMap (map coded_voxel a.settled.hit_codes) k
      (voxels_in_map a.settled.hit_codes) listed)
      (code_listed a.settled.hit_codes k hit_codes_below listed) in
      let from : IsInWindow window k × IsHit edge scan k → Contains u.hits k = λ m.
      let r = code_of_hit k m.0 m.1 in
      subst (λ l. Contains l k) (sym a.settled.hits_are)
      (voxel_listed a.settled.hit_codes k r.0 r.1) in
      (to, from)

  left_from : (c : ℕ)
      → Contains (difference a.settled.codes a.settled.hit_codes) c
      → Contains a.settled.codes c × ¬ Contains a.settled.hit_codes c
  left_from c m =
      difference_from a.settled.codes a.settled.hit_codes c
      (rises_from a.settled.codes a.settled.codes_rise)
      (rises_from a.settled.hit_codes a.settled.hits_rise) hits_part m

  left_below : All (λ c. c < 2 ^ 48) (difference a.settled.codes a.settled.hit_codes)
  left_below =
      all_contained (λ c. c < 2 ^ 48) (difference a.settled.codes a.settled.hit_codes)
      (λ c m. All-contains (λ c. c < 2 ^ 48) a.settled.codes c codes_below
      (left_from c m).0)

  -- a voxel of the map whose code is left is freed
  freed_from_code : (k : Voxel) → IsInMap k
      → Contains (difference a.settled.codes a.settled.hit_codes) (morton_of k)
      → IsInWindow window k × IsFreed edge scan k
  freed_from_code k on_k m =
      let parts = left_from (morton_of k) m in
      let r = (a.gathered.marks (morton_of k)).0 ((a.settled.same_codes (morton_of k)).1 parts.0) in
      let same : r.2.voxel ≡ k = morton_injective r.2.voxel k r.2.on_map on_k (sym r.2.coded) in
      let within : IsInWindow window k = subst (IsInWindow window) same r.2.within in
      let unhit : ¬ IsHit edge scan k =
      λ hit. parts.1 (code_of_hit k within hit).1 in
      let met : Meets edge (origin_of scan) r.0.end k =
      subst (Meets edge (origin_of scan) r.0.end) same r.2.met in (
        within,
        (
          unhit,
          (
            r.1.0,
            r.0,
            r.1.1,
            r.1.2,
            (
              met,
              λ ended. unhit (
                r.1.0,
                r.0,
                r.1.1,
                r.1.2,
                (r.2.whole (subst (λ v. EndsIn edge v r.0) (sym same) ended), ended),
              ),
            ),
          ),
        ),
      )

  code_of_freed : (k : Voxel) → IsInWindow window k → IsFreed edge scan k
      → IsInMap k × Contains (difference a.settled.codes a.settled.hit_codes) (morton_of k)
  code_of_freed k within (unhit, m) =
      let b : Beam = m.1 in
      let met : Meets edge (origin_of scan) b.end k = m.4.0 in
      let on_k : IsInMap k = a.gathered.on_map b (m.0, m.2, m.3) k met in
      let mark : IsMarked edge window (origin_of scan) (morton_of k) b =
      record {
        voxel = k;
        coded = refl;
        on_map = on_k;
        within = within;
        met = met;
        whole = λ ended.
            absurd (m.4.1 ended);
      } in
      let there : Contains a.settled.codes (morton_of k) =
      (a.settled.same_codes (morton_of k)).0
      ((a.gathered.marks (morton_of k)).1 (b, (m.0, m.2, m.3), mark)) in (
        on_k,
        difference_listed a.settled.codes a.settled.hit_codes (morton_of k)
            (rises_from a.settled.codes a.settled.codes_rise)
            (rises_from a.settled.hit_codes a.settled.hits_rise) hits_part
            there
            (λ hit. unhit (hit_from_code k on_k hit).1),
      )

  -- the frees are the voxels that are freed
  pub frees_are : (k : Voxel)
      → Contains u.frees k ↔ (IsInWindow window k × IsFreed edge scan k)
  frees_are k =
      let to : Contains u.frees k → IsInWindow window k × IsFreed edge scan k = λ m.
      let listed : Contains (map coded_voxel (difference a.settled.codes a.settled.hit_codes)) k =
      subst (λ l. Contains l k) a.settled.frees_are m in
      freed_from_code k
      (All-contains IsInMap (map coded_voxel (difference a.settled.codes a.settled.hit_codes)) k
      (voxels_in_map (difference a.settled.codes a.settled.hit_codes)) listed)
      (code_listed (difference a.settled.codes a.settled.hit_codes) k
      left_below listed) in
      let from : IsInWindow window k × IsFreed edge scan k → Contains u.frees k = λ m.
      let r = code_of_freed k m.0 m.1 in
      subst (λ l. Contains l k) (sym a.settled.frees_are)
      (voxel_listed (difference a.settled.codes a.settled.hit_codes) k r.0 r.1) in
      (to, from)

  -- both ascend
  pub hits_ascend : IsAscending u.hits
  hits_ascend =
      subst IsStrictlyIncreasing
      (sym (ap (map morton_of) a.settled.hits_are
      ∙ codes_of_voxels a.settled.hit_codes hit_codes_below))
      a.settled.hits_rise

  pub frees_ascend : IsAscending u.frees
  frees_ascend =
      subst IsStrictlyIncreasing
      (sym (ap (map morton_of) a.settled.frees_are
      ∙ codes_of_voxels (difference a.settled.codes a.settled.hit_codes)
      left_below))
      (increasing_from (difference a.settled.codes a.settled.hit_codes)
      (difference_rises a.settled.codes a.settled.hit_codes
      (rises_from a.settled.codes a.settled.codes_rise)
      (rises_from a.settled.hit_codes a.settled.hits_rise) hits_part))

  -- both together are no more than the codes that were gathered
  pub few_are : length u.hits + length u.frees ≤ length s
  few_are =
      let codes : List ℕ = a.settled.codes in
      let hits : List ℕ = a.settled.hit_codes in
      let split = difference_long codes hits (rises_from codes a.settled.codes_rise)
      (rises_from hits a.settled.hits_rise) hits_part in
      let few = no_longer codes s (rises_from codes a.settled.codes_rise)
      (λ c there. (a.settled.same_codes c).1 there) in
      omega (
        arith,
        split,
        few,
        ap length a.settled.hits_are,
        length-map hits coded_voxel,
        ap length a.settled.frees_are,
        length-map (difference codes hits) coded_voxel,
      )

  scanned_from_code : (k : Voxel) → IsInMap k
      → Contains a.settled.codes (morton_of k) → IsScanned edge window scan k
  scanned_from_code k on_k m =
      elim (contains_tells a.settled.hit_codes (morton_of k)) [
        | inl hit ↦ (let r = hit_from_code k on_k hit in (r.0, inl r.1))
        | inr other ↦ (let r = freed_from_code k on_k
            (difference_listed a.settled.codes a.settled.hit_codes (morton_of k)
            (rises_from a.settled.codes a.settled.codes_rise)
            (rises_from a.settled.hit_codes a.settled.hits_rise) hits_part
            m
            other) in (r.0, inr r.1))
      ]

  pub code_of_scanned : (k : Voxel) → IsScanned edge window scan k
      → IsInMap k × Contains a.settled.codes (morton_of k)
  code_of_scanned k (within, m) = elim m [
    | inl hit ↦ let r = code_of_hit k within hit in
        (r.0, hits_part (morton_of k) r.1)
    | inr freed ↦ let r = code_of_freed k within freed in
        (r.0, (left_from (morton_of k) r.1).0)
  ]

  -- the need is that of the voxels that the scan changes
  pub need_is : IsNeed edge window scan u.need
  need_is =
      let ks : List Voxel = map coded_voxel a.settled.codes in
      let same : map morton_of ks ≡ a.settled.codes =
      codes_of_voxels a.settled.codes codes_below in
      let n : AreCounted ks (block_count (map morton_of ks)) =
      count_blocks_of ks (voxels_in_map a.settled.codes)
      (subst IsStrictlyIncreasing (sym same) a.settled.codes_rise) in
      record {
        blocks = n.blocks;
        once = n.once;
        listed = λ b. (
          λ m. let r = (n.listed b).0 m in
              let on_k : IsInMap r.0 =
              All-contains IsInMap ks r.0 (voxels_in_map a.settled.codes) r.1 in (
                r.2.high,
                (
                  r.0,
                  scanned_from_code r.0 on_k
                      (code_listed a.settled.codes r.0 codes_below r.1),
                  held_by_block_of b r.0 r.2.is,
                ),
              ),
          λ m. let r = code_of_scanned m.1.0 m.1.1 in
              (n.listed b).1 (
                m.1.0,
                voxel_listed a.settled.codes m.1.0 r.0 r.1,
                record { high = m.0; is = block_of_held b m.1.0 m.1.2 },
              ),
        );
        counted = n.counted ∙ ap block_count same ∙ sym a.settled.need_is;
      }

  -- so it is what the scan does
  pub update_of : IsUpdateOf edge window scan u
  update_of = record {
    hits = hits_are;
    frees = frees_are;
    hits_ascend = hits_ascend;
    frees_ascend = frees_ascend;
    need = need_is;
  }
