-- A scan whose sensor stands whole voxels elsewhere hits and frees the voxels that lie so far from
-- those of the scan.
use Rattle.std.proofs.Common.{◌≡◌, ℕ, ◌*◌, ◌≤◌, ◌↔◌, ℤ, pos, ◌+ℤ◌, ◌-ℤ◌, ◌*ℤ◌, ◌≤ℤ◌, ◌<ℤ◌, List, []}
use Rattle.std.proofs.Common.{◌∷◌, map, Bool, true, false, cond, Option, Some, None, refl, sym, ap}
use Rattle.std.proofs.Common.{◌∙◌, subst, arith, nat_lt, ◌+◌, ◌⊎◌, inl, inr}
use Rattle.std.proofs.lemmas.Int.{ints}
use Rattle.std.specs.Int.RustNames.{int_div, unsigned_abs}
use Rattle.std.specs.List.{Any}
use Rattle.oct_brick.proofs.Lists.{contains_map, contains_from_map}
use Rattle.oct_key.specs.Voxel.{Voxel, IsInMap, IsResolution, Holds, HoldsOnAxis, lower_face}
use Rattle.oct_key.specs.Voxel.{key_at}
use Rattle.oct_key.specs.declared.point.Point.{Point}
use Rattle.oct_key.proofs.Faces.{key_at-Holds, Holds-key_at}
use Rattle.oct_key.specs.Boxes.{Window, IsInWindow}
use Rattle.oct_map.specs.Ground.{Ground}
use Rattle.oct_map.specs.Outcome.{hit_event, miss_event}
use Rattle.oct_num.proofs.Differences.{parts, plus, scaled, equal}
use Rattle.oct_odds.specs.Update.{applied}
use Rattle.oct_pose.specs.Posed.{moved}
use Rattle.oct_pose.specs.Rotation.{rotated}
use Rattle.oct_ray.specs.Range.{square_distance, axis_distance, cut_coordinate}
use Rattle.oct_ray.specs.Segment.{IsBetweenFaces, IsPlaceOf, Meets}
use Rattle.oct_scan.specs.Beam.{Sighting, beam_within, beam_to, beams_of}
use Rattle.oct_scan.specs.Cut.{cut_end, root_above}
use Rattle.oct_scan.specs.Outcome.{is_hit, is_freed}
use Rattle.oct_scan.specs.Scanned.{IsHit, IsFreed, IsScanned, EndsIn, PassesThrough}
use Rattle.oct_scan.proofs.Tests.{hit_exactly, freed_exactly}
use Rattle.oct_session.specs.History.{State}
use Rattle.oct_scan.specs.declared.beam.Beam.{Beam}
use Rattle.oct_scan.specs.Answer.{IsInside}
use Rattle.oct_promise.specs.Promise.{IsScanDone}
use Rattle.oct_promise.specs.Shifts.{LiesOff, scan_moved, IsMoved}

-- ---- one axis

-- the way between two coordinates that are moved alike
same_way : (s o e : ℤ) → ((s +ℤ e) -ℤ (s +ℤ o)) ≡ (e -ℤ o)
same_way s o e = omega (arith, ints)

moved_product : (s a : ℤ) (q : ℕ) → ((s +ℤ a) *ℤ pos q) ≡ ((s *ℤ pos q) +ℤ (a *ℤ pos q))
moved_product s a q =
    equal (scaled q (plus (parts s) (parts a)))
    (plus (scaled q (parts s)) (scaled q (parts a))) (omega arith)

-- numbers that are moved alike compare as before
le_moved : (s a b c d : ℤ) → c ≡ (s +ℤ a) → d ≡ (s +ℤ b) → (c ≤ℤ d) ↔ (a ≤ℤ b)
le_moved s a b c d x y = (λ h. omega (arith, ints, x, y, h), λ h. omega (arith, ints, x, y, h))

lt_moved : (s a b c d : ℤ) → c ≡ (s +ℤ a) → d ≡ (s +ℤ b) → (c <ℤ d) ↔ (a <ℤ b)
lt_moved s a b c d x y = (λ h. omega (arith, ints, x, y, h), λ h. omega (arith, ints, x, y, h))

sums : (a b c : ℤ) → ((a +ℤ b) +ℤ c) ≡ (a +ℤ (b +ℤ c))
sums a b c = omega (arith, ints)

module _ (edge k l : ℕ) (s : ℤ) (face : lower_face edge l ≡ (s +ℤ lower_face edge k)) where
  upper_face : (lower_face edge l +ℤ pos edge) ≡ (s +ℤ (lower_face edge k +ℤ pos edge))
  upper_face = ap (λ z. z +ℤ pos edge) face ∙ sums s (lower_face edge k) (pos edge)

  holds_moved : (c : ℤ) → HoldsOnAxis edge l (s +ℤ c) ↔ HoldsOnAxis edge k c
  holds_moved c =
      let low = le_moved s (lower_face edge k) c (lower_face edge l) (s +ℤ c) face refl in
      let high = lt_moved s c (lower_face edge k +ℤ pos edge) (s +ℤ c)
      (lower_face edge l +ℤ pos edge) refl upper_face in (
        λ h. (low.0 h.0, high.0 h.1),
        λ h. (low.1 h.0, high.1 h.1),
      )

  -- a place on the way, times its denominator
  place_moved : (o e : ℤ) (p q : ℕ)
      → (((s +ℤ o) *ℤ pos q) +ℤ (pos p *ℤ ((s +ℤ e) -ℤ (s +ℤ o))))
      ≡ ((s *ℤ pos q) +ℤ ((o *ℤ pos q) +ℤ (pos p *ℤ (e -ℤ o))))
  place_moved o e p q =
      ap (λ z. ((s +ℤ o) *ℤ pos q) +ℤ (pos p *ℤ z)) (same_way s o e)
      ∙ ap (λ z. z +ℤ (pos p *ℤ (e -ℤ o))) (moved_product s o q)
      ∙ sums (s *ℤ pos q) (o *ℤ pos q) (pos p *ℤ (e -ℤ o))

  between_moved : (o e : ℤ) (p q : ℕ)
      → IsBetweenFaces edge (s +ℤ o) (s +ℤ e) l p q ↔ IsBetweenFaces edge o e k p q
  between_moved o e p q =
      let at = place_moved o e p q in
      let low = le_moved (s *ℤ pos q) (lower_face edge k *ℤ pos q)
      ((o *ℤ pos q) +ℤ (pos p *ℤ (e -ℤ o))) (lower_face edge l *ℤ pos q)
      (((s +ℤ o) *ℤ pos q) +ℤ (pos p *ℤ ((s +ℤ e) -ℤ (s +ℤ o))))
      (ap (λ z. z *ℤ pos q) face ∙ moved_product s (lower_face edge k) q) at in
      let high = lt_moved (s *ℤ pos q) ((o *ℤ pos q) +ℤ (pos p *ℤ (e -ℤ o)))
      ((lower_face edge k +ℤ pos edge) *ℤ pos q)
      (((s +ℤ o) *ℤ pos q) +ℤ (pos p *ℤ ((s +ℤ e) -ℤ (s +ℤ o))))
      ((lower_face edge l +ℤ pos edge) *ℤ pos q) at
      (ap (λ z. z *ℤ pos q) upper_face ∙ moved_product s (lower_face edge k +ℤ pos edge) q) in (
        λ h. record { lower = low.0 h.lower; upper = high.0 h.upper },
        λ h. record { lower = low.1 h.lower; upper = high.1 h.upper },
      )

-- ---- points and segments

module _ (edge : ℕ) (way : Point) (k l : Voxel) (off : LiesOff edge way k l) where
  point_held : (p : Point) → Holds edge l (moved way p) ↔ Holds edge k p
  point_held p =
      let x = holds_moved edge k.x l.x way.x off.x p.x in
      let y = holds_moved edge k.y l.y way.y off.y p.y in
      let z = holds_moved edge k.z l.z way.z off.z p.z in (
        λ h. record { x = x.0 h.x; y = y.0 h.y; z = z.0 h.z },
        λ h. record { x = x.1 h.x; y = y.1 h.y; z = z.1 h.z },
      )

  point_at : 1 ≤ edge → IsInMap k → IsInMap l → (p : Point)
      → (key_at edge (moved way p) ≡ Some l) ↔ (key_at edge p ≡ Some k)
  point_at positive low high p = (
    λ h. key_at-Holds edge p k positive low
        ((point_held p).0 (Holds-key_at edge (moved way p) l positive h)),
    λ h. key_at-Holds edge (moved way p) l positive high
        ((point_held p).1 (Holds-key_at edge p k positive h)),
  )

  place_held : (o e : Point) (p q : ℕ)
      → IsPlaceOf edge (moved way o) (moved way e) l p q ↔ IsPlaceOf edge o e k p q
  place_held o e p q =
      let x = between_moved edge k.x l.x way.x off.x o.x e.x p q in
      let y = between_moved edge k.y l.y way.y off.y o.y e.y p q in
      let z = between_moved edge k.z l.z way.z off.z o.z e.z p q in (
        λ h. record {
          positive = h.positive;
          within = h.within;
          x = x.0 h.x;
          y = y.0 h.y;
          z = z.0 h.z;
        },
        λ h. record {
          positive = h.positive;
          within = h.within;
          x = x.1 h.x;
          y = y.1 h.y;
          z = z.1 h.z;
        },
      )

  meets_moved : (o e : Point) → Meets edge (moved way o) (moved way e) l ↔ Meets edge o e k
  meets_moved o e = (
    λ h. record { p = h.p; q = h.q; place = (place_held o e h.p h.q).0 h.place },
    λ h. record { p = h.p; q = h.q; place = (place_held o e h.p h.q).1 h.place },
  )

-- ---- beams

module _ (way : Point) where
  -- a beam that begins elsewhere by this way
  beam_moved : Beam → Beam
  beam_moved b = record { end = moved way b.end; is_cut = b.is_cut }

  distance_moved : (o e : Point) → square_distance (moved way o) (moved way e) ≡ square_distance o e
  distance_moved o e =
      ap (λ z. unsigned_abs z * unsigned_abs z
      + axis_distance (way.y +ℤ o.y) (way.y +ℤ e.y) * axis_distance (way.y +ℤ o.y) (way.y +ℤ e.y)
      + axis_distance (way.z +ℤ o.z) (way.z +ℤ e.z) * axis_distance (way.z +ℤ o.z) (way.z +ℤ e.z))
      (same_way way.x o.x e.x)
      ∙ ap (λ z. axis_distance o.x e.x * axis_distance o.x e.x + unsigned_abs z * unsigned_abs z
      + axis_distance (way.z +ℤ o.z) (way.z +ℤ e.z) * axis_distance (way.z +ℤ o.z) (way.z +ℤ e.z))
      (same_way way.y o.y e.y)
      ∙ ap (λ z. axis_distance o.x e.x * axis_distance o.x e.x
      + axis_distance o.y e.y * axis_distance o.y e.y + unsigned_abs z * unsigned_abs z)
      (same_way way.z o.z e.z)

  coordinate_moved : (s o e r : ℤ) (length : ℕ)
      → cut_coordinate (s +ℤ o) (s +ℤ e) r length ≡ (s +ℤ cut_coordinate o e r length)
  coordinate_moved s o e r length =
      ap (λ z. (s +ℤ o) +ℤ int_div (z *ℤ r) (pos length)) (same_way s o e)
      ∙ sums s o (int_div ((e -ℤ o) *ℤ r) (pos length))

  cut_moved : (o e : Point) (r : ℤ)
      → cut_end (moved way o) (moved way e) r ≡ moved way (cut_end o e r)
  cut_moved o e r =
      let n : ℕ = root_above (square_distance o e) in
      ap (λ d. record {
        x = cut_coordinate (way.x +ℤ o.x) (way.x +ℤ e.x) r (root_above d);
        y = cut_coordinate (way.y +ℤ o.y) (way.y +ℤ e.y) r (root_above d);
        z = cut_coordinate (way.z +ℤ o.z) (way.z +ℤ e.z) r (root_above d);
      }) (distance_moved o e)
      ∙ ap (λ c. record {
        x = c;
        y = cut_coordinate (way.y +ℤ o.y) (way.y +ℤ e.y) r n;
        z = cut_coordinate (way.z +ℤ o.z) (way.z +ℤ e.z) r n;
      }) (coordinate_moved way.x o.x e.x r n)
      ∙ ap (λ c. record {
        x = way.x +ℤ cut_coordinate o.x e.x r n;
        y = c;
        z = cut_coordinate (way.z +ℤ o.z) (way.z +ℤ e.z) r n;
      }) (coordinate_moved way.y o.y e.y r n)
      ∙ ap (λ c. record {
        x = way.x +ℤ cut_coordinate o.x e.x r n;
        y = way.y +ℤ cut_coordinate o.y e.y r n;
        z = c;
      }) (coordinate_moved way.z o.z e.z r n)

  within_moved : (range : Option ℤ) (o e : Point)
      → beam_within range (moved way o) (moved way e) ≡ beam_moved (beam_within range o e)
  unfolding beam_moved
  within_moved None o e = refl
  within_moved (Some r) o e =
      ap (λ d. cond {A = Beam} (nat_lt (unsigned_abs r * unsigned_abs r) d)
      (record { end = cut_end (moved way o) (moved way e) r; is_cut = true })
      (record { end = moved way e; is_cut = false })) (distance_moved o e)
      ∙ ap (λ c. cond {A = Beam} (nat_lt (unsigned_abs r * unsigned_abs r) (square_distance o e))
      (record { end = c; is_cut = true }) (record { end = moved way e; is_cut = false }))
      (cut_moved o e r)
      ∙ by_test (nat_lt (unsigned_abs r * unsigned_abs r) (square_distance o e))
    where
      by_test : (b : Bool) → cond {A = Beam} b
          (record { end = moved way (cut_end o e r); is_cut = true })
          (record { end = moved way e; is_cut = false })
          ≡ beam_moved (cond {A = Beam} b (record { end = cut_end o e r; is_cut = true })
          (record { end = e; is_cut = false }))
      by_test true = refl
      by_test false = refl

  point_moved : (o p : Point) → moved (moved way o) p ≡ moved way (moved o p)
  point_moved o p =
      ap (λ c. record { x = c; y = (way.y +ℤ o.y) +ℤ p.y; z = (way.z +ℤ o.z) +ℤ p.z })
      (sums way.x o.x p.x)
      ∙ ap (λ c. record { x = way.x +ℤ (o.x +ℤ p.x); y = c; z = (way.z +ℤ o.z) +ℤ p.z })
      (sums way.y o.y p.y)
      ∙ ap (λ c. record { x = way.x +ℤ (o.x +ℤ p.x); y = way.y +ℤ (o.y +ℤ p.y); z = c })
      (sums way.z o.z p.z)

  to_moved : (scan : Sighting) (p : Point)
      → beam_to (scan_moved way scan) p ≡ beam_moved (beam_to scan p)
  to_moved scan p =
      ap (λ e. beam_within scan.range (moved way scan.origin) e)
      (point_moved scan.origin
      (rotated (record { w = scan.w; x = scan.x; y = scan.y; z = scan.z }) p))
      ∙ within_moved scan.range scan.origin (moved scan.origin
      (rotated (record { w = scan.w; x = scan.x; y = scan.y; z = scan.z }) p))

  all_moved : (scan : Sighting) (ps : List Point)
      → map (beam_to (scan_moved way scan)) ps ≡ map beam_moved (map (beam_to scan) ps)
  all_moved scan [] = refl
  all_moved scan (p ∷ ps) =
      ap (λ b. b ∷ map (beam_to (scan_moved way scan)) ps) (to_moved scan p)
      ∙ ap (λ bs. beam_moved (beam_to scan p) ∷ bs) (all_moved scan ps)

-- ---- lists

-- what holds of some element of a list that a function makes
any_mapped : {X Y : Type 0} (f : X → Y) (P : Y → Type 0) (xs : List X)
    → Any P (map f xs) ↔ Any (λ x. P (f x)) xs
any_mapped f P xs = (
  λ (k, y, few, is, holds). (let (x, there, e) = contains_from_map f xs y (k, few, is) in
      (there.0, x, there.1, there.2, subst P (sym e) holds)),
  λ (k, x, few, is, holds). (let there = contains_map f xs x (k, few, is) in
      (there.0, f x, there.1, there.2, holds)),
)

any_same : {X : Type 0} (P Q : X → Type 0) (xs : List X) → ((x : X) → P x ↔ Q x)
    → Any P xs ↔ Any Q xs
any_same P Q xs same = (
  λ (k, x, few, is, holds). (k, x, few, is, (same x).0 holds),
  λ (k, x, few, is, holds). (k, x, few, is, (same x).1 holds),
)

-- of the beams of a scan that is moved
some_beam : (way : Point) (scan : Sighting) (P Q : Beam → Type 0)
    → ((b : Beam) → P (beam_moved way b) ↔ Q b)
    → Any P (beams_of (scan_moved way scan)) ↔ Any Q (beams_of scan)
some_beam way scan P Q same =
    let all = all_moved way scan scan.points in
    let mapped = any_mapped (beam_moved way) P (beams_of scan) in
    let alike = any_same (λ b. P (beam_moved way b)) Q (beams_of scan) same in (
      λ h. alike.0 (mapped.0 (subst (Any P) all h)),
      λ h. subst (Any P) (sym all) (mapped.1 (alike.1 h)),
    )

-- ---- the scan

module _ (edge : ℕ) (way : Point) (scan : Sighting) (k l : Voxel) (positive : 1 ≤ edge)
    (low : IsInMap k) (high : IsInMap l) (off : LiesOff edge way k l) where
  ends_moved : (b : Beam) → EndsIn edge l (beam_moved way b) ↔ EndsIn edge k b
  unfolding beam_moved
  ends_moved b = point_at edge way k l off positive low high b.end

  hit_moved : IsHit edge (scan_moved way scan) l ↔ IsHit edge scan k
  unfolding beam_moved
  hit_moved =
      some_beam way scan (λ b. (b.is_cut ≡ false) × EndsIn edge l b)
      (λ b. (b.is_cut ≡ false) × EndsIn edge k b) (λ b. (
        λ h. (h.0, (ends_moved b).0 h.1),
        λ h. (h.0, (ends_moved b).1 h.1),
      ))

  passed_moved : Any (PassesThrough edge (moved way scan.origin) l) (beams_of (scan_moved way scan))
      ↔ Any (PassesThrough edge scan.origin k) (beams_of scan)
  unfolding beam_moved
  passed_moved =
      some_beam way scan (PassesThrough edge (moved way scan.origin) l)
      (PassesThrough edge scan.origin k) (λ b.
      (let meets = meets_moved edge way k l off scan.origin b.end in (
        λ h. (meets.0 h.0, λ ends. h.1 ((ends_moved b).1 ends)),
        λ h. (meets.1 h.0, λ ends. h.1 ((ends_moved b).0 ends)),
      )))

  freed_moved : IsFreed edge (scan_moved way scan) l ↔ IsFreed edge scan k
  freed_moved = (
    λ h. ((λ hit. h.0 (hit_moved.1 hit)), passed_moved.0 h.1),
    λ h. ((λ hit. h.0 (hit_moved.0 hit)), passed_moved.1 h.1),
  )

pub scan_shifted : (edge : ℕ) (way : Point) (scan : Sighting) (k l : Voxel) → IsResolution edge
    → IsInMap k → IsInMap l → LiesOff edge way k l
    → (IsHit edge (scan_moved way scan) l ↔ IsHit edge scan k)
    × (IsFreed edge (scan_moved way scan) l ↔ IsFreed edge scan k)
scan_shifted edge way scan k l range low high off =
    let positive : 1 ≤ edge = (let least = range.0 in omega (arith, least)) in (
      hit_moved edge way scan k l positive low high off,
      freed_moved edge way scan k l positive low high off,
    )

-- ---- the map

-- what two scans leave that are such, in two maps that are such
module _ (way : Point) (scan : Sighting) (lazy : Bool) (s t u v : State)
    (range : IsResolution s.base.res) (inside : IsInside s.base.res scan)
    (free : s.base.update_box ≡ None) (same : t.base ≡ s.base) (one : IsScanDone scan lazy s u)
    (other : IsScanDone (scan_moved way scan) lazy t v) (k l : Voxel) (low : IsInMap k)
    (high : IsInMap l) (off : LiesOff s.base.res way k l) (alike : t.values l ≡ s.values k) where
  positive : 1 ≤ s.base.res
  positive = let least = range.0 in omega (arith, least)

  in_first : IsInWindow s.base.update_box k
  in_first = subst (λ (w : Option Window). IsInWindow w k) (sym free) tt

  in_second : IsInWindow t.base.update_box l
  in_second = subst (λ (w : Option Window). IsInWindow w l)
      (sym (ap (λ (g : Ground). g.update_box) same ∙ free)) tt

  hit_alike : IsHit s.base.res scan k → v.values l ≡ u.values k
  hit_alike is =
      other.hit l in_second (subst (λ (g : Ground). IsHit g.res (scan_moved way scan) l) (sym same)
      ((hit_moved s.base.res way scan k l positive low high off).1 is))
      ∙ ap (λ (g : Ground). applied g.odds (hit_event g.odds scan.odds) (t.values l)) same
      ∙ ap (applied s.base.odds (hit_event s.base.odds scan.odds)) alike
      ∙ sym (one.hit k in_first is)

  freed_alike : IsFreed s.base.res scan k → v.values l ≡ u.values k
  freed_alike is =
      other.freed l in_second (subst (λ (g : Ground). IsFreed g.res (scan_moved way scan) l)
      (sym same) ((freed_moved s.base.res way scan k l positive low high off).1 is))
      ∙ ap (λ (g : Ground). applied g.odds (miss_event g.odds scan.odds) (t.values l)) same
      ∙ ap (applied s.base.odds (miss_event s.base.odds scan.odds)) alike
      ∙ sym (one.freed k in_first is)

  kept_alike : ¬ IsHit s.base.res scan k → ¬ IsFreed s.base.res scan k
      → v.values l ≡ u.values k
  kept_alike unhit unfreed =
      other.kept l (subst (λ (g : Ground). ¬ IsScanned g.res g.update_box (scan_moved way scan) l)
      (sym same) (λ (there, is). unscanned is))
      ∙ alike ∙ sym (one.kept k (λ (there, is). missed is))
    where
      missed : IsHit s.base.res scan k ⊎ IsFreed s.base.res scan k → ⊥
      missed (inl h) = unhit h
      missed (inr f) = unfreed f

      unscanned : IsHit s.base.res (scan_moved way scan) l
          ⊎ IsFreed s.base.res (scan_moved way scan) l → ⊥
      unscanned (inl h) = unhit ((hit_moved s.base.res way scan k l positive low high off).0 h)
      unscanned (inr f) =
          unfreed ((freed_moved s.base.res way scan k l positive low high off).0 f)

  values_alike : v.values l ≡ u.values k
  values_alike = by_hit (is_hit s.base.res scan k) refl
    where
      untrue : (b : Bool) (P : Type 0) → (b ≡ true) ↔ P → b ≡ false → ¬ P
      untrue true P exact isnt = absurd cc
      untrue false P exact isnt = λ holds. absurd
          (let no : false ≡ true = exact.1 holds in cc)

      by_freed : (b : Bool) → is_freed s.base.res scan k ≡ b → ¬ IsHit s.base.res scan k
          → v.values l ≡ u.values k
      by_freed true is unhit = freed_alike ((freed_exactly s.base.res scan k range inside).0 is)
      by_freed false is unhit =
          kept_alike unhit (untrue (is_freed s.base.res scan k) (IsFreed s.base.res scan k)
          (freed_exactly s.base.res scan k range inside) is)

      by_hit : (b : Bool) → is_hit s.base.res scan k ≡ b → v.values l ≡ u.values k
      by_hit true is = hit_alike ((hit_exactly s.base.res scan k).0 is)
      by_hit false is =
          by_freed (is_freed s.base.res scan k) refl (untrue (is_hit s.base.res scan k)
          (IsHit s.base.res scan k) (hit_exactly s.base.res scan k) is)

pub maps_shifted : (way : Point) (scan : Sighting) (lazy : Bool) (s t u v : State)
    → IsResolution s.base.res → IsInside s.base.res scan → s.base.update_box ≡ None
    → t.base ≡ s.base → IsScanDone scan lazy s u → IsScanDone (scan_moved way scan) lazy t v
    → IsMoved s.base.res way s.values t.values → IsMoved s.base.res way u.values v.values
maps_shifted way scan lazy s t u v range inside free same one other moved k l low high off =
    values_alike way scan lazy s t u v range inside free same one other k l low high off
    (moved k l low high off)
