-- Codes that are gathered beam by beam.
use Rattle.std.proofs.Common.{◌≡◌, ◌≢◌, ℕ, suc, ◌+◌, ◌-◌, ◌^◌, ◌<◌, ◌≤◌, inl, inr, true, false}
use Rattle.std.proofs.Common.{Bool, not, ◌||◌, cond, List, [], ◌∷◌, ◌++◌, map, length, take, get_or}
use Rattle.std.proofs.Common.{Some, Option, refl, sym, subst, ◌∙◌, ap, arith, append_assoc}
use Rattle.std.specs.Prelude.{slice_get}
use Rattle.std.specs.List.{All, AllPairs, Contains}
use Rattle.std.proofs.lemmas.List.Elements.{All-contains, Contains-push, Contains-push_cases}
use Rattle.std.proofs.lemmas.List.Elements.{Contains-append_left, Contains-append_right}
use Rattle.std.proofs.lemmas.List.Elements.{Contains-append_cases}
use Rattle.std.proofs.lemmas.List.{length-append, length-map, length_push, take_more}
use Rattle.oct_key.specs.Voxel.{Voxel, IsInMap}
use Rattle.oct_key.specs.Boxes.{Window, IsInWindow, is_in_window}
use Rattle.oct_key.specs.Morton.{morton_of}
use Rattle.oct_key.proofs.Boxes.{in_window_exactly}
use Rattle.oct_key.specs.declared.point.Point.{Point}
use Rattle.oct_ray.specs.Segment.{Meets, IsWalkAlong}
use Rattle.oct_scan.specs.declared.beam.Beam.{Beam}
use Rattle.oct_scan.specs.Scanned.{EndsIn}
use Rattle.oct_scan.specs.Answer.{MeetsSoMany, MeetInAll}
use Rattle.oct_scan.specs.Gathered.{IsMarked, IsEnd, SomeBeam, AreGathered, end_codes}
use Rattle.oct_scan.specs.Gathered.{is_mute, kept}
use Rattle.oct_brick.proofs.Lists.{contains_none, contains_here, contains_cases, contains_map}
use Rattle.oct_brick.proofs.Lists.{contains_from_map, all_contained, pairs_head, pairs_tail}
use Rattle.oct_key.proofs.Interleavings.{morton_below}
use Rattle.oct_scan.proofs.Kept.{kept_from, kept_listed, kept_few}

-- the codes of the voxels in the box that a beam meets, of this many in all, have come to those
-- that are there
pub record IsBeamAdded (edge : ℕ) (window : Option Window) (o : Point) (b : Beam) (met : ℕ)
    (scanned scanned' hits hits' : List ℕ) : Type 0 where
  pub front : List Voxel
  pub end : Voxel
  pub walk : IsWalkAlong edge o b.end (front ++ end ∷ [])
  pub on_map : All IsInMap (front ++ end ∷ [])
  pub ended : EndsIn edge end b
  pub counted : length (front ++ end ∷ []) ≡ met
  pub marks : scanned' ≡ (scanned ++ map morton_of (kept window front)) ++ end_codes window b end
  pub ends : hits' ≡ hits ++ end_codes window b end

-- the last element of a list whose elements differ is none of the others
pub once_last : {X : Type 0} (front : List X) (k x : X) → AllPairs (λ a b. a ≢ b) (front ++ k ∷ [])
    → Contains front x → x ≢ k
once_last [] k x once h = absurd (contains_none x h)
once_last (y ∷ front) k x once h = elim (contains_cases y x front h) [
  | inl e ↦ λ s. All-contains (λ b. y ≢ b) (front ++ k ∷ []) k
      (pairs_head (λ a b. a ≢ b) y (front ++ k ∷ []) once) (Contains-push front k) (e ∙ s)
  | inr t ↦ once_last front k x (pairs_tail (λ a b. a ≢ b) y (front ++ k ∷ []) once) t
]

-- a list with a last element is the others and that one
pub ends_with : {X : Type 0} (xs : List X) (k : X) → slice_get xs (length xs - 1) ≡ Some k
    → (front : List X) × (xs ≡ front ++ k ∷ [])
ends_with [] k e = absurd (let h : ⊥ = cc in h)
ends_with (x ∷ []) k e = ([], let s : x ≡ k = cc in ap (λ y. y ∷ []) s)
ends_with {X} (x ∷ y ∷ ys) k e =
    let same : suc (suc (length ys)) - 1 ≡ suc (length ys) = omega arith in
    let below : suc (length ys) - 1 ≡ length ys = omega arith in
    let rest : slice_get (y ∷ ys) (suc (length ys) - 1) ≡ Some k = ap (slice_get (y ∷ ys)) below
    ∙ sym (ap (slice_get (x ∷ y ∷ ys)) same) ∙ e in
    let r = ends_with (y ∷ ys) k rest in
    (x ∷ r.0, ap (λ l. x ∷ l) r.1)

-- the voxel of an end is one
same_end : (edge : ℕ) (b : Beam) (k l : Voxel) → EndsIn edge k b → EndsIn edge l b → k ≡ l
same_end edge b k l h m = let e : ◌≡◌ {A = Option Voxel} (Some k) (Some l) = sym h ∙ m in cc

end_tells : (t : Bool) (m code : ℕ) → Contains (cond t [] (m ∷ [])) code → (t ≡ false) × (m ≡ code)
end_tells true m code h = absurd (contains_none code h)
end_tells false m code h =
    elim (contains_cases m code [] h) [ inl e ↦ (refl, e) | inr p ↦ absurd (contains_none code p) ]

end_there : (t : Bool) (m code : ℕ) → t ≡ false → m ≡ code → Contains (cond t [] (m ∷ [])) code
end_there true m code w e = absurd (let h : ⊥ = cc in h)
end_there false m code w e = subst (λ c. Contains (m ∷ []) c) e (contains_here m [])

-- a beam says something of the voxel where it ends where it isn't cut and that voxel lies in the
-- box
pub not_mute : (window : Option Window) (b : Beam) (k : Voxel) → is_mute window b k ≡ false
    → (b.is_cut ≡ false) × IsInWindow window k
not_mute window b k h = by_tests b.is_cut (is_in_window window k) refl h
  where
    by_tests : (cut within : Bool) → is_in_window window k ≡ within → (cut || not within) ≡ false
        → (cut ≡ false) × IsInWindow window k
    by_tests true within e h = absurd (let f : ⊥ = cc in f)
    by_tests false true e h = (refl, (in_window_exactly window k).0 e)
    by_tests false false e h = absurd (let f : ⊥ = cc in f)

pub says : (window : Option Window) (b : Beam) (k : Voxel) → b.is_cut ≡ false → IsInWindow window k
    → is_mute window b k ≡ false
says window b k whole within =
    let test : is_in_window window k ≡ true = (in_window_exactly window k).1 within in
    rw (whole, test) refl

-- the codes that come with a beam are those that it marks
added_marks : (edge : ℕ) (window : Option Window) (o : Point) (b : Beam) (met : ℕ)
    (s s' h h' : List ℕ) (a : IsBeamAdded edge window o b met s s' h h') (code : ℕ)
    → Contains (map morton_of (kept window a.front) ++ end_codes window b a.end) code
    → IsMarked edge window o code b
added_marks edge window o b met s s' h h' a code m =
    let all : List Voxel = a.front ++ a.end ∷ [] in
    elim (Contains-append_cases (map morton_of (kept window a.front)) (end_codes window b a.end)
    code m) [
      | inl p ↦
          let r = contains_from_map morton_of (kept window a.front) code p in
          let in_box = kept_from window a.front r.0 r.1 in
          let there : Contains all r.0 = Contains-append_left a.front (a.end ∷ []) r.0 in_box.0 in
          record {
            voxel = r.0;
            coded = sym r.2;
            on_map = All-contains IsInMap all r.0 a.on_map there;
            within = in_box.1;
            met = All-contains (Meets edge o b.end) all r.0 a.walk.met there;
            whole = λ e. absurd (once_last a.front a.end r.0 a.walk.once in_box.0
                (same_end edge b r.0 a.end e a.ended));
          }
      | inr p ↦
          let t = end_tells (is_mute window b a.end) (morton_of a.end) code p in
          let said = not_mute window b a.end t.0 in
          let there : Contains all a.end = Contains-push a.front a.end in
          record {
            voxel = a.end;
            coded = sym t.1;
            on_map = All-contains IsInMap all a.end a.on_map there;
            within = said.1;
            met = All-contains (Meets edge o b.end) all a.end a.walk.met there;
            whole = λ _. said.0;
          }
    ]

added_marked : (edge : ℕ) (window : Option Window) (o : Point) (b : Beam) (met : ℕ)
    (s s' h h' : List ℕ) (a : IsBeamAdded edge window o b met s s' h h') (code : ℕ)
    → IsMarked edge window o code b
    → Contains (map morton_of (kept window a.front) ++ end_codes window b a.end) code
added_marked edge window o b met s s' h h' a code m =
    elim (Contains-push_cases a.front a.end m.voxel (a.walk.listed m.voxel m.met)) [
      | inl p ↦ Contains-append_left (map morton_of (kept window a.front))
          (end_codes window b a.end) code
          (subst (Contains (map morton_of (kept window a.front))) (sym m.coded)
          (contains_map morton_of (kept window a.front) m.voxel
          (kept_listed window a.front m.voxel p m.within)))
      | inr e ↦ Contains-append_right (map morton_of (kept window a.front))
          (end_codes window b a.end) code
          (end_there (is_mute window b a.end) (morton_of a.end) code
          (says window b a.end (m.whole (subst (λ k. EndsIn edge k b) e a.ended))
          (subst (IsInWindow window) (sym e) m.within)) (ap morton_of e ∙ sym m.coded))
    ]

added_ends : (edge : ℕ) (window : Option Window) (o : Point) (b : Beam) (met : ℕ)
    (s s' h h' : List ℕ) (a : IsBeamAdded edge window o b met s s' h h') (code : ℕ)
    → Contains (end_codes window b a.end) code → IsEnd edge window code b
added_ends edge window o b met s s' h h' a code m =
    let t = end_tells (is_mute window b a.end) (morton_of a.end) code m in
    let said = not_mute window b a.end t.0 in
    record {
      voxel = a.end;
      coded = sym t.1;
      on_map = All-contains IsInMap (a.front ++ a.end ∷ []) a.end a.on_map
          (Contains-push a.front a.end);
      within = said.1;
      ended = a.ended;
      whole = said.0;
    }

added_ended : (edge : ℕ) (window : Option Window) (o : Point) (b : Beam) (met : ℕ)
    (s s' h h' : List ℕ) (a : IsBeamAdded edge window o b met s s' h h') (code : ℕ)
    → IsEnd edge window code b → Contains (end_codes window b a.end) code
added_ended edge window o b met s s' h h' a code m =
    let same : a.end ≡ m.voxel = same_end edge b a.end m.voxel a.ended m.ended in
    end_there (is_mute window b a.end) (morton_of a.end) code
    (says window b a.end m.whole (subst (IsInWindow window) (sym same) m.within))
    (ap morton_of same ∙ sym m.coded)

-- codes of one beam more
grown_to : (P : Beam → Type 0) (bs : List Beam) (b : Beam) (s t : List ℕ) (code : ℕ)
    → (Contains s code → SomeBeam P bs) → (Contains t code → P b) → Contains (s ++ t) code
    → SomeBeam P (bs ++ b ∷ [])
grown_to P bs b s t code old new h = elim (Contains-append_cases s t code h) [
  | inl p ↦ let r = old p in (r.0, Contains-append_left bs (b ∷ []) r.0 r.1, r.2)
  | inr p ↦ (b, Contains-push bs b, new p)
]

grown_from : (P : Beam → Type 0) (bs : List Beam) (b : Beam) (s t : List ℕ) (code : ℕ)
    → (SomeBeam P bs → Contains s code) → (P b → Contains t code) → SomeBeam P (bs ++ b ∷ [])
    → Contains (s ++ t) code
grown_from P bs b s t code old new h = elim (Contains-push_cases bs b h.0 h.1) [
  | inl p ↦ Contains-append_left s t code (old (h.0, p, h.2))
  | inr e ↦ Contains-append_right s t code (new (subst P (sym e) h.2))
]

pub gathered_none : (edge : ℕ) (window : Option Window) (o : Point)
    → AreGathered edge window o [] [] []
gathered_none edge window o = record {
  marks = λ code. (λ h. absurd (contains_none code h), λ h. absurd (contains_none h.0 h.1));
  ends = λ code. (λ h. absurd (contains_none code h), λ h. absurd (contains_none h.0 h.1));
  part = λ code h. h;
  on_map = λ b h k m. absurd (contains_none b h);
}

-- after one beam more, the codes are those of one beam more
pub gathered_more : (edge : ℕ) (window : Option Window) (o : Point) (bs : List Beam) (b : Beam)
    (met : ℕ) (s s' h h' : List ℕ) → AreGathered edge window o bs s h
    → IsBeamAdded edge window o b met s s' h h' → AreGathered edge window o (bs ++ b ∷ []) s' h'
gathered_more edge window o bs b met s s' h h' g a =
    let front : List ℕ = map morton_of (kept window a.front) in
    let end : List ℕ = end_codes window b a.end in
    let marks : s' ≡ s ++ (front ++ end) = a.marks ∙ append_assoc s front end in
    record {
      marks = λ code. (
        λ m. grown_to (IsMarked edge window o code) bs b s (front ++ end) code (g.marks code).0
            (added_marks edge window o b met s s' h h' a code)
            (subst (λ l. Contains l code) marks m),
        λ m. subst (λ l. Contains l code) (sym marks)
            (grown_from (IsMarked edge window o code) bs b s (front ++ end) code (g.marks code).1
            (added_marked edge window o b met s s' h h' a code) m),
      );
      ends = λ code. (
        λ m. grown_to (IsEnd edge window code) bs b h end code (g.ends code).0
            (added_ends edge window o b met s s' h h' a code)
            (subst (λ l. Contains l code) a.ends m),
        λ m. subst (λ l. Contains l code) (sym a.ends)
            (grown_from (IsEnd edge window code) bs b h end code (g.ends code).1
            (added_ended edge window o b met s s' h h' a code) m),
      );
      part = λ code m. subst (λ l. Contains l code) (sym marks)
          (elim (Contains-append_cases h end code (subst (λ l. Contains l code) a.ends m)) [
            | inl p ↦ Contains-append_left s (front ++ end) code (g.part code p)
            | inr p ↦ Contains-append_right s (front ++ end) code
                (Contains-append_right front end code p)
          ]);
      on_map = λ c m k met. elim (Contains-push_cases bs b c m) [
        | inl p ↦ g.on_map c p k met
        | inr e ↦ All-contains IsInMap (a.front ++ a.end ∷ []) k a.on_map
            (a.walk.listed k (subst (λ c. Meets edge o c.end k) (sym e) met))
      ];
    }

-- one beam more meets this many voxels more
pub met_more : (edge : ℕ) (o : Point) (bs : List Beam) (b : Beam) (total met : ℕ)
    → MeetInAll edge o bs total → MeetsSoMany edge o b.end met
    → MeetInAll edge o (bs ++ b ∷ []) (total + met)
met_more edge o [] b total met h m = (met, 0, m, refl, omega (arith, h))
met_more edge o (c ∷ bs) b total met h m =
    (h.0, h.1 + met, h.2, met_more edge o bs b h.1 met h.3 m, omega (arith, h.4))

few_end : (t : Bool) (m : ℕ) → length (cond t [] (m ∷ [])) ≤ 1
few_end true m = omega arith
few_end false m = omega arith

-- no more codes come than voxels are met
pub few_more : (edge : ℕ) (window : Option Window) (o : Point) (b : Beam) (met : ℕ)
    (s s' h h' : List ℕ) → IsBeamAdded edge window o b met s s' h h' → length s' ≤ length s + met
few_more edge window o b met s s' h h' a =
    let front : List ℕ = map morton_of (kept window a.front) in
    let end_few : (t : Bool) (m : ℕ) → length (cond t [] (m ∷ [])) ≤ 1 = λ t m. few_end t m in
    omega (
      arith,
      ap length a.marks,
      length-append (s ++ front) (end_codes window b a.end),
      length-append s front,
      length-map (kept window a.front) morton_of,
      kept_few window a.front,
      end_few (is_mute window b a.end) (morton_of a.end),
      length_push a.front a.end,
      a.counted,
    )

-- the codes that beams mark are codes of the map
pub gathered_below : (edge : ℕ) (window : Option Window) (o : Point) (bs : List Beam)
    (s h : List ℕ) → AreGathered edge window o bs s h → All (λ c. c < 2 ^ 48) s
gathered_below edge window o bs s h g =
    all_contained (λ c. c < 2 ^ 48) s
    (λ c m. let r = ((g.marks c).0 m).2 in
    subst (λ n. n < 2 ^ 48) (sym r.coded) (morton_below r.voxel))

pub hits_below : (edge : ℕ) (window : Option Window) (o : Point) (bs : List Beam) (s h : List ℕ)
    → AreGathered edge window o bs s h → All (λ c. c < 2 ^ 48) h
hits_below edge window o bs s h g =
    all_contained (λ c. c < 2 ^ 48) h
    (λ c m. All-contains (λ c. c < 2 ^ 48) s c (gathered_below edge window o bs s h g) (g.part c m))

-- the same for the beams of a list, one after the other
pub gathered_next : (edge : ℕ) (window : Option Window) (o : Point) (bs : List Beam) (i : ℕ)
    (d : Beam) (met : ℕ) (s s' h h' : List ℕ) → i < length bs
    → AreGathered edge window o (take i bs) s h
    → IsBeamAdded edge window o (get_or bs i d) met s s' h h'
    → AreGathered edge window o (take (i + 1) bs) s' h'
gathered_next edge window o bs i d met s s' h h' l g a =
    subst (λ l. AreGathered edge window o l s' h') (sym (take_more bs i d l))
    (gathered_more edge window o (take i bs) (get_or bs i d) met s s' h h' g a)

pub met_next : (edge : ℕ) (o : Point) (bs : List Beam) (i : ℕ) (d : Beam) (total met : ℕ)
    → i < length bs → MeetInAll edge o (take i bs) total
    → MeetsSoMany edge o (get_or bs i d).end met → MeetInAll edge o (take (i + 1) bs) (total + met)
met_next edge o bs i d total met l h m =
    subst (λ l. MeetInAll edge o l (total + met)) (sym (take_more bs i d l))
    (met_more edge o (take i bs) (get_or bs i d) total met h m)
