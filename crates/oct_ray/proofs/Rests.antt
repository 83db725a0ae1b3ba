-- A walk is what comes before a moment, followed by the walk of the three axes with the crossings
-- before that moment taken.
use Rattle.std.proofs.Common.{◌≡◌, ℕ, zero, suc, ◌+◌, ◌*◌, ◌/◌, ◌<◌, ◌≤◌, true, false, eqb, List}
use Rattle.std.proofs.Common.{[], ◌∷◌, ◌++◌, refl, arith, inl, inr, sym, subst, ◌∙◌, ap}
use Rattle.std.proofs.lemmas.Bool.{cases_lt, ne_eqb}
use Rattle.oct_key.specs.Voxel.{Voxel}
use Rattle.oct_ray.specs.Axis.{AreAxesOf, HasRoom, crosses, axis_keys, axis_voxel}
use Rattle.oct_ray.specs.Given.{IsRestOf}
use Rattle.oct_ray.specs.Met.{axis_after_crossings, axis_after_part, crossings_within}
use Rattle.oct_ray.specs.Met.{keys_along, met_by, met_after}
use Rattle.oct_ray.specs.Track.{AreTracks, IsEnding, IsTrackOf, keys_to_come}
use Rattle.oct_ray.specs.declared.axis.Axis.{Axis}
use Rattle.oct_ray.specs.declared.track.Track.{Track}
use Rattle.oct_key.specs.declared.point.Point.{Point}
use Rattle.oct_ray.proofs.Moments.{Moment, NotAfter, IsMoment, moment_trans}
use Rattle.oct_ray.proofs.Crossings.{next_crossing, next_crossing-IsMoment, crossings_left}
use Rattle.oct_ray.proofs.Crossings.{crossings_left-fall, axis_after-HasRoom, crosses-crossings}
use Rattle.oct_ray.proofs.Crossings.{not_after_yes}
use Rattle.oct_ray.proofs.KeyLists.{keys_suc, keys_enough}
use Rattle.oct_ray.proofs.LaterAxes.{none_taken, taken_after, taken_room, taken_ending}
use Rattle.oct_ray.proofs.LaterAxes.{within_crossings, within_at, after_part}
use Rattle.oct_ray.proofs.OneAxis.{one_axis_of}
use Rattle.oct_ray.proofs.Starts.{axis_ending}
use Rattle.oct_ray.proofs.Tracks.{keys_are, make_walk, walk_goes_on}
use Rattle.oct_ray.proofs.Visits.{IsAt, at_axis_after, at_moved, crosses_others}
use Rattle.oct_ray.proofs.Visits.{next_crossing_passed}

-- where some axis crosses before a moment, one that crosses next does
crossed : (a b c : Axis) (i j h : ℕ) (m : Moment) → HasRoom a → HasRoom b → HasRoom c → IsMoment m
    → IsAt a i m → IsAt b j m → IsAt c h m → 0 < i + j + h → crosses a b c ≡ true → 0 < i
crossed a b c i j h m ia ib ic im at_a at_b at_c some e = elim (cases_lt 0 i) [
  | inl before ↦ before
  | inr not_a ↦ elim (cases_lt 0 j) [
    | inl by_b ↦
        let first = not_after_yes a b ((crosses_others a b c e).0 (omega (arith, at_b.within))) in
        moved (moment_trans (next_crossing a) (next_crossing b) m (next_crossing-IsMoment a ia)
        (next_crossing-IsMoment b ib) im first (next_crossing_passed b j m ib im at_b by_b))
    | inr not_b ↦
        let by_c : 0 < h = omega (arith, some, not_a, not_b) in
        let first = not_after_yes a c ((crosses_others a b c e).1 (omega (arith, at_c.within))) in
        moved (moment_trans (next_crossing a) (next_crossing c) m (next_crossing-IsMoment a ia)
        (next_crossing-IsMoment c ic) im first (next_crossing_passed c h m ic im at_c by_c))
  ]
]
  where
    moved : NotAfter (next_crossing a) m → 0 < i
    moved passed = at_moved a i m (crosses-crossings a b c e) passed at_a

-- three axes that are equal to others have the same voxels before them
same_axes : (x y z x' y' z' : Axis) → x ≡ x' → y ≡ y' → z ≡ z'
    → keys_along x y z ≡ keys_along x' y' z'
same_axes x y z x' y' z' ex ey ez = rw (ex, ey, ez) refl

none_before : (a : Axis) (i : ℕ) → i ≡ 0 → a ≡ axis_after_crossings i a
none_before a i e = sym (ap (λ n. axis_after_crossings n a) e ∙ none_taken a)

-- the voxels from three axes on, with these crossings taken
abbrev keys_after : Axis → Axis → Axis → ℕ → ℕ → ℕ → List Voxel
keys_after x y z i j h =
    keys_along (axis_after_crossings i x) (axis_after_crossings j y) (axis_after_crossings h z)

pub rest_of_keys : (f : ℕ) (x y z : Axis) (i j h : ℕ) (m : Moment) → HasRoom x → HasRoom y
    → HasRoom z → IsMoment m → IsAt x i m → IsAt y j m → IsAt z h m → crossings_left x y z ≤ f
    → (before : List Voxel) × (axis_keys f x y z ≡ before ++ keys_after x y z i j h)
rest_of_keys zero x y z i j h m ix iy iz im at_x at_y at_z enough = (
  [],
  keys_enough zero (crossings_left x y z) x y z ix iy iz enough (omega arith)
      ∙ same_axes x y z _ _ _ (none_before x i (omega (arith, at_x.within, enough)))
      (none_before y j (omega (arith, at_y.within, enough)))
      (none_before z h (omega (arith, at_z.within, enough))),
)
rest_of_keys (suc f) x y z i j h m ix iy iz im at_x at_y at_z enough =
    elim (cases_lt 0 (i + j + h)) [
      | inr none ↦ (
        [],
        keys_enough (suc f) (crossings_left x y z) x y z ix iy iz enough (omega arith)
            ∙ same_axes x y z _ _ _ (none_before x i (omega (arith, none)))
            (none_before y j (omega (arith, none))) (none_before z h (omega (arith, none))),
      )
      | inl some ↦
          let e : eqb (crossings_left x y z) 0 ≡ false =
          ne_eqb (crossings_left x y z) 0
          (λ q. absurd (omega (arith, q, some, at_x.within, at_y.within, at_z.within))) in
          let fall = crossings_left-fall x y z ix iy iz e in
          let sx = at_axis_after (crosses x y z) x i m
          (crossed x y z i j h m ix iy iz im at_x at_y at_z some) at_x in
          let sy = at_axis_after (crosses y z x) y j m
          (crossed y z x j h i m iy iz ix im at_y at_z at_x (omega (arith, some))) at_y in
          let sz = at_axis_after (crosses z x y) z h m
          (crossed z x y h i j m iz ix iy im at_z at_x at_y (omega (arith, some))) at_z in
          let rest = rest_of_keys f _ _ _ sx.0 sy.0 sz.0 m
          (axis_after-HasRoom (crosses x y z) x (crosses-crossings x y z) ix)
          (axis_after-HasRoom (crosses y z x) y (crosses-crossings y z x) iy)
          (axis_after-HasRoom (crosses z x y) z (crosses-crossings z x y) iz) im sx.2 sy.2 sz.2
          (omega (arith, fall, enough)) in (
            axis_voxel x y z ∷ rest.0,
            keys_suc f x y z e
                ∙ ap (λ ks. axis_voxel x y z ∷ ks) (rest.1
                ∙ ap (λ ks. rest.0 ++ ks) (same_axes _ _ _ _ _ _
                (taken_after (crosses x y z) x sx.0
                ∙ ap (λ n. axis_after_crossings n x) (sym sx.1))
                (taken_after (crosses y z x) y sy.0
                ∙ ap (λ n. axis_after_crossings n y) (sym sy.1))
                (taken_after (crosses z x y) z sz.0
                ∙ ap (λ n. axis_after_crossings n z) (sym sz.1)))),
          )
    ]

-- three axes of a segment, what is left of them after a part of it, and the tracks of that
pub record AreLater (part edge : ℕ) (o e : Point) (a b c a' b' c' : Axis) (x y z : Track)
    : Type 0 where
  pub made : AreAxesOf edge o e a b c
  pub later_a : a' ≡ axis_after_part part a
  pub later_b : b' ≡ axis_after_part part b
  pub later_c : c' ≡ axis_after_part part c
  pub track_a : IsTrackOf x a' b' c'
  pub track_b : IsTrackOf y b' c' a'
  pub track_c : IsTrackOf z c' a' b'

-- how many crossings of an axis lie in this part of it
abbrev pub in_part : ℕ → Axis → ℕ
in_part part a = crossings_within (a.span * part / 65536) a

pub later_ending : (part : ℕ) (a a' : Axis) → a' ≡ axis_after_part part a → IsEnding a → IsEnding a'
later_ending part a a' is ending =
    rw is (taken_ending a (in_part part a) (within_crossings (a.span * part / 65536) a) ending)

pub later_room : (part : ℕ) (a a' : Axis) → a' ≡ axis_after_part part a → HasRoom a → HasRoom a'
later_room part a a' is room =
    rw is (taken_room a (in_part part a) (within_crossings (a.span * part / 65536) a) room)

pub later_edge : (part : ℕ) (a a' b b' : Axis) → a' ≡ axis_after_part part a
    → b' ≡ axis_after_part part b → b.edge ≡ a.edge → b'.edge ≡ a'.edge
later_edge part a a' b b' is_a is_b same = ap (λ (v : Axis). v.edge) is_b ∙ same
    ∙ sym (ap (λ (v : Axis). v.edge) is_a)

abbrev pub later_tracks : (part edge : ℕ) (o e : Point) (a b c a' b' c' : Axis) (x y z : Track)
    → AreLater part edge o e a b c a' b' c' x y z → AreTracks x y z
later_tracks part edge o e a b c a' b' c' x y z h = record {
  a = a';
  b = b';
  c = c';
  is_a = later_room part a a' h.later_a h.made.is_a;
  is_b = later_room part b b' h.later_b h.made.is_b;
  is_c = later_room part c c' h.later_c h.made.is_c;
  ending_a =
      later_ending part a a' h.later_a (axis_ending edge o.x e.x a h.made.is_a h.made.of_a);
  ending_b =
      later_ending part b b' h.later_b (axis_ending edge o.y e.y b h.made.is_b h.made.of_b);
  ending_c =
      later_ending part c c' h.later_c (axis_ending edge o.z e.z c h.made.is_c h.made.of_c);
  same_b =
      later_edge part a a' b b' h.later_a h.later_b
      (h.made.of_b.laid.edges ∙ sym h.made.of_a.laid.edges);
  same_c =
      later_edge part a a' c c' h.later_a h.later_c
      (h.made.of_c.laid.edges ∙ sym h.made.of_a.laid.edges);
  track_a = h.track_a;
  track_b = h.track_b;
  track_c = h.track_c;
}

-- the voxels that the tracks give are those that are computed
pub later_computed : (part edge : ℕ) (o e : Point) (a b c a' b' c' : Axis) (x y z : Track)
    → AreLater part edge o e a b c a' b' c' x y z
    → keys_to_come (make_walk x y z true) ≡ met_after part edge o e
unfolding met_after
later_computed part edge o e a b c a' b' c' x y z h =
    keys_are (make_walk x y z true) (later_tracks part edge o e a b c a' b' c' x y z h) refl
    ∙ same_axes a' b' c' _ _ _
    (h.later_a ∙ ap (axis_after_part part) (one_axis_of edge o.x e.x a h.made.of_a))
    (h.later_b ∙ ap (axis_after_part part) (one_axis_of edge o.y e.y b h.made.of_b))
    (h.later_c ∙ ap (axis_after_part part) (one_axis_of edge o.z e.z c h.made.of_c))

all_met : (edge : ℕ) (o e : Point) (a b c : Axis) → AreAxesOf edge o e a b c
    → met_by edge o e ≡ keys_along a b c
unfolding met_by
all_met edge o e a b c made =
    sym (same_axes a b c _ _ _ (one_axis_of edge o.x e.x a made.of_a)
    (one_axis_of edge o.y e.y b made.of_b) (one_axis_of edge o.z e.z c made.of_c))

-- and they are what is left of those that the segment meets
pub later_rest : (part edge : ℕ) (o e : Point) (a b c a' b' c' : Axis) (x y z : Track)
    → AreLater part edge o e a b c a' b' c' x y z
    → IsRestOf (met_by edge o e) (keys_to_come (make_walk x y z true))
later_rest part edge o e a b c a' b' c' x y z h =
    let parts = rest_of_keys (crossings_left a b c) a b c (in_part part a) (in_part part b)
    (in_part part c) (after_part part) h.made.is_a h.made.is_b h.made.is_c
    (omega arith, omega arith) (within_at part a h.made.is_a) (within_at part b h.made.is_b)
    (within_at part c h.made.is_c) (omega arith) in
    let left : keys_after a b c (in_part part a) (in_part part b) (in_part part c)
    ≡ keys_to_come (make_walk x y z true) =
    same_axes _ _ _ a' b' c' (sym h.later_a) (sym h.later_b) (sym h.later_c)
    ∙ sym (keys_are (make_walk x y z true)
    (later_tracks part edge o e a b c a' b' c' x y z h) refl) in
    record {
      before = parts.0;
      parted = all_met edge o e a b c h.made ∙ parts.1 ∙ ap (λ ks. parts.0 ++ ks) left;
      some = walk_goes_on (make_walk x y z true) (make_walk x y z true) refl refl;
    }

-- for the edge as a number
pub later_rest_at : (part res edge : ℕ) (o e : Point) (a b c a' b' c' : Axis) (x y z : Track)
    → edge ≡ res → AreLater part edge o e a b c a' b' c' x y z
    → IsRestOf (met_by res o e) (keys_to_come (make_walk x y z true))
later_rest_at part res edge o e a b c a' b' c' x y z is h =
    subst (λ n. IsRestOf (met_by n o e) (keys_to_come (make_walk x y z true))) is
    (later_rest part edge o e a b c a' b' c' x y z h)
