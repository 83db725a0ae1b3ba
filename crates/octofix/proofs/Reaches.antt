-- Points that are looked at one after another, up to the first that is too far away.
use Rattle.std.proofs.Common.{◌≡◌, ℕ, ◌+◌, ◌<◌, ◌≤◌, List, [], ◌∷◌, ◌++◌, length, map, take, drop}
use Rattle.std.proofs.Common.{All, Some, None, true, false, refl, sym, ap, subst, ◌∙◌, add-one}
use Rattle.std.proofs.Common.{arith, get_or}
use Rattle.std.proofs.lemmas.List.{drop_all, drop_more, get_or-map, length-map, map-append}
use Rattle.std.proofs.lemmas.List.{take_more}
use Rattle.std.proofs.lemmas.List.Elements.{All-append, All-cons}
use Rattle.oct_pose.specs.Reach.{IsInReach}
use Rattle.octofix.specs.Points.{point_of}
use Rattle.octofix.specs.Sightings.{first_far, is_in_reach}
use Rattle.octofix.specs.declared.types.PointNm.{PointNm}

-- the first that is too far away, where one is looked at that isn't
first_of_near : (i : ℕ) (p : PointNm) (ps : List PointNm) → is_in_reach (point_of p) ≡ true
    → first_far i (p ∷ ps) ≡ first_far (i + 1) ps
first_of_near i p ps near = rw near (ap (λ n. first_far n ps) (sym (add-one i)))

-- one point more that isn't too far away
pub near_more : (points : List PointNm) (i : ℕ) (d : PointNm) → i < length points
    → is_in_reach (point_of (get_or points i d)) ≡ true
    → first_far 0 points ≡ first_far i (drop i points)
    → first_far 0 points ≡ first_far (i + 1) (drop (i + 1) points)
near_more points i d within near left =
    left ∙ ap (first_far i) (drop_more points i d within)
    ∙ first_of_near i (get_or points i d) (drop (i + 1) points) near

-- a point that is too far away is the first
pub far_here : (points : List PointNm) (i : ℕ) (d : PointNm) → i < length points
    → is_in_reach (point_of (get_or points i d)) ≡ false
    → first_far 0 points ≡ first_far i (drop i points) → first_far 0 points ≡ Some i
far_here points i d within far left =
    left ∙ ap (first_far i) (drop_more points i d within) ∙ rw far refl

-- behind the last point there is none
pub none_far : (points : List PointNm) (i : ℕ) → length points ≤ i
    → first_far 0 points ≡ first_far i (drop i points) → first_far 0 points ≡ None
none_far points i over left = left ∙ ap (first_far i) (drop_all i points over)

-- one point more in reach
pub reach_more : (points : List PointNm) (i : ℕ) (d : PointNm) → i < length points
    → IsInReach (point_of (get_or points i d)) → All IsInReach (map point_of (take i points))
    → All IsInReach (map point_of (take (i + 1) points))
reach_more points i d within near so_far =
    let more : map point_of (take (i + 1) points)
    ≡ map point_of (take i points) ++ point_of (get_or points i d) ∷ [] =
    ap (map point_of) (take_more points i d within)
    ∙ map-append point_of (take i points) (get_or points i d ∷ []) in
    subst (All IsInReach) (sym more)
    (All-append IsInReach (map point_of (take i points)) (point_of (get_or points i d) ∷ [])
    so_far (All-cons IsInReach (point_of (get_or points i d)) [] near
    (λ k d below. absurd (omega arith))))

-- each point is in reach where all are
pub reach_at : (points : List PointNm) (i : ℕ) (d : PointNm) → All IsInReach (map point_of points)
    → i < length points → IsInReach (point_of (get_or points i d))
reach_at points i d all within =
    subst IsInReach (get_or-map point_of points i d (point_of d) within)
    (all i (point_of d) (omega (arith, length-map points point_of, within)))
