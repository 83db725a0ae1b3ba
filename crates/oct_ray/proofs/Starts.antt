-- What the code makes of a segment is its three axes, so that the walk begins with the whole list.
use Rattle.std.proofs.Common.{◌≡◌, ℕ, ◌+◌, ◌-◌, ◌*◌, ◌/◌, ◌%◌, ◌<◌, ◌≤◌, true, refl, arith, inl}
use Rattle.std.proofs.Common.{inr, sym, ◌∙◌, ap, subst, length, slice_get, IsSome, ℤ, List, pos}
use Rattle.std.proofs.Common.{◌-ℤ◌}
use Rattle.std.proofs.lemmas.Bool.{cases_lt}
use Rattle.std.proofs.lemmas.Int.{ints}
use Rattle.oct_ray.specs.Axis.{AreAxesOf, IsAxisBetween, IsAxisOf}
use Rattle.oct_ray.proofs.Crossings.{crossings_left}
use Rattle.oct_ray.specs.Axis.{HasRoom}
use Rattle.oct_ray.specs.Track.{IsEnding}
use Rattle.oct_ray.specs.Segment.{IsWalkAlong}
use Rattle.oct_ray.specs.Axis.{axis_keys}
use Rattle.oct_ray.specs.declared.axis.Axis.{Axis}
use Rattle.oct_key.specs.declared.point.Point.{Point}
use Rattle.oct_num.proofs.Differences.{IsDifference}
use Rattle.oct_ray.proofs.Faces.{IsLaid, IsLaidUp, IsLaidDown, up_late, down_late, row_below}
use Rattle.oct_ray.specs.Track.{IsTrackOf, AreTracks, keys_to_come}
use Rattle.oct_ray.specs.declared.track.Track.{Track}
use Rattle.oct_key.specs.Voxel.{Voxel, IsResolution, key_at}
use Rattle.oct_ray.proofs.Ends.{first_is_origin, last_is_end}
use Rattle.oct_ray.proofs.Tracks.{make_walk, keys_are}
use Rattle.oct_ray.proofs.Segments.{IsSet, keys_walk}

-- what a height says of a coordinate
pub height_diff : (edge a : ℕ) (c : ℤ) → c ≡ (pos a -ℤ pos (32768 * edge))
    → IsDifference c a (32768 * edge)
height_diff edge a c h = record { same = omega (arith, ints) }

-- how far the end lies from the origin, where it lies no lower, and where it lies lower
move_up : (o e : ℤ) (a b u : ℕ) → IsDifference o a u → IsDifference e b u → a ≤ b
    → IsDifference (e -ℤ o) (b - a) 0
move_up o e a b u h k l = record { same = omega (arith, ints, h.same, k.same) }

move_down : (o e : ℤ) (a b u : ℕ) → IsDifference o a u → IsDifference e b u → b < a
    → IsDifference (e -ℤ o) 0 (a - b)
move_down o e a b u h k l = record { same = omega (arith, ints, h.same, k.same) }

pub quotient_and_rest : (a edge : ℕ) → 0 < edge
    → ((a / edge) * edge + a % edge ≡ a) × (a % edge < edge)
quotient_and_rest a edge h = omega arith

-- an axis that the code makes is laid as it says, where it rises, and where it falls
laid_up : (edge a b : ℕ) (x : Axis) → HasRoom x → IsAxisBetween edge a b x → a ≤ b
    → IsLaidUp x (a % edge) (b - a)
laid_up edge a b x ix l h =
    let u = l.up h in
    let pe : 0 < edge = omega (arith, ix.edges, l.edges) in
    let sa = quotient_and_rest a edge pe in
    let sb = quotient_and_rest b edge pe in
    let e0 : x.key * edge ≡ (a / edge) * edge = ap (λ (n : ℕ). n * edge) l.key in
    let e1 : (x.key + x.crossings) * edge ≡ (b / edge) * edge = ap (λ (n : ℕ). n * edge) u.last in
    let lt : 0 < x.crossings → a < b = λ p. elim (cases_lt a b) [
      | inl k ↦ k
      | inr ge ↦ let q : a
          ≡ b = omega arith in let d = ap (λ (n : ℕ). n / edge) q in absurd (omega (arith, l.key))
    ] in
    let e2 : x.crossings * x.edge ≡ x.crossings * edge = ap (λ (n : ℕ). x.crossings * n) l.edges in
    record {
      rises = u.rises;
      off = λ p. u.first (lt p) ∙ sym l.edges;
      inside = omega (arith, l.edges);
      span = λ p. let k = lt p in omega arith;
      low = omega arith;
      high = omega (arith, l.edges);
    }

laid_down : (edge a b : ℕ) (x : Axis) → HasRoom x → IsAxisBetween edge a b x → b < a
    → IsLaidDown x (a % edge) (a - b)
laid_down edge a b x ix l h =
    let u = l.down h in
    let pe : 0 < edge = omega (arith, ix.edges, l.edges) in
    let sa = quotient_and_rest a edge pe in
    let sb = quotient_and_rest b edge pe in
    let e0 : x.key * edge ≡ (a / edge) * edge = ap (λ (n : ℕ). n * edge) l.key in
    let e1 : (b / edge + x.crossings) * edge ≡ x.key * edge = ap (λ (n : ℕ). n * edge) u.last in
    let e2 : x.crossings * x.edge ≡ x.crossings * edge = ap (λ (n : ℕ). x.crossings * n) l.edges in
    record {
      rises = u.falls;
      off = u.first;
      inside = omega (arith, l.edges);
      span = λ p. u.span;
      low = omega arith;
      high = omega (arith, l.edges);
    }

laid_from : (edge : ℕ) (o e : ℤ) (a b : ℕ) (x : Axis) → o ≡ (pos a -ℤ pos (32768 * edge))
    → e ≡ (pos b -ℤ pos (32768 * edge)) → HasRoom x → IsAxisBetween edge a b x → IsLaid edge o e x
laid_from edge o e a b x ho he ix l =
    let pe : 0 < edge = omega (arith, ix.edges, l.edges) in
    let sa = quotient_and_rest a edge pe in
    let da = height_diff edge a o ho in
    let de = height_diff edge b e he in
    let e0 : x.key * edge ≡ (a / edge) * edge = ap (λ (n : ℕ). n * edge) l.key in
    let e2 : x.key * x.edge ≡ x.key * edge = ap (λ (n : ℕ). x.key * n) l.edges in
    let from : IsDifference o (x.key * x.edge + a % edge) (32768 * x.edge) =
    record { same = omega (arith, da.same, l.edges) } in
    elim (cases_lt b a) [
      | inl lt ↦ record {
        edge_is = sym l.edges;
        r = a % edge;
        D = a - b;
        at = from;
        way = inr (move_down o e a b (32768 * edge) da de lt, laid_down edge a b x ix l lt);
      }
      | inr ge ↦ record {
        edge_is = sym l.edges;
        r = a % edge;
        D = b - a;
        at = from;
        way = inl (move_up o e a b (32768 * edge) da de ge, laid_up edge a b x ix l ge);
      }
    ]

pub laid_of : (edge : ℕ) (o e : ℤ) (x : Axis) → HasRoom x → IsAxisOf edge o e x → IsLaid edge o e x
laid_of edge o e x ix l = laid_from edge o e l.a l.b x l.o_is l.e_is ix l.laid

-- its crossings end with the segment
pub axis_ending : (edge : ℕ) (o e : ℤ) (x : Axis) → HasRoom x → IsAxisOf edge o e x → IsEnding x
axis_ending edge o e x ix l = elim (cases_lt l.b l.a) [
  | inl lt ↦ let d = laid_down edge l.a l.b x ix l.laid lt in let n1 = down_late x d.rises in
      record {
        ends =
            λ i h. let s = d.span (omega arith) in let m = row_below i x.crossings x.edge h in
            omega (arith, d.high, d.off);
        beyond = omega (arith, d.low, d.off, (l.laid.down lt).span);
      }
  | inr ge ↦ let d = laid_up edge l.a l.b x ix l.laid ge in let n0 = up_late x d.rises in record {
    ends =
        λ i h. let s = d.span (omega arith) in let o = d.off (omega arith) in let m = row_below i
        x.crossings x.edge h in omega (arith, d.low);
    beyond =
        let u = l.laid.up ge in
        elim (cases_lt l.a l.b) [
          | inl k ↦ let f = u.first k in let e = l.laid.edges in omega (arith, d.high, u.span)
          | inr k ↦ let q : l.a ≡ l.b = omega arith in let f = u.beyond q in omega (arith, u.span)
        ];
  }
]

pub made_set : (edge : ℕ) (o e : Point) (a b c : Axis) → AreAxesOf edge o e a b c
    → IsSet edge o e a b c
made_set edge o e a b c m = record {
  is_x = m.is_a;
  is_y = m.is_b;
  is_z = m.is_c;
  laid_x = laid_of edge o.x e.x a m.is_a m.of_a;
  laid_y = laid_of edge o.y e.y b m.is_b m.of_b;
  laid_z = laid_of edge o.z e.z c m.is_c m.of_c;
}

abbrev pub made_tracks : (edge : ℕ) (o e : Point) (a b c : Axis) (x y z : Track)
    → AreAxesOf edge o e a b c → IsTrackOf x a b c → IsTrackOf y b c a → IsTrackOf z c a b
    → AreTracks x y z
made_tracks edge o e a b c x y z m tx ty tz = record {
  a = a;
  b = b;
  c = c;
  is_a = m.is_a;
  is_b = m.is_b;
  is_c = m.is_c;
  ending_a = axis_ending edge o.x e.x a m.is_a m.of_a;
  ending_b = axis_ending edge o.y e.y b m.is_b m.of_b;
  ending_c = axis_ending edge o.z e.z c m.is_c m.of_c;
  same_b = m.of_b.laid.edges ∙ sym m.of_a.laid.edges;
  same_c = m.of_c.laid.edges ∙ sym m.of_a.laid.edges;
  track_a = tx;
  track_b = ty;
  track_c = tz;
}

-- what `new` promises of a list of voxels
pub record IsNewWalk (edge : ℕ) (o e : Point) (ks : List Voxel) : Type 0 where
  pub walk : IsWalkAlong edge o e ks
  pub first : slice_get ks 0 ≡ key_at edge o
  pub last : slice_get ks (length ks - 1) ≡ key_at edge e

-- the voxels from where the axes of a segment begin
pub new_walk : (edge : ℕ) (o e : Point) (x y z : Axis) → 1 ≤ edge → IsSome (key_at edge o)
    → IsSome (key_at edge e) → IsSet edge o e x y z
    → IsNewWalk edge o e (axis_keys (crossings_left x y z) x y z)
new_walk edge o e x y z positive ko ke s = record {
  walk = keys_walk edge o e x y z s;
  first = first_is_origin edge o e x y z (key_at edge o) (crossings_left x y z) positive s refl ko;
  last =
      last_is_end edge o e x y z (key_at edge e) (crossings_left x y z) positive (omega arith) s
      refl ke;
}

walk_equal : (edge : ℕ) (o e : Point) (ks ls : List Voxel) → ks ≡ ls → IsNewWalk edge o e ks
    → IsNewWalk edge o e ls
walk_equal edge o e ks ls h w = subst (λ (v : List Voxel). IsNewWalk edge o e v) h w

-- and those that the tracks of these axes give
made_walk : (edge : ℕ) (o e : Point) (a b c : Axis) (x y z : Track) → 1 ≤ edge
    → IsSome (key_at edge o) → IsSome (key_at edge e) → AreAxesOf edge o e a b c →
    IsTrackOf x a b c → IsTrackOf y b c a → IsTrackOf z c a b
    → IsNewWalk edge o e (keys_to_come (make_walk x y z true))
made_walk edge o e a b c x y z positive ko ke m tx ty tz =
    let r = made_tracks edge o e a b c x y z m tx ty tz in
    walk_equal edge o e _ _ (sym (keys_are (make_walk x y z true) r refl))
    (new_walk edge o e a b c positive ko ke (made_set edge o e a b c m))

-- for the edge as a number
pub made_at : (res edge : ℕ) (o e : Point) (a b c : Axis) (x y z : Track) → edge ≡ res
    → IsResolution edge → IsSome (key_at res o) → IsSome (key_at res e) → AreAxesOf edge o e a b c →
    IsTrackOf x a b c → IsTrackOf y b c a → IsTrackOf z c a b
    → IsNewWalk res o e (keys_to_come (make_walk x y z true))
made_at res edge o e a b c x y z h range ko ke m tx ty tz =
    made_walk res o e a b c x y z (omega arith) ko ke
    (subst (λ (n : ℕ). AreAxesOf n o e a b c) h m) tx ty tz
