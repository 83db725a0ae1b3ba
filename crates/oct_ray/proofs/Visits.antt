-- Each voxel of the list is met at some place, each voxel that is met is in the list, and the list
-- is in the order of the places.
use Rattle.std.proofs.Common.{◌≡◌, ◌≢◌, ℕ, zero, suc, ◌+◌, ◌-◌, ◌*◌, ◌<◌, ◌≤◌, Bool, true, false}
use Rattle.std.proofs.Common.{cond, eqb, List, [], ◌∷◌, refl, arith, inl, inr, ◌⊎◌, sym, ◌∙◌, ap}
use Rattle.std.proofs.Common.{subst}
use Rattle.std.proofs.lemmas.Bool.{cases_lt}
use Rattle.std.proofs.Math.Nat.{mul-pos}
use Rattle.std.proofs.lemmas.Bool.Decides.{nat_tests}
use Rattle.oct_ray.specs.Axis.{HasRoom, crosses, axis_after, after_crossing, lateness}
use Rattle.oct_ray.specs.Axis.{not_after}
use Rattle.oct_ray.specs.Axis.{axis_keys, axis_voxel}
use Rattle.oct_ray.specs.declared.axis.Axis.{Axis}
use Rattle.oct_key.specs.Voxel.{Voxel}
use Rattle.oct_ray.proofs.Moments.{Moment, NotAfter, Before, IsMoment}
use Rattle.oct_ray.proofs.Moments.{moment_trans, moment_total, moment_le_lt, moment_lt_le, between}
use Rattle.oct_ray.proofs.Moments.{between_from, between_to}
use Rattle.oct_ray.proofs.Crossings.{crossing, next_crossing, next_crossing-IsMoment, lateness-le}
use Rattle.oct_ray.proofs.Crossings.{product_plus_one, crossings_left, crossings_left-fall}
use Rattle.oct_ray.proofs.Crossings.{axis_after-HasRoom, crosses-crossings, not_after_yes}
use Rattle.oct_ray.proofs.Crossings.{not_after_no, some_crosses}
use Rattle.oct_ray.proofs.KeyLists.{Lists, keys_suc, keys_end, zero_from}

abbrev pub end_place : Moment
end_place = record { numerator = 1; denominator = 1; late = 0 }

-- at the place m the axis is j crossings on
pub record IsAt (a : Axis) (j : ℕ) (m : Moment) : Type 0 where
  pub within : j ≤ a.crossings
  pub past : (i : ℕ) → j ≡ i + 1 → NotAfter (crossing a i) m
  pub still : j < a.crossings → Before m (crossing a j)

-- the crossings still to come lie after the moment s and on the segment
pub record IsDueAfter (a : Axis) (s : Moment) : Type 0 where
  pub after : 0 < a.crossings → Before s (next_crossing a)
  pub ends : (i : ℕ) → i < a.crossings → NotAfter (crossing a i) end_place

pub at_start : (a : Axis) (m : Moment) → (0 < a.crossings → Before m (next_crossing a)) → IsAt a 0 m
at_start a m h = record {
  within = omega arith;
  past = λ i e. absurd (omega arith);
  still = λ l. omega (arith, h l);
}

-- an axis that crosses before the place m is at least one crossing on
pub at_moved : (a : Axis) (j : ℕ) (m : Moment) → 0 < a.crossings → NotAfter (next_crossing a) m
    → IsAt a j m → 0 < j
at_moved a zero m l n i = absurd (omega (arith, i.still l))
at_moved a (suc j) m l n i = omega arith

crossing_stepped : (a : Axis) (i k : ℕ) → k ≡ i + 1 → crossing (after_crossing a) i ≡ crossing a k
crossing_stepped a i k e =
    let p = product_plus_one i k a.edge e in
    let n : a.distance + a.edge + i * a.edge ≡ a.distance + k * a.edge = omega arith in
    ap (λ (n : ℕ). let m : Moment = record {
      numerator = n;
      denominator = a.span;
      late = lateness a;
    } in m) n

first_equal : (a b m : Moment) → a ≡ b → NotAfter a m → NotAfter b m
first_equal a b m e h = subst (λ (w : Moment). NotAfter w m) e h

last_equal : (a b m : Moment) → a ≡ b → Before m a → Before m b
last_equal a b m e h = subst (λ (w : Moment). Before m w) e h

at_step : (a : Axis) (j : ℕ) (m : Moment) → IsAt a (j + 1) m → IsAt (after_crossing a) j m
at_step a j m i = record {
  within = omega (arith, i.within);
  past =
      λ k e. first_equal _ _ m (sym (crossing_stepped a k (k + 1) refl))
      (i.past (k + 1) (ap (λ n. n + 1) e));
  still = λ l. last_equal _ _ m (sym (crossing_stepped a j (j + 1) refl)) (i.still (omega arith));
}

first_crossing : (a : Axis) (m : Moment) → NotAfter (next_crossing a) m → NotAfter (crossing a 0) m
first_crossing a m n = omega arith

at_step_back : (a : Axis) (j : ℕ) (m : Moment) → 0 < a.crossings → NotAfter (next_crossing a) m
    → IsAt (after_crossing a) j m → IsAt a (j + 1) m
at_step_back a j m l n i = record {
  within = omega (arith, i.within);
  past = λ k e.
      elim (cases_lt 0 k) [
        | inl h ↦ first_equal _ _ m (crossing_stepped a (k - 1) k (omega arith))
            (i.past (k - 1) (omega arith))
        | inr h ↦ let z : k ≡ 0 = omega arith in rw z (first_crossing a m n)
      ];
  still = λ h. last_equal _ _ m (crossing_stepped a j (j + 1) refl) (i.still (omega arith));
}

-- a step, where it is taken
pub at_axis_after : (t : Bool) (a : Axis) (j : ℕ) (m : Moment) → (t ≡ true → 0 < j) → IsAt a j m
    → (i : ℕ) × (j ≡ cond t (i + 1) i) × IsAt (axis_after t a) i m
at_axis_after false a j m h i = (j, refl, i)
at_axis_after true a j m h i =
    let l = h refl in
    let e : j ≡ (j - 1) + 1 = omega arith in
    (j - 1, e, at_step a (j - 1) m (subst (λ (n : ℕ). IsAt a n m) e i))

at_axis_after_back : (t : Bool) (a : Axis) (i : ℕ) (m : Moment) → (t ≡ true → 0 < a.crossings)
    → (t ≡ true → NotAfter (next_crossing a) m) → IsAt (axis_after t a) i m
    → IsAt a (cond t (i + 1) i) m
at_axis_after_back false a i m h n w = w
at_axis_after_back true a i m h n w = at_step_back a i m (h refl) (n refl) w

-- what the axis gives a key, j crossings on
abbrev pub key_after : Axis → ℕ → ℕ
key_after a j = cond a.rises (a.key + j) (a.key - j)

pub key_after-axis_after : (t : Bool) (a : Axis) (i : ℕ)
    → key_after (axis_after t a) i ≡ key_after a (cond t (i + 1) i)
key_after-axis_after false a i = refl
key_after-axis_after true a i = grind arith

-- the time of an axis after a step that comes at the moment s'
IsDueAfter-axis_after : (t : Bool) (a : Axis) (s : Moment) → HasRoom a → IsMoment s
    → (t ≡ true → 0 < a.crossings) → (t ≡ true → NotAfter s (next_crossing a))
    → (t ≡ false → 0 < a.crossings → Before s (next_crossing a))
    → ((i : ℕ) → i < a.crossings → NotAfter (crossing a i) end_place)
    → IsDueAfter (axis_after t a) s
IsDueAfter-axis_after false a s ia is l n b ends = record { after = b refl; ends = ends }
IsDueAfter-axis_after true a s ia is l n b ends = record {
  after = λ h. let p : 0 < a.edge * s.denominator = mul-pos ia.edges is.0 in omega (arith, n refl);
  ends =
      λ i h. first_equal _ _ end_place (sym (crossing_stepped a i (i + 1) refl))
      (ends (i + 1) (omega arith));
}

-- how an axis lies at the next moment n, where t says that it crosses then
pub record StandsAt (t : Bool) (a : Axis) (n : Moment) : Type 0 where
  pub crossings : t ≡ true → 0 < a.crossings
  pub now : t ≡ true → NotAfter (next_crossing a) n
  pub not_yet : t ≡ true → NotAfter n (next_crossing a)
  pub later : t ≡ false → 0 < a.crossings → Before n (next_crossing a)

pub crosses_others : (a b c : Axis) → crosses a b c ≡ true
    → (0 < b.crossings → not_after a b ≡ true) × (0 < c.crossings → not_after a c ≡ true)
crosses_others a b c h = grind (arith, nat_tests)

crosses_not : (a b c : Axis) → crosses a b c ≡ false → 0 < a.crossings
    → ((0 < b.crossings) × (not_after a b ≡ false)) ⊎ ((0 < c.crossings) × (not_after a c ≡ false))
crosses_not a b c h l = grind (arith, nat_tests)

follows_self : (a b c : Axis) → crosses a b c ≡ true → StandsAt (crosses a b c) a (next_crossing a)
follows_self a b c h = record {
  crossings = crosses-crossings a b c;
  now = λ _. omega arith;
  not_yet = λ _. omega arith;
  later = λ e. let d : true ≡ false = sym h ∙ e in cc;
}

follows_second : (a b c : Axis) → HasRoom a → HasRoom b → HasRoom c → crosses a b c ≡ true
    → StandsAt (crosses b c a) b (next_crossing a)
follows_second a b c ia ib ic h =
    let o = crosses_others a b c h in
    record {
      crossings = crosses-crossings b c a;
      now = λ e. not_after_yes b a ((crosses_others b c a e).1 (crosses-crossings a b c h));
      not_yet = λ e. not_after_yes a b (o.0 (crosses-crossings b c a e));
      later = λ e l. elim (crosses_not b c a e l) [
        | inl w ↦ moment_le_lt (next_crossing a) (next_crossing c) (next_crossing b)
            (next_crossing-IsMoment a ia) (next_crossing-IsMoment c ic)
            (next_crossing-IsMoment b ib) (not_after_yes a c (o.1 w.0)) (not_after_no b c w.1)
        | inr w ↦ not_after_no b a w.1
      ];
    }

follows_third : (a b c : Axis) → HasRoom a → HasRoom b → HasRoom c → crosses a b c ≡ true
    → StandsAt (crosses c a b) c (next_crossing a)
follows_third a b c ia ib ic h =
    let o = crosses_others a b c h in
    record {
      crossings = crosses-crossings c a b;
      now = λ e. not_after_yes c a ((crosses_others c a b e).0 (crosses-crossings a b c h));
      not_yet = λ e. not_after_yes a c (o.1 (crosses-crossings c a b e));
      later = λ e l. elim (crosses_not c a b e l) [
        | inl w ↦ not_after_no c a w.1
        | inr w ↦ moment_le_lt (next_crossing a) (next_crossing b) (next_crossing c)
            (next_crossing-IsMoment a ia) (next_crossing-IsMoment b ib)
            (next_crossing-IsMoment c ic) (not_after_yes a b (o.0 w.0)) (not_after_no c b w.1)
      ];
    }

-- the axes lie ready at the moment s
pub record IsReady (x y z : Axis) (s : Moment) : Type 0 where
  pub is_x : HasRoom x
  pub is_y : HasRoom y
  pub is_z : HasRoom z
  pub timed_x : IsDueAfter x s
  pub timed_y : IsDueAfter y s
  pub timed_z : IsDueAfter z s
  pub moment : IsMoment s
  pub ends : NotAfter s end_place

-- n is the moment of the next crossings
pub record IsNext (x y z : Axis) (s n : Moment) : Type 0 where
  pub moment : IsMoment n
  pub after : Before s n
  pub ends : NotAfter n end_place
  pub at_x : StandsAt (crosses x y z) x n
  pub at_y : StandsAt (crosses y z x) y n
  pub at_z : StandsAt (crosses z x y) z n

next_crossing_ends : (a : Axis) (s : Moment) → IsDueAfter a s → 0 < a.crossings
    → NotAfter (next_crossing a) end_place
next_crossing_ends a s t l = omega (arith, t.ends 0 l)

pub next_moment : (x y z : Axis) (s : Moment) → IsReady x y z s
    → eqb (crossings_left x y z) 0 ≡ false → (n : Moment) × IsNext x y z s n
next_moment x y z s r e = elim (some_crosses x y z r.is_x r.is_y r.is_z e) [
  | inl o ↦ elim o [
    | inl h ↦ (
      next_crossing x,
      record {
        moment = next_crossing-IsMoment x r.is_x;
        after = r.timed_x.after (crosses-crossings x y z h);
        ends = next_crossing_ends x s r.timed_x (crosses-crossings x y z h);
        at_x = follows_self x y z h;
        at_y = follows_second x y z r.is_x r.is_y r.is_z h;
        at_z = follows_third x y z r.is_x r.is_y r.is_z h;
      },
    )
    | inr h ↦ (
      next_crossing y,
      record {
        moment = next_crossing-IsMoment y r.is_y;
        after = r.timed_y.after (crosses-crossings y z x h);
        ends = next_crossing_ends y s r.timed_y (crosses-crossings y z x h);
        at_y = follows_self y z x h;
        at_z = follows_second y z x r.is_y r.is_z r.is_x h;
        at_x = follows_third y z x r.is_y r.is_z r.is_x h;
      },
    )
  ]
  | inr h ↦ (
    next_crossing z,
    record {
      moment = next_crossing-IsMoment z r.is_z;
      after = r.timed_z.after (crosses-crossings z x y h);
      ends = next_crossing_ends z s r.timed_z (crosses-crossings z x y h);
      at_z = follows_self z x y h;
      at_x = follows_second z x y r.is_z r.is_x r.is_y h;
      at_y = follows_third z x y r.is_z r.is_x r.is_y h;
    },
  )
]

pub next_ready : (x y z : Axis) (s n : Moment) → IsReady x y z s → IsNext x y z s n
    → IsReady (axis_after (crosses x y z) x) (axis_after (crosses y z x) y)
    (axis_after (crosses z x y) z) n
next_ready x y z s n r w = record {
  is_x = axis_after-HasRoom (crosses x y z) x (crosses-crossings x y z) r.is_x;
  is_y = axis_after-HasRoom (crosses y z x) y (crosses-crossings y z x) r.is_y;
  is_z = axis_after-HasRoom (crosses z x y) z (crosses-crossings z x y) r.is_z;
  timed_x =
      IsDueAfter-axis_after (crosses x y z) x n r.is_x w.moment w.at_x.crossings w.at_x.not_yet
      w.at_x.later r.timed_x.ends;
  timed_y =
      IsDueAfter-axis_after (crosses y z x) y n r.is_y w.moment w.at_y.crossings w.at_y.not_yet
      w.at_y.later r.timed_y.ends;
  timed_z =
      IsDueAfter-axis_after (crosses z x y) z n r.is_z w.moment w.at_z.crossings w.at_z.not_yet
      w.at_z.later r.timed_z.ends;
  moment = w.moment;
  ends = w.ends;
}

abbrev pub voxel_after : Axis → Axis → Axis → ℕ → ℕ → ℕ → Voxel
voxel_after x y z i j k = record { x = key_after x i; y = key_after y j; z = key_after z k }

-- from the moment s on, the place m lies in the voxel k
pub record VisitAt (ax ay az : Axis) (s : Moment) (k : Voxel) (m : Moment) : Type 0 where
  pub positive : 0 < m.denominator
  pub prompt : m.late ≡ 0
  pub within : m.numerator ≤ m.denominator
  pub from : NotAfter s m
  pub i : ℕ
  pub j : ℕ
  pub h : ℕ
  pub at_x : IsAt ax i m
  pub at_y : IsAt ay j m
  pub at_z : IsAt az h m
  pub key_is : k ≡ voxel_after ax ay az i j h

-- just after the end
abbrev pub past_end : Moment
past_end = record { numerator = 1; denominator = 1; late = 1 }

abbrev pub make_key : ℕ → ℕ → ℕ → Voxel
make_key a b c = record { x = a; y = b; z = c }

pub same_key : (a b c a' b' c' : ℕ) → a ≡ a' → b ≡ b' → c ≡ c' → make_key a b c ≡ make_key a' b' c'
same_key a b c a' b' c' e f g = rw (e, f, g) refl

pub key_after-zero : (a : Axis) → key_after a 0 ≡ a.key
key_after-zero a = grind arith

key_first : (x y z : Axis) → voxel_after x y z 0 0 0 ≡ axis_voxel x y z
key_first x y z = same_key _ _ _ _ _ _ (key_after-zero x) (key_after-zero y) (key_after-zero z)

-- the head of the keys is visited, between s and any moment n before which no axis crosses
head_visit : (x y z : Axis) (s n : Moment) → IsReady x y z s → IsMoment n → Before s n
    → NotAfter n past_end →
    (0 < x.crossings → NotAfter n (next_crossing x))
    → (0 < y.crossings → NotAfter n (next_crossing y))
    → (0 < z.crossings → NotAfter n (next_crossing z)) →
    VisitAt x y z s (axis_voxel x y z) (between s n)
head_visit x y z s n r w b e lx ly lz =
    let m = between s n in
    let im : IsMoment m = (omega (arith, r.moment), omega arith) in
    let to : Before m n = between_to s n r.moment w b in
    record {
      positive = omega (arith, r.moment);
      prompt = refl;
      within = omega (arith, r.ends);
      from = between_from s n r.moment w b;
      i = 0;
      j = 0;
      h = 0;
      at_x =
          at_start x m
          (λ l. moment_lt_le m n (next_crossing x) im w (next_crossing-IsMoment x r.is_x) to
          (lx l));
      at_y =
          at_start y m
          (λ l. moment_lt_le m n (next_crossing y) im w (next_crossing-IsMoment y r.is_y) to
          (ly l));
      at_z =
          at_start z m
          (λ l. moment_lt_le m n (next_crossing z) im w (next_crossing-IsMoment z r.is_z) to
          (lz l));
      key_is = sym (key_first x y z);
    }

-- a visit after the step is one before it
visit_back : (x y z : Axis) (s n : Moment) (k : Voxel) (m : Moment) → IsReady x y z s
    → IsNext x y z s n →
    VisitAt (axis_after (crosses x y z) x) (axis_after (crosses y z x) y)
    (axis_after (crosses z x y) z) n k m
    → VisitAt x y z s k m
visit_back x y z s n k m r w v =
    let im : IsMoment m = (v.positive, omega (arith, v.prompt)) in
    let pass : (a : Axis) → HasRoom a → NotAfter (next_crossing a) n
    → NotAfter (next_crossing a) m =
    λ a ia h. moment_trans (next_crossing a) n m (next_crossing-IsMoment a ia) w.moment im h
    v.from in
    record {
      positive = v.positive;
      prompt = v.prompt;
      within = v.within;
      from = moment_trans s n m r.moment w.moment im (omega (arith, w.after)) v.from;
      i = cond (crosses x y z) (v.i + 1) v.i;
      j = cond (crosses y z x) (v.j + 1) v.j;
      h = cond (crosses z x y) (v.h + 1) v.h;
      at_x =
          at_axis_after_back (crosses x y z) x v.i m w.at_x.crossings
          (λ e. pass x r.is_x (w.at_x.now e)) v.at_x;
      at_y =
          at_axis_after_back (crosses y z x) y v.j m w.at_y.crossings
          (λ e. pass y r.is_y (w.at_y.now e)) v.at_y;
      at_z =
          at_axis_after_back (crosses z x y) z v.h m w.at_z.crossings
          (λ e. pass z r.is_z (w.at_z.now e)) v.at_z;
      key_is =
          v.key_is
          ∙ same_key _ _ _ _ _ _ (key_after-axis_after (crosses x y z) x v.i)
          (key_after-axis_after (crosses y z x) y v.j)
          (key_after-axis_after (crosses z x y) z v.h);
    }

abbrev pub next_keys : ℕ → Axis → Axis → Axis → List Voxel
next_keys f x y z =
    axis_keys f (axis_after (crosses x y z) x) (axis_after (crosses y z x) y)
    (axis_after (crosses z x y) z)

not_yet_left : (t : Bool) (a : Axis) (n : Moment) → StandsAt t a n → 0 < a.crossings
    → NotAfter n (next_crossing a)
not_yet_left false a n w l = omega (arith, w.later refl l)
not_yet_left true a n w l = w.not_yet refl

head_before : (x y z : Axis) (s n : Moment) → IsReady x y z s → IsNext x y z s n
    → VisitAt x y z s (axis_voxel x y z) (between s n)
head_before x y z s n r w =
    head_visit x y z s n r w.moment w.after (omega (arith, w.ends, w.moment))
    (not_yet_left (crosses x y z) x n w.at_x) (not_yet_left (crosses y z x) y n w.at_y)
    (not_yet_left (crosses z x y) z n w.at_z)

head_last : (x y z : Axis) (s : Moment) → IsReady x y z s → crossings_left x y z ≡ 0
    → VisitAt x y z s (axis_voxel x y z) (between s past_end)
head_last x y z s r e =
    head_visit x y z s past_end r (omega arith, omega arith) (omega (arith, r.ends)) (omega arith)
    (λ l. absurd (omega arith)) (λ l. absurd (omega arith)) (λ l. absurd (omega arith))

pub record Visit (ax ay az : Axis) (s : Moment) (k : Voxel) : Type 0 where
  pub place : Moment
  pub visit : VisitAt ax ay az s k place

head : (x y z : Axis) (s : Moment) → IsReady x y z s → Visit x y z s (axis_voxel x y z)
head x y z s r =
    elim (eqb (crossings_left x y z) 0) as
    (λ b. eqb (crossings_left x y z) 0 ≡ b → Visit x y z s (axis_voxel x y z)) [
      | true ↦ λ e. record {
        place = between s past_end;
        visit = head_last x y z s r (zero_from (crossings_left x y z) e);
      }
      | false ↦ λ e. let n = next_moment x y z s r e in record {
        place = between s n.0;
        visit = head_before x y z s n.0 r n.1;
      }
    ] refl

equal_visit : (x y z : Axis) (s : Moment) (k l : Voxel) → k ≡ l → Visit x y z s k → Visit x y z s l
equal_visit x y z s k l e v = subst (λ (w : Voxel). Visit x y z s w) e v

lists_equal : (ks ls : List Voxel) (k : Voxel) → ks ≡ ls → Lists ks k → Lists ls k
lists_equal ks ls k e h = subst (λ (w : List Voxel). Lists w k) e h

-- each key listed is visited
pub keys_visited : (f : ℕ) (x y z : Axis) (s : Moment) → IsReady x y z s → (k : Voxel)
    → Lists (axis_keys f x y z) k → Visit x y z s k
unfolding axis_keys
keys_visited zero x y z s r k h = elim h [
  | inl e ↦ equal_visit x y z s (axis_voxel x y z) k e (head x y z s r)
  | inr b ↦ absurd b
]
keys_visited (suc f) x y z s r k h =
    elim (eqb (crossings_left x y z) 0) as
    (λ b. eqb (crossings_left x y z) 0 ≡ b → Visit x y z s k) [
      | true ↦ λ e.
          elim (lists_equal (axis_keys (suc f) x y z) (axis_voxel x y z ∷ []) k
          (keys_end (suc f) x y z e) h) [
            | inl q ↦ equal_visit x y z s (axis_voxel x y z) k q (head x y z s r)
            | inr b ↦ absurd b
          ]
      | false ↦ λ e.
          elim (lists_equal (axis_keys (suc f) x y z) (axis_voxel x y z ∷ next_keys f x y z) k
          (keys_suc f x y z e) h) [
            | inl q ↦ equal_visit x y z s (axis_voxel x y z) k q (head x y z s r)
            | inr t ↦
                let n = next_moment x y z s r e in
                let v = keys_visited f _ _ _ n.0 (next_ready x y z s n.0 r n.1) k t in
                record {
                  place = v.place;
                  visit = visit_back x y z s n.0 k v.place r n.1 v.visit;
                }
          ]
    ] refl

-- an axis that is some crossings on has passed its next one
pub next_crossing_passed : (a : Axis) (j : ℕ) (m : Moment) → HasRoom a → IsMoment m → IsAt a j m
    → 0 < j
    → NotAfter (next_crossing a) m
next_crossing_passed a j m ia im i h =
    let c : NotAfter (next_crossing a) (crossing a (j - 1)) = omega arith in
    moment_trans (next_crossing a) (crossing a (j - 1)) m (next_crossing-IsMoment a ia)
    (ia.spans, lateness-le a) im c (i.past (j - 1) (omega arith))

axis_on : (t : Bool) (a : Axis) (n m : Moment) (j : ℕ) → HasRoom a → IsMoment n → IsMoment m
    → StandsAt t a n → NotAfter n m → IsAt a j m
    → (i : ℕ) × (key_after (axis_after t a) i ≡ key_after a j) × IsAt (axis_after t a) i m
axis_on t a n m j ia it im w after i =
    let step =
    at_axis_after t a j m
    (λ e. at_moved a j m (w.crossings e)
    (moment_trans (next_crossing a) n m (next_crossing-IsMoment a ia) it im (w.now e)
    after)
    i)
    i in
    (step.0, key_after-axis_after t a step.0 ∙ ap (key_after a) (sym step.1), step.2)

-- a visit at the next moment or later is one after the step
visit_on : (x y z : Axis) (s n : Moment) (k : Voxel) (m : Moment) → IsReady x y z s
    → IsNext x y z s n → VisitAt x y z s k m → NotAfter n m →
    VisitAt (axis_after (crosses x y z) x) (axis_after (crosses y z x) y)
    (axis_after (crosses z x y) z) n k m
visit_on x y z s n k m r w v after =
    let im : IsMoment m = (v.positive, omega (arith, v.prompt)) in
    let ox = axis_on (crosses x y z) x n m v.i r.is_x w.moment im w.at_x after v.at_x in
    let oy = axis_on (crosses y z x) y n m v.j r.is_y w.moment im w.at_y after v.at_y in
    let oz = axis_on (crosses z x y) z n m v.h r.is_z w.moment im w.at_z after v.at_z in
    record {
      positive = v.positive;
      prompt = v.prompt;
      within = v.within;
      from = after;
      i = ox.0;
      j = oy.0;
      h = oz.0;
      at_x = ox.2;
      at_y = oy.2;
      at_z = oz.2;
      key_is = v.key_is ∙ same_key _ _ _ _ _ _ (sym ox.1) (sym oy.1) (sym oz.1);
    }

-- before the next moment no axis has moved
unmoved : (t : Bool) (a : Axis) (n m : Moment) (j : ℕ) → HasRoom a → IsMoment n → IsMoment m
    → StandsAt t a n → Before m n → IsAt a j m → key_after a j ≡ a.key
unmoved t a n m j ia it im w b i =
    elim (cases_lt 0 j) [
      | inl h ↦
          let p = next_crossing_passed a j m ia im i h in
          let q = not_yet_left t a n w (omega (arith, i.within)) in
          let c = moment_trans n (next_crossing a) m it (next_crossing-IsMoment a ia) im q p in
          absurd (omega arith)
      | inr h ↦ let z : j ≡ 0 = omega arith in ap (key_after a) z ∙ key_after-zero a
    ]

at_rest : (a : Axis) (j : ℕ) (m : Moment) → a.crossings ≡ 0 → IsAt a j m → key_after a j ≡ a.key
at_rest a j m e i = let z : j ≡ 0 = omega (arith, i.within) in ap (key_after a) z ∙ key_after-zero a

rest_listed : (x y z : Axis) (s : Moment) (k : Voxel) (m : Moment) → crossings_left x y z ≡ 0
    → VisitAt x y z s k m → axis_voxel x y z ≡ k
rest_listed x y z s k m e v =
    sym (v.key_is ∙ same_key _ _ _ _ _ _ (at_rest x v.i m (omega arith) v.at_x)
    (at_rest y v.j m (omega arith) v.at_y) (at_rest z v.h m (omega arith) v.at_z))

-- each visit is listed
pub visits_listed : (f : ℕ) (x y z : Axis) (s : Moment) → IsReady x y z s → crossings_left x y z ≤ f
    → (k : Voxel) (m : Moment) → VisitAt x y z s k m → Lists (axis_keys f x y z) k
unfolding axis_keys
visits_listed zero x y z s r h k m v = inl (rest_listed x y z s k m (omega arith) v)
visits_listed (suc f) x y z s r h k m v =
    elim (eqb (crossings_left x y z) 0) as
    (λ b. eqb (crossings_left x y z) 0 ≡ b → Lists (axis_keys (suc f) x y z) k) [
      | true ↦ λ e. lists_equal (axis_voxel x y z ∷ []) (axis_keys (suc f) x y z) k
          (sym (keys_end (suc f) x y z e))
          (inl (rest_listed x y z s k m (zero_from (crossings_left x y z) e) v))
      | false ↦ λ e.
          let n = next_moment x y z s r e in
          let im : IsMoment m = (v.positive, omega (arith, v.prompt)) in
          let fall = crossings_left-fall x y z r.is_x r.is_y r.is_z e in
          lists_equal (axis_voxel x y z ∷ next_keys f x y z) (axis_keys (suc f) x y z) k
          (sym (keys_suc f x y z e)) (
          elim (moment_total n.0 m) [
            | inl after ↦ inr (visits_listed f _ _ _ n.0 (next_ready x y z s n.0 r n.1)
                (omega arith) k m (visit_on x y z s n.0 k m r n.1 v after))
            | inr b ↦ inl (sym (v.key_is ∙ same_key _ _ _ _ _ _
                (unmoved (crosses x y z) x n.0 m v.i r.is_x n.1.moment im n.1.at_x b v.at_x)
                (unmoved (crosses y z x) y n.0 m v.j r.is_y n.1.moment im n.1.at_y b v.at_y)
                (unmoved (crosses z x y) z n.0 m v.h r.is_z n.1.moment im n.1.at_z b
                v.at_z)))
          ])
    ] refl

-- two voxels, the first visited at a place before some place of the second
pub record InOrder (P : Voxel → Moment → Type 0) (k l : Voxel) : Type 0 where
  pub first : Moment
  pub second : Moment
  pub is_first : P k first
  pub is_second : P l second
  pub less : first.numerator * second.denominator < second.numerator * first.denominator
  pub differ : k ≢ l

abbrev pub InTurnBy : (Voxel → Moment → Type 0) → List Voxel → Type 0
InTurnBy P [] = Unit {0}
InTurnBy P (k ∷ ks) = ((l : Voxel) → Lists ks l → InOrder P k l) × InTurnBy P ks

key_after_moves_by : (b : Bool) (a : Axis) (j : ℕ) → a.rises ≡ b → HasRoom a → 0 < j
    → j ≤ a.crossings → key_after a j ≢ a.key
key_after_moves_by true a j e ia h l = rw e (omega arith)
key_after_moves_by false a j e ia h l = rw e (omega (arith, ia.falling e))

key_after_moves : (a : Axis) (j : ℕ) → HasRoom a → 0 < j → j ≤ a.crossings → key_after a j ≢ a.key
key_after_moves a j ia h l = key_after_moves_by a.rises a j refl ia h l

turn_equal : (P : Voxel → Moment → Type 0) (ks ls : List Voxel) → ks ≡ ls → InTurnBy P ks
    → InTurnBy P ls
turn_equal P ks ls e h = subst (λ (w : List Voxel). InTurnBy P w) e h

-- a visit at the next moment or later is of another voxel
visit_differs : (x y z : Axis) (s n : Moment) (l : Voxel) (m : Moment) → IsReady x y z s
    → IsNext x y z s n → eqb (crossings_left x y z) 0 ≡ false → VisitAt x y z s l m → NotAfter n m
    → axis_voxel x y z ≢ l
visit_differs x y z s n l m r w e v after = λ q.
    let im : IsMoment m = (v.positive, omega (arith, v.prompt)) in
    let same : axis_voxel x y z ≡ voxel_after x y z v.i v.j v.h = q ∙ v.key_is in
    let moved : (t : Bool) (a : Axis) (j : ℕ) → HasRoom a → t ≡ true → StandsAt t a n → IsAt a j m
    → key_after a j ≢ a.key =
    λ t a j ia h f i.
    key_after_moves a j ia
    (at_moved a j m (f.crossings h)
    (moment_trans (next_crossing a) n m (next_crossing-IsMoment a ia) w.moment im (f.now h)
    after)
    i)
    i.within in
    elim (some_crosses x y z r.is_x r.is_y r.is_z e) [
      | inl o ↦ elim o [
        | inl h ↦ moved (crosses x y z) x v.i r.is_x h w.at_x v.at_x
            (sym (ap (λ (k : Voxel). k.x) same))
        | inr h ↦ moved (crosses y z x) y v.j r.is_y h w.at_y v.at_y
            (sym (ap (λ (k : Voxel). k.y) same))
      ]
      | inr h ↦ moved (crosses z x y) z v.h r.is_z h w.at_z v.at_z
          (sym (ap (λ (k : Voxel). k.z) same))
    ]

-- the keys stand in the order of their places, whatever holds of each visit
pub keys_in_turn : (f : ℕ) (x y z : Axis) (s : Moment) (P : Voxel → Moment → Type 0)
    → IsReady x y z s → ((k : Voxel) (m : Moment) → VisitAt x y z s k m → P k m)
    → InTurnBy P (axis_keys f x y z)
unfolding axis_keys
keys_in_turn zero x y z s P r p = (λ l b. absurd b, tt)
keys_in_turn (suc f) x y z s P r p =
    elim (eqb (crossings_left x y z) 0) as
    (λ b. eqb (crossings_left x y z) 0 ≡ b → InTurnBy P (axis_keys (suc f) x y z)) [
      | true ↦ λ e. turn_equal P (axis_voxel x y z ∷ []) (axis_keys (suc f) x y z)
          (sym (keys_end (suc f) x y z e)) (λ l b. absurd b, tt)
      | false ↦ λ e.
          let n = next_moment x y z s r e in
          let r' = next_ready x y z s n.0 r n.1 in
          turn_equal P (axis_voxel x y z ∷ next_keys f x y z) (axis_keys (suc f) x y z)
          (sym (keys_suc f x y z e)) (
            λ l h.
                let v = keys_visited f _ _ _ n.0 r' l h in
                let back = visit_back x y z s n.0 l v.place r n.1 v.visit in
                let before : Before (between s n.0) n.0 =
                between_to s n.0 r.moment n.1.moment n.1.after in
                let less : Before (between s n.0) v.place =
                moment_lt_le (between s n.0) n.0 v.place
                (omega (arith, r.moment), omega arith) n.1.moment
                (v.visit.positive, omega (arith, v.visit.prompt)) before
                v.visit.from in
                record {
                  first = between s n.0;
                  second = v.place;
                  is_first =
                      p (axis_voxel x y z) (between s n.0) (head_before x y z s n.0 r n.1);
                  is_second = p l v.place back;
                  less = omega (arith, less, v.visit.prompt);
                  differ = visit_differs x y z s n.0 l v.place r n.1 e back v.visit.from;
                },
            keys_in_turn f _ _ _ n.0 P r' (λ k m v. p k m (visit_back x y z s n.0 k m r n.1 v)),
          )
    ] refl
