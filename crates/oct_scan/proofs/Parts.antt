-- One voxel more of a walk of which only what lies in a box is kept.
use Rattle.std.proofs.Common.{◌≡◌, ◌≢◌, ℕ, ◌⊎◌, ◌↔◌, inl, inr, true, Option, Some, None}
use Rattle.std.proofs.Common.{List, [], ◌∷◌, map, refl, sym, subst, ◌∙◌, ap, arith}
use Rattle.std.specs.Prelude.{min, max, Result, Ok, Err, OnOk}
use Rattle.std.specs.List.{Contains}
use Rattle.std.proofs.lemmas.Bool.{cases_Bool}
use Rattle.oct_key.specs.Voxel.{Voxel, IsInMap}
use Rattle.oct_key.specs.Boxes.{Window, IsBetween, IsInBox, is_in_box}
use Rattle.oct_key.specs.Morton.{morton_of}
use Rattle.oct_key.proofs.Interleavings.{morton_injective}
use Rattle.oct_brick.specs.declared.brick.Brick.{Brick}
use Rattle.oct_brick.specs.Bricks.{scanned_codes}
use Rattle.oct_brick.specs.Masks.{HasCode}
use Rattle.oct_brick.proofs.Lists.{contains_from_map, contains_none}
use Rattle.oct_scan.specs.Entry.{HasComeIn, IsWay, StaysOut}
use Rattle.oct_scan.specs.Gathered.{IsHeld, IsRestAdded, IsSpanned, IsWayAdded, kept}
use Rattle.oct_scan.proofs.Kept.{kept_all, kept_first, kept_without}
use Rattle.oct_scan.proofs.Holding.{IsOnWay, codes_in, way_none, way_passed, way_marked}

-- one voxel more of the box
pub way_added : (end : ℕ) (old : ℕ → Type 0) (walk : List Voxel) (bs bs' : List Brick)
    (b b' : Brick) (box : Window) (ks ks' : List Voxel) (k : Voxel) (code : ℕ) → ks ≡ k ∷ ks'
    → is_in_box box.lo box.hi k ≡ true → code ≡ morton_of k → code ≢ end
    → ((c : ℕ) → IsHeld bs' b' c ↔ (IsHeld bs b c ⊎ (code ≡ c)))
    → IsOnWay end old walk bs b (kept (Some box) ks)
    → IsOnWay end old walk bs' b' (kept (Some box) ks')
way_added end old walk bs bs' b b' box ks ks' k code first inside coded other marked h =
    way_marked end old walk bs bs' b b' (kept (Some box) ks) (kept (Some box) ks') k code
    (ap (λ l. kept (Some box) l) first ∙ kept_first box k ks' inside) coded other marked h

-- the last voxel of a walk adds none
pub way_last : (end : Voxel) (old : ℕ → Type 0) (walk : List Voxel) (bs : List Brick) (b : Brick)
    (box : Window) (ks : List Voxel) → ks ≡ end ∷ []
    → IsOnWay (morton_of end) old walk bs b (kept (Some box) ks)
    → IsOnWay (morton_of end) old walk bs b []
way_last end old walk bs b box ks one h = elim (cases_Bool (is_in_box box.lo box.hi end)) [
  | inl inside ↦
      way_passed (morton_of end) old walk bs b (kept (Some box) ks) [] end (morton_of end)
      (ap (λ l. kept (Some box) l) one ∙ kept_first box end [] inside) refl refl h
  | inr outside ↦
      subst (λ l. IsOnWay (morton_of end) old walk bs b l)
      (ap (λ l. kept (Some box) l) one ∙ kept_without box end [] outside) h
]

-- where nothing of the rest lies in the box, nothing is left
pub way_out : (end : ℕ) (old : ℕ → Type 0) (walk : List Voxel) (bs : List Brick) (b : Brick)
    (box : Window) (ks : List Voxel) → kept (Some box) ks ≡ []
    → IsOnWay end old walk bs b (kept (Some box) ks) → IsOnWay end old walk bs b []
way_out end old walk bs b box ks none h = subst (λ l. IsOnWay end old walk bs b l) none h

-- what lies in the box that two voxels of a box span lies in that box
pub spanned_inside : (box : Window) (a b k : Voxel) → IsInBox box.lo box.hi a
    → IsInBox box.lo box.hi b → IsSpanned a b k → IsInBox box.lo box.hi k
spanned_inside box a b k first last h = record {
  x = on_axis box.lo.x box.hi.x a.x b.x k.x first.x last.x h.x;
  y = on_axis box.lo.y box.hi.y a.y b.y k.y first.y last.y h.y;
  z = on_axis box.lo.z box.hi.z a.z b.z k.z first.z last.z h.z;
}
  where
    on_axis : (low high i j n : ℕ) → IsBetween low high i → IsBetween low high j
        → IsBetween (min i j) (max i j) n → IsBetween low high n
    on_axis low high i j n (a, b) (c, d) (e, f) = (omega (arith, a, c, e), omega (arith, b, d, f))

-- the codes of voxels, but not that of the end, have come to those of bricks
abbrev pub AreAdded : List Brick → List Brick → List Voxel → ℕ → Type 0
AreAdded old new ks end = (c : ℕ)
    → Contains (scanned_codes new) c
    ↔ (Contains (scanned_codes old) c ⊎ (Contains (map morton_of ks) c × (end ≢ c)))

-- what is added in one box is what is added in another, where both keep the same
added_so : (window window' : Option Window) (end end' : ℕ) (walk walk' : List Voxel)
    (old new : List Brick) → kept window' walk' ≡ kept window walk → end ≡ end'
    → IsWayAdded window end walk old new → IsWayAdded window' end' walk' old new
added_so window window' end end' walk walk' old new same is h = record {
  scanned = subst (λ l. AreAdded old new l end') (sym same)
      (subst (λ e. AreAdded old new (kept window walk) e) is h.scanned);
  hits = h.hits;
  bricks = h.bricks;
}

pub added_as : {X E : Type 0} (r : Result X E) (window window' : Option Window) (end end' : ℕ)
    (walk walk' : List Voxel) (old new : List Brick) → kept window' walk' ≡ kept window walk
    → end ≡ end' → OnOk r (IsWayAdded window end walk old new)
    → OnOk r (IsWayAdded window' end' walk' old new)
added_as (Ok x) window window' end end' walk walk' old new same is h =
    added_so window window' end end' walk walk' old new same is h
added_as (Err e) window window' end end' walk walk' old new same is h = h

pub none_added : (old : List Brick) (ks : List Voxel) (end : ℕ) → ks ≡ [] → AreAdded old old ks end
none_added old ks end none c = (
  λ h. inl h,
  λ h. elim h [
    | inl k ↦ k
    | inr k ↦
        absurd (contains_none c (subst (λ (l : List Voxel). Contains (map morton_of l) c) none
        k.0))
  ],
)

-- the voxels of the end alone add nothing
pub outside_added : (box : Window) (old : List Brick) (end : Voxel) (ks : List Voxel)
    → StaysOut box end ks → AreAdded old old (kept (Some box) ks) (morton_of end)
outside_added box old end ks out c = (
  λ h. inl h,
  λ h. elim h [
    | inl k ↦ k
    | inr k ↦ (let (l, there, is) = contains_from_map morton_of (kept (Some box) ks) c k.0 in
        absurd (k.1 (ap morton_of (sym (out l there)) ∙ is)))
  ],
)

-- what follows from an answer's clause holds of the answer
pub ok_so : {X E Q R : Type 0} (r : Result X E) → (Q → R) → OnOk r Q → OnOk r R
ok_so (Ok x) f h = f h
ok_so (Err e) f h = h

-- what is added after a brick with nothing in it is added in all
pub begun_so : (window : Option Window) (e end : ℕ) (walk walk' : List Voxel) (b : Brick)
    (old new : List Brick) → e ≡ end → b.scanned ≡ 0 → walk' ≡ walk
    → IsRestAdded window e walk' b old new → IsWayAdded window end walk old new
begun_so window e end walk walk' b old new is none same h =
    let all : AreAdded old new (kept window walk') e = λ c. (
      λ m. (way_none e old (kept window walk') b none c).0 ((h.scanned c).0 m),
      λ m. (h.scanned c).1 ((way_none e old (kept window walk') b none c).1 m),
    ) in
    record {
      scanned = subst (λ e. AreAdded old new (kept window walk) e) is
          (subst (λ l. AreAdded old new (kept window l) e) same all);
      hits = h.hits;
      bricks = h.bricks;
    }

-- what is added of a walk that lies in a box with the rest of it is added in the box
pub rest_so : (box : Window) (first end : Voxel) (walk : List Voxel) (b : Brick)
    (old new : List Brick) → IsInBox box.lo box.hi first → IsInBox box.lo box.hi end
    → IsWay first end walk → IsRestAdded None (morton_of end) walk b old new
    → IsRestAdded (Some box) (morton_of end) walk b old new
rest_so box first end walk b old new in_first in_end way h =
    let same : kept (Some box) walk ≡ walk = kept_all box walk
    (λ k there. spanned_inside box first end k in_first in_end (way.between k there)) in
    record {
      scanned = subst (λ l. (c : ℕ) → Contains (scanned_codes new) c
          ↔ (IsHeld old b c ⊎ (Contains (map morton_of l) c × (morton_of end ≢ c)))) (sym same)
          h.scanned;
      hits = h.hits;
      bricks = h.bricks;
    }

-- what is added after the first voxel in a box, and that one, is added in all
pub entered_so : (box : Window) (end : Voxel) (walk rest : List Voxel) (code : ℕ) (around b : Brick)
    (old new : List Brick) → IsInMap end → HasComeIn box end walk code rest → around.scanned ≡ 0
    → ((c : ℕ) → HasCode b.code b.scanned c
    ↔ (HasCode around.code around.scanned c ⊎ (code ≡ c)))
    → IsRestAdded (Some box) (morton_of end) rest b old new
    → IsWayAdded (Some box) (morton_of end) walk old new
entered_so box end walk rest code around b old new on_map come none marked h =
    let e : ℕ = morton_of end in
    let held : (c : ℕ) → IsHeld old b c ↔ (IsHeld old around c ⊎ (code ≡ c)) = λ c. (
      λ m. elim m [
        | inl k ↦ inl (inl k)
        | inr k ↦ elim ((marked c).0 k) [ inl n ↦ inl (inr n) | inr n ↦ inr n ]
      ],
      λ m. elim m [
        | inl k ↦ elim k [ inl n ↦ inl n | inr n ↦ inr ((marked c).1 (inl n)) ]
        | inr k ↦ inr ((marked c).1 (inr k))
      ],
    ) in
    let other : code ≢ e = λ same. come.other
    (morton_injective come.first end come.on_map on_map (sym come.coded ∙ same)) in
    let way : IsOnWay e (codes_in old) (kept (Some box) walk) old b (kept (Some box) rest) =
    way_marked e (codes_in old) (kept (Some box) walk) old old around b (kept (Some box) walk)
    (kept (Some box) rest) come.first code come.same come.coded other held
    (way_none e old (kept (Some box) walk) around none) in
    record {
      scanned = λ c. (
        λ m. (way c).0 ((h.scanned c).0 m),
        λ m. (h.scanned c).1 ((way c).1 m),
      );
      hits = h.hits;
      bricks = h.bricks;
    }
