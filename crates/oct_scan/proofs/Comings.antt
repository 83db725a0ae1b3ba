-- A walk comes into a box, and leaves it for good.
use Rattle.std.proofs.Common.{◌≡◌, ◌≢◌, ℕ, Bool, true, false, inl, inr, List, [], ◌∷◌, Some}
use Rattle.std.proofs.Common.{sym, subst, ◌∙◌, ap, arith}
use Rattle.std.specs.List.{Contains}
use Rattle.std.proofs.lemmas.List.Elements.{All-contains}
use Rattle.oct_key.specs.Voxel.{Voxel, IsInMap}
use Rattle.oct_key.specs.Boxes.{Window, IsInBox, is_in_box}
use Rattle.oct_key.specs.Morton.{morton_of}
use Rattle.oct_key.proofs.Boxes.{in_box_exactly}
use Rattle.oct_brick.proofs.Lists.{contains_cases, contains_here, contains_later, contains_none}
use Rattle.oct_brick.proofs.Lists.{pairs_head, pairs_tail}
use Rattle.oct_scan.specs.Entry.{HasComeIn, IsWay, StaysOut}
use Rattle.oct_scan.specs.Gathered.{EndsAt, GoesTo, IsSpanned, kept}
use Rattle.oct_scan.proofs.Ends.{end_later}
use Rattle.oct_scan.proofs.Entries.{comes_before}
use Rattle.oct_scan.proofs.Kept.{kept_first, kept_from, kept_none, kept_without}
use Rattle.oct_scan.proofs.Parts.{spanned_inside}

-- what is left of a walk goes on to its end
pub goes_on : (end k : Voxel) (ks ks' : List Voxel) → ks ≡ k ∷ ks' → GoesTo end ks → GoesTo end ks'
goes_on end k ks ks' first h =
    pairs_tail (λ k l. IsSpanned k end l) k ks' (subst (GoesTo end) first h)

-- and so each voxel of it lies in the box that the one before and the end span
comes_after : (end k l : Voxel) (ks ks' : List Voxel) → ks ≡ k ∷ ks' → GoesTo end ks
    → Contains ks' l → IsSpanned k end l
comes_after end k l ks ks' first h there =
    All-contains (λ l. IsSpanned k end l) ks' l
    (pairs_head (λ k l. IsSpanned k end l) k ks' (subst (GoesTo end) first h)) there

-- the first voxel is outside
pub not_yet : (box : Window) (walk ks ks' : List Voxel) (k : Voxel) → ks ≡ k ∷ ks'
    → is_in_box box.lo box.hi k ≡ false → kept (Some box) ks ≡ kept (Some box) walk
    → kept (Some box) ks' ≡ kept (Some box) walk
not_yet box walk ks ks' k first outside same = sym (kept_without box k ks' outside)
    ∙ ap (λ l. kept (Some box) l) (sym first) ∙ same

-- it is inside
pub came_in : (box : Window) (end : Voxel) (walk ks ks' : List Voxel) (k : Voxel) (code : ℕ)
    → ks ≡ k ∷ ks' → ks' ≢ [] → IsInMap k → code ≡ morton_of k → is_in_box box.lo box.hi k ≡ true
    → EndsAt end ks → GoesTo end ks → kept (Some box) ks ≡ kept (Some box) walk
    → HasComeIn box end walk code ks'
came_in box end walk ks ks' k code first some on_map coded inside ends onward same =
    let later = end_later end k ks' some (subst (EndsAt end) first ends) in
    record {
      first = k;
      on_map = on_map;
      coded = coded;
      inside = (in_box_exactly box.lo box.hi k).0 inside;
      other = later.0;
      same = sym same ∙ ap (λ l. kept (Some box) l) first ∙ kept_first box k ks' inside;
      is_way = record {
        ends = later.1;
        between = λ l there. comes_after end k l ks ks' first onward there;
        onward = goes_on end k ks ks' first onward;
      };
    }

-- it and all later ones are beyond the box
pub stays_beyond : (box : Window) (end : Voxel) (walk ks ks' : List Voxel) (k : Voxel)
    → ks ≡ k ∷ ks' → GoesTo end ks
    → ((l : Voxel) → IsSpanned k end l → IsInBox box.lo box.hi l → ⊥)
    → kept (Some box) ks ≡ kept (Some box) walk → StaysOut box end walk
stays_beyond box end walk ks ks' k first onward beyond same l there =
    let none : kept (Some box) (k ∷ ks') ≡ [] =
    kept_none box (k ∷ ks') (λ l there. beyond l (elim (contains_cases k l ks' there) [
      | inl e ↦ subst (IsSpanned k end) e (spans_first k end)
      | inr m ↦ comes_after end k l ks ks' first onward m
    ])) in
    absurd (contains_none l (subst (λ ks. Contains ks l)
    (sym same ∙ ap (λ l. kept (Some box) l) first ∙ none) there))
  where
    spans_first : (k end : Voxel) → IsSpanned k end k
    spans_first k end = record {
      x = (omega arith, omega arith);
      y = (omega arith, omega arith);
      z = (omega arith, omega arith);
    }

-- only the end is left
pub stays_out : (box : Window) (end : Voxel) (walk ks : List Voxel) → ks ≡ end ∷ []
    → kept (Some box) ks ≡ kept (Some box) walk → StaysOut box end walk
stays_out box end walk ks one same k there =
    let in_one : Contains (end ∷ []) k = (kept_from (Some box) (end ∷ []) k
    (subst (λ ks. Contains ks k) (sym same ∙ ap (λ l. kept (Some box) l) one) there)).0 in
    elim (contains_cases end k [] in_one) [
      | inl e ↦ sym e
      | inr m ↦ absurd (contains_none k m)
    ]

-- what is left of a way is one
pub way_tail : (first end k : Voxel) (ks ks' : List Voxel) → ks ≡ k ∷ ks' → ks' ≢ []
    → IsWay first end ks → IsWay first end ks'
way_tail first end k ks ks' is some way = record {
  ends = (end_later end k ks' some (subst (EndsAt end) is way.ends)).1;
  between = λ l there. way.between l
      (subst (λ ks. Contains ks l) (sym is) (contains_later k l ks' there));
  onward = goes_on end k ks ks' is way.onward;
}

-- where a way that began in a box comes out of it, the rest of it lies outside
pub left_for_good : (box : Window) (first end k : Voxel) (ks ks' : List Voxel) → ks ≡ k ∷ ks'
    → IsInBox box.lo box.hi first → is_in_box box.lo box.hi k ≡ false → IsWay first end ks
    → kept (Some box) ks ≡ []
left_for_good box first end k ks ks' is inside outside way =
    let out : IsInBox box.lo box.hi k → ⊥ = λ h.
    no_two (is_in_box box.lo box.hi k) outside ((in_box_exactly box.lo box.hi k).1 h) in
    let passed : IsSpanned first end k = way.between k
    (subst (λ ks. Contains ks k) (sym is) (contains_here k ks')) in
    ap (λ l. kept (Some box) l) is
    ∙ kept_none box (k ∷ ks') (λ l there in_l. elim (contains_cases k l ks' there) [
      | inl e ↦ out (subst (λ v. IsInBox box.lo box.hi v) (sym e) in_l)
      | inr m ↦ out (spanned_inside box first l k inside in_l
          (comes_before first end k l passed (comes_after end k l ks ks' is way.onward m)))
    ])
  where
    no_two : (t : Bool) → t ≡ false → t ≡ true → ⊥
    no_two true e h = cc
    no_two false e h = cc
