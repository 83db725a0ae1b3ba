-- Voxels of a walk that are marked one after another.
use Rattle.std.proofs.Common.{◌≡◌, ◌≢◌, ℕ, ◌≤◌, ◌⊎◌, ◌↔◌, inl, inr, List, [], ◌∷◌}
use Rattle.std.proofs.Common.{◌++◌, map, length, take, None, Option, Some, IfSome, refl, sym}
use Rattle.std.proofs.Common.{subst, ◌∙◌, ap, arith, append_assoc}
use Rattle.std.specs.List.{All, Contains}
use Rattle.std.proofs.lemmas.List.Elements.{All-contains, Contains-push, Contains-push_cases}
use Rattle.std.proofs.lemmas.List.Elements.{Contains-append_cases, Contains-append_left}
use Rattle.std.proofs.lemmas.List.Elements.{Contains-append_right}
use Rattle.std.proofs.Math.Seq.{take-append_seam}
use Rattle.oct_key.specs.Voxel.{Voxel, IsInMap}
use Rattle.oct_key.specs.Morton.{morton_of}
use Rattle.oct_key.proofs.Interleavings.{morton_injective}
use Rattle.oct_ray.specs.Given.{HasGiven}
use Rattle.oct_brick.specs.declared.brick.Brick.{Brick}
use Rattle.oct_brick.specs.Bricks.{hit_codes, IsBrick}
use Rattle.oct_brick.proofs.Lists.{all_contained, contains_from_map, contains_cases}
use Rattle.oct_brick.proofs.Lists.{contains_map, contains_none}
use Rattle.oct_scan.specs.Gathered.{EndsAt, IsWayAdded}
use Rattle.oct_scan.specs.Marked.{AreMarked, AreMarkedTo, with_table}
use Rattle.oct_scan.specs.Piled.{IsVoxelAdded}
use Rattle.oct_scan.proofs.Ends.{end_later}

pub marked_none : (walk : List Voxel) (bs : List Brick) → All IsBrick bs → AreMarked walk walk bs bs
marked_none walk bs bricks = record {
  front = [];
  parted = refl;
  some = λ s. s;
  on_map = all_contained IsInMap [] (λ k h. absurd (contains_none k h));
  scanned = λ c. (
    λ h. inl h,
    λ h. elim h [ inl k ↦ k | inr k ↦ absurd (contains_none c k) ],
  );
  hits = λ c. (λ h. h, λ h. h);
  bricks = bricks;
}

-- the codes of one voxel more
code_more : (front : List Voxel) (k : Voxel) (c : ℕ)
    → Contains (map morton_of (front ++ k ∷ [])) c
    ↔ (Contains (map morton_of front) c ⊎ (morton_of k ≡ c))
code_more front k c = (
  λ h. let r = contains_from_map morton_of (front ++ k ∷ []) c h in
      elim (Contains-push_cases front k r.0 r.1) [
        | inl p ↦ inl (subst (Contains (map morton_of front)) r.2
            (contains_map morton_of front r.0 p))
        | inr e ↦ inr (ap morton_of e ∙ r.2)
      ],
  λ h. elim h [
    | inl p ↦ let r = contains_from_map morton_of front c p in
        subst (Contains (map morton_of (front ++ k ∷ []))) r.2
        (contains_map morton_of (front ++ k ∷ []) r.0
        (Contains-append_left front (k ∷ []) r.0 r.1))
    | inr e ↦ subst (Contains (map morton_of (front ++ k ∷ []))) e
        (contains_map morton_of (front ++ k ∷ []) k (Contains-push front k))
  ],
)

-- what stays the same twice stays the same
stays_so : (P Q R : ℕ → Type 0) → ((c : ℕ) → Q c ↔ P c) → ((c : ℕ) → R c ↔ Q c)
    → (c : ℕ) → R c ↔ P c
stays_so P Q R a b c = (λ h. (a c).0 ((b c).0 h), λ h. (b c).1 ((a c).1 h))

-- the codes that bricks hit
abbrev hit_in : List Brick → ℕ → Type 0
hit_in bs c = Contains (hit_codes bs) c

-- one voxel more
pub marked_one : (walk rest rest' : List Voxel) (old mid new : List Brick) (code : ℕ)
    → AreMarked walk rest old mid → HasGiven rest rest' code → rest' ≢ []
    → IsVoxelAdded code mid new → AreMarked walk rest' old new
marked_one walk rest rest' old mid new code m g more a = record {
  front = m.front ++ g.voxel ∷ [];
  parted = m.parted ∙ ap (λ (ks : List Voxel). m.front ++ ks) g.first
      ∙ sym (append_assoc m.front (g.voxel ∷ []) rest');
  some = λ _. more;
  on_map = all_contained IsInMap (m.front ++ g.voxel ∷ [])
      (λ k h. elim (Contains-push_cases m.front g.voxel k h) [
        | inl p ↦ All-contains IsInMap m.front k m.on_map p
        | inr e ↦ subst IsInMap e g.on_map
      ]);
  scanned = λ c. (
    λ h. elim ((a.scanned c).0 h) [
      | inl k ↦ elim ((m.scanned c).0 k) [
        | inl p ↦ inl p
        | inr p ↦ inr ((code_more m.front g.voxel c).1 (inl p))
      ]
      | inr e ↦ inr ((code_more m.front g.voxel c).1 (inr (sym g.coded ∙ e)))
    ],
    λ h. (a.scanned c).1 (elim h [
      | inl p ↦ inl ((m.scanned c).1 (inl p))
      | inr p ↦ elim ((code_more m.front g.voxel c).0 p) [
        | inl q ↦ inl ((m.scanned c).1 (inr q))
        | inr e ↦ inr (g.coded ∙ e)
      ]
    ]),
  );
  hits = stays_so (hit_in old) (hit_in mid) (hit_in new) m.hits a.hits;
  bricks = a.bricks;
}

-- the codes of more voxels
codes_on : (front later : List Voxel) (c : ℕ)
    → Contains (map morton_of (front ++ later)) c
    ↔ (Contains (map morton_of front) c ⊎ Contains (map morton_of later) c)
codes_on front later c = (
  λ h. let r = contains_from_map morton_of (front ++ later) c h in
      elim (Contains-append_cases front later r.0 r.1) [
        | inl p ↦ inl (subst (Contains (map morton_of front)) r.2
            (contains_map morton_of front r.0 p))
        | inr p ↦ inr (subst (Contains (map morton_of later)) r.2
            (contains_map morton_of later r.0 p))
      ],
  λ h. elim h [
    | inl p ↦ let r = contains_from_map morton_of front c p in
        subst (Contains (map morton_of (front ++ later))) r.2
        (contains_map morton_of (front ++ later) r.0
        (Contains-append_left front later r.0 r.1))
    | inr p ↦ let r = contains_from_map morton_of later c p in
        subst (Contains (map morton_of (front ++ later))) r.2
        (contains_map morton_of (front ++ later) r.0
        (Contains-append_right front later r.0 r.1))
  ],
)

-- and more of what is left
marked_on : (walk mid rest : List Voxel) (old bs new : List Brick) → AreMarked walk mid old bs
    → AreMarked mid rest bs new → AreMarked walk rest old new
marked_on walk mid rest old bs new m n = record {
  front = m.front ++ n.front;
  parted = m.parted ∙ ap (λ (ks : List Voxel). m.front ++ ks) n.parted
      ∙ sym (append_assoc m.front n.front rest);
  some = λ s. n.some (m.some s);
  on_map = all_contained IsInMap (m.front ++ n.front)
      (λ k h. elim (Contains-append_cases m.front n.front k h) [
        | inl p ↦ All-contains IsInMap m.front k m.on_map p
        | inr p ↦ All-contains IsInMap n.front k n.on_map p
      ]);
  scanned = λ c. (
    λ h. elim ((n.scanned c).0 h) [
      | inl k ↦ elim ((m.scanned c).0 k) [
        | inl p ↦ inl p
        | inr p ↦ inr ((codes_on m.front n.front c).1 (inl p))
      ]
      | inr k ↦ inr ((codes_on m.front n.front c).1 (inr k))
    ],
    λ h. (n.scanned c).1 (elim h [
      | inl p ↦ inl ((m.scanned c).1 (inl p))
      | inr p ↦ elim ((codes_on m.front n.front c).0 p) [
        | inl q ↦ inl ((m.scanned c).1 (inr q))
        | inr q ↦ inr q
      ]
    ]),
  );
  hits = stays_so (hit_in old) (hit_in bs) (hit_in new) m.hits n.hits;
  bricks = n.bricks;
}

-- those up to a voxel, and then that one
pub marked_past : (walk mid rest : List Voxel) (old bs next new : List Brick) (code : ℕ)
    → AreMarked walk mid old bs → AreMarkedTo code mid rest bs next → IsVoxelAdded code next new
    → AreMarked walk rest old new
marked_past walk mid rest old bs next new code m n a =
    marked_one walk n.left rest old next new code (marked_on walk mid n.left old bs next m n.marked)
    n.given n.more a

-- where a walk ends at a voxel, that is its last one, and none of those before
ends_apart : (front : List Voxel) (end k : Voxel) → EndsAt end (front ++ k ∷ [])
    → (k ≡ end) × ((v : Voxel) → Contains front v → v ≢ end)
ends_apart [] end k e = (e, λ v h. absurd (contains_none v h))
ends_apart (l ∷ front) end k e =
    let some : front ++ k ∷ [] ≢ [] = pushed_some front k in
    let r = end_later end l (front ++ k ∷ []) some e in
    let s = ends_apart front end k r.1 in (
      s.0,
      λ v h. elim (contains_cases l v front h) [
        | inl same ↦ λ is. r.0 (same ∙ is)
        | inr there ↦ s.1 v there
      ],
    )
  where
    pushed_some : (ks : List Voxel) (k : Voxel) → ks ++ k ∷ [] ≢ []
    pushed_some [] k none = absurd (let h : ⊥ = cc none in h)
    pushed_some (l ∷ ks) k none = absurd (let h : ⊥ = cc none in h)

left_one : (rest : List Voxel) → rest ≢ [] → length rest ≤ 1
    → (k : Voxel) × (rest ≡ k ∷ [])
left_one [] some few = absurd (some refl)
left_one (k ∷ []) some few = (k, refl)
left_one (k ∷ l ∷ ks) some few = absurd (omega (arith, few))

-- where one voxel is left at most, all but that of the end have come
pub marked_all : (walk mid rest : List Voxel) (old bs new : List Brick)
    → AreMarked walk mid old bs → AreMarked mid rest bs new → length rest ≤ 1 → (end : Voxel)
    → IsInMap end → EndsAt end walk → IsWayAdded None (morton_of end) walk old new
marked_all walk mid rest old bs new first then few end on_map ends =
    let m : AreMarked walk rest old new = marked_on walk mid rest old bs new first then in
    let some : walk ≢ [] = λ none. subst (EndsAt end) none ends in
    let (k, one) = left_one rest (m.some some) few in
    let whole = m.parted ∙ ap (λ (ks : List Voxel). m.front ++ ks) one in
    let apart = ends_apart m.front end k (subst (EndsAt end) whole ends) in
    let all = sym (ap (map morton_of) whole) in
    record {
      scanned = λ c. (
        λ h. elim ((m.scanned c).0 h) [
          | inl p ↦ inl p
          | inr p ↦ let r = contains_from_map morton_of m.front c p in inr (
            subst (λ (cs : List ℕ). Contains cs c) all ((code_more m.front k c).1 (inl p)),
            λ e. apart.1 r.0 r.1 (morton_injective r.0 end
                (All-contains IsInMap m.front r.0 m.on_map r.1) on_map (r.2 ∙ sym e)),
          )
        ],
        λ h. (m.scanned c).1 (elim h [
          | inl p ↦ inl p
          | inr p ↦ elim ((code_more m.front k c).0
              (subst (λ (cs : List ℕ). Contains cs c) (sym all) p.0)) [
                | inl q ↦ inr q
                | inr e ↦ absurd (p.1 (sym (ap morton_of apart.0) ∙ e))
              ]
        ]),
      );
      hits = m.hits;
      bricks = m.bricks;
    }

-- the elements of a vector whose slice was written whole
pub kept_items : (n : ℕ) (xs rest : List Brick) → length xs ≡ n → take n (xs ++ rest) ≡ xs
kept_items n xs rest e =
    ap (λ (k : ℕ). take k (xs ++ rest)) (sym e) ∙ take-append_seam xs rest

-- a way that was added to a pile with a table beside it
pub way_tabled : (walk : List Voxel) (old pile pile' places places' kept : List Brick)
    (end : Voxel) → with_table pile places ≡ old → kept ≡ places'
    → IsWayAdded None (morton_of end) walk (with_table pile places) (with_table pile' places')
    → IsWayAdded None (morton_of end) walk old (with_table pile' kept)
way_tabled walk old pile pile' places places' kept end eo ek h =
    subst (λ (bs : List Brick). IsWayAdded None (morton_of end) walk bs (with_table pile' kept)) eo
    (subst (λ (ps : List Brick). IsWayAdded None (morton_of end) walk (with_table pile places)
    (with_table pile' ps)) (sym ek) h)

-- what holds of a walk that is given back
pub given_back : {A : Type 0} (left : Option A) (back : A) (P : A → Type 0) → left ≡ Some back
    → IfSome left P → P back
given_back {A} left back P is h = subst (λ (o : Option A). IfSome o P) is h
