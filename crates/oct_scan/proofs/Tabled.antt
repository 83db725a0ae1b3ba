-- A table of bricks beside a pile, and what it has when one of its places changes.
use Rattle.std.proofs.Common.{◌≡◌, ◌≢◌, ℕ, zero, suc, ◌+◌, ◌/◌, ◌^◌, ◌<◌, ◌≤◌, ◌↔◌, ◌⊎◌}
use Rattle.std.proofs.Common.{inl, inr, true, false}
use Rattle.std.proofs.Common.{List, [], ◌∷◌, ◌++◌, length, take, get_or, Option, None, refl, sym}
use Rattle.std.proofs.Common.{subst, ◌∙◌, ap, arith}
use Rattle.std.specs.Prelude.{nat_lt, cond, replicate}
use Rattle.std.specs.List.{All, Contains}
use Rattle.std.proofs.Math.ListN.{set}
use Rattle.std.proofs.lemmas.Bool.{cases_Bool, lt-ltb, ltb-false, ltb-true}
use Rattle.std.proofs.lemmas.List.{take_more, take_all}
use Rattle.std.proofs.lemmas.List.Elements.{All-contains, All-set, Contains-append_cases}
use Rattle.std.proofs.lemmas.List.Elements.{Contains-append_left, Contains-append_right}
use Rattle.oct_key.specs.Boxes.{Window}
use Rattle.oct_key.specs.Voxel.{Voxel}
use Rattle.oct_key.specs.declared.point.Point.{Point}
use Rattle.oct_brick.specs.declared.brick.Brick.{Brick}
use Rattle.oct_brick.specs.Masks.{HasCode}
use Rattle.oct_brick.specs.Bricks.{scanned_codes, hit_codes, IsBrick, HitsAreScanned}
use Rattle.oct_brick.proofs.Lists.{contains_none, contains_here, contains_later, contains_cases}
use Rattle.oct_brick.proofs.Lists.{all_contained}
use Rattle.oct_brick.proofs.BrickCodes.{codes_by, by_tells, by_listed, by_one, by_parted}
use Rattle.oct_scan.specs.declared.beam.Beam.{Beam}
use Rattle.oct_scan.specs.declared.beam.PlacedBeam.{PlacedBeam}
use Rattle.oct_scan.specs.Beam.{bare}
use Rattle.oct_scan.specs.Gathered.{IsCurrent, IsHeld, IsWayAdded, HoldAllGathered}
use Rattle.oct_scan.specs.Piled.{IsVoxelAdded, HoldSame, filled}
use Rattle.oct_scan.proofs.Kept.{passed_from, passed_listed}
use Rattle.oct_scan.proofs.Holding.{HasMore, all_none, around_below, none_hit, none_of}

-- what was set stands there
set_here : {X : Type 0} (xs : List X) (i : ℕ) (j : X) → i < length xs → Contains (set xs i j) j
set_here [] i j l = absurd (omega (arith, l))
set_here (x ∷ xs) zero j l = contains_here j xs
set_here (x ∷ xs) (suc i) j l =
    contains_later x j (set xs i j) (set_here xs i j (omega (arith, l)))

-- all else stood there before
set_from : {X : Type 0} (xs : List X) (i : ℕ) (j b : X) → i < length xs → Contains (set xs i j) b
    → (j ≡ b) ⊎ Contains xs b
set_from [] i j b l h = absurd (omega (arith, l))
set_from (x ∷ xs) zero j b l h = elim (contains_cases j b xs h)
    [ inl e ↦ inl e | inr k ↦ inr (contains_later x b xs k) ]
set_from (x ∷ xs) (suc i) j b l h = elim (contains_cases x b (set xs i j) h) [
  | inl e ↦ inr (subst (Contains (x ∷ xs)) e (contains_here x xs))
  | inr k ↦ elim (set_from xs i j b (omega (arith, l)) k)
      [ inl e ↦ inl e | inr m ↦ inr (contains_later x b xs m) ]
]

-- what is read there stands there
pub stands : {X : Type 0} (xs : List X) (i : ℕ) (a : X) → i < length xs → a ≡ get_or xs i a
    → Contains xs a
stands [] i a l is = absurd (omega (arith, l))
stands (x ∷ xs) zero a l is = subst (Contains (x ∷ xs)) (sym is) (contains_here x xs)
stands (x ∷ xs) (suc i) a l is = contains_later x a xs (stands xs i a (omega (arith, l)) is)

-- what stood there still does, but for what stood in that place
set_keeps : {X : Type 0} (xs : List X) (i : ℕ) (a j b : X) → i < length xs → a ≡ get_or xs i a
    → Contains xs b → (a ≡ b) ⊎ Contains (set xs i j) b
set_keeps [] i a j b l is h = absurd (omega (arith, l))
set_keeps (x ∷ xs) zero a j b l is h = elim (contains_cases x b xs h)
    [ inl e ↦ inl (is ∙ e) | inr k ↦ inr (contains_later j b xs k) ]
set_keeps (x ∷ xs) (suc i) a j b l is h = elim (contains_cases x b xs h) [
  | inl e ↦ inr (subst (Contains (x ∷ set xs i j)) e (contains_here x (set xs i j)))
  | inr k ↦ elim (set_keeps xs i a j b (omega (arith, l)) is k)
      [ inl e ↦ inl e | inr m ↦ inr (contains_later x b (set xs i j) m) ]
]

-- a place that isn't empty is filled
fills : (b : Brick) → b.scanned ≢ 0 → nat_lt 0 b.scanned ≡ true
fills b some = lt-ltb 0 b.scanned (omega (arith, some))

fills_not : (b : Brick) → nat_lt 0 b.scanned ≡ false → b.scanned ≡ 0
fills_not b none = (let le = ltb-false 0 b.scanned none in omega (arith, le))

fills_some : (b : Brick) → nat_lt 0 b.scanned ≡ true → b.scanned ≢ 0
fills_some b some = (let l = ltb-true 0 b.scanned some in λ e. absurd (omega (arith, l, e)))

-- the places that are filled have the codes of all
filled_codes : (ps : List Brick) (c : ℕ)
    → Contains (scanned_codes (filled ps)) c ↔ Contains (scanned_codes ps) c
filled_codes ps c = (
  λ h. (let r = by_tells (λ b. b.scanned) (filled ps) c h in
      by_listed (λ b. b.scanned) ps c r.0
      (passed_from (λ b. nat_lt 0 b.scanned) ps r.0 r.1).0 r.2),
  λ h. (let r = by_tells (λ b. b.scanned) ps c h in
      elim (cases_Bool (nat_lt 0 r.0.scanned)) [
        | inl t ↦ by_listed (λ b. b.scanned) (filled ps) c r.0
            (passed_listed (λ b. nat_lt 0 b.scanned) ps r.0 r.1 t) r.2
        | inr t ↦ absurd (none_of r.0.scanned r.0.code c (fills_not r.0 t) r.2)
      ]),
)

-- and none of them is hit
filled_unhit : (ps : List Brick) (c : ℕ) → All IsCurrent ps → Contains (hit_codes (filled ps)) c → ⊥
filled_unhit ps c all h =
    let r = by_tells (λ b. b.hits) (filled ps) c h in
    let there = (passed_from (λ b. nat_lt 0 b.scanned) ps r.0 r.1).0 in
    none_of r.0.hits r.0.code c (All-contains IsCurrent ps r.0 all there).unhit r.2

-- the codes of a pile and a table
table_scanned : (pile ps : List Brick) (c : ℕ) → Contains (scanned_codes (pile ++ filled ps)) c
    ↔ (Contains (scanned_codes pile) c ⊎ Contains (scanned_codes ps) c)
table_scanned pile ps c = let both = by_parted (λ b. b.scanned) pile (filled ps) c in (
  λ h. elim (both.0 h) [ inl k ↦ inl k | inr k ↦ inr ((filled_codes ps c).0 k) ],
  λ h. both.1 (elim h [ inl k ↦ inl k | inr k ↦ inr ((filled_codes ps c).1 k) ]),
)

table_hits : (pile ps : List Brick) (c : ℕ) → All IsCurrent ps
    → Contains (hit_codes (pile ++ filled ps)) c ↔ Contains (hit_codes pile) c
table_hits pile ps c all = let both = by_parted (λ b. b.hits) pile (filled ps) c in (
  λ h. elim (both.0 h) [ inl k ↦ k | inr k ↦ absurd (filled_unhit ps c all k) ],
  λ h. both.1 (inl h),
)

-- the bricks of both
pub pile_bricks : (pile ps : List Brick) → All IsBrick (pile ++ filled ps) → All IsBrick pile
pile_bricks pile ps all = all_contained IsBrick pile
    (λ b h. All-contains IsBrick (pile ++ filled ps) b all
    (Contains-append_left pile (filled ps) b h))

pub place_brick : (pile ps : List Brick) (b : Brick) → All IsBrick (pile ++ filled ps)
    → Contains ps b → b.scanned ≢ 0 → IsBrick b
place_brick pile ps b all there some = All-contains IsBrick (pile ++ filled ps) b all
    (Contains-append_right pile (filled ps) b
    (passed_listed (λ b. nat_lt 0 b.scanned) ps b there (fills b some)))

both_bricks : (pile ps : List Brick) → All IsBrick pile
    → ((b : Brick) → Contains ps b → b.scanned ≢ 0 → IsBrick b) → All IsBrick (pile ++ filled ps)
both_bricks pile ps all each = all_contained IsBrick (pile ++ filled ps)
    (λ b h. elim (Contains-append_cases pile (filled ps) b h) [
      | inl k ↦ All-contains IsBrick pile b all k
      | inr k ↦ (let p = passed_from (λ b. nat_lt 0 b.scanned) ps b k in
          each b p.0 (fills_some b p.1))
    ])

-- a brick more in the pile
pub pile_more : (f : Brick → ℕ) (old pile pile' ps : List Brick) (b : Brick)
    → pile ++ filled ps ≡ old → HasMore f pile pile' b → HasMore f old (pile' ++ filled ps) b
pile_more f old pile pile' ps b same more c =
    let before = by_parted f pile (filled ps) c in
    let after = by_parted f pile' (filled ps) c in
    subst (λ (xs : List Brick). Contains (codes_by f (pile' ++ filled ps)) c
    ↔ (Contains (codes_by f xs) c ⊎ HasCode b.code (f b) c)) same (
      λ h. elim (after.0 h) [
        | inl k ↦ elim ((more c).0 k) [ inl m ↦ inl (before.1 (inl m)) | inr m ↦ inr m ]
        | inr k ↦ inl (before.1 (inr k))
      ],
      λ h. after.1 (elim h [
        | inl k ↦ elim (before.0 k) [ inl m ↦ inl ((more c).1 (inl m)) | inr m ↦ inr m ]
        | inr k ↦ inl ((more c).1 (inr k))
      ]),
    )

pub pile_all : (old pile pile' ps : List Brick) → pile ++ filled ps ≡ old → All IsBrick old
    → All IsBrick pile' → All IsBrick (pile' ++ filled ps)
pile_all old pile pile' ps same all more =
    let all' = subst (All IsBrick) (sym same) all in
    both_bricks pile' ps more (λ b h some. place_brick pile ps b all' h some)

-- the brick of a place goes to the pile or is taken up by the next one, in which the voxel of a
-- code is new
pub record IsReplaced (code : ℕ) (pile pile' : List Brick) (a j : Brick) : Type 0 where
  pub still : (c : ℕ) → Contains (scanned_codes pile) c → Contains (scanned_codes pile') c
  pub only : (c : ℕ) → Contains (scanned_codes pile') c → IsHeld pile a c
  pub hits : (c : ℕ) → Contains (hit_codes pile') c ↔ Contains (hit_codes pile) c
  pub bricks : All IsBrick pile'
  pub taken : (c : ℕ) → HasCode a.code a.scanned c → IsHeld pile' j c
  pub new : HasCode j.code j.scanned code
  pub others : (c : ℕ) → HasCode j.code j.scanned c → HasCode a.code a.scanned c ⊎ (code ≡ c)

replaced_scanned : (code : ℕ) (pile pile' ps : List Brick) (i : ℕ) (a j : Brick) (c : ℕ)
    → i < length ps → a ≡ get_or ps i a → IsReplaced code pile pile' a j →
    (Contains (scanned_codes pile') c ⊎ Contains (scanned_codes (set ps i j)) c)
    ↔ ((Contains (scanned_codes pile) c ⊎ Contains (scanned_codes ps) c) ⊎ (code ≡ c))
replaced_scanned code pile pile' ps i a j c l is h =
    let of_a : HasCode a.code a.scanned c → Contains (scanned_codes ps) c =
    λ k. by_listed (λ b. b.scanned) ps c a (stands ps i a l is) k in (
      λ m. elim m [
        | inl k ↦ elim (h.only c k) [ inl p ↦ inl (inl p) | inr p ↦ inl (inr (of_a p)) ]
        | inr k ↦ (let r = by_tells (λ b. b.scanned) (set ps i j) c k in
            elim (set_from ps i j r.0 l r.1) [
              | inl e ↦ elim (h.others c
                  (subst (λ (b : Brick). HasCode b.code b.scanned c) (sym e) r.2))
                  [ inl p ↦ inl (inr (of_a p)) | inr p ↦ inr p ]
              | inr p ↦ inl (inr (by_listed (λ b. b.scanned) ps c r.0 p r.2))
            ])
      ],
      λ m. (let of_j : HasCode j.code j.scanned c → Contains (scanned_codes (set ps i j)) c =
          λ k. by_listed (λ b. b.scanned) (set ps i j) c j (set_here ps i j l) k in
          elim m [
            | inl p ↦ elim p [
              | inl k ↦ inl (h.still c k)
              | inr k ↦ (let r = by_tells (λ b. b.scanned) ps c k in
                  elim (set_keeps ps i a j r.0 l is r.1) [
                    | inl e ↦ elim (h.taken c
                        (subst (λ (b : Brick). HasCode b.code b.scanned c) (sym e) r.2))
                        [ inl q ↦ inl q | inr q ↦ inr (of_j q) ]
                    | inr q ↦ inr (by_listed (λ b. b.scanned) (set ps i j) c r.0 q r.2)
                  ])
            ]
            | inr e ↦ inr (of_j (subst (λ d. HasCode j.code j.scanned d) e h.new))
          ]),
    )

-- after that the table has one voxel more
pub replaced : (code : ℕ) (old pile pile' ps : List Brick) (i : ℕ) (a j : Brick)
    → pile ++ filled ps ≡ old → i < length ps → a ≡ get_or ps i a → All IsCurrent ps
    → IsCurrent j → IsBrick j → All IsBrick old → IsReplaced code pile pile' a j
    → IsVoxelAdded code old (pile' ++ filled (set ps i j))
replaced code old pile pile' ps i a j same l is current next brick all h =
    let current' : All IsCurrent (set ps i j) = All-set IsCurrent ps i j next current in
    let all' = subst (All IsBrick) (sym same) all in
    subst (λ (xs : List Brick). IsVoxelAdded code xs (pile' ++ filled (set ps i j))) same (record {
      scanned = λ c. (
        λ m. elim ((replaced_scanned code pile pile' ps i a j c l is h).0
            ((table_scanned pile' (set ps i j) c).0 m))
            [ inl k ↦ inl ((table_scanned pile ps c).1 k) | inr k ↦ inr k ],
        λ m. (table_scanned pile' (set ps i j) c).1
            ((replaced_scanned code pile pile' ps i a j c l is h).1
            (elim m [ inl k ↦ inl ((table_scanned pile ps c).0 k) | inr k ↦ inr k ])),
      );
      hits = λ c. (
        λ m. (table_hits pile ps c current).1 ((h.hits c).0
            ((table_hits pile' (set ps i j) c current').0 m)),
        λ m. (table_hits pile' (set ps i j) c current').1 ((h.hits c).1
            ((table_hits pile ps c current).0 m)),
      );
      bricks = both_bricks pile' (set ps i j) h.bricks (λ b m some. elim (set_from ps i j b l m) [
        | inl e ↦ subst IsBrick e brick
        | inr k ↦ place_brick pile ps b all' k some
      ]);
    })

-- the places before this one were poured
pub record ArePoured (old : List Brick) (ps : List Brick) (i : ℕ) (pile : List Brick) : Type 0 where
  pub scanned : (c : ℕ) → Contains (scanned_codes pile) c
      ↔ (Contains (scanned_codes old) c ⊎ Contains (scanned_codes (take i ps)) c)
  pub hits : (c : ℕ) → Contains (hit_codes pile) c ↔ Contains (hit_codes old) c
  pub bricks : All IsBrick pile

pub poured_none : (old ps : List Brick) → All IsBrick (old ++ filled ps) → ArePoured old ps 0 old
poured_none old ps all = record {
  scanned = λ c. (λ h. inl h, λ h. elim h [ inl k ↦ k | inr k ↦ absurd (contains_none c k) ]);
  hits = λ c. (λ h. h, λ h. h);
  bricks = pile_bricks old ps all;
}

pub poured_next : (old ps : List Brick) (i : ℕ) (d : Brick) (pile pile' : List Brick)
    → i < length ps → ArePoured old ps i pile
    → ((c : ℕ) → Contains (scanned_codes pile') c ↔ IsHeld pile (get_or ps i d) c)
    → ((c : ℕ) → Contains (hit_codes pile') c ↔ Contains (hit_codes pile) c) → All IsBrick pile'
    → ArePoured old ps (i + 1) pile'
poured_next old ps i d pile pile' l h more hit all =
    let b : Brick = get_or ps i d in
    let first : (c : ℕ) → Contains (scanned_codes (take (i + 1) ps)) c
    ↔ (Contains (scanned_codes (take i ps)) c ⊎ Contains (scanned_codes (b ∷ [])) c) = λ c.
    subst (λ (xs : List Brick). Contains (scanned_codes xs) c
    ↔ (Contains (scanned_codes (take i ps)) c ⊎ Contains (scanned_codes (b ∷ [])) c))
    (sym (take_more ps i d l)) (by_parted (λ b. b.scanned) (take i ps) (b ∷ []) c) in
    record {
      scanned = λ c. (
        λ m. elim ((more c).0 m) [
          | inl k ↦ elim ((h.scanned c).0 k)
              [ inl p ↦ inl p | inr p ↦ inr ((first c).1 (inl p)) ]
          | inr k ↦ inr ((first c).1 (inr ((by_one (λ b. b.scanned) b c).1 k)))
        ],
        λ m. (more c).1 (elim m [
          | inl k ↦ inl ((h.scanned c).1 (inl k))
          | inr k ↦ elim ((first c).0 k) [
            | inl p ↦ inl ((h.scanned c).1 (inr p))
            | inr p ↦ inr ((by_one (λ b. b.scanned) b c).0 p)
          ]
        ]),
      );
      hits = λ c. (λ m. (h.hits c).0 ((hit c).0 m), λ m. (hit c).1 ((h.hits c).1 m));
      bricks = all;
    }

pub poured_all : (old ps : List Brick) (i : ℕ) (pile : List Brick) → length ps ≤ i
    → All IsCurrent ps → ArePoured old ps i pile → HoldSame (old ++ filled ps) pile
poured_all old ps i pile l current h =
    let same : (c : ℕ) → Contains (scanned_codes pile) c
    ↔ (Contains (scanned_codes old) c ⊎ Contains (scanned_codes ps) c) =
    subst (λ (xs : List Brick). (c : ℕ) → Contains (scanned_codes pile) c
    ↔ (Contains (scanned_codes old) c ⊎ Contains (scanned_codes xs) c)) (take_all i ps l)
    h.scanned in
    record {
      scanned = λ c. (
        λ m. (same c).1 ((table_scanned old ps c).0 m),
        λ m. (table_scanned old ps c).1 ((same c).0 m),
      );
      hits = λ c. (
        λ m. (h.hits c).1 ((table_hits old ps c current).0 m),
        λ m. (table_hits old ps c current).1 ((h.hits c).0 m),
      );
      bricks = h.bricks;
    }

-- a brick with no voxel
abbrev pub empty : Brick
empty = record { code = 0; scanned = 0; hits = 0 }

-- bricks that hold the same as others are gathered along the same beams
pub gathered_same : (edge : ℕ) (window : Option Window) (o : Point) (bs : List Beam)
    (old new : List Brick) → HoldSame old new → HoldAllGathered edge window o bs old
    → HoldAllGathered edge window o bs new
gathered_same edge window o bs old new same h = record {
  total = h.total;
  met = h.met;
  all = record {
    scanned = h.all.scanned;
    hits = h.all.hits;
    gathered = h.all.gathered;
    few = h.all.few;
    held = record {
      same_scanned = λ c. (
        λ m. (same.scanned c).0 ((h.all.held.same_scanned c).0 m),
        λ m. (h.all.held.same_scanned c).1 ((same.scanned c).1 m),
      );
      same_hits = λ c. (
        λ m. (same.hits c).0 ((h.all.held.same_hits c).0 m),
        λ m. (h.all.held.same_hits c).1 ((same.hits c).1 m),
      );
    };
  };
}

-- a brick of which one voxel is set
pub record IsFresh (code : ℕ) (j : Brick) : Type 0 where
  pub current : IsCurrent j
  pub brick : IsBrick j
  pub only : (c : ℕ) → HasCode j.code j.scanned c ↔ (code ≡ c)

-- one voxel more in a brick
pub record IsWith (code : ℕ) (a j : Brick) : Type 0 where
  pub same : j.code ≡ a.code
  pub scanned : (c : ℕ) → HasCode j.code j.scanned c ↔ (HasCode a.code a.scanned c ⊎ (code ≡ c))
  pub hits : j.hits ≡ a.hits
  pub brick : a.code < 2 ^ 42 → HitsAreScanned a → IsBrick j

-- that of a brick of a table is one of a table
pub with_current : (code : ℕ) (a j : Brick) → IsCurrent a → IsWith code a j → IsCurrent j
with_current code a j current h = record {
  code = (let e = h.same in let l = current.code in omega (arith, e, l));
  unhit = h.hits ∙ current.unhit;
}

pub with_brick : (code : ℕ) (a j : Brick) → IsCurrent a → IsWith code a j → IsBrick j
with_brick code a j current h = h.brick current.code (none_hit a current.unhit)

pub fresh : (code : ℕ) (a j : Brick) → code < 2 ^ 48 → a.code ≡ code / 64 → a.scanned ≡ 0
    → a.hits ≡ 0 → IsWith code a j → IsFresh code j
fresh code a j below is none unhit h =
    let current : IsCurrent a =
    record { code = around_below a.code code is below; unhit = unhit } in
    record {
      current = with_current code a j current h;
      brick = with_brick code a j current h;
      only = λ c. (
        λ m. elim ((h.scanned c).0 m)
            [ inl k ↦ absurd (none_of a.scanned a.code c none k) | inr k ↦ k ],
        λ m. (h.scanned c).1 (inr m),
      );
    }

-- what is read of a table is a brick of it
pub read_current : (ps : List Brick) (i : ℕ) (a : Brick) → i < length ps → a ≡ get_or ps i a
    → All IsCurrent ps → IsCurrent a
read_current ps i a l is all = All-contains IsCurrent ps a all (stands ps i a l is)

-- what is read of a place that is there is what stands there, whatever else would be read
pub read_same : {X : Type 0} (xs : List X) (i : ℕ) (d e : X) → i < length xs
    → get_or xs i d ≡ get_or xs i e
read_same [] i d e l = absurd (omega (arith, l))
read_same (x ∷ xs) zero d e l = refl
read_same (x ∷ xs) (suc i) d e l = read_same xs i d e (omega (arith, l))

pub set_current : (code : ℕ) (ps : List Brick) (i : ℕ) (a j : Brick) → i < length ps
    → a ≡ get_or ps i a → All IsCurrent ps → IsWith code a j → All IsCurrent (set ps i j)
set_current code ps i a j l is all h =
    All-set IsCurrent ps i j (with_current code a j (read_current ps i a l is all) h) all

-- the brick of a place takes up a voxel
pub set_more : (code : ℕ) (old pile ps : List Brick) (i : ℕ) (a j : Brick)
    → pile ++ filled ps ≡ old → i < length ps → a ≡ get_or ps i a → All IsCurrent ps
    → All IsBrick old → IsWith code a j → IsVoxelAdded code old (pile ++ filled (set ps i j))
set_more code old pile ps i a j same l is all bricks h =
    let current = read_current ps i a l is all in
    replaced code old pile pile ps i a j same l is all (with_current code a j current h)
    (with_brick code a j current h) bricks (record {
      still = λ c m. m;
      only = λ c m. inl m;
      hits = λ c. (λ m. m, λ m. m);
      bricks = pile_bricks pile ps (subst (All IsBrick) (sym same) bricks);
      taken = λ c m. inr ((h.scanned c).1 (inl m));
      new = (h.scanned code).1 (inr refl);
      others = λ c m. (h.scanned c).0 m;
    })

-- a fresh one takes its place
pub set_fresh : (code : ℕ) (old pile pile' ps : List Brick) (i : ℕ) (a j : Brick)
    → pile ++ filled ps ≡ old → i < length ps → a ≡ get_or ps i a → All IsCurrent ps
    → All IsBrick old → IsFresh code j
    → ((c : ℕ) → Contains (scanned_codes pile') c ↔ IsHeld pile a c)
    → ((c : ℕ) → Contains (hit_codes pile') c ↔ Contains (hit_codes pile) c) → All IsBrick pile'
    → IsVoxelAdded code old (pile' ++ filled (set ps i j))
set_fresh code old pile pile' ps i a j same l is all bricks h scanned hits bricks' =
    replaced code old pile pile' ps i a j same l is all h.current h.brick bricks (record {
      still = λ c m. (scanned c).1 (inl m);
      only = λ c m. (scanned c).0 m;
      hits = hits;
      bricks = bricks';
      taken = λ c m. inl ((scanned c).1 (inr m));
      new = (h.only code).1 refl;
      others = λ c m. inr ((h.only c).0 m);
    })

-- places that are all empty
pub none_filled : (n : ℕ) (b : Brick) → b.scanned ≡ 0 → filled (replicate n b) ≡ []
none_filled zero b none = refl
none_filled (suc n) b none =
    ap (λ t. cond t (b ∷ filled (replicate n b)) (filled (replicate n b)))
    (ap (λ m. nat_lt 0 m) none)
    ∙ none_filled n b none

-- the voxels of a walk were added, and those are the same ones
pub added_so : (m end : ℕ) (walk near : List Voxel) (old new : List Brick) → m ≡ end
    → near ≡ walk → IsWayAdded None m near old new → IsWayAdded None end walk old new
added_so m end walk near old new is same h =
    subst (λ e. IsWayAdded None e walk old new) is
    (subst (λ (w : List Voxel). IsWayAdded None m w old new) same h)

take_none : (n : ℕ) (xs : List Brick) → xs ≡ [] → take n xs ≡ []
take_none zero xs none = refl
take_none (suc n) xs none = ap (λ (ys : List Brick). take (suc n) ys) none

pub none_dense : (pile before items : List Brick) (n k : ℕ) (b : Brick) → pile ≡ []
    → before ≡ [] → items ≡ take n before ++ replicate k b → b.scanned ≡ 0
    → pile ++ filled items ≡ []
none_dense pile before items n k b none first is empty =
    let all : items ≡ replicate k b =
    is ∙ ap (λ (xs : List Brick). xs ++ replicate k b) (take_none n before first) in
    ap (λ (xs : List Brick). pile ++ filled xs) all
    ∙ ap (λ (xs : List Brick). pile ++ xs) (none_filled k b empty)
    ∙ ap (λ (xs : List Brick). xs ++ []) none

-- along no beams nothing is gathered
pub gathered_of_none : (edge : ℕ) (window : Option Window) (o : Point) (bs : List PlacedBeam)
    (bricks : List Brick) → length bs ≡ 0 → bricks ≡ []
    → HoldAllGathered edge window o (bare bs) bricks
gathered_of_none edge window o [] bricks none is =
    subst (HoldAllGathered edge window o (bare [])) (sym is) (all_none edge window o)
gathered_of_none edge window o (b ∷ bs) bricks none is = absurd (omega (arith, none))
