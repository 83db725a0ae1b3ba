-- That there are few bricks of each code.
use Rattle.std.proofs.Common.{◌≡◌, ◌≢◌, ℕ, ◌<◌, ◌↔◌, List, [], ◌∷◌, ◌++◌, map, take, length, get_or}
use Rattle.std.proofs.Common.{inl, inr, refl, ap, sym, subst, ◌∙◌, arith}
use Rattle.std.specs.List.{AllPairs, Contains}
use Rattle.std.proofs.Math.ListN.{set}
use Rattle.std.proofs.lemmas.List.{length-set, length-map, map-set, set-get_or, get_or-map}
use Rattle.std.proofs.lemmas.List.{take_all}
use Rattle.oct_brick.specs.declared.brick.Brick.{Brick}
use Rattle.oct_brick.specs.Bricks.{AreAscending}
use Rattle.oct_brick.proofs.BrickCodes.{codes_by}
use Rattle.oct_scan.specs.Piled.{AreFew}
use Rattle.oct_scan.proofs.Holding.{HasMore}
use Rattle.oct_scan.proofs.Piling.{pushed_more}

abbrev code_of : Brick → ℕ
code_of b = b.code

-- the same bricks, of which one takes up another of its code
codes_joined : (bs : List Brick) (i : ℕ) (a j : Brick) → i < length bs → a ≡ get_or bs i a
    → a.code ≡ j.code → map code_of (set bs i j) ≡ map code_of bs
codes_joined bs i a j l is same =
    let stood : get_or (map code_of bs) i a.code ≡ j.code =
    get_or-map code_of bs i a a.code l ∙ ap code_of (sym is) ∙ same in
    map-set code_of bs i j
    ∙ ap (set (map code_of bs) i) (sym stood)
    ∙ set-get_or (map code_of bs) i a.code

pub few_joined : (n : ℕ) (bs : List Brick) (i : ℕ) (a j : Brick) → i < length bs
    → a ≡ get_or bs i a → a.code ≡ j.code → AreFew n bs → AreFew n (set bs i j)
few_joined n bs i a j l is same h =
    let long : length (set bs i j) ≡ length bs = length-set bs i j in
    record {
      there = omega (arith, h.there, long);
      apart = subst (λ codes. AllPairs (λ a b. a ≢ b) (take n codes))
          (sym (codes_joined bs i a j l is same)) h.apart;
      few = omega (arith, h.few, long);
    }

-- bricks in order have different codes
pub few_merged : (bs : List Brick) → AreAscending bs → AreFew (length bs) bs
few_merged bs ascend =
    let long : length (map code_of bs) ≡ length bs = length-map bs code_of in
    let codes : take (length bs) (map code_of bs) ≡ map code_of bs =
    take_all (length bs) (map code_of bs) (omega (arith, long)) in
    record {
      there = omega arith;
      apart = subst (AllPairs (λ a b. a ≢ b)) (sym codes) (λ i j d before below.
          let e : Brick = record { code = 0; scanned = 0; hits = 0 } in
          let l : j < length bs = omega (arith, below, long) in
          let first = get_or-map code_of bs i e d (omega (arith, before, l)) in
          let second = get_or-map code_of bs j e d l in
          let up = ascend i j e before l in
          λ same. absurd (omega (arith, first, second, up, same)));
      few = omega arith;
    }

-- what is the same of the same bricks
pub kept_from : (f : Brick → ℕ) (old bs merged : List Brick) → bs ≡ old
    → ((c : ℕ) → Contains (codes_by f bs) c ↔ Contains (codes_by f merged) c)
    → (c : ℕ) → Contains (codes_by f old) c ↔ Contains (codes_by f merged) c
kept_from f old bs merged same kept =
    subst (λ (xs : List Brick). (c : ℕ) → Contains (codes_by f xs) c
    ↔ Contains (codes_by f merged) c) same kept

-- a brick behind those that were merged
pub merged_more : (f : Brick → ℕ) (old bs merged bs' : List Brick) (b : Brick) → bs ≡ old
    → ((c : ℕ) → Contains (codes_by f bs) c ↔ Contains (codes_by f merged) c)
    → bs' ≡ merged ++ b ∷ [] → HasMore f old bs' b
merged_more f old bs merged bs' b same kept pushed c =
    let added = pushed_more f merged merged bs' b refl pushed c in
    let held = kept_from f old bs merged same kept c in (
      λ h. elim (added.0 h) [ inl k ↦ inl (held.1 k) | inr k ↦ inr k ],
      λ h. added.1 (elim h [ inl k ↦ inl (held.0 k) | inr k ↦ inr k ]),
    )
