-- Whether a value takes something from the events of a brick.
use Rattle.std.proofs.Common.{◌≡◌, ℕ, ℤ, List, Bool, true, false, [], ◌∷◌, map, inl, inr}
use Rattle.std.proofs.Common.{refl, sym, subst, ◌∙◌, ap}
use Rattle.std.specs.Prelude.{IsTrue, IsSome, is_some, nat_eq}
use Rattle.std.specs.Bool.{OnFalse}
use Rattle.std.proofs.lemmas.Bool.{false≢true}
use Rattle.std.proofs.lemmas.Bool.Decides.{eqb_tells}
use Rattle.std.proofs.lemmas.Int.{to_z-of_z}
use mir.Syntax.{w32}
use mir.Val.{SFits, to_z, of_z}
use Rattle.oct_key.specs.Voxel.{Voxel, IsInMap}
use Rattle.oct_odds.specs.Odds.{Odds}
use Rattle.oct_odds.specs.Update.{Value}
use Rattle.oct_odds.specs.declared.event.Event.TheVariants.{Add}
use Rattle.oct_values.specs.Events.{is_listed}
use Rattle.oct_brick.specs.declared.brick.Brick.{Brick}
use Rattle.oct_brick.specs.Voxels.{coded_voxel}
use Rattle.oct_brick.proofs.Lists.{contains_none, contains_cases, all_contained}
use Rattle.oct_brick.proofs.BrickCodes.{codes_by}
use Rattle.oct_edit.specs.Listed.{ListedUpdate, update_of}
use Rattle.oct_edit.specs.Saturated.{IsSaturated}
use Rattle.oct_edit.specs.Scan.{events_of, AreDisjoint}
use Rattle.oct_edit.proofs.BrickParts.{none_by}
use Rattle.oct_edit.proofs.Expansions.{TakesSome}
use Rattle.oct_edit.proofs.Shares.{case_of, is_hit, is_freed, is_left, none_not_some, hit_event}
use Rattle.oct_edit.proofs.Shares.{miss_event}
use Rattle.oct_edit.proofs.UpdateEnds.{saturated_known}

pub rests_none : (f : Brick → ℕ) (b : Brick) (n : ℕ) → n ≡ f b → IsTrue (nat_eq n 0)
    → map coded_voxel (codes_by f (b ∷ [])) ≡ []
rests_none f b n is h = elim (eqb_tells n 0) [
  | inl p ↦ ap (map coded_voxel)
      (none_by f (b ∷ [])
      (all_contained (λ b. f b ≡ 0) (b ∷ [])
      (λ a k. elim (contains_cases b a [] k) [
        | inl e ↦ subst (λ x. f x ≡ 0) e (sym is ∙ p.1)
        | inr m ↦
            absurd (contains_none a m)
      ])))
  | inr p ↦ absurd (false≢true (sym p.0 ∙ h))
]

-- events of the machine's numbers are those of the numbers
pub same_update : (bricks : List Brick) (hit miss : ℤ) → SFits w32 hit → SFits w32 miss
    → update_of bricks (Add (to_z w32 (of_z w32 hit))) (Add (to_z w32 (of_z w32 miss)))
    ≡ update_of bricks (Add hit) (Add miss)
same_update bricks hit miss h m =
    ap (λ a. update_of bricks (Add a) (Add (to_z w32 (of_z w32 miss)))) (to_z-of_z w32 hit h)
    ∙ ap (λ a. update_of bricks (Add hit) (Add a)) (to_z-of_z w32 miss m)

-- what follows from what a failed test says
pub on_false_then : {X Y : Type 0} (test : Bool) → (X → Y) → OnFalse test X → OnFalse test Y
on_false_then true f h = tt
on_false_then false f h = f h

-- a value that isn't known takes something from each event
pub unknown_takes : (o : Odds) (u : ListedUpdate) (k : Voxel) (value : Value) → IsInMap k
    → IsSome (events_of u k) → is_some value ≡ false → TakesSome o u value
unknown_takes o u k value on_k some none = elim (case_of u k) [
  | is_hit _ e ↦ (k, on_k, (u.hit, e, λ s. false≢true (sym none ∙ saturated_known o u.hit value s)))
  | is_freed _ _ e ↦
      (k, on_k, (u.miss, e, λ s. false≢true (sym none ∙ saturated_known o u.miss value s)))
  | is_left _ _ e ↦ absurd (none_not_some (events_of u k) e some)
]

-- some voxel is hit, and the value takes something from a hit
abbrev pub TakesHit : Odds → ListedUpdate → Value → Type 0
TakesHit o u value = (k : Voxel) × IsInMap k × (is_listed u.hits k ≡ true)
    × (IsSaturated o u.hit value → ⊥)

-- some voxel is freed, and the value takes something from a miss
abbrev pub TakesMiss : Odds → ListedUpdate → Value → Type 0
TakesMiss o u value = (k : Voxel) × IsInMap k × (is_listed u.frees k ≡ true)
    × (IsSaturated o u.miss value → ⊥)

-- so some voxel takes something from its event, by log-odds and a value that are the same
pub hit_takes : (o p : Odds) (u : ListedUpdate) (v w : Value) → o ≡ p → v ≡ w
    → TakesHit o u v → TakesSome p u w
hit_takes o p u v w odds same (k, on_k, h, more) = (
  k,
  on_k,
  (
    u.hit,
    hit_event u k h,
    λ s. more (subst (λ a. IsSaturated a u.hit v) (sym odds)
        (subst (IsSaturated p u.hit) (sym same) s)),
  ),
)

pub miss_takes : (o p : Odds) (u : ListedUpdate) (v w : Value) → o ≡ p → v ≡ w
    → AreDisjoint u.hits u.frees → TakesMiss o u v → TakesSome p u w
miss_takes o p u v w odds same apart (k, on_k, h, more) = (
  k,
  on_k,
  (
    u.miss,
    miss_event u k (unhit (is_listed u.hits k) refl) h,
    λ s. more (subst (λ a. IsSaturated a u.miss v) (sym odds)
        (subst (IsSaturated p u.miss) (sym same) s)),
  ),
)
  where
    unhit : (test : Bool) → is_listed u.hits k ≡ test → is_listed u.hits k ≡ false
    unhit true is = absurd (apart k is h)
    unhit false is = is
