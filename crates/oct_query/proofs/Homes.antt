-- Sums over the groups of an arena, taken block by block: each group is counted at its home.
use Rattle.std.proofs.Common.{◌≡◌, ℕ, zero, suc, ◌*◌, ◌≤◌, Bool, true, false, cond, [], ◌∷◌, Some}
use Rattle.std.proofs.Common.{None, refl, sym, ◌∙◌, ap, arith}
use Rattle.std.specs.Prelude.{Option, sum_by}
use Rattle.std.proofs.lemmas.List.Sums.{sum_by-cons}
use Rattle.std.proofs.lemmas.List.Elements.{All-from_get_or}
use Rattle.oct_key.specs.Block.{Cube, IsBlock, is_same_block}
use Rattle.oct_values.specs.Blocks.{blocks_above_voxels}
use Rattle.oct_values.proofs.Listed.{block_listed_once}
use Rattle.oct_key.proofs.Blocks.{is_same_block_exact, is_same_block_refl}
use Rattle.oct_values.proofs.Sums.{sum_by-same, sum_by-none, sum_by-turned, sum_by-counted}
use Rattle.oct_arena.specs.declared.node.Group.{Group}
use Rattle.oct_arena.specs.Entries.{Groups, entry, home_of, home_at, is_that_home}
use Rattle.oct_tree.proofs.Paths.{some_injective, some_not_none}

-- what the entries with this home come to, where each counts as f says
abbrev pub at_home : (Option Group → ℕ) → Groups → Cube → ℕ
at_home f gs b = sum_by (λ e. cond (is_that_home b (home_of e)) (f e) 0) gs

-- a home is told by the test
pub home_passes : (b : Cube) (e : Option Group) → home_of e ≡ Some b
    → is_that_home b (home_of e) ≡ true
home_passes b None h = cc
home_passes b (Some g) h =
    let is : g.home ≡ b = some_injective h in
    ap (is_same_block g.home) (sym is) ∙ is_same_block_refl g.home

pub home_fails : (b : Cube) (e : Option Group) → (home_of e ≡ Some b → ⊥)
    → is_that_home b (home_of e) ≡ false
home_fails b None h = refl
home_fails b (Some g) h = by_test (is_same_block g.home b) refl
  where
    by_test : (same : Bool) → is_same_block g.home b ≡ same → is_same_block g.home b ≡ false
    by_test true e = absurd (h (ap Some (is_same_block_exact g.home b e)))
    by_test false e = e

-- a block that is no group's home
pub no_home : (f : Option Group → ℕ) (b : Cube) (gs : Groups)
    → ((x : ℕ) → home_at gs x ≡ Some b → ⊥) → at_home f gs b ≡ 0
no_home f b [] h = refl
no_home f b (e ∷ gs) h =
    let all = sum_by-cons (λ e. cond (is_that_home b (home_of e)) (f e) 0) e gs in
    let here : cond (is_that_home b (home_of e)) (f e) 0 ≡ 0 =
    ap (λ test. cond test (f e) 0) (home_fails b e (h 0)) in
    let rest = no_home f b gs (λ x. h (suc x)) in
    omega (arith, all, here, rest)

-- a block that is the home of one group
pub one_home : (f : Option Group → ℕ) (b : Cube) (gs : Groups) (x : ℕ) → home_at gs x ≡ Some b
    → ((y : ℕ) → home_at gs y ≡ Some b → y ≡ x)
    → at_home f gs b ≡ f (entry gs x)
one_home f b [] x h only = absurd (some_not_none h refl)
one_home f b (e ∷ gs) zero h only =
    let all = sum_by-cons (λ e. cond (is_that_home b (home_of e)) (f e) 0) e gs in
    let here : cond (is_that_home b (home_of e)) (f e) 0 ≡ f e =
    ap (λ test. cond test (f e) 0) (home_passes b e h) in
    let rest = no_home f b gs (λ y there. (let no = only (suc y) there in omega arith)) in
    omega (arith, all, here, rest)
one_home f b (e ∷ gs) (suc x) h only =
    let all = sum_by-cons (λ e. cond (is_that_home b (home_of e)) (f e) 0) e gs in
    let here : cond (is_that_home b (home_of e)) (f e) 0 ≡ 0 = ap (λ test. cond test (f e) 0)
    (home_fails b e (λ there. (let no = only 0 there in omega arith))) in
    let rest = one_home f b gs x h (λ y there. (let same = only (suc y) there in omega arith)) in
    omega (arith, all, here, rest)

-- an entry counts at one block alone
entry_counted : (f : Option Group → ℕ) → f None ≡ 0 → (e : Option Group)
    → ((b : Cube) → home_of e ≡ Some b → IsBlock b × (b.depth ≤ 15))
    → sum_by (λ b. cond (is_that_home b (home_of e)) (f e) 0) blocks_above_voxels ≡ f e
entry_counted f vacant None h = sum_by-none blocks_above_voxels ∙ sym vacant
entry_counted f vacant (Some g) h =
    let (ok, low) = h g.home refl in
    let all = sum_by-counted (is_same_block g.home) (f (Some g)) blocks_above_voxels in
    let once = block_listed_once g.home ok low in
    let one : 1 * f (Some g) ≡ f (Some g) = omega arith in
    all ∙ ap (λ n. n * f (Some g)) once ∙ one

-- block by block, the homes come to what all entries come to
pub by_homes : (f : Option Group → ℕ) → f None ≡ 0 → (gs : Groups)
    → ((x : ℕ) (b : Cube) → home_at gs x ≡ Some b → IsBlock b × (b.depth ≤ 15))
    → sum_by (at_home f gs) blocks_above_voxels ≡ sum_by f gs
by_homes f vacant gs h =
    sum_by-turned (λ b e. cond (is_that_home b (home_of e)) (f e) 0) blocks_above_voxels gs
    ∙ sum_by-same
    (λ e. sum_by (λ b. cond (is_that_home b (home_of e)) (f e) 0) blocks_above_voxels) f gs
    (All-from_get_or
    (λ e. sum_by (λ b. cond (is_that_home b (home_of e)) (f e) 0) blocks_above_voxels ≡ f e) gs
    None
    (λ x l. entry_counted f vacant (entry gs x) (h x)))
