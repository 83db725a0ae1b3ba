use Rattle.std.proofs.Common.{refl, subst, sym, rules}
use Rattle.std.specs.List.{All}
use Rattle.std.specs.List.Sorted.{IsNonDecreasingBy, IsPermutation}
use Rattle.std.proofs.lemmas.List.Sorted.{IsNonDecreasingBy-from_sort_by_key, IsPermutation-sym}
use Rattle.std.proofs.lemmas.List.Sorted.{Contains-permutation}
use Rattle.std.proofs.lemmas.List.Elements.{All-contains}
use Rattle.oct_brick.specs.Bricks.{IsBrick}
use Rattle.oct_brick.proofs.Lists.{all_contained}
use Rattle.oct_brick.proofs.Merging.{taken_none, taken_added, taken_permuted}
use Rattle.oct_brick.proofs.merge.merge_many.Goals as goal

pub loop-brick-init : goal.loop-brick-init
loop-brick-init c = rw c.new-merged.ensures.items (taken_none c.deref-brick-items.result.now)

pub loop-brick-preserved : goal.loop-brick-preserved
loop-brick-preserved c =
    let up : IsNonDecreasingBy (λ b. b.code) c.deref-brick-items.result.now =
    subst (IsNonDecreasingBy (λ b. b.code)) (sym c.deref-brick-items.ensures.value)
    (IsNonDecreasingBy-from_sort_by_key (λ b. b.code) c.sort_unstable_by_key.new.self.items
    c.sort_unstable_by_key.ensures.sorted (λ a r f call. search rules)) in
    let bricks : All IsBrick c.deref-brick-items.result.now =
    subst (All IsBrick) (sym c.deref-brick-items.ensures.value)
    (all_contained IsBrick c.sort_unstable_by_key.new.self.items
    (λ b h. All-contains IsBrick c.args.bricks.items b c.requires
    (Contains-permutation c.sort_unstable_by_key.new.self.items c.args.bricks.items b
    (IsPermutation-sym c.args.bricks.items c.sort_unstable_by_key.new.self.items
    c.sort_unstable_by_key.ensures.permutation) h))) in
    taken_added c.deref-brick-items.result.now c.loop-brick.merged.items c.add.new.merged.items
    c.loop-brick.brick-index _ _ c.loop-brick-test.true bricks up refl c.in_ok-add.ensures
    c.loop-brick.invariant

pub returns-clause-scanned : goal.returns-clause-scanned
returns-clause-scanned c =
    taken_permuted (λ b. b.scanned) c.args.bricks.items c.deref-brick-items.result.now
    c.loop-brick.merged.items c.loop-brick.brick-index
    (subst (IsPermutation c.args.bricks.items) (sym c.deref-brick-items.ensures.value)
    c.sort_unstable_by_key.ensures.permutation)
    c.loop-brick-test.false c.loop-brick.invariant.merged.scanned

pub returns-clause-hits : goal.returns-clause-hits
returns-clause-hits c =
    taken_permuted (λ b. b.hits) c.args.bricks.items c.deref-brick-items.result.now
    c.loop-brick.merged.items c.loop-brick.brick-index
    (subst (IsPermutation c.args.bricks.items) (sym c.deref-brick-items.ensures.value)
    c.sort_unstable_by_key.ensures.permutation)
    c.loop-brick-test.false c.loop-brick.invariant.merged.hits
