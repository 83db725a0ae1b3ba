use Rattle.std.proofs.Common.{sym, ap, ◌∙◌}
use Rattle.std.specs.BTreeMap.{get}
use Rattle.oct_key.specs.Order.{key_cmp}
use Rattle.oct_change.proofs.Firsts.{first_put, first_kept, few_put, few_kept}
use Rattle.oct_change.proofs.changes.Changes.first_of_each.Goals as goal
use Rattle.oct_change.proofs.changes.Changes.first_of_each.Goals.{then-not-contains_key+in_ok-insert}
use Rattle.oct_change.proofs.changes.Changes.first_of_each.Goals.{else-not-contains_key}

pub loop-note-preserved : goal.loop-note-preserved
loop-note-preserved c = elim c.if-not-contains_key.branch [
  | then-not-contains_key+in_ok-insert w ↦ (
    λ k. ap (λ m. get key_cmp m k) w.first-is
        ∙ first_put c.deref-note-items.result.now c.loop-note.note-index _ c.loop-note.first
        w.insert.new.self c.loop-note-test.true c.loop-note.invariant.0 (sym c.contains_key.ensures
        ∙ w.if-not-contains_key.true) w.in_ok-insert.ensures.updates k,
    few_put _ _ c.loop-note.first w.insert.new.self c.if-not-contains_key.first w.first-is
        w.in_ok-insert.ensures.len c.loop-note.invariant.1,
  )
  | else-not-contains_key w ↦ (
    λ k. ap (λ m. get key_cmp m k) w.first-is
        ∙ first_kept c.deref-note-items.result.now c.loop-note.note-index _ c.loop-note.first
        c.loop-note-test.true c.loop-note.invariant.0 (sym c.contains_key.ensures
        ∙ w.if-not-contains_key.false) k,
    few_kept _ c.loop-note.first c.if-not-contains_key.first w.first-is c.loop-note.invariant.1,
  )
]
