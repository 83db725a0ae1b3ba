use Rattle.std.proofs.Common.{◌≡◌, ◌+◌, ◌≤◌, ◌∙◌, Some, sym, subst, ap, arith}
use Rattle.std.specs.Prelude.{is_some}
use Rattle.oct_key.specs.Voxel.{Voxel, IsInMap}
use Rattle.oct_key.specs.Values.{SameValues}
use Rattle.oct_odds.specs.declared.event.Event.TheVariants.{Likely}
use Rattle.oct_values.specs.Events.{updated}
use Rattle.oct_arena.specs.Entries.{live, spare}
use Rattle.oct_tree.specs.Tree.{Tree, value_at}
use Rattle.oct_tree.specs.Shape.{IsFresh, IsPruned}
use Rattle.oct_edit.specs.Edits.{IsTidyAlong}
use Rattle.oct_inner.proofs.Likely.{whole_event, whole_need, whole_values, tidy_fresh, tidy_pruned}
use Rattle.oct_inner.proofs.likelihood.maximum_likelihood.Goals as goal

pub touch_box-requires-clause-room : goal.touch_box-requires-clause-room
touch_box-requires-clause-room c = (let none = whole_need in omega (arith, none))

pub note-requires : goal.note-requires
note-requires c =
    let formed = c.touch_box.ensures.edited.well_formed in
    let tidy : (k : Voxel) → IsInMap k → IsTidyAlong c.touch_box.new.tree k =
    λ k v. c.touch_box.ensures.path k v (ap is_some (whole_event Likely k v)) in
    record {
      fresh = λ _. tidy_fresh c.touch_box.new.tree formed tidy;
      pruned = λ _. tidy_pruned c.touch_box.new.tree formed tidy;
    }

pub returns-clause-values : goal.returns-clause-values
returns-clause-values c =
    subst (λ (u : Tree). SameValues (updated c.args.tree.now.odds (λ _. Some Likely)
    (value_at c.args.tree.now)) (value_at u))
    (sym c.note.ensures.same)
    (whole_values c.args.tree.now c.touch_box.new.tree Likely c.touch_box.ensures.edited)

tidy : (c : goal.After-note) (k : Voxel) → IsInMap k → IsTidyAlong c.touch_box.new.tree k
tidy c k v = c.touch_box.ensures.path k v (ap is_some (whole_event Likely k v))

pub returns-clause-fresh : goal.returns-clause-fresh
returns-clause-fresh c =
    subst IsFresh (sym c.note.ensures.same)
    (tidy_fresh c.touch_box.new.tree c.touch_box.ensures.edited.well_formed (tidy c))

pub returns-clause-pruned : goal.returns-clause-pruned
returns-clause-pruned c =
    subst IsPruned (sym c.note.ensures.same)
    (tidy_pruned c.touch_box.new.tree c.touch_box.ensures.edited.well_formed (tidy c))

pub returns-clause-groups : goal.returns-clause-groups
returns-clause-groups c =
    subst (λ (u : Tree). live u.groups ≤ live c.args.tree.now.groups) (sym c.note.ensures.same)
    (let none = whole_need in let grows = c.touch_box.ensures.groups in omega (arith, none, grows))

pub returns-clause-room : goal.returns-clause-room
returns-clause-room c =
    subst (λ (u : Tree). live u.groups + spare u.groups ≡ live c.args.tree.now.groups + spare
    c.args.tree.now.groups)
    (sym c.note.ensures.same) c.touch_box.ensures.room

pub returns-clause-res : goal.returns-clause-res
returns-clause-res c =
    ap (λ (u : Tree). u.res) c.note.ensures.same ∙ c.touch_box.ensures.edited.res

pub returns-clause-odds : goal.returns-clause-odds
returns-clause-odds c =
    ap (λ (u : Tree). u.odds) c.note.ensures.same ∙ c.touch_box.ensures.edited.odds
