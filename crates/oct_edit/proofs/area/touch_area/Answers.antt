use Rattle.std.proofs.Common.{◌+◌, ◌≤◌, ◌∙◌, sym, subst, false}
use Rattle.std.proofs.lemmas.Bool.{false≢true}
use Rattle.oct_key.specs.Block.{root_block}
use Rattle.oct_arena.specs.Entries.{spare}
use Rattle.oct_tree.specs.Tree.{Tree}
use Rattle.oct_edit.specs.Areas.{MeetsArea, area_events, splits_in}
use Rattle.oct_edit.specs.Steps.{IsTouched}
use Rattle.oct_edit.proofs.AreaWalks.{area_groups, nowhere_edited}
use Rattle.oct_edit.proofs.Wholes.{same_total, whole_known, whole_edited, whole_eager, whole_paths}
use Rattle.oct_edit.proofs.area.touch_area.Goals as goal
use Rattle.oct_edit.proofs.area.touch_area.Goals.{After-touch_part, After-note}

pub returns-then-not-meets-clause-edited : goal.returns-then-not-meets-clause-edited
returns-then-not-meets-clause-edited c =
    nowhere_edited c.args.tree.now c.args.area c.args.event c.requires.well_formed
    (λ m. false≢true (sym c.if-not-meets.true
    ∙ c.meets.ensures.1 (subst (MeetsArea c.args.area) (sym c.whole_map-map.ensures) m)))

-- the edit within the whole map
touched : (c : After-touch_part)
    → IsTouched c.args.tree.now c.touch_part.new.tree root_block
    (area_events c.args.area c.args.event) false
touched c =
    subst (λ b. IsTouched c.args.tree.now c.touch_part.new.tree b
    (area_events c.args.area c.args.event) false)
    c.whole_map-map.ensures c.touch_part.ensures.touched

noted : (c : After-note)
    → IsTouched c.args.tree.now c.note.new.self root_block
    (area_events c.args.area c.args.event) false
noted c =
    subst (λ (u : Tree). IsTouched c.args.tree.now u root_block
    (area_events c.args.area c.args.event) false)
    (sym c.note.ensures.same)
    (subst (λ b. IsTouched c.args.tree.now c.touch_part.new.tree b
    (area_events c.args.area c.args.event) false)
    c.whole_map-map.ensures c.touch_part.ensures.touched)

pub note-requires : goal.note-requires
note-requires c =
    whole_known c.args.tree.now c.touch_part.new.tree (area_events c.args.area c.args.event)
    false c.tidiness-known.result (touched (goal.at.note-requires c).After-touch_part)
    (λ h. false≢true h) c.tidiness-known.ensures.so

pub returns-clause-edited : goal.returns-clause-edited
returns-clause-edited c =
    whole_edited c.args.tree.now c.note.new.self (area_events c.args.area c.args.event)
    false (noted c) c.requires.well_formed

pub returns-clause-eager : goal.returns-clause-eager
returns-clause-eager c =
    whole_eager c.args.tree.now c.note.new.self (area_events c.args.area c.args.event)
    false (noted c) (λ h. false≢true h)

pub returns-clause-path : goal.returns-clause-path
returns-clause-path c =
    whole_paths c.args.tree.now c.note.new.self (area_events c.args.area c.args.event)
    false (noted c) (λ h. false≢true h)

pub returns-clause-groups : goal.returns-clause-groups
returns-clause-groups c =
    area_groups c.args.tree.now c.note.new.self c.args.area c.args.event (noted c)
    (subst (λ (u : Tree). spare c.args.tree.now.groups ≤ spare u.groups
    + splits_in c.args.tree.now c.args.area c.args.event root_block)
    (sym c.note.ensures.same)
    (subst (λ b. spare c.args.tree.now.groups ≤ spare c.touch_part.new.tree.groups
    + splits_in c.args.tree.now c.args.area c.args.event b)
    c.whole_map-map.ensures c.touch_part.ensures.room))

pub returns-clause-room : goal.returns-clause-room
returns-clause-room c =
    same_total c.args.tree.now.groups c.note.new.self.groups (noted c).apart.outside.length
