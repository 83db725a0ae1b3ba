use Rattle.std.proofs.Common.{◌<◌, ◌≤◌, length, refl, sym, subst, rules}
use Rattle.oct_key.specs.Block.{root_block}
use Rattle.oct_arena.specs.Entries.{spare}
use Rattle.oct_odds.specs.declared.event.Event.TheVariants.{Add}
use Rattle.oct_tree.proofs.Paths.{some_injective}
use Rattle.oct_edit.specs.Scan.{events_of}
use Rattle.oct_edit.specs.Bricks.{listed}
use Rattle.oct_edit.proofs.BrickCuts.{whole_bricks, all_alike}
use Rattle.oct_tree.specs.Tree.{Tree}
use Rattle.oct_edit.specs.Steps.{IsTouched}
use Rattle.oct_edit.specs.Parts.{IsUpdateIn, need_in}
use Rattle.oct_edit.proofs.Wholes.{same_total, whole_known, whole_need, whole_edited, whole_eager}
use Rattle.oct_edit.proofs.Wholes.{whole_lazy, whole_groups, whole_paths}
use Rattle.oct_edit.proofs.scan.touch_all.Goals as goal

pub touch_within-requires-clause-inside : goal.touch_within-requires-clause-inside
touch_within-requires-clause-inside c b e =
    let some : 0 < length c.args.update.bricks.now = search rules in
    subst (λ a. IsUpdateIn a (listed c.args.update)) (some_injective e)
    (whole_bricks c.args.update.bricks.now (Add c.args.update.hit) (Add c.args.update.miss)
    c.requires.bricks c.requires.ascend some)

pub touch_within-requires-clause-alike : goal.touch_within-requires-clause-alike
touch_within-requires-clause-alike c = all_alike c.args.update.bricks.now c.requires.bricks

pub touch_within-requires-clause-room : goal.touch_within-requires-clause-room
touch_within-requires-clause-room c b e =
    subst (λ a. need_in (events_of (listed c.args.update)) a ≤ spare c.args.tree.now.groups)
    (some_injective e)
    (whole_need (events_of (listed c.args.update)) (spare c.args.tree.now.groups)
    c.requires.room)

pub note_eager-requires : goal.note_eager-requires
note_eager-requires c eager =
    whole_known c.args.tree.now c.touch_within.new.tree (events_of (listed c.args.update))
    c.args.lazy c.tidiness-known.result (c.touch_within.ensures.touched root_block refl) eager
    c.tidiness-known.ensures.so

whole : (c : goal.After-note_eager)
    → IsTouched c.args.tree.now c.note_eager.new.tree root_block (events_of (listed c.args.update))
    c.args.lazy
whole c =
    subst (λ (u : Tree). IsTouched c.args.tree.now u root_block (events_of (listed c.args.update))
    c.args.lazy)
    (sym c.note_eager.ensures) (c.touch_within.ensures.touched root_block refl)

pub returns-clause-edited : goal.returns-clause-edited
returns-clause-edited c =
    whole_edited c.args.tree.now c.note_eager.new.tree (events_of (listed c.args.update))
    c.args.lazy (whole c) c.requires.well_formed

pub returns-clause-eager : goal.returns-clause-eager
returns-clause-eager c eager =
    whole_eager c.args.tree.now c.note_eager.new.tree (events_of (listed c.args.update)) c.args.lazy
    (whole c) eager

pub returns-clause-lazily : goal.returns-clause-lazily
returns-clause-lazily c lazy =
    whole_lazy c.args.tree.now c.note_eager.new.tree (events_of (listed c.args.update)) c.args.lazy
    (whole c) lazy

pub returns-clause-path : goal.returns-clause-path
returns-clause-path c eager =
    whole_paths c.args.tree.now c.note_eager.new.tree (events_of (listed c.args.update)) c.args.lazy
    (whole c) eager

pub returns-clause-room : goal.returns-clause-room
returns-clause-room c =
    (let r = whole c in
    same_total c.args.tree.now.groups c.note_eager.new.tree.groups r.apart.outside.length)

pub returns-clause-groups : goal.returns-clause-groups
returns-clause-groups c =
    whole_groups c.args.tree.now c.note_eager.new.tree (events_of (listed c.args.update))
    c.args.lazy (whole c) (rw (c.note_eager.ensures) (c.touch_within.ensures.room root_block refl))
