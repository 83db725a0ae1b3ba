use Rattle.std.proofs.Common.{◌≡◌, ◌+◌, ◌<◌, ◌≤◌, sym, subst, ◌∙◌, ap, arith, rules, Some, false}
use Rattle.std.proofs.lemmas.Bool.{false≢true}
use Rattle.oct_key.specs.Block.{Cube}
use Rattle.oct_key.specs.CubeOf.{cube_of}
use Rattle.oct_key.proofs.Blocks.{block_in_map, depth_child_of}
use Rattle.oct_arena.specs.Entries.{spare}
use Rattle.oct_tree.proofs.Paths.{some_injective}
use Rattle.oct_edit.specs.Areas.{MeetsArea, area_events, splits_in}
use Rattle.oct_edit.specs.Steps.{IsTouched}
use Rattle.oct_edit.proofs.Areas.{IsParted, parted, parted_low, area_still, event_in_area}
use Rattle.oct_edit.proofs.AreaWalks.{IsAreaUnderWay, area_start, area_place, area_enters}
use Rattle.oct_edit.proofs.AreaWalks.{area_room, area_step, area_skip, area_back, area_end}
use Rattle.oct_edit.proofs.AreaWalks.{area_spared}
use Rattle.oct_edit.proofs.area.+touch_part.Goals as goal
use Rattle.oct_edit.proofs.area.+touch_part.Goals.{After-is_whole, then-meets, else-meets}

pub returns-then-takes_nothing-clause-touched : goal.returns-then-takes_nothing-clause-touched
returns-then-takes_nothing-clause-touched t c =
    area_still c.args.tree.now c.args.p (cube_of c.args.block) c.args.area.now c.args.event
    c.requires.linked c.requires.place c.requires.block (block_in_map c.args.block)
    c.takes_nothing.ensures.bounds (c.takes_nothing.ensures.unmoved.0 c.if-takes_nothing.true)

pub returns-then-is_whole-clause-touched : goal.returns-then-is_whole-clause-touched
returns-then-is_whole-clause-touched t c =
    let whole = c.is_whole.ensures.0 c.if-is_whole.true in
    c.apply_at.ensures.whole (cube_of c.args.block) (area_events c.args.area.now c.args.event)
    (block_in_map c.args.block) c.requires.block
    (λ k v held. event_in_area c.args.area.now c.args.event k (whole.1 k held))

-- the block has to be entered
here : (t : _) (c : After-is_whole t) → c.is_whole.result ≡ false
    → IsParted c.args.tree.now c.args.p (cube_of c.args.block) c.args.area.now c.args.event
here t c part =
    parted c.args.tree.now c.args.p (cube_of c.args.block) c.args.area.now c.args.event
    c.takes_nothing.result c.is_whole.result c.requires.linked c.requires.place c.requires.block
    (block_in_map c.args.block) c.requires.meets c.if-takes_nothing.false
    c.takes_nothing.ensures.unmoved part c.is_whole.ensures

low : (t : _) (c : After-is_whole t) → c.is_whole.result ≡ false → c.args.block.depth ≤ 15
low t c part =
    parted_low c.args.tree.now c.args.p (cube_of c.args.block) c.args.area.now c.args.event
    (here t c part)

pub enter-id-requires-clause-depth : goal.enter-id-requires-clause-depth
enter-id-requires-clause-depth t c b e =
    subst (λ (a : Cube). a.depth ≤ 15) (some_injective (sym c.requires.block ∙ e))
    (low t (goal.at.enter-id-requires-clause-depth t c).After-is_whole c.if-is_whole.false)

pub enter-id-requires-clause-room : goal.enter-id-requires-clause-room
enter-id-requires-clause-room t c =
    area_enters c.args.tree.now c.args.p (cube_of c.args.block) c.args.area.now c.args.event
    (here t (goal.at.enter-id-requires-clause-room t c).After-is_whole c.if-is_whole.false)
    c.requires.room

pub loop-i-init : goal.loop-i-init
loop-i-init t c =
    area_start c.args.tree.now c.enter-id.new.tree c.args.p (cube_of c.args.block) c.enter-id.result
    c.args.area.now c.args.event (c.enter-id.ensures (cube_of c.args.block) c.requires.block)

pub child-child-requires-clause-depth : goal.child-child-requires-clause-depth
child-child-requires-clause-depth t c =
    low t (goal.at.child-child-requires-clause-depth t c).After-is_whole c.if-is_whole.false

pub touch_part-requires : goal.touch_part-requires
touch_part-requires t c =
    let parts = here t (goal.at.touch_part-requires t c).After-is_whole c.if-is_whole.false in
    let deep = low t (goal.at.touch_part-requires t c).After-is_whole c.if-is_whole.false in
    let few : c.loop-i.i < 8 = omega arith in
    let entered = c.enter-id.ensures (cube_of c.args.block) c.requires.block in
    let place =
    area_place c.args.tree.now c.enter-id.new.tree c.loop-i.tree c.args.p (cube_of c.args.block)
    c.enter-id.result c.args.area.now c.args.event c.loop-i.i c.loop-i.i few entered
    c.loop-i.invariant in
    let room =
    area_room c.args.tree.now c.enter-id.new.tree c.loop-i.tree c.args.p (cube_of c.args.block)
    c.enter-id.result c.args.area.now c.args.event c.loop-i.i parts few c.requires.room entered
    c.loop-i.invariant in
    let child = c.child-child.ensures.exact in
    let level : c.child-child.result.depth ≡ c.args.block.depth + 1 =
    ap (λ (a : Cube). a.depth) child ∙ depth_child_of (cube_of c.args.block) c.loop-i.i in
    let d = c.decreases in (
      search rules,
      (
        c.loop-i.invariant.done.linked,
        (
          place.0,
          (
            place.1 ∙ ap Some (sym child),
            (
              c.meets.ensures.0 c.if-meets.true,
              (
                subst (λ a. splits_in c.loop-i.tree c.args.area.now c.args.event a
                    ≤ spare c.loop-i.tree.groups) (sym child) room,
                c.requires.small,
              ),
            ),
          ),
        ),
      ),
    )

pub loop-i-preserved : goal.loop-i-preserved
loop-i-preserved t c =
    let parts = here t (goal.at.loop-i-preserved t c).After-is_whole c.if-is_whole.false in
    let few : c.loop-i.i < 8 = omega arith in
    let entered = c.enter-id.ensures (cube_of c.args.block) c.requires.block in
    let child = c.child-child.ensures.exact in
    elim c.if-meets.branch [
      | then-meets w ↦ subst (λ x. IsAreaUnderWay c.args.tree.now c.enter-id.new.tree x c.args.p
          (cube_of c.args.block) c.args.area.now c.args.event (c.loop-i.i + 1))
          (sym w.tree-is)
          (area_step c.args.tree.now c.enter-id.new.tree c.loop-i.tree w.touch_part.new.tree
          c.args.p (cube_of c.args.block) c.enter-id.result c.args.area.now c.args.event c.loop-i.i
          parts few entered c.loop-i.invariant
          (subst (λ a. IsTouched c.loop-i.tree w.touch_part.new.tree a
          (area_events c.args.area.now c.args.event) false)
          child w.touch_part.ensures.touched)
          (subst (λ a. spare c.loop-i.tree.groups ≤ spare w.touch_part.new.tree.groups
          + splits_in c.loop-i.tree c.args.area.now c.args.event a)
          child w.touch_part.ensures.room))
      | else-meets w ↦ subst (λ x. IsAreaUnderWay c.args.tree.now c.enter-id.new.tree x c.args.p
          (cube_of c.args.block) c.args.area.now c.args.event (c.loop-i.i + 1))
          (sym w.tree-is)
          (area_skip c.args.tree.now c.enter-id.new.tree c.loop-i.tree c.args.p
          (cube_of c.args.block) c.args.area.now c.args.event c.loop-i.i parts few
          (λ meets. false≢true
          (sym w.if-meets.false
          ∙ c.meets.ensures.1 (subst (MeetsArea c.args.area.now) (sym child) meets)))
          c.loop-i.invariant)
    ]

pub close-requires-clause-linked : goal.close-requires-clause-linked
close-requires-clause-linked t c = c.loop-i.invariant.done.linked

pub close-requires-clause-place : goal.close-requires-clause-place
close-requires-clause-place t c = c.loop-i.invariant.done.place

pub close-requires-clause-inner : goal.close-requires-clause-inner
close-requires-clause-inner t c =
    area_back c.args.tree.now c.enter-id.new.tree c.loop-i.tree c.args.p (cube_of c.args.block)
    c.enter-id.result c.args.area.now c.args.event c.loop-i.i
    (c.enter-id.ensures (cube_of c.args.block) c.requires.block) c.loop-i.invariant

pub returns-clause-touched : goal.returns-clause-touched
returns-clause-touched t c =
    let last : c.loop-i.i ≡ 8 = omega arith in
    area_end c.args.tree.now c.enter-id.new.tree c.loop-i.tree c.close.new.tree c.args.p
    (cube_of c.args.block) c.enter-id.result c.args.area.now c.args.event c.loop-i.i last
    (here t (goal.at.returns-clause-touched t c).After-is_whole c.if-is_whole.false)
    (c.enter-id.ensures (cube_of c.args.block) c.requires.block) c.loop-i.invariant
    (c.close.ensures (cube_of c.args.block) c.loop-i.invariant.done.block)

pub returns-clause-room : goal.returns-clause-room
returns-clause-room t c =
    let last : c.loop-i.i ≡ 8 = omega arith in
    area_spared c.args.tree.now c.enter-id.new.tree c.loop-i.tree c.close.new.tree c.args.p
    (cube_of c.args.block) c.enter-id.result c.args.area.now c.args.event c.loop-i.i last
    (here t (goal.at.returns-clause-room t c).After-is_whole c.if-is_whole.false)
    (c.enter-id.ensures (cube_of c.args.block) c.requires.block) c.loop-i.invariant
    (c.close.ensures (cube_of c.args.block) c.loop-i.invariant.done.block)
