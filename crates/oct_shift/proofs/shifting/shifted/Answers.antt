use Rattle.std.proofs.Common.{◌≡◌, ℕ, ◌+◌, ◌∙◌, ap, sym, subst, arith, refl}
use Rattle.std.proofs.Common.{Err}
use Rattle.oct_key.specs.Block.{root_block, lowest_voxel}
use Rattle.oct_key.specs.CubeOf.{cube_of}
use Rattle.oct_odds.specs.Update.{IsWithin}
use Rattle.oct_arena.specs.Entries.{spare}
use Rattle.oct_arena.specs.Nodes.{value_of}
use Rattle.oct_tree.specs.Filled.{IsFilledWith}
use Rattle.oct_tree.specs.Tree.{Tree}
use Rattle.oct_shift.specs.declared.fault.ShiftFault.TheVariants.{TooMany}
use Rattle.oct_shift.specs.Moving.{groups_in, moved_values}
use Rattle.oct_shift.proofs.Wholes.{IsWhole, count_moved, moved_within, whole_filled, whole_plain}
use Rattle.oct_shift.proofs.Wholes.{whole_moved, same_many}
use Rattle.oct_shift.proofs.shifting.shifted.Goals as goal
use Rattle.oct_shift.proofs.shifting.shifted.Goals.{Joined-part-gt0, then-part-gt0+in_ok-reserve}
use Rattle.oct_shift.proofs.shifting.shifted.Goals.{else-part-gt0}

pub returns-then-part-from-clause-refused : goal.returns-then-part-from-clause-refused
returns-then-part-from-clause-refused c = λ over.
    (let v = moved_values c.args.tree.now c.of-offset.result in
    let count = count_moved c.args.shift c.of-offset.result c.args.tree.now c.of-offset.ensures in
    ap (λ (n : ℕ). Err (TooMany n)) (c.count_part-part.ensures.groups
    ∙ ap (groups_in v) c.whole_map-block.ensures ∙ sym count))

pub returns-then-part-from-clause-many : goal.returns-then-part-from-clause-many
returns-then-part-from-clause-many c = λ groups is.
    (let v = moved_values c.args.tree.now c.of-offset.result in
    let count = count_moved c.args.shift c.of-offset.result c.args.tree.now c.of-offset.ensures in
    let same = same_many c.count_part-part.result.groups groups is in
    let from = c.from.ensures in
    let over = c.if-part-from.true in (
      sym same ∙ c.count_part-part.ensures.groups
          ∙ ap (groups_in v) c.whole_map-block.ensures ∙ sym count,
      omega (arith, same, over, from),
    ))

pub returns-in_err-reserve-clause-refused : goal.returns-in_err-reserve-clause-refused
returns-in_err-reserve-clause-refused c = λ over.
    (let v = moved_values c.args.tree.now c.of-offset.result in
    let count = count_moved c.args.shift c.of-offset.result c.args.tree.now c.of-offset.ensures in
    let same = c.count_part-part.ensures.groups
    ∙ ap (groups_in v) c.whole_map-block.ensures ∙ sym count in
    let from = c.from.ensures in
    let under = c.if-part-from.false in
    absurd (omega (arith, same, over, from, under)))

pub returns-in_err-reserve-clause-memory : goal.returns-in_err-reserve-clause-memory
returns-in_err-reserve-clause-memory c = λ is.
    (let v = moved_values c.args.tree.now c.of-offset.result in
    let count = count_moved c.args.shift c.of-offset.result c.args.tree.now c.of-offset.ensures in
    let same = c.count_part-part.ensures.groups
    ∙ ap (groups_in v) c.whole_map-block.ensures ∙ sym count in
    let some = c.if-part-gt0.true in
    omega (arith, same, some))

pub set_place-requires-clause-within : goal.set_place-requires-clause-within
set_place-requires-clause-within c =
    subst (λ o. IsWithin o (value_of c.plain_node.result))
    (sym (ap (λ (t : Tree). t.odds) c.new-moved.ensures.exact ∙ c.odds.ensures))
    (subst (IsWithin c.args.tree.now.odds)
    (sym (c.plain_node.ensures.value ∙ c.count_part-part.ensures.value))
    (moved_within c.args.tree.now c.of-offset.result
    (lowest_voxel (cube_of c.whole_map-block.result)) c.shape.ensures.linked))

-- what the tree has become
filled : (c : Joined-part-gt0)
    → IsWhole (moved_values c.args.tree.now c.of-offset.result) c.new-moved.result
    c.if-part-gt0.moved
filled c =
    let v = moved_values c.args.tree.now c.of-offset.result in
    let count = c.count_part-part.ensures.groups ∙ ap (groups_in v) c.whole_map-block.ensures in
    let empty = ap (λ (t : Tree). t.groups) c.new-moved.ensures.exact in
    elim c.if-part-gt0.branch [
      | then-part-gt0+in_ok-reserve w ↦
          (let some = w.if-part-gt0.true in
          let into = w.fill_part.ensures in
          let is : c.count_part-part.result.groups + 16 ≡ groups_in v root_block + 16 =
          ap (λ (n : ℕ). n + 16) count in
          subst (IsWhole v c.new-moved.result) (sym w.moved-is)
          (whole_filled c.new-moved.result w.reserve.new.self w.fill_part.new.moved v
          (c.count_part-part.result.groups + 16) empty w.reserve.ensures.kept w.reserve.ensures.live
          (let few = w.reserve.ensures.few in few)
          is (omega (arith, some, count)) w.fill_part.ensures.linked
          (subst (λ b. IsFilledWith w.reserve.new.self w.fill_part.new.moved b v)
          c.whole_map-block.ensures w.fill_part.ensures.filled)
          (w.fill_part.ensures.room ∙ ap (λ b. spare w.fill_part.new.moved.groups + groups_in v b)
          c.whole_map-block.ensures)))
      | else-part-gt0 w ↦
          (let none = w.if-part-gt0.false in
          subst (IsWhole v c.new-moved.result) (sym w.moved-is)
          (whole_plain c.new-moved.result w.set_place.new.self v w.plain_node.result
          c.count_part-part.result.value empty c.new-moved.ensures.linked
          w.set_place.ensures.linked w.plain_node.ensures.plain w.plain_node.ensures.value
          (c.count_part-part.ensures.value ∙ ap (λ b. v (lowest_voxel b)) c.whole_map-block.ensures)
          (omega (arith, none, count)) (w.set_place.ensures.values root_block refl)
          (w.set_place.ensures.outside root_block refl) w.set_place.ensures.written))
    ]

pub note-requires : goal.note-requires
note-requires c =
    let now = filled (goal.at.note-requires c).Joined-part-gt0 in
    record { fresh = λ _. now.fresh; pruned = λ _. now.pruned }

pub returns-clause-moved : goal.returns-clause-moved
returns-clause-moved c =
    whole_moved c.args.shift c.of-offset.result c.args.tree.now c.new-moved.result c.note.new.self
    c.of-offset.ensures
    (ap (λ (t : Tree). t.res) c.new-moved.ensures.exact ∙ c.res.ensures)
    (ap (λ (t : Tree). t.odds) c.new-moved.ensures.exact ∙ c.odds.ensures)
    (subst (IsWhole (moved_values c.args.tree.now c.of-offset.result) c.new-moved.result)
    (sym c.note.ensures.same) (filled (goal.at.returns-clause-moved c).Joined-part-gt0))

pub returns-clause-refused : goal.returns-clause-refused
returns-clause-refused c = λ over.
    (let v = moved_values c.args.tree.now c.of-offset.result in
    let count = count_moved c.args.shift c.of-offset.result c.args.tree.now c.of-offset.ensures in
    let same = c.count_part-part.ensures.groups
    ∙ ap (groups_in v) c.whole_map-block.ensures ∙ sym count in
    let from = c.from.ensures in
    let under = c.if-part-from.false in
    absurd (omega (arith, same, over, from, under)))
