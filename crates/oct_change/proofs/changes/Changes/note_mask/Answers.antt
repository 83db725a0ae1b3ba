use Rattle.std.proofs.Common.{◌<◌, ◌^◌, ◌-◌, ◌≡◌, ◌∷◌, ◌∙◌, ap, sym, subst, map, arith, rules}
use Rattle.std.proofs.Common.{refl, bit_and}
use Rattle.std.specs.Int.{w64, trailing_zeros}
use Rattle.oct_brick.specs.Masks.{codes_of}
use Rattle.oct_brick.specs.Voxels.{coded_voxel}
use Rattle.oct_tree.specs.Tree.{value_at}
use Rattle.oct_values.specs.Classes.{classes_of}
use Rattle.oct_change.proofs.Noting.{under_way_start, under_way_step, under_way_room, under_way_end}
use Rattle.oct_change.proofs.Masks.{next_voxel, place_below, placed_code, placed_below, voxel_is}
use Rattle.oct_change.proofs.Masks.{no_voxels}
use Rattle.oct_change.proofs.changes.Changes.note_mask.Goals as goal

pub returns-clause-room : goal.returns-clause-room
returns-clause-room c = c.loop-left.invariant.1

pub loop-left-init : goal.loop-left-init
loop-left-init c = (under_way_start _ _ _ _, refl)

pub note_class-requires : goal.note_class-requires
note_class-requires c =
    let fits : c.loop-left.left < 2 ^ 64 = search rules in
    let some : 0 < c.loop-left.left = omega (arith, c.loop-left-test.true) in
    under_way_room _ _ _ _ _ _ _ _ _ c.loop-left.invariant.0
    (next_voxel c.args.code c.loop-left.left some fits) c.requires.room

pub loop-left-preserved : goal.loop-left-preserved
loop-left-preserved c =
    let fits : c.loop-left.left < 2 ^ 64 = search rules in
    let some : 0 < c.loop-left.left = omega (arith, c.loop-left-test.true) in
    let same = placed_code c.args.code c.from.result (trailing_zeros w64 c.loop-left.left)
    c.requires.code c.from.ensures in
    let below = subst (λ n. n < 2 ^ 48) (sym same)
    (placed_below c.args.code (trailing_zeros w64 c.loop-left.left) c.requires.code
    (place_below c.loop-left.left some fits)) in
    let key = voxel_is c.from_morton.result _ below c.from_morton.ensures.only
    ∙ ap coded_voxel same in
    let taken : map coded_voxel (codes_of c.args.code c.loop-left.left) ≡ c.from_morton.result ∷
    map coded_voxel (codes_of c.args.code (bit_and c.loop-left.left (c.loop-left.left - 1))) =
    next_voxel c.args.code c.loop-left.left some fits
    ∙ ap (λ k. k ∷ map coded_voxel (codes_of c.args.code
    (bit_and c.loop-left.left (c.loop-left.left - 1)))) (sym key) in (
      under_way_step (classes_of c.args.tree.now.odds (value_at c.args.tree.now)) _ _ _
          c.from_morton.result _ _ _ _ _ _ c.loop-left.invariant.0 taken c.note_class.ensures.noted
          c.note_class.ensures.spare,
      c.note_class.ensures.room ∙ c.loop-left.invariant.1,
    )

pub returns-clause-noted : goal.returns-clause-noted
returns-clause-noted c = (under_way_end _ _ _ _ _ _ _ c.loop-left.invariant.0
    (no_voxels c.args.code c.loop-left.left c.loop-left-test.false)).0

pub returns-clause-spare : goal.returns-clause-spare
returns-clause-spare c = (under_way_end _ _ _ _ _ _ _ c.loop-left.invariant.0
    (no_voxels c.args.code c.loop-left.left c.loop-left-test.false)).1
