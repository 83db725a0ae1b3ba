use Rattle.std.proofs.Common.{rules, Some, length, refl, sym, ap}
use Rattle.oct_num.proofs.Results.{on_any_err}
use Rattle.oct_key.specs.CubeOf.{cube_of}
use Rattle.oct_tree.specs.Classes.{classes_in}
use Rattle.oct_export.proofs.Pushes.{pushed_piece, pushed_three, third_cut, second_cut}
use Rattle.oct_export.proofs.Pushes.{first_cut, cut_of_none, pushed_whole, pushed_cut}
use Rattle.oct_export.proofs.Sizes.{scene_parts, scene_begins, scene_length}
use Rattle.oct_export.proofs.scene.vrml.Goals as goal

pub push_boxes-requires-clause-block : goal.push_boxes-requires-clause-block
push_boxes-requires-clause-block g c = ap Some (sym c.whole_map.ensures)

pub returns-in_err-push-clause-cut : goal.returns-in_err-push-clause-cut
returns-in_err-push-clause-cut g c =
    on_any_err c.from_residual.result _ (cut_of_none _ _ _ _ c.new-gather.ensures
    (first_cut c.as_bytes-head.result.now _ _ _ _ _ c.in_err-push.ensures.cut
    (scene_begins (classes_in c.args.tree.now) c.args.tree.now.res c.as_bytes-head.result.now
    (search rules))))

pub returns-in_err-found-clause-cut : goal.returns-in_err-found-clause-cut
returns-in_err-found-clause-cut g c =
    on_any_err c.from_residual-in_err-found.result _ (cut_of_none _ _ _ _ c.new-gather.ensures
    (second_cut c.as_bytes-head.result.now _ _ _ _ _ _ _ _
    (pushed_piece c.as_bytes-head.result.now c.new-gather.result _ _ _ _ c.in_ok-push.ensures.handed
    c.in_ok-push.ensures.held) c.in_err-found.ensures.cut
    (scene_parts (classes_in c.args.tree.now) c.args.tree.now.res c.args.tree.now.res
    c.as_bytes-head.result.now (cube_of c.whole_map.result) (cube_of c.whole_map.result) _
    (search rules) c.whole_map.ensures c.whole_map.ensures refl refl)))

pub returns-in_err-line-clause-cut : goal.returns-in_err-line-clause-cut
returns-in_err-line-clause-cut g c =
    on_any_err c.from_residual-in_err-line.result _ (cut_of_none _ _ _ _ c.new-gather.ensures
    (third_cut _ _ _ _ _ _ _ _ _ _ _
    (scene_parts (classes_in c.args.tree.now) c.args.tree.now.res c.res.result
    c.as_bytes-head.result.now (cube_of c.whole_map.result)
    (cube_of c.whole_map-2.result) c.in_ok-found.found.full
    (search rules) c.whole_map.ensures c.whole_map-2.ensures c.in_ok-found.ensures.full
    c.res.ensures)
    (pushed_piece c.as_bytes-head.result.now c.new-gather.result _ _ _ _ c.in_ok-push.ensures.handed
    c.in_ok-push.ensures.held)
    c.in_ok-found.ensures.pushed c.in_err-line.ensures.cut))

pub returns-in_err-flush-clause-cut : goal.returns-in_err-flush-clause-cut
returns-in_err-flush-clause-cut g c =
    on_any_err c.from_residual-in_err-flush.result _ (pushed_cut _ _ _ _ _ _
    (pushed_three _ _ _ _ _ _ _ _ _ _ _ _
    (scene_parts (classes_in c.args.tree.now) c.args.tree.now.res c.res.result
    c.as_bytes-head.result.now (cube_of c.whole_map.result)
    (cube_of c.whole_map-2.result) c.in_ok-found.found.full
    (search rules) c.whole_map.ensures c.whole_map-2.ensures c.in_ok-found.ensures.full
    c.res.ensures)
    (pushed_piece c.as_bytes-head.result.now c.new-gather.result _ _ _ _ c.in_ok-push.ensures.handed
    c.in_ok-push.ensures.held)
    c.in_ok-found.ensures.pushed c.in_ok-line.ensures.pushed) c.new-gather.ensures
    c.in_err-flush.ensures.err)

pub returns-clause-written : goal.returns-clause-written
returns-clause-written g c =
    pushed_whole _ _ _ _ _ _
    (pushed_three _ _ _ _ _ _ _ _ _ _ _ _
    (scene_parts (classes_in c.args.tree.now) c.args.tree.now.res c.res.result
    c.as_bytes-head.result.now (cube_of c.whole_map.result)
    (cube_of c.whole_map-2.result) c.in_ok-found.found.full
    (search rules) c.whole_map.ensures c.whole_map-2.ensures c.in_ok-found.ensures.full
    c.res.ensures)
    (pushed_piece c.as_bytes-head.result.now c.new-gather.result _ _ _ _ c.in_ok-push.ensures.handed
    c.in_ok-push.ensures.held)
    c.in_ok-found.ensures.pushed c.in_ok-line.ensures.pushed) c.new-gather.ensures
    c.in_ok-flush.ensures.ok

pub returns-clause-length : goal.returns-clause-length
returns-clause-length g c =
    scene_length (classes_in c.args.tree.now) c.args.tree.now.res c.as_bytes-head.result.now _ _
    (length c.as_bytes-head.result.now)
    c.in_ok-found.found.bytes c.in_ok-line.line _ (search rules) refl c.in_ok-found.ensures.bytes
    c.in_ok-line.ensures.bytes
    (scene_parts (classes_in c.args.tree.now) c.args.tree.now.res c.res.result
    c.as_bytes-head.result.now (cube_of c.whole_map.result)
    (cube_of c.whole_map-2.result) c.in_ok-found.found.full
    (search rules) c.whole_map.ensures c.whole_map-2.ensures c.in_ok-found.ensures.full
    c.res.ensures)
    refl (search rules)
