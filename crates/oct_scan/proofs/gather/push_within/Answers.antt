use Rattle.std.proofs.Common.{List, refl, rules}
use Rattle.oct_key.specs.Boxes.{Window}
use Rattle.oct_key.specs.Voxel.{Voxel, IsInMap}
use Rattle.oct_scan.proofs.Parts.{entered_so, ok_so, outside_added, rest_so}
use Rattle.oct_scan.proofs.gather.push_within.Goals as goal

pub returns-in_default : goal.returns-in_default
returns-in_default g c = record {
  scanned = outside_added c.args.window.now c.args.bricks.now c.args.end
      (g.W.BeamWalk.to_come c.args.walk) (c.in_default.ensures.none refl);
  hits = λ k. (λ h. h, λ h. h);
  bricks = c.requires.bricks;
}

pub returns-then-holds : goal.returns-then-holds
returns-then-holds g c =
    let rest : List Voxel = g.W.BeamWalk.to_come c.come_in.new.walk in
    let come = c.in-Some.ensures.first in
    let box : Window = c.args.window.now in
    let on_map : IsInMap c.args.end = search rules in
    ok_so c.push_steps.result (λ h. entered_so box c.args.end (g.W.BeamWalk.to_come c.args.walk)
    rest c.in-Some.first c.around.result c.with_scanned-brick.result c.args.bricks.now
    c.push_steps.new.bricks on_map come c.around.ensures.scanned
    c.with_scanned-brick.ensures.scanned
    (rest_so box come.first c.args.end rest c.with_scanned-brick.result c.args.bricks.now
    c.push_steps.new.bricks come.inside (c.holds.ensures.means.0 c.if-holds.true) come.is_way
    (h c.args.end on_map come.is_way.ends)))
    c.push_steps.ensures

pub returns-else-holds : goal.returns-else-holds
returns-else-holds g c =
    let come = c.in-Some.ensures.first in
    let on_map : IsInMap c.args.end = search rules in
    ok_so c.push_to_exit.result (λ h. entered_so c.args.window.now c.args.end
    (g.W.BeamWalk.to_come c.args.walk) (g.W.BeamWalk.to_come c.come_in.new.walk) c.in-Some.first
    c.around.result c.with_scanned-brick.result c.args.bricks.now c.push_to_exit.new.bricks on_map
    come c.around.ensures.scanned c.with_scanned-brick.ensures.scanned
    (h come.first c.args.end come.inside on_map come.is_way))
    c.push_to_exit.ensures
