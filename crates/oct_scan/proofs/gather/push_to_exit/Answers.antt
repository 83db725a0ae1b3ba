use Rattle.std.proofs.Common.{◌∙◌, List, [], Some, refl, sym, subst}
use Rattle.oct_key.specs.Boxes.{Window}
use Rattle.oct_key.specs.Voxel.{Voxel}
use Rattle.oct_key.specs.Morton.{morton_of}
use Rattle.oct_key.proofs.Interleavings.{morton_injective}
use Rattle.oct_scan.specs.Gathered.{EndsAt, IsHeld, kept}
use Rattle.oct_scan.proofs.CodeBoxes.{held_as}
use Rattle.oct_scan.proofs.Comings.{left_for_good, way_tail}
use Rattle.oct_scan.proofs.Ends.{end_later, end_left}
use Rattle.oct_scan.proofs.Holding.{way_begun, way_all}
use Rattle.oct_scan.proofs.Parts.{way_added, way_last, way_out}
use Rattle.oct_scan.proofs.gather.push_to_exit.Goals as goal
use Rattle.oct_scan.proofs.gather.push_to_exit.Goals.{in-Some+then-not-holds, in_default}

pub loop-code-init : goal.loop-code-init
loop-code-init g c = record {
  way = λ first end way. way;
  bricks = c.requires.bricks;
  current = c.requires.current;
  hits = λ k. (λ h. h, λ h. h);
  scanned = λ first end on_map way. way_begun (morton_of end) c.args.bricks.now
      (kept (Some c.args.window.now) (g.W.BeamWalk.to_come c.args.walk)) c.args.brick;
}

pub loop-code-preserved : goal.loop-code-preserved
loop-code-preserved g c =
    let given = c.in-Some.ensures.next in
    let to_come = g.W.BeamWalk.to_come in
    let rest : List Voxel = to_come c.next_but_last.new.self in
    let i = c.loop-code.invariant in
    let box : Window = c.args.window.now in
    let inside = held_as box given.voxel c.in-Some.code c.of-corners.result.lo
    c.of-corners.result.hi c.holds.result given.on_map given.coded c.of-corners.ensures.lo
    c.of-corners.ensures.hi c.holds.ensures in
    record {
      way = λ first end way. way_tail first end given.voxel (to_come c.loop-code.walk) rest
          given.first c.in-Some.ensures.more (i.way first end way);
      bricks = c.in_ok-brick.ensures.bricks;
      current = c.in_ok-brick.ensures.current;
      hits = λ k. (
        λ h. (i.hits k).0 ((c.in_ok-brick.ensures.hits k).0 h),
        λ h. (c.in_ok-brick.ensures.hits k).1 ((i.hits k).1 h),
      );
      scanned = λ first end on_map way.
          (let other = (end_later end given.voxel rest c.in-Some.ensures.more
          (subst (EndsAt end) given.first (i.way first end way).ends)).0 in
          way_added (morton_of end) (IsHeld c.args.bricks.now c.args.brick)
          (kept (Some box) (to_come c.args.walk)) c.loop-code.bricks c.push_code.new.bricks
          c.loop-code.brick c.in_ok-brick.brick box (to_come c.loop-code.walk) rest given.voxel
          c.in-Some.code given.first (inside ∙ c.if-not-holds.false) given.coded
          (λ same. other (morton_injective given.voxel end given.on_map on_map
          (sym given.coded ∙ same)))
          c.in_ok-brick.ensures.scanned (i.scanned first end on_map way));
    }

pub returns : goal.returns
returns g c = λ first end in_first on_map way.
    let to_come = g.W.BeamWalk.to_come in
    let i = c.loop-code.invariant in
    let box : Window = c.args.window.now in
    record {
      scanned = way_all (morton_of end) (IsHeld c.args.bricks.now c.args.brick)
          (kept (Some box) (to_come c.args.walk)) c.loop-code.bricks c.push_some.new.bricks
          c.loop-code.brick [] refl c.in_ok-push_some.ensures.scanned
          (elim c.match-next_but_last.branch [
            | in-Some+then-not-holds w ↦
                let given = w.in-Some.ensures.next in
                let inside = held_as box given.voxel w.in-Some.code c.of-corners.result.lo
                c.of-corners.result.hi w.holds.result given.on_map given.coded
                c.of-corners.ensures.lo c.of-corners.ensures.hi w.holds.ensures in
                way_out (morton_of end) (IsHeld c.args.bricks.now c.args.brick)
                (kept (Some box) (to_come c.args.walk)) c.loop-code.bricks c.loop-code.brick box
                (to_come c.loop-code.walk)
                (left_for_good box first end given.voxel (to_come c.loop-code.walk)
                (to_come c.next_but_last.new.self) given.first in_first
                (inside ∙ w.if-not-holds.true) (i.way first end way))
                (i.scanned first end on_map way)
            | in_default w ↦
                way_last end (IsHeld c.args.bricks.now c.args.brick)
                (kept (Some box) (to_come c.args.walk)) c.loop-code.bricks c.loop-code.brick box
                (to_come c.loop-code.walk)
                (end_left end (to_come c.loop-code.walk) w.in_default.ensures.none.1
                (i.way first end way).ends) (i.scanned first end on_map way)
          ]);
      hits = λ k. (
        λ h. (i.hits k).0 ((c.in_ok-push_some.ensures.hits k).0 h),
        λ h. (c.in_ok-push_some.ensures.hits k).1 ((i.hits k).1 h),
      );
      bricks = c.in_ok-push_some.ensures.bricks;
    }
