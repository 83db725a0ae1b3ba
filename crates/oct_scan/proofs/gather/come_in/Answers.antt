use Rattle.std.proofs.Common.{◌∙◌, List, sym, subst}
use Rattle.oct_key.specs.Voxel.{Voxel}
use Rattle.oct_scan.specs.Gathered.{EndsAt, IsSpanned}
use Rattle.oct_scan.proofs.CodeBoxes.{held_as}
use Rattle.oct_scan.proofs.Comings.{came_in, goes_on, not_yet, stays_beyond, stays_out}
use Rattle.oct_scan.proofs.Ends.{end_later, end_left}
use Rattle.oct_scan.proofs.gather.come_in.Goals as goal

pub returns-then-holds-clause-first : goal.returns-then-holds-clause-first
returns-then-holds-clause-first g c =
    let given = c.in-Some.ensures.next in
    let i = c.loop-code.invariant in
    let inside = held_as c.args.window.now given.voxel c.in-Some.code c.of-corners.result.lo
    c.of-corners.result.hi c.holds.result given.on_map given.coded c.of-corners.ensures.lo
    c.of-corners.ensures.hi c.holds.ensures in
    came_in c.args.window.now c.args.end (g.W.BeamWalk.to_come c.args.walk.now)
    (g.W.BeamWalk.to_come c.loop-code.walk) (g.W.BeamWalk.to_come c.next_but_last.new.self)
    given.voxel c.in-Some.code given.first c.in-Some.ensures.more given.on_map given.coded
    (inside ∙ c.if-holds.true) i.ends i.onward i.same

pub returns-then-is_passed_by-clause-none : goal.returns-then-is_passed_by-clause-none
returns-then-is_passed_by-clause-none g c = λ none.
    let given = c.in-Some.ensures.next in
    let i = c.loop-code.invariant in
    stays_beyond c.args.window.now c.args.end (g.W.BeamWalk.to_come c.args.walk.now)
    (g.W.BeamWalk.to_come c.loop-code.walk) (g.W.BeamWalk.to_come c.next_but_last.new.self)
    given.voxel given.first i.onward
    (λ l spanned inside. c.is_passed_by.ensures c.if-is_passed_by.true l
    (subst (λ v. IsSpanned v c.args.end l)
    (c.from_morton.ensures.only given.voxel given.on_map (sym given.coded)) spanned) inside)
    i.same

pub loop-code-preserved-else-is_passed_by : goal.loop-code-preserved-else-is_passed_by
loop-code-preserved-else-is_passed_by g c =
    let given = c.in-Some.ensures.next in
    let rest : List Voxel = g.W.BeamWalk.to_come c.next_but_last.new.self in
    let i = c.loop-code.invariant in
    let inside = held_as c.args.window.now given.voxel c.in-Some.code c.of-corners.result.lo
    c.of-corners.result.hi c.holds.result given.on_map given.coded c.of-corners.ensures.lo
    c.of-corners.ensures.hi c.holds.ensures in
    record {
      ends = (end_later c.args.end given.voxel rest c.in-Some.ensures.more
          (subst (EndsAt c.args.end) given.first i.ends)).1;
      onward = goes_on c.args.end given.voxel _ rest given.first i.onward;
      same = not_yet c.args.window.now (g.W.BeamWalk.to_come c.args.walk.now) _ rest given.voxel
          given.first (inside ∙ c.if-holds.false) i.same;
    }

pub loop-code-preserved : goal.loop-code-preserved
loop-code-preserved g c =
    let given = c.in-Some.ensures.next in
    let rest : List Voxel = g.W.BeamWalk.to_come c.next_but_last.new.self in
    let i = c.loop-code.invariant in
    let inside = held_as c.args.window.now given.voxel c.in-Some.code c.of-corners.result.lo
    c.of-corners.result.hi c.holds.result given.on_map given.coded c.of-corners.ensures.lo
    c.of-corners.ensures.hi c.holds.ensures in
    record {
      ends = (end_later c.args.end given.voxel rest c.in-Some.ensures.more
          (subst (EndsAt c.args.end) given.first i.ends)).1;
      onward = goes_on c.args.end given.voxel _ rest given.first i.onward;
      same = not_yet c.args.window.now (g.W.BeamWalk.to_come c.args.walk.now) _ rest given.voxel
          given.first (inside ∙ c.if-holds.false) i.same;
    }

pub returns-clause-none : goal.returns-clause-none
returns-clause-none g c = λ none.
    let i = c.loop-code.invariant in
    stays_out c.args.window.now c.args.end (g.W.BeamWalk.to_come c.args.walk.now)
    (g.W.BeamWalk.to_come c.loop-code.walk)
    (end_left c.args.end (g.W.BeamWalk.to_come c.loop-code.walk) c.in_default.ensures.none.1
    i.ends) i.same
