use Rattle.std.proofs.Common.{◌≡◌, length, rules}
use Rattle.oct_scan.specs.Beam.{bare}
use Rattle.oct_scan.proofs.Tabled.{gathered_of_none, gathered_same}
use Rattle.oct_scan.proofs.gather.gather.Goals as goal

pub returns-then-is_empty-clause-gathered : goal.returns-then-is_empty-clause-gathered
returns-then-is_empty-clause-gathered c =
    let none : length c.args.beams.now ≡ 0 = search rules in
    gathered_of_none c.args.view.now.res c.args.view.now.window c.args.view.now.origin
    c.args.beams.now c.new.result.items none c.new.ensures.items

pub returns-clause-gathered : goal.returns-clause-gathered
returns-clause-gathered c =
    gathered_same c.args.view.now.res c.args.view.now.window c.args.view.now.origin
    (bare c.args.beams.now) _ _ c.in_ok-gathered.ensures.same
    c.in_ok-add_beams.ensures.gathered
