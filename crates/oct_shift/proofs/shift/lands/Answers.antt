use Rattle.std.proofs.Common.{rules, ◌↔◌, IsTrue}
use Rattle.std.specs.Prelude.{pos, ◌+ℤ◌, ◌≤ℤ◌, ◌<ℤ◌}
use Rattle.oct_shift.proofs.Landings.{in_range_is}
use Rattle.oct_shift.proofs.shift.lands.Goals as goal

pub returns : goal.returns
returns c =
    let is : IsTrue c.contains.result ↔ ((pos 0 ≤ℤ (pos c.args.n +ℤ c.args.by))
    × ((pos c.args.n +ℤ c.args.by) <ℤ pos 65536)) = search rules in
    in_range_is (pos c.args.n +ℤ c.args.by) c.contains.result is
