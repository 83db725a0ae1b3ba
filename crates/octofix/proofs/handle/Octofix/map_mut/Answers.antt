use Rattle.std.proofs.Common.{◌≡◌, Some, rules}
use Rattle.octofix.proofs.Handles.{reopened}
use Rattle.octofix.proofs.handle.Octofix.map_mut.Goals as goal

pub returns : goal.returns
returns c =
    let is : c.args.self.now.slot.map ≡ Some c.get_mut.result.now = search rules in (
      search rules,
      record {
        writes_back = tt;
        «open» = is;
        same = reopened c.args.self.now c.get_mut.result.now is;
        closed = tt;
      },
    )
