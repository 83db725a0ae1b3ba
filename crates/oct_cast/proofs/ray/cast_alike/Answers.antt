use Rattle.std.proofs.Common.{sym, ◌∙◌}
use Rattle.oct_tree.specs.Tree.{value_at}
use Rattle.oct_cast.proofs.Ways.{root_value}
use Rattle.oct_cast.proofs.Steps.{answer_alike}
use Rattle.oct_cast.proofs.ray.cast_alike.Goals as goal

pub returns : goal.returns
returns c =
    let given = c.in-Some.ensures.next in
    c.unwrap_or.ensures
    ∙ answer_alike c.args.ignore_unknown c.args.tree.now.odds (value_at c.args.tree.now)
    given.voxel c.next_code.new.self c.args.walk c.value.result c.stop_at.result given.first
    (λ q. root_value c.args.tree.now c.args.root q c.requires.root c.requires.leaf
    ∙ sym c.value.ensures.exact)
    (c.stop_at.ensures given.voxel (given.on_map, given.coded))
