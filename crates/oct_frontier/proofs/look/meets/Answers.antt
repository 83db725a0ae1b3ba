use Rattle.oct_key.specs.CubeOf.{cube_of}
use Rattle.oct_frontier.proofs.Looks.{meets_by_blocks}
use Rattle.oct_frontier.proofs.look.meets.Goals as goal

pub returns : goal.returns
returns c =
    meets_by_blocks c.args.lo c.args.hi (cube_of c.args.block) (cube_of c.of-first.result)
    (cube_of c.of-last.result)
    c.is_between-x.result c.is_between-y.result c.is_between-z.result c.on_each.result c.requires
    c.of-first.ensures.exact c.of-last.ensures.exact c.is_between-x.ensures c.is_between-y.ensures
    c.is_between-z.ensures c.on_each.ensures
