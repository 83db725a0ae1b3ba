use Rattle.std.proofs.Common.{◌∙◌}
use Rattle.oct_key.specs.CubeOf.{cube_of}
use Rattle.octofix.proofs.Keyed.{coded_right}
use Rattle.octofix.proofs.batches.answer_by_code.Goals as goal

pub returns-clause-answer : goal.returns-clause-answer
returns-clause-answer c = λ p k there on_map coded.
    c.told.ensures
    ∙ coded_right c.args.map.now c.tree.result.now c.args.depth c.args.code
    (cube_of c.of-block.result) c.from_morton.result k p c.query.result c.tree.ensures.exact
    c.tree.ensures.map c.requires.answers c.of-block.ensures.exact c.from_morton.ensures.only
    c.query.ensures.fresh c.query.ensures.voxel there on_map coded
