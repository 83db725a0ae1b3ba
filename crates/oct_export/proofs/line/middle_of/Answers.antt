use Rattle.std.proofs.Common.{rules}
use Rattle.oct_export.proofs.Lines.{faces_few, apart_fits, middle_built, sign_room}
use Rattle.oct_export.proofs.line.middle_of.Goals as goal

pub overflow_mul-faces : goal.overflow_mul-faces
overflow_mul-faces c =
    let few = faces_few c.args.depth c.args.number c.requires.depth c.requires.number in
    search rules

pub overflow_mul-gap : goal.overflow_mul-gap
overflow_mul-gap c =
    let few = faces_few c.args.depth c.args.number c.requires.depth c.requires.number in
    let fits = apart_fits _ c.args.edge c.abs_diff.result (search rules) c.requires.edge
    c.abs_diff.ensures in
    search rules

pub overflow_mul-gap-2 : goal.overflow_mul-gap-2
overflow_mul-gap-2 c =
    let few = faces_few c.args.depth c.args.number c.requires.depth c.requires.number in
    let fits = apart_fits _ c.args.edge c.abs_diff.result (search rules) c.requires.edge
    c.abs_diff.ensures in
    search rules

pub push_fine-requires : goal.push_fine-requires
push_fine-requires c = sign_room _ _ c.sign_of-text.ensures

pub returns : goal.returns
returns c = middle_built c.args.edge c.args.depth c.args.number _ c.abs_diff.result
    c.sign_of-text.result.bytes _ _ (search rules) (search rules)
    c.sign_of-text.ensures c.abs_diff.ensures c.push_fine.ensures
