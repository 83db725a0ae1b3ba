use Rattle.std.proofs.Common.{sym, subst, rules}
use Rattle.std.proofs.lemmas.Int.{to_z-of_z}
use mir.Syntax.{w32}
use mir.Val.{SFits}
use Rattle.oct_arena.specs.Nodes.{IsRankOf}
use Rattle.oct_edit.specs.Steps.{IsGreaterOf}
use Rattle.oct_edit.proofs.Chains.{greater_is}
use Rattle.oct_edit.proofs.voxel.value_over.Goals as goal

pub returns-else-lazy-clause-eager : goal.returns-else-lazy-clause-eager
returns-else-lazy-clause-eager c eager =
    let fits : SFits w32 c.rank.result = search rules in
    let fits_too : SFits w32 c.rank-else-lazy.result = search rules in
    let most_fits : SFits w32 c.greater.result = search rules in
    let (above, over, which) = c.greater.ensures in
    subst (IsGreaterOf c.args.value c.args.new) (sym (to_z-of_z w32 c.greater.result most_fits))
    (greater_is c.args.value c.args.new _ _ c.greater.result
    (subst (IsRankOf c.args.value) (sym (to_z-of_z w32 c.rank.result fits)) c.rank.ensures)
    (subst (IsRankOf c.args.new) (sym (to_z-of_z w32 c.rank-else-lazy.result fits_too))
    c.rank-else-lazy.ensures)
    above over which (c.requires eager))
