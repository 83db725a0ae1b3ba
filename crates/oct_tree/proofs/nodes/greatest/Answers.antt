use Rattle.std.proofs.Common.{◌≡◌, ◌+◌, to_z, sym, ap, subst, rules}
use Rattle.std.proofs.lemmas.Int.{to_z-of_z}
use mir.Syntax.{w32}
use mir.Val.{SFits}
use Rattle.oct_arena.specs.Entries.{node_of}
use Rattle.oct_arena.specs.Nodes.{stored_in, IsRankOf}
use Rattle.oct_tree.proofs.Surveys.{IsGreatestRank, rank_more, rank_greatest}
use Rattle.oct_tree.proofs.nodes.greatest.Goals as goal

pub loop-i-preserved : goal.loop-i-preserved
loop-i-preserved c =
    let fits : SFits w32 c.rank.result = search rules in
    let most_fits : SFits w32 c.greater-most.result = search rules in
    let (a, b, which) = c.greater-most.ensures in
    subst (IsGreatestRank c.args.arena.now c.args.id.number (c.loop-i.i + 1))
    (sym (to_z-of_z w32 c.greater-most.result most_fits)) (
    rank_more c.args.arena.now c.args.id.number c.loop-i.i _ _ _ _ c.loop-i.invariant
    (ap (λ e. stored_in (node_of e c.loop-i.i)) c.group-group.ensures.exact)
    (subst (IsRankOf _) (sym (to_z-of_z w32 c.rank.result fits)) c.rank.ensures) a b which)

pub returns : goal.returns
returns c =
    let all : c.loop-i.i ≡ 8 = search rules in
    let m = to_z w32 c.loop-i.most-bits in
    let greatest : IsGreatestRank c.args.arena.now c.args.id.number 8 m =
    subst (λ n. IsGreatestRank c.args.arena.now c.args.id.number n m) all c.loop-i.invariant in
    rank_greatest c.args.arena.now c.args.id.number m greatest c.requires.known
