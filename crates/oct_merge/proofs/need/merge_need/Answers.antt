use Rattle.std.proofs.Common.{◌≡◌, ◌+◌, ◌<◌, ◌≤◌, ◌∙◌, sym, subst, ap, arith, rules}
use Rattle.oct_arena.specs.Entries.{live}
use Rattle.oct_arena.proofs.Entries.{live_spare}
use Rattle.oct_tree.specs.Tree.{IsOver}
use Rattle.oct_merge.specs.Need.{merge_need}
use Rattle.oct_merge.specs.Walk.{common_in}
use Rattle.oct_merge.proofs.Homes.{live_by_blocks}
use Rattle.oct_edit.proofs.NodesOver.{over_root}
use Rattle.oct_merge.proofs.need.merge_need.Goals.{After-common_under-common}
use Rattle.oct_merge.proofs.need.merge_need.Goals as goal

pub common_under-common-requires-clause-node : goal.common_under-common-requires-clause-node
common_under-common-requires-clause-node c =
    subst (λ b. IsOver c.args.into.now b c.root.result) (sym c.whole_map-map.ensures)
    (λ k held. over_root c.args.into.now k held ∙ sym c.root.ensures.exact)

pub common_under-common-requires-clause-theirs : goal.common_under-common-requires-clause-theirs
common_under-common-requires-clause-theirs c =
    subst (λ b. IsOver c.args.other.now b c.root-2.result) (sym c.whole_map-map.ensures)
    (λ k held. over_root c.args.other.now k held ∙ sym c.root-2.ensures.exact)

-- the groups of the other tree are those that are missing, and those that were counted
parted : (c : After-common_under-common)
    → live c.args.other.now.groups
    ≡ merge_need c.args.into.now c.args.other.now + c.common_under-common.result
parted c =
    live_by_blocks c.args.into.now c.args.other.now c.requires.into.linked c.requires.other.linked
    ∙ ap (λ n. merge_need c.args.into.now c.args.other.now + n)
    (ap (common_in c.args.into.now c.args.other.now) (sym c.whole_map-map.ensures)
    ∙ sym c.common_under-common.ensures.exact)

pub overflow_cast-result : goal.overflow_cast-result
overflow_cast-result c =
    let both = parted ((goal.at.overflow_cast-result c).After-common_under-common) in
    let all = live_spare c.args.other.now.groups in
    let most = c.requires.other.linked.arena.few in
    let fits : c.common_under-common.result < 4294967296 = omega (arith, both, all, most) in
    search rules

pub overflow_sub-result : goal.overflow_sub-result
overflow_sub-result c =
    let both = parted ((goal.at.overflow_sub-result c).After-common_under-common) in
    let all : c.live.result ≡ live c.args.other.now.groups =
    c.live.ensures.exact ∙ ap live c.arena.ensures.exact in
    let fits : c.common_under-common.result ≤ c.live.result = omega (arith, both, all) in
    search rules

pub returns-clause-exact : goal.returns-clause-exact
returns-clause-exact c =
    let both = parted ((goal.at.returns-clause-exact c).After-common_under-common) in
    let all : c.live.result ≡ live c.args.other.now.groups =
    c.live.ensures.exact ∙ ap live c.arena.ensures.exact in
    omega (arith, both, all)

pub returns-clause-few : goal.returns-clause-few
returns-clause-few c =
    let all : c.live.result ≡ live c.args.other.now.groups =
    c.live.ensures.exact ∙ ap live c.arena.ensures.exact in
    omega (arith, all)
