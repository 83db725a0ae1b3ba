use Rattle.std.proofs.Common.{◌≡◌, ◌-◌, ◌<◌, ◌≤◌, [], ◌∙◌, ap, subst, rules}
use Rattle.oct_key.specs.Voxel.{IsInMap}
use Rattle.oct_tree.specs.Tree.{value_at}
use Rattle.oct_query.specs.Listed.{shown}
use Rattle.oct_query.specs.Rows.{plane_blocks}
use Rattle.oct_query.proofs.RowSteps.{planes, planes_none, planes_more, planes_met, listed_are}
use Rattle.oct_query.proofs.RowSteps.{count_is, refused_by_memory, found_none, found_more}
use Rattle.oct_query.proofs.RowSteps.{none_within, none_listed}
use Rattle.oct_query.proofs.listing.list.Goals as goal

pub loop-x-init : goal.loop-x-init
loop-x-init c = (
  c.new-path.ensures,
  c.new-found.ensures ∙ found_none (shown (value_at c.args.tree.now)) [] _
      (planes_none c.args.depth c.span_on-xs.result.from c.span_on-ys.result.from
      (c.span_on-ys.result.to - c.span_on-ys.result.from) c.span_on-zs.result.from
      (c.span_on-zs.result.to - c.span_on-zs.result.from)),
)

pub list_plane-requires-clause-path : goal.list_plane-requires-clause-path
list_plane-requires-clause-path c = c.loop-x.invariant.0

pub loop-x-preserved : goal.loop-x-preserved
loop-x-preserved c =
    let from : c.span_on-xs.result.from ≤ c.loop-x.x = search rules in (
      c.in_ok-list_plane.ensures.listed.0,
      found_more (shown (value_at c.args.tree.now)) [] c.loop-x.found c.list_plane.new.found _
          (plane_blocks c.args.depth c.loop-x.x c.span_on-ys.result.from
          (c.span_on-ys.result.to - c.span_on-ys.result.from) c.span_on-zs.result.from
          (c.span_on-zs.result.to - c.span_on-zs.result.from))
          _ c.loop-x.invariant.1 c.in_ok-list_plane.ensures.listed.1
          (planes_more c.args.depth c.span_on-xs.result.from c.loop-x.x c.span_on-ys.result.from
          (c.span_on-ys.result.to - c.span_on-ys.result.from) c.span_on-zs.result.from
          (c.span_on-zs.result.to - c.span_on-zs.result.from) from),
    )

pub returns-then-count-most-clause-refused : goal.returns-then-count-most-clause-refused
returns-then-count-most-clause-refused c =
    let v : IsInMap c.args.hi = search rules in
    let met =
    count_is c.args.lo c.args.hi c.args.depth c.span_on-xs.result.from c.span_on-xs.result.to
    c.span_on-ys.result.from c.span_on-ys.result.to c.span_on-zs.result.from c.span_on-zs.result.to
    c.count.result c.count-2.result c.count-3.result c.requires.order v c.requires.levels
    c.span_on-xs.ensures.from c.span_on-xs.ensures.to c.span_on-ys.ensures.from
    c.span_on-ys.ensures.to c.span_on-zs.ensures.from c.span_on-zs.ensures.to c.count.ensures
    c.count-2.ensures c.count-3.ensures in
    (met, subst (λ n. c.args.most < n) met c.if-count-most.true)

pub returns-in_err-list_plane-clause-refused : goal.returns-in_err-list_plane-clause-refused
returns-in_err-list_plane-clause-refused c =
    let v : IsInMap c.args.hi = search rules in
    let met =
    count_is c.args.lo c.args.hi c.args.depth c.span_on-xs.result.from c.span_on-xs.result.to
    c.span_on-ys.result.from c.span_on-ys.result.to c.span_on-zs.result.from c.span_on-zs.result.to
    c.count.result c.count-2.result c.count-3.result c.requires.order v c.requires.levels
    c.span_on-xs.ensures.from c.span_on-xs.ensures.to c.span_on-ys.ensures.from
    c.span_on-ys.ensures.to c.span_on-zs.ensures.from c.span_on-zs.ensures.to c.count.ensures
    c.count-2.ensures c.count-3.ensures in
    refused_by_memory c.from_residual.result _ c.args.most (search rules)
    (subst (λ n. n ≤ c.args.most) met c.if-count-most.false)

pub returns-clause-few : goal.returns-clause-few
returns-clause-few c =
    let v : IsInMap c.args.hi = search rules in
    let met =
    count_is c.args.lo c.args.hi c.args.depth c.span_on-xs.result.from c.span_on-xs.result.to
    c.span_on-ys.result.from c.span_on-ys.result.to c.span_on-zs.result.from c.span_on-zs.result.to
    c.count.result c.count-2.result c.count-3.result c.requires.order v c.requires.levels
    c.span_on-xs.ensures.from c.span_on-xs.ensures.to c.span_on-ys.ensures.from
    c.span_on-ys.ensures.to c.span_on-zs.ensures.from c.span_on-zs.ensures.to c.count.ensures
    c.count-2.ensures c.count-3.ensures in
    subst (λ n. n ≤ c.args.most) met c.if-count-most.false

pub returns-clause-listed : goal.returns-clause-listed
returns-clause-listed c =
    let v : IsInMap c.args.hi = search rules in
    let last : c.loop-x.x ≡ c.span_on-xs.result.to = search rules in
    listed_are (value_at c.args.tree.now) c.args.lo c.args.hi c.args.depth c.loop-x.found
    (planes c.args.depth c.span_on-xs.result.from (c.loop-x.x - c.span_on-xs.result.from)
    c.span_on-ys.result.from (c.span_on-ys.result.to - c.span_on-ys.result.from)
    c.span_on-zs.result.from (c.span_on-zs.result.to - c.span_on-zs.result.from))
    c.loop-x.invariant.1
    (ap (λ n. planes c.args.depth c.span_on-xs.result.from (n - c.span_on-xs.result.from)
    c.span_on-ys.result.from (c.span_on-ys.result.to - c.span_on-ys.result.from)
    c.span_on-zs.result.from (c.span_on-zs.result.to - c.span_on-zs.result.from))
    last
    ∙ planes_met c.args.lo c.args.hi c.args.depth c.span_on-xs.result.from
    c.span_on-xs.result.to c.span_on-ys.result.from c.span_on-ys.result.to
    c.span_on-zs.result.from c.span_on-zs.result.to c.requires.order v c.requires.levels
    c.span_on-xs.ensures.from c.span_on-xs.ensures.to c.span_on-ys.ensures.from
    c.span_on-ys.ensures.to c.span_on-zs.ensures.from c.span_on-zs.ensures.to)

pub returns-in_err-list_plane-clause-memory : goal.returns-in_err-list_plane-clause-memory
returns-in_err-list_plane-clause-memory c _ none =
    let v : IsInMap c.args.hi = search rules in
    c.in_err-list_plane.ensures.memory
    (none_within (shown (value_at c.args.tree.now))
    (λ x. planes c.args.depth c.span_on-xs.result.from (x - c.span_on-xs.result.from)
    c.span_on-ys.result.from (c.span_on-ys.result.to - c.span_on-ys.result.from)
    c.span_on-zs.result.from (c.span_on-zs.result.to - c.span_on-zs.result.from))
    (λ x. plane_blocks c.args.depth x c.span_on-ys.result.from
    (c.span_on-ys.result.to - c.span_on-ys.result.from) c.span_on-zs.result.from
    (c.span_on-zs.result.to - c.span_on-zs.result.from))
    c.span_on-xs.result.from
    (λ x. planes_more c.args.depth c.span_on-xs.result.from x c.span_on-ys.result.from
    (c.span_on-ys.result.to - c.span_on-ys.result.from) c.span_on-zs.result.from
    (c.span_on-zs.result.to - c.span_on-zs.result.from))
    c.span_on-xs.result.to c.loop-x.x (search rules) (search rules)
    (none_listed (value_at c.args.tree.now) c.args.lo c.args.hi c.args.depth _
    (planes_met c.args.lo c.args.hi c.args.depth c.span_on-xs.result.from
    c.span_on-xs.result.to c.span_on-ys.result.from c.span_on-ys.result.to
    c.span_on-zs.result.from c.span_on-zs.result.to c.requires.order v c.requires.levels
    c.span_on-xs.ensures.from c.span_on-xs.ensures.to c.span_on-ys.ensures.from
    c.span_on-ys.ensures.to c.span_on-zs.ensures.from c.span_on-zs.ensures.to) none))

pub returns-then-count-most-clause-memory : goal.returns-then-count-most-clause-memory
returns-then-count-most-clause-memory c e _ = cc
