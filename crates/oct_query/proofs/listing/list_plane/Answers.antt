use Rattle.std.proofs.Common.{◌≡◌, ◌-◌, ◌≤◌, ◌++◌, ◌∙◌, ap, rules}
use Rattle.std.specs.List.{filter_map}
use Rattle.oct_num.proofs.Results.{on_any_err}
use Rattle.oct_tree.specs.Tree.{value_at}
use Rattle.oct_query.specs.Listed.{shown}
use Rattle.oct_query.specs.Rows.{row_blocks, plane_blocks}
use Rattle.oct_query.proofs.RowSteps.{plane_none, plane_more, found_none, found_more}
use Rattle.oct_query.proofs.RowSteps.{none_within}
use Rattle.oct_query.proofs.listing.list_plane.Goals as goal

pub loop-y-init : goal.loop-y-init
loop-y-init c = (
  c.requires.path,
  found_none (shown (value_at c.args.tree.now)) c.args.found.now _
      (plane_none c.args.depth c.args.x c.args.ys.from c.args.zs.from
      (c.args.zs.to - c.args.zs.from)),
)

pub list_row-requires-clause-path : goal.list_row-requires-clause-path
list_row-requires-clause-path c = c.loop-y.invariant.0

pub loop-y-preserved : goal.loop-y-preserved
loop-y-preserved c =
    let from : c.args.ys.from ≤ c.loop-y.y = search rules in (
      c.in_ok-list_row.ensures.listed.0,
      found_more (shown (value_at c.args.tree.now)) c.args.found.now c.loop-y.found
          c.list_row.new.found _
          (row_blocks c.args.depth c.args.x c.loop-y.y c.args.zs.from
          (c.args.zs.to - c.args.zs.from))
          _ c.loop-y.invariant.1 c.in_ok-list_row.ensures.listed.1
          (plane_more c.args.depth c.args.x c.args.ys.from c.loop-y.y c.args.zs.from
          (c.args.zs.to - c.args.zs.from) from),
    )

pub returns-clause-listed : goal.returns-clause-listed
returns-clause-listed c =
    let last : c.loop-y.y ≡ c.args.ys.to = search rules in (
      c.loop-y.invariant.0,
      c.loop-y.invariant.1
          ∙ ap (λ n. c.args.found.now ++ filter_map (shown (value_at c.args.tree.now))
          (plane_blocks c.args.depth c.args.x c.args.ys.from (n - c.args.ys.from)
          c.args.zs.from (c.args.zs.to - c.args.zs.from)))
          last,
    )

pub returns-in_err-list_row-clause-memory : goal.returns-in_err-list_row-clause-memory
returns-in_err-list_row-clause-memory c =
    on_any_err c.from_residual.result _ (λ none.
    c.in_err-list_row.ensures.memory
    (none_within (shown (value_at c.args.tree.now))
    (λ y. plane_blocks c.args.depth c.args.x c.args.ys.from (y - c.args.ys.from) c.args.zs.from
    (c.args.zs.to - c.args.zs.from))
    (λ y. row_blocks c.args.depth c.args.x y c.args.zs.from (c.args.zs.to - c.args.zs.from))
    c.args.ys.from
    (λ y. plane_more c.args.depth c.args.x c.args.ys.from y c.args.zs.from
    (c.args.zs.to - c.args.zs.from))
    c.args.ys.to c.loop-y.y (search rules) (search rules) none))
