use Rattle.std.proofs.Common.{◌≡◌, ◌-◌, ◌≤◌, ◌++◌, ◌∷◌, [], ◌∙◌, ap, rules}
use Rattle.std.specs.List.{filter_map}
use Rattle.oct_num.proofs.Results.{on_any_err}
use Rattle.oct_key.specs.Order.{block_numbered}
use Rattle.oct_tree.specs.Tree.{value_at}
use Rattle.oct_query.specs.Listed.{shown}
use Rattle.oct_query.specs.Rows.{row_blocks}
use Rattle.oct_query.proofs.RowSteps.{row_none, row_more, found_none, found_more}
use Rattle.oct_query.proofs.RowSteps.{none_within}
use Rattle.oct_query.proofs.listing.list_row.Goals as goal

pub loop-z-init : goal.loop-z-init
loop-z-init c = (
  c.requires.path,
  found_none (shown (value_at c.args.tree.now)) c.args.found.now _
      (row_none c.args.depth c.args.x c.args.y c.args.zs.from),
)

pub list_block-requires-clause-path : goal.list_block-requires-clause-path
list_block-requires-clause-path c = c.loop-z.invariant.0

pub loop-z-preserved : goal.loop-z-preserved
loop-z-preserved c =
    let from : c.args.zs.from ≤ c.loop-z.z = search rules in (
      c.in_ok-list_block.ensures.listed.0,
      found_more (shown (value_at c.args.tree.now)) c.args.found.now c.loop-z.found
          c.list_block.new.found _
          (block_numbered c.args.depth (record { x = c.args.x; y = c.args.y; z = c.loop-z.z }) ∷ [])
          _ c.loop-z.invariant.1
          (c.in_ok-list_block.ensures.listed.1
          ∙ ap (λ b. c.loop-z.found ++ filter_map (shown (value_at c.args.tree.now)) (b ∷ []))
          c.block_at.ensures)
          (row_more c.args.depth c.args.x c.args.y c.args.zs.from c.loop-z.z from),
    )

pub returns-clause-listed : goal.returns-clause-listed
returns-clause-listed c =
    let last : c.loop-z.z ≡ c.args.zs.to = search rules in (
      c.loop-z.invariant.0,
      c.loop-z.invariant.1
          ∙ ap (λ n. c.args.found.now ++ filter_map (shown (value_at c.args.tree.now))
          (row_blocks c.args.depth c.args.x c.args.y c.args.zs.from (n - c.args.zs.from)))
          last,
    )

pub returns-in_err-list_block-clause-memory : goal.returns-in_err-list_block-clause-memory
returns-in_err-list_block-clause-memory c =
    on_any_err c.from_residual.result _ (λ none.
    c.in_err-list_block.ensures.memory
    (ap (λ b. filter_map (shown (value_at c.args.tree.now)) (b ∷ [])) c.block_at.ensures
    ∙ none_within (shown (value_at c.args.tree.now))
    (λ z. row_blocks c.args.depth c.args.x c.args.y c.args.zs.from (z - c.args.zs.from))
    (λ z. block_numbered c.args.depth (record { x = c.args.x; y = c.args.y; z = z }) ∷ [])
    c.args.zs.from (row_more c.args.depth c.args.x c.args.y c.args.zs.from)
    c.args.zs.to c.loop-z.z (search rules) (search rules) none))
