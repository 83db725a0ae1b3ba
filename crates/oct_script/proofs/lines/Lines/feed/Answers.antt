use Rattle.std.proofs.Common.{◌∙◌, sym, arith}
use Rattle.std.proofs.lemmas.Bool.{eqb-true, eqb-false}
use Rattle.oct_script.proofs.Feeding.{piece_joins, piece_ends}
use Rattle.oct_script.proofs.lines.Lines.feed.Goals as goal

pub returns-then-is_empty-clause-joins : goal.returns-then-is_empty-clause-joins
returns-then-is_empty-clause-joins c = λ unended bytes at.
    piece_joins _ _ _ _ _ bytes _ c.count_in_line-count.ensures.count c.split_at.ensures.front
    c.split_at.ensures.back (eqb-true _ 0 (sym c.is_empty.ensures ∙ c.if-is_empty.true))
    c.join.ensures.line (c.join.ensures.same ∙ c.requires) at

pub returns-clause-ends : goal.returns-clause-ends
returns-clause-ends c = λ fed bytes at.
    piece_ends _ _ _ _ _ _ bytes _ c.count_in_line-count.ensures.count c.split_at.ensures.front
    c.split_at.ensures.back
    (omega (arith, eqb-false _ 0 (sym c.is_empty.ensures ∙ c.if-is_empty.false)))
    c.join.ensures.line c.end.ensures.line at
