use Rattle.oct_scan.proofs.Marked.{marked_all, marked_none, marked_past}
use Rattle.oct_scan.proofs.marks.mark_steps.Goals as goal

pub loop-code-init : goal.loop-code-init
loop-code-init c = record {
  marked = marked_none c.args.walk _ c.requires.bricks;
  table = c.requires.table;
}

pub exchange-requires-clause-bricks : goal.exchange-requires-clause-bricks
exchange-requires-clause-bricks c =
    (c.in-Some.ensures.next c.loop-code.pile c.loop-code.invariant.marked.bricks).marked.bricks

pub loop-code-preserved : goal.loop-code-preserved
loop-code-preserved c = record {
  marked =
      marked_past _ _ _ _ _ _ _ c.in-Some.code c.loop-code.invariant.marked
      (c.in-Some.ensures.next c.loop-code.pile c.loop-code.invariant.marked.bricks)
      c.in_ok-exchange.ensures.added;
  table = c.exchange.ensures.table;
}

pub returns-clause-added : goal.returns-clause-added
returns-clause-added c = λ end on_map ends.
    marked_all _ _ _ _ _ _ c.loop-code.invariant.marked
    (c.in_default.ensures.all c.loop-code.pile c.loop-code.invariant.marked.bricks)
    c.in_default.ensures.last end on_map ends
