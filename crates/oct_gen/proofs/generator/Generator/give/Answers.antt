use Rattle.std.proofs.Common.{◌≡◌, ◌≤◌, ◌++◌, length, drop, take, sym, ap, ◌∙◌}
use Rattle.oct_gen.specs.Lines.{to_come}
use Rattle.oct_gen.proofs.Filling.{next_of, piece_bytes, piece_moved, piece_within}
use Rattle.oct_gen.proofs.generator.Generator.give.Goals as goal
use Rattle.oct_gen.proofs.generator.Generator.give.Goals.{then-self-len+in-Some, else-self-len}

-- what is left of the line at hand, and the lines after it
at_hand : (c : goal.After-self-2-1) → c.args.self.now
    ≡ drop c.if-self-len.self-inside.at c.if-self-len.self-inside.line.bytes
    ++ to_come c.if-self-len.self-inside.lines
at_hand c = elim c.if-self-len.branch [
  | then-self-len+in-Some w ↦
      next_of _ c.self.inside.line.bytes (to_come c.self.inside.lines) w.in-Some.line.bytes
      (to_come w.next_line.new.self) c.self.inside.at (sym c.self.view_is)
      (w.if-self-len.true ∙ c.len.ensures.value) w.in-Some.ensures.next
      ∙ ap (λ g. drop g.at g.line.bytes ++ to_come g.lines) (sym w.self-inside-is)
  | else-self-len w ↦ sym c.self.view_is ∙ ap (λ g. drop g.at g.line.bytes ++ to_come g.lines)
      (sym w.self-inside-is)
]

rest_is : (c : goal.After-self-2-1) → c.split_at.result.1.now
    ≡ drop c.if-self-len.self-inside.at c.if-self-len.self-inside.line.bytes
rest_is c = c.split_at.ensures.back ∙ ap (drop c.if-self-len.self-inside.at)
    (c.as_bytes.ensures.value ∙ c.deref.ensures.0)

within : (c : goal.After-self-2-1)
    → c.min-count.result
    ≤ length (drop c.if-self-len.self-inside.at c.if-self-len.self-inside.line.bytes)
within c = piece_within _ c.split_at.result.1.now _ _ c.min-count.ensures (rest_is c)

pub returns-clause-bytes : goal.returns-clause-bytes
returns-clause-bytes c = piece_bytes _ _ _ _ _ c.args.buffer.now (at_hand c)
    (c.copy_from_slice.ensures.after ∙ c.split_at-2.ensures.front ∙ ap (take c.min-count.result)
    (rest_is c)) (within c)

pub returns-clause-moved : goal.returns-clause-moved
returns-clause-moved c = piece_moved _ _ _ _ _ (at_hand c) (within c)
