use Rattle.std.proofs.Common.{◌≡◌, ◌≤◌, ◌+◌, length, ◌∙◌, arith}
use Rattle.oct_gen.proofs.Filling.{filled_more, moved_more, part_fits, rest_more, text_lasts}
use Rattle.oct_gen.proofs.generator.Generator.fill.Goals as goal

start : (c : goal.Else-count-eq0) → c.loop-filled.filled ≤ length c.loop-filled.buffer
start c = omega (arith, c.loop-filled.invariant.within, c.loop-filled.auto.buffer)

pub loop-filled-preserved : goal.loop-filled-preserved
loop-filled-preserved c = record {
  within = omega (
    arith,
    part_fits _ _ _ c.give-count.ensures.within (start c),
    c.loop-filled.auto.buffer,
  );
  enough = text_lasts _ _ _ _ c.give-count.ensures.enough c.loop-filled.invariant.moved
      c.loop-filled.invariant.enough;
  bytes = filled_more _ _ _ _ c.loop-filled.buffer _ _ c.loop-filled.invariant.bytes
      c.loop-filled.invariant.moved (start c)
      (omega (arith, c.give-count.ensures.within, c.give-count.ensures.len))
      c.give-count.ensures.bytes;
  moved = c.give-count.ensures.moved ∙ moved_more _ _ _ _ c.loop-filled.invariant.moved;
  rest = rest_more _ _ _ _ _ _ c.loop-filled.invariant.rest (start c)
      (omega (arith, c.give-count.ensures.within, c.give-count.ensures.len))
      c.give-count.ensures.len c.give-count.ensures.rest;
}

pub returns-then-count-eq0-clause-rest : goal.returns-then-count-eq0-clause-rest
returns-then-count-eq0-clause-rest c =
    let f = c.loop-filled.filled in
    let none : f + c.give-count.result ≡ f = omega (arith, c.if-count-eq0.true) in
    let fits : f ≤ length c.loop-filled.buffer =
    omega (arith, c.loop-filled.invariant.within, c.loop-filled.auto.buffer) in
    rw none at (rest_more f c.give-count.result _ _ _ _ c.loop-filled.invariant.rest fits
    (omega (arith, c.give-count.ensures.within, c.give-count.ensures.len))
    c.give-count.ensures.len c.give-count.ensures.rest)
