use Rattle.std.proofs.Common.{rules, ◌+◌, ◌<◌, ℕ, length, ◌∙◌, ap, arith}
use Rattle.oct_join.proofs.Walks.{fits_text}
use Rattle.oct_join.proofs.Counting.{passing_first, passing_next, passed_leaf, passing_all}
use Rattle.oct_join.proofs.table.+side_length.Goals as goal
use Rattle.oct_join.proofs.table.+side_length.Goals.{then-left-eq3, else-left-eq3}

pub loop-init : goal.loop-init
loop-init t c = λ r tail side is.
    passing_first c.args.depth c.args.code c.args.text.now r tail _ _ side is
    c.record_bytes-at.ensures (c.side_codes-left.ensures c.args.depth r tail side is)

pub split_at-requires : goal.split_at-requires
split_at-requires t c =
    let (r, tail, side, is) = c.requires.side in
    let x = passing_next _ _ _ _ _ _ _ _ c.loop-test.true (c.loop.invariant r tail side is) in
    let within = x.within in
    let fits = fits_text (c.loop.at + length _) _ c.args.text.now tail x.within is in
    omega (arith, fits)

pub side_length-at-requires : goal.side_length-at-requires
side_length-at-requires t c =
    let (r, tail, side, is) = c.requires.side in
    let x = passing_next _ _ _ _ _ _ _ _ c.loop-test.true (c.loop.invariant r tail side is) in
    let low = x.low c.if-left-eq3.true in (
      search rules,
      (omega (arith, low), (x.r', x.p', x.side, c.split_at.ensures.back ∙ x.front)),
    )

pub overflow_add-at : goal.overflow_add-at
overflow_add-at t c =
    let (r, tail, side, is) = c.requires.side in
    let x = passing_next _ _ _ _ _ _ _ _ c.loop-test.true (c.loop.invariant r tail side is) in
    let fits = fits_text _ _ c.args.text.now tail x.within is in
    let took = c.side_length-at.ensures x.r' x.p' x.side (c.split_at.ensures.back ∙ x.front) in
    let most : length c.args.text.now < 18446744073709551616 = search rules in
    let sum : c.loop.at + c.side_length-at.result < 18446744073709551616 =
    omega (arith, fits, took, most) in
    search rules

pub loop-preserved : goal.loop-preserved
loop-preserved t c = λ r tail side is.
    (let x = passing_next _ _ _ _ _ _ _ _ c.loop-test.true (c.loop.invariant r tail side is) in
    elim c.if-left-eq3.branch [
      | then-left-eq3 w ↦
          x.step c.if-left-eq3.at
          (w.at-is ∙ ap (λ (n : ℕ). c.loop.at + n)
          (w.side_length-at.ensures x.r' x.p' x.side (w.split_at.ensures.back ∙ x.front)))
      | else-left-eq3 w ↦ passed_leaf _ _ _ _ _ _ _ _ _ x w.if-left-eq3.false w.at-is
    ])

pub returns : goal.returns
returns t c = λ r tail side is.
    passing_all _ _ _ _ _ _ _ _ (omega arith) (c.loop.invariant r tail side is)
