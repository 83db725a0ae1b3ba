use Rattle.std.proofs.Common.{◌<◌, length, get_or, arith, refl, rules}
use Rattle.oct_brick.specs.declared.brick.Brick.{Brick}
use Rattle.oct_scan.proofs.Marked.{marked_one}
use Rattle.oct_scan.proofs.Tabled.{IsWith, empty, read_same, set_current, set_more}
use Rattle.oct_scan.proofs.marks.mark_known.Goals as goal
use Rattle.oct_scan.proofs.marks.mark_known.Goals.{After-with_scanned}

-- the brick that stands in the place
known : After-with_scanned → Brick
known c = get_or c.loop-code.places c.place_of-at.result empty

with_it : (c : After-with_scanned) → IsWith c.in-Some.code (known c) c.with_scanned.result
unfolding known
with_it c = record {
  same = c.with_scanned.ensures.code;
  scanned = c.with_scanned.ensures.scanned;
  hits = c.with_scanned.ensures.hits;
  brick = c.with_scanned.ensures.brick;
}

there : (c : After-with_scanned) → c.place_of-at.result < length c.loop-code.places
there c = omega (arith, c.place_of-at.ensures, c.loop-code.invariant.table.full)

pub loop-code-preserved : goal.loop-code-preserved
unfolding known
loop-code-preserved c = record {
  marked = λ pile bricks.
      let m = c.loop-code.invariant.marked pile bricks in
      marked_one _ _ _ _ _ _ c.in-Some.code m c.in-Some.ensures.next c.in-Some.ensures.more
      (set_more c.in-Some.code _ pile c.loop-code.places c.place_of-at.result (known c)
      c.with_scanned.result refl (there c)
      (read_same c.loop-code.places c.place_of-at.result empty (known c) (there c))
      c.loop-code.invariant.table.current m.bricks (with_it c));
  table = record {
    full = search rules;
    current =
        set_current c.in-Some.code c.loop-code.places c.place_of-at.result (known c)
        c.with_scanned.result (there c)
        (read_same c.loop-code.places c.place_of-at.result empty (known c) (there c))
        c.loop-code.invariant.table.current (with_it c);
  };
}
