use Rattle.std.proofs.Common.{arith}
use Rattle.oct_scan.proofs.Tabled.{poured_none, poured_next, poured_all}
use Rattle.oct_scan.proofs.table.pour.Goals as goal

pub loop-brick-init : goal.loop-brick-init
loop-brick-init c = poured_none c.args.pile.now c.args.places.now c.requires.bricks

pub loop-brick-preserved : goal.loop-brick-preserved
loop-brick-preserved c =
    poured_next c.args.pile.now c.args.places.now c.loop-brick.brick-index _ c.loop-brick.pile
    c.put_away.new.pile c.loop-brick-test.true c.loop-brick.invariant
    c.in_ok-put_away.ensures.scanned c.in_ok-put_away.ensures.hits
    c.in_ok-put_away.ensures.bricks

pub returns : goal.returns
returns c =
    poured_all c.args.pile.now c.args.places.now c.loop-brick.brick-index c.loop-brick.pile
    (omega (arith, c.loop-brick-test.false)) c.requires.places c.loop-brick.invariant
