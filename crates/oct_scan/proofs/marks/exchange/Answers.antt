use Rattle.std.proofs.Common.{◌<◌, length, get_or, arith, refl, rules}
use Rattle.std.proofs.lemmas.List.Elements.{All-set}
use Rattle.oct_scan.specs.Gathered.{IsCurrent}
use Rattle.oct_scan.proofs.Tabled.{IsFresh, empty, fresh, pile_bricks, read_same, set_fresh}
use Rattle.oct_scan.proofs.marks.exchange.Goals as goal
use Rattle.oct_scan.proofs.marks.exchange.Goals.{In_ok-put_away}

pub put_away-requires-clause-bricks : goal.put_away-requires-clause-bricks
put_away-requires-clause-bricks c =
    pile_bricks c.args.pile.now c.args.places.now c.requires.bricks

is_fresh : (c : In_ok-put_away) → IsFresh c.args.code c.with_scanned-brick.result
is_fresh c =
    fresh c.args.code c.around.result c.with_scanned-brick.result c.requires.code
    c.around.ensures.code c.around.ensures.scanned c.around.ensures.hits (record {
      same = c.with_scanned-brick.ensures.code;
      scanned = c.with_scanned-brick.ensures.scanned;
      hits = c.with_scanned-brick.ensures.hits;
      brick = c.with_scanned-brick.ensures.brick;
    })

there : (c : In_ok-put_away) → c.place_of-at.result < length c.args.places.now
there c = omega (arith, c.place_of-at.ensures, c.requires.table.full)

pub returns-clause-added : goal.returns-clause-added
returns-clause-added c =
    let known = get_or c.args.places.now c.place_of-at.result empty in
    set_fresh c.args.code _ c.args.pile.now c.put_away.new.pile c.args.places.now
    c.place_of-at.result known c.with_scanned-brick.result refl (there c)
    (read_same c.args.places.now c.place_of-at.result empty known (there c))
    c.requires.table.current c.requires.bricks (is_fresh c) c.in_ok-put_away.ensures.scanned
    c.in_ok-put_away.ensures.hits c.in_ok-put_away.ensures.bricks

pub returns-clause-table : goal.returns-clause-table
returns-clause-table c = record {
  full = search rules;
  current = All-set IsCurrent c.args.places.now c.place_of-at.result c.with_scanned-brick.result
      (is_fresh c).current c.requires.table.current;
}
