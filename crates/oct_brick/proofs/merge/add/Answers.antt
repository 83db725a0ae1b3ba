use Rattle.std.proofs.Common.{◌≡◌, length, refl, rules}
use Rattle.oct_brick.proofs.Merging.{joined_last}
use Rattle.oct_brick.proofs.merge.add.Goals as goal

pub returns-then-index-brick : goal.returns-then-index-brick
returns-then-index-brick c =
    let count : c.len-count.result ≡ length c.args.merged.now.items = search rules in
    joined_last c.args.merged.now.items _ c.len-count.result c.index.result.now
    c.index-then-index-brick.result.now c.args.brick c.joined.result c.if-count-gt0.true count
    c.index.ensures c.if-index-brick.true c.index-then-index-brick.ensures (record {
      code = c.joined.ensures.code;
      scanned = c.joined.ensures.scanned;
      hits = c.joined.ensures.hits;
      brick = c.joined.ensures.brick;
    })
    refl
