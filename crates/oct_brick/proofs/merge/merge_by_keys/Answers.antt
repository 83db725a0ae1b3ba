use Rattle.std.proofs.Common.{◌≡◌, length, refl, vec_len, arith, rules}
use Rattle.oct_brick.proofs.Keyed.{all_keyed, key_taken, keys_taken}
use Rattle.oct_brick.proofs.merge.merge_by_keys.Goals as goal

pub loop-key-preserved : goal.loop-key-preserved
loop-key-preserved c =
    key_taken c.args.bricks.now c.args.keys.now c.requires.keys c.loop-key.merged.items
    c.add.new.merged.items c.loop-key.key-index _ _ _ c.loop-key-test.true c.requires.bricks
    c.requires.order refl c.in_ok-add.ensures c.loop-key.invariant

pub returns-clause-scanned : goal.returns-clause-scanned
returns-clause-scanned c =
    keys_taken c.args.bricks.now c.args.keys.now c.requires.keys (λ b. b.scanned)
    c.loop-key.merged.items c.loop-key.key-index c.loop-key-test.false
    c.loop-key.invariant.merged.scanned

pub returns-clause-hits : goal.returns-clause-hits
returns-clause-hits c =
    keys_taken c.args.bricks.now c.args.keys.now c.requires.keys (λ b. b.hits)
    c.loop-key.merged.items c.loop-key.key-index c.loop-key-test.false
    c.loop-key.invariant.merged.hits

pub returns-clause-few : goal.returns-clause-few
returns-clause-few c =
    let all = all_keyed c.args.bricks.now c.args.keys.now c.requires.keys in
    let len : vec_len c.loop-key.merged ≡ length c.loop-key.merged.items = search rules in
    omega (arith, all, len, c.loop-key.invariant.few, c.loop-key.auto.key-index-end)
