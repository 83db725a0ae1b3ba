use Rattle.std.proofs.Common.{ℕ, ◌∙◌, refl, ap}
use Rattle.oct_key.specs.Block.{root_block}
use Rattle.oct_odds.specs.Odds.{Odds, odds_of}
use Rattle.oct_tree.specs.Tree.{value_at}
use Rattle.oct_snap.specs.Texts.{head_bytes}
use Rattle.oct_snap.proofs.Writes.{long_snap}
use Rattle.oct_snap.proofs.counting.encoded_len.Goals as goal

pub returns : goal.returns
returns c =
    long_snap c.args.tree.now.res c.args.tree.now.odds c.args.window (value_at c.args.tree.now)
    c.head_of-head.result.items c.len.result c.count_at.result.bytes
    (c.head_of-head.ensures
    ∙ ap (λ (r : ℕ). head_bytes r (odds_of c.odds.result) c.args.window) c.res.ensures
    ∙ ap (λ (o : Odds). head_bytes c.args.tree.now.res o c.args.window) c.odds.ensures)
    c.len.ensures.value (c.count_at.ensures.bytes root_block refl)
