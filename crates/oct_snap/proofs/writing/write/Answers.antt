use Rattle.std.proofs.Common.{ℕ, refl, ap, ◌∙◌}
use Rattle.oct_num.proofs.Results.{on_any_err}
use Rattle.oct_key.specs.Block.{root_block}
use Rattle.oct_odds.specs.Odds.{Odds, odds_of}
use Rattle.oct_tree.specs.Tree.{value_at}
use Rattle.oct_snap.specs.Texts.{head_bytes}
use Rattle.oct_io.proofs.Gathering.{gathered_whole, gathered_cut}
use Rattle.oct_snap.proofs.Writes.{cut_fields, cut_nodes, sent_snap, long_snap}
use Rattle.oct_snap.proofs.writing.write.Goals as goal

pub returns-in_err-push-clause-cut : goal.returns-in_err-push-clause-cut
returns-in_err-push-clause-cut g c = on_any_err c.from_residual.result _
    (cut_fields c.args.tree.now.res c.args.tree.now.odds c.args.window (value_at c.args.tree.now) _
    _ _ c.as_slice.result.now c.new-gather.ensures
    (c.as_slice.ensures.value ∙ c.head_of-head.ensures
    ∙ ap (λ (r : ℕ). head_bytes r (odds_of c.odds.result) c.args.window) c.res.ensures
    ∙ ap (λ (o : Odds). head_bytes c.args.tree.now.res o c.args.window) c.odds.ensures)
    c.in_err-push.ensures.refused)

pub returns-in_err-nodes-clause-cut : goal.returns-in_err-nodes-clause-cut
returns-in_err-nodes-clause-cut g c = on_any_err c.from_residual-in_err-nodes.result _
    (cut_nodes c.args.tree.now.res c.args.tree.now.odds c.args.window (value_at c.args.tree.now) _ _
    _ _ _ c.as_slice.result.now c.new-gather.ensures
    (c.as_slice.ensures.value ∙ c.head_of-head.ensures
    ∙ ap (λ (r : ℕ). head_bytes r (odds_of c.odds.result) c.args.window) c.res.ensures
    ∙ ap (λ (o : Odds). head_bytes c.args.tree.now.res o c.args.window) c.odds.ensures)
    c.in_ok-push.ensures.taken (c.in_err-nodes.ensures.cut root_block refl))

pub returns-in_err-flush-clause-cut : goal.returns-in_err-flush-clause-cut
returns-in_err-flush-clause-cut g c = on_any_err c.from_residual-in_err-flush.result _
    (gathered_cut _ _ _ _ _
    (sent_snap c.args.tree.now.res c.args.tree.now.odds c.args.window (value_at c.args.tree.now) _ _
    _ _ _ _ c.as_slice.result.now c.new-gather.ensures
    (c.as_slice.ensures.value ∙ c.head_of-head.ensures
    ∙ ap (λ (r : ℕ). head_bytes r (odds_of c.odds.result) c.args.window) c.res.ensures
    ∙ ap (λ (o : Odds). head_bytes c.args.tree.now.res o c.args.window) c.odds.ensures)
    c.in_ok-push.ensures.taken (c.in_ok-nodes.ensures.written root_block refl))
    c.in_err-flush.ensures.err)

pub returns-clause-written : goal.returns-clause-written
returns-clause-written g c =
    gathered_whole _ _ _ _ _
    (sent_snap c.args.tree.now.res c.args.tree.now.odds c.args.window (value_at c.args.tree.now) _ _
    _ _ _ _ c.as_slice.result.now c.new-gather.ensures
    (c.as_slice.ensures.value ∙ c.head_of-head.ensures
    ∙ ap (λ (r : ℕ). head_bytes r (odds_of c.odds.result) c.args.window) c.res.ensures
    ∙ ap (λ (o : Odds). head_bytes c.args.tree.now.res o c.args.window) c.odds.ensures)
    c.in_ok-push.ensures.taken (c.in_ok-nodes.ensures.written root_block refl))
    c.in_ok-flush.ensures.ok

pub returns-clause-length : goal.returns-clause-length
returns-clause-length g c =
    long_snap c.args.tree.now.res c.args.tree.now.odds c.args.window (value_at c.args.tree.now)
    c.head_of-head.result.items
    c.len.result c.in_ok-nodes.nodes
    (c.head_of-head.ensures
    ∙ ap (λ (r : ℕ). head_bytes r (odds_of c.odds.result) c.args.window) c.res.ensures
    ∙ ap (λ (o : Odds). head_bytes c.args.tree.now.res o c.args.window) c.odds.ensures)
    c.len.ensures.value (c.in_ok-nodes.ensures.length root_block refl)
