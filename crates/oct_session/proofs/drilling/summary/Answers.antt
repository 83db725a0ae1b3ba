use Rattle.std.proofs.Common.{ℕ, ap, ◌∙◌}
use Rattle.oct_session.specs.Drill.{summary}
use Rattle.oct_session.proofs.Drilled.{summary_built, summary_alike}
use Rattle.oct_session.proofs.drilling.summary.Goals as goal

pub returns : goal.returns
returns c =
    summary_built _ c.args.left.now.tally _ _ _ _ _ _ _ _ _ _ _ _ c.new-text.ensures.items
    c.in_ok-push_count.ensures.ok c.in_ok-push_count-2.ensures.ok c.in_ok-push_count-3.ensures.ok
    c.in_ok-push_count-4.ensures.ok c.in_ok-push_count-5.ensures.ok
    c.in_ok-push_count-6.ensures.ok c.in_ok-push_count-7.ensures.ok
    c.in_ok-extend_from_slice.ensures.items
    ∙ ap (λ (n : ℕ). summary n c.args.left.now.tally c.from-2.result c.counts-counts.result.nodes
    c.bt_len-bytes.result) c.from.ensures
    ∙ summary_alike c.args.scans c.args.left.now.tally _ _ _ _ _ _
    (c.from-2.ensures ∙ c.counts-counts.ensures.groups) c.counts-counts.ensures.nodes
    c.bt_len-bytes.ensures.exact
