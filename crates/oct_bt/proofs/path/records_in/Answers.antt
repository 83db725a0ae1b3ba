use Rattle.std.proofs.Common.{rules, ◌≡◌, ◌<◌, ◌∙◌, ℕ, ap, sym, subst}
use Rattle.std.specs.Prelude.{count_ones}
use Rattle.oct_bt.specs.Masks.{threes}
use Rattle.oct_bt.specs.NodeData.{records_in}
use Rattle.oct_bt.proofs.CodeMasks.{records_counted, records_few}
use Rattle.oct_bt.proofs.path.records_in.Goals as goal

counted : (c : goal.After-threes)
    → count_ones c.threes.result ≡ records_in c.args.first c.args.second
counted c =
    records_counted c.args.first c.args.second c.threes.result (search rules) (search rules)
    (c.threes.ensures.exact ∙ ap (threes 8) c.record_codes.ensures)

pub returns-clause-count : goal.returns-clause-count
returns-clause-count c = counted c

pub returns-clause-few : goal.returns-clause-few
returns-clause-few c =
    subst (λ (n : ℕ). n < 9) (sym (counted c)) (records_few c.args.first c.args.second)
