use Rattle.std.proofs.Common.{refl, sym, ◌∙◌}
use Rattle.std.proofs.lemmas.Bool.{false≢true}
use Rattle.oct_key.specs.Block.{root_block}
use Rattle.oct_tree.specs.Classes.{classes_in}
use Rattle.oct_bt.proofs.Adding.{map_known, map_other}
use Rattle.oct_bt.proofs.encoding.count_data.Goals as goal

pub returns-then-is_known-clause-counted : goal.returns-then-is_known-clause-counted
returns-then-is_known-clause-counted c =
    (map_known (classes_in c.args.tree.now) c.count_at-count.result
    (c.count_at-count.ensures.counted root_block refl)
    (c.is_known.ensures.0 c.if-is_known.true)).0

pub returns-clause-counted : goal.returns-clause-counted
returns-clause-counted c =
    (map_other (classes_in c.args.tree.now) c.count_at-count.result
    (c.count_at-count.ensures.counted root_block refl)
    (λ e. false≢true (sym c.if-is_known.false ∙ c.is_known.ensures.1 e))).0

pub returns-clause-small : goal.returns-clause-small
returns-clause-small c =
    (map_other (classes_in c.args.tree.now) c.count_at-count.result
    (c.count_at-count.ensures.counted root_block refl)
    (λ e. false≢true (sym c.if-is_known.false ∙ c.is_known.ensures.1 e))).1

pub returns-clause-few : goal.returns-clause-few
returns-clause-few c =
    (map_other (classes_in c.args.tree.now) c.count_at-count.result
    (c.count_at-count.ensures.counted root_block refl)
    (λ e. false≢true (sym c.if-is_known.false ∙ c.is_known.ensures.1 e))).2
