use Rattle.std.proofs.Common.{Some, sym, ap, ◌∙◌}
use Rattle.oct_bt.proofs.Adding.{counted_leaf}
use Rattle.oct_bt.proofs.counting.count_leaf.Goals as goal

pub returns : goal.returns
returns c = λ classes depths b is.
    counted_leaf classes depths b c.kind_of.result c.leaf_class.result (is
    ∙ ap Some (sym (c.leaf_class.ensures c.requires))) c.kind_of.ensures
