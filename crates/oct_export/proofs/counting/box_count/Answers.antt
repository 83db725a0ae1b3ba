use Rattle.std.proofs.Common.{refl}
use Rattle.oct_key.specs.Block.{root_block}
use Rattle.oct_tree.specs.Classes.{classes_in}
use Rattle.oct_export.proofs.Counts.{count_of_map}
use Rattle.oct_export.proofs.counting.box_count.Goals as goal

pub returns : goal.returns
returns c = count_of_map (classes_in c.args.tree.now) _ (c.count_in.ensures.boxes root_block refl)
