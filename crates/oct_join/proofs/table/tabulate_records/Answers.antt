use Rattle.std.proofs.Common.{refl, ◌∙◌}
use Rattle.oct_key.specs.CubeOf.{cube_of}
use Rattle.oct_bt.specs.DataClasses.{data_classes}
use Rattle.oct_merge.proofs.Tables.{table_total}
use Rattle.oct_join.proofs.Whole.{root_of}
use Rattle.oct_join.proofs.Counting.{root_hand, root_table}
use Rattle.oct_join.proofs.table.tabulate_records.Goals as goal

pub count_block-requires-clause-sides : goal.count_block-requires-clause-sides
count_block-requires-clause-sides c =
    let (n, accepted) = c.requires.first in
    let (m, accepted') = c.requires.second in
    let x = root_of n c.args.first.now c.root_code-a.result accepted c.root_code-a.ensures in
    let y = root_of m c.args.second.now c.root_code-b.result accepted' c.root_code-b.ensures in
    root_hand c.args.window.lo c.args.window.hi (cube_of c.whole_map.result)
    c.args.first.now c.args.second.now c.root_code-a.result c.root_code-b.result c.requires.in_map
    c.whole_map.ensures x y

pub returns-clause-exact : goal.returns-clause-exact
returns-clause-exact c =
    let (n, accepted) = c.requires.first in
    let (m, accepted') = c.requires.second in
    let x = root_of n c.args.first.now c.root_code-a.result accepted c.root_code-a.ensures in
    let y = root_of m c.args.second.now c.root_code-b.result accepted' c.root_code-b.ensures in
    root_table c.args.window.lo c.args.window.hi (cube_of c.whole_map.result)
    c.args.first.now c.args.second.now c.count_block.new.table.counts c.root_code-a.result
    c.root_code-b.result _ c.whole_map.ensures x y (c.count_block.ensures.long ∙ refl)
    c.count_block.ensures.counted

pub returns-clause-all : goal.returns-clause-all
returns-clause-all c =
    table_total c.args.window.lo c.args.window.hi (data_classes c.args.first.now)
    (data_classes c.args.second.now) c.count_block.new.table.counts c.requires.in_map
    (returns-clause-exact c)
