use Rattle.std.proofs.Common.{◌∙◌, ap}
use Rattle.oct_bt.specs.File.{FileRead}
use Rattle.oct_join.proofs.Whole.{canonical_fits, canonical_nodes}
use Rattle.oct_join.proofs.joining.join.Goals as goal

pub of_records-requires : goal.of_records-requires
of_records-requires c =
    canonical_fits _ c.in_ok-records.records.items c.in_ok-records.ensures.codes

pub returns-clause-nodes : goal.returns-clause-nodes
returns-clause-nodes c =
    ap (λ (file : FileRead). file.nodes) c.of_records.ensures
    ∙ canonical_nodes _ c.in_ok-records.records.items c.in_ok-records.ensures.codes
