use Rattle.std.proofs.Common.{rules, ◌≡◌, ◌<◌, ◌^◌, ◌∙◌, ap, arith}
use Rattle.oct_bt.specs.Canonical.{node_total}
use Rattle.oct_bt.proofs.Sizes.{accepted_few}
use Rattle.oct_bt.proofs.bt_file.BtFile.of_records.Goals as goal

pub overflow_cast-nodes : goal.overflow_cast-nodes
overflow_cast-nodes c =
    let few = accepted_few (node_total c.args.records.items) c.args.records.items c.requires in
    let counted : c.nodes_in-nodes.result ≡ node_total c.args.records.items =
    c.nodes_in-nodes.ensures ∙ ap node_total c.deref.ensures.value in
    let fits : c.nodes_in-nodes.result < 2 ^ 64 = omega (arith, few, counted) in
    search rules
