use Rattle.std.proofs.Common.{sym, ◌∙◌, subst, ap, rules, List, ℕ}
use Rattle.oct_key.specs.Voxel.{IsInMap}
use Rattle.oct_key.specs.Boxes.{Window, box_volume}
use Rattle.oct_bt.specs.DataClasses.{data_classes}
use Rattle.oct_bt.specs.NodeData.{IsAccepted}
use Rattle.oct_merge.specs.Pairs.{pair_counts}
use Rattle.oct_join.proofs.table.tabulate.Goals as goal

pub tabulate_records-requires-clause-first : goal.tabulate_records-requires-clause-first
tabulate_records-requires-clause-first c = (
  c.args.first.now.nodes,
  subst (IsAccepted c.args.first.now.nodes)
      (sym (c.as_slice-mine.ensures ∙ c.codes.ensures.codes)) c.codes.ensures.accepted,
)

pub tabulate_records-requires-clause-second : goal.tabulate_records-requires-clause-second
tabulate_records-requires-clause-second c = (
  c.args.second.now.nodes,
  subst (IsAccepted c.args.second.now.nodes)
      (sym (c.as_slice-theirs.ensures ∙ c.codes-2.ensures.codes)) c.codes-2.ensures.accepted,
)

pub tabulate_records-requires-clause-in_map : goal.tabulate_records-requires-clause-in_map
tabulate_records-requires-clause-in_map c =
    let v : IsInMap c.args.hi = search rules in
    subst (λ (w : Window). IsInMap w.hi) (sym c.of.ensures) v

pub returns-clause-all : goal.returns-clause-all
returns-clause-all c =
    c.tabulate_records.ensures.all ∙ ap (λ (w : Window). box_volume w.lo w.hi) c.of.ensures

pub returns-clause-exact : goal.returns-clause-exact
returns-clause-exact c =
    c.tabulate_records.ensures.exact
    ∙ ap (λ (w : Window). pair_counts w.lo w.hi (data_classes c.as_slice-mine.result.now)
    (data_classes c.as_slice-theirs.result.now)) c.of.ensures
    ∙ ap (λ (t : List ℕ). pair_counts c.args.lo c.args.hi (data_classes t)
    (data_classes c.as_slice-theirs.result.now)) (c.as_slice-mine.ensures ∙ c.codes.ensures.codes)
    ∙ ap (λ (t : List ℕ). pair_counts c.args.lo c.args.hi (data_classes c.args.first.now.codes)
    (data_classes t)) (c.as_slice-theirs.ensures ∙ c.codes-2.ensures.codes)
