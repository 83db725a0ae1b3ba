use Rattle.std.proofs.Common.{ℕ, length, ap, ◌∙◌, subst}
use Rattle.oct_bt.specs.Canonical.{canonical_data, canonical_size}
use Rattle.oct_bt.specs.File.{header_text}
use Rattle.oct_bt.specs.Mixtures.{IsCounted}
use Rattle.oct_tree.specs.Classes.{classes_in}
use Rattle.oct_bt.proofs.Encodings.{nodes_none, nodes_some, file_length}
use Rattle.oct_bt.proofs.encoding.plan_file.Goals as goal
use Rattle.oct_bt.proofs.encoding.plan_file.Goals.{then-count-eq0, else-count-eq0}

pub returns-clause-header : goal.returns-clause-header
returns-clause-header c = c.header_of-header.ensures ∙ ap (λ (n : ℕ). header_text n c.res.result)
    (elim c.if-count-eq0.branch [
      | then-count-eq0 w ↦ w.nodes-is
          ∙ nodes_none (classes_in c.args.tree.now) c.count_data-count.result.known
          (subst (λ (n : ℕ). IsCounted (canonical_data (classes_in c.args.tree.now))
          c.count_data-count.result.known n) w.if-count-eq0.true
          c.count_data-count.ensures.counted)
      | else-count-eq0 w ↦ w.nodes-is
          ∙ nodes_some (classes_in c.args.tree.now) c.count_data-count.result.known
          c.count_data-count.result.records c.count_data-count.ensures.counted w.if-count-eq0.false
    ]) ∙ ap (header_text (canonical_size (classes_in c.args.tree.now))) c.res.ensures

pub returns-clause-length : goal.returns-clause-length
returns-clause-length c =
    file_length c.args.tree.now.res c.if-count-eq0.nodes c.count_data-count.result.records
    c.count_data-count.result.known c.len.result (classes_in c.args.tree.now)
    c.count_data-count.ensures.counted
    (elim c.if-count-eq0.branch [
      | then-count-eq0 w ↦ w.nodes-is
          ∙ nodes_none (classes_in c.args.tree.now) c.count_data-count.result.known
          (subst (λ (n : ℕ). IsCounted (canonical_data (classes_in c.args.tree.now))
          c.count_data-count.result.known n) w.if-count-eq0.true
          c.count_data-count.ensures.counted)
      | else-count-eq0 w ↦ w.nodes-is
          ∙ nodes_some (classes_in c.args.tree.now) c.count_data-count.result.known
          c.count_data-count.result.records c.count_data-count.ensures.counted w.if-count-eq0.false
    ])
    (c.len.ensures.value
    ∙ ap length (c.header_of-header.ensures
    ∙ ap (header_text c.if-count-eq0.nodes) c.res.ensures))
