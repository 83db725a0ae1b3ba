use Rattle.std.proofs.Common.{rules, ◌≡◌, ◌<◌, ◌≤◌, ℕ, List, [], length, sym, ◌∙◌, refl, subst}
use Rattle.oct_key.specs.Block.{root_block}
use Rattle.oct_arena.specs.Entries.{spare}
use Rattle.oct_bt.specs.NodeData.{IsAccepted}
use Rattle.oct_bt.specs.Records.{record_total}
use Rattle.oct_bt.proofs.Fills.{IsFilledFrom, filled_from, unfilled_from, root_asked}
use Rattle.oct_bt.proofs.filling.fill.Goals as goal
use Rattle.oct_bt.proofs.filling.fill.Goals.{Joined-not-is_empty, then-not-is_empty}
use Rattle.oct_bt.proofs.filling.fill.Goals.{else-not-is_empty}

pub fill_block-requires-clause-record_there : goal.fill_block-requires-clause-record_there
fill_block-requires-clause-record_there c =
    let some : 0 < length c.as_slice-codes.result.now = search rules in
    let same : c.as_slice-codes.result.now ≡ c.args.file.now.codes = c.as_slice-codes.ensures
    ∙ c.codes.ensures.codes in
    let r = root_asked c.as_slice-codes.result.now c.args.file.now.nodes
    (spare c.args.tree.now.groups) some
    (subst (IsAccepted c.args.file.now.nodes) (sym same) c.codes.ensures.accepted)
    (subst (λ (bytes : List ℕ). record_total bytes ≤ spare c.args.tree.now.groups)
    (sym same) c.requires.room) in
    (r.r, [], r.is, r.text, r.enough)

-- what the tree has become
filled : (c : Joined-not-is_empty)
    → IsFilledFrom c.args.tree.now c.if-not-is_empty.tree c.args.file.now.codes
filled c =
    let same : c.as_slice-codes.result.now ≡ c.args.file.now.codes = c.as_slice-codes.ensures
    ∙ c.codes.ensures.codes in
    elim c.if-not-is_empty.branch [
      | then-not-is_empty w ↦ (
          let some : 0 < length c.as_slice-codes.result.now = search rules in
          subst (λ u. IsFilledFrom c.args.tree.now u c.args.file.now.codes) (sym w.tree-is)
          (filled_from c.args.tree.now w.fill_block.new.tree c.as_slice-codes.result.now
          c.args.file.now.codes c.args.file.now.nodes same some c.codes.ensures.accepted
          c.requires.room c.shape.ensures.shaped w.fill_block.ensures.linked c.requires.unknown
          (λ r tail is text. (w.fill_block.ensures.filled r tail root_block is text refl).0)))
      | else-not-is_empty w ↦ (
          let none : length c.as_slice-codes.result.now ≡ 0 = search rules in
          subst (λ u. IsFilledFrom c.args.tree.now u c.args.file.now.codes) (sym w.tree-is)
          (unfilled_from c.args.tree.now c.as_slice-codes.result.now c.args.file.now.codes same
          none c.shape.ensures.shaped c.shape.ensures.linked c.requires.unknown))
    ]

pub note-requires : goal.note-requires
note-requires c =
    let now = filled (goal.at.note-requires c).Joined-not-is_empty in
    record { fresh = λ _. now.filled.fresh; pruned = λ _. now.filled.pruned }

-- and stays as
noted : (c : goal.After-note)
    → IsFilledFrom c.args.tree.now c.if-not-is_empty.tree c.args.file.now.codes
    → IsFilledFrom c.args.tree.now c.note.new.self c.args.file.now.codes
noted c now =
    subst (λ u. IsFilledFrom c.args.tree.now u c.args.file.now.codes) (sym c.note.ensures.same) now

pub returns-clause-values : goal.returns-clause-values
returns-clause-values c =
    (noted c (filled (goal.at.returns-clause-values c).Joined-not-is_empty)).values

pub returns-clause-fresh : goal.returns-clause-fresh
returns-clause-fresh c =
    (noted c (filled (goal.at.returns-clause-fresh c).Joined-not-is_empty)).filled.fresh

pub returns-clause-pruned : goal.returns-clause-pruned
returns-clause-pruned c =
    (noted c (filled (goal.at.returns-clause-pruned c).Joined-not-is_empty)).filled.pruned

pub returns-clause-groups : goal.returns-clause-groups
returns-clause-groups c =
    (noted c (filled (goal.at.returns-clause-groups c).Joined-not-is_empty)).filled.groups

pub returns-clause-spare : goal.returns-clause-spare
returns-clause-spare c =
    (noted c (filled (goal.at.returns-clause-spare c).Joined-not-is_empty)).filled.spare

pub returns-clause-length : goal.returns-clause-length
returns-clause-length c =
    (noted c (filled (goal.at.returns-clause-length c).Joined-not-is_empty)).entries

pub returns-clause-res : goal.returns-clause-res
returns-clause-res c =
    (noted c (filled (goal.at.returns-clause-res c).Joined-not-is_empty)).res

pub returns-clause-odds : goal.returns-clause-odds
returns-clause-odds c =
    (noted c (filled (goal.at.returns-clause-odds c).Joined-not-is_empty)).odds
