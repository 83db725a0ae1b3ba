use Rattle.std.proofs.Common.{◌≡◌, ◌++◌, [], ◌∷◌, ap, ◌∙◌}
use Rattle.oct_bt.proofs.Steps.{fresh_some, fresh_none, topped_one, topped_none}
use Rattle.oct_bt.proofs.Endings.{reached_first}
use Rattle.oct_bt.proofs.node_reader.NodeReader.new.Goals as goal
use Rattle.oct_bt.proofs.node_reader.NodeReader.new.Goals.{then-size-gt0, else-size-gt0}

pub returns-clause-fresh : goal.returns-clause-fresh
returns-clause-fresh c = elim c.if-size-gt0.branch [
  | then-size-gt0 w ↦ fresh_some c.args.start c.args.size c.if-size-gt0.path.items
      c.new.result w.if-size-gt0.true
      (ap (λ v. v.items) w.path-is ∙ w.push.ensures.items
      ∙ ap (λ t. t ++ 1 ∷ []) c.new-path.ensures) c.new.ensures
  | else-size-gt0 w ↦ fresh_none c.args.start c.args.size c.if-size-gt0.path.items
      c.new.result w.if-size-gt0.false
      (ap (λ v. v.items) w.path-is ∙ c.new-path.ensures) c.new.ensures
]

pub invariant_of-result : goal.invariant_of-result
invariant_of-result c = elim c.if-size-gt0.branch [
  | then-size-gt0 w ↦ (
      let items : c.if-size-gt0.path.items ≡ 1 ∷ [] = ap (λ v. v.items) w.path-is
      ∙ w.push.ensures.items ∙ ap (λ t. t ++ 1 ∷ []) c.new-path.ensures in (
        topped_one c.if-size-gt0.path.items items,
        c.requires,
        reached_first c.args.start c.args.size _
            (fresh_some c.args.start c.args.size c.if-size-gt0.path.items c.new.result
            w.if-size-gt0.true items c.new.ensures),
      ))
  | else-size-gt0 w ↦ (
      let items : c.if-size-gt0.path.items ≡ [] = ap (λ v. v.items) w.path-is ∙ c.new-path.ensures
      in (
        topped_none c.if-size-gt0.path.items items,
        c.requires,
        reached_first c.args.start c.args.size _
            (fresh_none c.args.start c.args.size c.if-size-gt0.path.items c.new.result
            w.if-size-gt0.false items c.new.ensures),
      ))
]
