use Rattle.std.proofs.Common.{◌≡◌, false, sym, subst, ◌∙◌, ap, rules}
use Rattle.std.specs.Prelude.{is_some}
use Rattle.std.specs.Bool.{OnFalse}
use Rattle.oct_odds.specs.Odds.{odds_of}
use Rattle.oct_arena.specs.Nodes.{value_of}
use Rattle.oct_tree.specs.Tree.{node_in}
use Rattle.oct_edit.specs.Listed.{update_of}
use Rattle.oct_edit.proofs.Expansions.{on_false, TakesSome}
use Rattle.oct_edit.proofs.BrickRest.{on_false_then, unknown_takes, hit_takes, miss_takes}
use Rattle.oct_edit.proofs.scan.is_at_rest.Goals.{then-is_some, else-is_some}
use Rattle.oct_edit.proofs.scan.is_at_rest.Goals as goal

pub returns-then-hits_rest-clause-takes : goal.returns-then-hits_rest-clause-takes
returns-then-hits_rest-clause-takes c =
    let update = update_of c.args.bricks.now c.args.hit c.args.miss in
    let same = c.value-value.ensures.exact ∙ ap value_of c.node.ensures.exact in
    on_false_then c.misses_rest.result
    (miss_takes (odds_of c.odds-odds.result) c.args.tree.now.odds update
    c.value-value.result (value_of (node_in c.args.tree.now c.args.p)) c.odds-odds.ensures same
    c.requires.apart) c.misses_rest.ensures.moved

pub returns-else-hits_rest-clause-takes : goal.returns-else-hits_rest-clause-takes
returns-else-hits_rest-clause-takes c =
    let value = value_of (node_in c.args.tree.now c.args.p) in
    let update = update_of c.args.bricks.now c.args.hit c.args.miss in
    let same = c.value-value.ensures.exact ∙ ap value_of c.node.ensures.exact in
    elim c.if-is_some.branch [
      | then-is_some w ↦
          subst (λ t. OnFalse t (TakesSome c.args.tree.now.odds update value))
          (sym w.value-is) (on_false_then w.hits_rest.result
          (hit_takes (odds_of c.odds-odds.result) c.args.tree.now.odds update
          c.value-value.result value c.odds-odds.ensures same) w.hits_rest.ensures.moved)
      | else-is_some w ↦ on_false c.if-is_some.value (λ _.
          let none : is_some c.value-value.result ≡ false = search rules in
          unknown_takes c.args.tree.now.odds update c.requires.some.0 value
          c.requires.some.1 c.requires.some.2 (sym (ap is_some same) ∙ none))
    ]
