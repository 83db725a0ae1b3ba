use Rattle.std.proofs.Common.{◌≡◌, ◌∙◌, true, sym, ap, rules}
use Rattle.oct_odds.specs.Odds.{odds_of}
use Rattle.oct_tree.specs.Tree.{Tree}
use Rattle.octofix.proofs.Alike.{same_odds}
use Rattle.octofix.specs.Merges.{are_same}
use Rattle.octofix.proofs.merging.check_alike.Goals as goal

pub returns-clause-odds : goal.returns-clause-odds
returns-clause-odds c =
    let mine : odds_of c.odds.result ≡ c.args.map.now.tree.odds =
    c.odds.ensures ∙ ap (λ (t : Tree). t.odds) c.tree-map.ensures.exact in
    let theirs : odds_of c.odds-2.result ≡ c.args.other.now.tree.odds =
    c.odds-2.ensures ∙ ap (λ (t : Tree). t.odds) c.tree-other.ensures.exact in
    let test : are_same (odds_of c.odds.result) (odds_of c.odds-2.result) ≡ true = search rules in
    sym mine ∙ same_odds (odds_of c.odds.result) (odds_of c.odds-2.result) test ∙ theirs
