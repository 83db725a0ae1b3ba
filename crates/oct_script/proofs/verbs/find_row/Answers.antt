use Rattle.std.proofs.Common.{rules, tests, bytes_eq}
use Rattle.std.proofs.lemmas.Iterator.{YieldsList-from_slice}
use Rattle.std.proofs.lemmas.Iterator.Search.{find_from_yields_List}
use Rattle.oct_script.specs.declared.verbs.FirstWord.{FirstWord}
use Rattle.oct_script.proofs.verbs.find_row.Goals as goal

pub returns : goal.returns
returns c =
    find_from_yields_List (λ (row : FirstWord). bytes_eq c.args.word.now row.word.now) _ _ _
    c.find.ensures.ran (YieldsList-from_slice c.args.rows.now cc) (λ x b q k. search (rules, tests))
