use Rattle.std.proofs.Common.{rules, ◌≡◌, ◌<◌, ◌∙◌, ◌∷◌, [], ℕ, ap, sym, subst}
use Rattle.std.specs.Prelude.{count_ones}
use Rattle.oct_bt.specs.Canonical.{known_codes}
use Rattle.oct_bt.specs.Masks.{nonzero}
use Rattle.oct_bt.proofs.CodeMasks.{codes_counted, codes_few}
use Rattle.oct_bt.proofs.path.known_codes.Goals as goal

counted : (c : goal.After-nonzero)
    → count_ones c.nonzero.result ≡ known_codes (c.args.byte ∷ [])
counted c =
    codes_counted c.args.byte c.nonzero.result (search rules)
    (c.nonzero.ensures ∙ ap (nonzero 8) c.from.ensures)

pub returns-clause-count : goal.returns-clause-count
returns-clause-count c = counted c

pub returns-clause-few : goal.returns-clause-few
returns-clause-few c = subst (λ (n : ℕ). n < 5) (sym (counted c)) (codes_few c.args.byte)
