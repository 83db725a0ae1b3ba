use Rattle.std.proofs.Common.{rules, ◌∙◌, ap}
use Rattle.std.proofs.lemmas.Int.{to_z-of_z}
use mir.Val.{SFits}
use mir.Syntax.{w64}
use Rattle.std.specs.Prelude.{ℤ}
use Rattle.std.specs.Int.{cast_unsigned, to_be_bytes}
use Rattle.oct_odds.specs.Odds.{odds_of}
use Rattle.oct_snap.specs.Texts.{res_bytes, odds_bytes, window_bytes}
use Rattle.oct_snap.proofs.Heads.{head_put}
use Rattle.oct_snap.proofs.heading.head_of.Goals as goal

pub returns : goal.returns
returns c =
    let fits : SFits w64 c.nm.result = search rules in
    head_put _ _ _ _ _ _ _ (res_bytes c.args.res) (odds_bytes (odds_of c.args.odds))
    (window_bytes c.args.window) c.new-head.ensures
    c.put.ensures c.put-2.ensures c.put_odds.ensures c.put_window.ensures
    (c.to_be_bytes.ensures ∙ ap (λ (n : ℤ). to_be_bytes w64 (cast_unsigned w64 n))
    (to_z-of_z w64 c.nm.result fits ∙ c.nm.ensures.value))
