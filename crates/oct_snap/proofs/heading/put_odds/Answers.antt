use Rattle.std.proofs.Common.{rules, ◌∙◌, ap}
use Rattle.std.proofs.lemmas.Int.{to_z-of_z}
use mir.Val.{SFits}
use mir.Syntax.{w32}
use Rattle.std.specs.Prelude.{ℤ}
use Rattle.oct_snap.specs.Nodes.{number_bytes}
use Rattle.oct_snap.proofs.Heads.{five_put}
use Rattle.oct_snap.proofs.heading.put_odds.Goals as goal

pub returns : goal.returns
returns c =
    let hit : SFits w32 c.args.odds.hit = search rules in
    let miss : SFits w32 c.args.odds.miss = search rules in
    let min : SFits w32 c.args.odds.min = search rules in
    let max : SFits w32 c.args.odds.max = search rules in
    let thr : SFits w32 c.args.odds.thr = search rules in
    five_put c.args.head.now.items _ _ _ _ _ _ _ _ _ _ (number_bytes c.args.odds.hit)
    (number_bytes c.args.odds.miss) (number_bytes c.args.odds.min)
    (number_bytes c.args.odds.max)
    (number_bytes c.args.odds.thr) c.put.ensures c.put-2.ensures c.put-3.ensures c.put-4.ensures
    c.put-5.ensures
    (c.to_be_bytes.ensures ∙ ap (λ (n : ℤ). number_bytes n) (to_z-of_z w32 c.args.odds.hit hit))
    (c.to_be_bytes-2.ensures ∙ ap (λ (n : ℤ). number_bytes n) (to_z-of_z w32 c.args.odds.miss miss))
    (c.to_be_bytes-3.ensures ∙ ap (λ (n : ℤ). number_bytes n) (to_z-of_z w32 c.args.odds.min min))
    (c.to_be_bytes-4.ensures ∙ ap (λ (n : ℤ). number_bytes n) (to_z-of_z w32 c.args.odds.max max))
    (c.to_be_bytes-5.ensures ∙ ap (λ (n : ℤ). number_bytes n) (to_z-of_z w32 c.args.odds.thr thr))
