use Rattle.std.proofs.Common.{◌∙◌, sym, subst, ap, rules, None}
use Rattle.oct_odds.specs.Odds.{Odds}
use Rattle.oct_odds.specs.Update.{applied, IsWithin}
use Rattle.oct_edit.specs.Bricks.{IsPlain}
use Rattle.oct_edit.proofs.PlantedVoxels.{when_some}
use Rattle.oct_edit.proofs.scan.BrickUpdate.plain_value.Goals as goal

pub returns-in-Absent-clause-plain : goal.returns-in-Absent-clause-plain
returns-in-Absent-clause-plain c =
    when_some (IsPlain c.args.tree.now c.args.p c.args.self.now) c.apply.result (λ m is. record {
      absent = sym c.node.ensures.exact ∙ c.in-Absent.is;
      freed = search rules;
      value =
          sym is ∙ c.apply.ensures.exact
          ∙ ap (λ (o : Odds). applied o c.args.self.now.miss None) c.odds.ensures;
      within =
          subst (IsWithin c.args.tree.now.odds) is
          (subst (λ (o : Odds). IsWithin o c.apply.result) c.odds.ensures c.apply.ensures.within);
    })

pub returns-in-Absent-clause-eager : goal.returns-in-Absent-clause-eager
returns-in-Absent-clause-eager c = when_some _ c.apply.result (λ m is. search rules)
