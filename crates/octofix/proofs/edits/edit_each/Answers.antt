use Rattle.std.proofs.Common.{ℕ, refl, sym, subst}
use Rattle.std.specs.Prelude.{Err}
use Rattle.octofix.proofs.Chains.{leads_on, leads_out}
use Rattle.octofix.specs.Codes.{refusal_at}
use Rattle.octofix.specs.Edits.{AreEdits}
use Rattle.octofix.specs.declared.refusal.Refusal.{Refusal}
use Rattle.octofix.proofs.edits.edit_each.Goals as goal

pub returns-in-Err : goal.returns-in-Err
returns-in-Err c =
    subst (λ (r : Refusal). AreEdits c.args.edits.now 0 c.args.lazy c.args.map.now
    c.edit_map.new.map c.loop-index.done (Err r)) (sym c.at.ensures)
    (subst (λ (d : ℕ). AreEdits c.args.edits.now 0 c.args.lazy c.args.map.now c.edit_map.new.map d
    (Err (refusal_at c.loop-index.index c.in-Err.refusal))) (sym c.loop-index.invariant.1)
    (leads_out c.args.edits.now c.args.lazy c.args.map.now c.loop-index.map c.edit_map.new.map
    c.loop-index.index _ c.in-Err.refusal c.loop-index-test.true c.loop-index.invariant.0
    c.in-Err.ensures))

pub loop-index-preserved : goal.loop-index-preserved
loop-index-preserved c = (
  leads_on c.args.edits.now c.args.lazy c.args.map.now c.loop-index.map c.edit_map.new.map
      c.loop-index.index _ c.loop-index-test.true c.loop-index.invariant.0 c.in-Ok.ensures,
  refl,
)
