use Rattle.std.proofs.Common.{◌≡◌, refl, sym, subst, inr, rules}
use Rattle.std.specs.Prelude.{⊤, Result, Ok, Err, IsOk}
use Rattle.oct_map.specs.declared.fault.MapFault.TheVariants as fault
use Rattle.octofix.specs.Settings.{opening}
use Rattle.octofix.specs.declared.refusal.Refusal.{Refusal}
use Rattle.octofix.specs.declared.refusal.Refusal.TheVariants as refusal
use Rattle.octofix.proofs.making.open.Goals as goal

pub returns-in_err-map-clause-answer : goal.returns-in_err-map-clause-answer
returns-in_err-map-clause-answer c =
    let accepted : opening c.args.handle.now.slot.map c.args.res c.args.odds c.args.limits ≡ Ok tt =
    search rules in
    let out : c.from_residual-in_err-map.result ≡ Err (refusal.Map fault.Memory) = search rules in
    inr (out, subst (λ (r : Result ⊤ Refusal). IsOk r) (sym accepted) refl)
