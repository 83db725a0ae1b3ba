use Rattle.std.proofs.Common.{◌≡◌, rules}
use Rattle.std.specs.Prelude.{Err}
use Rattle.octofix.proofs.Loads.{refused_file}
use Rattle.octofix.specs.declared.refusal.Refusal.TheVariants as refusal
use Rattle.octofix.proofs.files.load.Goals as goal

pub returns-in_err-load-clause-answer : goal.returns-in_err-load-clause-answer
returns-in_err-load-clause-answer c =
    let is : c.from_residual.result ≡ Err (refusal.Map c.in_err-load.field-0.0) = search rules in
    refused_file c.args.bytes.now c.args.map.now c.in-Ok.file c.in_err-load.field-0.0
    c.from_residual.result c.in-Ok.ensures.answer c.in_err-load.ensures.answer is
