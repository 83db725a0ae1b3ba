use Rattle.std.proofs.Common.{◌≡◌, ◌∙◌, sym, ap, subst, inr, rules}
use Rattle.std.specs.Prelude.{Err}
use Rattle.oct_scan.specs.Beam.{sighting_of}
use Rattle.octofix.specs.Codes.{of_map}
use Rattle.octofix.specs.Scans.{IsMapScan, IsScanOf, counted_told}
use Rattle.octofix.specs.declared.refusal.Refusal.TheVariants as refusal
use Rattle.octofix.proofs.scans.scan.Goals.{After-scan}
use Rattle.octofix.proofs.scans.scan.Goals as goal

-- all that the map says of it
said : (c : After-scan) → IsMapScan (sighting_of c.in_ok-scan.scan) c.args.options.lazy
    c.args.map.now c.scan.new.self c.scan.result
said c = record {
  answer = c.scan.ensures.answer;
  memory = c.scan.ensures.memory;
  room = c.scan.ensures.room;
  edited = c.scan.ensures.edited;
  refused = c.scan.ensures.refused;
  reserved = c.scan.ensures.reserved;
  faulty = c.scan.ensures.faulty;
  path = c.scan.ensures.path;
  mark = c.scan.ensures.mark;
  noted = c.scan.ensures.noted;
  ground = c.scan.ensures.setup;
  map = c.scan.ensures.map;
}

pub returns-in_err-done : goal.returns-in_err-done
returns-in_err-done c =
    let is : c.from_residual-in_err-done.result ≡ Err (refusal.Map c.in_err-done.field-0.0) =
    search rules in
    subst (λ seen. IsScanOf seen c.args.points.now c.args.options.lazy c.args.map.now
    c.scan.new.self c.from_residual-in_err-done.result) (sym c.in_ok-scan.ensures.0)
    (inr (
      c.scan.result,
      said (goal.at.returns-in_err-done c).After-scan,
      is ∙ sym (ap (λ done. counted_told (of_map done)) c.in_err-done.was),
    ))
