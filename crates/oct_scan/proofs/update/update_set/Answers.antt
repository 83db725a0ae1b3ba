use Rattle.std.proofs.Common.{ap, sym, subst, arith, length, rules}
use Rattle.oct_scan.specs.Beam.{sighting_of}
use Rattle.oct_scan.specs.Update.{UpdateSet, IsUpdateOf, IsOutcomeOf}
use Rattle.oct_scan.proofs.Taking.{bricks_point}
use Rattle.oct_scan.proofs.update.update_set.Goals as goal

pub returns-clause-update : goal.returns-clause-update
returns-clause-update c =
    subst (IsUpdateOf c.args.res c.args.window (sighting_of c.args.scan.now))
    (sym c.in_ok-set.ensures.same) c.in_ok-update.ensures.update

pub returns-clause-outcome : goal.returns-clause-outcome
returns-clause-outcome c =
    subst (IsOutcomeOf c.args.res c.args.window (sighting_of c.args.scan.now))
    (sym c.in_ok-set.ensures.same) c.in_ok-update.ensures.outcome

pub returns-clause-few : goal.returns-clause-few
returns-clause-few c =
    let made = c.in_ok-update.ensures.made in
    let hits = ap (λ (u : UpdateSet). length u.hits) c.in_ok-set.ensures.same in
    let frees = ap (λ (u : UpdateSet). length u.frees) c.in_ok-set.ensures.same in
    omega (arith, hits, frees, made.hits_counted, made.frees_counted, c.in_ok-update.ensures.few)

pub returns-in_err-set-clause-memory : goal.returns-in_err-set-clause-memory
returns-in_err-set-clause-memory c _ = (
  c.in_ok-update.ensures.accepted,
  bricks_point c.args.res c.args.window (sighting_of c.args.scan.now)
      c.in_ok-update.update.bricks c.in_ok-update.ensures.made.bricks
      c.in_ok-update.ensures.update.hits
      c.in_ok-update.ensures.update.frees (search rules),
)
