use Rattle.std.proofs.Common.{◌≡◌, ◌∙◌, sym, refl, Some, None, Ok, Err}
use Rattle.octofix.specs.Bounds.{sought_numbered}
use Rattle.octofix.specs.declared.refusal.Refusal.TheVariants.{BadArgument}
use Rattle.octofix.proofs.bounds.bounds.Goals as goal

pub returns-in-Some : goal.returns-in-Some
returns-in-Some c =
    let meant : sought_numbered c.args.sought ≡ Some c.in-Some.sought =
    sym c.sought_numbered.ensures ∙ c.in-Some.is in
    record {
      found = Ok c.bounds.result;
      right = rw meant c.bounds.ensures.exact;
      coded = c.tell_box.ensures.code;
      left = c.tell_box.ensures.corners;
    }

pub returns-in-None : goal.returns-in-None
returns-in-None c =
    let meant : sought_numbered c.args.sought ≡ None =
    sym c.sought_numbered.ensures ∙ c.in-None.is in
    record {
      found = Err (BadArgument 0);
      right = rw meant refl;
      coded = c.code.ensures.code;
      left = refl;
    }
