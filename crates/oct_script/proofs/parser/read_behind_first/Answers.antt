use Rattle.std.proofs.Common.{option_map, ap, sym}
use Rattle.oct_script.proofs.Leaving.{same_read}
use Rattle.oct_script.proofs.Parsing.{stands_here, stands_away}
use Rattle.oct_script.proofs.parser.read_behind_first.Goals as goal

pub returns-in-Some-clause-exact : goal.returns-in-Some-clause-exact
returns-in-Some-clause-exact c =
    same_read c.read_behind.result c.read_behind.new.command _ _
    (stands_here c.args.inside _ _ _ _ _ (ap (option_map (λ verb. verb.now)) c.in-Some.is)
    c.verb_of.ensures)
    c.read_behind.ensures.exact

pub returns-in-None-clause-exact : goal.returns-in-None-clause-exact
returns-in-None-clause-exact c =
    sym (stands_away _ c.args.inside _ _ _ _ c.fault.ensures
    (ap (option_map (λ verb. verb.now)) c.in-None.is) c.verb_of.ensures)
