use Rattle.std.proofs.Common.{false, refl, subst}
use Rattle.oct_map.specs.Map.{Map}
use Rattle.oct_map.specs.Marks.{KeepsMark}
use Rattle.oct_map.proofs.Views.{map_of}
use Rattle.oct_map.proofs.Likely.{likely_mark}
use Rattle.oct_map.proofs.map.OccMap.max_likelihood.Goals as goal

pub returns-clause-mark : goal.returns-clause-mark
returns-clause-mark c =
    subst (λ (m : Map). KeepsMark m
    (map_of c.maximum_likelihood.new.tree false c.self.inside.window c.self.inside.limits
    c.self.inside.mark)) c.self.view_is
    (likely_mark (map_of c.self.inside.tree c.self.inside.is_stale c.self.inside.window
    c.self.inside.limits c.self.inside.mark)
    (map_of c.maximum_likelihood.new.tree false c.self.inside.window c.self.inside.limits
    c.self.inside.mark)
    c.odds.result c.odds.ensures refl c.maximum_likelihood.ensures.odds
    c.maximum_likelihood.ensures.values)
