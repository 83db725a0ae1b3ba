use Rattle.oct_values.proofs.Uniform.{uniform_exactly}
use Rattle.oct_query.proofs.Needed.{varied_home, home_varied}
use Rattle.oct_query.proofs.laws.groups_are_needed.Goals as goal

pub returns-clause-needed : goal.returns-clause-needed
returns-clause-needed c =
    λ b ok varied. varied_home c.args.tree.now b c.root-root.ensures.linked ok varied

pub returns-clause-pruned : goal.returns-clause-pruned
returns-clause-pruned c = λ pruned b (x, home) uniform.
    home_varied c.args.tree.now b x c.root-root.ensures.linked pruned home
    ((uniform_exactly _ b (c.root-root.ensures.linked.homes x b home).0).1 uniform)
