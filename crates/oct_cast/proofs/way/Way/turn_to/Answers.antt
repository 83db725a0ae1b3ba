use Rattle.std.proofs.Common.{◌+◌, sym, subst, ◌∙◌}
use Rattle.oct_key.specs.Morton.{morton_of}
use Rattle.oct_key.proofs.Interleavings.{morton_below}
use Rattle.oct_cast.specs.Way.{AreLinked}
use Rattle.oct_cast.proofs.Ways.{code_below, shared_linked}
use Rattle.oct_cast.proofs.way.Way.turn_to.Goals as goal

pub ascend-requires-clause-height : goal.ascend-requires-clause-height
ascend-requires-clause-height c = c.requires.before.1.height

pub ascend-requires-clause-code : goal.ascend-requires-clause-code
ascend-requires-clause-code c = code_below c.args.code c.requires.code.0 c.requires.code.1

pub ascend-requires-clause-block : goal.ascend-requires-clause-block
ascend-requires-clause-block c = (
  morton_of c.requires.before.0,
  morton_below c.requires.before.0,
  c.requires.before.1.block,
)

pub descend-requires-clause-linked : goal.descend-requires-clause-linked
descend-requires-clause-linked c =
    let here = c.ascend.ensures.here in
    let before =
    c.ascend.ensures.before (morton_of c.requires.before.0) c.requires.before.1.block in (
      c.requires.code.0,
      c.requires.code.1,
      subst (λ gs. AreLinked c.args.tree.now gs (c.ascend.new.self.depth + 1) c.requires.code.0)
          (sym c.ascend.ensures.groups)
          (shared_linked c.args.tree.now c.args.self.now c.requires.before.0 c.requires.code.0
          c.args.code
          c.ascend.new.self.depth c.requires.before.1 c.requires.code.1 c.ascend.ensures.depth
          (sym here ∙ before)),
    )
