use Rattle.oct_arena.proofs.Calls.{lives, few, arena}
use Rattle.oct_arena.proofs.arena.NodeArena.live.Goals as goal

pub overflow_sub-result : goal.overflow_sub-result
overflow_sub-result c =
    let a = c.self.inside in
    few a.rows a.head.number a.given a.used c.args.self.now c.self.invariant c.self.view_is

pub returns-clause-exact : goal.returns-clause-exact
returns-clause-exact c =
    let a = c.self.inside in
    lives a.rows a.head.number a.given a.used c.args.self.now c.self.invariant c.self.view_is

pub returns-clause-arena : goal.returns-clause-arena
returns-clause-arena c =
    let a = c.self.inside in
    arena a.rows a.head.number a.given a.used c.args.self.now c.self.invariant c.self.view_is
