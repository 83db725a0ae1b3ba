use Rattle.std.proofs.Common.{◌≡◌, ◌+◌, ◌-◌, ◌∙◌, ap, arith, length}
use Rattle.oct_arena.proofs.Calls.{counts, few, arena}
use Rattle.oct_arena.proofs.arena.NodeArena.spare.Goals as goal

pub overflow_sub-result : goal.overflow_sub-result
overflow_sub-result c =
    let a = c.self.inside in
    let h = c.self.invariant.within in
    let e : c.len.result ≡ length a.rows = c.len.ensures in
    omega arith

pub overflow_add-result : goal.overflow_add-result
overflow_add-result c =
    let a = c.self.inside in
    let few =
    few a.rows a.head.number a.given a.used c.args.self.now c.self.invariant c.self.view_is in
    let h = c.self.invariant.within in
    let top = c.self.invariant.arena.few in
    let e : c.len.result ≡ length a.rows = c.len.ensures in
    record { fits = omega arith }

pub returns-clause-exact : goal.returns-clause-exact
returns-clause-exact c =
    let a = c.self.inside in
    let e : c.len.result ≡ length a.rows = c.len.ensures in
    ap (λ n. n - a.used + a.given) e
    ∙ counts a.rows a.head.number a.given a.used c.args.self.now c.self.invariant c.self.view_is

pub returns-clause-arena : goal.returns-clause-arena
returns-clause-arena c =
    let a = c.self.inside in
    arena a.rows a.head.number a.given a.used c.args.self.now c.self.invariant c.self.view_is
