use Rattle.std.proofs.Common.{◌+◌, ◌≤◌, ◌^◌, subst, sym, length, arith}
use Rattle.oct_arena.specs.Entries.{IsArena}
use Rattle.oct_arena.proofs.FreeLists.{entries, is_arena}
use Rattle.oct_arena.proofs.Calls.{lengths, grew}
use Rattle.oct_arena.proofs.arena.NodeArena.grow.Goals as goal

pub append-requires : goal.append-requires
append-requires c =
    let a = c.self.inside in
    let e =
    lengths a.rows a.head.number a.given a.used c.args.self.now c.self.invariant c.self.view_is in
    let h = c.requires in
    omega arith

pub returns-in_err-append-clause-arena : goal.returns-in_err-append-clause-arena
returns-in_err-append-clause-arena c =
    let a = c.self.inside in
    subst (λ gs. IsArena (entries gs a.head.number a.given)) (sym c.in_err-append.ensures.err)
    (is_arena a.rows a.head.number a.given a.used c.self.invariant)

pub invariant_of-self-2 : goal.invariant_of-self-2
invariant_of-self-2 c =
    let a = c.self.inside in
    let e =
    lengths a.rows a.head.number a.given a.used c.args.self.now c.self.invariant c.self.view_is in
    let room : length a.rows + 1024 ≤ 2 ^ 31 + 1023 = (let h = c.requires in omega arith) in
    (grew a.rows a.head.number a.given a.used c.args.self.now c.self.invariant c.self.view_is
    c.append.new.self c.in_ok-append.ensures.ok room).0

pub returns-clause-ok : goal.returns-clause-ok
returns-clause-ok c =
    let a = c.self.inside in
    let e =
    lengths a.rows a.head.number a.given a.used c.args.self.now c.self.invariant c.self.view_is in
    let room : length a.rows + 1024 ≤ 2 ^ 31 + 1023 = (let h = c.requires in omega arith) in
    (grew a.rows a.head.number a.given a.used c.args.self.now c.self.invariant c.self.view_is
    c.append.new.self c.in_ok-append.ensures.ok room).1

pub returns-clause-arena : goal.returns-clause-arena
returns-clause-arena c =
    let a = c.self.inside in
    let e =
    lengths a.rows a.head.number a.given a.used c.args.self.now c.self.invariant c.self.view_is in
    let room : length a.rows + 1024 ≤ 2 ^ 31 + 1023 = (let h = c.requires in omega arith) in
    is_arena c.append.new.self a.head.number a.given a.used
    (grew a.rows a.head.number a.given a.used c.args.self.now c.self.invariant c.self.view_is
    c.append.new.self c.in_ok-append.ensures.ok room).0
