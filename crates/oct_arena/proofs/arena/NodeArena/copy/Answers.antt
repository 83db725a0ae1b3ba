use Rattle.std.proofs.Common.{ap, length, ◌∙◌}
use Rattle.std.proofs.lemmas.List.{nil_from_length}
use Rattle.std.proofs.lemmas.Bool.{false≢true}
use Rattle.oct_arena.proofs.Calls.{arena, lengths}
use Rattle.oct_arena.proofs.arena.NodeArena.copy.Goals as goal

pub returns-in_err-copy-clause-none : goal.returns-in_err-copy-clause-none
returns-in_err-copy-clause-none c = λ none.
    let a = c.self.inside in
    let same = lengths a.rows a.head.number a.given a.used c.args.self.now c.self.invariant
    c.self.view_is in
    absurd (false≢true
    (c.in_err-copy.ensures.none (nil_from_length a.rows (same ∙ ap length none))))

pub returns-in_err-copy-clause-arena : goal.returns-in_err-copy-clause-arena
returns-in_err-copy-clause-arena c =
    let a = c.self.inside in
    arena a.rows a.head.number a.given a.used c.args.self.now c.self.invariant c.self.view_is

pub returns-clause-arena : goal.returns-clause-arena
returns-clause-arena c =
    let a = c.self.inside in
    arena a.rows a.head.number a.given a.used c.args.self.now c.self.invariant c.self.view_is
