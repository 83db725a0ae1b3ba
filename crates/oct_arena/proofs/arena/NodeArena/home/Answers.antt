use Rattle.std.proofs.Common.{Some, ◌∙◌, ap, subst, sym}
use Rattle.oct_arena.specs.Entries.{IsLive, entry, home_of}
use Rattle.oct_arena.proofs.Calls.{there, in_memory, arena}
use Rattle.oct_arena.proofs.arena.NodeArena.home.Goals as goal

pub get-requires : goal.get-requires
get-requires c =
    let a = c.self.inside in
    subst (IsLive a.rows) (sym c.number.ensures.same)
    (there a.rows a.head.number a.given a.used c.args.self.now c.self.invariant
    c.self.view_is c.args.id.number c.requires)

pub returns-clause-exact : goal.returns-clause-exact
returns-clause-exact c =
    let a = c.self.inside in
    ap home_of
    (in_memory a.rows a.head.number a.given a.used c.args.self.now c.self.invariant
    c.self.view_is c.args.id.number c.requires
    ∙ ap (entry a.rows) (sym c.number.ensures.same) ∙ c.get.ensures)
    ∙ ap Some (sym c.block.ensures)

pub returns-clause-arena : goal.returns-clause-arena
returns-clause-arena c =
    let a = c.self.inside in
    arena a.rows a.head.number a.given a.used c.args.self.now c.self.invariant c.self.view_is
