use Rattle.std.proofs.Common.{refl, ◌∙◌, ◌+◌, ap, subst, sym, arith, pos}
use Rattle.std.specs.Prelude.{slice_set}
use Rattle.oct_arena.specs.declared.node.Node.TheVariants.{Inner}
use Rattle.oct_arena.specs.Entries.{IsLive, entry, with_node, spare}
use Rattle.oct_arena.proofs.FreeLists.{is_arena}
use Rattle.oct_arena.proofs.Calls.{there, few, gave, Gave}
use Rattle.oct_arena.proofs.arena.NodeArena.give.Goals as goal

pub set_node-requires-clause-live : goal.set_node-requires-clause-live
set_node-requires-clause-live c =
    let a = c.self.inside in
    subst (IsLive a.rows) (sym c.number.ensures.same)
    (there a.rows a.head.number a.given a.used c.args.self.now c.self.invariant c.self.view_is
    c.args.id.number c.requires)

pub overflow_add-self : goal.overflow_add-self
overflow_add-self c =
    let a = c.self.inside in
    let less =
    few a.rows a.head.number a.given a.used c.args.self.now c.self.invariant c.self.view_is in
    let h = c.self.invariant.within in
    let top = c.self.invariant.arena.few in
    record { fits = omega arith }

after : (c : goal.After-self-1) → (let a = c.self.inside in
    Gave a.rows a.head.number a.given a.used c.args.self.now c.self.invariant c.self.view_is
    c.args.id.number c.set_node.new.self)
after c =
    let a = c.self.inside in
    gave a.rows a.head.number a.given a.used c.args.self.now c.self.invariant c.self.view_is
    c.args.id.number a.head (pos 0) c.set_node.new.self c.requires refl
    (c.set_node.ensures
    ∙ ap (λ n. slice_set a.rows c.number.result (with_node (entry a.rows c.number.result) 0 n))
    c.new.ensures
    ∙ ap (λ i. slice_set a.rows i (with_node (entry a.rows i) 0 (Inner (pos 0) a.head)))
    c.number.ensures.same)

pub invariant_of-self : goal.invariant_of-self
invariant_of-self c = (after c).threaded

pub returns-clause-vacated : goal.returns-clause-vacated
returns-clause-vacated c = (after c).vacated

pub returns-clause-spare : goal.returns-clause-spare
returns-clause-spare c = ap spare (after c).vacated ∙ (after c).spares

pub returns-clause-arena : goal.returns-clause-arena
returns-clause-arena c =
    let a = c.self.inside in
    is_arena c.set_node.new.self c.args.id.number (a.given + 1) a.used (after c).threaded
