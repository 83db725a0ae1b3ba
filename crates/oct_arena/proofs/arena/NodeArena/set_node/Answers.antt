use Rattle.std.proofs.Common.{refl, ◌∙◌, ap, subst, sym}
use Rattle.std.specs.Prelude.{slice_set}
use Rattle.oct_arena.specs.Entries.{IsLive, entry, with_node, spare}
use Rattle.oct_arena.proofs.Calls.{there, has_changed, Changed, arena}
use Rattle.oct_arena.proofs.arena.NodeArena.set_node.Goals as goal

pub set_node-requires-clause-live : goal.set_node-requires-clause-live
set_node-requires-clause-live c =
    let a = c.self.inside in
    subst (IsLive a.rows) (sym c.number.ensures.same)
    (there a.rows a.head.number a.given a.used c.args.self.now c.self.invariant
    c.self.view_is c.args.id.number c.requires.live)

after : (c : goal.After-set_node) → (let a = c.self.inside in
    Changed a.rows a.head.number a.given a.used c.args.self.now c.self.invariant
    c.self.view_is c.args.id.number c.args.i c.args.n c.set_node.new.self)
after c =
    let a = c.self.inside in
    has_changed a.rows a.head.number a.given a.used c.args.self.now c.self.invariant
    c.self.view_is c.args.id.number c.args.i c.args.n c.set_node.new.self c.requires.live
    (c.set_node.ensures
    ∙ ap (λ n. slice_set a.rows c.number.result (with_node (entry a.rows c.number.result)
    c.args.i n))
    c.new.ensures
    ∙ ap (λ i. slice_set a.rows i (with_node (entry a.rows i) c.args.i c.args.n))
    c.number.ensures.same)

pub invariant_of-self : goal.invariant_of-self
invariant_of-self c = (after c).threaded

pub returns-clause-changed : goal.returns-clause-changed
returns-clause-changed c = (after c).changed

pub returns-clause-spare : goal.returns-clause-spare
returns-clause-spare c = ap spare (after c).changed ∙ (after c).spares

pub returns-clause-arena : goal.returns-clause-arena
returns-clause-arena c =
    let a = c.self.inside in
    arena c.set_node.new.self a.head.number a.given a.used _ (after c).threaded refl
