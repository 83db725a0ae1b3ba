use Rattle.std.proofs.Common.{rules, ◌≡◌, ◌∙◌, ◌+◌, ◌-◌, ◌<◌, ap, subst, sym, refl}
use Rattle.std.proofs.Common.{arith, length, Some}
use Rattle.std.specs.Prelude.{slice_set}
use Rattle.oct_arena.specs.declared.node.Group.{Group}
use Rattle.oct_arena.specs.Entries.{entry, node_of, spare}
use Rattle.oct_arena.specs.Free.{linked_number}
use Rattle.oct_arena.proofs.Calls.{more, took_new, took_last, Took, arena}
use Rattle.oct_arena.proofs.arena.NodeArena.put.Goals as goal

pub new-id-requires : goal.new-id-requires
new-id-requires c =
    let a = c.self.inside in
    let l =
    more a.rows a.head.number a.given a.used c.args.self.now c.self.invariant c.self.view_is
    c.if-self-eq0.true c.requires in
    let top = c.self.invariant.arena.few in
    omega arith

pub write-requires-clause-within : goal.write-requires-clause-within
write-requires-clause-within c =
    let a = c.self.inside in
    more a.rows a.head.number a.given a.used c.args.self.now c.self.invariant c.self.view_is
    c.if-self-eq0.true c.requires

-- an entry that was never taken
new : (c : goal.After-self-1) → (let a = c.self.inside in
    Took a.rows a.head.number a.given a.used c.args.self.now c.self.invariant c.self.view_is a.used
    a.head.number a.given (a.used + 1)
    (record { home = c.args.home; nodes = c.args.nodes }) c.write.new.self)
new c =
    let a = c.self.inside in
    let eight : length c.args.nodes ≡ 8 = search rules in
    took_new a.rows a.head.number a.given a.used c.args.self.now c.self.invariant c.self.view_is
    (a.used + 1) (record { home = c.args.home; nodes = c.args.nodes }) c.write.new.self
    c.if-self-eq0.true c.requires eight (omega arith) c.write.ensures

pub invariant_of-self : goal.invariant_of-self
invariant_of-self c = (new c).threaded

pub returns-then-self-eq0-clause-within : goal.returns-then-self-eq0-clause-within
returns-then-self-eq0-clause-within c =
    subst (λ n. n < length c.args.self.now) (sym c.new-id.ensures) (new c).inside

pub returns-then-self-eq0-clause-spare : goal.returns-then-self-eq0-clause-spare
returns-then-self-eq0-clause-spare c = ap (λ gs. spare gs + 1) (new c).filled ∙ (new c).spares

-- the entry that was given back last
last : (c : goal.After-self-3-1) → (let a = c.self.inside in
    Took a.rows a.head.number a.given a.used c.args.self.now c.self.invariant c.self.view_is
    a.head.number c.next-self-inside.result.number (a.given - 1) a.used
    (record { home = c.args.home; nodes = c.args.nodes }) c.fill.new.self)
last c =
    let a = c.self.inside in
    let g : Group = record { home = c.args.home; nodes = c.args.nodes } in
    let eight : length c.args.nodes ≡ 8 = search rules in
    let none = c.if-self-eq0.false in
    took_last a.rows a.head.number a.given a.used c.args.self.now c.self.invariant c.self.view_is
    c.next-self-inside.result.number g c.fill.new.self (omega arith) eight
    (c.next-self-inside.ensures
    ∙ ap (λ e. linked_number (node_of e 0))
    (sym c.get.ensures ∙ ap (entry a.rows) c.number-at.ensures.same))
    (c.fill.ensures ∙ ap (λ i. slice_set a.rows i (Some g)) c.number-at.ensures.same)

pub invariant_of-self-2 : goal.invariant_of-self-2
invariant_of-self-2 c = (last c).threaded

pub returns-clause-within : goal.returns-clause-within
returns-clause-within c = (last c).inside

pub returns-clause-vacant : goal.returns-clause-vacant
returns-clause-vacant c = (last c).vacant

pub returns-clause-filled : goal.returns-clause-filled
returns-clause-filled c = (last c).filled

pub returns-clause-spare : goal.returns-clause-spare
returns-clause-spare c = ap (λ gs. spare gs + 1) (last c).filled ∙ (last c).spares

pub returns-clause-arena : goal.returns-clause-arena
returns-clause-arena c =
    let a = c.self.inside in
    arena c.fill.new.self c.next-self-inside.result.number (a.given - 1) a.used _ (last c).threaded
    refl
