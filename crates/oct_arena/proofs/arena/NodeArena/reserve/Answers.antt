use Rattle.std.proofs.Common.{refl, ◌-◌, ◌<◌, ap, arith}
use Rattle.oct_arena.specs.Entries.{spare}
use Rattle.oct_arena.proofs.Entries.{live_spare}
use Rattle.oct_arena.proofs.Calls.{IsReserving, reserving, reserving_more}
use Rattle.oct_arena.proofs.arena.NodeArena.reserve.Goals as goal

pub grow-init : goal.grow-init
grow-init c = reserving c.args.n c.args.self.now

pub grow-requires : goal.grow-requires
grow-requires c =
    omega (
      arith,
      live_spare c.grow.self,
      c.grow.invariant.live,
      c.requires,
      c.spare.ensures.exact,
      c.grow-test.true,
    )

after : (c : goal.In_ok-grow)
    → IsReserving c.args.n c.args.self.now c.grow-in-grow.new.self
    × (c.args.n - spare c.grow-in-grow.new.self < c.args.n - spare c.grow.self)
after c =
    let few : spare c.grow.self < c.args.n =
    omega (arith, c.spare.ensures.exact, c.grow-test.true) in
    reserving_more c.args.n c.args.self.now c.grow.self c.grow-in-grow.new.self c.grow.invariant few
    c.in_ok-grow.ensures.ok

pub grow-smaller : goal.grow-smaller
grow-smaller c = (after c).1

pub grow-preserved : goal.grow-preserved
grow-preserved c = (after c).0

pub returns-in_err-grow-clause-kept : goal.returns-in_err-grow-clause-kept
returns-in_err-grow-clause-kept c = rw (c.in_err-grow.ensures.err) c.grow.invariant.kept

pub returns-in_err-grow-clause-chunks : goal.returns-in_err-grow-clause-chunks
returns-in_err-grow-clause-chunks c = rw (c.in_err-grow.ensures.err) c.grow.invariant.chunks

pub returns-in_err-grow-clause-few : goal.returns-in_err-grow-clause-few
returns-in_err-grow-clause-few c = rw (c.in_err-grow.ensures.err) c.grow.invariant.few

pub returns-in_err-grow-clause-live : goal.returns-in_err-grow-clause-live
returns-in_err-grow-clause-live c = rw (c.in_err-grow.ensures.err) c.grow.invariant.live

pub returns-in_err-grow-clause-enough : goal.returns-in_err-grow-clause-enough
returns-in_err-grow-clause-enough c =
    λ enough. absurd (let same = ap spare (c.grow.invariant.enough enough) in
    omega (arith, same, enough, c.spare.ensures.exact, c.grow-test.true))

pub returns-clause-room : goal.returns-clause-room
returns-clause-room c = omega (arith, c.spare.ensures.exact, c.grow-test.false)

pub returns-clause-kept : goal.returns-clause-kept
returns-clause-kept c = c.grow.invariant.kept

pub returns-clause-chunks : goal.returns-clause-chunks
returns-clause-chunks c = c.grow.invariant.chunks

pub returns-clause-few : goal.returns-clause-few
returns-clause-few c = c.grow.invariant.few

pub returns-clause-live : goal.returns-clause-live
returns-clause-live c = c.grow.invariant.live

pub returns-clause-enough : goal.returns-clause-enough
returns-clause-enough c = λ enough. (refl, c.grow.invariant.enough enough)
