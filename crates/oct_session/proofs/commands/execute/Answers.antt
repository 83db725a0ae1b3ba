use Rattle.std.proofs.Common.{Ok, refl, ap, ◌∙◌}
use Rattle.oct_map.specs.Map.{Map, ground_of}
use Rattle.oct_tree.specs.Tree.{Tree}
use Rattle.oct_session.specs.declared.kinds.Order.TheVariants.{Edit, Box, Limit, NoLimit, Refresh}
use Rattle.oct_session.specs.declared.kinds.Order.TheVariants.{Prune, Clear, MaxLik, Track, Untrack}
use Rattle.oct_session.specs.History.{edit_event}
use Rattle.oct_session.proofs.MapHistory.{stands_refreshed, stands_pruned, stands_cleared}
use Rattle.oct_session.proofs.MapHistory.{stands_likened, stands_tracked, stands_untracked}
use Rattle.oct_session.proofs.MapHistory.{stands_unlimited}
use Rattle.oct_session.proofs.Replying.{carried_as, edit_carried, box_carried, limit_carried}
use Rattle.oct_session.proofs.RunningOut.{order_runs_out, limit_calm}
use Rattle.oct_session.proofs.commands.execute.Goals as goal

pub returns-in-Edit-clause-obeyed : goal.returns-in-Edit-clause-obeyed
returns-in-Edit-clause-obeyed c =
    c.acknowledge.ensures.obeyed c.args.map.now c.edit.new.self c.args.order
    (carried_as c.edit.result c.args.map.now c.edit.new.self c.args.order
    (Edit c.in-Edit.p c.in-Edit.e c.in-Edit.lazy) c.in-Edit.is
    (edit_carried c.edit.result c.args.map.now c.edit.new.self c.in-Edit.p c.in-Edit.e
    c.in-Edit.lazy c.event_of-event.result _
    (c.event_of-event.ensures.exact
    ∙ ap (λ odds. edit_event odds c.in-Edit.e)
    (c.odds.ensures ∙ ap (λ (t : Tree). t.odds) c.tree.ensures.exact))
    c.edit.ensures.answer c.edit.ensures.edited c.edit.ensures.refused
    (record { ground = c.edit.ensures.setup; mark = c.edit.ensures.mark })))

pub returns-in-Box-clause-obeyed : goal.returns-in-Box-clause-obeyed
returns-in-Box-clause-obeyed c =
    c.acknowledge-in-Box.ensures.obeyed c.args.map.now c.edit_box.new.self c.args.order
    (carried_as c.edit_box.result c.args.map.now c.edit_box.new.self c.args.order
    (Box c.in-Box.lo c.in-Box.hi c.in-Box.e) c.in-Box.is
    (box_carried c.edit_box.result c.args.map.now c.edit_box.new.self c.in-Box.lo c.in-Box.hi
    c.in-Box.e c.event_of-event-in-Box.result _
    (c.event_of-event-in-Box.ensures.exact
    ∙ ap (λ odds. edit_event odds c.in-Box.e)
    (c.odds-in-Box.ensures ∙ ap (λ (t : Tree). t.odds) c.tree-in-Box.ensures.exact))
    c.edit_box.ensures.answer c.edit_box.ensures.edited c.edit_box.ensures.refused
    (record { ground = c.edit_box.ensures.setup; mark = c.edit_box.ensures.mark })))

pub returns-in-Limit-clause-obeyed : goal.returns-in-Limit-clause-obeyed
returns-in-Limit-clause-obeyed c =
    c.acknowledge-in-Limit.ensures.obeyed c.args.map.now c.limit.new.self c.args.order
    (carried_as c.limit.result c.args.map.now c.limit.new.self c.args.order
    (Limit c.in-Limit.lo c.in-Limit.hi) c.in-Limit.is
    (limit_carried c.limit.result c.args.map.now c.limit.new.self c.in-Limit.lo c.in-Limit.hi
    c.limit.ensures.answer c.limit.ensures.limited c.limit.ensures.refused))

pub returns-in-NoLimit-clause-obeyed : goal.returns-in-NoLimit-clause-obeyed
returns-in-NoLimit-clause-obeyed c =
    c.acknowledge-in-NoLimit.ensures.obeyed c.args.map.now c.no_limit.new.self c.args.order
    (carried_as (Ok tt) c.args.map.now c.no_limit.new.self c.args.order NoLimit c.in-NoLimit.is
    (λ s at. (
      refl,
      stands_unlimited c.args.map.now c.no_limit.new.self s c.no_limit.ensures.exact at,
    )))

pub returns-in-Refresh-clause-obeyed : goal.returns-in-Refresh-clause-obeyed
returns-in-Refresh-clause-obeyed c =
    let fresh = c.refresh.ensures in
    c.acknowledge-in-Refresh.ensures.obeyed c.args.map.now c.refresh.new.self c.args.order
    (carried_as (Ok tt) c.args.map.now c.refresh.new.self c.args.order Refresh c.in-Refresh.is
    (λ s at. (
      refl,
      stands_refreshed c.args.map.now c.refresh.new.self s fresh.values fresh.stale
          fresh.pruned (record { ground = fresh.setup; mark = fresh.mark }) at,
    )))

pub returns-in-Prune-clause-obeyed : goal.returns-in-Prune-clause-obeyed
returns-in-Prune-clause-obeyed c =
    let pruned = c.prune.ensures in
    c.acknowledge-in-Prune.ensures.obeyed c.args.map.now c.prune.new.self c.args.order
    (carried_as (Ok tt) c.args.map.now c.prune.new.self c.args.order Prune c.in-Prune.is
    (λ s at. (
      refl,
      stands_pruned c.args.map.now c.prune.new.self s pruned.values pruned.stale
          pruned.pruned (record { ground = pruned.setup; mark = pruned.mark }) at,
    )))

pub returns-in-Clear-clause-obeyed : goal.returns-in-Clear-clause-obeyed
returns-in-Clear-clause-obeyed c =
    let cleared = c.clear.ensures in
    c.acknowledge-in-Clear.ensures.obeyed c.args.map.now c.clear.new.self c.args.order
    (carried_as (Ok tt) c.args.map.now c.clear.new.self c.args.order Clear c.in-Clear.is
    (λ s at. (
      refl,
      stands_cleared c.args.map.now c.clear.new.self s cleared.unknown cleared.stale
          cleared.pruned cleared.setup (ap (λ (m : Map). m.mark) cleared.exact) at,
    )))

pub returns-in-MaxLik-clause-obeyed : goal.returns-in-MaxLik-clause-obeyed
returns-in-MaxLik-clause-obeyed c =
    let likened = c.max_likelihood.ensures in
    c.acknowledge-in-MaxLik.ensures.obeyed c.args.map.now c.max_likelihood.new.self c.args.order
    (carried_as (Ok tt) c.args.map.now c.max_likelihood.new.self c.args.order MaxLik c.in-MaxLik.is
    (λ s at. (
      refl,
      stands_likened c.args.map.now c.max_likelihood.new.self s likened.values
          likened.stale likened.pruned (record { ground = likened.setup; mark = likened.mark }) at,
    )))

pub returns-in-Track-clause-obeyed : goal.returns-in-Track-clause-obeyed
returns-in-Track-clause-obeyed c =
    c.acknowledge-in-Track.ensures.obeyed c.args.map.now c.track.new.self c.args.order
    (carried_as (Ok tt) c.args.map.now c.track.new.self c.args.order Track c.in-Track.is
    (λ s at. (
      refl,
      stands_tracked c.args.map.now c.track.new.self s _ c.track.ensures.exact
          c.track.ensures.marked at,
    )))

pub returns-in-Untrack-clause-obeyed : goal.returns-in-Untrack-clause-obeyed
returns-in-Untrack-clause-obeyed c =
    c.acknowledge-in-Untrack.ensures.obeyed c.args.map.now c.untrack.new.self c.args.order
    (carried_as (Ok tt) c.args.map.now c.untrack.new.self c.args.order Untrack c.in-Untrack.is
    (λ s at. (
      refl,
      stands_untracked c.args.map.now c.untrack.new.self s c.untrack.ensures.exact at,
    )))

pub returns-in-Edit-clause-memory : goal.returns-in-Edit-clause-memory
returns-in-Edit-clause-memory c =
    order_runs_out c.acknowledge.result c.args.map.now c.args.order
    (Edit c.in-Edit.p c.in-Edit.e c.in-Edit.lazy)
    c.edit.result c.in-Edit.is c.acknowledge.ensures.memory c.edit.ensures.memory

pub returns-in-Box-clause-memory : goal.returns-in-Box-clause-memory
returns-in-Box-clause-memory c =
    order_runs_out c.acknowledge-in-Box.result c.args.map.now c.args.order
    (Box c.in-Box.lo c.in-Box.hi c.in-Box.e)
    c.edit_box.result c.in-Box.is c.acknowledge-in-Box.ensures.memory c.edit_box.ensures.memory

pub returns-in-Limit-clause-memory : goal.returns-in-Limit-clause-memory
returns-in-Limit-clause-memory c =
    order_runs_out c.acknowledge-in-Limit.result c.args.map.now c.args.order
    (Limit c.in-Limit.lo c.in-Limit.hi)
    c.limit.result c.in-Limit.is c.acknowledge-in-Limit.ensures.memory
    (λ memory. absurd (limit_calm c.limit.result (ground_of c.args.map.now) c.in-Limit.lo
    c.in-Limit.hi c.limit.ensures.answer memory))
