use Rattle.std.proofs.Common.{Some, Err, ap, subst, rules, ◌∙◌}
use Rattle.oct_io.specs.MemoryFiles.{files_of}
use Rattle.oct_io.specs.Shelf.{shelf}
use Rattle.oct_session.specs.Drill.{drilled_state}
use Rattle.oct_session.specs.History.{start_state}
use Rattle.oct_session.specs.Leaving.{StandsFor}
use Rattle.oct_session.specs.Standing.{desk_of}
use Rattle.oct_session.proofs.Built.{zero_stays}
use Rattle.oct_session.proofs.Drilled.{HasDrilled, work_done, only_memory, passed_stop}
use Rattle.oct_session.proofs.Endings.{nothing_asked}
use Rattle.oct_session.proofs.FewCounted.{drill_low}
use Rattle.oct_session.proofs.Turns.{waits_first}
use Rattle.oct_session.proofs.drilling.work_through.Goals as goal

pub returns-in_err-read_all-clause-memory : goal.returns-in_err-read_all-clause-memory
returns-in_err-read_all-clause-memory c =
    passed_stop _ _ c.from_residual.ensures.1
    (only_memory _ (Err c.in_err-read_all.field-0.0) c.drill_options-options.result
    (files_of c.new-store.result) c.args.seed c.args.scans c.args.points _ _ c.new_map-map.result
    (λ first. shelf (λ x. Some (files_of x)) (λ x. 0) first c.new-store.result)
    (desk_of (λ x. Some (files_of x)) (λ x. 0) c.read_all.new.context.map.now
    c.read_all.new.context.store.now)
    c.new-store.result c.new-session.result c.drill_options-options.ensures
    (ap Some c.new-script.ensures)
    (nothing_asked (λ x. Some (files_of x)) (λ x. 0) c.new-store.result)
    (record {
      stands = subst (λ o. StandsFor c.new_map-map.result (start_state o))
          c.drill_options-options.ensures c.new_map-map.ensures;
      fresh = c.new-session.ensures;
    }) c.ranges.seed.fits c.requires.few_scans c.requires.few_points
    c.in_err-read_all.ensures.reads.to
    (λ is. zero_stays (c.in_err-read_all.ensures.source_counts.read_fault is))
    c.in_err-read_all.ensures.reads.done.counted)

pub returns-clause-done : goal.returns-clause-done
returns-clause-done c =
    let at : HasDrilled c.args.seed c.args.scans c.args.points c.read_all.new.context.map.now
    c.read_all.new.session =
    work_done c.drill_options-options.result (files_of c.new-store.result) c.args.seed c.args.scans
    c.args.points _ _ c.new_map-map.result
    (λ first. shelf (λ x. Some (files_of x)) (λ x. 0) first c.new-store.result)
    (desk_of (λ x. Some (files_of x)) (λ x. 0) c.read_all.new.context.map.now
    c.read_all.new.context.store.now)
    c.new-store.result c.new-session.result c.read_all.new.session
    c.drill_options-options.ensures c.new-store.ensures (ap Some c.new-script.ensures)
    (nothing_asked (λ x. Some (files_of x)) (λ x. 0) c.new-store.result)
    (record {
      stands = subst (λ o. StandsFor c.new_map-map.result (start_state o))
          c.drill_options-options.ensures c.new_map-map.ensures;
      fresh = c.new-session.ensures;
    }) c.in_ok-read_all.ensures.reads.to in
    record {
      tally = at.tally ∙ drill_low c.args.seed c.args.scans c.args.points c.ranges.seed.fits
          c.requires.few_scans c.requires.few_points;
      stands = subst (λ m. StandsFor m (drilled_state c.args.seed c.args.scans c.args.points))
          (search rules) at.stands;
    }

pub read_all-requires : goal.read_all-requires
read_all-requires c = waits_first _ _ c.new-session.ensures
