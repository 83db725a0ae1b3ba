use Rattle.std.proofs.Common.{rules, ◌≡◌, ◌<◌, ◌≤◌, ◌+◌, ◌++◌, length, take, refl, ap, subst, ◌∙◌}
use Rattle.oct_num.proofs.Results.{on_any_err}
use Rattle.oct_io.specs.Told.{appended}
use Rattle.oct_io.proofs.Gathering.{pushing_first, pushing_next, pushing_long, pushing_cut}
use Rattle.oct_io.proofs.Gathering.{pushing_handed, pushing_held, gathered_push, gathered_refused}
use Rattle.oct_io.proofs.gather.Gather.push.Goals as goal

pub loop-rest-init : goal.loop-rest-init
loop-rest-init g c = record {
  pushing = pushing_first c.args.self.now c.args.piece.now (g.K.Sink.written c.args.sink.now);
  waits = λ _. refl;
  faults = refl;
  shortages = refl;
}

pub returns-in_err-flush-clause-cut : goal.returns-in_err-flush-clause-cut
returns-in_err-flush-clause-cut g c =
    let (n, less, wrote) = c.in_err-flush.ensures.err in
    on_any_err c.from_residual.result _
    (pushing_cut _ _ c.loop-rest.rest.now c.room-in-loop-rest.result n _ _ _
    c.loop-rest.invariant.pushing
    (subst (λ l. n < length l) held less)
    (wrote ∙ ap (λ l. appended (g.K.Sink.written c.loop-rest.sink) (take n l)) held))
  where
    held : c.hold.new.self
        ≡ c.loop-rest.self ++ take c.room-in-loop-rest.result c.loop-rest.rest.now
    held = c.hold.ensures ∙ ap (λ l. c.loop-rest.self ++ l) c.split_at.ensures.front

pub returns-in_err-flush-clause-refused : goal.returns-in_err-flush-clause-refused
returns-in_err-flush-clause-refused g c =
    let (n, less, wrote) = c.in_err-flush.ensures.err in
    on_any_err c.from_residual.result _
    (λ text start gathered. gathered_refused text c.args.piece.now _ start _ _ gathered
    (pushing_cut _ _ c.loop-rest.rest.now c.room-in-loop-rest.result n _ _ _
    c.loop-rest.invariant.pushing
    (subst (λ l. n < length l) held less)
    (wrote ∙ ap (λ l. appended (g.K.Sink.written c.loop-rest.sink) (take n l)) held)))
  where
    held : c.hold.new.self
        ≡ c.loop-rest.self ++ take c.room-in-loop-rest.result c.loop-rest.rest.now
    held = c.hold.ensures ∙ ap (λ l. c.loop-rest.self ++ l) c.split_at.ensures.front

pub loop-rest-preserved : goal.loop-rest-preserved
loop-rest-preserved g c = record {
  pushing = pushing_next _ _ _ _ _ c.room-in-loop-rest.result _ _ _ c.loop-rest.invariant.pushing
      c.room-in-loop-rest.ensures over
      c.in_ok-flush.ensures.empty c.split_at.ensures.back
      (c.in_ok-flush.ensures.ok ∙ ap (appended (g.K.Sink.written c.loop-rest.sink))
      (c.hold.ensures ∙ ap (λ l. c.loop-rest.self ++ l) c.split_at.ensures.front));
  waits = λ short. absurd
      (pushing_long _ _ _ c.room-in-loop-rest.result _ _ c.loop-rest.invariant.pushing
      c.room-in-loop-rest.ensures over short);
  faults = c.in_ok-flush.ensures.counts.stays.0 ∙ c.loop-rest.invariant.faults;
  shortages = c.in_ok-flush.ensures.counts.stays.1 ∙ c.loop-rest.invariant.shortages;
}
  where
    over : c.room-in-loop-rest.result < length c.loop-rest.rest.now
    over = search rules

pub returns-clause-handed : goal.returns-clause-handed
returns-clause-handed g c = pushing_handed _ _ _ _ _ c.loop-rest.invariant.pushing fits
  where
    fits : length c.loop-rest.self + length c.loop-rest.rest.now ≤ 4096
    fits = search rules

pub returns-clause-held : goal.returns-clause-held
returns-clause-held g c = c.hold-2.ensures
    ∙ pushing_held _ _ _ _ _ c.loop-rest.invariant.pushing fits
  where
    fits : length c.loop-rest.self + length c.loop-rest.rest.now ≤ 4096
    fits = search rules

pub returns-clause-taken : goal.returns-clause-taken
returns-clause-taken g c = λ text start gathered.
    gathered_push text _ _ _ _ start _ _ gathered
    (pushing_handed _ _ _ _ _ c.loop-rest.invariant.pushing fits)
    (c.hold-2.ensures ∙ pushing_held _ _ _ _ _ c.loop-rest.invariant.pushing fits)
  where
    fits : length c.loop-rest.self + length c.loop-rest.rest.now ≤ 4096
    fits = search rules
