-- The moves of a session, one after another.
use Rattle.std.proofs.Common.{◌≡◌, ℕ, ◌+◌, ◌<◌, List, [], ◌∷◌, ◌++◌, Option, Some, None}
use Rattle.std.proofs.Common.{inl, inr, refl, sym, ap, subst, ◌∙◌, arith}
use Rattle.std.proofs.Common.{Result, Ok, Err, IsErrAnd, length, false}
use Rattle.std.specs.Prelude.{is_some, option_map}
use Rattle.oct_io.proofs.Appending.{appended_nil}
use Rattle.oct_io.specs.Counts.{IsAskCounted}
use Rattle.oct_io.specs.Stops.{stop_of_sink, stop_of_store, IsHalt}
use Rattle.oct_io.specs.Taken.{IsCutOff}
use Rattle.oct_io.specs.Told.{Rose, appended}
use Rattle.oct_io.specs.declared.sink.Sink as sink
use Rattle.oct_io.specs.declared.sink.SinkFault.{SinkFault}
use Rattle.oct_io.specs.declared.sink.SinkFault.TheVariants as sink_fault
use Rattle.oct_io.specs.declared.stop.Stop.{Stop}
use Rattle.oct_io.specs.declared.stop.Stop.TheVariants as stop
use Rattle.oct_io.specs.declared.store.Store as store
use Rattle.oct_io.specs.declared.store.StoreFault.{StoreFault}
use Rattle.oct_io.specs.declared.store.StoreFault.TheVariants as store_fault
use Rattle.oct_script.specs.Lines.{Line, LineSoFar}
use Rattle.oct_session.specs.Commands.{may_change, command_on}
use Rattle.oct_session.specs.Moments.{Moment, Move, IsCounted, IsDone, Passes, Makes, Answer}
use Rattle.oct_session.specs.Moments.{AnswersTo, Take, stop_in, Answers}
use Rattle.oct_session.specs.Moments.{fault_in, taken_of, seen, HasParsed}
use Rattle.oct_session.specs.Parsed.{command_in}
use Rattle.oct_session.specs.Standing.{HasMoved, HoldsLine, IsShort}
use Rattle.oct_session.specs.Standing.{seated, KeepsStanding}
use Rattle.oct_session.specs.Setup.{Setup}
use Rattle.oct_script.specs.declared.reply.Reply.{Reply}
use Rattle.oct_session.specs.declared.context.Context.{Context}
use Rattle.oct_session.specs.declared.lines.Parsed.{Parsed}
use Rattle.oct_session.specs.declared.scan_block.ScanBlock.{ScanBlock}
use Rattle.oct_session.specs.declared.session.Session.{Session}
use Rattle.oct_session.proofs.Effects.{WorksAt}
use Rattle.oct_session.proofs.Idle.{idle_unasked}
use Rattle.oct_session.proofs.Holding.{adds_more, rose_since, held_moved, held_more, IsClearNext}
use Rattle.oct_session.proofs.Holding.{halted_before_line, halted_behind_line, halted_with_failed}
use Rattle.oct_session.proofs.Holding.{halted_by_failed}
use Rattle.oct_session.proofs.HeldPieces.{fed_more, fed_halted}
use Rattle.oct_session.proofs.Pieces.{IsBeside}

-- ---- what holds of every call

-- counts of faults over two calls, of which the first went well
counted_join : {F : Type 0} (a b c : Moment F) (how : Option Stop) → IsCounted a b None
    → IsCounted b c how → IsCounted a c how
counted_join a b c None p q = (q.0 ∙ p.0, q.1 ∙ p.1, q.2 ∙ p.2)
counted_join a b c (Some stop.TooLong) p q = (q.0 ∙ p.0, q.1 ∙ p.1, q.2 ∙ p.2)
counted_join a b c (Some stop.ReadFault) p q = (q.0 ∙ p.0, q.1 ∙ p.1, q.2 ∙ p.2)
counted_join a b c (Some stop.WriteFault) p q =
    (rose_since _ _ _ p.0 q.0, q.1 ∙ p.1, q.2 ∙ p.2)
counted_join a b c (Some stop.Memory) p q = (
  q.0 ∙ p.0,
  elim q.1 [
    | inl x ↦ inl (x ∙ p.1)
    | inr x ↦ inr (rose_since _ _ _ p.1 x)
  ],
  q.2 ∙ p.2,
)
counted_join a b c (Some stop.StoreFault) p q =
    (q.0 ∙ p.0, q.1 ∙ p.1, rose_since _ _ _ p.2 q.2)

-- one call, and then another one
pub done_join : {F : Type 0} (a b c : Moment F) (how : Option Stop) → IsDone a b None
    → IsDone b c how → IsDone a c how
done_join a b c how p q = record {
  map_name = q.map_name ∙ p.map_name;
  store_name = q.store_name ∙ p.store_name;
  sink_name = q.sink_name ∙ p.sink_name;
  adds = adds_more _ _ _ p.adds q.adds;
  stands = λ o some. q.stands o (p.stands o some);
  counted = counted_join a b c how p.counted q.counted;
}

-- no call at all
pub done_none : {F : Type 0} (a : Moment F) → IsDone a a None
done_none a = record {
  map_name = refl;
  store_name = refl;
  sink_name = refl;
  adds = ([], appended_nil a.written);
  stands = λ o some. some;
  counted = (refl, refl, refl);
}

-- a stop that is handed on
pub makes_on : {F T : Type 0} (r : Result T Stop) (why : Stop) (move : Move) (a b : Moment F)
    → IsErrAnd r (λ e. e ≡ why) → Makes move a b (Some why) → Makes move a b (stop_in r)
makes_on (Ok x) why move a b is p = absurd is
makes_on (Err e) why move a b is p = subst (λ x. Makes move a b (Some x)) (sym is) p

pub takes_on : {F : Type 0} (r : Result ℕ Stop) (why : Stop) (piece : List ℕ) (a b : Moment F)
    → IsErrAnd r (λ e. e ≡ why) → Makes (Take piece) a b (Some why)
    → Makes (Take (taken_of r piece)) a b (stop_in r)
takes_on (Ok x) why piece a b is p = absurd is
takes_on (Err e) why piece a b is p = subst (λ x. Makes (Take piece) a b (Some x)) (sym is) p

pub answers_on : {F T : Type 0} (r : Result T StoreFault) (own : StoreFault) (line : Line)
    (a b : Moment F) → IsErrAnd r (λ e. e ≡ own) → Answers line a b (Some own)
    → Answers line a b (fault_in r)
answers_on (Ok x) own line a b is p = absurd is
answers_on (Err e) own line a b is p = subst (λ x. Answers line a b (Some x)) (sym is) p

-- ---- the sink

-- the same moment of another session, and over another sink
abbrev pub other : {K F : Type 0} → sink.Ghosts K → K → Session → Moment F → Moment F
other K sink session m = record m {
  written = K.written sink;
  sink_faults = K.faults sink;
  shortages = K.shortages sink;
  session = session;
}

pub halts_sink : (fault : SinkFault) → IsHalt (stop_of_sink fault)
halts_sink sink_fault.Failed = tt
halts_sink sink_fault.Memory = tt

halts_store : (fault : StoreFault) → IsHalt (stop_of_store fault)
halts_store store_fault.Failed = tt
halts_store store_fault.Memory = tt

-- what was held was written, or stays
counted_passed : {K F T : Type 0} (ghosts : sink.Ghosts K) (m : Moment F) (x y : K) (s t : Session)
    (held rest : List ℕ) (r : Result T SinkFault) → Passes ghosts x y held rest r
    → IsCounted (other ghosts x s m) (other ghosts y t m) (option_map stop_of_sink (fault_in r))
counted_passed ghosts m x y s t held rest (Ok i) p =
    (p.counts.stays.0, p.counts.stays.1, refl)
counted_passed ghosts m x y s t held rest (Err sink_fault.Failed) p =
    ((p.counts.failed refl).0, (p.counts.failed refl).1, refl)
counted_passed ghosts m x y s t held rest (Err sink_fault.Memory) p =
    ((p.counts.memory refl).0, inr (p.counts.memory refl).1, refl)

pub done_passed : {K F T : Type 0} (ghosts : sink.Ghosts K) (m : Moment F) (x y : K) (s t : Session)
    (held rest : List ℕ) (r : Result T SinkFault) → Passes ghosts x y held rest r
    → IsDone (other ghosts x s m) (other ghosts y t m) (option_map stop_of_sink (fault_in r))
done_passed ghosts m x y s t held rest r p = record {
  map_name = refl;
  store_name = refl;
  sink_name = refl;
  adds = p.adds;
  stands = λ o some. some;
  counted = counted_passed ghosts m x y s t held rest r p;
}

-- a sink that ran out of memory ran short of it
pub ran_short : {K T : Type 0} (ghosts : sink.Ghosts K) (x y : K) (held rest : List ℕ)
    (fault : SinkFault) → Passes {K = K} {T = T} ghosts x y held rest (Err fault)
    → IsShort fault (Rose (ghosts.shortages x) (ghosts.shortages y))
ran_short ghosts x y held rest fault p = λ e. (p.counts.memory (ap Err e)).1

-- ---- a line

-- what is held before a line can't be written
pub line_unwritten : {K F T : Type 0} (ghosts : sink.Ghosts K) (m : Moment F) (x y : K)
    (s t : Session) (line : Line) (fault : SinkFault)
    → Passes {K = K} {T = T} ghosts x y s.text.items t.text.items (Err fault)
    → Makes (Answer line) (other ghosts x s m) (other ghosts y t m) (Some (stop_of_sink fault))
line_unwritten ghosts m x y s t line fault p = record {
  done = done_passed ghosts m x y s t _ _ (Err fault) p;
  to = (
    halts_sink fault,
    λ o. halted_before_line fault o _ _ m.desk s line p.cut (ran_short ghosts x y _ _ fault p),
  );
}

-- a line that is answered behind what is held
line_more : {K F T : Type 0} (ghosts : sink.Ghosts K) (m n : Moment F) (x y z : K)
    (s f u : Session) (line : Line) (i : T) (o : Setup) → s.has_quit ≡ false → IsBeside f s
    → Passes ghosts x y s.text.items f.text.items (Ok i)
    → IsClearNext f.text.items f.block (f.line_count + 1) line
    → Answers line (other ghosts y f m) (other ghosts z u n) None
    → HoldsLine o (seated m.desk (ghosts.written x)) (seated n.desk (ghosts.written y)) s u line
line_more ghosts m n x y z s f u line i o running beside way clear two =
    held_more o _ _ m.desk n.desk s f u line running beside way.moved clear (two.to.1 o)

-- its reply is held, with few others
pub line_held : {K F T U : Type 0} (ghosts : sink.Ghosts K) (m n : Moment F) (x y z w : K)
    (s f u t : Session) (line : Line) (i : T) (j : U) → s.has_quit ≡ false → IsBeside f s
    → IsBeside t u → Passes ghosts x y s.text.items f.text.items (Ok i)
    → IsClearNext f.text.items f.block (f.line_count + 1) line
    → Answers line (other ghosts y f m) (other ghosts z u n) None
    → Passes ghosts z w u.text.items t.text.items (Ok j) → length t.text.items < 4096
    → Makes (Answer line) (other ghosts x s m) (other ghosts w t n) None
line_held ghosts m n x y z w s f u t line i j running beside behind way clear two hold few =
    record {
      done = done_join (other ghosts x s m) (other ghosts y f m) (other ghosts w t n) None
          (done_passed ghosts m x y s f _ _ (Ok i) way)
          (done_join (other ghosts y f m) (other ghosts z u n) (other ghosts w t n) None two.done
          (done_passed ghosts n z w u t _ _ (Ok j) hold));
      to = (
        λ more room. record {
          held = few;
          few = omega (arith, room.few, behind.counted, two.to.0, beside.counted);
        },
        λ o first files lines v known at. held_moved o files (lines ++ line ∷ []) v _ _ _ u t behind
            (subst (λ a. HasMoved a (ghosts.written w) u.text.items t.text.items) two.unwritten
            hold.moved)
            (line_more ghosts m n x y z s f u line i o running beside way clear two first files
            lines v known at),
      );
    }

-- what is held behind a line can't be written
pub line_unheld : {K F T U : Type 0} (ghosts : sink.Ghosts K) (m n : Moment F) (x y z w : K)
    (s f u t : Session) (line : Line) (i : T) (fault : SinkFault) → s.has_quit ≡ false
    → IsBeside f s → Passes ghosts x y s.text.items f.text.items (Ok i)
    → IsClearNext f.text.items f.block (f.line_count + 1) line
    → Answers line (other ghosts y f m) (other ghosts z u n) None
    → Passes {K = K} {T = U} ghosts z w u.text.items t.text.items (Err fault)
    → Makes (Answer line) (other ghosts x s m) (other ghosts w t n) (Some (stop_of_sink fault))
line_unheld ghosts m n x y z w s f u t line i fault running beside way clear two hold = record {
  done = done_join (other ghosts x s m) (other ghosts y f m) (other ghosts w t n) _
      (done_passed ghosts m x y s f _ _ (Ok i) way)
      (done_join (other ghosts y f m) (other ghosts z u n) (other ghosts w t n) _ two.done
      (done_passed ghosts n z w u t _ _ (Err fault) hold));
  to = (
    halts_sink fault,
    λ o. halted_behind_line fault o _ _ _ m.desk n.desk s u line
        (subst (λ a. IsCutOff a (ghosts.written w) u.text.items) two.unwritten hold.cut)
        (λ e. rose_since _ _ _ (two.shortages ∙ way.counts.stays.1)
        (ran_short ghosts z w _ _ fault hold e))
        (line_more ghosts m n x y z s f u line i o running beside way clear two),
  );
}

-- the sink doesn't fail where a line does
sink_kept : {F : Type 0} (a b : Moment F) (own : StoreFault)
    → IsCounted a b (Some (stop_of_store own)) → b.sink_faults ≡ a.sink_faults
sink_kept a b store_fault.Failed p = p.0
sink_kept a b store_fault.Memory p = p.0

-- nor the store, before a line that is answered behind what is held
store_kept : {F : Type 0} (line : Line) (a b : Moment F) (own : StoreFault) (held : List ℕ) (k : ℕ)
    → Answers line a b (Some own) → k < length held → held ≡ a.session.text.items
    → IsClearNext a.session.text.items a.session.block (a.session.line_count + 1) line
    → b.store_faults ≡ a.store_faults
store_kept line a b own held k two less same (inl none) =
    absurd (omega (arith, less, ap length (same ∙ none)))
store_kept line a b own held k two less same (inr idle) = two.unasked idle

-- a line failed, and what is held can't be written
pub failed_unwritten : {K F T U : Type 0} (ghosts : sink.Ghosts K) (m n : Moment F) (x y z w : K)
    (s f u t : Session) (line : Line) (i : T) (own : StoreFault) (fault : SinkFault)
    → s.has_quit ≡ false → IsBeside f s → Passes ghosts x y s.text.items f.text.items (Ok i)
    → IsClearNext f.text.items f.block (f.line_count + 1) line
    → Answers line (other ghosts y f m) (other ghosts z u n) (Some own)
    → Passes {K = K} {T = U} ghosts z w u.text.items t.text.items (Err fault)
    → Makes (Answer line) (other ghosts x s m) (other ghosts w t n) (Some (stop_of_sink fault))
failed_unwritten ghosts m n x y z w s f u t line i own fault running beside way clear two flush =
    let quiet : IsDone (other ghosts y f m) (other ghosts z u n) None = record {
      map_name = two.done.map_name;
      store_name = two.done.store_name;
      sink_name = two.done.sink_name;
      adds = two.done.adds;
      stands = two.done.stands;
      counted = (
        sink_kept (other ghosts y f m) (other ghosts z u n) own two.done.counted,
        two.shortages,
        store_kept line (other ghosts y f m) (other ghosts z u n) own u.text.items flush.cut.0 two
            flush.cut.1 two.to.0 clear,
      );
    } in
    record {
      done = done_join (other ghosts x s m) (other ghosts y f m) (other ghosts w t n) _
          (done_passed ghosts m x y s f _ _ (Ok i) way)
          (done_join (other ghosts y f m) (other ghosts z u n) (other ghosts w t n) _ quiet
          (done_passed ghosts n z w u t _ _ (Err fault) flush));
      to = (
        halts_sink fault,
        λ o. halted_with_failed fault own o _ _ _ m.desk n.desk s f line u.text.items running
            beside way.moved two.to.0
            (subst (λ a. IsCutOff a (ghosts.written w) u.text.items) two.unwritten flush.cut)
            (λ e. rose_since _ _ _ (two.shortages ∙ way.counts.stays.1)
            (ran_short ghosts z w _ _ fault flush e))
            clear (two.to.1 o),
      );
    }

-- counts of a call that asks the store, and fails
pub counted_failed : {F T : Type 0} (a b : Moment F) (own : StoreFault)
    → b.sink_faults ≡ a.sink_faults → b.shortages ≡ a.shortages
    → IsAskCounted {T = T} (Err own) a.store_faults b.store_faults
    → IsCounted a b (Some (stop_of_store own))
counted_failed a b store_fault.Failed written ran asked = (written, ran, asked.failed refl)
counted_failed a b store_fault.Memory written ran asked = (written, inl ran, asked.memory refl)

-- a call that answers a line lies beside the sink
pub record IsBesideSink {F : Type 0} (line : Line) (a b : Moment F) : Type 0 where
  pub map_name : b.map_name ≡ a.map_name
  pub store_name : b.store_name ≡ a.store_name
  pub sink_name : b.sink_name ≡ a.sink_name
  pub written : b.written ≡ a.written
  pub stands : KeepsStanding a.map b.map
  pub sink_faults : b.sink_faults ≡ a.sink_faults
  pub shortages : b.shortages ≡ a.shortages
  pub unasked : may_change (command_on (is_some a.session.block) (a.session.line_count + 1) line)
      ≡ false → b.store_faults ≡ a.store_faults
  pub same : b.session.line ≡ a.session.line

-- so it does where it does the line in its context
pub beside_sink : {K F T : Type 0} (sinks : sink.Ghosts K) (stores : store.Ghosts F)
    (d e : Context K F) (s t : Session) (line : Line) (parsed : Parsed) (block : Option ScanBlock)
    (r : Result T StoreFault) (a : Option Reply) → HasParsed s line parsed
    → WorksAt stores parsed.number line (command_in parsed) s.block block d e r a
    → t.line ≡ s.line → IsBesideSink line (seen sinks stores d s) (seen sinks stores e t)
beside_sink sinks stores d e s t line parsed block r a read w same = record {
  map_name = w.map_name;
  store_name = w.store_name;
  sink_name = w.sink_name;
  written = ap sinks.written w.sink;
  stands = w.stands;
  sink_faults = ap sinks.faults w.sink;
  shortages = ap sinks.shortages w.sink;
  unasked = λ idle. ap stores.faults (w.asks.unasked (idle_unasked _ _ read.read idle));
  same = same;
}

-- a line that was done
pub answers_told : {F : Type 0} (line : Line) (a b : Moment F) → IsBesideSink line a b
    → b.store_faults ≡ a.store_faults → AnswersTo line a b None → Answers line a b None
answers_told line a b beside asked to = record {
  done = record {
    map_name = beside.map_name;
    store_name = beside.store_name;
    sink_name = beside.sink_name;
    adds = ([], beside.written ∙ appended_nil a.written);
    stands = beside.stands;
    counted = (beside.sink_faults, beside.shortages, asked);
  };
  unwritten = beside.written;
  shortages = beside.shortages;
  unasked = beside.unasked;
  same = beside.same;
  to = to;
}

-- a line that the store failed, or memory
pub answers_failed : {F T U : Type 0} (r : Result T StoreFault) (own : StoreFault) (line : Line)
    (a b : Moment F) → IsErrAnd r (λ e. e ≡ own) → IsBesideSink line a b
    → IsAskCounted {T = U} (Err own) a.store_faults b.store_faults → AnswersTo line a b (Some own)
    → Answers line a b (fault_in r)
answers_failed r own line a b is beside asked to = answers_on r own line a b is (record {
  done = record {
    map_name = beside.map_name;
    store_name = beside.store_name;
    sink_name = beside.sink_name;
    adds = ([], beside.written ∙ appended_nil a.written);
    stands = beside.stands;
    counted = counted_failed a b own beside.sink_faults beside.shortages asked;
  };
  unwritten = beside.written;
  shortages = beside.shortages;
  unasked = beside.unasked;
  same = beside.same;
  to = to;
})

-- counts of faults over two calls, of which the second went well
counted_after : {F : Type 0} (a b c : Moment F) (own : StoreFault)
    → IsCounted a b (Some (stop_of_store own)) → IsCounted b c None
    → IsCounted a c (Some (stop_of_store own))
counted_after a b c store_fault.Failed p q =
    (q.0 ∙ p.0, q.1 ∙ p.1, subst (λ n. Rose a.store_faults n) (sym q.2) p.2)
counted_after a b c store_fault.Memory p q = (
  q.0 ∙ p.0,
  elim p.1 [
    | inl x ↦ inl (q.1 ∙ x)
    | inr x ↦ inr (subst (λ n. Rose a.shortages n) (sym q.1) x)
  ],
  q.2 ∙ p.2,
)

done_after : {F : Type 0} (a b c : Moment F) (own : StoreFault)
    → IsDone a b (Some (stop_of_store own)) → IsDone b c None
    → IsDone a c (Some (stop_of_store own))
done_after a b c own p q = record {
  map_name = q.map_name ∙ p.map_name;
  store_name = q.store_name ∙ p.store_name;
  sink_name = q.sink_name ∙ p.sink_name;
  adds = adds_more _ _ _ p.adds q.adds;
  stands = λ o some. q.stands o (p.stands o some);
  counted = counted_after a b c own p.counted q.counted;
}

-- the writing of all that is held, where all was written or nothing was held
pub all_written : (old new : Option (List ℕ)) (held rest : List ℕ) → HasMoved old new held rest
    → rest ≡ [] → new ≡ appended old held
all_written old new held rest (inl (same, kept)) none =
    same ∙ appended_nil old ∙ ap (appended old) (sym none ∙ kept)
all_written old new held rest (inr (wrote, empty)) none = wrote

-- a line failed, and all that was held is written
pub line_failed : {K F T U : Type 0} (ghosts : sink.Ghosts K) (m n : Moment F) (x y z w : K)
    (s f u t : Session) (line : Line) (i : T) (j : U) (own : StoreFault) (why : Stop)
    → why ≡ stop_of_store own → s.has_quit ≡ false → IsBeside f s
    → Passes ghosts x y s.text.items f.text.items (Ok i)
    → Answers line (other ghosts y f m) (other ghosts z u n) (Some own)
    → Passes ghosts z w u.text.items t.text.items (Ok j) → t.text.items ≡ []
    → Makes (Answer line) (other ghosts x s m) (other ghosts w t n) (Some why)
line_failed ghosts m n x y z w s f u t line i j own why is running beside way two flush none =
    subst (λ a. Makes (Answer line) (other ghosts x s m) (other ghosts w t n) (Some a)) (sym is)
    (record {
      done = done_join (other ghosts x s m) (other ghosts y f m) (other ghosts w t n) _
          (done_passed ghosts m x y s f _ _ (Ok i) way)
          (done_after (other ghosts y f m) (other ghosts z u n) (other ghosts w t n) own two.done
          (done_passed ghosts n z w u t _ _ (Ok j) flush));
      to = (
        halts_store own,
        λ o. halted_by_failed own o _ _ _ m.desk n.desk s f line u.text.items running beside
            way.moved two.to.0
            (subst (λ a. ghosts.written w ≡ appended a u.text.items) two.unwritten
            (all_written _ _ _ _ flush.moved none)) (two.to.1 o),
      );
    })

-- the same moment of another session
abbrev pub of_session : {F : Type 0} → Session → Moment F → Moment F
of_session s m = record m { session = s }

-- a session with the same replies, as many lines and the same block, which reads another line
pub record IsSame (f s : Session) : Type 0 where
  pub beside : IsBeside f s
  pub text : f.text.items ≡ s.text.items

-- counts of faults don't read the session
counted_same : {F : Type 0} (m b : Moment F) (f : Session) (how : Option Stop)
    → IsCounted (of_session f m) b how → IsCounted m b how
counted_same m b f None p = p
counted_same m b f (Some stop.TooLong) p = p
counted_same m b f (Some stop.ReadFault) p = p
counted_same m b f (Some stop.WriteFault) p = p
counted_same m b f (Some stop.Memory) p = p
counted_same m b f (Some stop.StoreFault) p = p

-- what was done was done of a session that reads another line
pub done_same : {F : Type 0} (m b : Moment F) (f : Session) (how : Option Stop)
    → IsDone (of_session f m) b how → IsDone m b how
done_same m b f how p = record {
  map_name = p.map_name;
  store_name = p.store_name;
  sink_name = p.sink_name;
  adds = p.adds;
  stands = p.stands;
  counted = counted_same m b f how p.counted;
}

-- a line that was fed, answered by a session that has begun the next one
pub fed : {F : Type 0} (m b : Moment F) (l : LineSoFar) (line : Line) (how : Option Stop)
    → line ≡ m.session.line.line
    → Makes (Answer line) (of_session (record m.session { line = l }) m) b how
    → Makes (Answer m.session.line.line) m b how
fed m b l line None is p =
    let f : Session = record m.session { line = l } in
    record {
      done = done_same m b f None p.done;
      to = (
        λ more room. p.to.0 more (record { held = room.held; few = room.few }),
        λ o. fed_more o _ _ m.desk b.desk m.session f b.session line is
            (record { counted = refl; block = refl; refused = refl; has_quit = refl; tally = refl })
            refl (p.to.1 o),
      );
    }
fed m b l line (Some why) is p =
    let f : Session = record m.session { line = l } in
    record {
      done = done_same m b f (Some why) p.done;
      to = (
        p.to.0,
        λ o. fed_halted why o _ _ m.desk b.desk m.session f line is
            (record { counted = refl; block = refl; refused = refl; has_quit = refl; tally = refl })
            refl (p.to.1 o),
      );
    }
