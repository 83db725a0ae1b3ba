-- How the calls end that serve a script, whatever store a desk began with.
use Rattle.std.proofs.Common.{◌≡◌, ℕ, ◌+◌, ◌≤◌, List, [], length, take, true, false, Option}
use Rattle.std.proofs.Common.{Some, None, IfSome, Result, Ok, Err, Bool, refl, sym, subst}
use Rattle.std.specs.Prelude.{◌≢◌}
use Rattle.oct_io.specs.FaultCounts.{IsScriptCounted}
use Rattle.oct_io.specs.Files.{Files}
use Rattle.oct_io.specs.Told.{Rose}
use Rattle.oct_map.specs.Map.{Map}
use Rattle.oct_io.specs.Whole.{IsWhole}
use Rattle.oct_io.specs.declared.status.Status.{Status}
use Rattle.oct_io.specs.declared.status.Status.TheVariants as status
use Rattle.oct_io.specs.declared.stop.Stop.{Stop}
use Rattle.oct_io.specs.declared.stop.Stop.TheVariants as stop
use Rattle.oct_io.specs.declared.stop.Stop.TheVariants.{ReadFault}
use Rattle.oct_session.specs.declared.session.Session.{Session}
use Rattle.oct_io.specs.Shelf.{Shelf, shelf}
use Rattle.oct_io.specs.declared.sink.Sink as sink
use Rattle.oct_io.specs.declared.source.Source as source
use Rattle.oct_io.specs.declared.store.Store as store
use Rattle.oct_session.specs.Leaving.{Desk, desk, StandsForSome, HasEndedAs, RunsScript}
use Rattle.oct_session.specs.Moments.{AreCounted}
use Rattle.oct_session.specs.Session.{closed, status_at_end, ReadsTold}
use Rattle.oct_session.specs.Setup.{Setup}
use Rattle.oct_session.specs.Standing.{seated, Takes, StopsIn, Reaches, HaltsAtEnd, Serves}
use Rattle.oct_session.specs.Standing.{Finishes, Ends}
use Rattle.oct_io.specs.Stops.{status_of, IsHalt}
use Rattle.oct_session.proofs.Endings.{known_told, IsNew, IsFirst, serving_start, IsRead}
use Rattle.oct_session.proofs.Endings.{serving_more, ends_read_fault, serving_quit, ends_stop}
use Rattle.oct_session.proofs.Endings.{through_end, ends_last, ends_through}

-- a call that gives up where the input failed
pub stopped_by_source : {H : Type 0} (short : Type 0) (o : Setup) (left after v : Option (List ℕ))
    (d : H → Desk) (s : Session) (taken : ℕ) → after ≡ left → taken ≤ o.max_bytes
    → s.has_quit ≡ false
    → Ends o left after (seated d v) (seated d v) s taken short (status_of ReadFault)
stopped_by_source short o left after v d s taken same few running first files bytes w at known =
    ends_read_fault o files bytes left after w v (d first) s taken same few running at known

-- a call that gives up within what a read gave
pub stopped_in_piece : {H : Type 0} (short : Type 0) (stop : Stop) (o : Setup)
    (buffer piece : List ℕ) (left after v u : Option (List ℕ)) (d e : H → Desk) (s t : Session)
    (taken n room : ℕ) → IsRead o buffer piece left after taken n room
    → StopsIn o (seated d v) (seated e u) s t piece room short stop
    → Ends o left after (seated d v) (seated e u) s taken short (status_of stop)
stopped_in_piece short stop o buffer piece left after v u d e s t taken n room read stops first
    files bytes w at known =
    ends_stop o files bytes buffer piece left after w v u d e first s t taken n room stop read
    stops at known

-- a call that goes on after a read
pub goes_on : {H : Type 0} (o : Setup) (buffer piece : List ℕ) (left after v u : Option (List ℕ))
    (d e : H → Desk) (s t : Session) (taken n room : ℕ)
    → IsRead o buffer piece left after taken n room → (t.has_quit ≡ false → length piece ≤ room) →
    Takes o (seated d v) (seated e u) s t (take room piece) → t.has_quit ≡ false
    → Serves o left after (seated d v) (seated e u) s t taken (taken + n)
goes_on o buffer piece left after v u d e s t taken n room read fits goes running first files bytes
    w at =
    serving_more o files bytes buffer piece left after w v u d e first s t taken n room read
    (fits running) goes at

-- a call that meets a `quit` line in what a read gave
pub quits_in : {H : Type 0} (o : Setup) (buffer piece : List ℕ) (left after v u : Option (List ℕ))
    (d e : H → Desk) (s t : Session) (taken n room : ℕ)
    → IsRead o buffer piece left after taken n room → s.has_quit ≡ false →
    Takes o (seated d v) (seated e u) s t (take room piece) → t.has_quit ≡ true
    → Finishes o left after (seated d v) (seated e u) s t taken
quits_in o buffer piece left after v u d e s t taken n room read running goes quit first files bytes
    w at known =
    serving_quit o files bytes buffer piece left after w v u d e first s t taken n room read
    running quit goes at known

-- a read that gives up, after reads that didn't
pub stopped_in_turn : {H : Type 0} (stop : Stop) (o : Setup)
    (left after end a v u : Option (List ℕ)) (c d e : H → Desk) (s t : Session) (taken x y z : ℕ)
    → y ≡ x → Serves o left after (seated c a) (seated d v) s t 0 taken
    → Ends o after end (seated d v) (seated e u) t taken (Rose y z) (status_of stop)
    → Ends o left end (seated c a) (seated e u) s 0 (Rose x z) (status_of stop)
stopped_in_turn stop o left after end a v u c d e s t taken x y z same goes stops first files bytes
    w at known =
    subst (λ n. HasEndedAs o files bytes end w u (e first) (Rose n z) (status_of stop)) same
    (stops first files bytes w (goes first files bytes w at) known)

-- the answer to the last line, at the end of the input
pub finished_at_end : {H : Type 0} (o : Setup) (left after a v u : Option (List ℕ))
    (c d e : H → Desk) (s t f : Session) (taken : ℕ) → taken ≤ o.max_bytes
    → IfSome after (λ l. l ≡ []) → Serves o left after (seated c a) (seated d v) s t 0 taken
    → Reaches o (seated d v) (seated e u) t f closed
    → Finishes o left after (seated c a) (seated e u) s f 0
finished_at_end o left after a v u c d e s t f taken few none goes answers first files bytes w at
    known =
    through_end o files bytes after w v u d e first t f taken few none answers
    (goes first files bytes w at) known

-- a stop in that answer
pub stopped_at_end : {H : Type 0} (stop : Stop) (o : Setup) (left after a v u : Option (List ℕ))
    (c d e : H → Desk) (s t : Session) (taken x y z : ℕ) → y ≡ x → taken ≤ o.max_bytes
    → IfSome after (λ l. l ≡ []) → Serves o left after (seated c a) (seated d v) s t 0 taken
    → IsHalt stop → HaltsAtEnd o (seated d v) (seated e u) t (Rose y z) (status_of stop)
    → Ends o left after (seated c a) (seated e u) s 0 (Rose x z) (status_of stop)
stopped_at_end stop o left after a v u c d e s t taken x y z same few none goes only halts first
    files bytes w at known =
    subst (λ n. HasEndedAs o files bytes after w u (e first) (Rose n z) (status_of stop)) same
    (ends_last o files bytes after w v u d e first t taken stop few none only halts
    (goes first files bytes w at) known)

-- how a session ends over the files that its store tells, where what it reads of them is told
abbrev pub EndsOver : Setup → Option Files → Option (List ℕ) → Option (List ℕ) → Option (List ℕ)
    → Option (List ℕ) → Desk → Type 0 → Status → Type 0
EndsOver o files left after v u d short status =
    IfSome left (λ bytes. ReadsTold o files bytes
    → HasEndedAs o files bytes after v u d short status)

-- a session that has read its script
pub session_read : {H : Type 0} (short : Type 0) (o : Setup) (files : Option Files)
    (left after v u : Option (List ℕ)) (m : Map) (k : H → Shelf) (e : H → Desk) (first : H)
    (s t : Session) (status : Status) → IsFirst files (k first) → IsNew o m s
    → status ≡ status_at_end t.refused
    → Finishes o left after (seated (λ first. desk m (k first)) v) (seated e u) s t 0
    → EndsOver o files left after v u (e first) short status
session_read short o files None after v u m k e first s t status is new same reads = tt
session_read short o files (Some bytes) after v u m k e first s t status is new same reads = λ told.
    ends_through o files bytes after v u (e first) t status same
    (reads first files bytes v (serving_start o files bytes v m (k first) s is new)
    (known_told o files bytes told))

-- a session that has stopped
pub session_stopped : {short : Type 0} {H : Type 0} (o : Setup) (files : Option Files)
    (left after v u : Option (List ℕ)) (m : Map) (k : H → Shelf) (e : H → Desk) (first : H)
    (s : Session) (stop : Stop) (status : Status) → IsFirst files (k first) → IsNew o m s
    → status ≡ status_of stop
    → Ends o left after (seated (λ first. desk m (k first)) v) (seated e u) s 0 short
    (status_of stop)
    → EndsOver o files left after v u (e first) short status
session_stopped {short} o files None after v u m k e first s stop status is new same stops = tt
session_stopped {short} o files (Some bytes) after v u m k e first s stop status is new same
    stops = λ told.
    subst (λ x. HasEndedAs o files bytes after v u (e first) short x) (sym same)
    (stops first files bytes v (serving_start o files bytes v m (k first) s is new)
    (known_told o files bytes told))

-- the same, of what was lent and has come back
pub ends_back : {K F : Type 0} (ghosts : sink.Ghosts K) (files : F → Option Files) (calls : F → ℕ)
    (o : Setup) (told : Option Files) (left after : Option (List ℕ)) (first : F) (old : K)
    (m n : Map) (s t : F) (x y : K) (status : Status) → m ≡ n → s ≡ t → x ≡ y →
    EndsOver o told left after (ghosts.written old) (ghosts.written x)
    (desk m (shelf files calls first s)) (Rose (ghosts.shortages old) (ghosts.shortages x)) status
    → EndsOver o told left after (ghosts.written old) (ghosts.written y)
    (desk n (shelf files calls first t)) (Rose (ghosts.shortages old) (ghosts.shortages y)) status
ends_back ghosts files calls o told left after first old m n s t x y status map store sinks ends =
    subst (λ a. EndsOver o told left after (ghosts.written old) (ghosts.written y)
    (desk a (shelf files calls first t)) (Rose (ghosts.shortages old) (ghosts.shortages y)) status)
    map
    (subst (λ a. EndsOver o told left after (ghosts.written old) (ghosts.written y)
    (desk m (shelf files calls first a)) (Rose (ghosts.shortages old) (ghosts.shortages y)) status)
    store
    (subst (λ a. EndsOver o told left after (ghosts.written old) (ghosts.written a)
    (desk m (shelf files calls first s)) (Rose (ghosts.shortages old) (ghosts.shortages a)) status)
    sinks ends))

-- ---- whatever is told

-- a status that names no fault, and comes with the whole answer
pub record IsCalm (ended : Status) : Type 0 where
  pub read : ended ≢ status.ReadFault
  pub written : ended ≢ status.WriteFault
  pub memory : ended ≢ status.Memory
  pub stored : ended ≢ status.StoreFault
  pub usage : ended ≢ status.Usage
  pub bad_file : ended ≢ status.BadFile
  pub whole : IsWhole ended

pub calm_done : IsCalm status.Done
calm_done = record {
  read = λ is. cc;
  written = λ is. cc;
  memory = λ is. cc;
  stored = λ is. cc;
  usage = λ is. cc;
  bad_file = λ is. cc;
  whole = tt;
}

pub calm_refused : IsCalm status.Refused
calm_refused = record {
  read = λ is. cc;
  written = λ is. cc;
  memory = λ is. cc;
  stored = λ is. cc;
  usage = λ is. cc;
  bad_file = λ is. cc;
  whole = tt;
}

calm_long : IsCalm status.TooLong
calm_long = record {
  read = λ is. cc;
  written = λ is. cc;
  memory = λ is. cc;
  stored = λ is. cc;
  usage = λ is. cc;
  bad_file = λ is. cc;
  whole = tt;
}

-- a script with such a status, where no count rose
calm_counted : {S K F T : Type 0} (sources : source.Ghosts S) (sinks : sink.Ghosts K)
    (stores : store.Ghosts F) (o : Setup) (m : Map) (s t : S) (x y : K) (d e : F)
    (r : Result T Stop) (ended : Status) → IsCalm ended → StandsForSome o m
    → r ≢ Err stop.ReadFault
    → IsScriptCounted r (sources.faults s) (sources.faults t) (sources.ends s) (sources.ends t)
    → AreCounted None (sinks.faults x) (sinks.faults y) (sinks.shortages x) (sinks.shortages y)
    (stores.faults d) (stores.faults e)
    → RunsScript sources sinks stores o m s t x y d e ended
calm_counted sources sinks stores o m s t x y d e r ended calm stands read input counted =
    record {
      stands = stands;
      usage = calm.usage;
      bad_file = calm.bad_file;
      source_counts = record {
        read_fault = λ is. absurd (calm.read is);
        no_read_fault = λ other. input.no_read_fault read;
        few_ends = input.few_ends;
      };
      sink_counts = record {
        write_fault = λ is. absurd (calm.written is);
        no_write_fault = λ other. counted.0;
        memory = λ is. absurd (calm.memory is);
        no_shortage = λ other. counted.1;
      };
      store_counts = record {
        store_fault = λ is. absurd (calm.stored is);
        no_store_fault = λ other. counted.2;
      };
      complete = λ reads writes files memory. calm.whole;
    }

-- a session that has read its script
pub runs_read : {S K F T : Type 0} (sources : source.Ghosts S) (sinks : sink.Ghosts K)
    (stores : store.Ghosts F) (o : Setup) (m : Map) (s t : S) (x y : K) (d e : F) (v : T)
    (refused : Bool) (ended : Status) → ended ≡ status_at_end refused → StandsForSome o m
    → IsScriptCounted {T = T} (Ok v) (sources.faults s) (sources.faults t) (sources.ends s)
    (sources.ends t)
    → AreCounted None (sinks.faults x) (sinks.faults y) (sinks.shortages x) (sinks.shortages y)
    (stores.faults d) (stores.faults e)
    → RunsScript sources sinks stores o m s t x y d e ended
runs_read sources sinks stores o m s t x y d e v refused ended is stands input counted =
    calm_counted sources sinks stores o m s t x y d e (Ok v) ended
    (subst IsCalm (sym is) (elim refused as (λ b. IsCalm (status_at_end b)) [
      | true ↦ calm_refused
      | false ↦ calm_done
    ])) stands (λ same. cc) input counted

-- or that was stopped
by_stop : {S K F T : Type 0} (sources : source.Ghosts S) (sinks : sink.Ghosts K)
    (stores : store.Ghosts F) (o : Setup) (m : Map) (s t : S) (x y : K) (d e : F) (why : Stop)
    → StandsForSome o m
    → IsScriptCounted {T = T} (Err why) (sources.faults s) (sources.faults t) (sources.ends s)
    (sources.ends t)
    → AreCounted (Some why) (sinks.faults x) (sinks.faults y) (sinks.shortages x)
    (sinks.shortages y) (stores.faults d) (stores.faults e)
    → RunsScript sources sinks stores o m s t x y d e (status_of why)
by_stop {T = T} sources sinks stores o m s t x y d e stop.TooLong stands input counted =
    calm_counted {T = T} sources sinks stores o m s t x y d e (Err stop.TooLong) status.TooLong
    calm_long stands (λ same. cc) input counted
by_stop sources sinks stores o m s t x y d e stop.ReadFault stands input counted = record {
  stands = stands;
  usage = λ is. cc;
  bad_file = λ is. cc;
  source_counts = record {
    read_fault = λ is. input.read_fault refl;
    no_read_fault = λ other. absurd (other refl);
    few_ends = input.few_ends;
  };
  sink_counts = record {
    write_fault = λ is. cc;
    no_write_fault = λ other. counted.0;
    memory = λ is. cc;
    no_shortage = λ other. counted.1;
  };
  store_counts = record { store_fault = λ is. cc; no_store_fault = λ other. counted.2 };
  complete = λ reads writes files memory. absurd (reads (input.read_fault refl));
}
by_stop sources sinks stores o m s t x y d e stop.WriteFault stands input counted = record {
  stands = stands;
  usage = λ is. cc;
  bad_file = λ is. cc;
  source_counts = record {
    read_fault = λ is. cc;
    no_read_fault = λ other. input.no_read_fault (λ same. cc);
    few_ends = input.few_ends;
  };
  sink_counts = record {
    write_fault = λ is. counted.0;
    no_write_fault = λ other. absurd (other refl);
    memory = λ is. cc;
    no_shortage = λ other. counted.1;
  };
  store_counts = record { store_fault = λ is. cc; no_store_fault = λ other. counted.2 };
  complete = λ reads writes files memory. absurd (writes counted.0);
}
by_stop sources sinks stores o m s t x y d e stop.Memory stands input counted = record {
  stands = stands;
  usage = λ is. cc;
  bad_file = λ is. cc;
  source_counts = record {
    read_fault = λ is. cc;
    no_read_fault = λ other. input.no_read_fault (λ same. cc);
    few_ends = input.few_ends;
  };
  sink_counts = record {
    write_fault = λ is. cc;
    no_write_fault = λ other. counted.0;
    memory = λ is. counted.1;
    no_shortage = λ other. absurd (other refl);
  };
  store_counts = record { store_fault = λ is. cc; no_store_fault = λ other. counted.2 };
  complete = λ reads writes files memory. absurd (memory refl);
}
by_stop sources sinks stores o m s t x y d e stop.StoreFault stands input counted = record {
  stands = stands;
  usage = λ is. cc;
  bad_file = λ is. cc;
  source_counts = record {
    read_fault = λ is. cc;
    no_read_fault = λ other. input.no_read_fault (λ same. cc);
    few_ends = input.few_ends;
  };
  sink_counts = record {
    write_fault = λ is. cc;
    no_write_fault = λ other. counted.0;
    memory = λ is. cc;
    no_shortage = λ other. counted.1;
  };
  store_counts = record {
    store_fault = λ is. counted.2;
    no_store_fault = λ other. absurd (other refl);
  };
  complete = λ reads writes files memory. absurd (files counted.2);
}

pub runs_stopped : {S K F T : Type 0} (sources : source.Ghosts S) (sinks : sink.Ghosts K)
    (stores : store.Ghosts F) (o : Setup) (m : Map) (s t : S) (x y : K) (d e : F) (why : Stop)
    (ended : Status) → ended ≡ status_of why → StandsForSome o m
    → IsScriptCounted {T = T} (Err why) (sources.faults s) (sources.faults t) (sources.ends s)
    (sources.ends t)
    → AreCounted (Some why) (sinks.faults x) (sinks.faults y) (sinks.shortages x)
    (sinks.shortages y) (stores.faults d) (stores.faults e)
    → RunsScript sources sinks stores o m s t x y d e ended
runs_stopped sources sinks stores o m s t x y d e why ended is stands input counted =
    subst (λ a. RunsScript sources sinks stores o m s t x y d e a) (sym is)
    (by_stop sources sinks stores o m s t x y d e why stands input counted)

-- the same, of what was lent and has come back
pub runs_back : {S K F : Type 0} (sources : source.Ghosts S) (sinks : sink.Ghosts K)
    (stores : store.Ghosts F) (o : Setup) (m n : Map) (s t : S) (x y z : K) (d e f : F)
    (status : Status) → m ≡ n → y ≡ z → e ≡ f
    → RunsScript sources sinks stores o m s t x y d e status
    → RunsScript sources sinks stores o n s t x z d f status
runs_back sources sinks stores o m n s t x y z d e f status map to files runs =
    subst (λ a. RunsScript sources sinks stores o a s t x z d f status) map
    (subst (λ a. RunsScript sources sinks stores o m s t x a d f status) to
    (subst (λ a. RunsScript sources sinks stores o m s t x y d a status) files runs))
