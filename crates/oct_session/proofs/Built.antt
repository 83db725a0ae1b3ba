-- How a build ends.
use Rattle.std.proofs.Common.{◌≡◌, ℕ, List, true, false, Option, Some, None, IfSome, inl}
use Rattle.std.proofs.Common.{inr, refl, sym, ap, subst, ◌∙◌, arith, Result, Ok, Err, OnOk, OnErr}
use Rattle.oct_bt.specs.File.{bt_text}
use Rattle.oct_io.specs.Taken.{IsCutOff}
use Rattle.oct_tree.specs.Classes.{classes_in}
use Rattle.oct_tree.specs.Tree.{Tree}
use Rattle.oct_io.specs.Files.{Files}
use Rattle.oct_io.specs.Told.{appended, Rose}
use Rattle.oct_io.specs.Counts.{IsWriteCounted}
use Rattle.oct_io.specs.Stops.{status_written}
use Rattle.oct_io.specs.declared.sink.Sink as sink
use Rattle.oct_io.specs.declared.sink.SinkFault.{SinkFault}
use Rattle.oct_io.specs.declared.sink.SinkFault.TheVariants as sink_fault
use Rattle.oct_io.specs.declared.source.Source as source
use Rattle.oct_io.specs.declared.store.Store as store
use Rattle.oct_map.specs.Map.{Map}
use Rattle.oct_io.proofs.Appending.{appended_nil}
use Rattle.oct_session.specs.Building as built
use Rattle.oct_session.specs.Building.{last_state, text_built, build, has_ended, EndsWriting}
use Rattle.oct_session.specs.Building.{HasBuiltAs, RunsOut, IsUnasked}
use Rattle.oct_session.specs.Ending as script
use Rattle.oct_io.specs.Answer.{IsAnswered, answer_of}
use Rattle.oct_session.specs.Ending.{IsReadToEnd}
use Rattle.oct_io.specs.Whole.{IsWhole}
use Rattle.oct_session.specs.FileCommands.{classes_file}
use Rattle.oct_session.specs.Leaving as lent
use Rattle.oct_session.specs.Leaving.{Desk, IsLikeAfter, StandsForSome, RunsScript}
use Rattle.oct_session.specs.Session.{Progress, last_progress, session, ReadsTold}
use Rattle.oct_session.specs.Setup.{Setup}
use Rattle.oct_io.specs.declared.status.Status.{Status}
use Rattle.oct_io.specs.declared.status.Status.TheVariants as status
use Rattle.oct_session.proofs.Loading.{same_file}
use Rattle.oct_session.proofs.Serving.{IsCalm, calm_done, calm_refused}

-- what holds of both statuses of a script that has ended holds of its status
if_ended : (P : Status → Type 0) (ended : Status) → has_ended ended ≡ true → P status.Done
    → P status.Refused → P ended
if_ended P status.Done over done refused = done
if_ended P status.Refused over done refused = refused
if_ended P status.Usage over done refused = cc
if_ended P status.BadFile over done refused = cc
if_ended P status.TooLong over done refused = cc
if_ended P status.ReadFault over done refused = cc
if_ended P status.WriteFault over done refused = cc
if_ended P status.Memory over done refused = cc
if_ended P status.StoreFault over done refused = cc

-- the text of a build whose script has ended
text_of_build : (o : Setup) (files : Option Files) (bytes : List ℕ) (ended : Status)
    → has_ended ended ≡ true → (session o files bytes).status ≡ ended
    → (build o files bytes).text ≡ classes_file (last_state o files bytes)
unfolding build
text_of_build o files bytes ended over same =
    ap (text_built (classes_file (last_state o files bytes))) same
    ∙ if_ended (λ a. text_built (classes_file (last_state o files bytes)) a
    ≡ classes_file (last_state o files bytes)) ended over refl refl

status_of_build : (o : Setup) (files : Option Files) (bytes : List ℕ)
    → (build o files bytes).status ≡ (session o files bytes).status
unfolding build
status_of_build o files bytes = refl

files_of_build : (o : Setup) (files : Option Files) (bytes : List ℕ)
    → (build o files bytes).files ≡ (session o files bytes).files
unfolding build
files_of_build o files bytes = refl

-- what a script that has ended leaves
record HasDone (o : Setup) (files : Option Files) (bytes : List ℕ) (left : Option (List ℕ))
    (d : Desk) (ended : Status) : Type 0 where
  pub same : (session o files bytes).status ≡ ended
  pub end : IsReadToEnd o files bytes left
  pub like : IsLikeAfter o (last_progress o files bytes) d

has_done : (o : Setup) (files : Option Files) (bytes : List ℕ) (left : Option (List ℕ)) (d : Desk)
    (ended : Status) → has_ended ended ≡ true → script.MayEnd o files bytes left None None ended
    → lent.Leaves o files bytes left None None d (Rose 0 0) ended
    → HasDone o files bytes left d ended
has_done o files bytes left d ended over = if_ended
    (λ a. script.MayEnd o files bytes left None None a
    → lent.Leaves o files bytes left None None d (Rose 0 0) a → HasDone o files bytes left d a)
    ended over
    (λ ends leaves. record { same = ends.0.same_status; end = ends.1; like = leaves })
    (λ ends leaves. record { same = ends.0.same_status; end = ends.1; like = leaves })

-- how a build ended, what it left, and that both are of one moment where memory ran out
abbrev HasStopped : Setup → Option Files → List ℕ → Option (List ℕ) → Option (List ℕ)
    → Option (List ℕ) → Desk → Status → Type 0
HasStopped o files bytes left v u d result =
    built.MayEnd o files bytes left v u result × built.Leaves o files bytes left d result
    × (result ≡ status.Memory → RunsOut o files bytes left v u d)

-- a build that has written its file, or a part of it
build_ends : (o : Setup) (files : Option Files) (bytes : List ℕ) (left v u : Option (List ℕ))
    (d : Desk) (ended result : Status) (text : List ℕ) → has_ended ended ≡ true
    → HasDone o files bytes left d ended → text ≡ (build o files bytes).text →
    EndsWriting text v u ended result → HasStopped o files bytes left v u d result
build_ends o files bytes left v u d ended status.WriteFault text over done is writes =
    (record { begun = subst (IsCutOff v u) is writes; end = done.end }, done.like, λ memory. cc)
build_ends o files bytes left v u d ended status.Memory text over done is writes =
    let cut : built.IsCutFile o files bytes left v u =
    record { begun = subst (IsCutOff v u) is writes; end = done.end } in
    (inr cut, inr done.like, λ memory. inr (cut, done.like))
build_ends o files bytes left v u d ended status.Done text over done is writes = (
  (
    record {
      written = writes.1 ∙ ap (appended v) is;
      same_status = status_of_build o files bytes
          ∙ done.same ∙ sym writes.0;
    },
    done.end,
  ),
  done.like,
  λ memory. cc,
)
build_ends o files bytes left v u d ended status.Refused text over done is writes = (
  (
    record {
      written = writes.1 ∙ ap (appended v) is;
      same_status = status_of_build o files bytes
          ∙ done.same ∙ sym writes.0;
    },
    done.end,
  ),
  done.like,
  λ memory. cc,
)
build_ends o files bytes left v u d ended status.Usage text over done is writes =
    let wrong : has_ended status.Usage ≡ true = ap has_ended writes.0 ∙ over in cc
build_ends o files bytes left v u d ended status.BadFile text over done is writes =
    let wrong : has_ended status.BadFile ≡ true = ap has_ended writes.0 ∙ over in cc
build_ends o files bytes left v u d ended status.TooLong text over done is writes =
    let wrong : has_ended status.TooLong ≡ true = ap has_ended writes.0 ∙ over in cc
build_ends o files bytes left v u d ended status.ReadFault text over done is writes =
    let wrong : has_ended status.ReadFault ≡ true = ap has_ended writes.0 ∙ over in cc
build_ends o files bytes left v u d ended status.StoreFault text over done is writes =
    let wrong : has_ended status.StoreFault ≡ true = ap has_ended writes.0 ∙ over in cc

-- how a session ended that tells no one what it replies, and what it left
abbrev EndsSilent : Setup → Option Files → Option (List ℕ) → Option (List ℕ) → Desk → Status
    → Type 0
EndsSilent o files left after d ended =
    IfSome left (λ bytes. ReadsTold o files bytes
    → lent.HasEndedAs o files bytes after None None d (Rose 0 0) ended)

-- how a build ended
abbrev BuildEnds : Setup → Option Files → Option (List ℕ) → Option (List ℕ) → Option (List ℕ)
    → Option (List ℕ) → Desk → Status → Type 0
BuildEnds o files left after v u d result =
    IfSome left (λ bytes. ReadsTold o files bytes
    → HasBuiltAs o files bytes after v u d result)

-- a build that ends so beside its script, which was answered whole where the build was
built_as : (o : Setup) (files : Option Files) (bytes : List ℕ) (left v u : Option (List ℕ))
    (d : Desk) (ended result : Status) → (IsWhole result → IsWhole ended)
    → lent.HasEndedAs o files bytes left None None d (Rose 0 0) ended
    → HasStopped o files bytes left v u d result
    → HasBuiltAs o files bytes left v u d result
built_as o files bytes left v u d ended result whole at ends = record {
  answer = ends.0;
  leaves = ends.1;
  ran_out = ends.2;
  asked = at.asked;
  files_told = λ all. at.files_told (whole all) ∙ sym (files_of_build o files bytes);
}

-- a build whose script has ended
pub written_ends : (o : Setup) (files : Option Files) (left after v u : Option (List ℕ))
    (d : Desk) (ended result : Status) → has_ended ended ≡ true
    → EndsSilent o files left after d ended →
    EndsWriting (bt_text d.map.tree.res (classes_in d.map.tree)) v u ended result
    → BuildEnds o files left after v u d result
written_ends o files None after v u d ended result over served writes = tt
written_ends o files (Some bytes) after v u d ended result over served writes = λ told.
    let at = served told in
    let done = has_done o files bytes after d ended over at.answer at.leaves in
    built_as o files bytes after v u d ended result (λ all. if_ended IsWhole ended over tt tt) at
    (build_ends o files bytes after v u d ended result
    (bt_text d.map.tree.res (classes_in d.map.tree)) over done
    (same_file d.map (last_state o files bytes) done.like.stands
    ∙ sym (text_of_build o files bytes ended over done.same)) writes)

-- nothing is written where the script is too long
answered_long : (o : Setup) (files : Option Files) (bytes : List ℕ) (v u : Option (List ℕ))
    → (session o files bytes).status ≡ status.TooLong → u ≡ v
    → IsAnswered (answer_of (build o files bytes)) v u status.TooLong
unfolding build
answered_long o files bytes v u same unwritten = record {
  written = unwritten ∙ appended_nil v
      ∙ ap (λ s. appended v (text_built (classes_file (last_state o files bytes)) s)) (sym same);
  same_status = same;
}

-- a count that stays at 0 doesn't rise
pub zero_stays : Rose 0 0 → ⊥
zero_stays (inl rose) = omega arith
zero_stays (inr last) = omega (arith, last.0)

-- what a session leaves that runs out of memory, where its sink takes none
calm_memory : (o : Setup) (saved : Option (List ℕ)) (p q : Progress) (told : List ℕ)
    (d : Desk) → lent.HasLeft o saved p q told d (Rose 0 0) status.Memory
    → lent.HasLeft o saved p q told d ⊥ status.Memory
calm_memory o saved p q told d (inl ran) = absurd (zero_stays ran.0)
calm_memory o saved p q told d (inr own) = inr own

calm_between : {o : Setup} {saved : Option (List ℕ)} {p q : Progress}
    {old new : Option (List ℕ)} {d : Desk} (status : Status)
    → ((saved : Option (List ℕ)) (p q : Progress) (told : List ℕ)
    → lent.HasLeft o saved p q told d (Rose 0 0) status
    → lent.HasLeft o saved p q told d ⊥ status)
    → lent.IsHaltedBetween o saved p q old new d (Rose 0 0) status
    → lent.IsHaltedBetween o saved p q old new d ⊥ status
calm_between {o} {saved} {p} {q} status left h = record {
  cut = h.cut;
  has_left = left saved p q h.cut.told h.has_left;
  asked = h.asked;
}

-- a halt of such a session
calm_halted : (o : Setup) (files : Option Files) (bytes : List ℕ) (d : Desk) (status : Status)
    → ((saved : Option (List ℕ)) (p q : Progress) (told : List ℕ)
    → lent.HasLeft o saved p q told d (Rose 0 0) status
    → lent.HasLeft o saved p q told d ⊥ status)
    → lent.IsHaltedIn o files bytes None None d (Rose 0 0) status
    → lent.IsHaltedIn o files bytes None None d ⊥ status
calm_halted o files bytes d status left (inl h) = inl (record {
  before = h.before;
  line = h.line;
  behind = h.behind;
  split = h.split;
  at = calm_between status left h.at;
})
calm_halted o files bytes d status left (inr (within, end)) =
    inr (within, calm_between status left end)

stopped_ends : (o : Setup) (files : Option Files) (bytes : List ℕ) (left v u : Option (List ℕ))
    (d : Desk) (ended : Status) → has_ended ended ≡ false → (ended ≡ status.WriteFault → ⊥)
    → u ≡ v →
    script.MayEnd o files bytes left None None ended
    → lent.Leaves o files bytes left None None d (Rose 0 0) ended
    → HasStopped o files bytes left v u d ended
stopped_ends o files bytes left v u d status.Done going calm unwritten ends leaves = cc
stopped_ends o files bytes left v u d status.Refused going calm unwritten ends leaves = cc
stopped_ends o files bytes left v u d status.Usage going calm unwritten ends leaves = absurd ends
stopped_ends o files bytes left v u d status.BadFile going calm unwritten ends leaves = absurd ends
stopped_ends o files bytes left v u d status.TooLong going calm unwritten ends leaves = (
  (
    answered_long o files bytes v u ends.0.same_status unwritten,
    record { unwritten = unwritten; stopped = ends },
  ),
  leaves,
  λ memory. cc,
)
stopped_ends o files bytes left v u d status.ReadFault going calm unwritten ends leaves =
    (record { unwritten = unwritten; stopped = ends }, leaves, λ memory. cc)
stopped_ends o files bytes left v u d status.WriteFault going calm unwritten ends leaves =
    absurd (calm refl)
stopped_ends o files bytes left v u d status.Memory going calm unwritten ends leaves =
    let stopped : built.IsStopped o files bytes left v u status.Memory =
    record { unwritten = unwritten; stopped = ends } in
    let left_halted = calm_halted o files bytes d status.Memory
    (λ saved p q told. calm_memory o saved p q told d) leaves in
    (inl stopped, inl left_halted, λ memory. inl (stopped, left_halted))
stopped_ends o files bytes left v u d status.StoreFault going calm unwritten ends leaves = (
  record { unwritten = unwritten; stopped = ends },
  calm_halted o files bytes d status.StoreFault (λ saved p q told left. left) leaves,
  λ memory. cc,
)

-- a build whose script hasn't ended
pub unwritten_ends : (o : Setup) (files : Option Files) (left after v u : Option (List ℕ))
    (d : Desk) (ended : Status) → has_ended ended ≡ false → (ended ≡ status.WriteFault → ⊥) → u ≡ v
    → EndsSilent o files left after d ended → BuildEnds o files left after v u d ended
unwritten_ends o files None after v u d ended going calm unwritten served = tt
unwritten_ends o files (Some bytes) after v u d ended going calm unwritten served = λ told.
    let at = served told in
    built_as o files bytes after v u d ended ended (λ all. all) at
    (stopped_ends o files bytes after v u d ended going calm unwritten at.answer at.leaves)

-- the writing of a map's file after a script that has ended, by how it went
by_writing : {T : Type 0} (text : List ℕ) (r : Result T SinkFault) (v u : Option (List ℕ))
    (ended : Status) → has_ended ended ≡ true → OnOk r (u ≡ appended v text)
    → OnErr r (IsCutOff v u text) → EndsWriting text v u ended (status_written ended r)
by_writing text (Ok x) v u ended over written cut =
    if_ended (λ a. EndsWriting text v u a a) ended over (refl, written) (refl, written)
by_writing text (Err sink_fault.Failed) v u ended over written cut = cut
by_writing text (Err sink_fault.Memory) v u ended over written cut = cut

pub writing_ends : {T : Type 0} (m : Map) (tree : Tree) (r : Result T SinkFault)
    (v u : Option (List ℕ)) (ended result : Status) → has_ended ended ≡ true → tree ≡ m.tree
    → result ≡ status_written ended r
    → OnOk r (u ≡ appended v (bt_text tree.res (classes_in tree)))
    → OnErr r (IsCutOff v u (bt_text tree.res (classes_in tree)))
    → EndsWriting (bt_text m.tree.res (classes_in m.tree)) v u ended result
writing_ends m tree r v u ended result over same is written cut =
    subst (λ (t : Tree). EndsWriting (bt_text t.res (classes_in t)) v u ended result) same
    (subst (λ a. EndsWriting (bt_text tree.res (classes_in tree)) v u ended a) (sym is)
    (by_writing (bt_text tree.res (classes_in tree)) r v u ended over written cut))

-- the sink of a build is asked where the script has ended, or memory ran out
by_asking : {T : Type 0} (r : Result T SinkFault) (ended : Status) (same : Type 0)
    → has_ended ended ≡ true → IsUnasked (status_written ended r) same
by_asking (Ok x) ended same over = if_ended (λ a. IsUnasked a same) ended over
    (record { too_long = λ is. cc; unread = λ is. cc; unstored = λ is. cc })
    (record { too_long = λ is. cc; unread = λ is. cc; unstored = λ is. cc })
by_asking (Err sink_fault.Failed) ended same over =
    record { too_long = λ is. cc; unread = λ is. cc; unstored = λ is. cc }
by_asking (Err sink_fault.Memory) ended same over =
    record { too_long = λ is. cc; unread = λ is. cc; unstored = λ is. cc }

pub writing_asks : {T : Type 0} (r : Result T SinkFault) (ended result : Status) (same : Type 0)
    → has_ended ended ≡ true → result ≡ status_written ended r → IsUnasked result same
writing_asks r ended result same over is =
    subst (λ a. IsUnasked a same) (sym is) (by_asking r ended same over)

-- ---- whatever is told

-- a script that has ended, whose file is then written, or a part of it
by_counting : {S K H F T : Type 0} (sources : source.Ghosts S) (sinks : sink.Ghosts K)
    (silent : sink.Ghosts H) (stores : store.Ghosts F) (o : Setup) (m : Map) (s t : S) (x y : K)
    (u v : H) (d e : F) (r : Result T SinkFault) (ended : Status) → IsCalm ended
    → RunsScript sources silent stores o m s t u v d e ended
    → IsWriteCounted r (sinks.faults x) (sinks.faults y) (sinks.shortages x) (sinks.shortages y)
    → RunsScript sources sinks stores o m s t x y d e (status_written ended r)
by_counting sources sinks silent stores o m s t x y u v d e (Ok z) ended calm runs wrote = record {
  stands = runs.stands;
  usage = calm.usage;
  bad_file = calm.bad_file;
  source_counts = runs.source_counts;
  sink_counts = record {
    write_fault = λ is. absurd (calm.written is);
    no_write_fault = λ other. wrote.stays.0;
    memory = λ is. absurd (calm.memory is);
    no_shortage = λ other. wrote.stays.1;
  };
  store_counts = runs.store_counts;
  complete = λ reads writes files memory. calm.whole;
}
by_counting sources sinks silent stores o m s t x y u v d e (Err sink_fault.Failed) ended calm runs
    wrote = record {
      stands = runs.stands;
      usage = λ is. cc;
      bad_file = λ is. cc;
      source_counts = record {
        read_fault = λ is. cc;
        no_read_fault = λ other. runs.source_counts.no_read_fault calm.read;
        few_ends = runs.source_counts.few_ends;
      };
      sink_counts = record {
        write_fault = λ is. (wrote.failed refl).0;
        no_write_fault = λ other. absurd (other refl);
        memory = λ is. cc;
        no_shortage = λ other. (wrote.failed refl).1;
      };
      store_counts = record {
        store_fault = λ is. cc;
        no_store_fault = λ other. runs.store_counts.no_store_fault calm.stored;
      };
      complete = λ reads writes files memory. absurd (writes (wrote.failed refl).0);
    }
by_counting sources sinks silent stores o m s t x y u v d e (Err sink_fault.Memory) ended calm runs
    wrote = record {
      stands = runs.stands;
      usage = λ is. cc;
      bad_file = λ is. cc;
      source_counts = record {
        read_fault = λ is. cc;
        no_read_fault = λ other. runs.source_counts.no_read_fault calm.read;
        few_ends = runs.source_counts.few_ends;
      };
      sink_counts = record {
        write_fault = λ is. cc;
        no_write_fault = λ other. (wrote.memory refl).0;
        memory = λ is. inr (wrote.memory refl).1;
        no_shortage = λ other. absurd (other refl);
      };
      store_counts = record {
        store_fault = λ is. cc;
        no_store_fault = λ other. runs.store_counts.no_store_fault calm.stored;
      };
      complete = λ reads writes files memory. absurd (memory refl);
    }

pub writing_runs : {S K H F T : Type 0} (sources : source.Ghosts S) (sinks : sink.Ghosts K)
    (silent : sink.Ghosts H) (stores : store.Ghosts F) (o : Setup) (m : Map) (s t : S) (x y : K)
    (u v : H) (d e : F) (r : Result T SinkFault) (ended result : Status) → has_ended ended ≡ true
    → result ≡ status_written ended r → RunsScript sources silent stores o m s t u v d e ended
    → IsWriteCounted r (sinks.faults x) (sinks.faults y) (sinks.shortages x) (sinks.shortages y)
    → RunsScript sources sinks stores o m s t x y d e result
writing_runs sources sinks silent stores o m s t x y u v d e r ended result over is runs wrote =
    subst (λ a. RunsScript sources sinks stores o m s t x y d e a) (sym is)
    (by_counting sources sinks silent stores o m s t x y u v d e r ended
    (if_ended IsCalm ended over calm_done calm_refused) runs wrote)

-- or the script hasn't ended, and the sink isn't asked
pub unwritten_runs : {S K H F : Type 0} (sources : source.Ghosts S) (sinks : sink.Ghosts K)
    (silent : sink.Ghosts H) (stores : store.Ghosts F) (o : Setup) (m : Map) (s t : S) (x : K)
    (u v : H) (d e : F) (ended : Status) → ¬ Rose (silent.faults u) (silent.faults v)
    → RunsScript sources silent stores o m s t u v d e ended
    → RunsScript sources sinks stores o m s t x x d e ended
unwritten_runs sources sinks silent stores o m s t x u v d e ended calm runs = record {
  stands = runs.stands;
  usage = runs.usage;
  bad_file = runs.bad_file;
  source_counts = runs.source_counts;
  sink_counts = record {
    write_fault = λ is. absurd (calm (runs.sink_counts.write_fault is));
    no_write_fault = λ other. refl;
    memory = λ is. inl refl;
    no_shortage = λ other. refl;
  };
  store_counts = runs.store_counts;
  complete = λ reads writes files memory. runs.complete reads calm files memory;
}
